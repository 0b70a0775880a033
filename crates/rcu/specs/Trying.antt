-- What a call tells that tries again and again.
use Rattle.std.specs.Prelude.{◌≡◌, ◌++◌, List, [], ◌∷◌}
use Rattle.live_log.specs.Log.{Begins}
use Rattle.rcu_hash.specs.live_read.Hearing.{OnlyHears, Stays}
use Rattle.rcu_hash.specs.live_read.declared.caller.Caller.{Ghosts}
use Rattle.rcu_hash.specs.live_rule.declared.rights.RecordRight.{RecordRight}
use Rattle.rcu_hash.specs.live_rule.declared.view.Look.{Look}
use Rattle.rcu_hash.specs.live_rule.declared.view.Sizes.{Sizes}
use Rattle.rcu_hash.specs.live_rule.Rights.{cell_in, object_in}
use Rattle.rcu_hash.specs.live_write.Searching.{GetsNoRecord, TakesRecord}
use Rattle.rcu_hash.specs.Writers.{Each}

-- The caller stands as it stood, and has heard of no less. All that was found for it before is still there.
abbrev pub StaysOn : {W S : Type 0} → Ghosts W S → W → W → Type 0
StaysOn w old new = Stays w old new × Begins (w.heard old) (w.heard new) × ((found : List Look) × (w.looks new ≡ found ++ w.looks old))

-- Nothing was done or found for the caller, which has heard of no less.
abbrev pub HearsOn : {W S : Type 0} → Ghosts W S → W → W → Type 0
HearsOn w old new = OnlyHears w old new × Begins (w.heard old) (w.heard new)

-- all that these tries found, the last one first
abbrev pub all_found : List (List Look) → List Look
all_found [] = []
all_found (found ∷ tries) = found ++ all_found tries

-- The last one of a call's tries took the record with this right, and each try before it got none. So the call took no
-- other record, and what the tries found is all that was found for the caller.
pub record TakesAtLast {W S : Type 0} (w : Ghosts W S) (key : Sizes) (old new : W) (x : RecordRight) : Type 0 where
  pub tries : List (List Look)
  pub vain : Each (GetsNoRecord key) tries
  pub found : List Look
  pub looks : w.looks new ≡ found ++ (all_found tries ++ w.looks old)
  pub took : TakesRecord key (cell_in x) (object_in x).0 found

-- What a walk through a whole list tells.
use Rattle.std.specs.Prelude.{◌≡◌, ◌≢◌, ◌⊎◌, ℕ, ◌+◌, ◌==◌, if◌then◌else◌, List, [], ◌∷◌, Some, None}
use Rattle.std.specs.List.{FoldsTo}
use Rattle.gp_memb.specs.declared.plan.GracePlan as plan
use Rattle.rcu_model.specs.Sets.{In}
use Rattle.live_log.specs.Log.{Log}
use Rattle.domain.specs.live_read.Holding.{log_of}
use Rattle.domain.specs.live_read.declared.reader_core.ReaderCore.{ReaderCore}
use Rattle.rcu_list.specs.Maps.{AnswersBetween}

-- how often a key was met
abbrev pub times : ℕ → List (ℕ × ℕ) → ℕ
times key [] = 0
times key (e ∷ es) = if e.0 == key then times key es + 1 else times key es

-- A walk that had seen and heard of these logs, and has seen the new one at its end, met these keys with their values,
-- of those that it is after. The key had each value in some log between; and a key that was not met exactly once had
-- none in some log between.
pub record GoesThrough (wanted : ℕ → Type 0) (seen heard new : Log) (c : ℕ) (met : List (ℕ × ℕ)) : Type 0 where
  pub is_wanted : (key value : ℕ) → In met (key, value) → wanted key
  pub had : (key value : ℕ) → In met (key, value) → AnswersBetween seen heard new c key (Some value)
  pub lacked : (key : ℕ) → wanted key → times key met ≢ 1 → AnswersBetween seen heard new c key None

-- a call was made with an entry whose key is wanted, and none with another
abbrev pub Meets : {F : Type 0} → (ℕ → Type 0) → (F → ℕ × ℕ → F → Type 0) → ℕ × ℕ → F → F → Type 0
Meets wanted called entry f g = (wanted entry.0 × called f entry g) ⊎ ((¬ wanted entry.0) × (g ≡ f))

-- a reader went through a chain, and a call was made with each entry that it met, of those that it is after
abbrev pub Visits : {F P K : Type 0} {g : plan.Ghosts P} → (F → ℕ × ℕ → F → Type 0) → F → F → (ℕ → Type 0) → ReaderCore P K g → ReaderCore P K g → ℕ → Type 0
Visits called visit visit' wanted r r' c = (met : List (ℕ × ℕ)) × GoesThrough wanted (log_of r) r.seat.me.0.heard (log_of r') c met × FoldsTo called visit met visit'

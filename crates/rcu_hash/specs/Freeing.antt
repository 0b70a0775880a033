-- What a call did with the records that it took.
use Rattle.std.specs.Prelude.{◌≡◌, ◌≢◌, ◌⊎◌, ℕ, ◌++◌, List, [], ◌∷◌, Result, IfErr, IfOk, length}
use Rattle.rcu_model.specs.Sets.{In}
use Rattle.rcu_model.specs.declared.refusal.Refusal.{Refusal}
use Rattle.rcu_model.specs.declared.refusal.Refusal.TheVariants.{PoolFull}
use Rattle.live_log.specs.Log.{Begins, Log}
use Rattle.rcu_list.specs.live_rule.Objects.{IsFreeWord}
use Rattle.rcu_list.specs.live_rule.Places.{cell_at}
use Rattle.rcu_list.specs.live_rule.declared.view.Look.{Look}
use Rattle.rcu_list.specs.live_rule.declared.view.Sizes.{Sizes}
use Rattle.rcu_list.specs.live_rule.Steps.{stores_in}
use Rattle.rcu_list.specs.live_read.Hearing.{Stays}
use Rattle.rcu_list.specs.live_read.declared.caller.Caller.{Ghosts}
use Rattle.rcu_list.specs.live_write.Searching.{AreTaken}

-- of stores, the last one first: none was made at this place, or the last one there was of a free record's header
abbrev pub IsLeftFree : ℕ → List (ℕ × ℕ) → Type 0
IsLeftFree place [] = Unit {0}
IsLeftFree place (s ∷ stores) = ((s.0 ≡ place) × IsFreeWord s.1) ⊎ ((s.0 ≢ place) × IsLeftFree place stores)

-- each record that was taken is free again: its header was left so
abbrev pub FreesAll : Sizes → List Look → Type 0
FreesAll key found = (i : ℕ) → IsLeftFree (cell_at key i 0) (stores_in found)

-- but for these, perhaps
abbrev pub FreesAllBut : Sizes → List ℕ → List Look → Type 0
FreesAllBut key kept found = (i : ℕ) → In kept i ⊎ IsLeftFree (cell_at key i 0) (stores_in found)

-- A call, or a part of one, that made no change: it heard, looked, and loaded these logs. Each record that it took is
-- free again but these, perhaps.
pub record Looked {W S : Type 0} (w : Ghosts W S) (key : Sizes) (kept : List ℕ) (logs : List Log) (old new : W) : Type 0 where
  pub stays : Stays w old new
  pub heard : Begins (w.heard old) (w.heard new)
  pub loads : w.loads new ≡ logs ++ w.loads old
  pub found : List Look
  pub looks : w.looks new ≡ found ++ w.looks old
  pub freed : FreesAllBut key kept found

-- it is refused: the pool was full, if that is why
abbrev pub GivesUp : {W S : Type 0} → Ghosts W S → Sizes → List ℕ → List Log → Refusal → W → W → Type 0
GivesUp w key kept logs e old new = (l : Looked w key kept logs old new) × (e ≡ PoolFull → AreTaken key l.found)

-- in a call that is refused, and kept the first of these records before, it keeps no others than the second ones
abbrev pub Undoes : {W S : Type 0} → Ghosts W S → Sizes → (before kept : List ℕ) → W → W → Type 0
Undoes {W} w key before kept old new = (start : W) (logs : List Log) (e : Refusal) → GivesUp w key before logs e start old → (all : List Log) × GivesUp w key kept all e start new

-- this many records, at most, were taken and not freed
abbrev pub KeepsMany : Sizes → ℕ → List Look → Type 0
KeepsMany key many found = (kept : List ℕ) × (length kept ≡ many) × FreesAllBut key kept found

-- a call is refused: the pool was full, if that is why; and it keeps no record
abbrev pub KeepsNone : Sizes → Refusal → List Look → Type 0
KeepsNone key e found = (e ≡ PoolFull → AreTaken key found) × FreesAll key found

-- What a call of a table tells of the pool. An accepted one keeps as many records as are told, a refused one none.
abbrev pub KeepsRecords : {A W S : Type 0} → Ghosts W S → Sizes → W → W → Result A Refusal → (A → ℕ) → Type 0
KeepsRecords w key old new r many = (found : List Look) × (w.looks new ≡ found ++ w.looks old) × IfOk r (λ x. KeepsMany key (many x) found) × IfErr r (λ e. KeepsNone key e found)

-- What the plans of one kind keep, begun for words of one layout over this many slots: the trait's laws in one record,
-- for proofs that speak of any plan.
use Rattle.std.specs.Prelude.{◌≡◌, ◌≤◌, ℕ, Bool, true, List}
use Rattle.reader_word.specs.declared.layout.Layout.{Layout}
use Rattle.gp_memb.specs.declared.plan.Action.{Action}
use Rattle.gp_memb.specs.declared.plan.Action.TheVariants.{StorePhase}
use Rattle.gp_memb.specs.Plan.{after_loads, ShowsOpen, EachLoadShowsSince, WaitsForOpen, StoresInOrder, MayStore, IsPresent, present_after}

-- `begun seq word p`: p has done nothing yet, and was made with this sequence number and this phase or number;
-- `present p`: the phase or number that p stored last, or was made with
pub record PlanLaws {P : Type 0} (qsbr : Bool) (action : P → Action) (taken : P → ℕ → P) (layout : Layout) (slots : ℕ) (begun : ℕ → ℕ → P → Type 0) (present : P → ℕ) : Type 0 where
  pub order : (seq word : ℕ) (p : P) → begun seq word p → StoresInOrder action taken seq p
  pub waits : (seq word : ℕ) (p : P) → begun seq word p → WaitsForOpen qsbr action taken layout slots word p
  pub stores : (seq word : ℕ) (p : P) → begun seq word p → (loads : List ℕ) (value : ℕ) → action (after_loads taken p loads) ≡ StorePhase value → MayStore qsbr word value
  pub begins : (seq word : ℕ) (p : P) → begun seq word p → IsPresent qsbr word → present p ≡ word
  pub presents : (p : P) (word : ℕ) → present (taken p word) ≡ present_after (present p) (action p)
  pub rises : (p : P) (value : ℕ) → qsbr ≡ true → action p ≡ StorePhase value → present p ≤ value

-- the plan may stand so while a section with this mark, which was open at the first store, stays open in the slot
pub record MayBe {P : Type 0} (qsbr : Bool) (action : P → Action) (taken : P → ℕ → P) (layout : Layout) (begun : ℕ → ℕ → P → Type 0) (p : P) (slot mark : ℕ) : Type 0 where
  pub seq : ℕ
  pub word : ℕ
  pub from : P
  pub begun_from : begun seq word from
  pub fits : qsbr ≡ true → mark ≤ word
  pub loads : List ℕ
  pub is : p ≡ after_loads taken from loads
  pub shown : EachLoadShowsSince action taken (ShowsOpen qsbr layout slot mark) from loads

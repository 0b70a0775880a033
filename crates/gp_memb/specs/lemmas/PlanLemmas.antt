-- What follows from the turns of any plan that moves on or stays as it was.
use Rattle.std.specs.Prelude.{◌≡◌, ◌≢◌, ◌↔◌, ◌≤◌, ℕ, ◌+◌, ◌-◌, Bool, true, false, if◌then◌else◌, List, [], ◌∷◌}
use Rattle.std.proofs.Common.{sym, subst, arith}
use Rattle.gp_memb.specs.declared.plan.Action.{Action}
use Rattle.gp_memb.specs.declared.plan.Action.TheVariants.{StoreSeq, Finished}
use Rattle.gp_memb.specs.declared.plan.Turn.{Turn}
use Rattle.gp_memb.specs.declared.plan.Turn.TheVariants.{Step, Wait}
use Rattle.gp_memb.specs.Plan.{after_loads, EachLoadShows, EachLoadShowsSince, from_seq, after_turn, went_on, steps}

module _ {P : Type 0} (turn : P → ℕ → Turn) (moved : P → ℕ → P) where
  abbrev taken_by : P → ℕ → P
  taken_by plan word = after_turn (moved plan word) plan (turn plan word)

  -- a fact of the plan that moving on keeps holds after all turns
  pub lasts_by : (Fact : P → Type 0) → ((plan : P) (word : ℕ) → Fact plan → Fact (moved plan word)) →
      (plan : P) (words : List ℕ) → Fact plan → Fact (after_loads taken_by plan words)
  lasts_by Fact keeps plan [] fact = fact
  lasts_by Fact keeps plan (word ∷ words) fact = lasts_by Fact keeps (taken_by plan word) words (by_turn (turn plan word))
    where
      by_turn : (t : Turn) → Fact (after_turn (moved plan word) plan t)
      by_turn Step = keeps plan word fact
      by_turn Wait = fact

-- a fact of the plan that lasts while such words are loaded, and that no finished plan has, keeps it from being
-- finished
waits_by : {P : Type 0} (action : P → Action) (taken : P → ℕ → P) (shows : Action → ℕ → Type 0) (Fact : P → Type 0) →
    ((plan : P) (word : ℕ) → Fact plan → shows (action plan) word → Fact (taken plan word)) →
    ((plan : P) → Fact plan → action plan ≢ Finished) →
    (plan : P) (loads : List ℕ) → Fact plan → EachLoadShows action taken shows plan loads → action (after_loads taken plan loads) ≢ Finished
waits_by action taken shows Fact lasts ends plan [] fact each = ends plan fact
waits_by action taken shows Fact lasts ends plan (word ∷ words) fact each =
    waits_by action taken shows Fact lasts ends (taken plan word) words (lasts plan word fact each.0) each.1

-- the same, where the first turn stores a sequence number
pub waits_since : {P : Type 0} (action : P → Action) (taken : P → ℕ → P) (shows : Action → ℕ → Type 0) (Fact : P → Type 0) →
    ((plan : P) (word : ℕ) → Fact plan → shows (action plan) word → Fact (taken plan word)) →
    ((plan : P) → Fact plan → action plan ≢ Finished) →
    ((value word : ℕ) → shows (StoreSeq value) word) →
    (plan : P) (value : ℕ) → action plan ≡ StoreSeq value → (loads : List ℕ) → Fact plan → EachLoadShowsSince action taken shows plan loads → action (after_loads taken plan loads) ≢ Finished
waits_since action taken shows Fact lasts ends stores plan value is [] fact since = ends plan fact
waits_since action taken shows Fact lasts ends stores plan value is (word ∷ words) fact since =
    waits_by action taken shows Fact lasts ends (taken plan word) words (lasts plan word fact (subst (λ a. shows a word) (sym is) (stores value word)))
    (subst (λ a. from_seq a (EachLoadShows action taken shows (taken plan word) words) (EachLoadShowsSince action taken shows (taken plan word) words)) is since)

-- what a turn takes off that goes on
abbrev pub cost : (Action → Bool) → Action → ℕ
cost counts action = if counts action then 1 else 0

-- a number of turns that are left of those that count, less by its cost after each turn that goes on, and none exactly
-- in a finished plan
module _ {P : Type 0} (action : P → Action) (turn : P → ℕ → Turn) (moved : P → ℕ → P) (counts : Action → Bool) (Fact : P → Type 0) (rest : P → ℕ)
    (keeps : (plan : P) (word : ℕ) → Fact plan → Fact (moved plan word))
    (falls : (plan : P) (word : ℕ) → Fact plan → rest (moved plan word) ≡ rest plan - cost counts (action plan))
    (ends : (plan : P) → Fact plan → (action plan ≡ Finished) ↔ (rest plan ≡ 0)) where
  abbrev taken : P → ℕ → P
  taken plan word = after_turn (moved plan word) plan (turn plan word)

  pub finishes_by : (plan : P) (words : List ℕ) → Fact plan → (action (after_loads taken plan words) ≡ Finished) ↔ (rest plan ≤ steps action turn taken counts plan words)
  finishes_by plan [] fact = let e = ends plan fact in ((λ f. let none : rest plan ≡ 0 = e.0 f in omega arith), (λ h. e.1 (omega arith)))
  finishes_by plan (word ∷ words) fact =
      by_turn (turn plan word) (counts (action plan)) (falls plan word fact) (finishes_by (moved plan word) words (keeps plan word fact)) (finishes_by plan words fact)
    where
      by_turn : (t : Turn) (counted : Bool) → rest (moved plan word) ≡ rest plan - (if counted then 1 else 0) →
          (action (after_loads taken (moved plan word) words) ≡ Finished) ↔ (rest (moved plan word) ≤ steps action turn taken counts (moved plan word) words) →
          (action (after_loads taken plan words) ≡ Finished) ↔ (rest plan ≤ steps action turn taken counts plan words) →
          (action (after_loads taken (after_turn (moved plan word) plan t) words) ≡ Finished) ↔
          (rest plan ≤ (if counted then went_on t else 0) + steps action turn taken counts (after_turn (moved plan word) plan t) words)
      by_turn Step true fell later same = ((λ f. let enough = later.0 f in omega arith), (λ h. later.1 (omega arith)))
      by_turn Step false fell later same = ((λ f. let enough = later.0 f in omega arith), (λ h. later.1 (omega arith)))
      by_turn Wait true fell later same = ((λ f. let enough = same.0 f in omega arith), (λ h. same.1 (omega arith)))
      by_turn Wait false fell later same = ((λ f. let enough = same.0 f in omega arith), (λ h. same.1 (omega arith)))

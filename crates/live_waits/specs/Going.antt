-- A seat within a grace period, and what the plan was told.
use Rattle.std.specs.Prelude.{◌≡◌, ◌≢◌, ◌⊎◌, ℕ, ◌+◌, Bool, List, [], ◌∷◌, ◌++◌}
use Rattle.atomic_table.specs.Table.{Me}
use Rattle.gp_memb.specs.declared.plan.Action.{Action}
use Rattle.gp_memb.specs.declared.plan.Action.TheVariants.{Load, LoadGroup, StorePhase, StoreSeq, Finished}
use Rattle.gp_memb.specs.Plan.{after_loads}
use Rattle.live_log.specs.declared.event.LiveEvent.{LiveEvent}
use Rattle.live_log.specs.declared.event.LiveEvent.TheVariants.{SeqOdd}
use Rattle.live_log.specs.Log.{Log, present_of, seq_of, IsBound, IsLiveRun, Begins}
use Rattle.live_words.specs.live_rule.declared.view.View.{View}
use Rattle.live_words.specs.live_rule.declared.rights.GraceRight.TheVariants.{Works}
use Rattle.live_words.specs.live_rule.Places.{group_at, slot_at}
use Rattle.live_words.specs.live_rule.Seen.{Precedes, at_log}
use Rattle.live_words.specs.live_rule.Rights.{IsWorking, before_in, looks_in, present_in, seq_in}
use Rattle.live_waits.specs.Answers.{Gained, stored_by}

-- the period, with SEQ at q, began after `old`, when PHASE or NUM was `first`
pub record Going {S : Type 0} (qsbr : Bool) (allows : Log → LiveEvent → Type 0) (old : Me S View) (q first number : ℕ) (looks : List (ℕ × ℕ)) (now : Me S View) : Type 0 where
  pub only : now ≡ (record (at_log old.0 now.0.seen) { grace = now.0.grace }, old.1)
  pub is : now.0.grace ≡ Works q number (before_in now.0.grace) looks
  pub after : Precedes old.0 (before_in now.0.grace)
  pub since : Begins (SeqOdd ∷ before_in now.0.grace) now.0.seen
  pub run : IsLiveRun qsbr allows (before_in now.0.grace)
  pub began : present_of (before_in now.0.grace) ≡ first
  pub numbered : seq_of (before_in now.0.grace) + 1 ≡ q

abbrev pub In : ℕ × ℕ → List (ℕ × ℕ) → Type 0
In x [] = ⊥
In x (y ∷ ys) = (y ≡ x) ⊎ In x ys

-- what a turn loaded stands among the looks
abbrev pub IsLogged : List (ℕ × ℕ) → Action → ℕ → Type 0
IsLogged looks (Load k) word = In (slot_at k, word) looks
IsLogged looks (LoadGroup g) word = In (group_at g, word) looks
IsLogged looks (StorePhase value) word = Unit {0}
IsLogged looks (StoreSeq value) word = Unit {0}
IsLogged looks Finished word = Unit {0}

-- what each of these turns loaded does
abbrev pub Logged : {P : Type 0} → (P → Action) → (P → ℕ → P) → List (ℕ × ℕ) → P → List ℕ → Type 0
Logged action taken looks plan [] = Unit {0}
Logged action taken looks plan (word ∷ words) = IsLogged looks (action plan) word × Logged action taken looks (taken plan word) words

-- a plan that was begun, took its first turn, and is not finished; the log has what it stored
pub record WasTold {P : Type 0} (action : P → Action) (taken : P → ℕ → P) (begun plan : P) (looks : List (ℕ × ℕ)) (old log : Log) : Type 0 where
  pub words : List ℕ
  pub is : plan ≡ after_loads taken (taken begun 0) words
  pub logged : Logged action taken looks (taken begun 0) words
  pub unfinished : action plan ≢ Finished
  pub stored : Gained (stored_by action taken (taken begun 0) words ++ SeqOdd ∷ []) old log

-- a plan that was begun so, took its first turn, and is not finished
pub record Begun {P : Type 0} (is_begun : P → Type 0) (action : P → Action) (taken : P → ℕ → P) (plan : P) (looks : List (ℕ × ℕ)) (old log : Log) : Type 0 where
  pub start : P
  pub begun : is_begun start
  pub told : WasTold action taken start plan looks old log

-- a grace period is going, between two turns of its plan
abbrev pub InLoop : {P S : Type 0} → (P → Type 0) → (P → Action) → (P → ℕ → P) → (P → ℕ) → ℕ → Bool → (Log → LiveEvent → Type 0) → Me S View → ℕ → P → Me S View → Type 0
InLoop is_begun action taken present seq qsbr allows old first plan now =
    Going qsbr allows old (seq + 1) first (present plan) (looks_in now.0.grace) now × Begun is_begun action taken plan (looks_in now.0.grace) (before_in now.0.grace) now.0.seen × IsBound qsbr (seq + 1) (present plan)

-- so of a seat at which the grace period began, whichever that was
abbrev pub IsWithin : {P S : Type 0} → (P → Type 0) → (P → Action) → (P → ℕ → P) → (P → ℕ) → ℕ → Bool → (Log → LiveEvent → Type 0) → ℕ → P → Me S View → Type 0
IsWithin {S = S} is_begun action taken present seq qsbr allows first plan now = ∥ ((old : Me S View) × InLoop is_begun action taken present seq qsbr allows old first plan now) ∥₁

-- the seat's right within it
abbrev pub WorksAt : ℕ → ℕ → View → Type 0
WorksAt seq present v = IsWorking v × (seq_in v.grace ≡ seq + 1) × (present_in v.grace ≡ present)

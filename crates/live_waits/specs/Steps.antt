-- What the steps of a grace period tell.
use Rattle.std.specs.Prelude.{◌≡◌, ◌⊎◌, ℕ, Bool, true, List, length}
use Rattle.gp_memb.specs.declared.plan.Action.{Action}
use Rattle.gp_memb.specs.declared.plan.Action.TheVariants.{Load, LoadGroup, StorePhase, StoreSeq, Finished}
use Rattle.gp_memb.specs.declared.plan.Turn.{Turn}
use Rattle.gp_memb.specs.declared.plan.Turn.TheVariants as turned
use Rattle.gp_memb.specs.Plan.{after_loads}
use Rattle.live_log.specs.declared.event.LiveEvent.{LiveEvent}
use Rattle.live_log.specs.Log.{Log, IsLiveRun, Begins, HaveEnded}
use Rattle.live_words.specs.live_rule.declared.view.View.{View}
use Rattle.live_words.specs.live_rule.Places.{slot_at}
use Rattle.live_words.specs.live_rule.Rights.{before_in}
use Rattle.live_waits.specs.declared.period.Progress.{Progress}
use Rattle.live_waits.specs.declared.period.Progress.TheVariants.{Done, Going, InTheWay}
use Rattle.live_waits.specs.Answers.{IsCookieOf}
use Rattle.live_waits.specs.Going.{In, IsLogged}

-- the view has seen the log, or heard of it
abbrev pub Knows : View → Log → Type 0
Knows v asked = Begins asked v.seen ⊎ Begins asked v.heard

-- each section has ended that was open in a log which the view knew, and of which this is the cookie
abbrev pub IsAnswered : ℕ → View → Log → Type 0
IsAnswered cookie v log = (asked : Log) → IsCookieOf asked cookie → Knows v asked → HaveEnded asked log

-- the grace period that is going began after this log
pub record IsUnderWay (qsbr : Bool) (allows : Log → LiveEvent → Type 0) (asked : Log) (v : View) : Type 0 where
  pub after : Begins asked (before_in v.grace)
  pub since : Begins (before_in v.grace) v.seen
  pub run : IsLiveRun qsbr allows (before_in v.grace)

-- it began after each log that the first view knew
abbrev pub BeganAfter : Bool → (Log → LiveEvent → Type 0) → View → View → Type 0
BeganAfter qsbr allows v now = (asked : Log) → Knows v asked → IsUnderWay qsbr allows asked now

-- after whichever log it began, it goes on
abbrev pub StaysUnderWay : Bool → (Log → LiveEvent → Type 0) → View → View → Type 0
StaysUnderWay qsbr allows v now = (asked : Log) → IsUnderWay qsbr allows asked v → IsUnderWay qsbr allows asked now

-- each section has ended that was open in a log after which it began
abbrev pub HasEnded : Bool → (Log → LiveEvent → Type 0) → View → Log → Type 0
HasEnded qsbr allows v log = (asked : Log) → IsUnderWay qsbr allows asked v → HaveEnded asked log

-- what a step comes to, by what the plan does next and whether it goes on then
abbrev pub progress_at : Action → Turn → Progress
progress_at (Load slot) turned.Wait = InTheWay slot
progress_at (Load slot) turned.Step = Going
progress_at (LoadGroup group) turn = Going
progress_at (StorePhase value) turn = Going
progress_at (StoreSeq value) turn = Done
progress_at Finished turn = Going

-- The plan took a turn: it was told a word, which was loaded where it loads one, and the step came to what the plan
-- says of that word. The last turn is told of nothing.
pub record Turned {P : Type 0} (action : P → Action) (turn : P → ℕ → Turn) (taken : P → ℕ → P) (plan : P) (progress : Progress) (after : P) (looks : List (ℕ × ℕ)) : Type 0 where
  pub word : ℕ
  pub told : progress ≡ progress_at (action plan) (turn plan word)
  pub moved : (progress ≡ Done → ⊥) → (after ≡ taken plan word) × IsLogged looks (action plan) word

-- the plan loads this slot's word, and one that was loaded there stands in its way
pub record Stands {P : Type 0} (action : P → Action) (turn : P → ℕ → Turn) (plan : P) (slot : ℕ) (looks : List (ℕ × ℕ)) : Type 0 where
  pub loads : action plan ≡ Load slot
  pub word : ℕ
  pub waits : turn plan word ≡ turned.Wait
  pub loaded : In (slot_at slot, word) looks

-- the plan took this many turns: on from the first plan if a grace period was going, and else from that of a new one
pub record TookTurns {P : Type 0} (taken : P → ℕ → P) (going : Bool) (plan : P) (count : ℕ) (after : P) : Type 0 where
  pub start : P
  pub from : going ≡ true → start ≡ plan
  pub words : List ℕ
  pub counted : length words ≡ count
  pub is : after ≡ after_loads taken start words

-- A world of either flavour, and the step table as its callers see it.
use Rattle.std.specs.Prelude.{◌≡◌, ◌⊎◌, ◌%◌, ◌^◌, ◌==◌, ◌&&◌, ℕ, nat_le, Bool, true, false, List, [], ◌∷◌, ◌++◌, Result, Ok, Err}
use Rattle.rcu_model.specs.declared.event.Event.{Event}
use Rattle.rcu_model.specs.declared.refusal.Refusal.{Refusal}
use Rattle.rcu_model.specs.declared.refusal.Refusal.TheVariants.{Memory}
use Rattle.gp_memb.specs.declared.memb.MembPlan.{MembPlan}
use Rattle.gp_memb.specs.Memb.{memb_begun, memb_action, memb_turn, memb_taken}
use Rattle.gp_qsbr.specs.declared.qsbr.QsbrPlan.{QsbrPlan}
use Rattle.gp_qsbr.specs.Qsbr.{qsbr_begun, qsbr_action, qsbr_turn, qsbr_taken}
use Rattle.world_state.specs.declared.config.Config.{Config}
use Rattle.world_state.specs.declared.config.Flavour.{Flavour}
use Rattle.world_state.specs.declared.config.Flavour.TheVariants.{Memb, Qsbr}
use Rattle.world_state.specs.declared.line.Answer.{Answer}
use Rattle.world_state.specs.declared.line.Answer.TheVariants.{Events, Quiet, Wait, Blocked, Idle}
use Rattle.world_state.specs.declared.line.Line.{Line}
use Rattle.world_state.specs.declared.line.Line.TheVariants.{Reader, Updater, Worker}
use Rattle.world_state.specs.Limits.{is_within_limits}
use Rattle.world_state.specs.View.{Plans, BoardView, plans_of, fresh_at, told}
use Rattle.world.specs.Lines.{Outcome as BoardOutcome, outcome_of}
use Rattle.world.specs.Reached.{IsReached}
use Rattle.world_kept.specs.Kept.{Grows as BoardGrows}

abbrev pub memb_plans : Plans MembPlan
memb_plans = plans_of false (λ layout slots seq word. memb_begun layout false slots seq (word == 1)) memb_action memb_turn memb_taken

abbrev pub qsbr_plans : Plans QsbrPlan
qsbr_plans = plans_of true (λ layout slots seq word. qsbr_begun false slots seq word) qsbr_action qsbr_turn qsbr_taken

pub data WorldView : Type 0 where
  OfMemb : BoardView MembPlan → WorldView
  OfQsbr : BoardView QsbrPlan → WorldView

-- a world in which nothing has happened, and whose sequence numbers begin here
abbrev pub fresh_in : Flavour → Config → ℕ → WorldView
fresh_in Memb config seq = OfMemb (fresh_at config seq)
fresh_in Qsbr config seq = OfQsbr (fresh_at config seq)

abbrev pub fresh_world_at : Config → ℕ → WorldView
fresh_world_at config seq = fresh_in config.flavour config seq

abbrev pub fresh_world : Config → WorldView
fresh_world config = fresh_world_at config 0

abbrev pub is_supported : Config → Bool
is_supported config = is_within_limits config

abbrev pub is_supported_at : Config → ℕ → Bool
is_supported_at config seq = is_within_limits config && ((seq % 2 == 0) && nat_le seq (2 ^ 62))

-- a line of a reader
abbrev pub IsOfReader : Line → Type 0
IsOfReader (Reader r verb) = Unit {0}
IsOfReader (Updater u verb) = ⊥
IsOfReader (Worker k verb) = ⊥

-- the step was made
abbrev pub IsPrompt : Answer → Type 0
IsPrompt (Events first second) = Unit {0}
IsPrompt Quiet = Unit {0}
IsPrompt Wait = ⊥
IsPrompt Blocked = ⊥
IsPrompt Idle = ⊥

-- it was not made: it waits, is blocked, or finds nothing to do
abbrev pub IsStalled : Answer → Type 0
IsStalled (Events first second) = ⊥
IsStalled Quiet = ⊥
IsStalled Wait = Unit {0}
IsStalled Blocked = Unit {0}
IsStalled Idle = Unit {0}

-- it told events or nothing, and did not wait, was not blocked, and found something to do
abbrev pub IsMade : Result Answer Refusal → Type 0
IsMade (Ok answer) = IsPrompt answer
IsMade (Err e) = ⊥

-- the world after a step, and the answer
pub record Outcome : Type 0 where
  pub world : WorldView
  pub answer : Result Answer Refusal

abbrev pub seen_as : {P : Type 0} → (BoardView P → WorldView) → BoardOutcome P → Outcome
seen_as seen outcome = record { world = seen outcome.world; answer = outcome.answer }

abbrev pub step_of : WorldView → Line → Outcome
step_of (OfMemb w) line = seen_as OfMemb (outcome_of memb_plans w line)
step_of (OfQsbr w) line = seen_as OfQsbr (outcome_of qsbr_plans w line)

-- the events that the steps told
abbrev pub log_of : WorldView → List Event
log_of (OfMemb w) = w.log
log_of (OfQsbr w) = w.log

-- the log or the list of objects is longer, or a queue has a place for one more item
abbrev pub Grows : WorldView → WorldView → Type 0
Grows (OfMemb old) (OfMemb new) = BoardGrows old new
Grows (OfQsbr old) (OfQsbr new) = BoardGrows old new
Grows (OfMemb old) (OfQsbr new) = ⊥
Grows (OfQsbr old) (OfMemb new) = ⊥

-- the answer and the world after are those of the table, or memory for a growth was refused; an error changes nothing
abbrev pub Meets : Outcome → WorldView → WorldView → Result Answer Refusal → Type 0
Meets outcome old new (Ok a) = (outcome.answer ≡ Ok a) × (new ≡ outcome.world)
Meets outcome old new (Err e) = (new ≡ old) × (((outcome.answer ≡ Err e) × (outcome.world ≡ old)) ⊎ ((e ≡ Memory) × Grows old outcome.world))

-- the world after these lines
abbrev pub world_after_lines : WorldView → List Line → WorldView
world_after_lines w [] = w
world_after_lines w (line ∷ lines) = world_after_lines ((step_of w line).world) lines

-- the events of an answer, and of the answers to these lines
abbrev pub events_of : Result Answer Refusal → List Event
events_of (Ok answer) = told answer
events_of (Err e) = []

abbrev pub answered_events : WorldView → List Line → List Event
answered_events w [] = []
answered_events w (line ∷ lines) = events_of (step_of w line).answer ++ answered_events ((step_of w line).world) lines

-- some lines lead to the world from one in which nothing has happened
abbrev pub IsReachedWorld : WorldView → Type 0
IsReachedWorld (OfMemb w) = IsReached memb_plans w
IsReachedWorld (OfQsbr w) = IsReached qsbr_plans w

-- The text of an answer, and the end line.
use Rattle.std.specs.Prelude.{ℕ, ◌-◌, List, ◌++◌, length, codes, count_by, Some, None, Result, Ok, Err}
use Rattle.std.specs.Fmt.{decimal}
use Rattle.rcu_model.specs.declared.event.Event.{Event}
use Rattle.rcu_model.specs.declared.refusal.Refusal.{Refusal}
use Rattle.rcu_model.specs.EventText.{text_of}
use Rattle.rcu_model.specs.Machine.{State}
pub use Rattle.rcu_model.specs.Sizes.{opens, closes, retires, runs, waiting_in}
use Rattle.rcu_model.specs.Refusal.{number_of}
use Rattle.world_state.specs.declared.line.Answer.{Answer}
use Rattle.world_state.specs.declared.line.Answer.TheVariants.{Events, Quiet, Wait, Blocked, Idle}
use Rattle.schedule_text.specs.declared.counts.Counts.{Counts}

abbrev pub answer_text : Result Answer Refusal → List ℕ
answer_text (Ok (Events first None)) = text_of first
answer_text (Ok (Events first (Some second))) = text_of first ++ codes "; " ++ text_of second
answer_text (Ok Quiet) = codes "."
answer_text (Ok Wait) = codes "wait"
answer_text (Ok Blocked) = codes "blocked"
answer_text (Ok Idle) = codes "idle"
answer_text (Err refusal) = codes "refused E" ++ decimal (number_of refusal)

abbrev pub answer_line : Result Answer Refusal → List ℕ
answer_line answer = answer_text answer ++ codes "\n"

-- ---- the end line

-- the sections opened and not closed, the objects retired and not run, and the objects run
abbrev pub counts_of : List Event → Counts
counts_of log = record {
  sections = count_by opens log - count_by closes log;
  waiting = count_by retires log - count_by runs log;
  runs = count_by runs log;
}

-- the sections that are open in the machine, the objects that are retired and whose callbacks have not run, and those
-- whose callbacks have run
abbrev pub counts_in : State → Counts
counts_in now = record { sections = length now.sections; waiting = length (waiting_in now); runs = length now.reclaimed }

abbrev pub end_line : Counts → List ℕ
end_line c = codes "end open=" ++ decimal c.sections ++ codes " waiting=" ++ decimal c.waiting ++ codes " run=" ++ decimal c.runs ++ codes "\n"

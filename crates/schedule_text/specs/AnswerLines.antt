-- The lines of answers, the one text of each, and the log that they tell.
use Rattle.std.specs.Prelude.{◌≡◌, ℕ, ◌+◌, ◌-◌, ◌<◌, ◌^◌, min, List, [], ◌∷◌, ◌++◌, codes, length, All, Option, Some, None, Result, Ok, Err}
use Rattle.std.specs.Fmt.{decimal}
use Rattle.std.specs.List.{flat_map}
use Rattle.rcu_model.specs.declared.event.SectionId.{SectionId}
use Rattle.rcu_model.specs.declared.event.ObjectId.{ObjectId}
use Rattle.rcu_model.specs.declared.event.Event.{Event}
use Rattle.rcu_model.specs.declared.event.Event.TheVariants.{Open, Close, First, Next, Touch, Push, Replace, Cut, Retire, Queue, Run, Ask, Answer, Bar, Clear}
use Rattle.rcu_model.specs.EventText.{text_of}
use Rattle.rcu_model.specs.Refusal.{number_of}
use Rattle.rcu_model.specs.declared.refusal.Refusal.{Refusal}
use Rattle.world_state.specs.declared.line.Answer.{Answer as StepAnswer}
use Rattle.world_state.specs.declared.line.Answer.TheVariants as step
use Rattle.schedule_text.specs.declared.answer_line.AnswerLine.{AnswerLine}
use Rattle.schedule_text.specs.declared.answer_line.AnswerLine.TheVariants as line
use Rattle.schedule_text.specs.declared.fault.AnswersFault.{AnswersFault}
use Rattle.schedule_text.specs.declared.fault.AnswersFault.TheVariants.{BadText, Memory}
use Rattle.schedule_text.specs.Answers.{end_line}
use Rattle.schedule_text.specs.Spelling.{IsNumber}
use Rattle.schedule_text.specs.Fault.{IsBad}

-- ---- the numbers

-- a number that has at most nineteen digits
abbrev pub IsLong : ℕ → Type 0
IsLong n = n < 10000000000000000000

abbrev pub IsSection : SectionId → Type 0
IsSection s = IsNumber s.reader × IsLong s.ordinal

abbrev pub IsFound : Option ObjectId → Type 0
IsFound None = Unit {0}
IsFound (Some o) = IsLong o.0

abbrev pub IsEvent : Event → Type 0
IsEvent (Open s) = IsSection s
IsEvent (Close s) = IsSection s
IsEvent (First s c found) = IsSection s × IsNumber c × IsFound found
IsEvent (Next s o found) = IsSection s × IsLong o.0 × IsFound found
IsEvent (Touch s o) = IsSection s × IsLong o.0
IsEvent (Push c o) = IsNumber c × IsLong o.0
IsEvent (Replace c old new) = IsNumber c × IsLong old.0 × IsLong new.0
IsEvent (Cut c o) = IsNumber c × IsLong o.0
IsEvent (Retire o) = IsLong o.0
IsEvent (Queue o q) = IsLong o.0 × IsNumber q
IsEvent (Run o) = IsLong o.0
IsEvent (Ask a) = IsLong a
IsEvent (Answer a) = IsLong a
IsEvent (Bar b) = IsLong b
IsEvent (Clear b) = IsLong b

abbrev pub IsSecond : Option Event → Type 0
IsSecond None = Unit {0}
IsSecond (Some e) = IsEvent e

abbrev pub IsAnswerLine : AnswerLine → Type 0
IsAnswerLine (line.Events first second) = IsEvent first × IsSecond second
IsAnswerLine (line.Refused n) = IsLong n
IsAnswerLine (line.End counts) = IsLong counts.sections × IsLong counts.waiting × IsLong counts.runs
IsAnswerLine _ = Unit {0}

-- ---- the text

abbrev pub spelled : AnswerLine → List ℕ
spelled (line.Events first None) = text_of first ++ codes "\n"
spelled (line.Events first (Some second)) = text_of first ++ codes "; " ++ text_of second ++ codes "\n"
spelled line.Quiet = codes ".\n"
spelled line.Wait = codes "wait\n"
spelled line.Blocked = codes "blocked\n"
spelled line.Idle = codes "idle\n"
spelled (line.Refused n) = codes "refused E" ++ decimal n ++ codes "\n"
spelled (line.End counts) = end_line counts

-- the text of a whole line
abbrev pub AnswerLineText : AnswerLine → List ℕ → Type 0
AnswerLineText l text = IsAnswerLine l × (text ≡ spelled l)

abbrev pub IsAnswerText : List ℕ → Type 0
IsAnswerText text = (l : AnswerLine) × AnswerLineText l text

-- the line that a step's answer is
abbrev pub line_of : Result StepAnswer Refusal → AnswerLine
line_of (Ok (step.Events first second)) = line.Events first second
line_of (Ok step.Quiet) = line.Quiet
line_of (Ok step.Wait) = line.Wait
line_of (Ok step.Blocked) = line.Blocked
line_of (Ok step.Idle) = line.Idle
line_of (Err refusal) = line.Refused (number_of refusal)

-- ---- the log

-- what the line says happened
abbrev pub told_by : AnswerLine → List Event
told_by (line.Events first None) = first ∷ []
told_by (line.Events first (Some second)) = first ∷ second ∷ []
told_by _ = []

-- the text is lines of answers, and their events in order are the log
pub record TellsLog (text : List ℕ) (log : List Event) : Type 0 where
  pub lines : List AnswerLine
  pub each : All IsAnswerLine lines
  pub parts : text ≡ flat_map spelled lines
  pub events : log ≡ flat_map told_by lines

-- lines of answers, and then what is none: its line, counted from 1 (from 2^64 - 1 on by that number), and its column
pub record BreaksOffAnswers (text : List ℕ) (at column : ℕ) : Type 0 where
  pub lines : List AnswerLine
  pub each : All IsAnswerLine lines
  pub rest : List ℕ
  pub some : 0 < length rest
  pub parts : text ≡ flat_map spelled lines ++ rest
  pub bad : IsBad IsAnswerText rest column
  pub number : at ≡ min (length lines + 1) (2 ^ 64 - 1)

-- why a text is no lines of answers: memory may be refused at any text
abbrev pub IsNoAnswers : List ℕ → AnswersFault → Type 0
IsNoAnswers text (BadText at column) = BreaksOffAnswers text at column
IsNoAnswers text Memory = Unit {0}

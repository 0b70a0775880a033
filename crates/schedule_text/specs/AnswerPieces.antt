-- Lines of answers that come in pieces, and the log that they tell so far.
use Rattle.std.specs.Prelude.{◌≡◌, ℕ, ◌+◌, ◌-◌, ◌^◌, min, List, ◌++◌, length, All, Result, Ok, Err}
use Rattle.std.specs.Borrow.{Bor}
use Rattle.std.specs.List.{flat_map}
use Rattle.rcu_model.specs.declared.event.Event.{Event}
use Rattle.schedule_text.specs.declared.answer_line.AnswerLine.{AnswerLine}
use Rattle.schedule_text.specs.declared.answer_pieces.AnswerReader.{AnswerReader}
use Rattle.schedule_text.specs.declared.fault.AnswersFault.{AnswersFault}
use Rattle.schedule_text.specs.declared.fault.AnswersFault.TheVariants.{BadText, Memory}
use Rattle.schedule_text.specs.AnswerLines.{IsAnswerLine, IsAnswerText, spelled, told_by, TellsLog, BreaksOffAnswers}
use Rattle.schedule_text.specs.Fault.{IsPartial}

-- the text is lines of answers, whose events in order are the log, and then the line of this number and what follows
pub record ReadSoFar (text rest : List ℕ) (log : List Event) (at : ℕ) : Type 0 where
  pub lines : List AnswerLine
  pub each : All IsAnswerLine lines
  pub parts : text ≡ flat_map spelled lines ++ rest
  pub events : log ≡ flat_map told_by lines
  pub number : at ≡ min (length lines + 1) (2 ^ 64 - 1)

-- lines of answers whose events are the log, and then what is no line, whatever follows
pub record StopsAnswers (text : List ℕ) (log : List Event) (at column : ℕ) : Type 0 where
  pub rest : List ℕ
  pub read : ReadSoFar text rest log at
  pub breaks : (more : List ℕ) → BreaksOffAnswers (text ++ more) at column

-- all whole lines are read, and what is left goes on to a line; or it is no line
abbrev pub ReadsOn : List ℕ → List Event → ℕ → Result (Bor (List ℕ)) AnswersFault → Type 0
ReadsOn all log at (Ok rest) = ReadSoFar all rest.now log at × IsPartial IsAnswerText rest.now
ReadsOn all log at (Err (BadText line column)) = StopsAnswers all log line column
ReadsOn all log at (Err Memory) = Unit {0}

-- the reader was fed this text, whose lines tell this log, and holds less than a line
pub record HasRead (reader : AnswerReader) (fed : List ℕ) (log : List Event) : Type 0 where
  pub read : ReadSoFar fed reader.held.items log reader.line
  pub partial : IsPartial IsAnswerText reader.held.items

-- what a piece comes to
abbrev pub Takes : AnswerReader → List ℕ → List Event → Result (Unit {0}) AnswersFault → Type 0
Takes reader fed log (Ok _) = HasRead reader fed log
Takes reader fed log (Err (BadText line column)) = StopsAnswers fed log line column
Takes reader fed log (Err Memory) = Unit {0}

-- lines of answers whose events are the log, and then, at the line of this number, what is none
pub record BreaksOffAfter (text : List ℕ) (log : List Event) (at column : ℕ) : Type 0 where
  pub rest : List ℕ
  pub read : ReadSoFar text rest log at
  pub breaks : BreaksOffAnswers text at column

-- what the end of the input comes to
abbrev pub EndsAnswers : List ℕ → List Event → Result (Unit {0}) AnswersFault → Type 0
EndsAnswers fed log (Ok _) = TellsLog fed log
EndsAnswers fed log (Err (BadText line column)) = BreaksOffAfter fed log line column
EndsAnswers fed log (Err Memory) = ⊥

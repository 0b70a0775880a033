-- What a judge has found of the text that it was fed.
use Rattle.std.specs.Prelude.{◌≡◌, ℕ, List, length, Bool, true, false, Result, Ok, Err}
use Rattle.rcu_model.specs.declared.event.Event.{Event}
use Rattle.rcu_judge.specs.declared.verdict.Verdict.{Verdict}
use Rattle.rcu_judge.specs.declared.verdict.Verdict.TheVariants as verdicts
use Rattle.rcu_model.specs.Machine.{IsRun}
use Rattle.schedule_text.specs.declared.fault.AnswersFault.{AnswersFault}
use Rattle.schedule_text.specs.declared.fault.AnswersFault.TheVariants as faults
use Rattle.schedule_text.specs.AnswerLines.{TellsLog}
use Rattle.schedule_text.specs.AnswerPieces.{StopsAnswers}
use Rattle.judging.specs.declared.judging.Judging.{Judging}
use Rattle.judging.specs.declared.text_judge.Finding.{Finding}
use Rattle.judging.specs.declared.text_judge.Finding.TheVariants.{Yes, No, BadText, Memory}
use Rattle.judging.specs.declared.text_judge.TextJudge.{TextJudge}
use Rattle.judging.specs.Judging.{HasJudged, IsJudgedSoFar, IsRunSoFar, BreaksRun}

-- ---- of a text that may go on

-- lines of answers whose log is a run, and then what is no line, whatever follows
pub record StopsRun (text : List ℕ) (line column : ℕ) : Type 0 where
  pub log : List Event
  pub stops : StopsAnswers text log line column
  pub run : IsRun log

-- A wrong event counts, whatever follows it. Memory may be refused at any text.
abbrev pub IsFound : List ℕ → Finding → Type 0
IsFound text (Yes events) = (so_far : IsRunSoFar text) × (events ≡ length so_far.log)
IsFound text (No at rule) = IsJudgedSoFar text (verdicts.No at rule)
IsFound text (BadText line column) = StopsRun text line column
IsFound text Memory = Unit {0}

-- ---- of a text that ends

-- the text is lines of answers, whose log is a run of this many events
pub record TellsRun (text : List ℕ) (events : ℕ) : Type 0 where
  pub log : List Event
  pub told : TellsLog text log
  pub run : IsRun log
  pub counted : events ≡ length log

-- the same where the text ends: a line that has no end is a bad text
abbrev pub IsFoundAtEnd : List ℕ → Finding → Type 0
IsFoundAtEnd text (Yes events) = TellsRun text events
IsFoundAtEnd text (No at rule) = IsJudgedSoFar text (verdicts.No at rule)
IsFoundAtEnd text (BadText line column) = BreaksRun text line column
IsFoundAtEnd text Memory = Unit {0}

-- ---- the judge

-- this text came, and its lines are a run of this many events
pub record IsRunning (judging : Judging) (fed : List ℕ) (events : ℕ) : Type 0 where
  pub judged : HasJudged judging fed
  pub run : IsRun judged.log
  pub counted : events ≡ length judged.log

-- how the judging stands where this is found: it goes on after a run alone
abbrev pub Stands : Judging → List ℕ → Finding → Type 0
Stands judging fed (Yes events) = IsRunning judging fed events
Stands judging fed (No at rule) = IsFound fed (No at rule)
Stands judging fed (BadText line column) = IsFound fed (BadText line column)
Stands judging fed Memory = IsFound fed Memory

-- the judge was fed this text
abbrev pub WasFed : TextJudge → List ℕ → Type 0
WasFed judge fed = Stands judge.judging fed judge.found

-- nothing more is judged
abbrev pub is_final : Finding → Bool
is_final (Yes events) = false
is_final (No at rule) = true
is_final (BadText line column) = true
is_final Memory = true

abbrev pub finding_of : AnswersFault → Finding
finding_of (faults.BadText line column) = BadText line column
finding_of faults.Memory = Memory

-- what a piece comes to
abbrev pub found_along : Result Verdict AnswersFault → ℕ → Finding
found_along (Ok verdicts.Yes) events = Yes events
found_along (Ok (verdicts.No at rule)) events = No at rule
found_along (Err fault) events = finding_of fault

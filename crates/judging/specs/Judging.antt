-- Lines of answers that come in pieces, judged as they come.
use Rattle.std.specs.Prelude.{◌≡◌, ℕ, List, [], length, Result, Ok, Err}
use Rattle.rcu_model.specs.declared.event.Event.{Event}
use Rattle.rcu_judge.specs.declared.verdict.Verdict.{Verdict}
use Rattle.rcu_judge.specs.declared.verdict.Verdict.TheVariants.{Yes, No}
use Rattle.rcu_model.specs.Machine.{IsRun}
use Rattle.rcu_judge.specs.Judge.{HasTaken}
use Rattle.rcu_judge.specs.Verdict.{Judges}
use Rattle.schedule_text.specs.declared.fault.AnswersFault.{AnswersFault}
use Rattle.schedule_text.specs.declared.fault.AnswersFault.TheVariants.{BadText, Memory}
use Rattle.schedule_text.specs.AnswerLines.{IsAnswerText, TellsLog}
use Rattle.schedule_text.specs.AnswerPieces.{ReadSoFar, HasRead, StopsAnswers, BreaksOffAfter}
use Rattle.schedule_text.specs.Fault.{IsPartial}
use Rattle.judging.specs.declared.judging.Judging.{Judging}

-- this text came, and the events of its lines were judged
pub record HasJudged (judging : Judging) (fed : List ℕ) : Type 0 where
  pub log : List Event
  pub read : HasRead judging.answers fed log
  pub taken : HasTaken judging.judge log

-- nothing has come
pub record HasBegun (judging : Judging) : Type 0 where
  pub judged : HasJudged judging []
  pub none : judged.log ≡ []

-- no line goes on so, whatever follows, and the events of the lines before were judged
pub record StopsJudging (judging : Judging) (fed : List ℕ) (line column : ℕ) : Type 0 where
  pub log : List Event
  pub stops : StopsAnswers fed log line column
  pub taken : HasTaken judging.judge log

-- what a piece comes to
abbrev pub JudgesOn : Judging → List ℕ → Result (Unit {0}) AnswersFault → Type 0
JudgesOn judging fed (Ok _) = HasJudged judging fed
JudgesOn judging fed (Err (BadText line column)) = StopsJudging judging fed line column
JudgesOn judging fed (Err Memory) = Unit {0}

-- the text tells the log, of which this verdict is so, and which has this many events, if it is a run
pub record JudgedAs (text : List ℕ) (log : List Event) (verdict : Verdict) (events : ℕ) : Type 0 where
  pub told : TellsLog text log
  pub judged : Judges verdict log
  pub counted : verdict ≡ Yes → events ≡ length log

-- what the end of the input comes to
abbrev pub Ends : List ℕ → List Event → Result (Verdict × ℕ) AnswersFault → Type 0
Ends fed log (Ok judged) = JudgedAs fed log judged.0 judged.1
Ends fed log (Err (BadText line column)) = BreaksOffAfter fed log line column
Ends fed log (Err Memory) = ⊥

-- ---- a text that is followed

-- a wrong event counts before a bad text that follows it
abbrev pub so_far : Result (Unit {0}) AnswersFault → Verdict → Result Verdict AnswersFault
so_far (Ok _) verdict = Ok verdict
so_far (Err Memory) verdict = Err Memory
so_far (Err (BadText line column)) Yes = Err (BadText line column)
so_far (Err (BadText line column)) (No at rule) = Ok (No at rule)

-- the lines of answers at the front of the text tell a log, of which this verdict is so
pub record IsJudgedSoFar (text : List ℕ) (verdict : Verdict) : Type 0 where
  pub log : List Event
  pub rest : List ℕ
  pub line : ℕ
  pub read : ReadSoFar text rest log line
  pub judged : Judges verdict log

-- the text is lines of answers, whose log is a run, and less than a line after them
pub record IsRunSoFar (text : List ℕ) : Type 0 where
  pub log : List Event
  pub rest : List ℕ
  pub line : ℕ
  pub read : ReadSoFar text rest log line
  pub partial : IsPartial IsAnswerText rest
  pub run : IsRun log

-- lines of answers whose log is a run, and then what is none
pub record BreaksRun (text : List ℕ) (line column : ℕ) : Type 0 where
  pub log : List Event
  pub breaks : BreaksOffAfter text log line column
  pub run : IsRun log

-- what a piece comes to where a wrong event ends it
abbrev pub JudgesAlong : Judging → List ℕ → Result Verdict AnswersFault → Type 0
JudgesAlong judging fed (Ok Yes) = (judged : HasJudged judging fed) × IsRun judged.log
JudgesAlong judging fed (Ok (No at rule)) = IsJudgedSoFar fed (No at rule)
JudgesAlong judging fed (Err (BadText line column)) = (stops : StopsJudging judging fed line column) × IsRun stops.log
JudgesAlong judging fed (Err Memory) = Unit {0}

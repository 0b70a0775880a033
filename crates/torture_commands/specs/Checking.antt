-- What `check` writes of the answers that it reads.
use Rattle.std.specs.Prelude.{◌≡◌, ◌⊎◌, ℕ, ◌≤◌, List, [], ◌++◌, codes, length, Option, Result, Ok, Err}
use Rattle.std.specs.Fmt.{decimal}
use Rattle.std.specs.Io.KnownBytes.{Appends, Consumes}
use Rattle.rcu_model.specs.declared.event.Event.{Event}
use Rattle.rcu_judge.specs.declared.verdict.Rule.{Rule}
use Rattle.rcu_judge.specs.declared.verdict.Verdict.{Verdict}
use Rattle.rcu_judge.specs.declared.verdict.Verdict.TheVariants.{Yes, No}
use Rattle.rcu_model.specs.Machine.{IsRun}
use Rattle.rcu_judge.specs.Verdict.{Judges, name_of}
use Rattle.schedule_text.specs.declared.fault.ReplayFault.{ReplayFault}
use Rattle.schedule_text.specs.declared.fault.ReplayFault.TheVariants.{BadText, BadConfig, Read, Write, Memory}
use Rattle.schedule_text.specs.AnswerLines.{TellsLog, BreaksOffAnswers}
use Rattle.schedule_text.specs.AnswerPieces.{BreaksOffAfter}
use Rattle.schedule.specs.Ports.{Tells}
use Rattle.judging.specs.declared.judging.Judging.{Judging}
use Rattle.judging.specs.Judging.{HasJudged, IsJudgedSoFar, IsRunSoFar, BreaksRun}

-- the line of a verdict on a log of this many events
abbrev pub verdict_line : Verdict → ℕ → List ℕ
verdict_line Yes events = codes "yes events=" ++ decimal events ++ codes "\n"
verdict_line (No at rule) events = codes "no event=" ++ decimal at ++ codes " rule=" ++ name_of rule ++ codes "\n"

-- that line is printed, or a beginning of it before a fault of writing
abbrev pub Printed : Verdict → ℕ → List ℕ → Result Verdict ReplayFault → Type 0
Printed verdict events printed (Ok said) = (said ≡ verdict) × (printed ≡ verdict_line verdict events)
Printed verdict events printed (Err Write) = (more : List ℕ) × (printed ++ more ≡ verdict_line verdict events)
Printed verdict events printed (Err Memory) = printed ≡ []
Printed verdict events printed (Err _) = ⊥

pub record Prints (verdict : Verdict) (events : ℕ) (before after : Option (List ℕ)) (result : Result Verdict ReplayFault) : Type 0 where
  pub printed : List ℕ
  pub writes : Appends before after printed
  pub line : Printed verdict events printed result

-- the text tells the log, of which this verdict is so and this line is printed
pub record TellsVerdict (text : List ℕ) (log : List Event) (verdict : Verdict) (printed : List ℕ) : Type 0 where
  pub told : TellsLog text log
  pub judged : Judges verdict log
  pub line : printed ≡ verdict_line verdict (length log)

-- the text tells some log, of which it is so
abbrev pub Judged : List ℕ → Verdict → List ℕ → Type 0
Judged text verdict printed = (log : List Event) × TellsVerdict text log verdict printed

-- the line of some verdict that is so begins like this
abbrev pub IsFrontOfVerdict : List ℕ → List ℕ → Type 0
IsFrontOfVerdict text printed = (verdict : Verdict) × ((more : List ℕ) × Judged text verdict (printed ++ more))

-- what is written at the end of the input, whose lines tell the log
abbrev pub Closed : List ℕ → List Event → List ℕ → Result Verdict ReplayFault → Type 0
Closed text log printed (Ok verdict) = TellsVerdict text log verdict printed
Closed text log printed (Err (BadText line column)) = BreaksOffAfter text log line column × (printed ≡ [])
Closed text log printed (Err Write) = (verdict : Verdict) × ((more : List ℕ) × TellsVerdict text log verdict (printed ++ more))
Closed text log printed (Err Memory) = printed ≡ []
Closed text log printed (Err _) = ⊥

pub record Closes (text : List ℕ) (log : List Event) (before after : Option (List ℕ)) (result : Result Verdict ReplayFault) : Type 0 where
  pub printed : List ℕ
  pub writes : Appends before after printed
  pub closed : Closed text log printed result

-- Where all was read and written, the verdict's line is printed. A bad text prints nothing.
abbrev pub Checked : Option (List ℕ) → Option (List ℕ) → List ℕ → List ℕ → Result Verdict ReplayFault → Type 0
Checked given left text printed (Ok verdict) = Tells given text × Judged text verdict printed
Checked given left text printed (Err (BadText line column)) = Tells given text × (BreaksOffAnswers text line column × (printed ≡ []))
Checked given left text printed (Err Write) = Tells given text × IsFrontOfVerdict text printed
Checked given left text printed (Err Read) = Consumes given left text × (printed ≡ [])
Checked given left text printed (Err Memory) = printed ≡ []
Checked given left text printed (Err BadConfig) = ⊥

pub record Checks (given left before after : Option (List ℕ)) (result : Result Verdict ReplayFault) : Type 0 where
  pub text : List ℕ
  pub printed : List ℕ
  pub writes : Appends before after printed
  pub checked : Checked given left text printed result

-- in the middle of the reader's text, with nothing written yet
pub record Checking (given left before now : Option (List ℕ)) (judging : Judging) : Type 0 where
  pub read : List ℕ
  pub reads : Consumes given left read
  pub still : now ≡ before
  pub judged : HasJudged judging read

-- ---- a text that is followed

-- The text ends with the piece in which the wrong event stands that the verdict names: all that was read before that
-- piece is right so far. Its line is printed.
pub record EndsWrong (text : List ℕ) (verdict : Verdict) (printed : List ℕ) : Type 0 where
  pub earlier : List ℕ
  pub piece : List ℕ
  pub parts : text ≡ earlier ++ piece
  pub short : length piece ≤ 4096
  pub right : IsRunSoFar earlier
  pub wrong : IsJudgedSoFar text verdict
  pub line : printed ≡ verdict_line verdict 0

-- the line of some wrong event that ends the text begins like this
abbrev pub IsFrontOfWrong : List ℕ → List ℕ → Type 0
IsFrontOfWrong text printed = (at : ℕ) × ((rule : Rule) × ((more : List ℕ) × EndsWrong text (No at rule) (printed ++ more)))

-- Nothing is read after the piece that has the first wrong event. A bad text counts where no event before it is wrong.
abbrev pub CheckedAlong : Option (List ℕ) → Option (List ℕ) → List ℕ → List ℕ → Result Verdict ReplayFault → Type 0
CheckedAlong given left text printed (Ok Yes) = Tells given text × Judged text Yes printed
CheckedAlong given left text printed (Ok (No at rule)) = Consumes given left text × EndsWrong text (No at rule) printed
CheckedAlong given left text printed (Err (BadText line column)) = Tells given text × (BreaksRun text line column × (printed ≡ []))
CheckedAlong given left text printed (Err Write) = (Tells given text × IsFrontOfVerdict text printed) ⊎ (Consumes given left text × IsFrontOfWrong text printed)
CheckedAlong given left text printed (Err Read) = Consumes given left text × (IsRunSoFar text × (printed ≡ []))
CheckedAlong given left text printed (Err Memory) = printed ≡ []
CheckedAlong given left text printed (Err BadConfig) = ⊥

pub record ChecksAlong (given left before after : Option (List ℕ)) (result : Result Verdict ReplayFault) : Type 0 where
  pub text : List ℕ
  pub printed : List ℕ
  pub writes : Appends before after printed
  pub checked : CheckedAlong given left text printed result

-- in the middle of a text that is followed
pub record CheckingAlong (given left before now : Option (List ℕ)) (judging : Judging) : Type 0 where
  pub read : List ℕ
  pub reads : Consumes given left read
  pub still : now ≡ before
  pub judged : HasJudged judging read
  pub run : IsRun judged.log

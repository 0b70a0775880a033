-- What the text of a schedule prints.
use Rattle.std.specs.Prelude.{◌≡◌, ◌⊎◌, ℕ, ◌<◌, false, List, [], ◌∷◌, ◌++◌, length, All, IsTrue, Result, Ok, Err}
use Rattle.world_state.specs.declared.config.Config.{Config}
use Rattle.world_state.specs.declared.line.Line.{Line}
use Rattle.world.specs.Steps.{WorldView, fresh_world, is_supported, step_of, log_of, world_after_lines}
use Rattle.schedule_text.specs.declared.counts.Counts.{Counts}
use Rattle.schedule_text.specs.declared.fault.ReplayFault.{ReplayFault}
use Rattle.schedule_text.specs.declared.fault.ReplayFault.TheVariants.{BadText, BadConfig, Read, Write, Memory}
use Rattle.schedule_text.specs.Spelling.{IsLine, IsLineText, lines_text}
use Rattle.schedule_text.specs.Header.{header, IsHeader, IsHeaderText, BeginsWithinLimits}
use Rattle.schedule_text.specs.Fault.{IsBad, line_after}
use Rattle.schedule_text.specs.Answers.{answer_line, counts_of, end_line}

-- ---- the lines, one after the other

-- the answers, a line each
abbrev pub answers_of : WorldView → List Line → List ℕ
answers_of w [] = []
answers_of w (l ∷ ls) = answer_line (step_of w l).answer ++ answers_of ((step_of w l).world) ls

-- ---- the schedule

-- the header and the lines that can be written, and a header that makes a world
pub record IsSchedule (config : Config) (lines : List Line) : Type 0 where
  pub header : IsHeader config
  pub supported : IsTrue (is_supported config)
  pub each : All IsLine lines

-- ---- what is printed

-- a header and lines: an answer to each line, and the end line
pub record Good (text printed : List ℕ) (counts : Counts) : Type 0 where
  pub config : Config
  pub lines : List Line
  pub schedule : IsSchedule config lines
  pub whole : text ≡ header config ++ lines_text lines
  pub counted : counts ≡ counts_of (log_of (world_after_lines (fresh_world config) lines))
  pub answers : printed ≡ answers_of (fresh_world config) lines ++ end_line counts

-- a header that makes no world, whatever follows: nothing
pub record OutOfLimits (text printed : List ℕ) : Type 0 where
  pub config : Config
  pub is_header : IsHeader config
  pub unsupported : is_supported config ≡ false
  pub rest : List ℕ
  pub whole : text ≡ header config ++ rest
  pub nothing : printed ≡ []

-- no header: nothing
pub record BadHeader (text printed : List ℕ) (line column : ℕ) : Type 0 where
  pub bad : IsBad IsHeaderText text column
  pub first : line ≡ 1
  pub nothing : printed ≡ []

-- a header and lines, and then what is no line: an answer to each line, and no end line
pub record BadLine (text printed : List ℕ) (line column : ℕ) : Type 0 where
  pub config : Config
  pub lines : List Line
  pub schedule : IsSchedule config lines
  pub rest : List ℕ
  pub some : 0 < length rest
  pub whole : text ≡ header config ++ (lines_text lines ++ rest)
  pub bad : IsBad IsLineText rest column
  pub number : line ≡ line_after (length lines)
  pub answers : printed ≡ answers_of (fresh_world config) lines

-- what a text prints, and the counts of its end line or its fault
abbrev pub Prints : List ℕ → List ℕ → Result Counts ReplayFault → Type 0
Prints text printed (Ok counts) = Good text printed counts
Prints text printed (Err BadConfig) = OutOfLimits text printed
Prints text printed (Err (BadText line column)) = BadHeader text printed line column ⊎ BadLine text printed line column
Prints text printed (Err Read) = ⊥
Prints text printed (Err Write) = ⊥
Prints text printed (Err Memory) = ⊥

-- the text prints this first
abbrev pub IsBeginning : List ℕ → List ℕ → Type 0
IsBeginning text printed = (more : List ℕ) × (result : Result Counts ReplayFault) × Prints text (printed ++ more) result

-- what is printed where memory may be refused, as it may be once there is a world
abbrev pub Ends : List ℕ → List ℕ → Result Counts ReplayFault → Type 0
Ends text printed (Err Memory) = IsBeginning text printed × BeginsWithinLimits text
Ends text printed result = Prints text printed result

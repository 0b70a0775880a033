-- From line to line of a schedule.
use Rattle.std.specs.Prelude.{◌≡◌, ℕ, zero, suc, ◌+◌, ◌-◌, ◌^◌, ◌<◌, min, List, [], ◌∷◌, ◌++◌, length, All, Result, Ok, Err}
use Rattle.world_state.specs.declared.line.Line.{Line}
use Rattle.world.specs.Steps.{WorldView, log_of, world_after_lines}
use Rattle.schedule_text.specs.declared.counts.Counts.{Counts}
use Rattle.schedule_text.specs.Answers.{counts_of, end_line}
use Rattle.schedule_text.specs.declared.fault.ReplayFault.{ReplayFault}
use Rattle.schedule_text.specs.declared.fault.ReplayFault.TheVariants.{BadText, BadConfig, Read, Write, Memory}
use Rattle.schedule_text.specs.Spelling.{IsLine, lines_text}
use Rattle.schedule_text.specs.Grammar.{line_at}
use Rattle.schedule.specs.Printed.{answers_of}

-- the world, the number of the next line, the text that is to be read, and what is printed so far
pub record Point : Type 0 where
  pub world : WorldView
  pub line : ℕ
  pub text : List ℕ
  pub printed : List ℕ

abbrev pub point : WorldView → ℕ → List ℕ → List ℕ → Point
point w n t p = record { world = w; line = n; text = t; printed = p }

-- the number of a line, this many lines on
abbrev pub number_on : ℕ → ℕ → ℕ
number_on line zero = line
number_on line (suc more) = number_on (min (line + 1) (2 ^ 64 - 1)) more

-- some lines lead from one point to the other
pub record Plays (start stop : Point) : Type 0 where
  pub lines : List Line
  pub each : All IsLine lines
  pub text : start.text ≡ lines_text lines ++ stop.text
  pub world : stop.world ≡ world_after_lines start.world lines
  pub line : stop.line ≡ number_on start.line (length lines)
  pub printed : stop.printed ≡ start.printed ++ answers_of start.world lines

-- up to a byte with which no line goes on, in this line and column
pub record PlaysToBad (start : Point) (printed : List ℕ) (line column : ℕ) : Type 0 where
  pub world : WorldView
  pub text : List ℕ
  pub plays : Plays start (point world line text printed)
  pub byte : ℕ
  pub more : List ℕ
  pub bad : line_at text ≡ Err (byte ∷ more)
  pub place : column + length (byte ∷ more) ≡ length text + 1

pub record PlaysToFull (start : Point) (printed : List ℕ) : Type 0 where
  pub stop : Point
  pub plays : Plays start stop
  pub now : stop.printed ≡ printed

-- all lines of the text are played; or those before a bad byte; or memory was refused
abbrev pub PlaysAll : Point → Point → Result (Unit {0}) ReplayFault → Type 0
PlaysAll start stop (Ok _) = Plays start stop × (line_at stop.text ≡ Err [])
PlaysAll start stop (Err (BadText line column)) = PlaysToBad start stop.printed line column
PlaysAll start stop (Err Memory) = PlaysToFull start stop.printed
PlaysAll start stop (Err BadConfig) = ⊥
PlaysAll start stop (Err Read) = ⊥
PlaysAll start stop (Err Write) = ⊥

-- the end of the lines: the counts and the end line; or a line that has not ended; or memory was refused
abbrev pub EndsLines : Point → List ℕ → Result Counts ReplayFault → Type 0
EndsLines start printed (Ok counts) = (start.text ≡ []) × (counts ≡ counts_of (log_of start.world)) × (printed ≡ start.printed ++ end_line counts)
EndsLines start printed (Err (BadText line column)) = (0 < length start.text) × (line ≡ start.line) × (column ≡ length start.text + 1) × (printed ≡ start.printed)
EndsLines start printed (Err Memory) = printed ≡ start.printed
EndsLines start printed (Err BadConfig) = ⊥
EndsLines start printed (Err Read) = ⊥
EndsLines start printed (Err Write) = ⊥

-- What a whole text says, with no world.
use Rattle.std.specs.Prelude.{◌≡◌, ◌⊎◌, ℕ, ◌<◌, false, List, ◌++◌, length, All, IsTrue}
use Rattle.world_state.specs.Limits.{is_within_limits}
use Rattle.world_state.specs.declared.config.Config.{Config}
use Rattle.world_state.specs.declared.line.Line.{Line}
use Rattle.schedule_text.specs.declared.fault.ScheduleFault.{ScheduleFault}
use Rattle.schedule_text.specs.declared.fault.ScheduleFault.TheVariants.{BadText, BadConfig, Memory}
use Rattle.schedule_text.specs.Spelling.{IsLine, IsLineText, lines_text}
use Rattle.schedule_text.specs.Header.{header, IsHeader, IsHeaderText, HasHeader, BeginsWithinLimits}
use Rattle.schedule_text.specs.Fault.{line_after, IsBad}

pub record AreLines (text : List ℕ) (lines : List Line) : Type 0 where
  pub each : All IsLine lines
  pub spelled : text ≡ lines_text lines

-- lines, and then what is no line
pub record BreaksOff (text : List ℕ) (line column : ℕ) : Type 0 where
  pub lines : List Line
  pub each : All IsLine lines
  pub rest : List ℕ
  pub some : 0 < length rest
  pub parts : text ≡ lines_text lines ++ rest
  pub bad : IsBad IsLineText rest column
  pub number : line ≡ line_after (length lines)

-- why a text is not lines: memory may be refused at any text
abbrev pub IsNoLines : List ℕ → ScheduleFault → Type 0
IsNoLines text (BadText line column) = BreaksOff text line column
IsNoLines text BadConfig = ⊥
IsNoLines text Memory = Unit {0}

pub record IsWhole (text : List ℕ) (config : Config) (lines : List Line) : Type 0 where
  pub is_header : IsHeader config
  pub within : IsTrue (is_within_limits config)
  pub each : All IsLine lines
  pub spelled : text ≡ header config ++ lines_text lines

-- a header that is out of its limits, whatever follows
pub record IsOutOfLimits (text : List ℕ) : Type 0 where
  pub config : Config
  pub is_header : IsHeader config
  pub without : is_within_limits config ≡ false
  pub rest : List ℕ
  pub parts : text ≡ header config ++ rest

-- no header, in this column of line 1
pub record HasNoHeader (text : List ℕ) (line column : ℕ) : Type 0 where
  pub bad : IsBad IsHeaderText text column
  pub first : line ≡ 1

-- a header, and after it what breaks off
pub record HasBadLine (text : List ℕ) (line column : ℕ) : Type 0 where
  pub config : Config
  pub rest : List ℕ
  pub headed : HasHeader text config rest
  pub breaks : BreaksOff rest line column

-- why a text is no schedule: memory may be refused at any text that begins with a header within its limits
abbrev pub IsNoSchedule : List ℕ → ScheduleFault → Type 0
IsNoSchedule text (BadText line column) = HasNoHeader text line column ⊎ HasBadLine text line column
IsNoSchedule text BadConfig = IsOutOfLimits text
IsNoSchedule text Memory = BeginsWithinLimits text

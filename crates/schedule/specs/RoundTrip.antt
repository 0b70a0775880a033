-- What a schedule prints, read back.
use Rattle.std.specs.Prelude.{ℕ, List}
use Rattle.world_state.specs.declared.config.Config.{Config}
use Rattle.world_state.specs.declared.line.Line.{Line}
use Rattle.world.specs.Steps.{fresh_world, world_after_lines, log_of}
use Rattle.schedule_text.specs.AnswerLines.{TellsLog}

-- lines of answers, which tell the log of the world after these lines
abbrev pub TellsTheLogAfter : Config → List Line → List ℕ → Type 0
TellsTheLogAfter config lines printed = TellsLog printed (log_of (world_after_lines (fresh_world config) lines))

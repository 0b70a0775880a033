use Rattle.schedule_text.proofs.Cited.{◌≡◌, ◌++◌, length, All}
use Rattle.schedule_text.specs.Spelling.{IsLine, lines_text}
use Rattle.schedule_text.proofs.whole.read_lines.Given as goal

abbrev pub invariant-loop-rest : goal.invariant-loop-rest
invariant-loop-rest l = record { each : All IsLine l.lines.items; parts : l.text ≡ lines_text l.lines.items ++ l.rest }

abbrev pub decreases-loop-rest : goal.decreases-loop-rest
decreases-loop-rest l = length l.rest

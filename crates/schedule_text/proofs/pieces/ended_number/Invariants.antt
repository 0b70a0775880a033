use Rattle.std.proofs.Common.{◌≡◌, ◌*◌, ◌<◌, length}
use Rattle.schedule_text.specs.Reading.{ended_number_at, digits_on}
use Rattle.schedule_text.proofs.pieces.ended_number.Given as goal

abbrev pub invariant-loop-rest : goal.invariant-loop-rest
invariant-loop-rest l = record { same : digits_on l.room l.value l.end l.other l.rest ≡ ended_number_at l.room l.end l.other l.fn.text; small : l.value < 10 * l.room }

abbrev pub decreases-loop-rest : goal.decreases-loop-rest
decreases-loop-rest l = length l.rest

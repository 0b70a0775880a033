use Rattle.std.proofs.Common.{arith}
use Rattle.schedule_text.proofs.GoOn.{goes_on}
use Rattle.schedule_text.proofs.reading.front_go_on.Goals as goal

pub returns-clause-front : goal.returns-clause-front
returns-clause-front c =
    goes_on c.args.text.now c.in_ok-line.line (omega arith) (grind (arith, c.is_ascii_digit.ensures, c.if-is_ascii_digit.true)) (omega arith) (omega arith) (omega arith) (rw c.from.ensures at c.in_ok-line.ensures.line)

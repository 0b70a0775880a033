use Rattle.std.proofs.Common.{arith}
use Rattle.world.proofs.board.Board.steps_for.Goals as goal

pub overflow_add-result-then-QSBR : goal.overflow_add-result-then-QSBR
overflow_add-result-then-QSBR g c = omega (arith, c.requires.few, c.requires.readers, c.args.self.now.kept.readers.ok, c.len-readers.ensures)

pub overflow_add-result-else-QSBR-2 : goal.overflow_add-result-else-QSBR-2
overflow_add-result-else-QSBR-2 g c = omega (arith, c.requires.few, c.requires.readers, c.args.self.now.kept.readers.ok, c.len-readers.ensures)

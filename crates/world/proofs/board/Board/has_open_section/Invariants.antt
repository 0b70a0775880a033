use Rattle.std.proofs.Common.{◌≡◌, drop}
use Rattle.world.specs.Drain.{some_open}
use Rattle.world.proofs.board.Board.has_open_section.Given as goal

abbrev pub invariant-loop-reader : goal.invariant-loop-reader
invariant-loop-reader g l = some_open g.P.GracePlan.QSBR l.self.kept.layout (drop l.reader-index l.self.kept.readers.items) ≡ some_open g.P.GracePlan.QSBR l.self.kept.layout l.self.kept.readers.items

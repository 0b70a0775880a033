use Rattle.world.proofs.Cited.{arith, Worker, GoOn}
use Rattle.world.proofs.board.Board.make.Goals as goal

pub work-requires : goal.work-requires
work-requires g c = c.requires.range.may_make (omega (arith, c.args.self.now.kept.log.ok, c.args.self.now.kept.log.small)) (Worker c.args.worker GoOn) _ c.requires.change

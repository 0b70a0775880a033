use Rattle.live_read.proofs.Lemmas.{makes_hears}
use Rattle.domain.proofs.domain.Domain.cut_retire.Goals as goal

pub returns-clause-same : goal.returns-clause-same
returns-clause-same g c = let k = c.in-Ok.ensures in (
  makes_hears g.W.Caller c.args.caller.now c.cut.new.caller c.retire.new.caller c.cut.new.self.seat.me.0.seen k.same c.retire.ensures.same,
  k.list.3,
  k.list.4,
)

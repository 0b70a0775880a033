use Rattle.step_grace.proofs.Periods.{looks_seq}
use Rattle.step_grace.proofs.steps.load_seq.Goals as goal

pub load-requires : goal.load-requires
load-requires g c = (c.requires, c.seq_place-place.ensures.1, rw (c.seq_place-place.ensures.0) (looks_seq g.P.GracePlan.QSBR g.K.ChainRule.allows _ _ _ _))

pub returns-clause-known : goal.returns-clause-known
returns-clause-known g c = c.load.ensures.2.2

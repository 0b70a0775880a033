use Rattle.std.proofs.Common.{sym}
use Rattle.step_readers.proofs.Bits.{looks_group}
use Rattle.step_readers.proofs.groups.look_group.Goals as goal

pub load-requires : goal.load-requires
load-requires g c = (c.requires.0, c.group_place-place.ensures.1, looks_group g.P.GracePlan.QSBR g.K.ChainRule.allows _ _ _ _ _)

pub returns-clause-looked : goal.returns-clause-looked
returns-clause-looked g c = rw (sym c.group_place-place.ensures.0) c.load.ensures.2

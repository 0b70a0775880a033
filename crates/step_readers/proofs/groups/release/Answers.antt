use Rattle.step_readers.proofs.Bits.{releases}
use Rattle.step_readers.proofs.groups.release.Goals as goal

pub fetch_and-requires : goal.fetch_and-requires
fetch_and-requires g c = (c.requires.seat.0, c.group_place-place.ensures.1, rw (c.group_place-place.ensures.0) (releases g.P.GracePlan.QSBR g.K.ChainRule.allows _ _ _ _ c.args.slot _ _ _ c.requires.right.0 c.requires.right.1 c.all_bits_but-mask.ensures))

pub returns-clause-released : goal.returns-clause-released
returns-clause-released g c = c.fetch_and.ensures.2 c.args.slot _ _ c.requires.right.0 c.all_bits_but-mask.ensures

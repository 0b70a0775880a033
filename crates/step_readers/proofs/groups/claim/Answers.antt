use Rattle.std.proofs.Common.{arith}
use Rattle.step_readers.proofs.Bits.{claims}
use Rattle.step_readers.proofs.groups.claim.Goals as goal

pub fetch_or-requires : goal.fetch_or-requires
fetch_or-requires g c = let sized = c.args.table.now.sized.0 in let low = c.requires.1 in
    (c.requires.0, c.group_place-place.ensures.1, rw (c.group_place-place.ensures.0) (claims g.P.GracePlan.QSBR g.K.ChainRule.allows _ _ _ _ c.args.slot _ (omega arith) c.bit_alone-mask.ensures))

pub returns-clause-claimed : goal.returns-clause-claimed
returns-clause-claimed g c = (c.fetch_or.ensures.2 c.args.slot c.group_place-place.ensures.0 c.bit_alone-mask.ensures).0

pub returns-clause-missed : goal.returns-clause-missed
returns-clause-missed g c = (c.fetch_or.ensures.2 c.args.slot c.group_place-place.ensures.0 c.bit_alone-mask.ensures).1

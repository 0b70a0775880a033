use Rattle.step_grace.proofs.Periods.{stores_present}
use Rattle.step_grace.proofs.steps.store_present.Goals as goal

pub store-requires : goal.store-requires
store-requires g c = (c.requires.seat, c.present_place-place.ensures.1, rw (c.present_place-place.ensures.0) (stores_present g.P.GracePlan.QSBR g.K.ChainRule.allows _ _ _ _ _ _ c.args.present _ _ c.requires.right.0 c.requires.right.1))

pub returns-clause-presented : goal.returns-clause-presented
returns-clause-presented g c = c.store.ensures.2 _ _ _ _ c.requires.right.0

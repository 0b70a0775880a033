use Rattle.step_grace.proofs.Periods.{begins_period}
use Rattle.step_grace.proofs.steps.store_odd.Goals as goal

pub store-requires : goal.store-requires
store-requires g c = (c.requires.seat, c.seq_place-place.ensures.1, rw (c.seq_place-place.ensures.0) (rw (c.requires.right.2) (begins_period g.P.GracePlan.QSBR g.K.ChainRule.allows _ _ _ _ _ _ c.requires.right.0 c.requires.right.1)))

pub returns-clause-began : goal.returns-clause-began
returns-clause-began g c = (c.store.ensures.2 _ _ c.requires.right.0).0

pub returns-clause-words : goal.returns-clause-words
returns-clause-words g c = let told = c.store.ensures.2 _ _ c.requires.right.0 in (told.2, told.1)

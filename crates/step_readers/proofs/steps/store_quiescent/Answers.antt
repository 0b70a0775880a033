use Rattle.step_readers.proofs.Sections.{announces_slot}
use Rattle.step_readers.proofs.steps.store_quiescent.Goals as goal

pub store-requires : goal.store-requires
store-requires g c = (c.requires.seat.0, c.slot_place-place.ensures.1, rw (c.slot_place-place.ensures.0) (announces_slot g.P.GracePlan.QSBR g.K.ChainRule.allows _ _ _ _ c.args.slot _ _ c.args.word c.requires.right.0 c.requires.right.1 c.requires.word.0 c.requires.word.1))

pub returns-clause-announced : goal.returns-clause-announced
returns-clause-announced g c = c.store.ensures.2 _ _ _ c.requires.right.0

use Rattle.step_readers.proofs.Sections.{looks_present}
use Rattle.step_readers.proofs.steps.load_present.Goals as goal

pub load-requires : goal.load-requires
load-requires g c = (c.requires, c.present_place-place.ensures.1, rw (c.present_place-place.ensures.0) (looks_present g.P.GracePlan.QSBR g.K.ChainRule.allows _ _ _ _))

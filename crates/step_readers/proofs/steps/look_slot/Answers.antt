use Rattle.step_readers.proofs.Cited.{ap, sym, arith, Sizes}
use Rattle.step_readers.proofs.Slots.{looks_slot}
use Rattle.step_readers.proofs.steps.look_slot.Goals as goal

pub load-requires : goal.load-requires
load-requires g c = (c.requires.0, c.slot_place-place.ensures.1, looks_slot g.P.GracePlan.QSBR g.K.ChainRule.allows _ _ _ _ _ c.requires.1)

pub returns-clause-looked : goal.returns-clause-looked
returns-clause-looked g c = rw (sym c.slot_place-place.ensures.0) c.load.ensures.2.0

pub returns-clause-word : goal.returns-clause-word
returns-clause-word g c =
    let slots = c.args.table.now.sized.0 in
    let low = c.requires.2 in
    let sizes = ap (λ (k : Sizes). k.slots) c.requires.1 in
    c.load.ensures.2.1 c.args.slot (omega arith) c.slot_place-place.ensures.0

pub returns-clause-own : goal.returns-clause-own
returns-clause-own g c = c.load.ensures.2.2 c.args.slot c.slot_place-place.ensures.0

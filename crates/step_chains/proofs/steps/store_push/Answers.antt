use Rattle.step_chains.proofs.Cited.{ap, sym, ◌∙◌, arith, head_at}
use Rattle.step_chains.proofs.Splices.{pushes}
use Rattle.step_chains.proofs.steps.store_push.Goals as goal

pub store-requires : goal.store-requires
store-requires g c = let right = c.requires.right in let cell = right.3 in
    (c.requires.seat.0, c.head_place-place.ensures.1, pushes g.P.GracePlan.QSBR g.K.ChainRule.allows _ _ _ _ _ _ right.0 right.2 right.4 (c.head_place-place.ensures.0 ∙ ap (head_at c.args.table.now.words.shared.key) (sym right.1)) (omega arith) c.requires.rule)

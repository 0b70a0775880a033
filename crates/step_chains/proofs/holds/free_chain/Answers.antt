use Rattle.step_chains.proofs.Cited.{ap, sym, ◌∙◌, hold_at}
use Rattle.step_chains.proofs.Holding.{frees}
use Rattle.step_chains.proofs.holds.free_chain.Goals as goal

pub store-requires : goal.store-requires
store-requires g c = let right = c.requires.right in
    (c.requires.seat.0, c.hold_place-place.ensures.1, frees g.P.GracePlan.QSBR g.K.ChainRule.allows _ _ _ _ _ right.0 (c.hold_place-place.ensures.0 ∙ ap (hold_at c.args.table.now.words.shared.key) (sym right.1)))

pub returns-clause-freed : goal.returns-clause-freed
returns-clause-freed g c = rw (sym c.hold_place-place.ensures.0) c.store.ensures.2

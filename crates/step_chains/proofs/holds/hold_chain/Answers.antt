use Rattle.step_chains.proofs.Cited.{ap, sym, ◌∙◌, arith, Sizes, hold_at}
use Rattle.step_chains.proofs.Holding.{holds}
use Rattle.step_chains.proofs.holds.hold_chain.Goals as goal

pub compare_exchange-requires : goal.compare_exchange-requires
compare_exchange-requires g c = let sized = c.args.table.now.sized.2 in let low = c.requires.2 in
    (c.requires.0, c.hold_place-place.ensures.1, holds g.P.GracePlan.QSBR g.K.ChainRule.allows _ _ _ _ c.args.chain _ (omega arith) c.hold_place-place.ensures.0 c.requires.1)

pub returns-clause-held : goal.returns-clause-held
returns-clause-held g c zero = let sized = c.args.table.now.sized.2 in let low = c.requires.2 in let sizes = ap (λ (k : Sizes). k.chains) c.requires.1 in let place = c.hold_place-place.ensures.0 in
    rw (sym place) (c.compare_exchange.ensures.2.0 zero c.args.chain (omega arith) (place ∙ ap (λ (k : Sizes). hold_at k c.args.chain) (sym c.requires.1)))

pub returns-clause-missed : goal.returns-clause-missed
returns-clause-missed g c = rw (sym c.hold_place-place.ensures.0) c.compare_exchange.ensures.2.1

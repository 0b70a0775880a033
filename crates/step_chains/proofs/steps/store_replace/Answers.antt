use Rattle.std.proofs.Common.{◌∙◌, arith}
use Rattle.step_chains.proofs.Writers.{place_there}
use Rattle.step_chains.proofs.Splices.{replaces_one}
use Rattle.step_chains.proofs.steps.store_replace.Goals as goal

pub store-requires : goal.store-requires
store-requires g c = let right = c.requires.right in let named = c.requires.object in let place = c.spot_place-place.ensures in let cell = right.4 in (
  c.requires.seat.0,
  place.1,
  replaces_one g.P.GracePlan.QSBR g.K.ChainRule.allows _ _ _ _ _ _ named.0 named.1 c.requires.seat.1 right.0 right.1 right.3 named.3 named.4
      (place.0 ∙ place_there c.args.table.now.words.shared.key c.args.seat.now.me.0 c.args.before named.0 c.args.chain named.2 right.2 c.requires.seat.1) (omega arith) named.5,
)

pub returns-clause-replaced : goal.returns-clause-replaced
returns-clause-replaced g c p o there before = c.store.ensures.2.1 p o (c.spot_place-place.ensures.0 ∙ place_there c.args.table.now.words.shared.key c.args.seat.now.me.0 c.args.before p c.args.chain there c.requires.right.2 c.requires.seat.1) before

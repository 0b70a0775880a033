use Rattle.std.proofs.Common.{sym, subst}
use Rattle.registry.specs.Registry.{Registry, IsClaimed}
use Rattle.registry.proofs.Keeping.{claimed_is, claim_there, kept_give_back, gives_back}
use Rattle.registry.proofs.registry.Registry.give_back.Goals as goal

pub remove-number-requires : goal.remove-number-requires
remove-number-requires c = claim_there c.self.inside.claims c.args.slot (subst (λ (r : Registry). IsClaimed r c.args.slot) (sym c.self.view_is) c.requires)

pub invariant_of-self : goal.invariant_of-self
invariant_of-self c =
    let removed = c.remove-number.ensures in
    let kept = kept_give_back _ _ _ _ _ _ c.self.invariant.0 removed.value removed.updates removed.len removed.capacity in
    (rw c.push_reserved.ensures.items kept, rw c.push_reserved.ensures.capacity c.self.invariant.1)

pub returns : goal.returns
returns c =
    let was = (claimed_is c.self.inside.claims c.args.slot).0 (subst (λ (r : Registry). IsClaimed r c.args.slot) (sym c.self.view_is) c.requires) in
    gives_back _ _ _ _ _ _ c.self.invariant.0 was c.remove-number.ensures.updates _ c.self.view_is

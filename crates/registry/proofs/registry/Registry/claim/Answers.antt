use Rattle.std.proofs.Common.{◌≡◌, length, refl, subst, arith}
use Rattle.registry.specs.Layout.{IsKept}
use Rattle.registry.specs.Registry.{AllAreClaimed}
use Rattle.registry.proofs.Keeping.{kept_claim, claims, all_claimed}
use Rattle.registry.proofs.registry.Registry.claim.Goals as goal

pub returns-in_default-clause-err : goal.returns-in_default-clause-err
returns-in_default-clause-err c =
    let none : length c.self.inside.free.items ≡ 0 = omega (arith, c.in_default.ensures.cases) in
    (refl, subst AllAreClaimed c.self.view_is (all_claimed _ _ _ c.self.invariant.0 none), c.self.view_is)

pub invariant_of-self-2 : goal.invariant_of-self-2
invariant_of-self-2 c =
    let of_claim = c.insert_reserved-claim.ensures in
    let kept = subst (IsKept c.self.inside.slots c.self.inside.claims) c.in-Some.ensures.items c.self.invariant.0 in
    (kept_claim _ _ _ _ _ _ kept of_claim.was_vacant of_claim.updates of_claim.len of_claim.capacity, rw c.pop.ensures.capacity c.self.invariant.1)

pub returns-clause-ok : goal.returns-clause-ok
returns-clause-ok c =
    let of_claim = c.insert_reserved-claim.ensures in
    let kept = subst (IsKept c.self.inside.slots c.self.inside.claims) c.in-Some.ensures.items c.self.invariant.0 in
    claims _ _ _ _ _ _ kept of_claim.was_vacant of_claim.updates _ c.self.view_is

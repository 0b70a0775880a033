use Rattle.std.proofs.Common.{false}
use Rattle.world.proofs.Fence.{laws_of}
use Rattle.world.proofs.Moving.{all_tested}
use Rattle.world.proofs.testing.tests_are_made_in_order.Goals as goal

pub returns : goal.returns
returns g c =
    let p = g.P.GracePlan in
    let m = g.met.P.GracePlan in
    all_tested _
    (λ layout slots. laws_of (c.plan_keeps_its_laws.ensures layout slots))
    (λ layout slots. record {
      layout_of = p.layout_of;
      exact = m.exact;
      begins_layout = m.begins_layout layout false slots;
      keeps_layout = m.keeps_layout;
    })
    (λ layout slots seq word. g.met.P.WorldPlan.finishes layout slots seq word)

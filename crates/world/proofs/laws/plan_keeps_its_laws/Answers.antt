use Rattle.std.proofs.Common.{false}
use Rattle.world.proofs.laws.plan_keeps_its_laws.Goals as goal

pub returns : goal.returns
returns g c = λ layout slots.
    let m = g.met.P.GracePlan in
    record {
      made = λ seq word. g.met.P.WorldPlan.made_begun layout slots seq word;
      keeps = record {
        order = λ seq word q b. m.order layout false slots seq word q b;
        waits = λ seq word q b. m.waits layout false slots seq word q b;
        stores = λ seq word q b. m.stores layout false slots seq word q b;
        begins = λ seq word q b. m.begins layout false slots seq word q b;
        presents = m.presents;
        rises = m.rises;
      };
      loads_no_group = λ seq word q b. g.met.P.WorldPlan.loads_no_group layout slots seq word q b;
    }

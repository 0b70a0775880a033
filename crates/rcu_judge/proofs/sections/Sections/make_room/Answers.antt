use Rattle.std.proofs.Common.{refl}
use Rattle.rcu_judge.proofs.SectionLemmas.{stay_same, stay_both}
use Rattle.rcu_judge.proofs.sections.Sections.make_room.Goals as goal

pub returns-clause-stay : goal.returns-clause-stay
returns-clause-stay c =
    let mid = c.drop_the_closed.new.self in
    let new = record mid { kept = c.reserve.new.self } in
    stay_both c.args.self.now mid new c.drop_the_closed.ensures (stay_same mid new (λ s. ((λ h. h), (λ h. h))) c.reserve.ensures.entries refl refl)

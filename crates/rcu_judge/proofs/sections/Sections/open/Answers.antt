use Rattle.std.proofs.Common.{true, false, true≢false, sym, refl, ◌∙◌, ◌+◌}
use Rattle.rcu_judge.proofs.ObjectsTables.{on_err}
use Rattle.rcu_judge.proofs.SectionLemmas.{stay_same, stay_both, opens, opens_nothing, opens_after}
use Rattle.rcu_judge.proofs.sections.Sections.open.Goals as goal

pub returns-in_err-insert-clause-refused : goal.returns-in_err-insert-clause-refused
returns-in_err-insert-clause-refused c =
    let mid = c.make_room.new.self in
    let new = record mid { seen = c.insert.new.self } in
    on_err c.from_residual-in_err-insert.result (stay_both c.args.self.now mid new c.make_room.ensures.stay (stay_same mid new c.in_err-insert.ensures.refused refl refl refl))

pub returns-then-not-branch-clause-opened : goal.returns-then-not-branch-clause-opened
returns-then-not-branch-clause-opened c = λ seen still a.
    let mid = c.make_room.new.self in
    let new = record mid { seen = c.insert.new.self } in
    opens_after c.args.self.now mid new seen still c.args.section false c.make_room.ensures.stay
    (opens_nothing mid new c.args.section (λ f. true≢false (sym (c.in_ok-insert.ensures.new.1 f) ∙ c.if-not-branch.true)) seen still (c.make_room.ensures.stay.are seen still a))

pub returns-clause-opened : goal.returns-clause-opened
returns-clause-opened c = λ seen still a.
    let mid = c.make_room.new.self in
    let new = record mid { seen = c.insert.new.self; opened = mid.opened + 1; kept = c.insert-2.new.self } in
    opens_after c.args.self.now mid new seen still c.args.section true c.make_room.ensures.stay
    (opens mid new c.args.section (c.in_ok-insert.ensures.new.0 c.if-not-branch.false) c.in_ok-insert.ensures.put
    c.in_ok-insert-2.ensures.entries c.in_ok-insert-2.ensures.updates.0 refl refl seen still (c.make_room.ensures.stay.are seen still a))

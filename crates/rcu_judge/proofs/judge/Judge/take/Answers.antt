use Rattle.std.proofs.Common.{◌≡◌, ◌+◌, arith}
use Rattle.rcu_judge.proofs.Judging.{taken_after_break, taken_more}
use Rattle.rcu_judge.proofs.judge.Judge.take.Goals as goal

pub returns-in_default-clause-taken : goal.returns-in_default-clause-taken
returns-in_default-clause-taken c = λ log t. taken_after_break c.args.self.now c.args.event.now c.in_default.not-Yes log t

pub returns-clause-taken : goal.returns-clause-taken
returns-clause-taken c = λ log t.
    let counted : c.in-Some.at ≡ c.args.self.now.taken + 1 = grind (arith, c.in-Some.ensures) in
    taken_more c.args.self.now c.follow.new.self c.args.event.now c.in_ok-follow.field-0 c.in_ok-follow.ensures.answered c.in-Yes.is log t c.if-not-branch.false c.in-Some.at counted

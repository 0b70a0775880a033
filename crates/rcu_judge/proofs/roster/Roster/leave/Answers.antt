use Rattle.rcu_judge.proofs.Cited.{get_or_default, arith, common_steps}
use Rattle.std.proofs.Common.{sym, true≢false}
use Rattle.rcu_judge.specs.Roster.{IsThere}
use Rattle.rcu_judge.proofs.Places.{in_order_mark, left_at, next_left, not_there, nowhere, stands_in, stays_gone}
use Rattle.rcu_judge.proofs.roster.Roster.leave.Goals as goal

none : (c : goal.In_default) → ¬ IsThere c.args.self.now c.args.place
none c = grind (arith, common_steps, nowhere)

pub returns-in_default-clause-was : goal.returns-in_default-clause-was
returns-in_default-clause-was c = ((λ t. absurd (true≢false (sym t))), (λ h. absurd (none c h)))

pub returns-in_default-clause-left : goal.returns-in_default-clause-left
returns-in_default-clause-left c = stays_gone c.args.self.now c.args.place (none c)

gone : (c : goal.Then-not-index) → ¬ IsThere c.args.self.now c.args.place
gone c = grind (arith, common_steps, get_or_default, not_there)

pub returns-then-not-index-clause-was : goal.returns-then-not-index-clause-was
returns-then-not-index-clause-was c = ((λ t. absurd (true≢false (sym t))), (λ h. absurd (gone c h)))

pub returns-then-not-index-clause-left : goal.returns-then-not-index-clause-left
returns-then-not-index-clause-left c = stays_gone c.args.self.now c.args.place (gone c)

pub invariant_of-self : goal.invariant_of-self
invariant_of-self c = grind (arith, common_steps, get_or_default, in_order_mark, next_left)

pub returns-clause-was : goal.returns-clause-was
returns-clause-was c = grind (arith, common_steps, get_or_default, stands_in)

pub returns-clause-left : goal.returns-clause-left
returns-clause-left c = grind (arith, common_steps, get_or_default, left_at)

use Rattle.std.proofs.Common.{rules, ◌∙◌}
use Rattle.rcu_judge.specs.Objects.{heads_of}
use Rattle.rcu_judge.proofs.objects.Objects.first.Goals as goal

head_is : goal.returns-clause-head
unfolding heads_of
head_is c = search rules

pub returns-clause-head : goal.returns-clause-head
returns-clause-head c = head_is c

pub returns-clause-first : goal.returns-clause-first
returns-clause-first c now moments tickets k = head_is c ∙ k.shows.firsts c.args.chain

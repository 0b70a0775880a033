use Rattle.rcu_model.proofs.Protection.{was_linked_not_reclaimed, successor_was_linked}
use Rattle.rcu_model.proofs.laws.what_was_linked_is_not_reclaimed.Goals as goal

pub returns-clause-not_reclaimed : goal.returns-clause-not_reclaimed
returns-clause-not_reclaimed c log s o run is was = was_linked_not_reclaimed log s o run was is

pub returns-clause-successor : goal.returns-clause-successor
returns-clause-successor c log s o next run is was follows = successor_was_linked log s o next run was is follows

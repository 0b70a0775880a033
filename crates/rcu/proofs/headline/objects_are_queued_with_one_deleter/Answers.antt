use Rattle.rcu.proofs.Once.{one_callback}
use Rattle.rcu.proofs.headline.objects_are_queued_with_one_deleter.Goals as goal

pub returns : goal.returns
returns g c log o run q p a b = one_callback g.P.GracePlan.QSBR g.K.ChainRule.allows g.row.D.coded log o q p a b run

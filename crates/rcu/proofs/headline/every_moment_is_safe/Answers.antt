use Rattle.rcu.proofs.Standing.{stands_open}
use Rattle.rcu.proofs.headline.every_moment_is_safe.Goals as goal

pub returns : goal.returns
returns g c key s r = record {
  log = r.log;
  safe = c.the_log_is_a_run.ensures g.P.GracePlan.QSBR r.log r.run;
  agree = r.agree;
  seen = r.seen;
  inside = stands_open g.P.GracePlan.QSBR g.K.ChainRule.allows key s r;
}

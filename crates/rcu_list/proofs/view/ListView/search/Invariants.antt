use Rattle.rcu_list.proofs.Cited.{◌≡◌, ◌+◌, ◌≤◌, ObjectId, rank_of, record_of, log_of}
use Rattle.rcu_list.proofs.Looking.{StandsAt}
use Rattle.rcu_list.proofs.view.ListView.search.Given as goal

abbrev pub invariant-loop-passed : goal.invariant-loop-passed
invariant-loop-passed g l = record {
  reader : l.section.reader.ghost_name ≡ l.fn.section.reader.ghost_name;
  object : ObjectId;
  stands : StandsAt g.P.GracePlan.QSBR g.K.ChainRule.allows l.fn.self.chain l.fn.key l.fn.section.reader.now.core l.section.reader.now.core object l.held.cell;
  low : rank_of (record_of (log_of l.section.reader.now.core) object) + l._passed ≤ l.most;
}

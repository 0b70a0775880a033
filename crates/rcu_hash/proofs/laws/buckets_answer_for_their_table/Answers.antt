use Rattle.rcu_hash.proofs.Cited.{answers_linked}
use Rattle.rcu_hash.proofs.laws.buckets_answer_for_their_table.Goals as goal

pub returns : goal.returns
returns c = answers_linked

use Rattle.domain.proofs.Cited.{◌≡◌, ◌≤◌, [], vec_len, vec_capacity, Spare}
use Rattle.domain.proofs.queue.queues_of.Given as goal

abbrev pub invariant-loop-number : goal.invariant-loop-number
invariant-loop-number g l = (l.root.table_id ≡ g.B.Site.table) × (l.root.me ≡ (record l.fn.root.me.0 { queue = Spare l.number }, [])) × (vec_len l.row ≡ l.number) × (l.table.queues ≤ vec_capacity l.row)

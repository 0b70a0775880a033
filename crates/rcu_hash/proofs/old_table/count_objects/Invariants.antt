use Rattle.rcu_hash.proofs.Cited.{objects_in, ◌≡◌, ◌+◌, ◌^◌, ◌-◌, map, take, min}
use Rattle.rcu_hash.proofs.old_table.count_objects.Given as goal

abbrev pub invariant-loop-index : goal.invariant-loop-index
invariant-loop-index g l = l.many ≡ min (l.others + objects_in (map (λ c. c.seat.me.0) (take l.index l.chains))) (2 ^ 64 - 1)

use Rattle.rcu_hash.proofs.Cited.{objects_in, list_in, ◌≡◌, ◌+◌, ◌^◌, ◌-◌, length, refl, arith, map, take, min, slice_get_read, objects_next}
use Rattle.rcu_hash.proofs.old_table.count_objects.Goals as goal

pub loop-index-preserved : goal.loop-index-preserved
loop-index-preserved g c =
    let all = c.args.chains.now in let one = c.index-chains-index.result in
    let more = objects_next all c.loop-index.index one (λ x. x.seat.me.0) (slice_get_read all (length all) c.loop-index.index one refl c.loop-index-test.true c.index-chains-index.is) in
    let len : c.len.result ≡ length (list_in one.seat.me.0) = c.len.ensures in
    let was : c.loop-index.many ≡ min (c.args.others + objects_in (map (λ x. x.seat.me.0) (take c.loop-index.index all))) (2 ^ 64 - 1) = c.loop-index.invariant in
    let sum : c.saturating_add-many.result ≡ min (c.loop-index.many + c.len.result) (2 ^ 64 - 1) = c.saturating_add-many.ensures in
    omega (arith, more, len, was, sum)

use Rattle.domain.proofs.Cited.{rules, ◌+◌, List, [], length, refl, reverse, subst, sym, ap, ◌∙◌, arith, Finished, Log, AreRunAs}
use Rattle.std.proofs.lemmas.List.{length-append}
use Rattle.domain.specs.Working.{GoesOn}
use Rattle.domain.proofs.Running.{all_and, all_later, due_later, goes_same, goes_trans, order_later, order_popped}
use Rattle.domain.proofs.domain.Domain.run_all.Goals as goal

pub loop-count-init : goal.loop-count-init
loop-count-init g c =
    let r = c.requires in
    (goes_same g.P.GracePlan.QSBR g.K.ChainRule.allows c.args.seat.now r.due.1, r.queue.1, r.due.0, r.list.0, r.list.1, r.batch.0, r.batch.1, refl)

pub run_next-done-requires-clause-item : goal.run_next-done-requires-clause-item
run_next-done-requires-clause-item g c = (order_popped c.args.queue c.loop-count.seat.me.0.seen c.loop-count.count c.loop-count.batch.items c.pop.new.self.items c.in-Some.item c.in-Some.ensures.items c.loop-count.invariant.5).0

pub run_next-done-requires-clause-due : goal.run_next-done-requires-clause-due
run_next-done-requires-clause-due g c =
    let i = c.loop-count.invariant in
    (c.loop-count-test.true, search rules, i.2, i.0.run)

pub loop-count-preserved : goal.loop-count-preserved
loop-count-preserved g c =
    let code = g.row.D.coded.code in
    let answers = g.D.Deleter.answers in
    let qsbr = g.P.GracePlan.QSBR in
    let allows = g.K.ChainRule.allows in
    let q = c.args.queue in
    let i = c.loop-count.invariant in
    let e = c.run_next-done.ensures in
    let now : Log = c.loop-count.seat.me.0.seen in
    let last : Log = c.run_next-done.new.seat.me.0.seen in
    let step : GoesOn qsbr allows c.loop-count.seat c.run_next-done.new.seat = record { keeps = e.seat.0; own = e.seat.1; sizes = e.seat.2; later = e.seen.0; run = e.seen.1; finds = (([], e.finds.0), ([], e.finds.1)) } in
    let items = c.push_reserved.ensures.items in
    let longer = ap (λ (l : List Finished). length l) items ∙ length-append c.loop-count.list.items _ in
    let len = c.push_reserved.ensures.len in
    let room = c.push_reserved.ensures.capacity in
    let had = i.4 in
    let low = c.loop-count-test.true in
    let order = (order_popped q now c.loop-count.count c.loop-count.batch.items c.pop.new.self.items c.in-Some.item c.in-Some.ensures.items i.5).1 in
    let fewer = c.in-Some.ensures.len in
    let few = i.6 in
    let so = i.3.1 in (
      goes_trans qsbr allows c.args.seat.now c.loop-count.seat c.run_next-done.new.seat i.0 step,
      e.seat.3,
      due_later q c.args.given now last step.later i.2,
      (subst (AreRunAs code answers q last c.args.first) (sym items) (all_and code answers q last c.args.first c.loop-count.count c.loop-count.list.items c.run_next-done.result (sym so) (all_later code answers qsbr allows q now last c.args.first c.loop-count.list.items step.later step.run i.3.0) e.run), omega (arith, longer, so)),
      omega (arith, len, room, had, low),
      order_later q now last (c.loop-count.count + 1) (reverse c.pop.new.self.items) step.later order,
      omega (arith, fewer, few),
      e.finds.0 ∙ i.7,
    )

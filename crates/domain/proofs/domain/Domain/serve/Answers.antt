use Rattle.domain.proofs.Cited.{rules, ◌≡◌, ℕ, List, [], length, sym, ap, ◌∙◌, subst, arith, begins_trans, View, queued_at, Lists}
use Rattle.domain.specs.declared.working.Outcome.TheVariants as outcome
use Rattle.domain.proofs.Running.{goes_looked_once, goes_trans, line_longer, rounds_at, rounds_looked, rounds_none, rounds_on, used_up_since}
use Rattle.domain.proofs.domain.Domain.serve.Goals as goal

pub loop-init : goal.loop-init
loop-init g c =
    let q = c.args.queue in
    let first : ℕ = c.args.first in
    let e = c.load_queued-queued.ensures in
    let now = c.load_queued-queued.new.seat in
    let none : Lists g.row.D.coded.code g.D.Deleter.answers q now.me.0.seen first first [] = (tt, omega arith) in
    let longer = line_longer c.args.seat.now.me.0.seen now.me.0.seen q e.looked.2.0 in
    (goes_looked_once g.P.GracePlan.QSBR g.K.ChainRule.allows c.args.seat.now now e.seat _ _ e.looked, ap (λ (v : View). v.work) e.looked.1 ∙ c.requires.queue.1, subst (Lists g.row.D.coded.code g.D.Deleter.answers q now.me.0.seen first first) (sym c.requires.list) none, c.requires.left, rounds_looked g.B.Site.sizes q first first first (queued_at g.B.Site.sizes q) c.load_queued-queued.result c.args.seat.now.me.0.looks c.args.seat.now.me.0.looks now.me.0.looks (λ k. absurd (omega (arith, k))) (search rules) (rounds_none g.B.Site.sizes q first c.args.seat.now.me.0.looks), let same = e.count.0 in omega (arith, longer, same))

pub loop-preserved : goal.loop-preserved
loop-preserved g c =
    let i = c.loop.invariant in
    let b = c.run_batch-now.ensures in
    let none : c.run_batch-now.new.left.items ≡ [] = search rules in
    (goes_trans g.P.GracePlan.QSBR g.K.ChainRule.allows c.args.seat.now c.loop.seat c.run_batch-now.new.seat i.0 b.seat, b.work, b.list, none, (let many = ap (λ (l : List _). length l) (none) in rounds_at g.B.Site.sizes c.args.queue c.args.first c.run_batch-now.result.0 _ c.run_batch-now.result.0 c.args.seat.now.me.0.looks c.run_batch-now.new.seat.me.0.looks (omega (arith, many)) (rounds_on g.B.Site.sizes c.args.queue c.args.first c.loop.count c.run_batch-now.result.0 _ c.run_batch-now.result.1 c.args.seat.now.me.0.looks c.loop.seat.me.0.looks c.run_batch-now.new.seat.me.0.looks c.loop.invariant.4 c.run_batch-now.ensures.round)), i.5)

pub returns-in-Exhausted-clause-seat : goal.returns-in-Exhausted-clause-seat
returns-in-Exhausted-clause-seat g c = goes_trans g.P.GracePlan.QSBR g.K.ChainRule.allows c.args.seat.now c.loop.seat c.run_batch-now.new.seat c.loop.invariant.0 c.run_batch-now.ensures.seat

pub returns-in-Memory-clause-seat : goal.returns-in-Memory-clause-seat
returns-in-Memory-clause-seat g c = goes_trans g.P.GracePlan.QSBR g.K.ChainRule.allows c.args.seat.now c.loop.seat c.run_batch-now.new.seat c.loop.invariant.0 c.run_batch-now.ensures.seat

pub returns-in-Exhausted-clause-exhausted : goal.returns-in-Exhausted-clause-exhausted
returns-in-Exhausted-clause-exhausted g c _ =
    let old : View = c.args.seat.now.me.0 in
    let now : View = c.loop.seat.me.0 in
    let new : View = c.run_batch-now.new.seat.me.0 in
    let i = c.loop.invariant.0 in
    let is : c.run_batch-now.result.1 ≡ outcome.Exhausted = search rules in
    used_up_since old.seen now.seen new.seen old.loads now.loads new.loads i.later i.finds.1.0 i.finds.1.1 (c.run_batch-now.ensures.exhausted is)

pub returns-in-Exhausted-clause-whole : goal.returns-in-Exhausted-clause-whole
returns-in-Exhausted-clause-whole g c _ =
    let is : c.run_batch-now.result.1 ≡ outcome.Exhausted = search rules in
    let w = c.run_batch-now.ensures.whole is in
    record { taken = w.taken; after = begins_trans c.args.seat.now.me.0.seen c.loop.seat.me.0.seen w.taken c.loop.invariant.0.later w.after; before = w.before; ran = w.ran; all = w.all; some = w.some }

pub returns-in-Exhausted-clause-rounds : goal.returns-in-Exhausted-clause-rounds
returns-in-Exhausted-clause-rounds g c = rounds_on g.B.Site.sizes c.args.queue c.args.first c.loop.count c.run_batch-now.result.0 _ c.run_batch-now.result.1 c.args.seat.now.me.0.looks c.loop.seat.me.0.looks c.run_batch-now.new.seat.me.0.looks c.loop.invariant.4 c.run_batch-now.ensures.round

pub returns-in-Memory-clause-rounds : goal.returns-in-Memory-clause-rounds
returns-in-Memory-clause-rounds g c = rounds_on g.B.Site.sizes c.args.queue c.args.first c.loop.count c.run_batch-now.result.0 _ c.run_batch-now.result.1 c.args.seat.now.me.0.looks c.loop.seat.me.0.looks c.run_batch-now.new.seat.me.0.looks c.loop.invariant.4 c.run_batch-now.ensures.round

pub returns-then-count-queued-clause-rounds : goal.returns-then-count-queued-clause-rounds
returns-then-count-queued-clause-rounds g c =
    let many = ap (λ (l : List _). length l) c.loop.invariant.3 in
    rounds_at g.B.Site.sizes c.args.queue c.args.first c.loop.count c.loop.count _ c.args.seat.now.me.0.looks c.loop.seat.me.0.looks (omega (arith, many)) c.loop.invariant.4

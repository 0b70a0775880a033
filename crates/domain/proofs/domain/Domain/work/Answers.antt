use Rattle.domain.proofs.Cited.{rules, ◌≡◌, ℕ, List, [], length, refl, sym, ap, ◌∙◌, subst, arith, begins_trans, View, Lists}
use Rattle.domain.specs.declared.working.Outcome.TheVariants as outcome
use Rattle.domain.proofs.Running.{goes_looked, goes_same, goes_trans, list_later, rounds_at, rounds_emptied, rounds_none, rounds_on, used_up_since}
use Rattle.domain.proofs.domain.Domain.work.Goals as goal

pub loop-init : goal.loop-init
loop-init g c =
    let q = c.args.queue in
    let first : ℕ = c.args.first in
    let none : Lists g.row.D.coded.code g.D.Deleter.answers q c.args.seat.now.me.0.seen first first [] = (tt, omega arith) in
    (goes_same g.P.GracePlan.QSBR g.K.ChainRule.allows c.args.seat.now c.requires.seat.2, c.requires.queue.1, subst (Lists g.row.D.coded.code g.D.Deleter.answers q c.args.seat.now.me.0.seen first first) (sym c.requires.list) none, c.requires.left, rounds_none g.B.Site.sizes q first c.args.seat.now.me.0.looks)

pub loop-preserved-in-Ran : goal.loop-preserved-in-Ran
loop-preserved-in-Ran g c =
    let i = c.loop.invariant in
    let b = c.run_batch-now.ensures in
    let is : c.run_batch-now.result.1 ≡ outcome.Ran = search rules in
    let none = b.left.1 (λ e. let z : outcome.Ran ≡ outcome.Exhausted = sym is ∙ e in cc) in
    (goes_trans g.P.GracePlan.QSBR g.K.ChainRule.allows c.args.seat.now c.loop.seat c.run_batch-now.new.seat i.0 b.seat, b.work, b.list, none, (let many = ap (λ (l : List _). length l) (none) in rounds_at g.B.Site.sizes c.args.queue c.args.first c.run_batch-now.result.0 _ c.run_batch-now.result.0 c.args.seat.now.me.0.looks c.run_batch-now.new.seat.me.0.looks (omega (arith, many)) (rounds_on g.B.Site.sizes c.args.queue c.args.first c.loop.count c.run_batch-now.result.0 _ c.run_batch-now.result.1 c.args.seat.now.me.0.looks c.loop.seat.me.0.looks c.run_batch-now.new.seat.me.0.looks c.loop.invariant.4 c.run_batch-now.ensures.round)))

pub returns-then-is_emptied-clause-seat : goal.returns-then-is_emptied-clause-seat
returns-then-is_emptied-clause-seat g c =
    let qsbr = g.P.GracePlan.QSBR in
    let allows = g.K.ChainRule.allows in
    let e = c.is_emptied.ensures in
    let looked = goes_looked qsbr allows c.run_batch-now.new.seat c.is_emptied.new.seat e.seat.0 e.seat.1 e.seat.2.0 e.later.0 e.later.2 _ _ e.exact.2 in
    goes_trans qsbr allows c.args.seat.now c.loop.seat c.is_emptied.new.seat c.loop.invariant.0
    (goes_trans qsbr allows c.loop.seat c.run_batch-now.new.seat c.is_emptied.new.seat c.run_batch-now.ensures.seat looked)

pub returns-then-is_emptied-clause-list : goal.returns-then-is_emptied-clause-list
returns-then-is_emptied-clause-list g c =
    let items = c.run_batch-now.new.list.items in
    let later = c.is_emptied.ensures.later in
    list_later g.row.D.coded.code g.D.Deleter.answers g.P.GracePlan.QSBR g.K.ChainRule.allows c.args.queue c.run_batch-now.new.seat.me.0.seen c.is_emptied.new.seat.me.0.seen c.args.first c.run_batch-now.result.0 items items later.0 later.2 refl c.run_batch-now.ensures.list

pub loop-preserved : goal.loop-preserved
loop-preserved g c =
    let qsbr = g.P.GracePlan.QSBR in
    let allows = g.K.ChainRule.allows in
    let e = c.is_emptied.ensures in
    let b = c.run_batch-now.ensures in
    let items = c.run_batch-now.new.list.items in
    let is : c.run_batch-now.result.1 ≡ outcome.Nothing = search rules in
    let none = b.left.1 (λ x. let z : outcome.Nothing ≡ outcome.Exhausted = sym is ∙ x in cc) in
    let looked = goes_looked qsbr allows c.run_batch-now.new.seat c.is_emptied.new.seat e.seat.0 e.seat.1 e.seat.2.0 e.later.0 e.later.2 _ _ e.exact.2 in (
      goes_trans qsbr allows c.args.seat.now c.loop.seat c.is_emptied.new.seat c.loop.invariant.0 (goes_trans qsbr allows c.loop.seat c.run_batch-now.new.seat c.is_emptied.new.seat b.seat looked),
      ap (λ (v : View). v.work) e.seat.2.0 ∙ b.work,
      list_later g.row.D.coded.code g.D.Deleter.answers qsbr allows c.args.queue c.run_batch-now.new.seat.me.0.seen c.is_emptied.new.seat.me.0.seen c.args.first c.run_batch-now.result.0 items items e.later.0 e.later.2 refl b.list,
      none,
      rounds_emptied g.B.Site.sizes c.args.queue c.args.first c.run_batch-now.result.0 c.run_batch-now.result.0 e.exact.0 e.exact.1 c.args.seat.now.me.0.looks c.run_batch-now.new.seat.me.0.looks c.is_emptied.new.seat.me.0.looks (search rules) (let many = ap (λ (l : List _). length l) (none) in rounds_at g.B.Site.sizes c.args.queue c.args.first c.run_batch-now.result.0 _ c.run_batch-now.result.0 c.args.seat.now.me.0.looks c.run_batch-now.new.seat.me.0.looks (omega (arith, many)) (rounds_on g.B.Site.sizes c.args.queue c.args.first c.loop.count c.run_batch-now.result.0 _ c.run_batch-now.result.1 c.args.seat.now.me.0.looks c.loop.seat.me.0.looks c.run_batch-now.new.seat.me.0.looks c.loop.invariant.4 c.run_batch-now.ensures.round)),
    )

pub returns-in-Exhausted-clause-seat : goal.returns-in-Exhausted-clause-seat
returns-in-Exhausted-clause-seat g c = goes_trans g.P.GracePlan.QSBR g.K.ChainRule.allows c.args.seat.now c.loop.seat c.run_batch-now.new.seat c.loop.invariant.0 c.run_batch-now.ensures.seat

pub returns-in-Memory-clause-seat : goal.returns-in-Memory-clause-seat
returns-in-Memory-clause-seat g c = goes_trans g.P.GracePlan.QSBR g.K.ChainRule.allows c.args.seat.now c.loop.seat c.run_batch-now.new.seat c.loop.invariant.0 c.run_batch-now.ensures.seat

pub returns-in-Exhausted-clause-exhausted : goal.returns-in-Exhausted-clause-exhausted
returns-in-Exhausted-clause-exhausted g c _ =
    let old : View = c.args.seat.now.me.0 in
    let now : View = c.loop.seat.me.0 in
    let new : View = c.run_batch-now.new.seat.me.0 in
    let i = c.loop.invariant.0 in
    let is : c.run_batch-now.result.1 ≡ outcome.Exhausted = search rules in
    used_up_since old.seen now.seen new.seen old.loads now.loads new.loads i.later i.finds.1.0 i.finds.1.1 (c.run_batch-now.ensures.exhausted is)

pub returns-in-Exhausted-clause-whole : goal.returns-in-Exhausted-clause-whole
returns-in-Exhausted-clause-whole g c _ =
    let is : c.run_batch-now.result.1 ≡ outcome.Exhausted = search rules in
    let w = c.run_batch-now.ensures.whole is in
    record { taken = w.taken; after = begins_trans c.args.seat.now.me.0.seen c.loop.seat.me.0.seen w.taken c.loop.invariant.0.later w.after; before = w.before; ran = w.ran; all = w.all; some = w.some }

pub returns-then-is_emptied-clause-rounds : goal.returns-then-is_emptied-clause-rounds
returns-then-is_emptied-clause-rounds g c =
    let e = c.is_emptied.ensures in
    rounds_emptied g.B.Site.sizes c.args.queue c.args.first c.run_batch-now.result.0 _ e.exact.0 e.exact.1 c.args.seat.now.me.0.looks c.run_batch-now.new.seat.me.0.looks c.is_emptied.new.seat.me.0.looks (search rules)
    (rounds_on g.B.Site.sizes c.args.queue c.args.first c.loop.count c.run_batch-now.result.0 _ c.run_batch-now.result.1 c.args.seat.now.me.0.looks c.loop.seat.me.0.looks c.run_batch-now.new.seat.me.0.looks c.loop.invariant.4 c.run_batch-now.ensures.round)

pub returns-in-Exhausted-clause-rounds : goal.returns-in-Exhausted-clause-rounds
returns-in-Exhausted-clause-rounds g c = rounds_on g.B.Site.sizes c.args.queue c.args.first c.loop.count c.run_batch-now.result.0 _ c.run_batch-now.result.1 c.args.seat.now.me.0.looks c.loop.seat.me.0.looks c.run_batch-now.new.seat.me.0.looks c.loop.invariant.4 c.run_batch-now.ensures.round

pub returns-in-Memory-clause-rounds : goal.returns-in-Memory-clause-rounds
returns-in-Memory-clause-rounds g c = rounds_on g.B.Site.sizes c.args.queue c.args.first c.loop.count c.run_batch-now.result.0 _ c.run_batch-now.result.1 c.args.seat.now.me.0.looks c.loop.seat.me.0.looks c.run_batch-now.new.seat.me.0.looks c.loop.invariant.4 c.run_batch-now.ensures.round

use Rattle.live_waits.proofs.Cited.{◌∷◌, ℕ, ◌∙◌, ap, arith, length-set, Loaded, Sizes, View, finished_at, queued_at}
use Rattle.live_waits.proofs.Loads.{found_more, longer, none_more, waits_more}
use Rattle.live_waits.proofs.counting.waiting.Goals as goal

pub load_finished-finished-requires : goal.load_finished-finished-requires
load_finished-finished-requires g c = let i = c.loop-queue.invariant in (i.0.0 ∙ c.requires.0, i.4, c.loop-queue-test.true)

pub load_queued-requires : goal.load_queued-requires
load_queued-requires g c =
    let i = c.loop-queue.invariant in
    let e = c.load_finished-finished.ensures in
    (e.seat.0 ∙ (i.0.0 ∙ c.requires.0), ap (λ (v : View). v.sizes) e.looked.1 ∙ i.4, c.loop-queue-test.true)

pub overflow_sub-waiting : goal.overflow_sub-waiting
overflow_sub-waiting g c =
    let e = c.load_finished-finished.ensures.count.1 in
    let f = c.load_queued.ensures.count.0 in
    let l = longer c.load_finished-finished.new.seat.me.0.seen c.load_queued.new.seat.me.0.seen c.loop-queue.queue c.load_queued.ensures.looked.2.0 in
    omega arith

pub loop-queue-preserved : goal.loop-queue-preserved
loop-queue-preserved g c =
    let qsbr = g.P.GracePlan.QSBR in
    let allows = g.K.ChainRule.allows in
    let i = c.loop-queue.invariant in
    let key : Sizes = c.args.table.now.words.shared.key in
    let q : ℕ = c.loop-queue.queue in
    let few = c.args.table.now.sized.5 in
    let low = c.loop-queue-test.true in
    let x = c.load_finished-finished.ensures in
    let y = c.load_queued.ensures in
    let e = x.count.1 in
    let f = y.count.0 in
    let l = longer c.load_finished-finished.new.seat.me.0.seen c.load_queued.new.seat.me.0.seen q y.looked.2.0 in
    let long = i.2 in
    let one = found_more qsbr allows i.1.0 c.args.seat.now.me c.loop-queue.seat.me c.load_finished-finished.new.seat.me (finished_at key q) c.load_finished-finished.result i.1.1 x.looked in
    let two = found_more qsbr allows (Loaded (finished_at key q) c.load_finished-finished.result ∷ i.1.0) c.args.seat.now.me c.load_finished-finished.new.seat.me c.load_queued.new.seat.me (queued_at key q) c.load_queued.result one y.looked in (
      (y.seat.0 ∙ (x.seat.0 ∙ i.0.0), y.seat.1 ∙ (x.seat.1 ∙ i.0.1)),
      (Loaded (queued_at key q) c.load_queued.result ∷ Loaded (finished_at key q) c.load_finished-finished.result ∷ i.1.0, two, waits_more key q c.load_queued.result c.load_finished-finished.result c.loop-queue.waiting i.1.0 _ (omega arith) (omega arith) i.1.2),
      length-set c.loop-queue.waiting q _ ∙ i.2,
      none_more q _ c.loop-queue.waiting i.3,
      ap (λ (v : View). v.sizes) y.looked.1 ∙ (ap (λ (v : View). v.sizes) x.looked.1 ∙ i.4),
    )

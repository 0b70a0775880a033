use Rattle.live_waits.proofs.Cited.{◌<◌, ◌∷◌, sym, refl, ap, ◌∙◌, subst, arith, Loaded, Sizes, View, finished_at}
use Rattle.live_waits.proofs.Barriers.{next_found, reached_more, runs_more, passes_more, all_passed, known_before}
use Rattle.live_waits.proofs.barring.barrier_done.Goals as goal

pub loop-queue-init : goal.loop-queue-init
loop-queue-init g c = ((refl, refl), (λ _. refl), (λ low. absurd (omega arith)), (λ low. absurd (omega arith)), (λ _ _ q low. absurd (omega arith)), c.requires.seat.1, (λ q low. absurd (omega arith)))

pub returns-then-load_finished-mark-clause-exact : goal.returns-then-load_finished-mark-clause-exact
returns-then-load_finished-mark-clause-exact g c =
    let i = c.loop-queue.invariant in
    let queues = c.args.table.now.sized.4 in
    let low = c.loop-queue-test.true in
    let key : Sizes = c.args.table.now.words.shared.key in
    let e = c.load_finished.ensures in
    let f = next_found g.P.GracePlan.QSBR g.K.ChainRule.allows key c.args.mark.now.counts c.loop-queue.queue c.load_finished.result c.args.seat.now.me c.loop-queue.seat.me c.load_finished.new.seat.me i.2 i.1 e.looked in
    (Loaded (finished_at key c.loop-queue.queue) c.load_finished.result ∷ f.0, f.1, record { queue = c.loop-queue.queue; low = omega arith; count = c.load_finished.result; rest = f.0; last = refl; less = c.if-load_finished-mark.true; others = f.2 })

pub loop-queue-preserved : goal.loop-queue-preserved
loop-queue-preserved g c =
    let i = c.loop-queue.invariant in
    let queues = c.args.table.now.sized.4 in
    let low = c.loop-queue-test.true in
    let reached = c.if-load_finished-mark.false in
    let key : Sizes = c.args.table.now.words.shared.key in
    let e = c.load_finished.ensures in
    let old : View = c.args.seat.now.me.0 in
    let new : View = c.load_finished.new.seat.me.0 in
    let f = next_found g.P.GracePlan.QSBR g.K.ChainRule.allows key c.args.mark.now.counts c.loop-queue.queue c.load_finished.result c.args.seat.now.me c.loop-queue.seat.me c.load_finished.new.seat.me i.2 i.1 e.looked in (
      (e.seat.0 ∙ i.0.0, e.seat.1 ∙ i.0.1),
      (λ zero. absurd (omega arith)),
      (λ _. (Loaded (finished_at key c.loop-queue.queue) c.load_finished.result ∷ f.0, f.1, reached_more key c.args.mark.now.counts c.loop-queue.queue c.load_finished.result f.0 (omega arith) f.2)),
      (λ _. e.count.2),
      (λ sizes known q under.
          let seen = c.args.mark.now.asked.value.me.0.seen in
          let covered = c.args.mark.now.noted c.loop-queue.queue (subst (λ (k : Sizes). c.loop-queue.queue < k.queues) (sym sizes) (omega arith)) in
          passes_more seen c.loop-queue.seat.me.0.seen new.seen c.loop-queue.queue _ c.load_finished.result (known_before old seen new.seen known f.1.2.0 f.1.2.1) e.looked.2.0 covered (omega arith) e.count.0 (i.4 sizes known) q under),
      ap (λ (v : View). v.sizes) e.looked.1 ∙ i.5,
      (λ q under. runs_more c.loop-queue.seat.me.0.seen new.seen c.args.mark.now.counts c.loop-queue.queue c.load_finished.result e.looked.2.0 (omega arith) (e.count.0, e.count.1) i.6 q under),
    )

pub returns-clause-run : goal.returns-clause-run
returns-clause-run g c _ q low =
    let over = c.loop-queue-test.false in
    let queues = c.args.table.now.sized.4 in
    c.loop-queue.invariant.6 q (omega arith)

pub returns-clause-passed : goal.returns-clause-passed
returns-clause-passed g c _ sizes known =
    let i = c.loop-queue.invariant in
    let over = c.loop-queue-test.false in
    let queues = c.args.table.now.sized.4 in
    let one = c.requires.queues in
    let seen = c.args.mark.now.asked.value.me.0.seen in
    let f = i.2 (omega arith) in
    all_passed c.loop-queue.queue seen c.loop-queue.seat.me.0.seen (known_before c.args.seat.now.me.0 seen c.loop-queue.seat.me.0.seen known f.1.2.0 f.1.2.1) (λ q high. i.3 (omega arith) q (omega arith)) (i.4 sizes known)

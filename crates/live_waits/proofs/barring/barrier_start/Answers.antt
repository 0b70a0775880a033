use Rattle.live_waits.proofs.Cited.{◌≡◌, ℕ, List, [], ◌∷◌, length-set, sym, refl, ap, ◌∙◌, subst, arith, Begins, begins_trans, Seat, Loaded, Sizes, View, queued_at, Precedes}
use Rattle.live_waits.specs.Barrier.{AreNoted}
use Rattle.live_waits.proofs.Barriers.{found_more, covers_more, given_more, noted_more}
use Rattle.live_waits.proofs.barring.barrier_start.Goals as goal

pub loop-queue-init : goal.loop-queue-init
loop-queue-init g c =
    let same = c.of-asked.ensures in
    let e = c.load_queued.ensures in
    let old : View = c.args.seat.now.me.0 in
    let new : View = c.load_queued.new.seat.me.0 in
    let z : List ℕ = 0 ∷ 0 ∷ 0 ∷ 0 ∷ 0 ∷ 0 ∷ 0 ∷ 0 ∷ [] in
    let asked = subst (λ (t : Seat _ View). Precedes old t.me.0.seen × Begins t.me.0.seen new.seen × (t.me.0.sizes ≡ old.sizes)) (sym same) ((e.looked.2.0, e.looked.2.1), ([], refl), ap (λ (v : View). v.sizes) e.looked.1) in (
      e.seat,
      (Loaded (queued_at c.args.table.now.words.shared.key 0) c.load_queued.result ∷ [], e.looked, ([], refl, refl)),
      asked,
      refl,
      covers_more c.of-asked.result.value.me.0.seen c.of-asked.result.value.me.0.seen new.seen 0 c.load_queued.result z (omega arith) ([], refl) asked.1 e.count.0 (λ q low. absurd (omega arith)),
      given_more c.of-asked.result.value.me.0.seen c.of-asked.result.value.me.0.seen new.seen 0 c.load_queued.result z (omega arith) ([], refl) asked.1 e.count.0 (λ q low. absurd (omega arith)),
    )

pub load_queued-requires-in-loop-queue : goal.load_queued-requires-in-loop-queue
load_queued-requires-in-loop-queue g c = let i = c.loop-queue.invariant in
    (i.0.0 ∙ c.requires.seat.0, ap (λ (v : View). v.sizes) i.1.1.1 ∙ c.requires.seat.1, c.loop-queue-test.true)

pub loop-queue-preserved : goal.loop-queue-preserved
loop-queue-preserved g c =
    let i = c.loop-queue.invariant in
    let e = c.load_queued-in-loop-queue.ensures in
    let few = c.args.table.now.sized in
    let most = few.5 in
    let low = c.loop-queue-test.true in
    let long = i.3 in
    let new : View = c.load_queued-in-loop-queue.new.seat.me.0 in (
      (e.seat.0 ∙ i.0.0, e.seat.1 ∙ i.0.1),
      (
        Loaded (queued_at c.args.table.now.words.shared.key c.loop-queue.queue) c.load_queued-in-loop-queue.result ∷ i.1.0,
        found_more g.P.GracePlan.QSBR g.K.ChainRule.allows i.1.0 c.args.seat.now.me c.loop-queue.seat.me c.load_queued-in-loop-queue.new.seat.me _ _ i.1.1 e.looked,
        noted_more c.args.table.now.words.shared.key c.loop-queue.counts c.loop-queue.queue c.load_queued-in-loop-queue.result i.1.0 (omega arith) i.1.2,
      ),
      (i.2.0, begins_trans c.of-asked.result.value.me.0.seen c.loop-queue.seat.me.0.seen new.seen i.2.1 e.looked.2.0, i.2.2),
      length-set c.loop-queue.counts c.loop-queue.queue c.load_queued-in-loop-queue.result ∙ i.3,
      covers_more c.of-asked.result.value.me.0.seen c.loop-queue.seat.me.0.seen new.seen c.loop-queue.queue c.load_queued-in-loop-queue.result c.loop-queue.counts (omega arith) i.2.1 e.looked.2.0 e.count.0 i.4,
      given_more c.of-asked.result.value.me.0.seen c.loop-queue.seat.me.0.seen new.seen c.loop-queue.queue c.load_queued-in-loop-queue.result c.loop-queue.counts (omega arith) i.2.1 e.looked.2.0 e.count.0 i.5,
    )

pub invariant_of-result : goal.invariant_of-result
invariant_of-result g c =
    let i = c.loop-queue.invariant in
    let over = c.loop-queue-test.false in
    let queues = c.args.table.now.sized.4 in
    let key = ap (λ (k : Sizes). k.queues) (i.2.2 ∙ c.requires.seat.1) in
    record { noted = λ q low. i.4 q (omega arith) }

pub returns-clause-seat : goal.returns-clause-seat
returns-clause-seat g c = c.loop-queue.invariant.0

pub returns-clause-looked : goal.returns-clause-looked
returns-clause-looked g c =
    let i = c.loop-queue.invariant in
    let over = c.loop-queue-test.false in
    let queues = c.args.table.now.sized.4 in
    let all : c.loop-queue.queue ≡ c.args.table.now.words.shared.key.queues = omega arith in
    (i.1.0, i.1.1, subst (λ n. AreNoted c.args.table.now.words.shared.key c.loop-queue.counts n i.1.0) all i.1.2)

pub returns-clause-asked : goal.returns-clause-asked
returns-clause-asked g c = c.loop-queue.invariant.2

pub returns-clause-given : goal.returns-clause-given
returns-clause-given g c q low =
    let over = c.loop-queue-test.false in
    let queues = c.args.table.now.sized.4 in
    let key = ap (λ (k : Sizes). k.queues) c.requires.seat.1 in
    c.loop-queue.invariant.5 q (omega arith)

-- The first step of a grace period.
use Rattle.live_waits.proofs.Cited.{◌≡◌, ℕ, ◌+◌, true, [], ◌∷◌, sym, refl, ap, ◌∙◌, subst, ⊎_elim, Wide, StoreSeq, present_after, Me, CallbackId, View, before_odd, SeqOdd, Works, before_in, seq_in, present_in, GraceBecomes, begins_trans}
use Rattle.live_waits.specs.Going.{Going, InLoop}
use Rattle.live_waits.proofs.Tellings.{told_first}
use Rattle.live_waits.proofs.Goings.{starts_going}
use Rattle.live_waits.proofs.Cases.{in_loop, may_start, bound_next}
use Rattle.live_waits.proofs.period.begin.Given as given
use Rattle.live_waits.proofs.period.begin.Goals as goal

seq_is : (a b : ℕ) → StoreSeq a ≡ StoreSeq b → a ≡ b
seq_is a b e = cc

-- the seat goes into the grace period
goes : (g : given.Over) (c : goal.After-take g) → Going g.P.GracePlan.QSBR g.K.ChainRule.allows c.args.seat.now.me (c.args.seq + 1) c.args.first c.args.first [] c.store_odd.new.seat.me
goes g c = let p = g.P.GracePlan in let seq : ℕ = c.args.seq in let number : ℕ = c.args.first in
    let order = g.met.P.GracePlan.order Wide true c.args.table.now.slots seq number c.start-plan.result c.start-plan.ensures in
    let odd : c.in-StoreSeq.odd ≡ seq + 1 = seq_is c.in-StoreSeq.odd (seq + 1) (sym c.in-StoreSeq.is ∙ (c.next.ensures ∙ order.first)) in
    let was : present_in c.args.seat.now.me.0.grace ≡ number = ap present_in c.requires.right.0 in
    let new = c.store_odd.new.seat.me in
    let graced = subst (λ (z : ℕ × ℕ). GraceBecomes p.QSBR g.K.ChainRule.allows (Works z.0 z.1 (before_odd new.0.seen) []) (SeqOdd ∷ []) c.args.seat.now.me new) (λ i. (odd i, was i)) c.store_odd.ensures.began in
    starts_going p.QSBR g.K.ChainRule.allows c.args.seat.now.me (seq + 1) number new graced (c.store_odd.ensures.words.1 ∙ was) (ap (λ (n : ℕ). n + 1) (c.store_odd.ensures.words.0 ∙ ap seq_in c.requires.right.0))

pub returns-clause-under_way : goal.returns-clause-under_way
returns-clause-under_way g c = λ asked known. let go = goes g c in let mark = before_in c.store_odd.new.seat.me.0.grace in record {
  after = ⊎_elim (λ s. begins_trans asked c.args.seat.now.me.0.seen mark s go.after.0) (λ h. begins_trans asked c.args.seat.now.me.0.heard mark h go.after.1) known;
  since = begins_trans mark (SeqOdd ∷ mark) c.store_odd.new.seat.me.0.seen (SeqOdd ∷ [], refl) go.since;
  run = go.run;
}

pub returns-clause-going : goal.returns-clause-going
returns-clause-going g c = let p = g.P.GracePlan in let m = g.met.P.GracePlan in let slots : ℕ = c.args.table.now.slots in let seq : ℕ = c.args.seq in let number : ℕ = c.args.first in
    let start = c.start-plan.result in
    let begun = c.start-plan.ensures in
    let order = m.order Wide true slots seq number start begun in
    let odd : c.in-StoreSeq.odd ≡ seq + 1 = seq_is c.in-StoreSeq.odd (seq + 1) (sym c.in-StoreSeq.is ∙ (c.next.ensures ∙ order.first)) in
    let was : present_in c.args.seat.now.me.0.grace ≡ number = ap present_in c.requires.right.0 in
    let new = c.store_odd.new.seat.me in
    let graced = subst (λ (z : ℕ × ℕ). GraceBecomes p.QSBR g.K.ChainRule.allows (Works z.0 z.1 (before_odd new.0.seen) []) (SeqOdd ∷ []) c.args.seat.now.me new) (λ i. (odd i, was i)) c.store_odd.ensures.began in
    let go = goes g c in
    let present = m.begins Wide true slots seq number start begun (may_start p.QSBR seq number c.requires.right.3) in
    let same = sym (m.presents start 0 ∙ (ap (present_after (p.present start)) order.first ∙ present)) in
    let wrote = c.store_odd.ensures.began.1 in
    let mark : before_in new.0.grace ≡ wrote.0 = ap (λ (z : Me CallbackId View). before_in z.0.grace) graced.0 ∙ ap before_odd wrote.1 in
    let told = told_first p.action p.taken seq start order (before_in new.0.grace) new.0.seen ([], wrote.0, wrote.1, ([], sym mark)) in
    subst (λ plan. InLoop (p.is_begun Wide true slots seq number) p.action p.taken p.present seq p.QSBR g.K.ChainRule.allows c.args.seat.now.me number plan new) (sym c.take.ensures.taken)
    (in_loop (p.is_begun Wide true slots seq number) p.action p.taken p.present seq p.QSBR g.K.ChainRule.allows c.args.seat.now.me number number [] (p.taken start 0) new go
    same
    (record { start = start; begun = begun; told = told })
    (bound_next p.QSBR seq number c.requires.right.3))

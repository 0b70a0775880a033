use Rattle.live_waits.proofs.Cited.{◌≡◌, ◌%◌, arith, List, [], ℕ, refl, sym, ap, ◌∙◌, subst, vec_len, vec_capacity, In, Log, Begins, View}
use Rattle.live_waits.proofs.Scans.{and_slot, chosen, scan_more, scan_over}
use Rattle.live_waits.proofs.stalling.stalled.Goals as goal
use Rattle.live_waits.proofs.stalling.stalled.Goals.{then-is_in_way, else-is_in_way}

pub returns-then-load_seq-eq0-clause-told : goal.returns-then-load_seq-eq0-clause-told
returns-then-load_seq-eq0-clause-told g c =
    let e = c.load_seq.ensures.looked in
    let old : View = c.args.seat.now.me.0 in
    let start : Log = c.load_seq.new.seat.me.0.seen in
    let is = c.load_seq.ensures.seq in
    let even = c.if-load_seq-eq0.true in
    record {
      start = start;
      found = [];
      load = ap (λ m. m.0.loads) e.0;
      looks = ap (λ m. m.0.looks) e.0;
      after = (subst (Begins old.seen) (sym e.1.1) e.1.2, subst (Begins old.heard) (sym e.1.1) e.1.3);
      later = ([], refl);
      run = e.1.4;
      resting = λ _. (c.in-Ok.ensures.items, refl);
      running = λ odd. absurd (odd (ap (λ (n : ℕ). n % 2) is ∙ even));
      had_open = λ r i. absurd (subst (λ (l : List ℕ). In l r) c.in-Ok.ensures.items i);
    }

pub loop-slot-preserved : goal.loop-slot-preserved
loop-slot-preserved g c =
    let i = c.loop-slot.invariant in
    let e = c.look_slot-word.ensures in
    let old : View = c.args.seat.now.me.0 in
    let before : View = c.loop-slot.seat.me.0 in
    let now : View = c.look_slot-word.new.seat.me.0 in
    let room = i.3 in
    let low = c.loop-slot-test.true in
    let is : c.if-is_in_way.slots.items ≡ and_slot g.P.GracePlan.QSBR c.load_present-present.result c.loop-slot.slot c.look_slot-word.result c.loop-slot.slots.items =
    elim c.if-is_in_way.branch [
      | then-is_in_way w ↦ ap (λ l. l.items) w.slots-is ∙ (w.push_reserved.ensures.items ∙ sym (chosen g.P.GracePlan.QSBR c.load_present-present.result c.loop-slot.slot c.look_slot-word.result c.loop-slot.slots.items _ (sym c.is_in_way.ensures ∙ w.if-is_in_way.true)))
      | else-is_in_way w ↦ ap (λ l. l.items) w.slots-is ∙ sym (chosen g.P.GracePlan.QSBR c.load_present-present.result c.loop-slot.slot c.look_slot-word.result c.loop-slot.slots.items _ (sym c.is_in_way.ensures ∙ w.if-is_in_way.false))
    ]
    in (
      (e.seat.0 ∙ i.0.0, e.seat.1 ∙ i.0.1),
      e.looked.0 ∙ i.1,
      ap (λ (v : View). v.sizes) e.looked.1 ∙ i.2,
      elim c.if-is_in_way.branch [
        | then-is_in_way w ↦ (let l = ap (λ l. vec_len l) w.slots-is in let k = ap (λ l. vec_capacity l) w.slots-is in let p = w.push_reserved.ensures.len in let q = w.push_reserved.ensures.capacity in omega arith)
        | else-is_in_way w ↦ (let l = ap (λ l. vec_len l) w.slots-is in let k = ap (λ l. vec_capacity l) w.slots-is in omega arith)
      ],
      scan_more g.P.GracePlan.QSBR g.K.ChainRule.allows old.seen old.heard old.loads before.loads old.looks c.load_present-present.result c.loop-slot.slot c.look_slot-word.result now.loads before.looks now.looks c.loop-slot.slots.items c.if-is_in_way.slots.items before.seen now.seen
          (ap (λ (v : View). v.loads) e.looked.1) (ap (λ (v : View). v.looks) e.looked.1) e.looked.2.0 e.looked.2.2 e.word is i.4,
    )

pub returns-clause-told : goal.returns-clause-told
returns-clause-told g c =
    let i = c.loop-slot.invariant in
    let old : View = c.args.seat.now.me.0 in
    let now : View = c.loop-slot.seat.me.0 in
    let over = c.loop-slot-test.false in
    let most = c.loop-slot.auto.slot-end in
    let sized = c.args.table.now.sized.0 in
    scan_over g.P.GracePlan.QSBR g.K.ChainRule.allows old.seen old.heard old.loads now.loads old.looks c.load_present-present.result c.loop-slot.slot 0 c.args.table.now.words.shared.key now.looks c.loop-slot.slots.items now.seen (omega arith) i.4

use Rattle.live_waits.proofs.Cited.{◌++◌, ℕ, append_assoc, sym, refl, ap, ◌∙◌, subst, Log, Begins, begins_trans, Sizes, View}
use Rattle.live_waits.specs.Status.{AreInUse, AreWaiting, HasNone, Looks}
use Rattle.live_waits.proofs.counting.count_all.Goals as goal

pub returns-clause-counted : goal.returns-clause-counted
returns-clause-counted g c =
    let key : Sizes = c.args.table.now.words.shared.key in
    let w = c.waiting-waiting.ensures in
    let r = c.records-records.ensures in
    let of_queues : Looks = w.counted.0 in
    let of_records : Looks = r.counted.0 in
    let old : Looks = c.args.seat.now.me.0.looks in
    let last = ap (λ m. m.0.looks) c.load_seq.ensures.looked.0 in
    let looks = last ∙ (ap (λ (v : View). v.looks) r.counted.1.1 ∙ (ap (λ (l : Looks). of_records ++ l) (ap (λ (v : View). v.looks) w.counted.1.1) ∙ sym (append_assoc of_records of_queues old))) in
    let sized = c.args.table.now.sized in (
      of_records ++ of_queues,
      looks,
      record {
        of_records = of_records;
        of_queues = of_queues;
        all = refl;
        records = subst (λ (n : ℕ). AreInUse key n c.records-records.result of_records) sized.6 r.counted.2;
        waiting = subst (λ (n : ℕ). AreWaiting key n c.waiting-waiting.result of_queues) sized.4 w.counted.2;
        others = subst (λ (n : ℕ). HasNone n c.waiting-waiting.result) sized.4 w.others;
      },
    )

pub returns-clause-later : goal.returns-clause-later
returns-clause-later g c =
    let w = c.waiting-waiting.ensures.counted.1 in
    let r = c.records-records.ensures.counted.1 in
    let e = c.load_seq.ensures.looked.1 in
    let old : View = c.args.seat.now.me.0 in
    let one : Log = c.waiting-waiting.new.seat.me.0.seen in
    let two : Log = c.records-records.new.seat.me.0.seen in
    let last : Log = c.load_seq.new.seat.me.0.seen in
    let seen : Begins two last = subst (Begins two) (sym e.1) e.2 in
    let heard : Begins c.records-records.new.seat.me.0.heard last = subst (Begins c.records-records.new.seat.me.0.heard) (sym e.1) e.3 in
    let same = ap (λ (v : View). v.heard) r.1 ∙ ap (λ (v : View). v.heard) w.1 in
    (begins_trans old.seen one last w.2 (begins_trans one two last r.2 seen), subst (λ (l : Log). Begins l last) same heard, e.4)

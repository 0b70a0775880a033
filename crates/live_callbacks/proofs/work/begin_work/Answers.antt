use Rattle.live_callbacks.proofs.Cited.{◌≡◌, ℕ, ◌∷◌, sym, ap, ◌∙◌, arith, begins_trans, Loaded, Stored, View, Works, finished_at, work_at, finished_in}
use Rattle.live_callbacks.specs.Working.{Looks}
use Rattle.live_callbacks.proofs.work.begin_work.Goals as goal

pub returns-clause-begun : goal.returns-clause-begun
returns-clause-begun g c =
    let q = c.args.queue in
    let key = c.args.table.now.words.shared.key in
    let old : View = c.args.seat.now.me.0 in
    let between : View = c.hold_work-found.new.seat.me.0 in
    let new : View = c.load_finished.new.seat.me.0 in
    let first : ℕ = c.load_finished.result in
    let zero : c.hold_work-found.result ≡ 0 = let no = c.if-found-ne0.false in omega (arith, no) in
    let held = c.hold_work-found.ensures.held zero in
    let looked = c.load_finished.ensures.looked in
    let count = c.load_finished.ensures.count in
    let work : between.work ≡ Works q (finished_in between.work) = ap (λ (v : View). v.work) held.0.1 in
    let own : first ≡ finished_in between.work = c.load_finished.ensures.own (finished_in between.work) work in
    let later = begins_trans old.seen between.seen new.seen held.0.2.0 looked.2.0 in
    let heard = begins_trans old.heard between.seen new.seen held.0.2.1 looked.2.0 in
    let low = c.if-queue-table.false in (
      omega (arith, low),
      ap (λ (v : View). v.work) looked.1 ∙ (work ∙ ap (λ (n : ℕ). Works q n) (sym own)),
      count.0,
      count.1,
      (later, heard),
      looked.2.2,
      ap (λ (v : View). v.looks) looked.1 ∙ ap (λ (l : Looks). Loaded (finished_at key q) first ∷ l) (ap (λ (v : View). v.looks) held.0.1 ∙ ap (λ (n : ℕ). Stored (work_at key q) 1 ∷ Loaded (work_at key q) n ∷ old.looks) zero),
    )

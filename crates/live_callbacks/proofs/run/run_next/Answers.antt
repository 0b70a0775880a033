use Rattle.live_callbacks.proofs.Cited.{◌≡◌, [], ◌∷◌, refl, sym, ap, ◌∙◌, subst, inr, arith, Log, Begins, begins_trans, has_since, View, WorkRight, finished_in, work_in, HasRunAt, Ripe}
use Rattle.live_callbacks.specs.Batches.{ripe_in}
use Rattle.live_callbacks.proofs.Batches.{ripe_stays}
use Rattle.live_callbacks.proofs.Ripening.{has_run, ripe_next, stands_later}
use Rattle.live_callbacks.proofs.run.run_next.Goals as goal

pub run-deleter-requires-clause-ripe : goal.run-deleter-requires-clause-ripe
run-deleter-requires-clause-ripe g c =
    let placed = c.requires.item in
    let due = c.requires.due.2 in
    let low = c.requires.due.0 in
    let many = due.3 in
    let was : Log = c.args.item.job.0.seen in
    let seen : Log = c.args.seat.now.me.0.seen in
    ripe_next g.P.GracePlan.QSBR g.K.ChainRule.allows was due.0 seen seen c.args.queue c.args.finished c.args.item.object c.requires.due.3 placed.turn placed.known ([], refl) due.1 (omega (arith, low, many)) due.2

pub store_finished-requires-clause-has_run : goal.store_finished-requires-clause-has_run
store_finished-requires-clause-has_run g c =
    let placed = c.requires.item in
    let ran = c.run-deleter.ensures.run in
    let was : Log = c.args.item.job.0.seen in
    let log : Log = c.run-deleter.new.worker.me.0.heard in
    let on : Begins was log = subst (Begins was) (sym ran.wrote) (begins_trans was ran.before (_ ∷ ran.before) ran.after_job (_ ∷ [], refl)) in
    let known : HasRunAt c.args.queue c.args.finished log = (c.args.item.object, stands_later was log c.args.queue c.args.finished c.args.item.object on placed.turn, has_run ran.before log log c.args.item.object ran.wrote ([], refl)) in
    let work = ap (λ z. z.0.work) c.run-deleter.ensures.worker.1 ∙ c.requires.queue.1 in
    inr (subst (λ (r : WorkRight). HasRunAt (work_in r) (finished_in r) log) (sym work) known)

pub returns-clause-finds : goal.returns-clause-finds
returns-clause-finds g c =
    let done = c.store_finished.ensures.finished.1 in
    let ran = c.run-deleter.ensures.worker.1 in
    (ap (λ (v : View). v.looks) done ∙ ap (λ m. m.0.looks) ran, ap (λ (v : View). v.loads) done ∙ ap (λ m. m.0.loads) ran)

pub returns-clause-seen : goal.returns-clause-seen
returns-clause-seen g c =
    let seen : Log = c.args.seat.now.me.0.seen in
    let last : Log = c.store_finished.new.seat.me.0.seen in
    let done = c.store_finished.ensures.finished in
    let same = ap (λ z. z.0.seen) c.run-deleter.ensures.worker.1 in
    (subst (λ (l : Log). Begins l last) same done.2.0, done.2.2)

pub returns-clause-called : goal.returns-clause-called
returns-clause-called g c =
    let o = c.args.item.object in
    let deleter = c.args.item.job.2 in
    let log : Log = c.run-deleter.new.worker.me.0.heard in
    let last : Log = c.store_finished.new.seat.me.0.seen in
    let ran = c.run-deleter.ensures.run in
    let ripe : Ripe = c.run-deleter.result.0 in
    let done = c.store_finished.ensures.finished.2 in
    let is : ripe ≡ ripe_in log o = λ i. record { object = c.run-deleter.ensures.ripe.0 i; payload = c.run-deleter.ensures.ripe.1 i } in
    let same : ripe ≡ ripe_in last o = is ∙ sym (ripe_stays g.P.GracePlan.QSBR g.K.ChainRule.allows log last o done.1 done.2 (has_run ran.before log log o ran.wrote ([], refl))) in
    (refl, subst (λ (d : g.row.D.Denot). g.D.Deleter.answers d (ripe_in last o) c.call-code.result) c.run-deleter.ensures.callback (subst (λ (r : Ripe). g.D.Deleter.answers c.run-deleter.result.1 r c.call-code.result) same c.call-code.ensures))

pub returns-clause-run : goal.returns-clause-run
returns-clause-run g c =
    let placed = c.requires.item in
    let ran = c.run-deleter.ensures.run in
    let was : Log = c.args.item.job.0.seen in
    let log : Log = c.run-deleter.new.worker.me.0.heard in
    let last : Log = c.store_finished.new.seat.me.0.seen in
    let heard : Begins log last = c.store_finished.ensures.finished.2.1 in
    let on : Begins was log = subst (Begins was) (sym ran.wrote) (begins_trans was ran.before (_ ∷ ran.before) ran.after_job (_ ∷ [], refl)) in
    let mine = c.run-deleter.ensures.queued ∙ ap g.row.D.coded.code c.run-deleter.ensures.callback in
    record {
      ticket = refl;
      turn = stands_later was last c.args.queue c.args.finished c.args.item.object (begins_trans was log last on heard) placed.turn;
      run = has_run ran.before log last c.args.item.object ran.wrote heard;
      called = (c.args.item.job.2, (placed.noted.0, placed.noted.1 ∙ mine, has_since _ was last (begins_trans was log last on heard) placed.noted.2), (returns-clause-called g c).1);
    }

use Rattle.live_callbacks.proofs.Cited.{◌≡◌, ℕ, [], ◌∷◌, ◌++◌, refl, sym, ap, ◌∙◌, subst, List, ObjectId, Object, Run, Log, Begins, payload_of, words_in, begins_trans, note_stays, View, object_in}
use Rattle.live_callbacks.specs.Items.{JobValue}
use Rattle.live_callbacks.specs.Running.{Runs}
use Rattle.live_callbacks.proofs.job.Job.run.Goals as goal

pub returns-clause-worker : goal.returns-clause-worker
returns-clause-worker g c =
    let told = c.tell.ensures in
    let learned = c.learn-2.ensures in
    let old : View = c.args.worker.now.me.0 in
    let between : View = c.tell.new.seat.me.0 in
    let new : View = c.learn-2.new.seat.me.0 in
    let same : between ≡ old = ap (λ z. z.0) told.2 in
    let job = ap (λ z. z.0) c.tell-2.ensures.4 in
    let view = ap (λ z. z.0) learned.2 in
    let rights = ap (λ z. z.1) learned.2 ∙ ap (λ z. z.1) told.2 in
    let found = ap (λ (v : View). v.looks ++ between.looks) job in
    let loaded = ap (λ (v : View). v.loads ++ between.loads) job in
    let is : new ≡ record old { heard = new.heard } = view ∙ (λ i. record (same i) { heard = (sym view i).heard; looks = (found ∙ ap (λ (v : View). v.looks) same) i; loads = (loaded ∙ ap (λ (v : View). v.loads) same) i }) in
    ((learned.0 ∙ told.0, learned.1 ∙ told.1), λ i. (is i, rights i))

pub returns-clause-run : goal.returns-clause-run
returns-clause-run g c =
    let qsbr = g.P.GracePlan.QSBR in
    let allows = g.K.ChainRule.allows in
    let job : View = c.self.inside.seat.me.0 in
    let worker : View = c.args.worker.now.me.0 in
    let first : View = c.learn.new.seat.me.0 in
    let second : View = c.load_words-payload.new.seat.me.0 in
    let learn = ap (λ z. z.0) c.learn.ensures.2 in
    let looked = c.load_words-payload.ensures.looked in
    let ran = c.store_run.ensures.ran in
    let before : Log = ran.2.0 in
    let log : Log = c.store_run.new.seat.me.0.seen in
    let heard : first.heard ≡ worker.seen = ap (λ (v : View). v.heard) learn ∙ ap (λ z. z.0.seen) c.tell.ensures.4 in
    let o : object_in second.object ≡ c.args.object = ap (λ (v : View). object_in v.object) looked.1 ∙ (ap (λ (v : View). object_in v.object) learn ∙ (ap (λ (j : JobValue g.row.C.Denot). object_in j.0.object) c.self.view_is ∙ sym c.requires.object)) in
    let here : Runs qsbr allows job.seen worker.seen c.args.object log = record {
      before = before;
      after_job = subst (λ (l : Log). Begins l before) (ap (λ (v : View). v.seen) learn) (begins_trans first.seen second.seen before looked.2.0 ran.2.2);
      after_worker = subst (λ (l : Log). Begins l before) heard (begins_trans first.heard second.seen before looked.2.1 ran.2.2);
      wrote = ran.2.1 ∙ ap (λ (p : ObjectId). Object (Run p) ∷ before) o;
      run = ran.2.4;
    } in
    let last = ap (λ z. z.0.seen) c.tell-2.ensures.4 in
    subst (λ (j : JobValue g.row.C.Denot). Runs qsbr allows j.0.seen worker.seen c.args.object c.learn-2.new.seat.me.0.heard) c.self.view_is
    (subst (Runs qsbr allows job.seen worker.seen c.args.object) (sym (ap (λ z. z.0.heard) c.learn-2.ensures.2 ∙ last)) here)

pub returns-clause-ripe : goal.returns-clause-ripe
returns-clause-ripe g c =
    let qsbr = g.P.GracePlan.QSBR in
    let allows = g.K.ChainRule.allows in
    let first : View = c.learn.new.seat.me.0 in
    let second : View = c.load_words-payload.new.seat.me.0 in
    let learn = ap (λ z. z.0) c.learn.ensures.2 in
    let words = c.load_words-payload.ensures.words in
    let ran = c.store_run.ensures.ran in
    let before : Log = ran.2.0 in
    let log : Log = c.store_run.new.seat.me.0.seen in
    let later : Begins second.seen log = subst (Begins second.seen) (sym ran.2.1) (begins_trans second.seen before (_ ∷ before) ran.2.2 (_ ∷ [], refl)) in
    let o : object_in first.object ≡ c.args.object = ap (λ (v : View). object_in v.object) learn ∙ (ap (λ (j : JobValue g.row.C.Denot). object_in j.0.object) c.self.view_is ∙ sym c.requires.object) in
    let kept = ap (λ (note : ℕ × List ℕ). words_in note.1) (sym (note_stays qsbr allows second.seen log (object_in first.object) later ran.2.4 words.1)) in
    let last = ap (λ z. z.0.seen) c.tell-2.ensures.4 in
    (refl, words.0 ∙ (kept ∙ (ap (payload_of log) o ∙ ap (λ (l : Log). payload_of l c.args.object) (sym (ap (λ z. z.0.heard) c.learn-2.ensures.2 ∙ last)))))

use Rattle.rcu_hash.proofs.Cited.{begins_trans, Log, Begins, tabled, CountsLeft, IsStopped, numbers_of, Uses, IsTidied, IsQueueAmong, stays_both, LoadedOnce, Synchronized, FindsNothing, Look, ◌≡◌, ℕ, [], ◌∷◌, ◌∙◌, ◌<◌, ◌++◌, List, refl, sym, ap, subst, inl, inr, append_assoc, IfNone, append-nil, counts_since, uses_none, uses_both, frees_nothing, ended_since, loaded_since, IfSome_then, uses_up_heard}
use Rattle.rcu_hash.proofs.table.RcuHash.tidy.Goals as goal

pub returns-in_default-clause-heard : goal.returns-in_default-clause-heard
returns-in_default-clause-heard g c =
    let w = g.W.Caller in let w0 = c.args.caller.now in let w1 = c.loop.caller in let w2 = c.find_left.new.caller in let i = c.loop.invariant in let h = c.find_left.ensures.heard in record {
      after_seen = subst (λ (l : Log). Begins l (w.heard w2)) i.same.0.0 h.after_seen;
      after_heard = begins_trans (w.heard w0) (w.heard w1) (w.heard w2) i.heard h.after_heard;
      run = h.run;
    }

pub loop-preserved-in-Err : goal.loop-preserved-in-Err
loop-preserved-in-Err g c =
    let w = g.W.Caller in let w0 = c.args.caller.now in let w1 = c.loop.caller in let w2 = c.find_left.new.caller in let w3 = c.synchronize.new.caller in let w4 = c.count_left-left.new.caller in
    let i = c.loop.invariant in let h = c.find_left.ensures in let k = c.in-Err.ensures.caller in let l = c.in-Err.ensures.refused.1 in let m = c.count_left-left.ensures in record {
      jobs = i.jobs;
      same = (stays_both w w0 w1 w4 i.same.0 (stays_both w w1 w2 w4 h.same.0.0 (stays_both w w2 w3 w4 k.0 m.same.0.0)), m.same.0.1 ∙ (k.1 ∙ (h.same.0.1 ∙ i.same.1)));
      waits = (w.heard w3 ∷ i.waits.0, m.same.1 ∙ (l.load ∙ ap (λ (z : List Log). w.heard w3 ∷ z) (h.same.1 ∙ i.waits.1)));
      heard = begins_trans (w.heard w0) (w.heard w1) (w.heard w4) i.heard (begins_trans (w.heard w1) (w.heard w2) (w.heard w4) h.heard.after_heard (begins_trans (w.heard w2) (w.heard w3) (w.heard w4) l.after.after_heard m.heard.after_heard));
    }

-- another thread has made the table grow meanwhile
pub loop-preserved : goal.loop-preserved
loop-preserved g c =
    let w = g.W.Caller in let w0 = c.args.caller.now in let w1 = c.loop.caller in let w2 = c.find_left.new.caller in let w3 = c.synchronize.new.caller in let w4 = c.retire_behind.new.caller in
    let i = c.loop.invariant in let h = c.find_left.ensures in let k = c.in_default-synchronize.ensures.caller in let s = c.in_default-synchronize.ensures.ended in let b = c.in-Err-retire_behind.ensures.back in
    let same : FindsNothing w w0 w3 = (stays_both w w0 w1 w3 i.same.0 (stays_both w w1 w2 w3 h.same.0.0 k.0), k.1 ∙ (h.same.0.1 ∙ i.same.1)) in
    let heard = begins_trans (w.heard w0) (w.heard w1) (w.heard w3) i.heard (begins_trans (w.heard w1) (w.heard w2) (w.heard w3) h.heard.after_heard (begins_trans (w.heard w2) s.asked (w.heard w3) s.after.after_heard s.later)) in record {
      jobs = b.0 ∙ i.jobs;
      same = subst (FindsNothing w w0) (sym b.1) same;
      waits = (
        s.loads_since ++ s.asked ∷ i.waits.0,
        ap w.loads b.1 ∙ (s.first_load ∙ (ap (λ (l : List Log). s.loads_since ++ s.asked ∷ l) (h.same.1 ∙ i.waits.1) ∙ sym (append_assoc s.loads_since (s.asked ∷ i.waits.0) (w.loads w0)))),
      );
      heard = subst (λ x. Begins (w.heard w0) (w.heard x)) (sym b.1) heard;
    }

pub returns-then-left-gt0-clause-jobs : goal.returns-then-left-gt0-clause-jobs
returns-then-left-gt0-clause-jobs g c = let d = c.stopped.ensures in ([], ap (λ (v : _). v.items) (sym (d.2 ∙ c.loop.invariant.jobs)) ∙ sym (append-nil c.stopped.result.jobs.items), sym d.0)

pub returns-then-left-gt0-clause-tidied : goal.returns-then-left-gt0-clause-tidied
returns-then-left-gt0-clause-tidied g c =
    let w = g.W.Caller in let w0 = c.args.caller.now in let w1 = c.loop.caller in let w2 = c.find_left.new.caller in let w3 = c.synchronize.new.caller in let w4 = c.count_left-left.new.caller in
    let i = c.loop.invariant in let h = c.find_left.ensures in let k = c.in-Err.ensures.caller in let l = c.in-Err.ensures.refused.1 in let m = c.count_left-left.ensures in
    inr (
      ap (λ (v : _). v.items) (c.stopped.ensures.2 ∙ i.jobs),
      (stays_both w w0 w1 w4 i.same.0 (stays_both w w1 w2 w4 h.same.0.0 (stays_both w w2 w3 w4 k.0 m.same.0.0)), m.same.0.1 ∙ (k.1 ∙ (h.same.0.1 ∙ i.same.1))),
      (w.heard w3 ∷ i.waits.0, m.same.1 ∙ (l.load ∙ ap (λ (z : List Log). w.heard w3 ∷ z) (h.same.1 ∙ i.waits.1))),
    )

pub returns-then-left-gt0-clause-stopped : goal.returns-then-left-gt0-clause-stopped
returns-then-left-gt0-clause-stopped g c =
    let q = g.P.GracePlan.QSBR in let w = g.W.Caller in let w0 = c.args.caller.now in let w1 = c.loop.caller in let w2 = c.find_left.new.caller in let w3 = c.synchronize.new.caller in let w4 = c.count_left-left.new.caller in
    let i = c.loop.invariant in let h = c.find_left.ensures in let r = c.in-Err.ensures.refused in let d = c.stopped.ensures in let m = c.count_left-left.ensures in let n = c.args.self.now.directory in
    let seen : Begins (w.seen w0) (w.heard w2) = subst (λ (l : Log). Begins l (w.heard w2)) i.same.0.0 h.heard.after_seen in
    let heard : Begins (w.heard w0) (w.heard w2) = begins_trans (w.heard w0) (w.heard w1) (w.heard w2) i.heard h.heard.after_heard in
    let stays = stays_both w w0 w1 w3 i.same.0 (stays_both w w1 w2 w3 h.same.0.0 c.in-Err.ensures.caller.0) in
    let counted = counts_since w q tabled w0 w3 w4 n m.counted.0 c.count_left-left.result stays.0 (begins_trans (w.heard w0) (w.heard w2) (w.heard w3) heard r.1.after.after_heard) m.counted.1 in
    let loaded = loaded_since q tabled (w.seen w0) (w.heard w0) (w.seen w2) (w.heard w2) (w.loads w0) (w.loads w2) i.waits.0 (w.loads w3) (w.heard w3) seen heard (h.same.1 ∙ i.waits.1) r.1 in
    IfSome_then c.stopped.result.stop d.4 (λ e k. (
      subst (λ (n : ℕ). 0 < n) (sym d.1) k.1,
      (
        m.counted.0,
        subst (CountsLeft w q tabled w0 w4 n m.counted.0) (sym d.1) counted,
        inl (k.0 ∙ r.0, d.0, (w.heard w3, i.waits.0, subst (λ (ls : List Log). LoadedOnce q tabled (w.seen w0) (w.heard w0) (i.waits.0 ++ w.loads w0) ls (w.heard w3)) (sym m.same.1) loaded, r.2, m.heard.after_heard, m.heard.run)),
      ),
    ))

pub returns-then-left-gt0-clause-heard : goal.returns-then-left-gt0-clause-heard
returns-then-left-gt0-clause-heard g c =
    let w = g.W.Caller in let w0 = c.args.caller.now in let w1 = c.loop.caller in let w2 = c.find_left.new.caller in let w3 = c.synchronize.new.caller in let w4 = c.count_left-left.new.caller in
    let i = c.loop.invariant in let h = c.find_left.ensures.heard in let m = c.count_left-left.ensures.heard in
    let on = begins_trans (w.heard w2) (w.heard w3) (w.heard w4) c.in-Err.ensures.refused.1.after.after_heard m.after_heard in record {
      after_seen = begins_trans (w.seen w0) (w.heard w2) (w.heard w4) (subst (λ (l : Log). Begins l (w.heard w2)) i.same.0.0 h.after_seen) on;
      after_heard = begins_trans (w.heard w0) (w.heard w1) (w.heard w4) i.heard (begins_trans (w.heard w1) (w.heard w2) (w.heard w4) h.after_heard on);
      run = m.run;
    }

pub returns-in-Ok : goal.returns-in-Ok
returns-in-Ok g c =
    let q = g.P.GracePlan.QSBR in let w = g.W.Caller in let code = g.row.D.coded.code in let sizes = g.B.Site.sizes in let w0 = c.args.caller.now in let w1 = c.loop.caller in let w2 = c.find_left.new.caller in let w3 = c.synchronize.new.caller in let w4 = c.retire_behind.new.caller in
    let i = c.loop.invariant in let h = c.find_left.ensures in let k = c.in_default-synchronize.ensures.caller in let s = c.in_default-synchronize.ensures.ended in let end = c.in-Ok.end in let e = c.in-Ok.ensures in
    let d = c.args.self.now.directory in let its = c.in-Some-find_left.ensures.some.0 in let jobs = c.args.jobs.items in let left = end.jobs.items in let found = k.1 ∙ (h.same.0.1 ∙ i.same.1) in
    let stays = stays_both w w0 w1 w3 i.same.0 (stays_both w w1 w2 w3 h.same.0.0 k.0) in
    let seen : Begins (w.seen w0) (w.heard w2) = subst (λ (l : Log). Begins l (w.heard w2)) i.same.0.0 h.heard.after_seen in
    let heard : Begins (w.heard w0) (w.heard w2) = begins_trans (w.heard w0) (w.heard w1) (w.heard w2) i.heard h.heard.after_heard in
    let goes : Begins (w.heard w2) (w.heard w3) = begins_trans (w.heard w2) s.asked (w.heard w3) s.after.after_heard s.later in
    let on = begins_trans (w.heard w2) (w.heard w3) (w.heard w4) goes (uses_up_heard e.uses) in
    let waited = ended_since q tabled (w.seen w0) (w.heard w0) (w.seen w2) (w.heard w2) (w.loads w0) (w.loads w2) i.waits.0 (w.loads w3) (w.heard w3) seen heard (h.same.1 ∙ i.waits.1) s in
    let own = subst (λ (n : ℕ). Uses q tabled sizes n (w.seen w3) w code w3 w4 c.loop.jobs.items left (w.heard w3) (w.heard w4)) its e.uses.uses in
    let rest = subst (λ (v : _). Uses q tabled sizes d (w.seen w3) w code w3 w4 v.items left (w.heard w3) (w.heard w4)) i.jobs own in record {
      jobs = (e.jobs.0, ap (λ (v : _). v.items) (sym i.jobs) ∙ e.jobs.1, e.jobs.2);
      tidied = inl (record {
        earlier = i.waits.0;
        waited = w.heard w3;
        ended = subst (λ (l : List Log). Synchronized q tabled (w.seen w0) (w.heard w0) (i.waits.0 ++ w.loads w0) l (w.heard w3)) (sym e.uses.loads) waited;
        uses = uses_both q tabled sizes d (w.seen w0) w code w0 w3 w4 jobs jobs left (w.heard w3) (w.heard w3) (w.heard w4)
            (uses_none q tabled sizes d (w.seen w0) w code w0 w3 jobs (w.heard w3) (w.heard w3) stays ([], found, frees_nothing sizes) ([], refl))
            (subst (λ (l : Log). Uses q tabled sizes d l w code w3 w4 jobs left (w.heard w3) (w.heard w4)) stays.0 rest);
      });
      done = subst (λ (n : ℕ). IfNone end.stop ((end.left ≡ 0) × IsTidied n (w.heard w4))) its e.done;
      stopped = IfSome_then end.stop e.stopped (λ x t. (
        t.0,
        (
          t.1.0,
          counts_since w q tabled w0 w3 w4 d t.1.0 end.left stays.0 (begins_trans (w.heard w0) (w.heard w2) (w.heard w3) heard goes) (subst (λ (n : ℕ). CountsLeft w q tabled w3 w4 n t.1.0 end.left) its t.1.1),
          inr (subst (λ (n : ℕ). IsStopped w w4 (IsQueueAmong sizes n (numbers_of t.1.0)) left x) its t.1.2),
        ),
      ));
      heard = record { after_seen = begins_trans (w.seen w0) (w.heard w2) (w.heard w4) seen on; after_heard = begins_trans (w.heard w0) (w.heard w2) (w.heard w4) heard on; run = e.heard };
      same = (e.uses.uses.found, e.uses.uses.looks ∙ ap (λ (l : List Look). e.uses.uses.found ++ l) found);
    }

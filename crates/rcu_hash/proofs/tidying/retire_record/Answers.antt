use Rattle.rcu_hash.proofs.Cited.{Log, Begins, Has, tabled, Object, Retire, IsStopped, Retires, WasReplaced, IsRecord, none_made, Queues, IsAfterAll, object_in, Unlinked, some_is, ObjectId, ◌≡◌, ℕ, [], ◌∷◌, ◌∙◌, ◌%◌, ◌++◌, refl, sym, ap, subst, inl, inr, Option, Some, option_map, IfSome, rules, replaced_later, refused_why, refused_frees, frees_nothing, retired_by, UsesUp, uses_up_none, uses_up_same, uses_up_once}
use Rattle.rcu_hash.proofs.tidying.retire_record.Goals as goal

pub returns-in_default-clause-uses : goal.returns-in_default-clause-uses
returns-in_default-clause-uses g c d its = uses_up_same c.args.caller.now c.args.jobs.now.items

pub returns-in_default-pop-clause-uses : goal.returns-in_default-pop-clause-uses
returns-in_default-pop-clause-uses g c d its =
    let jobs = c.args.jobs.now.items in let same : jobs ≡ c.pop.new.self.items = search rules in
    subst (UsesUp g.P.GracePlan.QSBR g.B.Site.sizes d g.W.Caller g.row.D.coded.code c.args.caller.now c.args.caller.now jobs) same (uses_up_same c.args.caller.now jobs)

pub returns-in-Ok-clause-uses : goal.returns-in-Ok-clause-uses
returns-in-Ok-clause-uses g c d its =
    let w = g.W.Caller in let w0 = c.args.caller.now in let w2 = c.retire.new.caller in let u = c.in-Some.unlinked in let r = c.in-Ok.ensures.queued in let k = r.2 in
    let is : c.args.replaced.now ≡ Some u = search rules in
    let mine : IsRecord d u.chain u.seat.me.0 = subst (λ (x : Option (Unlinked g.row.B.Denot g.B.Site)). IfSome x (λ z. IsRecord d z.chain z.seat.me.0)) is its in
    uses_up_once w0 w2 c.args.jobs.now.items c.pop.new.self.items (c.in-Some-pop.job ∷ []) (Retires (g.row.D.coded.code c.in-Some-pop.job)) (w.heard w2) c.in-Some-pop.ensures.items refl (none_made w w0 w2 c.in-Ok.ensures.same.0.0)
    (c.in-Ok.ensures.same.1, ([], c.in-Ok.ensures.same.0.1, frees_nothing g.B.Site.sizes)) (λ k none. absurd none) (record {
      object = object_in u.seat.me.0.object;
      given = r.0;
      queued = subst (λ (x : ℕ). Queues g.P.GracePlan.QSBR tabled (λ (at : Log). Begins (w.seen w0) at × Begins (w.heard w0) at × WasReplaced d (object_in u.seat.me.0.object) at) (object_in u.seat.me.0.object) (x % g.B.Site.sizes.queues) r.0 (g.row.D.coded.code c.in-Some-pop.job) (w.heard w2)) mine.0 (record {
        before = k.before;
        at = (k.at.1, k.at.2, replaced_later d (object_in u.seat.me.0.object) u.seat.me.0.seen k.before k.at.0 mine.1);
        within = k.within;
        retired = k.retired;
        id = k.id;
        is = k.is;
        wrote = k.wrote;
        last = k.last;
        run = k.run;
      });
    }) ([], refl)

pub returns-in_default-clause-told : goal.returns-in_default-clause-told
returns-in_default-clause-told g c o is = let same : c.args.replaced.now ≡ c.take.new.self = search rules in
    inr (subst (λ r. option_map (λ u. object_in u.seat.me.0.object) r ≡ Some o) same is)

pub returns-in_default-pop-clause-told : goal.returns-in_default-pop-clause-told
returns-in_default-pop-clause-told g c o is = let same : c.args.replaced.now ≡ Some c.in-Some.unlinked = search rules in
    inr (subst (λ r. option_map (λ u. object_in u.seat.me.0.object) r ≡ Some o) same is)

pub returns-in-Ok-clause-told : goal.returns-in-Ok-clause-told
returns-in-Ok-clause-told g c o is =
    let u = c.in-Some.unlinked in let r = c.in-Ok.ensures.queued in let w2 : Log = g.W.Caller.heard c.retire.new.caller in let same : c.args.replaced.now ≡ Some u = search rules in
    let one : Some (object_in u.seat.me.0.object) ≡ Some o = subst (λ r. option_map (λ u. object_in u.seat.me.0.object) r ≡ Some o) same is in
    inl (subst (λ (p : ObjectId). Has (Object (Retire p)) w2) (some_is (object_in u.seat.me.0.object) o one)
    (retired_by g.P.GracePlan.QSBR tabled (IsAfterAll u.seat.me.0.seen (g.W.Caller.seen c.args.caller.now) (g.W.Caller.heard c.args.caller.now)) (object_in u.seat.me.0.object) (u.chain % g.B.Site.sizes.queues) r.0 _ w2 r.2))

pub returns-in-Err : goal.returns-in-Err
returns-in-Err g c =
    let q = g.P.GracePlan.QSBR in let w = g.W.Caller in let sizes = g.B.Site.sizes in let code = g.row.D.coded.code in let w0 = c.args.caller.now in let w2 = c.retire.new.caller in let e = c.in-Err.ensures in let u = c.in-Some.unlinked in
    let jobs = c.args.jobs.now.items in let left = c.pop.new.self.items in let is : c.args.replaced.now ≡ Some u = search rules in
    let back = c.push_reserved.ensures.items ∙ (ap (λ j. left ++ j ∷ []) e.back.1 ∙ sym c.in-Some-pop.ensures.items) in record {
      uses = λ d its. subst (UsesUp q sizes d w code w0 w2 jobs) (sym back)
          (uses_up_none w0 w2 jobs e.refused.same.0 (refused_frees w q tabled sizes (u.chain % sizes.queues) w0 w2 c.in-Err.refusal e.refused) e.refused.after.after_heard);
      retired = tt;
      told = λ o one. inr (ap (λ x. Some (object_in x.seat.me.0.object)) e.back.0 ∙ subst (λ r. option_map (λ x. object_in x.seat.me.0.object) r ≡ Some o) is one);
      kept = inr (ap Some e.back.0 ∙ sym is);
      stopped = (
        refl,
        λ d its.
            let mine = subst (λ (x : Option (Unlinked g.row.B.Denot g.B.Site)). IfSome x (λ z. IsRecord d z.chain z.seat.me.0)) is its in
            subst (λ (n : ℕ). IsStopped w w2 (λ k. k ≡ n % sizes.queues) c.push_reserved.new.self.items c.in-Err.refusal) mine.0 (inr (refused_why w q tabled sizes (u.chain % sizes.queues) w0 w2 c.in-Err.refusal e.refused)),
      );
    }

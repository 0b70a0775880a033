use Rattle.rcu_hash.proofs.Cited.{begins_trans, has_since, Has, Object, Retire, WasCleared, if_ok, ◌<◌, subst, inl, inr, arith, ⊎_elim, IsSome, vec_len, err_from_is_err_and, stopped_for, waited_later, IfErr-weaker, objects_some, not_none, uses_up_heard, uses_up_on}
use Rattle.rcu_hash.proofs.table.RcuHash.retire_left.Goals as goal

pub returns-in_err-retire_record-clause-uses : goal.returns-in_err-retire_record-clause-uses
returns-in_err-retire_record-clause-uses g c = c.retire_record.ensures.uses c.args.naming.directory c.requires.record

pub clear_all-requires-clause-waited : goal.clear_all-requires-clause-waited
clear_all-requires-clause-waited g c =
    let w = g.W.Caller in let n = c.args.naming in
    waited_later n.directory n.object (w.heard c.args.caller.now) (w.heard c.retire_record.new.caller) (uses_up_heard (c.retire_record.ensures.uses n.directory c.requires.record)) c.requires.waited

pub returns-in_err-retire_record-clause-cleared : goal.returns-in_err-retire_record-clause-cleared
returns-in_err-retire_record-clause-cleared g c k h = inr h

pub returns-in_err-retire_record-clause-chains : goal.returns-in_err-retire_record-clause-chains
returns-in_err-retire_record-clause-chains g c =
    let r = c.retire_record.ensures in let p = err_from_is_err_and c.from_residual.result c.from_residual.ensures.1 in
    let there : IsSome c.retire_record.new.replaced = c.in_err-retire_record.ensures.stopped.0 in
    (rw p.1 (⊎_elim (λ none. not_none c.retire_record.new.replaced none there) (λ kept. c.requires.chains.0 (subst IsSome kept there)) r.kept), c.requires.chains.1)

pub returns-in_err-retire_record-clause-stopped : goal.returns-in_err-retire_record-clause-stopped
returns-in_err-retire_record-clause-stopped g c =
    let p = err_from_is_err_and c.from_residual.result c.from_residual.ensures.1 in let s = c.in_err-retire_record.ensures.stopped in let d = c.args.naming.directory in
    rw p.1 (inl s.0, stopped_for g.W.Caller c.retire_record.new.caller _ _ c.retire_record.new.jobs.items _ (λ q one. inl one) (rw p.2 (s.1 d c.requires.record)))

pub returns : goal.returns
returns g c =
    let w = g.W.Caller in let w0 = c.args.caller.now in let w1 = c.retire_record.new.caller in let w2 = c.clear_all.new.caller in
    let r = c.retire_record.ensures in let e = c.clear_all.ensures in let first = r.uses c.args.naming.directory c.requires.record in let left = c.clear_all.new.jobs.items in let chains = c.clear_all.new.chains in
    let on = uses_up_heard e.uses in record {
      kept = r.kept;
      told = λ o is. ⊎_elim (λ (h : Has (Object (Retire o)) (w.heard w1)). inl (has_since (Object (Retire o)) (w.heard w1) (w.heard w2) on h)) (λ kept. inr kept) (r.told o is);
      cleared = λ k h. ⊎_elim
          (λ (z : WasCleared (w.heard w1) k (w.heard w2)). inl (record { at = z.at; after = begins_trans (w.heard w0) (w.heard w1) z.at (uses_up_heard first) z.after; before = z.before }))
          (λ kept. inr kept)
          (e.cleared k h);
      done = if_ok c.clear_all.result _ _ _ (λ x none z. (none, c.in_ok-retire_record.ensures.retired)) e.emptied e.emptied;
      chains = (IfErr-weaker c.clear_all.result _ (λ x. 0 < vec_len chains) (λ x k. let some = objects_some chains.items (λ y. y.seat.me.0) k.0 in omega (arith, some, chains.ok)) e.stopped, e.chains);
      uses = uses_up_on first e.uses;
      row = e.row;
      stopped = IfErr-weaker c.clear_all.result _ _ (λ x k. (inr k.0, stopped_for w w2 _ _ left x (λ z one. inr one) k.1)) e.stopped;
    }

use Rattle.rcu.proofs.Cited.{rules, ◌≡◌, [], ◌∷◌, refl, inl, inr, subst, sym, err_from_is_err_and, begins_trans}
use Rattle.rcu_hash.specs.domain.declared.worker_end.Stop.TheVariants as stop
use Rattle.rcu.specs.Serving.{IsNotServed}
use Rattle.rcu.proofs.Refused.{goes_none, goes_on, more_found}
use Rattle.rcu.proofs.Stopping.{works_so}
use Rattle.rcu.proofs.working.work.Goals as goal

pub loop-init : goal.loop-init
loop-init g c = (goes_none g.W.Caller c.args.caller.now, ([], refl))

pub returns-in-Closed-clause-worked : goal.returns-in-Closed-clause-worked
returns-in-Closed-clause-worked g c =
    let closed : c.in_ok-end.end.stop ≡ stop.Closed = search rules in
    (c.loop.invariant.1.0, c.loop.caller, c.loop.invariant.1.1, works_so g.W.Caller _ _ g.P.GracePlan.QSBR g.K.ChainRule.allows g.B.Site.sizes c.args.queue c.loop.caller c.run_worker.new.caller closed c.in_ok-end.ensures.worked)

pub returns-in-Exhausted-clause-refused : goal.returns-in-Exhausted-clause-refused
returns-in-Exhausted-clause-refused g c =
    let w = g.W.Caller in let e = c.in_ok-end.ensures.worked in let u = e.exhausted c.in-Exhausted.is in
    (c.loop.caller, c.loop.invariant.0, c.loop.invariant.1, inr (refl, record { at = u.at; earlier = u.earlier; last_load = u.last_load; after = begins_trans (w.heard c.loop.caller) e.start u.at e.after_heard u.after; before = u.before; used_up = u.used_up }, works_so w _ _ g.P.GracePlan.QSBR g.K.ChainRule.allows g.B.Site.sizes c.args.queue c.loop.caller c.run_worker.new.caller c.in-Exhausted.is e))

pub returns-in_err-end-clause-refused : goal.returns-in_err-end-clause-refused
returns-in_err-end-clause-refused g c = let p = err_from_is_err_and c.from_residual.result c.from_residual.ensures.1 in
    rw p.1 (subst (λ e. IsNotServed g.W.Caller g.row.D.coded.code g.D.Deleter.answers g.P.GracePlan.QSBR g.K.ChainRule.allows g.B.Site.sizes c.args.queue c.args.caller.now c.run_worker.new.caller e) (sym p.2) (c.loop.caller, c.loop.invariant.0, c.loop.invariant.1, inl c.in_err-end.ensures.refused))

pub loop-preserved : goal.loop-preserved
loop-preserved g c =
    let w = g.W.Caller in let was = c.loop.caller in let new = c.run_worker.new.caller in let h = c.in_ok-end.ensures.worked in let i = c.loop.invariant in (
      goes_on w c.args.caller.now was new i.0 (c.run_worker.ensures.same, begins_trans (w.heard was) h.start (w.heard new) h.after_heard h.later, more_found h.looks_since (w.looks was) (w.looks new) _ _ _ _ h.looks),
      (was ∷ i.1.0, (i.1.1, works_so w _ _ g.P.GracePlan.QSBR g.K.ChainRule.allows g.B.Site.sizes c.args.queue was new c.in-Memory.is h)),
    )

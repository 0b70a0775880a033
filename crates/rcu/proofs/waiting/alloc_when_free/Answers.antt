use Rattle.rcu.proofs.Cited.{◌≡◌, ◌∙◌, ◌++◌, ◌∷◌, [], refl, ap, sym, append_assoc, IfErr-at_err, PoolFull, Log, begins_trans, GetsNoRecord}
use Rattle.rcu.specs.Trying.{all_found}
use Rattle.rcu.proofs.Hearing.{still_after, stays_on}
use Rattle.rcu.proofs.waiting.alloc_when_free.Goals as goal

pub loop-init : goal.loop-init
loop-init g c = ((refl, refl, λ h. h, refl), ([], refl), refl, ([], tt, refl))

pub returns-in-Ok-clause-heard : goal.returns-in-Ok-clause-heard
returns-in-Ok-clause-heard g c =
    let seen : Log = g.W.Caller.seen c.args.caller.now in let heard : Log = g.W.Caller.heard c.args.caller.now in
    still_after g.P.GracePlan.QSBR g.K.ChainRule.allows seen heard (g.W.Caller.seen c.loop.caller) (g.W.Caller.heard c.loop.caller) (g.W.Caller.heard c.alloc.new.caller) c.loop.invariant.0.0 c.loop.invariant.1 c.alloc.ensures.heard

pub returns-in-Ok-clause-took : goal.returns-in-Ok-clause-took
returns-in-Ok-clause-took g c =
    let took = c.in-Ok.ensures.took in let before = c.loop.invariant.3 in record {
      tries = before.0;
      vain = before.1;
      found = took.0;
      looks = took.1 ∙ ap (λ ls. took.0 ++ ls) before.2;
      took = took.2;
    }

pub loop-preserved : goal.loop-preserved
loop-preserved g c =
    let w = g.W.Caller in let old = c.args.caller.now in let was = c.loop.caller in let now = c.alloc.new.caller in
    let looks = c.alloc.ensures.looks in let before = c.loop.invariant.3 in
    let vain = IfErr-at_err (λ e. (e ≡ PoolFull) × GetsNoRecord g.B.Site.sizes looks.0) c.in_default.is looks.2 in (
      stays_on w old was now c.loop.invariant.0 c.alloc.ensures.same.0,
      begins_trans (w.heard old) (w.heard was) (w.heard now) c.loop.invariant.1 c.alloc.ensures.heard.after_heard,
      c.alloc.ensures.same.1 ∙ c.loop.invariant.2,
      (looks.0 ∷ before.0, (vain.1, before.1), looks.1 ∙ ap (λ ls. looks.0 ++ ls) before.2 ∙ sym (append_assoc looks.0 (all_found before.0) (w.looks old))),
    )

use Rattle.domain.proofs.Cited.{List, [], ◌∷◌, ◌++◌, sym, ap, ◌∙◌, subst, append_assoc, IfOk-weaker, Log, Begins, HaveEnded, IsAfter, IsLiveRun, View}
use Rattle.domain.proofs.domain.Domain.synchronize.Goals as goal

pub returns-clause-ended : goal.returns-clause-ended
returns-clause-ended g c =
    let tell = c.tell-seat.ensures in
    let told = ap (λ m. m.0) tell.seat.1 in
    IfOk-weaker c.wait-answered.result _ _
    (λ _ e. record {
      asked = e.asked;
      loads_since = e.loads_since;
      first_load = c.learn.ensures.loads.0 ∙ ap (λ (l : List Log). l ++ g.W.Caller.loads c.tell-seat.new.self) (e.first_load ∙ ap (λ (v : View). e.loads_since ++ e.asked ∷ v.loads) told)
          ∙ append_assoc e.loads_since (e.asked ∷ []) (g.W.Caller.loads c.tell-seat.new.self) ∙ ap (λ (l : List Log). e.loads_since ++ e.asked ∷ l) tell.same.2;
      after = subst (λ (v : View). IsAfter g.P.GracePlan.QSBR g.K.ChainRule.allows v.seen v.heard e.asked) told e.after;
      low = e.low;
      later = subst (Begins e.asked) (sym c.learn.ensures.heard) e.later;
      run = subst (IsLiveRun g.P.GracePlan.QSBR g.K.ChainRule.allows) (sym c.learn.ensures.heard) e.run;
      ended = subst (HaveEnded e.asked) (sym c.learn.ensures.heard) e.ended;
    })
    c.wait-answered.ensures.ended

use Rattle.domain.proofs.Cited.{◌≡◌, ◌∙◌, ℕ, ap, inr, Log, View, Jobs}
use Rattle.domain.proofs.Closing.{all_closed, is_after}
use Rattle.domain.proofs.domain.Domain.close.Goals as goal

pub loop-number-preserved : goal.loop-number-preserved
loop-number-preserved g c =
    let i = c.loop-number.invariant in let n : ℕ = c.loop-number.number in let s = c.close.ensures.same in
    let seen : Log = g.W.Caller.seen c.args.caller.now in let heard : Log = g.W.Caller.heard c.args.caller.now in
    let was : Log = g.W.Caller.seen c.loop-number.caller in
    let mid : Log = g.W.Caller.heard c.loop-number.caller in let end : Log = g.W.Caller.heard c.close.new.caller in
    let q : ℕ = c.deref_mut.result.now.2 in
    let number : q ≡ n = ap (λ (x : Jobs g.row.D.Denot × View × ℕ). x.2) c.deref_mut.ensures.value ∙ c.lock.ensures in
    let closes = c.close.ensures.closed in (
      (((s.0.0.0 ∙ i.0.0.0.0, s.0.0.1 ∙ i.0.0.0.1, λ x. s.0.0.2 (i.0.0.0.2 x), s.0.0.3 ∙ i.0.0.0.3), s.0.1 ∙ i.0.0.1), s.1 ∙ i.0.1),
      all_closed g.P.GracePlan.QSBR g.K.ChainRule.allows was mid q end closes n number i.1,
      inr (is_after g.P.GracePlan.QSBR g.K.ChainRule.allows was mid q end closes seen heard n i.0.0.0.0 i.2),
    )

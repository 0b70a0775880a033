use Rattle.domain.proofs.Cited.{◌≡◌, ◌++◌, List, Begins, AreNoted, IsAfter, Stays, Look}
use Rattle.domain.proofs.domain.Domain.barrier.Given as goal

abbrev pub invariant-loop : goal.invariant-loop
invariant-loop g l = Stays g.W.Caller l.fn.caller l.caller × (g.W.Caller.loads l.caller ≡ g.W.Caller.loads l.fn.caller) × Begins l.mark.asked.value.me.0.seen (g.W.Caller.heard l.caller)
    × IsAfter g.P.GracePlan.QSBR g.K.ChainRule.allows (g.W.Caller.seen l.fn.caller) (g.W.Caller.heard l.fn.caller) (g.W.Caller.heard l.caller)
    × ((since first : List Look) × (g.W.Caller.looks l.caller ≡ since ++ (first ++ g.W.Caller.looks l.fn.caller)) × AreNoted g.B.Site.sizes l.mark.counts g.B.Site.sizes.queues first)

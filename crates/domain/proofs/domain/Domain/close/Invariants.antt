use Rattle.domain.proofs.Cited.{◌≡◌, ◌⊎◌, ◌<◌, ℕ, closed_of, IsAfter, OnlyHears}
use Rattle.domain.proofs.domain.Domain.close.Given as goal

abbrev pub invariant-loop-number : goal.invariant-loop-number
invariant-loop-number g l =
    OnlyHears g.W.Caller l.fn.caller l.caller
    × ((q : ℕ) → q < l.number → closed_of q (g.W.Caller.heard l.caller) ≡ 1)
    × (((l.number ≡ 0) × (g.W.Caller.heard l.caller ≡ g.W.Caller.heard l.fn.caller)) ⊎ IsAfter g.P.GracePlan.QSBR g.K.ChainRule.allows (g.W.Caller.seen l.fn.caller) (g.W.Caller.heard l.fn.caller) (g.W.Caller.heard l.caller))

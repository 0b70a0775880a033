use Rattle.live_read.proofs.Cited.{ℕ, ◌<◌, Keeps}
use Rattle.live_read.specs.Registering.{Misses, WasClaimed}
use Rattle.live_read.proofs.claiming.claim_any.Given as goal

abbrev pub invariant-loop-slot : goal.invariant-loop-slot
invariant-loop-slot g l = Keeps l.fn.seat l.seat × Misses g.P.GracePlan.QSBR g.K.ChainRule.allows (λ found. (r : ℕ) → r < l.slot → WasClaimed r found) l.fn.seat.me l.seat.me

use Rattle.live_read.proofs.Cited.{ℕ, ◌+◌, ◌<◌, [], ◌∷◌, ◌∙◌, refl, arith, Loaded, group_at}
use Rattle.live_read.specs.Registering.{WasClaimed}
use Rattle.live_read.proofs.Seeking.{claimed_more, finds_then, misses_then}
use Rattle.live_read.proofs.claiming.claim_any.Goals as goal

pub loop-slot-init : goal.loop-slot-init
loop-slot-init g c = (c.look_group.ensures.seat, record { found = Loaded (group_at 0) c.look_group.result ∷ []; sought = c.look_group.ensures.looked; is_so = λ r low. absurd (omega arith); none_stored = refl })

pub returns-then-claim_if_free-clause-claimed : goal.returns-then-claim_if_free-clause-claimed
returns-then-claim_if_free-clause-claimed g c = let i = c.loop-slot.slot in
    (c.loop-slot-test.true, finds_then g.P.GracePlan.QSBR g.K.ChainRule.allows (λ found. (r : ℕ) → r < i → WasClaimed r found) i c.args.seat.now.me c.loop-slot.seat.me c.claim_if_free.new.seat.me c.loop-slot.invariant.1 c.if-claim_if_free.ensures.claimed)

pub loop-slot-preserved : goal.loop-slot-preserved
loop-slot-preserved g c = let i = c.loop-slot.slot in let e = c.if-claim_if_free.ensures in let s = c.loop-slot.invariant in (
  (e.seat.0 ∙ s.0.0, e.seat.1 ∙ s.0.1),
  misses_then g.P.GracePlan.QSBR g.K.ChainRule.allows (λ found. (r : ℕ) → r < i → WasClaimed r found) (WasClaimed i) (λ found. (r : ℕ) → r < i + 1 → WasClaimed r found)
      c.args.seat.now.me c.loop-slot.seat.me c.claim_if_free.new.seat.me (claimed_more i) s.1 e.claimed,
)

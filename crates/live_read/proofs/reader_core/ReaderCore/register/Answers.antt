use Rattle.live_read.proofs.Cited.{sym, subst, Seat, CallbackId, View, slot_at}
use Rattle.live_read.specs.Registering.{Finds}
use Rattle.live_read.proofs.Seeking.{closed_fits, finds_looks}
use Rattle.live_read.proofs.reader_core.ReaderCore.register.Goals as goal

pub returns-clause-claimed : goal.returns-clause-claimed
returns-clause-claimed g c =
    let q = g.P.GracePlan.QSBR in let k = g.K.ChainRule.allows in
    let r = c.in-Some.slot in
    let m = c.args.seat.me in let u = c.claim_any.new.seat.me in let v = c.look_slot-word.new.seat.me in
    let s = c.in-Some.ensures.claimed.1 in
    let own = c.look_slot-word.ensures.own s.claimed.owns in
    let shut = closed_fits q _ _ c.look_slot-word.ensures.word (subst (λ w. Rattle.live_words.specs.live_rule.Readers.IsClosed q w) (sym own.0) s.claimed.closed) in
    subst (λ (z : Seat CallbackId View). Finds q k c.new.result.slot m z.me) (sym c.new.ensures.0)
    (subst (λ n. Finds q k n m v) (sym c.new.ensures.1) (finds_looks q k r (slot_at r) c.look_slot-word.result m u v s c.look_slot-word.ensures.looked shut own.1))

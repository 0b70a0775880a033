use Rattle.live_waits.proofs.Cited.{◌≤◌, sym, subst, arith, Log, seq_of, is_past, seq_begins}
use Rattle.live_waits.proofs.cookie.poll.Goals as goal

pub returns-clause-later : goal.returns-clause-later
returns-clause-later g c past log run after beside = let asked = c.args.cookie.now in let new : Log = c.load_seq-seq.new.seat.me.0.seen in
    let reached : asked.cookie ≤ seq_of new = subst (λ n. asked.cookie ≤ n) (sym c.load_seq-seq.ensures.seq) (c.is_past.ensures.0 past) in
    let more = seq_begins new log beside in
    is_past g.P.GracePlan.QSBR g.K.ChainRule.allows asked.asked.value.me.0.seen asked.cookie asked.fits.0.0 asked.fits.0.1 log after run (omega arith)

pub returns-clause-past : goal.returns-clause-past
returns-clause-past g c later past = let asked = c.args.cookie.now in let new = c.load_seq-seq.new.seat.me.0.seen in
    is_past g.P.GracePlan.QSBR g.K.ChainRule.allows asked.asked.value.me.0.seen asked.cookie asked.fits.0.0 asked.fits.0.1 new later c.load_seq-seq.ensures.looked.1.4
    (subst (λ n. asked.cookie ≤ n) (sym c.load_seq-seq.ensures.seq) (c.is_past.ensures.0 past))

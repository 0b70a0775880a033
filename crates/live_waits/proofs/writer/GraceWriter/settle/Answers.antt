use Rattle.live_waits.proofs.Cited.{rules, ◌≡◌, ◌≤◌, sym, ap, subst, ⊎_elim, Quiet, View}
use Rattle.live_waits.specs.Answers.{WholeGracePeriod}
use Rattle.live_waits.specs.Asks.{cookie_in}
use Rattle.live_waits.proofs.Answering.{shared_ended, whole_before, whole_ended, whole_later}
use Rattle.live_waits.proofs.Cores.{checks, locks}
use Rattle.live_waits.proofs.writer.GraceWriter.settle.Given as given
use Rattle.live_waits.proofs.writer.GraceWriter.settle.Goals.{in-Answered, in_default}
use Rattle.live_waits.proofs.writer.GraceWriter.settle.Goals as goal

pub returns-then-matches-clause-ended : goal.returns-then-matches-clause-ended
returns-then-matches-clause-ended g c = let p = g.P.GracePlan in let ask = c.args.ask in
    let locked = locks p.action p.turn p.taken (cookie_in ask.core) ask.core c.go_on.new.core c.go_on.result ask.waits c.go_on.ensures in
    let checked = checks p.action p.turn p.taken (cookie_in ask.core) c.load_seq-checked.result c.go_on.new.core c.go_on-2.new.core c.go_on-2.result locked c.go_on-2.ensures in
    let past : cookie_in ask.core ≤ c.load_seq-checked.result = ⊎_elim (λ y. y.1) (λ n. let quiet : c.go_on-2.result ≡ Quiet = n.0 in absurd (elim c.match-matches.branch [
      | in-Answered w ↦ search rules
      | in_default w ↦ search rules
    ])) checked in
    shared_ended p.QSBR g.K.ChainRule.allows c.args.self.now.seat.me.0 ask.asked.value.me.0.seen c.load_seq-checked.new.seat.me.0.seen (cookie_in ask.core) ask.fits.0
    (subst (λ n. cookie_in ask.core ≤ n) (sym c.load_seq-checked.ensures.seq) past) c.requires.heard c.load_seq-checked.ensures.looked.1

-- the grace period of one's own, as the seat stood before the check
period : (g : given.Over) (c : goal.After-drop-ask-2 g) → WholeGracePeriod g.P.GracePlan.QSBR g.K.ChainRule.allows c.args.self.now.seat.me.0 c.args.self.now.seq c.args.self.now.present c.run.new.self.seat.me.0.seen
period g c = let qsbr = g.P.GracePlan.QSBR in let allows = g.K.ChainRule.allows in let v = c.args.self.now.seat.me.0 in let looked = c.load_seq-checked.ensures.looked in
    whole_before qsbr allows v c.load_seq-checked.new.seat.me.0.seen c.run.new.self.seat.me.0.seen looked.1
    (subst (λ (x : View). WholeGracePeriod qsbr allows x c.args.self.now.seq c.args.self.now.present c.run.new.self.seat.me.0.seen) (ap (λ m. m.0) looked.0) c.run.ensures.period)

pub returns-clause-later : goal.returns-clause-later
returns-clause-later g c = whole_later g.P.GracePlan.QSBR g.K.ChainRule.allows c.args.self.now.seat.me.0 c.run.new.self.seat.me.0.seen (period g c)

pub returns-clause-ended : goal.returns-clause-ended
returns-clause-ended g c = whole_ended g.P.GracePlan.QSBR g.K.ChainRule.allows c.args.self.now.seat.me.0 c.args.ask.asked.value.me.0.seen c.run.new.self.seat.me.0.seen c.requires.heard (period g c)

pub returns-clause-period : goal.returns-clause-period
returns-clause-period g c low = period g c

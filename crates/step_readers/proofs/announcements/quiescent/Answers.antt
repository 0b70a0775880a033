use Rattle.std.proofs.Common.{ℕ, ◌<◌, ◌^◌, arith, subst}
use Rattle.step_readers.proofs.Words.{number_low, announced_after}
use Rattle.step_readers.proofs.announcements.quiescent.Goals as goal

pub qs_announced-word-requires : goal.qs_announced-word-requires
qs_announced-word-requires g c = subst (λ (n : ℕ). n < 2 ^ 63) c.load_present-num.ensures.present (number_low g.P.GracePlan.QSBR g.K.ChainRule.allows c.load_present-num.new.seat.me.0.seen c.load_present-num.ensures.looked.1.4 c.requires.flavour)

pub returns-clause-announced : goal.returns-clause-announced
returns-clause-announced g c = let word = c.qs_announced-word.ensures in
    (announced_after g.P.GracePlan.QSBR g.K.ChainRule.allows c.args.slot c.qs_announced-word.result c.args.seat.now.me c.load_present-num.new.seat.me c.store_quiescent.new.seat.me c.load_present-num.ensures.looked c.store_quiescent.ensures.announced, λ e. omega arith)

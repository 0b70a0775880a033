use Rattle.std.proofs.Common.{ℕ, ◌<◌, ◌^◌, arith, subst}
use Rattle.step_readers.proofs.Words.{number_low, opened_after}
use Rattle.step_readers.proofs.announcements.online.Goals as goal

pub qs_announced-word-requires : goal.qs_announced-word-requires
qs_announced-word-requires g c = subst (λ (n : ℕ). n < 2 ^ 63) c.load_present-num.ensures.present (number_low g.P.GracePlan.QSBR g.K.ChainRule.allows c.load_present-num.new.seat.me.0.seen c.load_present-num.ensures.looked.1.4 c.requires.flavour)

pub returns-clause-opened : goal.returns-clause-opened
returns-clause-opened g c = let word = c.qs_announced-word.ensures in
    (opened_after g.P.GracePlan.QSBR g.K.ChainRule.allows c.args.slot c.qs_announced-word.result c.args.seat.now.me c.load_present-num.new.seat.me c.store_open.new.seat.me c.load_present-num.ensures.looked c.store_open.ensures.opened, λ e. omega arith)

use Rattle.step_readers.proofs.Cited.{rules, ◌≡◌, ◌==◌, Ok, ◌∙◌, subst, Wide, entered_of, seq_of, IsBound, bounded}
use Rattle.step_readers.specs.Sections.{opens}
use Rattle.step_readers.proofs.Words.{opened_after, copied_before, phase_copied}
use Rattle.step_readers.proofs.locks.lock.Goals as goal

pub returns-clause-outermost : goal.returns-clause-outermost
returns-clause-outermost g c closed = opened_after g.P.GracePlan.QSBR g.K.ChainRule.allows c.args.slot c.in_ok-new-2.new c.args.seat.now.me c.load_present-phase.new.seat.me c.store_open.new.seat.me c.load_present-phase.ensures.looked c.store_open.ensures.opened

pub returns-clause-copied : goal.returns-clause-copied
returns-clause-copied g c closed =
    let qsbr = g.P.GracePlan.QSBR in
    let mid = c.load_present-phase.new.seat.me in
    let load = c.load_present-phase.ensures in
    let made : entered_of Wide c.args.word (c.load_present-phase.result == 1) ≡ Ok c.in_ok-new-2.new = search rules in
    let low : IsBound qsbr (seq_of mid.0.seen) c.load_present-phase.result = subst (IsBound qsbr (seq_of mid.0.seen)) load.present (bounded qsbr g.K.ChainRule.allows mid.0.seen load.looked.1.4) in
    copied_before qsbr g.K.ChainRule.allows (opens qsbr) c.args.slot c.in_ok-new-2.new _ c.args.seat.now.me mid c.store_open.new.seat.me load.looked c.store_open.ensures.opened
    (load.present ∙ phase_copied qsbr c.requires.flavour c.args.word c.in_ok-new-2.new (seq_of mid.0.seen) c.load_present-phase.result closed made low)

use Rattle.live_read.proofs.Cited.{rules, ◌≡◌, ◌==◌, Ok, ◌∙◌, refl, subst, arith, Wide, count_of, entered_of, seq_of, IsBound, bounded, opens, opened_after, copied_before, phase_copied}
use Rattle.live_read.proofs.Entering.{enters}
use Rattle.live_read.proofs.reader_core.ReaderCore.open_word.Goals as goal

pub returns-clause-enters : goal.returns-clause-enters
returns-clause-enters g c =
    let q = g.P.GracePlan.QSBR in let a = g.K.ChainRule.allows in let r = c.args.self.now in let none = c.requires.outermost.0 in
    let mid = c.load_present-phase.new.seat.me in let load = c.load_present-phase.ensures in let word = c.in-Ok.word in let end = c.store_open.new.seat.me in
    let closed : count_of Wide r.word ≡ 0 = r.counted.0 c.requires.flavour ∙ none in
    let made : entered_of Wide r.word (c.load_present-phase.result == 1) ≡ Ok word = search rules in
    let low : IsBound q (seq_of mid.0.seen) c.load_present-phase.result = subst (IsBound q (seq_of mid.0.seen)) load.present (bounded q a mid.0.seen load.looked.1.4) in (
      enters q a r _ c.requires.flavour refl (omega arith) (r.counted.0 c.requires.flavour) (c.load_present-phase.result == 1) made
          (λ e. opened_after q a r.slot word r.seat.me mid end load.looked c.store_open.ensures.opened)
          (λ e. copied_before q a (opens q) r.slot word _ r.seat.me mid end load.looked c.store_open.ensures.opened (load.present ∙ phase_copied q c.requires.flavour r.word word (seq_of mid.0.seen) c.load_present-phase.result closed made low))
          (λ n. absurd (n closed)),
      refl,
    )

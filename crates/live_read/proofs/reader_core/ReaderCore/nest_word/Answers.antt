use Rattle.live_read.proofs.Cited.{rules, ◌≡◌, false, Ok, refl, arith, Wide, count_of, entered_of}
use Rattle.live_read.proofs.Entering.{enters}
use Rattle.live_read.proofs.reader_core.ReaderCore.nest_word.Goals as goal

pub returns-clause-enters : goal.returns-clause-enters
returns-clause-enters g c =
    let q = g.P.GracePlan.QSBR in let a = g.K.ChainRule.allows in let r = c.args.self.now in let above = c.requires.inner.0 in
    let made : entered_of Wide r.word false ≡ Ok c.in-Ok.word = search rules in
    let counted : count_of Wide r.word ≡ r.depth = r.counted.0 c.requires.flavour in
    (enters q a r _ c.requires.flavour refl refl counted false made (λ e. absurd (omega arith)) (λ e. absurd (omega arith)) (λ n. c.store_inner.ensures.nested), refl)

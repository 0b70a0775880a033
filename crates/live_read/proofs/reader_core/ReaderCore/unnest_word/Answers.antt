use Rattle.live_read.proofs.Cited.{rules, ◌≡◌, Ok, refl, arith, Wide, count_of, left_of, left_of-nests}
use Rattle.live_read.proofs.Entering.{leaves}
use Rattle.live_read.proofs.reader_core.ReaderCore.unnest_word.Goals as goal

pub returns-clause-leaves : goal.returns-clause-leaves
returns-clause-leaves g c =
    let r = c.args.self.now in let word = c.in-Ok.word in let above = c.requires.inner.0 in
    let made : left_of Wide r.word ≡ Ok word = search rules in
    let counted : count_of Wide r.word ≡ r.depth = r.counted.0 c.requires.flavour in
    let more = (left_of-nests Wide r.word word made).count in
    (leaves g.P.GracePlan.QSBR g.K.ChainRule.allows r _ c.requires.flavour refl refl counted made (λ e. absurd (omega arith)) (λ n. c.store_inner.ensures.nested), refl)

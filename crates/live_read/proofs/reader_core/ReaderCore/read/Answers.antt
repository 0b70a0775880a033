use Rattle.std.proofs.Common.{ℕ, List, [], ◌∷◌, slice_index_or, ap, ◌∙◌}
use Rattle.live_read.proofs.Finding.{looks_twice}
use Rattle.live_read.proofs.reader_core.ReaderCore.read.Goals as goal

pub returns-clause-looked : goal.returns-clause-looked
returns-clause-looked g c = let q = g.P.GracePlan.QSBR in let a = g.K.ChainRule.allows in
    looks_twice q a _ _ _ c.read_word-one.ensures.looked (looks_twice q a _ _ _ c.read_word-two.ensures.looked (looks_twice q a _ _ _ c.read_word-three.ensures.looked c.read_word-four.ensures.looked))

pub returns-clause-payload : goal.returns-clause-payload
returns-clause-payload g c o x =
    let first = c.read_word-one.ensures.looked in let second = c.read_word-two.ensures.looked in let third = c.read_word-three.ensures.looked in
    let held = first.keeps.held o _ x in let held' = second.keeps.held o _ held in
    let note = first.keeps.notes o _ x in let note' = second.keeps.notes o _ held ∙ note in let note'' = third.keeps.notes o _ held' ∙ note' in
    let one = c.read_word-one.ensures.word o x in
    let two = c.read_word-two.ensures.word o held ∙ ap (λ (z : ℕ × List ℕ). slice_index_or z.1 1 0) note in
    let three = c.read_word-three.ensures.word o held' ∙ ap (λ (z : ℕ × List ℕ). slice_index_or z.1 2 0) note' in
    let four = c.read_word-four.ensures.word o (third.keeps.held o _ held') ∙ ap (λ (z : ℕ × List ℕ). slice_index_or z.1 3 0) note'' in
    (λ i. one i ∷ two i ∷ three i ∷ four i ∷ [])

use Rattle.step_records.proofs.Cited.{ℕ, ◌+◌, ◌∙◌, ap, sym, Fresh, cell_at, cell_in, link_in, object_in, payload_in, set}
use Rattle.step_records.proofs.Fresh.{still_fresh, stored_then}
use Rattle.step_records.proofs.Records.{looks_fresh, stores_word}
use Rattle.step_records.proofs.steps.store_word.Goals as goal

pub load-requires : goal.load-requires
load-requires g c = (c.requires.seat.0, c.cell_place-place.ensures.1, looks_fresh g.P.GracePlan.QSBR g.K.ChainRule.allows _ _ _ _ _ c.requires.seat.1 c.requires.right.0)

pub store-requires : goal.store-requires
store-requires g c = let q = g.P.GracePlan.QSBR in let allows = g.K.ChainRule.allows in let key = c.args.table.now.words.shared.key in let looked = c.load.ensures in
    let f = still_fresh q allows c.args.seat.now.me c.load.new.seat.me looked.2.0 key c.args.cell c.requires.seat.1 c.requires.right in
    (looked.0 ∙ c.requires.seat.0, c.cell_place-place.ensures.1, stores_word q allows _ _ _ _ _ c.args.index _ c.requires.seat.3 f.0 f.1 (c.cell_place-place.ensures.0 ∙ ap (λ (i : ℕ). cell_at key i (c.args.index + 2)) (sym f.2)))

pub returns-then-load-word-clause-worded : goal.returns-then-load-word-clause-worded
returns-then-load-word-clause-worded g c = let q = g.P.GracePlan.QSBR in let allows = g.K.ChainRule.allows in let m = c.args.seat.now.me in let n = c.load.new.seat.me in
    let f = still_fresh q allows m n c.load.ensures.2.0 c.args.table.now.words.shared.key c.args.cell c.requires.seat.1 c.requires.right in
    stored_then q allows m n c.load.ensures.2.0 (λ r. Fresh (cell_in r) (object_in r) (link_in r) (set (payload_in r) c.args.index c.args.word)) c.store.new.seat.me
    (c.store.ensures.2 c.args.index c.requires.seat.3 (c.cell_place-place.ensures.0 ∙ (λ i. cell_at (sym f.0 i) (sym f.2 i) (c.args.index + 2))))

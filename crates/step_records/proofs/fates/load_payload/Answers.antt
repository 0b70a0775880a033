use Rattle.step_records.proofs.Cited.{ℕ, ◌+◌, ◌∙◌, ap, sym, Sizes, cell_at, cell_in}
use Rattle.step_records.proofs.Ends.{looks_payload}
use Rattle.step_records.proofs.fates.load_payload.Goals as goal

pub load-requires : goal.load-requires
load-requires g c = (c.requires.seat.0, c.cell_place-place.ensures.1, looks_payload g.P.GracePlan.QSBR g.K.ChainRule.allows _ _ _ _ _ c.requires.seat.1 c.requires.right.0)

pub returns-clause-word : goal.returns-clause-word
returns-clause-word g c =
    let key = c.args.table.now.words.shared.key in
    c.load.ensures.2.2 c.args.index c.requires.seat.3 (c.cell_place-place.ensures.0 ∙ (ap (λ (i : ℕ). cell_at key i (c.args.index + 2)) (sym c.requires.right.1) ∙ ap (λ (k : Sizes). cell_at k (cell_in c.args.seat.now.me.0.object) (c.args.index + 2)) (sym c.requires.seat.1)))

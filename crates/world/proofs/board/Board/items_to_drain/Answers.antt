use Rattle.world.proofs.Cited.{ℕ, ◌∙◌, slice_get, Ok, true≢false, sym, ap, subst, shown}
use Rattle.std.specs.Prelude.{IsTrue}
use Rattle.world.proofs.DrainSteps.{drains_fresh}
use Rattle.world.proofs.board.Board.items_to_drain.Goals as goal

pub returns : goal.returns
returns g c =
    ap (λ (s : ℕ × ℕ × ℕ). Ok s.2) c.segments-fresh.ensures
    ∙ sym (drains_fresh g.P.GracePlan.QSBR (shown c.args.self.now) c.args.worker c.in-Some.state c.in-Some-entry.queue.now
    (sym (c.in-Some.ensures ∙ ap (λ xs. slice_get xs c.args.worker) c.deref.ensures.value))
    (sym (c.in-Some-entry.ensures ∙ ap (λ xs. slice_get xs c.args.worker) c.deref-2.ensures.value))
    (sym c.is_busy.ensures ∙ c.if-is_busy.false)
    (λ none. absurd (true≢false (sym (subst IsTrue c.if-is_empty.false (c.is_empty.ensures.1 none)))))
    c.if-self-ge-END_OF_NUMBERS.false c.requires)

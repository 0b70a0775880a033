use Rattle.world.proofs.Cited.{◌≡◌, refl, sym, ap, ◌∙◌, subst, rules, arith, true≢false, false, List, [], ◌∷◌, length, slice_get, None, items_of, WorkerCore, Work, Worker, WorkerVerb, QueueAct, Quiet, after_take, first_fresh, is_none_left, with_core, shown}
use Rattle.std.specs.Prelude.{IsTrue, is_some}
use Rattle.world.proofs.board.Board.take.Goals.{in-Idle, in_default-matches}
use Rattle.world.proofs.board.Board.take.Goals as goal

-- where there are items, some are left
some_left : {X : Type 0} (xs : List X) → (xs ≡ [] → ⊥) → is_none_left xs ≡ false
some_left [] n = absurd (n refl)
some_left (x ∷ xs) n = refl

pub work-requires : goal.work-requires
work-requires g c =
    let q = c.in-Some-entry.queue.now in
    let there = sym (c.in-Some.ensures ∙ ap (λ xs. slice_get xs c.args.worker) c.deref.ensures.value) in
    let has = sym (c.in-Some-entry.ensures ∙ ap (λ xs. slice_get xs c.args.worker) c.deref-2.ensures.value) in
    let rests : c.in-Some.state.core ≡ WorkerCore.Idle = elim c.match-matches.branch [
      | in-Idle w ↦ w.in-Idle.is
      | in_default-matches w ↦ absurd (true≢false (sym c.if-not-matches.false ∙ w.matches-is))
    ] in
    let free : is_some q.holder ≡ false = search rules in
    let some = some_left (items_of q.items) (λ none. true≢false (sym (subst IsTrue c.if-is_empty.false (c.is_empty.ensures.1 none)))) in
    c.requires.may_make (omega (arith, c.args.self.now.kept.log.ok, c.args.self.now.kept.log.small)) (Worker c.args.worker WorkerVerb.Take)
    (Work c.args.worker (with_core c.in-Some.state (after_take c.in-Some.state.core (first_fresh q.items) (length q.items.fresh))) (shown c.args.self.now).grace QueueAct.Seal None Quiet)
    (rw (there, rests, has, free, some) refl)

use Rattle.world_state.proofs.Cited.{◌≡◌, ℕ, ◌<◌, List, length, false, slice_get, slice_set, get_or, Result, Ok, Err, IfErr, sym, ap, ◌∙◌, subst, set-get_or, slice_get-get_or, Refusal, Memory}
use Rattle.world_state.specs.declared.queue.QueueState.{QueueState}
use Rattle.world_state.specs.Queues.{NeedsPlace}
use Rattle.world_state.proofs.queue.hold_queue.Goals as goal

refused : (r : Result Unit Refusal) (qs : List QueueState) (place : ℕ) (new d : QueueState) → place < length qs → IfErr r (λ e. (e ≡ Memory) × ((get_or qs place d).items.reserved ≡ false) × (new ≡ get_or qs place d)) →
    IfErr r (λ e. (e ≡ Memory) × NeedsPlace (slice_get qs place) × (slice_set qs place new ≡ qs))
refused (Ok done) qs place new d within k = tt
refused (Err e) qs place new d within k = (
  k.0,
  subst NeedsPlace (sym (slice_get-get_or qs place d within)) k.1,
  ap (slice_set qs place) k.2 ∙ set-get_or qs place d,
)

pub returns-clause-err : goal.returns-clause-err
returns-clause-err c = refused c.hold.result c.args.queues.now c.args.place c.hold.new.self c.index-queues-place.result c.if-place-queues.false c.hold.ensures.err

-- What is kept, as the step table sees it, and what a change may ask of it.
use Rattle.std.specs.Prelude.{◌≡◌, ◌⊎◌, ◌<◌, ℕ, true, false, List, length, slice_get, Some}
use Rattle.world_state.specs.declared.queue.QueueState.{QueueState}
use Rattle.world_state.specs.declared.change.Change.{Change}
use Rattle.world_state.specs.declared.change.Change.TheVariants.{Read, Begin, Publish, Grace, Hold, Retire, Bar, Work, Stay}
use Rattle.world_state.specs.Queues.{MayActAt}
use Rattle.world_state.specs.View.{BoardView}
use Rattle.world_kept.specs.declared.kept.Kept.{Kept}

abbrev pub shown : {P : Type 0} → Kept P → BoardView P
shown b =
    record {
      layout = b.layout;
      readers = b.readers.items;
      updaters = b.updaters.items;
      workers = b.workers.items;
      queues = b.queues.items;
      barriers = b.barriers;
      grace = b.grace;
      heads = b.heads.items;
      objects = b.objects.items;
      log = b.log.items;
    }

-- a queue has a place for one more item, and had none
pub record Reserves (old new : List QueueState) : Type 0 where
  pub queue : ℕ
  pub before : QueueState
  pub was : slice_get old queue ≡ Some before
  pub had_none : before.items.reserved ≡ false
  pub after : QueueState
  pub is : slice_get new queue ≡ Some after
  pub has : after.items.reserved ≡ true

-- the log or the list of objects is longer, or a queue has a place for one more item
abbrev pub Grows : {P : Type 0} → BoardView P → BoardView P → Type 0
Grows old new = (length old.log < length new.log) ⊎ ((length old.objects < length new.objects) ⊎ Reserves old.queues new.queues)

-- the change asks no more of its queue than the queue has
abbrev pub MayMake : {P : Type 0} → BoardView P → Change P → Type 0
MayMake w (Read r step) = Unit {0}
MayMake w (Begin u x object) = Unit {0}
MayMake w (Publish u x splice event) = Unit {0}
MayMake w (Grace u x grace answer) = Unit {0}
MayMake w (Hold u x q) = Unit {0}
MayMake w (Retire u x q act mark answer) = MayActAt act (slice_get w.queues q)
MayMake w (Bar u x barriers answer) = Unit {0}
MayMake w (Work k x grace act mark answer) = MayActAt act (slice_get w.queues k)
MayMake w (Stay answer) = Unit {0}

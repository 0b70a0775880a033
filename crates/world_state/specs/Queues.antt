-- The queues and workers of the world, and what a step changes of them.
use Rattle.std.specs.Prelude.{◌≡◌, ◌<◌, ℕ, ◌+◌, ◌^◌, ◌-◌, true, false, List, [], length, slice_get, slice_set, Option, Some, None}
use Rattle.callback_queue.specs.declared.item.Item.{Item}
use Rattle.callback_queue.specs.Queue.{empty_queue, given_of, with_place, pushed, sealed, noted, after_advance, popped}
use Rattle.call_rcu_worker.specs.declared.worker.WorkerCore.TheVariants.{Idle}
use Rattle.rcu_model.specs.declared.event.ObjectId.{ObjectId}
use Rattle.world_state.specs.declared.queue.QueueAct.{QueueAct}
use Rattle.world_state.specs.declared.queue.QueueAct.TheVariants.{Leave, Count, Push, Free, Seal, Note, Advance, Pop, Finish}
use Rattle.world_state.specs.declared.queue.QueueState.{QueueState}
use Rattle.world_state.specs.declared.worker.WorkerState.{WorkerState}

-- a worker in no operation
abbrev pub new_worker : {P : Type 0} → WorkerState P
new_worker = record { ask = 0; core = Idle }

abbrev pub empty_queue_state : QueueState
empty_queue_state = record { holder = None; items = empty_queue; queued = 0; finished = 0 }

-- `retire` locks the queue, and reserves the place of its item
abbrev pub held_by : ℕ → QueueState → QueueState
held_by u q = record q { holder = Some u; items = with_place q.items }

abbrev pub item_of : ObjectId → Item Unit
item_of o = record { object = o; job = tt }

-- what a step makes of a queue
abbrev pub acted : QueueAct → QueueState → QueueState
acted Leave q = q
acted Count q = record q { queued = q.queued + 1 }
acted (Push o) q = record q { items = pushed q.items (item_of o) }
acted Free q = record q { holder = None }
acted Seal q = record q { items = sealed q.items }
acted (Note cookie) q = record q { items = noted q.items cookie }
acted (Advance seq) q = record q { items = after_advance q.items seq }
acted Pop q = record q { items = popped q.items }
acted Finish q = record q { finished = q.finished + 1 }

-- what the step asks of the queue
abbrev pub MayAct : QueueAct → QueueState → Type 0
MayAct Leave q = Unit {0}
MayAct Count q = q.queued < 2 ^ 64 - 1
MayAct (Push o) q = (q.items.closed ≡ false) × (q.items.reserved ≡ true) × (given_of q.items < 2 ^ 64 - 1)
MayAct Free q = Unit {0}
MayAct Seal q = (q.items.ready ≡ []) × (q.items.waiting ≡ [])
MayAct (Note cookie) q = 0 < length q.items.waiting
MayAct (Advance seq) q = Unit {0}
MayAct Pop q = Unit {0}
MayAct Finish q = q.finished < 2 ^ 64 - 1

-- one queue of them changes, if there is such a queue
abbrev pub changed_at : (QueueState → QueueState) → List QueueState → ℕ → Option QueueState → List QueueState
changed_at f qs n None = qs
changed_at f qs n (Some q) = slice_set qs n (f q)

abbrev pub held_at : List QueueState → ℕ → ℕ → List QueueState
held_at qs n u = changed_at (held_by u) qs n (slice_get qs n)

abbrev pub acted_at : List QueueState → ℕ → QueueAct → List QueueState
acted_at qs n act = changed_at (acted act) qs n (slice_get qs n)

abbrev pub MayActAt : QueueAct → Option QueueState → Type 0
MayActAt act None = Unit {0}
MayActAt act (Some q) = MayAct act q

-- a place is now reserved in this queue, and was not
abbrev pub NeedsPlace : Option QueueState → Type 0
NeedsPlace None = ⊥
NeedsPlace (Some q) = q.items.reserved ≡ false

-- How an object comes into a queue.
use Rattle.std.specs.Prelude.{Bool, ◌≡◌, ℕ, ◌+◌, ◌<◌, ◌^◌, [], ◌∷◌}
use Rattle.atomic_table.specs.Seated.{TableId}
use Rattle.atomic_table.specs.declared.shared.Seat.{Seat}
use Rattle.rcu_model.specs.declared.event.ObjectId.{ObjectId}
use base.Stored.{Gv}
use Rattle.live_log.specs.declared.callback_id.CallbackId.{CallbackId}
use Rattle.live_log.specs.declared.event.LiveEvent.{LiveEvent}
use Rattle.live_log.specs.declared.event.LiveEvent.TheVariants.{Object}
use Rattle.live_log.specs.declared.event.ObjectEvent.TheVariants.{Queue, Retire}
use Rattle.live_log.specs.Log.{Log, Begins, IsLiveRun}
use Rattle.live_words.specs.live_rule.declared.view.View.{View}
use Rattle.live_words.specs.live_rule.declared.rights.QueueRight.TheVariants.{Owns}
use Rattle.live_words.specs.live_rule.declared.rights.RecordRight.TheVariants.{Nothing, Queued}
use Rattle.live_words.specs.live_rule.Rights.{IsInQueue, closed_in, object_in, queue_in, queued_in}
use Rattle.live_words.specs.live_rule.Steps.{Keeps}
use Rattle.live_words.specs.step_queues.Queues.{IsLast}
use Rattle.live_read.specs.declared.caller.Caller.{Ghosts}

-- the object was retired at a log of which the first holds, and then it was queued, after this many, with the callback
-- of this code
pub record Queues (qsbr : Bool) (allows : Log → LiveEvent → Type 0) (at_retire : Log → Type 0) (o : ObjectId) (queue given : ℕ) (callback : Gv) (log : Log) : Type 0 where
  pub before : Log
  pub at : at_retire before
  pub within : Log
  pub retired : Begins (Object (Retire o) ∷ before) within
  pub id : CallbackId
  pub is : id.code ≡ callback
  pub wrote : log ≡ Object (Queue o queue id) ∷ within
  pub last : IsLast queue given o log
  pub run : IsLiveRun qsbr allows log

-- the log comes after the cut, and after all that the caller had seen and heard of
abbrev pub IsAfterAll : Log → Log → Log → Log → Type 0
IsAfterAll cut seen heard log = Begins cut log × Begins seen log × Begins heard log

-- and the caller hears of the log, in which the object of this seat's record is queued
abbrev pub QueuesFor : {W S : Type 0} → Ghosts W S → Bool → (Log → LiveEvent → Type 0) → W → W → View → ℕ → ℕ → Gv → Type 0
QueuesFor w qsbr allows old new cut queue given callback = Queues qsbr allows (IsAfterAll cut.seen (w.seen old) (w.heard old)) (object_in cut.object) queue given callback (w.heard new)

-- by the name, the queues and the pool of a table, both seats are of it, and so are the queue and the record
abbrev pub AreOfTable : {S : Type 0} → TableId → ℕ → ℕ → Seat S View → Seat S View → ℕ → ℕ → Type 0
AreOfTable id queues pool lock unlinked queue cell = (lock.table_id ≡ id) × (unlinked.table_id ≡ id) × (unlinked.me.1 ≡ []) × (queue < queues) × (cell < pool)

-- the seat has the right to the queue, which is open, and to which this many were given
abbrev pub HasQueue : View → ℕ → ℕ → Type 0
HasQueue v queue given = IsInQueue v × (queue_in v.queue ≡ queue) × (closed_in v.queue ≡ 0) × (queued_in v.queue ≡ given) × (given + 1 < 2 ^ 64)

-- it has it still, after one more, and no object
abbrev pub GivesOneMore : {S : Type 0} → Seat S View → Seat S View → ℕ → ℕ → Type 0
GivesOneMore s t queue given = Keeps s t × (t.me.1 ≡ s.me.1) × (t.me.0.sizes ≡ s.me.0.sizes) × (t.me.0.queue ≡ Owns queue (given + 1) 0) × (t.me.0.object ≡ Nothing)

-- the seat of a job has the right to run the object that another seat had cut
abbrev pub HasQueued : {S : Type 0} → TableId → Seat S View → Seat S View → Seat S View → ℕ → Type 0
HasQueued id lock unlinked job cell = (job.table_id ≡ id) × (job.me.1 ≡ []) × (job.me.0.sizes ≡ lock.me.0.sizes) × (job.me.0.object ≡ Queued cell (object_in unlinked.me.0.object))

-- What each step on a queue asks and tells.
use Rattle.std.specs.Prelude.{Bool, ◌≡◌, ◌≢◌, ℕ, ◌+◌, ◌<◌, ◌≤◌, List, [], ◌∷◌, length}
use mathlib.Core.Option.{Option, none, some}
use lib.ListN.{get_elem?}
use base.Stored.{gnil}
use Rattle.atomic_table.specs.Table.{Me, Step}
use Rattle.live_rule.specs.rcu_model.declared.event.ObjectId.{ObjectId}
use Rattle.live_rule.specs.rcu_model.Sets.{In}
use Rattle.live_rule.specs.live_log.declared.event.LiveEvent.{LiveEvent}
use Rattle.live_rule.specs.live_log.declared.event.LiveEvent.TheVariants.{CloseQueue, Object}
use Rattle.live_rule.specs.live_log.declared.event.ObjectEvent.TheVariants.{Queue}
use Rattle.live_rule.specs.live_log.Log.{Log, state_of, line_of, closed_of, HaveRun}
use Rattle.live_rule.specs.live_log.declared.callback_id.CallbackId.{CallbackId}
use Rattle.live_rule.specs.declared.view.Look.{Look}
use Rattle.live_rule.specs.declared.view.Look.TheVariants.{Loaded}
use Rattle.live_rule.specs.declared.view.Sizes.{Sizes}
use Rattle.live_rule.specs.declared.view.View.{View}
use Rattle.live_rule.specs.declared.rights.QueueRight.TheVariants as queue_right
use Rattle.live_rule.specs.declared.rights.WorkRight.TheVariants as work_right
use Rattle.live_rule.specs.declared.rights.RecordRight.TheVariants as record_right
use Rattle.live_rule.specs.Places.{queued_at, closed_at, finished_at, work_at}
use Rattle.live_rule.specs.Seats.{but_work}
use Rattle.live_rule.specs.Rights.{cell_in, object_in, queue_in, queued_in, closed_in, work_in, finished_in}
use Rattle.live_rule.specs.Steps.{Did, Went, exchanged_view, looked_view, stored_view}

-- which callback a step was told of
abbrev pub told_id : Option CallbackId → CallbackId
told_id none = record { marker = record {}; code = gnil }
told_id (some id) = id

-- the view, once its retired object is queued
abbrev pub queued_view : View → View
queued_view v = record v { queue = queue_right.Owns (queue_in v.queue) (queued_in v.queue + 1) (closed_in v.queue); object = record_right.Queued (cell_in v.object) (object_in v.object) }

-- the view, once its queue is closed
abbrev pub closed_view : View → View
closed_view v = record v { queue = queue_right.Owns (queue_in v.queue) (queued_in v.queue) 1 }

-- the view of a queue's worker, who counted this many as finished
abbrev pub working_view : ℕ → ℕ → View → View
working_view q n v = record v { work = work_right.Works q n }

-- the view, once one more is finished
abbrev pub finished_view : View → View
finished_view v = working_view (work_in v.work) (finished_in v.work + 1) v

-- the object before which this many were put into the queue
abbrev pub IsAt : ℕ → ℕ → ObjectId → Log → Type 0
IsAt q n o log = get_elem? (line_of log q) n ≡ some o

-- and it is the last one
abbrev pub IsLast : ℕ → ℕ → ObjectId → Log → Type 0
IsLast q n o log = IsAt q n o log × (length (line_of log q) ≡ n + 1)

-- in this log the object before which this many were put into the queue has its Run
abbrev pub HasRunAt : ℕ → ℕ → Log → Type 0
HasRunAt q n log = (o : ObjectId) × IsAt q n o log × In (state_of log).reclaimed o

-- no other queue than those of the table has taken anything
abbrev pub HasNoOther : Sizes → Log → Type 0
HasNoOther key log = (q : ℕ) → key.queues ≤ q → line_of log q ≡ []

-- By these looks nobody took a batch of more than this many. A worker takes a batch of all that was queued: it loads that
-- count, and then the finished one.
abbrev pub TookNoMore : Sizes → (q most : ℕ) → List Look → Type 0
TookNoMore key q most [] = Unit {0}
TookNoMore key q most (l ∷ ls) = ((f n : ℕ) (rest : List Look) → l ≡ Loaded (finished_at key q) f → ls ≡ Loaded (queued_at key q) n ∷ rest → n ≤ most) × TookNoMore key q most ls

-- what a word of a queue tells, by its place
pub record TellsQueue (key : Sizes) (place q n : ℕ) (log : Log) : Type 0 where
  pub queued : place ≡ queued_at key q → n ≡ length (line_of log q)
  pub closed : place ≡ closed_at key q → n ≡ closed_of q log
  pub finished : place ≡ finished_at key q → HaveRun q n log × (n ≤ length (line_of log q))

-- what the finished count of its own queue tells a worker
abbrev pub TellsWorker : View → ℕ → ℕ → Type 0
TellsWorker v place n = (q k : ℕ) → place ≡ finished_at v.sizes q → v.work ≡ work_right.Works q k → n ≡ k

module _ {S : Type 0} (qsbr : Bool) (allows : Log → LiveEvent → Type 0) where
  -- a word of a queue was loaded
  abbrev pub looked : Step S → Me S View → ℕ → Me S View → Type 0
  looked st m n m' = Went qsbr allows (looked_view st.word n m.0) m m' × HasNoOther m.0.sizes m'.0.seen × ((q : ℕ) → q < m.0.sizes.queues → TellsQueue m.0.sizes st.word q n m'.0.seen) × TellsWorker m.0 st.word n

  -- the seat's object was queued, with this callback
  abbrev pub QueuedObject : CallbackId → Me S View → Me S View → Type 0
  QueuedObject id m m' = Did qsbr allows (queued_view m.0) (Object (Queue (object_in m.0.object) (queue_in m.0.queue) id)) m m'

  -- and it is the last one
  abbrev pub queued : CallbackId → Step S → Me S View → ℕ → Me S View → Type 0
  queued id st m n m' = QueuedObject id m m' × IsLast (queue_in m.0.queue) (queued_in m.0.queue) (object_in m.0.object) m'.0.seen

  -- the queue was closed
  abbrev pub closed : Step S → Me S View → ℕ → Me S View → Type 0
  closed st m n m' = Did qsbr allows (closed_view m.0) (CloseQueue (queue_in m.0.queue)) m m'

  -- one more is finished
  abbrev pub finished : Step S → Me S View → ℕ → Me S View → Type 0
  finished st m n m' = Went qsbr allows (finished_view m.0) m m'

  -- this was found in the queue's hold word, and so the work is the seat's
  abbrev pub TookWork : Sizes → ℕ → ℕ → Me S View → Me S View → Type 0
  TookWork key q n m m' = Went qsbr allows (working_view q (finished_in m'.0.work) (exchanged_view (work_at key q) n 1 m.0)) m m' × HaveRun q (finished_in m'.0.work) m'.0.seen

  -- the hold word was 0, and so the work is the seat's; or another has it, or nobody can
  abbrev pub held : Step S → Me S View → ℕ → Me S View → Type 0
  held st m n m' =
      (n ≡ 0 → (q : ℕ) → q < m.0.sizes.queues → st.word ≡ work_at m.0.sizes q → Went qsbr allows (working_view q (finished_in m'.0.work) (exchanged_view st.word n st.second m.0)) m m' × HaveRun q (finished_in m'.0.work) m'.0.seen)
      × (n ≢ 0 → Went qsbr allows (looked_view st.word n m.0) m m') × (n ≤ 2)

  -- the work was given back, by this word
  abbrev pub freed : Step S → Me S View → ℕ → Me S View → Type 0
  freed st m n m' = Went qsbr allows (stored_view st.word st.first (but_work m.0)) m m'

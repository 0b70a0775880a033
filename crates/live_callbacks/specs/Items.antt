-- What lies under a queue's lock: its items in the order of their tickets, and the queue's seat.
use Rattle.std.specs.Prelude.{Bool, true, false, ◌≡◌, ◌≢◌, ◌⊎◌, ℕ, ◌+◌, ◌<◌, ◌≤◌, ◌^◌, List, [], ◌∷◌, ◌++◌, length}
use base.Stored.{Gv}
use Rattle.atomic_table.specs.declared.shared.Seat.{Seat}
use Rattle.rcu_model.specs.declared.event.ObjectId.{ObjectId}
use Rattle.rcu_model.specs.declared.refusal.Refusal.{Refusal}
use Rattle.rcu_model.specs.declared.refusal.Refusal.TheVariants.{Closed, Memory}
use Rattle.callback_queue.specs.declared.item.Item.{Item}
use Rattle.callback_queue.specs.Queue.{Queue, items_of, given_of, pushed, sealed, taken_out, with_place}
use Rattle.live_log.specs.declared.event.LiveEvent.{LiveEvent}
use Rattle.live_log.specs.declared.event.LiveEvent.TheVariants.{CloseQueue}
use Rattle.live_log.specs.Log.{Log, Begins, IsLiveRun, WasQueued, line_of}
use Rattle.live_words.specs.live_rule.declared.view.Look.{Look}
use Rattle.live_words.specs.live_rule.declared.view.Look.TheVariants.{Loaded}
use Rattle.live_words.specs.live_rule.declared.view.Sizes.{Sizes}
use Rattle.live_words.specs.live_rule.declared.view.View.{View}
use Rattle.live_words.specs.live_rule.declared.rights.QueueRight.TheVariants.{Owns}
use Rattle.live_words.specs.live_rule.declared.rights.RecordRight.TheVariants.{Nothing}
use Rattle.live_words.specs.live_rule.Places.{finished_at, queued_at}
use Rattle.live_words.specs.live_rule.Rights.{object_in}
use Rattle.live_words.specs.live_rule.Steps.{Keeps}
use Rattle.live_words.specs.step_queues.Queues.{IsAt}

-- what a job's seat knows, its record, what is called, and the code with which that was queued
abbrev pub JobValue : Type 0 → Type 0
JobValue C = View × ℕ × C × Gv

abbrev pub Jobs : Type 0 → Type 0
Jobs C = Queue (Item (JobValue C))

-- this many were queued before the item's object, which was queued with the callback of the job's code, and whoever has
-- seen this log knows of it
pub record IsPlaced {C : Type 0} (q : ℕ) (seen : Log) (n : ℕ) (item : Item (JobValue C)) : Type 0 where
  pub turn : IsAt q n item.object item.job.0.seen
  pub known : Begins item.job.0.seen seen
  pub named : item.object ≡ object_in item.job.0.object
  pub noted : WasQueued item.object q item.job.3 item.job.0.seen

-- the items stand in the order in which their objects were queued
abbrev pub InOrder : {C : Type 0} → ℕ → Log → ℕ → List (Item (JobValue C)) → Type 0
InOrder q seen n [] = Unit {0}
InOrder q seen n (item ∷ items) = IsPlaced q seen n item × InOrder q seen (n + 1) items

-- what was queued is the object with its own callback, at the end of what was not yet sealed
abbrev pub IsPushed : {C : Type 0} → Jobs C → Jobs C → ObjectId → C → Type 0
IsPushed {C} old new o callback = (job : JobValue C) × (job.2 ≡ callback) × (new ≡ pushed (with_place old) (record { object = o; job = job }))

-- there is no place for an item: the queue was closed, or memory was refused, or as many were given as may be
abbrev pub GetsNoPlace : {C : Type 0} → Jobs C → Refusal → Type 0
GetsNoPlace jobs e = ((e ≡ Closed) × (jobs.closed ≡ true)) ⊎ ((e ≡ Memory) × (jobs.closed ≡ false) × ((jobs.reserved ≡ false) ⊎ (2 ^ 63 ≤ given_of jobs)))

-- A worker's batch: what comes next after this many that are finished, up to this number. It is all that was queued in
-- the log.
pub record IsBatch {C : Type 0} (q : ℕ) (log : Log) (finished last : ℕ) (items : List (Item (JobValue C))) : Type 0 where
  pub placed : InOrder q log finished items
  pub count : finished + length items ≡ last
  pub all : length (line_of log q) ≤ last
  pub known : finished < last → last ≤ length (line_of log q)

-- A worker's seat heard of more, and loaded how many were queued, when the log was this one. It loaded more later.
pub record CountsQueued {S : Type 0} (qsbr : Bool) (allows : Log → LiveEvent → Type 0) (key : Sizes) (q : ℕ) (more : List Look) (s t : Seat S View) : Type 0 where
  pub at : Log
  pub after : Begins s.me.0.seen at
  pub before : Begins at t.me.0.seen
  pub run_at : IsLiveRun qsbr allows at
  pub run : IsLiveRun qsbr allows t.me.0.seen
  pub keeps : Keeps s t
  pub view : t.me ≡ (record s.me.0 { seen = t.me.0.seen; heard = t.me.0.heard; looks = more ++ (Loaded (queued_at key q) (length (line_of at q)) ∷ s.me.0.looks) }, s.me.1)

-- It took a batch up to this number. Then it loaded how many are finished.
pub record TakesBatch {S C : Type 0} (qsbr : Bool) (allows : Log → LiveEvent → Type 0) (key : Sizes) (q finished last : ℕ) (items : List (Item (JobValue C))) (s t : Seat S View) : Type 0 where
  pub counts : CountsQueued qsbr allows key q (Loaded (finished_at key q) finished ∷ []) s t
  pub batch : IsBatch q counts.at finished last items

-- it found no more queued than are finished, and took nothing
abbrev pub FindsNone : {S : Type 0} → Bool → (Log → LiveEvent → Type 0) → Sizes → (q finished : ℕ) → Seat S View → Seat S View → Type 0
FindsNone qsbr allows key q finished s t = (c : CountsQueued qsbr allows key q [] s t) × (length (line_of c.at q) ≤ finished)

-- it found more, and took nothing
abbrev pub FindsMore : {S : Type 0} → Bool → (Log → LiveEvent → Type 0) → Sizes → (q finished : ℕ) → Seat S View → Seat S View → Type 0
FindsMore qsbr allows key q finished s t = (c : CountsQueued qsbr allows key q [] s t) × (finished < length (line_of c.at q))

-- these are the items, and all of them have left
abbrev pub IsTakenOut : {C : Type 0} → Jobs C → Jobs C → List (Item (JobValue C)) → Type 0
IsTakenOut old new items = (items ≡ old.fresh) × (new ≡ taken_out (sealed old))

-- A list of this length and room has no place for an entry of each item, or a batch of this room none for the items. Or
-- the items are not all that was queued in the log but for this many, the first ones.
abbrev pub HasNoBatch : {C : Type 0} → Jobs C → ℕ → ℕ → Log → ℕ × ℕ → ℕ → Type 0
HasNoBatch jobs q finished log list room = (list.1 < list.0 + length jobs.fresh) ⊎ (room < length jobs.fresh) ⊎ (jobs.gone ≢ finished) ⊎ (given_of jobs ≢ length (line_of log q))

-- 1 once the queue was closed
abbrev pub word_of : Bool → ℕ
word_of false = 0
word_of true = 1

-- The seat has the right to the queue, whose queued count is how many tickets were given. What leaves was never sealed
-- before.
pub record IsUnderLock {C : Type 0} (key : Sizes) (jobs : Jobs C) (v : View) (q : ℕ) : Type 0 where
  pub sizes : v.sizes ≡ key
  pub right : v.queue ≡ Owns q (given_of jobs) (word_of jobs.closed)
  pub empty : v.object ≡ Nothing
  pub low : q < key.queues
  pub long : given_of jobs ≤ length (line_of v.seen q)
  pub placed : InOrder q v.seen jobs.gone (items_of jobs)
  pub unsealed : (jobs.ready ≡ []) × (jobs.waiting ≡ [])

-- the queue was closed, after all that the caller had seen and heard of
pub record Closes (qsbr : Bool) (allows : Log → LiveEvent → Type 0) (seen heard : Log) (q : ℕ) (log : Log) : Type 0 where
  pub before : Log
  pub after_caller : Begins seen before × Begins heard before
  pub wrote : log ≡ CloseQueue q ∷ before
  pub run : IsLiveRun qsbr allows log

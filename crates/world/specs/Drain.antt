-- A drain: one worker alone, from its `take` until its batch is counted.
use Rattle.std.specs.Prelude.{◌≡◌, ◌⊎◌, ◌≤◌, ◌<◌, ℕ, zero, suc, ◌+◌, ◌*◌, ◌%◌, ◌^◌, ◌==◌, ◌||◌, not, nat_lt, Bool, true, false, is_some, if◌then◌else◌, List, [], ◌∷◌, replicate, length, slice_get, Option, Some, None, Result, Ok, Err}
use Rattle.rcu_model.specs.declared.refusal.Refusal.{Refusal}
use Rattle.rcu_model.specs.declared.refusal.Refusal.TheVariants.{NoActor, Busy, Exhausted, Memory}
use Rattle.reader_word.specs.declared.layout.Layout.{Layout}
use Rattle.callback_queue.specs.Queue.{items_of}
use Rattle.call_rcu_worker.specs.declared.worker.WorkerCore.TheVariants.{Idle}
use Rattle.world_state.specs.declared.line.Line.{Line}
use Rattle.world_state.specs.declared.line.Line.TheVariants.{Worker}
use Rattle.world_state.specs.declared.line.WorkerVerb.TheVariants.{Take, GoOn}
use Rattle.world_state.specs.declared.change.Change.{Change}
use Rattle.world_state.specs.declared.queue.QueueState.{QueueState}
use Rattle.world_state.specs.declared.reader.ReaderState.{ReaderState}
use Rattle.world_state.specs.declared.worker.WorkerState.{WorkerState}
use Rattle.world_state.specs.Readers.{is_open_in}
use Rattle.world_state.specs.View.{Plans, BoardView}
use Rattle.world.specs.Lines.{outcome_of, world_after}
use Rattle.world.specs.Steps.{WorldView, OfMemb, OfQsbr, memb_plans, qsbr_plans, step_of, world_after_lines, log_of, IsMade}
use Rattle.world.specs.Workers.{is_none_left, is_resting}

-- some reader is in a section
abbrev pub some_open : Bool → Layout → List ReaderState → Bool
some_open qsbr layout [] = false
some_open qsbr layout (v ∷ vs) = is_open_in qsbr layout v.word || some_open qsbr layout vs

-- the steps over this many readers: the `take`, the ask, its lock, its check, the turns of its plan, the unlock, and
-- two for each item
abbrev pub steps_of_flavour : Bool → ℕ → ℕ → ℕ
steps_of_flavour false readers items = 2 * readers + 9 + 2 * items
steps_of_flavour true readers items = readers + 8 + 2 * items

abbrev pub steps_for : Bool → ℕ → ℕ → ℕ
steps_for qsbr readers items = if items == 0 then 0 else steps_of_flavour qsbr readers items

-- the lines of a drain with this many steps
abbrev pub drain_lines : ℕ → ℕ → List Line
drain_lines k zero = []
drain_lines k (suc more) = Worker k Take ∷ replicate more (Worker k GoOn)

abbrev pub steps_with : Bool → ℕ → Result ℕ Refusal → Result ℕ Refusal
steps_with qsbr readers (Ok items) = Ok (steps_for qsbr readers items)
steps_with qsbr readers (Err e) = Err e

module _ {P : Type 0} where
  -- somebody is in the way, or the worker is in an operation
  abbrev pub is_busy : Bool → BoardView P → WorkerState P → QueueState → Bool
  is_busy qsbr w x q = some_open qsbr w.layout w.readers || (is_some w.grace.holder || (is_some q.holder || not (is_resting x.core)))

  -- how many items are drained, or why none can be
  abbrev pub items_in : Bool → BoardView P → Option (WorkerState P) → Option QueueState → Result ℕ Refusal
  items_in qsbr w None q = Err NoActor
  items_in qsbr w (Some x) None = Err NoActor
  items_in qsbr w (Some x) (Some q) =
      if is_busy qsbr w x q then Err Busy
      else if is_none_left (items_of q.items) then Ok 0
      else if nat_lt w.grace.seq (2 ^ 62) then Ok (length (items_of q.items))
      else Err Exhausted

  abbrev pub items_to_drain : Bool → BoardView P → ℕ → Result ℕ Refusal
  items_to_drain qsbr w k = items_in qsbr w (slice_get w.workers k) (slice_get w.queues k)

  -- the number of steps, or why there are none
  abbrev pub steps_to_drain : Bool → BoardView P → ℕ → Result ℕ Refusal
  steps_to_drain qsbr w k = steps_with qsbr (length w.readers) (items_to_drain qsbr w k)

  abbrev pub Rests : Option (WorkerState P) → Type 0
  Rests None = ⊥
  Rests (Some x) = x.core ≡ Idle

-- no item is left there, and each that has left is counted
abbrev pub HasNone : Option QueueState → Type 0
HasNone None = ⊥
HasNone (Some q) = (items_of q.items ≡ []) × (q.finished ≡ q.items.gone)

module _ {P : Type 0} where
  -- the worker is in no operation again, has run and counted all, and has freed the grace lock
  abbrev pub HasDrained : BoardView P → ℕ → Type 0
  HasDrained w k = Rests (slice_get w.workers k) × HasNone (slice_get w.queues k) × (w.grace.holder ≡ None)

  abbrev pub AreMadeFrom : Plans P → BoardView P → List Line → Type 0
  AreMadeFrom plans w [] = Unit {0}
  AreMadeFrom plans w (line ∷ lines) = IsMade (outcome_of plans w line).answer × AreMadeFrom plans ((outcome_of plans w line).world) lines

  -- there are steps to make, and they tell events
  abbrev pub Tells : Plans P → BoardView P → ℕ → Type 0
  Tells plans w k = (steps : ℕ) × (steps_to_drain plans.qsbr w k ≡ Ok steps) × (length w.log < length (world_after plans w (drain_lines k steps)).log)

  -- a drain of the board: its steps are the definition's, all made and alone, and leave nothing; or it was refused, and
  -- nothing changed
  abbrev pub Drains : Plans P → ℕ → BoardView P → BoardView P → Result ℕ Refusal → Type 0
  Drains plans k old new (Ok steps) = (steps_to_drain plans.qsbr old k ≡ Ok steps) × (new ≡ world_after plans old (drain_lines k steps)) × AreMadeFrom plans old (drain_lines k steps) × HasDrained new k
  Drains plans k old new (Err e) = (new ≡ old) × ((steps_to_drain plans.qsbr old k ≡ Err e) ⊎ ((e ≡ Memory) × Tells plans old k))

  -- what a worker that rests finds
  pub record IsSettled (w : BoardView P) : Type 0 where
    pub even : w.grace.holder ≡ None → w.grace.seq % 2 ≡ 0
    pub rested : (k : ℕ) (x : WorkerState P) (q : QueueState) → slice_get w.workers k ≡ Some x → slice_get w.queues k ≡ Some q → x.core ≡ Idle → (q.items.ready ≡ []) × (q.items.waiting ≡ []) × (q.finished ≡ q.items.gone)
    pub few_readers : length w.readers ≤ 64

-- a drain of the world
abbrev pub steps_in : WorldView → ℕ → Result ℕ Refusal
steps_in (OfMemb w) k = steps_to_drain memb_plans.qsbr w k
steps_in (OfQsbr w) k = steps_to_drain qsbr_plans.qsbr w k

abbrev pub HasDrainedIn : WorldView → ℕ → Type 0
HasDrainedIn (OfMemb w) k = HasDrained w k
HasDrainedIn (OfQsbr w) k = HasDrained w k

abbrev pub AreMade : WorldView → List Line → Type 0
AreMade w [] = Unit {0}
AreMade w (line ∷ lines) = IsMade (step_of w line).answer × AreMade ((step_of w line).world) lines

abbrev pub TellsIn : WorldView → ℕ → Type 0
TellsIn w k = (steps : ℕ) × (steps_in w k ≡ Ok steps) × (length (log_of w) < length (log_of (world_after_lines w (drain_lines k steps))))

-- its steps are the definition's, all made and alone, and leave nothing; or it was refused, and nothing changed
abbrev pub MeetsDrain : ℕ → WorldView → WorldView → Result ℕ Refusal → Type 0
MeetsDrain k old new (Ok steps) = (steps_in old k ≡ Ok steps) × (new ≡ world_after_lines old (drain_lines k steps)) × AreMade old (drain_lines k steps) × HasDrainedIn new k
MeetsDrain k old new (Err e) = (new ≡ old) × ((steps_in old k ≡ Err e) ⊎ ((e ≡ Memory) × TellsIn old k))

-- The step table's rows of workers.
use Rattle.std.specs.Prelude.{◌+◌, ◌-◌, ℕ, Bool, true, false, is_some, List, [], ◌∷◌, length, slice_get, Option, Some, None, Result, Ok}
use Rattle.rcu_model.specs.declared.event.Event.TheVariants as events
use Rattle.rcu_model.specs.declared.refusal.Refusal.{Refusal}
use Rattle.rcu_model.specs.declared.refusal.Refusal.TheVariants.{NotOpen, NoActor}
use Rattle.callback_queue.specs.declared.item.Ticket.{Ticket}
use Rattle.callback_queue.specs.declared.item.Item.{Item}
use Rattle.callback_queue.specs.Queue.{Queue, items_of, given_of, object_of_first}
use Rattle.rcu_model.specs.declared.event.ObjectId.{ObjectId}
use Rattle.call_rcu_worker.specs.declared.sync.SyncCore.{SyncCore}
use Rattle.call_rcu_worker.specs.declared.sync.SyncCore.TheVariants.{Asks, Waits, Checks, Starts, Runs, Frees, Done}
use Rattle.call_rcu_worker.specs.declared.worker.Tickets.{Tickets}
use Rattle.call_rcu_worker.specs.declared.worker.WorkerCore.{WorkerCore}
use Rattle.call_rcu_worker.specs.declared.worker.WorkerCore.TheVariants as worker
use Rattle.call_rcu_worker.specs.Worker.{after_take, synced, item_done}
use Rattle.world_state.specs.declared.line.Answer.TheVariants.{Quiet, Blocked, Idle as NothingThere}
use Rattle.world_state.specs.declared.object.Life.TheVariants as life
use Rattle.world_state.specs.declared.queue.QueueAct.{QueueAct}
use Rattle.world_state.specs.declared.queue.QueueAct.TheVariants as act
use Rattle.world_state.specs.declared.queue.QueueState.{QueueState}
use Rattle.world_state.specs.declared.updater.Holder.TheVariants as holder
use Rattle.world_state.specs.declared.worker.WorkerState.{WorkerState}
use Rattle.world_state.specs.declared.change.Change.{Change}
use Rattle.world_state.specs.declared.change.Change.TheVariants.{Work}
use Rattle.world_state.specs.Queues.{item_of}
use Rattle.world_state.specs.View.{Plans, BoardView}
use Rattle.world.specs.declared.grace.GraceStep.{GraceStep}
use Rattle.world.specs.Answers.{one}
use Rattle.world.specs.Grace.{grace_row, sync_row}
use Rattle.world.specs.Row.{Row, stalled_if, guarded, makes, unreached}

abbrev pub is_none_left : {T : Type 0} → List T → Bool
is_none_left [] = true
is_none_left (item ∷ items) = false

-- the first ready item's ticket and object
abbrev pub first_in : Option QueueState → Option (Ticket × ObjectId)
first_in None = None
first_in (Some q) = object_of_first q.items

-- the ticket of the first fresh item
abbrev pub first_fresh : Queue (Item Unit) → Ticket
first_fresh items = record { 0 = given_of items - length items.fresh + 1 }

module _ {P : Type 0} where
  abbrev pub with_core : WorkerState P → WorkerCore P Unit → WorkerState P
  with_core x core = record x { core = core }

  -- `take`: all fresh items wait from now on
  abbrev pub take_row : BoardView P → ℕ → WorkerState P → Option QueueState → Row (Change P)
  take_row w k x None = unreached NoActor
  take_row w k x (Some q) =
      guarded (stalled_if (is_some q.holder) Blocked ∷ stalled_if (is_none_left (items_of q.items)) NothingThere ∷ [])
      (Ok (Work k (with_core x (after_take x.core (first_fresh q.items) (length q.items.fresh))) w.grace act.Seal None Quiet))

  -- the number of the ask that the step is of
  abbrev pub ask_for : BoardView P → ℕ → SyncCore P → ℕ
  ask_for w ask Asks = w.grace.asks + 1
  ask_for w ask (Waits cookie) = ask
  ask_for w ask (Checks cookie) = ask
  ask_for w ask (Starts cookie) = ask
  ask_for w ask (Runs cookie plan) = ask
  ask_for w ask Frees = ask
  ask_for w ask Done = ask

  -- what the queue is told: the cookie that was taken, and the number that answered
  abbrev pub act_for : ℕ → SyncCore P → QueueAct
  act_for seq Asks = act.Leave
  act_for seq (Waits cookie) = act.Note cookie
  act_for seq (Checks cookie) = act.Leave
  act_for seq (Starts cookie) = act.Leave
  act_for seq (Runs cookie plan) = act.Leave
  act_for seq Frees = act.Advance seq
  act_for seq Done = act.Leave

  abbrev pub worker_act : ℕ → WorkerCore P Unit → QueueAct
  worker_act seq worker.Idle = act.Leave
  worker_act seq (worker.Syncs sync tickets) = act_for seq sync
  worker_act seq (worker.Pops tickets) = act.Leave
  worker_act seq (worker.Runs tickets ticket item) = act.Leave
  worker_act seq (worker.Ran tickets ticket item) = act.Leave
  worker_act seq (worker.Counts tickets ticket) = act.Leave

  -- a step of the worker's grace period
  abbrev pub work_change : ℕ → ℕ → Tickets → GraceStep P → Change P
  work_change k ask tickets step = Work k (record { ask = ask; core = synced step.core tickets }) step.grace (worker_act step.grace.seq (synced step.core tickets)) None step.answer

  abbrev pub worked : ℕ → ℕ → Tickets → Result (GraceStep P) Refusal → Row (Change P)
  worked k ask tickets step = sync_row (work_change k ask tickets) step

  -- the first ready item is popped and run, and then counted
  abbrev pub run_row : BoardView P → ℕ → WorkerState P → Tickets → Option (Ticket × ObjectId) → Row (Change P)
  run_row w k x tickets None = unreached NotOpen
  run_row w k x tickets (Some first) = makes (Work k (with_core x (worker.Ran tickets first.0 (item_of first.1))) w.grace act.Pop (Some (record { object = first.1; life = life.Reclaimed })) (one (events.Run first.1)))

  -- a worker's next step; between two lines it holds no item that it did not run
  abbrev pub worker_on : Plans P → BoardView P → ℕ → WorkerState P → WorkerCore P Unit → Row (Change P)
  worker_on plans w k x worker.Idle = unreached NotOpen
  worker_on plans w k x (worker.Syncs sync tickets) = worked k (ask_for w x.ask sync) tickets (grace_row plans w (holder.Worker k) (ask_for w x.ask sync) sync)
  worker_on plans w k x (worker.Pops tickets) = run_row w k x tickets (first_in (slice_get w.queues k))
  worker_on plans w k x (worker.Runs tickets ticket item) = unreached NotOpen
  worker_on plans w k x (worker.Ran tickets ticket item) = makes (Work k (with_core x (item_done (worker.Counts tickets ticket))) w.grace act.Finish None Quiet)
  worker_on plans w k x (worker.Counts tickets ticket) = unreached NotOpen

  abbrev pub is_resting : WorkerCore P Unit → Bool
  is_resting worker.Idle = true
  is_resting (worker.Syncs sync tickets) = false
  is_resting (worker.Pops tickets) = false
  is_resting (worker.Runs tickets ticket item) = false
  is_resting (worker.Ran tickets ticket item) = false
  is_resting (worker.Counts tickets ticket) = false

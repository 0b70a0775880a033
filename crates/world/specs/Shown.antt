-- The world as the step table sees it.
use Rattle.std.specs.Prelude.{◌≡◌, ◌≢◌, ◌⊎◌, ◌≤◌, ◌<◌, ◌^◌, ◌%◌, ℕ, true, Result, Ok, Err, OnErr, length, slice_get, Some}
use Rattle.rcu_model.specs.declared.refusal.Refusal.{Refusal}
use Rattle.rcu_model.specs.declared.refusal.Refusal.TheVariants.{Memory}
use Rattle.world_state.specs.declared.line.Answer.{Answer}
use Rattle.world_state.specs.declared.reader.ReaderState.{ReaderState}
use Rattle.world_state.specs.declared.updater.GraceState.{GraceState}
use Rattle.world_state.specs.declared.updater.UpdaterState.{UpdaterState}
use Rattle.world_state.specs.declared.updater.UpdaterPlace.TheVariants.{Syncs, Bars}
use Rattle.world_state.specs.declared.updater.Barrier.{Barrier}
use Rattle.world_state.specs.declared.updater.BarrierStep.{BarrierStep}
use Rattle.world_state.specs.declared.updater.BarrierStep.TheVariants.{Note, Check}
use Rattle.world_state.specs.declared.queue.QueueState.{QueueState}
use Rattle.world_state.specs.declared.worker.WorkerState.{WorkerState}
use Rattle.world_state.specs.declared.line.Line.{Line}
use Rattle.world_state.specs.declared.change.Change.{Change}
use Rattle.gp_memb.specs.declared.plan.Action.TheVariants.{LoadGroup}
use Rattle.callback_queue.specs.declared.item.Ticket.{Ticket}
use Rattle.callback_queue.specs.Queue.{given_of}
use Rattle.rcu_model.specs.declared.event.ObjectId.{ObjectId}
use Rattle.call_rcu_worker.specs.declared.worker.Tickets.{Tickets}
use Rattle.call_rcu_worker.specs.declared.worker.WorkerCore.TheVariants as worker
use Rattle.call_rcu_worker.specs.declared.sync.SyncCore.{SyncCore}
use Rattle.call_rcu_worker.specs.declared.sync.SyncCore.TheVariants.{Starts}
use Rattle.call_rcu_worker.specs.declared.sync.SyncStep.{SyncStep}
use Rattle.call_rcu_worker.specs.declared.sync.SyncStep.TheVariants.{Plan}
use Rattle.call_rcu_worker.specs.Sync.{step_of}
use Rattle.call_rcu_worker.specs.Worker.{next_of}
use Rattle.world.specs.Workers.{first_in}
use Rattle.world_state.specs.View.{Plans, BoardView}
use Rattle.world.specs.declared.board.Board.{Board}
use Rattle.world_kept.specs.Kept.{shown as kept_shown, Grows, MayMake}
use Rattle.world.specs.Lines.{Outcome, change_of}

abbrev pub shown : {P : Type 0} → Board P → BoardView P
shown b = kept_shown b.kept

-- a grace period can be begun with these numbers
pub record CanStart (grace : GraceState) : Type 0 where
  pub even : grace.seq % 2 ≡ 0
  pub seq : grace.seq ≤ 2 ^ 62
  pub word : grace.word ≤ 2 ^ 62

-- the step is no load of a group word
abbrev pub LoadsNoGroup : SyncStep → Type 0
LoadsNoGroup step = (group : ℕ) → step ≢ Plan (LoadGroup group)

-- the answer and the world after are those of the table, or memory for a growth was refused; an error changes nothing
abbrev pub Meets : {P : Type 0} → Outcome P → BoardView P → BoardView P → Result Answer Refusal → Type 0
Meets outcome old new (Ok a) = (outcome.answer ≡ Ok a) × (new ≡ outcome.world)
Meets outcome old new (Err e) = (new ≡ old) × (((outcome.answer ≡ Err e) × (outcome.world ≡ old)) ⊎ ((e ≡ Memory) × Grows old outcome.world))

-- where the log has this much room, and all that is told fits, no memory is refused
abbrev pub IsRefusedByTable : {P : Type 0} → ℕ → Outcome P → BoardView P → Result Answer Refusal → Type 0
IsRefusedByTable room outcome old result = length outcome.world.log ≤ room → OnErr result (outcome.world ≡ old)

-- there are queues, at most eight
pub record HasQueues {P : Type 0} (w : BoardView P) : Type 0 where
  pub some : 1 ≤ length w.queues
  pub few : length w.queues ≤ 8

-- the barrier's next step is with one of the queues
abbrev pub IsAtQueue : {P : Type 0} → BoardView P → BarrierStep → Type 0
IsAtQueue w (Note q) = q < length w.queues
IsAtQueue w (Check q) = q < length w.queues

-- the numbers of the world are small enough for its next step
pub record IsInRange {P : Type 0} (plans : Plans P) (w : BoardView P) : Type 0 where
  pub some_reader : 1 ≤ length w.readers
  pub queues : HasQueues w
  pub ordinals : (r : ℕ) (v : ReaderState) → slice_get w.readers r ≡ Some v → v.ordinal ≤ length w.log
  pub copies : plans.qsbr ≡ true → (r : ℕ) (v : ReaderState) (copy : ℕ) → slice_get w.readers r ≡ Some v → v.copy ≡ Some copy → copy < 2 ^ 63
  pub asks : w.grace.asks ≤ length w.log
  pub barriers : w.barriers ≤ length w.log
  pub starts : (u : ℕ) (x : UpdaterState P) (ask cookie : ℕ) → slice_get w.updaters u ≡ Some x → x.place ≡ Syncs ask (Starts cookie) → CanStart w.grace
  pub worker_starts : (k : ℕ) (x : WorkerState P) (cookie : ℕ) (tickets : Tickets) → slice_get w.workers k ≡ Some x → x.core ≡ worker.Syncs (Starts cookie) tickets → CanStart w.grace
  pub plans_run : (u : ℕ) (x : UpdaterState P) (ask : ℕ) (core : SyncCore P) → slice_get w.updaters u ≡ Some x → x.place ≡ Syncs ask core → LoadsNoGroup (step_of plans.action core)
  pub worker_plans_run : (k : ℕ) (x : WorkerState P) (core : SyncCore P) (tickets : Tickets) → slice_get w.workers k ≡ Some x → x.core ≡ worker.Syncs core tickets → LoadsNoGroup (step_of plans.action core)
  pub given : (k : ℕ) (queue : QueueState) → slice_get w.queues k ≡ Some queue → given_of queue.items ≤ length w.log
  pub pops : (k : ℕ) (x : WorkerState P) (tickets : Tickets) (first : Ticket × ObjectId) → slice_get w.workers k ≡ Some x → x.core ≡ worker.Pops tickets → first_in (slice_get w.queues k) ≡ Some first → first.0 ≡ next_of tickets
  pub bars : (u : ℕ) (x : UpdaterState P) (b : Barrier) → slice_get w.updaters u ≡ Some x → x.place ≡ Bars b → IsAtQueue w b.due
  pub may_make : length w.log < 2 ^ 63 → (line : Line) (change : Change P) → change_of plans w line ≡ Ok change → MayMake w change

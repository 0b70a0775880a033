-- Who holds a lock.
use Rattle.std.specs.Prelude.{◌≡◌, ◌↔◌, ℕ, get_or, Option, Some}
use Rattle.call_rcu_worker.specs.declared.sync.SyncCore.{SyncCore}
use Rattle.call_rcu_worker.specs.declared.sync.SyncCore.TheVariants.{Asks, Waits, Checks, Starts, Runs, Frees, Done}
use Rattle.call_rcu_worker.specs.declared.worker.WorkerCore.{WorkerCore}
use Rattle.call_rcu_worker.specs.declared.worker.WorkerCore.TheVariants as worker
use Rattle.world_state.specs.declared.updater.Holder.{Holder}
use Rattle.world_state.specs.declared.updater.Holder.TheVariants as holder
use Rattle.world_state.specs.declared.updater.UpdaterPlace.{UpdaterPlace}
use Rattle.world_state.specs.declared.updater.UpdaterPlace.TheVariants.{Syncs, Retires}
use Rattle.world_state.specs.Queues.{new_worker, empty_queue_state}
use Rattle.world_state.specs.View.{BoardView, idle}
use Rattle.world.specs.Queues.{queue_of}
use Rattle.world.specs.Steps.{WorldView, OfMemb, OfQsbr}

-- the grace period has locked, and has not yet unlocked
abbrev pub IsInside : {P : Type 0} → SyncCore P → Type 0
IsInside Asks = ⊥
IsInside (Waits cookie) = ⊥
IsInside (Checks cookie) = Unit {0}
IsInside (Starts cookie) = Unit {0}
IsInside (Runs cookie plan) = Unit {0}
IsInside Frees = Unit {0}
IsInside Done = ⊥

-- so has that of an updater at this place, and of a worker whose core stands here
abbrev pub SyncsInside : {P : Type 0} → UpdaterPlace P → Type 0
SyncsInside (Syncs ask core) = IsInside core
SyncsInside place = ⊥

abbrev pub WorksInside : {P : Type 0} → WorkerCore P Unit → Type 0
WorksInside (worker.Syncs core tickets) = IsInside core
WorksInside core = ⊥

abbrev pub IsInsideNow : {P : Type 0} → BoardView P → Holder → Type 0
IsInsideNow w (holder.Updater u) = SyncsInside (get_or w.updaters u idle).place
IsInsideNow w (holder.Worker k) = WorksInside (get_or w.workers k new_worker).core

-- the updater has begun to retire an object, and is not done
abbrev pub IsRetiring : {P : Type 0} → UpdaterPlace P → Type 0
IsRetiring (Retires o due) = Unit {0}
IsRetiring place = ⊥

-- and retires it into this queue
abbrev pub RetiresInto : {P : Type 0} → BoardView P → ℕ → ℕ → Type 0
RetiresInto w u q = (queue_of w u ≡ q) × IsRetiring (get_or w.updaters u idle).place

-- who holds the lock of this queue
abbrev pub lock_of : {P : Type 0} → BoardView P → ℕ → Option ℕ
lock_of w q = (get_or w.queues q empty_queue_state).holder

-- each lock is held by just who is inside: the grace lock by the updater or worker whose grace period is, and a queue's
-- lock by the updater that retires into this queue
pub record AreHeldInside {P : Type 0} (w : BoardView P) : Type 0 where
  pub grace : (h : Holder) → (w.grace.holder ≡ Some h) ↔ IsInsideNow w h
  pub queues : (q u : ℕ) → (lock_of w q ≡ Some u) ↔ RetiresInto w u q

abbrev pub LocksAreHeldInside : WorldView → Type 0
LocksAreHeldInside (OfMemb w) = AreHeldInside w
LocksAreHeldInside (OfQsbr w) = AreHeldInside w

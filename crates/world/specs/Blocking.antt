-- Where a line is blocked: where nothing refuses it, and a lock is held that its step needs free.
use Rattle.std.specs.Prelude.{◌≡◌, ◌≢◌, ◌&&◌, Bool, true, false, is_some, get_or, slice_get}
use Rattle.call_rcu_worker.specs.declared.sync.SyncCore.{SyncCore}
use Rattle.call_rcu_worker.specs.declared.sync.SyncCore.TheVariants.{Waits}
use Rattle.call_rcu_worker.specs.declared.worker.WorkerCore.{WorkerCore}
use Rattle.call_rcu_worker.specs.declared.worker.WorkerCore.TheVariants as worker
use Rattle.world_state.specs.declared.line.Answer.{Answer}
use Rattle.world_state.specs.declared.line.Answer.TheVariants.{Blocked}
use Rattle.world_state.specs.declared.line.Line.{Line}
use Rattle.world_state.specs.declared.line.Line.TheVariants.{Updater, Worker}
use Rattle.world_state.specs.declared.line.UpdaterVerb.TheVariants as updater
use Rattle.world_state.specs.declared.line.WorkerVerb.TheVariants as work
use Rattle.world_state.specs.declared.updater.UpdaterPlace.{UpdaterPlace}
use Rattle.world_state.specs.declared.updater.UpdaterPlace.TheVariants.{Syncs}
use Rattle.world_state.specs.Queues.{new_worker}
use Rattle.world_state.specs.View.{BoardView, idle}
use Rattle.world.specs.Locks.{lock_of}
use Rattle.world.specs.Queues.{queue_of, may_retire}
use Rattle.world.specs.Steps.{WorldView, OfMemb, OfQsbr}

module _ {P : Type 0} where
  -- the grace lock is taken next
  abbrev pub is_to_lock : SyncCore P → Bool
  is_to_lock (Waits cookie) = true
  is_to_lock core = false

  abbrev pub place_is_to_lock : UpdaterPlace P → Bool
  place_is_to_lock (Syncs ask core) = is_to_lock core
  place_is_to_lock place = false

  abbrev pub core_is_to_lock : WorkerCore P Unit → Bool
  core_is_to_lock (worker.Syncs core tickets) = is_to_lock core
  core_is_to_lock core = false

  -- a lock is held that the line's step needs free: the grace lock, or a queue's (of `retire`, where it is not refused)
  abbrev pub needs_held_lock : BoardView P → Line → Bool
  needs_held_lock w (Updater u (updater.Retire o)) = may_retire w u (slice_get w.objects o.0) && is_some (lock_of w (queue_of w u))
  needs_held_lock w (Updater u updater.GoOn) = place_is_to_lock (get_or w.updaters u idle).place && is_some w.grace.holder
  needs_held_lock w (Worker k work.Take) = is_some (lock_of w k)
  needs_held_lock w (Worker k work.GoOn) = core_is_to_lock (get_or w.workers k new_worker).core && is_some w.grace.holder
  needs_held_lock w line = false

abbrev pub is_locked_out : WorldView → Line → Bool
is_locked_out (OfMemb w) line = needs_held_lock w line
is_locked_out (OfQsbr w) line = needs_held_lock w line

-- it is answered so exactly where this is true, unless it is refused
abbrev pub IsBlockedIf : Bool → Answer → Type 0
IsBlockedIf true answer = answer ≡ Blocked
IsBlockedIf false answer = answer ≢ Blocked

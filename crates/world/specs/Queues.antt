-- The step table's rows of retirements and barriers.
use Rattle.std.specs.Prelude.{◌+◌, ◌%◌, ◌&&◌, ℕ, Bool, true, false, not, nat_lt, nat_le, is_some, if◌then◌else◌, List, [], ◌∷◌, length, replicate, get_or, slice_get, slice_set, Option, Some, None, Ok}
use Rattle.rcu_model.specs.declared.event.Event.TheVariants as events
use Rattle.rcu_model.specs.declared.event.ObjectId.{ObjectId}
use Rattle.rcu_model.specs.declared.refusal.Refusal.TheVariants.{NoPlace}
use Rattle.world_state.specs.declared.line.Answer.TheVariants.{Quiet, Wait, Blocked}
use Rattle.world_state.specs.declared.object.Life.{Life}
use Rattle.world_state.specs.declared.object.Life.TheVariants as life
use Rattle.world_state.specs.declared.object.ObjectState.{ObjectState}
use Rattle.world_state.specs.declared.object.Stage.{Stage}
use Rattle.world_state.specs.declared.object.Stage.TheVariants as stage
use Rattle.world_state.specs.declared.queue.QueueAct.TheVariants as act
use Rattle.world_state.specs.declared.queue.QueueState.{QueueState}
use Rattle.world_state.specs.declared.updater.Barrier.{Barrier}
use Rattle.world_state.specs.declared.updater.BarrierStep.{BarrierStep}
use Rattle.world_state.specs.declared.updater.BarrierStep.TheVariants.{Note, Check}
use Rattle.world_state.specs.declared.updater.RetireStep.{RetireStep}
use Rattle.world_state.specs.declared.updater.RetireStep.TheVariants.{Mark, Count, Push, Free}
use Rattle.world_state.specs.declared.updater.UpdaterPlace.{UpdaterPlace}
use Rattle.world_state.specs.declared.updater.UpdaterPlace.TheVariants.{Idle, Retires, Bars}
use Rattle.world_state.specs.declared.updater.UpdaterState.{UpdaterState}
use Rattle.world_state.specs.declared.change.Change.{Change}
use Rattle.world_state.specs.declared.change.Change.TheVariants.{Hold, Retire, Bar}
use Rattle.world_state.specs.View.{BoardView}
use Rattle.world.specs.Answers.{one}
use Rattle.world.specs.Chains.{writes}
use Rattle.world.specs.Row.{Row, refused_if, stalled_if, guarded, after, makes, unreached}

-- the queue of an updater
abbrev pub queue_of : {P : Type 0} → BoardView P → ℕ → ℕ
queue_of w u = u % length w.queues

abbrev pub at_place : {P : Type 0} → UpdaterState P → UpdaterPlace P → UpdaterState P
at_place x p = record x { place = p }

-- it is cut and not retired
abbrev pub is_cut : Stage → Bool
is_cut stage.Fresh = false
is_cut stage.Linked = false
is_cut stage.Cut = true

abbrev pub is_kept : Life → Bool
is_kept life.Kept = true
is_kept life.Retired = false
is_kept life.Queued = false
is_kept life.Reclaimed = false

-- the object may be retired by this updater
abbrev pub may_retire : {P : Type 0} → BoardView P → ℕ → Option ObjectState → Bool
may_retire w u None = false
may_retire w u (Some y) = is_cut y.stage && (is_kept y.life && writes w u y.chain)

-- `retire`: the lock is taken, unless it is held
abbrev pub lock_row : {P : Type 0} → BoardView P → ℕ → UpdaterState P → ObjectId → Option QueueState → Row (Change P)
lock_row w u x o None = unreached NoPlace
lock_row w u x o (Some q) = guarded (stalled_if (is_some q.holder) Blocked ∷ []) (Ok (Hold u (at_place x (Retires o Mark)) (queue_of w u)))

abbrev pub retire_row : {P : Type 0} → BoardView P → ℕ → UpdaterState P → ObjectId → Bool → Row (Change P)
retire_row w u x o may = after (refused_if (not may) NoPlace ∷ []) (lock_row w u x o (slice_get w.queues (queue_of w u)))

-- and its further steps
abbrev pub retire_on : {P : Type 0} → BoardView P → ℕ → UpdaterState P → ObjectId → RetireStep → Change P
retire_on w u x o Mark = Retire u (at_place x (Retires o Count)) (queue_of w u) act.Leave (Some (record { object = o; life = life.Retired })) (one (events.Retire o))
retire_on w u x o Count = Retire u (at_place x (Retires o Push)) (queue_of w u) act.Count None Quiet
retire_on w u x o Push = Retire u (at_place x (Retires o Free)) (queue_of w u) (act.Push o) (Some (record { object = o; life = life.Queued })) (one (events.Queue o (queue_of w u)))
retire_on w u x o Free = Retire u (at_place x Idle) (queue_of w u) act.Free None Quiet

-- the two counts of a queue, 0 where there is none
abbrev pub queued_in : Option QueueState → ℕ
queued_in None = 0
queued_in (Some q) = q.queued

abbrev pub finished_in : Option QueueState → ℕ
finished_in None = 0
finished_in (Some q) = q.finished

-- `barrier`: each queue's queued count is noted, and then each finished count is awaited
abbrev pub after_note : {P : Type 0} → BoardView P → ℕ → BarrierStep
after_note w q = if nat_lt (q + 1) (length w.queues) then Note (q + 1) else Check 0

abbrev pub noted_at : {P : Type 0} → BoardView P → List ℕ → ℕ → List ℕ
noted_at w counts q = slice_set counts q (queued_in (slice_get w.queues q))

abbrev pub barrier_row : {P : Type 0} → BoardView P → ℕ → UpdaterState P → Change P
barrier_row w u x =
    Bar u (at_place x (Bars (record { number = w.barriers + 1; counts = noted_at w (replicate 8 0) 0; due = after_note w 0 }))) (w.barriers + 1) (one (events.Bar (w.barriers + 1)))

abbrev pub checked : {P : Type 0} → BoardView P → ℕ → UpdaterState P → Barrier → ℕ → Change P
checked w u x b q =
    if nat_lt (q + 1) (length w.queues) then Bar u (at_place x (Bars (record b { due = Check (q + 1) }))) w.barriers Quiet
    else Bar u (at_place x Idle) w.barriers (one (events.Clear b.number))

abbrev pub barrier_on : {P : Type 0} → BoardView P → ℕ → UpdaterState P → Barrier → BarrierStep → Row (Change P)
barrier_on w u x b (Note q) = makes (Bar u (at_place x (Bars (record b { counts = noted_at w b.counts q; due = after_note w q }))) w.barriers Quiet)
barrier_on w u x b (Check q) =
    guarded (stalled_if (not (nat_le (get_or b.counts q 0) (finished_in (slice_get w.queues q)))) Wait ∷ []) (Ok (checked w u x b q))

-- The step table's rows of a grace period.
use Rattle.std.specs.Prelude.{◌≡◌, ◌+◌, ℕ, Bool, true, false, not, nat_le, [], ◌∷◌, length, slice_get, Option, Some, None, Result, Ok, Err}
use Rattle.rcu_model.specs.declared.event.Event.TheVariants.{Ask as Asked, Answer as Answered}
use Rattle.rcu_model.specs.declared.refusal.Refusal.{Refusal}
use Rattle.rcu_model.specs.declared.refusal.Refusal.TheVariants.{NotOpen}
use Rattle.reader_word.specs.declared.layout.Layout.{Layout}
use Rattle.gp_memb.specs.declared.plan.Action.{Action}
use Rattle.gp_memb.specs.declared.plan.Action.TheVariants.{Load, LoadGroup, StorePhase, StoreSeq, Finished}
use Rattle.call_rcu_worker.specs.declared.sync.SyncCore.{SyncCore}
use Rattle.call_rcu_worker.specs.declared.sync.SyncStep.{SyncStep}
use Rattle.call_rcu_worker.specs.declared.sync.SyncStep.TheVariants.{Ask, TakeLock, Check, Begin, Plan, FreeLock, Nothing}
use Rattle.call_rcu_worker.specs.Sync.{Telling, step_of, told_of, HasJustBegun, begun_with}
use Rattle.world.specs.declared.grace.Effect.{Effect}
use Rattle.world.specs.declared.grace.GraceStep.{GraceStep}
use Rattle.world_state.specs.declared.line.Answer.{Answer}
use Rattle.world_state.specs.declared.line.Answer.TheVariants.{Events, Wait, Blocked}
use Rattle.world_state.specs.declared.reader.ReaderState.{ReaderState}
use Rattle.world_state.specs.declared.updater.GraceState.{GraceState}
use Rattle.world_state.specs.declared.updater.Holder.{Holder}
use Rattle.world_state.specs.declared.updater.UpdaterPlace.{UpdaterPlace}
use Rattle.world_state.specs.declared.updater.UpdaterPlace.TheVariants.{Idle, Syncs}
use Rattle.world_state.specs.declared.updater.UpdaterState.{UpdaterState}
use Rattle.world_state.specs.declared.updater.Started.{Started}
use Rattle.world_state.specs.declared.change.Change.{Change}
use Rattle.world_state.specs.declared.change.Change.TheVariants.{Grace}
use Rattle.world_state.specs.View.{Plans, BoardView}
use Rattle.world.specs.Answers.{answer_to}
use Rattle.world.specs.Row.{Row, stalled_if, guarded, makes, refused}

abbrev pub stepped : {P : Type 0} → GraceState → ℕ → Result (Telling P) Refusal → Result (GraceStep P) Refusal
stepped grace ask (Ok t) = Ok (record { core = t.core; grace = grace; answer = answer_to ask t.told })
stepped grace ask (Err e) = Err e

-- the word that a scan loads
abbrev pub loaded_word : Option ReaderState → ℕ
loaded_word None = 0
loaded_word (Some v) = v.word

-- what an action of the plan loads and stores; no plan of a world loads a group word
abbrev pub action_effect : {P : Type 0} → BoardView P → Action → Effect P
action_effect w (Load slot) = record { grace = w.grace; loaded = loaded_word (slice_get w.readers slot); plan = None }
action_effect w (LoadGroup group) = record { grace = w.grace; loaded = 0; plan = None }
action_effect w (StorePhase value) = record { grace = record w.grace { word = value }; loaded = 0; plan = None }
action_effect w (StoreSeq value) = record { grace = record w.grace { seq = value }; loaded = 0; plan = None }
action_effect w Finished = record { grace = w.grace; loaded = 0; plan = None }

-- the lock is taken, unless it is held
abbrev pub lock_effect : {P : Type 0} → BoardView P → Holder → Option Holder → Option (Effect P)
lock_effect w me (Some other) = None
lock_effect w me None = Some (record { grace = record w.grace { holder = Some me }; loaded = 0; plan = None })

-- the plan that is made now
abbrev pub plan_now : {P : Type 0} → Plans P → BoardView P → P
plan_now plans w = plans.made w.layout (length w.readers) w.grace.seq w.grace.word

-- what each step of a grace period loads and stores, from the ask to the unlock; nothing where it is blocked
abbrev pub effect_of : {P : Type 0} → Plans P → BoardView P → Holder → ℕ → SyncStep → Option (Effect P)
effect_of plans w me ask Ask = Some (record { grace = record w.grace { asks = ask }; loaded = w.grace.seq; plan = None })
effect_of plans w me ask TakeLock = lock_effect w me w.grace.holder
effect_of plans w me ask Check = Some (record { grace = w.grace; loaded = w.grace.seq; plan = None })
effect_of plans w me ask Begin = Some (record (action_effect w (plans.action (plan_now plans w))) { plan = Some (plan_now plans w) })
effect_of plans w me ask (Plan action) = Some (action_effect w action)
effect_of plans w me ask FreeLock = Some (record { grace = record w.grace { holder = None }; loaded = 0; plan = None })
effect_of plans w me ask Nothing = Some (record { grace = w.grace; loaded = 0; plan = None })

-- what is handed over, if anything, is a plan that is due and has done nothing yet
abbrev pub MayHand : {P : Type 0} → (Layout → Bool → ℕ → ℕ → ℕ → P → Type 0) → SyncStep → Option P → Type 0
MayHand is_begun step None = Unit {0}
MayHand is_begun step (Some plan) = (step ≡ Begin) × HasJustBegun is_begun plan

abbrev pub HandsOver : {P : Type 0} → (Layout → Bool → ℕ → ℕ → ℕ → P → Type 0) → SyncStep → Option (Effect P) → Type 0
HandsOver is_begun step None = Unit {0}
HandsOver is_begun step (Some e) = MayHand is_begun step e.plan

-- the core with the plan that was made, if one was
abbrev pub planned : {P : Type 0} → SyncCore P → Option P → SyncCore P
planned core None = core
planned core (Some plan) = begun_with core plan

abbrev pub done_with : {P : Type 0} → Plans P → BoardView P → ℕ → SyncCore P → Option (Effect P) → Result (GraceStep P) Refusal
done_with plans w ask core None = Ok (record { core = core; grace = w.grace; answer = Blocked })
done_with plans w ask core (Some e) = stepped e.grace ask (told_of plans.action plans.turn plans.taken (planned core e.plan) e.loaded)

abbrev pub grace_row : {P : Type 0} → Plans P → BoardView P → Holder → ℕ → SyncCore P → Result (GraceStep P) Refusal
grace_row plans w me ask core = done_with plans w ask core (effect_of plans w me ask (step_of plans.action core))

-- the step was not made: the lock is held, or it waits for a reader
abbrev pub is_blocked : Answer → Bool
is_blocked Blocked = true
is_blocked answer = false

abbrev pub is_waiting : Answer → Bool
is_waiting Wait = true
is_waiting answer = false

-- the row of a step of a grace period; `change` is what it makes of whoever waits
abbrev pub sync_row : {P : Type 0} → (GraceStep P → Change P) → Result (GraceStep P) Refusal → Row (Change P)
sync_row change (Ok step) =
    guarded (stalled_if (is_blocked step.answer) Blocked ∷ stalled_if (is_waiting step.answer) Wait ∷ []) (Ok (change step))
sync_row change (Err e) = refused e

-- the place of an updater whose grace period stands here
abbrev pub place_at : {P : Type 0} → ℕ → SyncCore P → SyncStep → UpdaterPlace P
place_at ask core Nothing = Idle
place_at ask core step = Syncs ask core

abbrev pub sync_place : {P : Type 0} → Plans P → ℕ → SyncCore P → UpdaterPlace P
sync_place plans ask core = place_at ask core (step_of plans.action core)

-- `start`, with the cookie of the number that it loads
abbrev pub start_row : {P : Type 0} → BoardView P → ℕ → UpdaterState P → Result ℕ Refusal → Row (Change P)
start_row w u x (Ok c) =
    makes (Grace u (record x { started = Some (record { ask = w.grace.asks + 1; cookie = c }) }) (record w.grace { asks = w.grace.asks + 1 }) (Events (Asked (w.grace.asks + 1)) None))
start_row w u x (Err e) = refused e

-- `poll`, which spends a cookie that is reached
abbrev pub poll_row : {P : Type 0} → BoardView P → ℕ → UpdaterState P → Option Started → Row (Change P)
poll_row w u x None = refused NotOpen
poll_row w u x (Some s) =
    guarded (stalled_if (not (nat_le s.cookie w.grace.seq)) Wait ∷ [])
    (Ok (Grace u (record x { started = None }) w.grace (Events (Answered s.ask) None)))

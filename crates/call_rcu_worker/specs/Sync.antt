-- A grace period of one caller, step by step, whatever the plan.
use Rattle.std.specs.Prelude.{◌≡◌, ℕ, Bool, true, false, nat_le, if◌then◌else◌, Result, Ok, Err}
use Rattle.rcu_model.specs.declared.refusal.Refusal.{Refusal}
use Rattle.reader_word.specs.declared.layout.Layout.{Layout}
use Rattle.gp_memb.specs.declared.plan.Action.{Action}
use Rattle.gp_memb.specs.declared.plan.Action.TheVariants.{Load, LoadGroup, StorePhase, StoreSeq, Finished}
use Rattle.gp_memb.specs.declared.plan.Turn.{Turn}
use Rattle.gp_memb.specs.declared.plan.Turn.TheVariants as turns
use Rattle.poll_cookie.specs.Cookie.{cookie_for}
use Rattle.call_rcu_worker.specs.declared.sync.SyncStep.{SyncStep}
use Rattle.call_rcu_worker.specs.declared.sync.SyncStep.TheVariants.{Ask, TakeLock, Check, Begin, Plan, FreeLock, Nothing}
use Rattle.call_rcu_worker.specs.declared.sync.Told.{Told}
use Rattle.call_rcu_worker.specs.declared.sync.Told.TheVariants.{Quiet, Asked, Answered, Waiting}
use Rattle.call_rcu_worker.specs.declared.sync.SyncCore.{SyncCore}
use Rattle.call_rcu_worker.specs.declared.sync.SyncCore.TheVariants.{Asks, Waits, Checks, Starts, Runs, Frees, Done}

abbrev pub new_core : {P : Type 0} → SyncCore P
new_core = Asks

-- what is to be done next
abbrev pub step_of : {P : Type 0} → (P → Action) → SyncCore P → SyncStep
step_of action Asks = Ask
step_of action (Waits cookie) = TakeLock
step_of action (Checks cookie) = Check
step_of action (Starts cookie) = Begin
step_of action (Runs cookie plan) = Plan (action plan)
step_of action Frees = FreeLock
step_of action Done = Nothing

-- what came of a step, and where the grace period stands then
pub record Telling (P : Type 0) : Type 0 where
  pub told : Told
  pub core : SyncCore P

abbrev pub telling : {P : Type 0} → Told → SyncCore P → Result (Telling P) Refusal
telling told core = Ok (record { told = told; core = core })

abbrev pub asked_with : {P : Type 0} → Result ℕ Refusal → Result (Telling P) Refusal
asked_with (Ok cookie) = telling Asked (Waits cookie)
asked_with (Err e) = Err e

abbrev pub is_finished : Action → Bool
is_finished (Load slot) = false
is_finished (LoadGroup group) = false
is_finished (StorePhase value) = false
is_finished (StoreSeq value) = false
is_finished Finished = true

-- the plan took a turn: it waits, is finished, or goes on
abbrev pub turned : {P : Type 0} → (P → Action) → ℕ → P → P → Turn → Result (Telling P) Refusal
turned action cookie plan taken turns.Wait = telling Waiting (Runs cookie plan)
turned action cookie plan taken turns.Step = if is_finished (action taken) then telling Answered Frees else telling Quiet (Runs cookie taken)

-- what it makes of a step that loaded this
abbrev pub told_of : {P : Type 0} → (P → Action) → (P → ℕ → Turn) → (P → ℕ → P) → SyncCore P → ℕ → Result (Telling P) Refusal
told_of action turn taken Asks loaded = asked_with (cookie_for loaded)
told_of action turn taken (Waits cookie) loaded = telling Quiet (Checks cookie)
told_of action turn taken (Checks cookie) loaded = if nat_le cookie loaded then telling Answered Frees else telling Quiet (Starts cookie)
told_of action turn taken (Starts cookie) loaded = telling Quiet (Starts cookie)
told_of action turn taken (Runs cookie plan) loaded = turned action cookie plan (taken plan loaded) (turn plan loaded)
told_of action turn taken Frees loaded = telling Quiet Done
told_of action turn taken Done loaded = telling Quiet Done

-- the plan has done nothing yet, whatever it was made with
pub record HasJustBegun {P : Type 0} (is_begun : Layout → Bool → ℕ → ℕ → ℕ → P → Type 0) (plan : P) : Type 0 where
  pub layout : Layout
  pub grouped : Bool
  pub slots : ℕ
  pub seq : ℕ
  pub word : ℕ
  pub begun : is_begun layout grouped slots seq word plan

abbrev pub begun_with : {P : Type 0} → SyncCore P → P → SyncCore P
begun_with Asks plan = Asks
begun_with (Waits cookie) plan = Waits cookie
begun_with (Checks cookie) plan = Checks cookie
begun_with (Starts cookie) plan = Runs cookie plan
begun_with (Runs cookie before) plan = Runs cookie before
begun_with Frees plan = Frees
begun_with Done plan = Done

-- the answer and the core after are those, or it was refused and is as it was
abbrev pub MeetsTold : {P : Type 0} → Result (Telling P) Refusal → SyncCore P → SyncCore P → Result Told Refusal → Type 0
MeetsTold outcome old new (Ok told) = outcome ≡ Ok (record { told = told; core = new })
MeetsTold outcome old new (Err e) = (outcome ≡ Err e) × (new ≡ old)

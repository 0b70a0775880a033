-- What a check under the grace lock answers, and a `poll`.
use Rattle.std.specs.Prelude.{◌≡◌, ℕ, nat_le, if◌then◌else◌, get_or, Option, Some, None, Result, Ok}
use Rattle.rcu_model.specs.declared.event.Event.TheVariants.{Answer as Answered}
use Rattle.rcu_model.specs.declared.refusal.Refusal.{Refusal}
use Rattle.call_rcu_worker.specs.declared.sync.SyncCore.{SyncCore}
use Rattle.call_rcu_worker.specs.declared.sync.SyncCore.TheVariants.{Checks}
use Rattle.call_rcu_worker.specs.declared.worker.WorkerCore.{WorkerCore}
use Rattle.call_rcu_worker.specs.declared.worker.WorkerCore.TheVariants as works
use Rattle.world_state.specs.declared.line.Answer.{Answer}
use Rattle.world_state.specs.declared.line.Answer.TheVariants.{Events, Quiet, Wait}
use Rattle.world_state.specs.declared.line.Line.{Line}
use Rattle.world_state.specs.declared.line.Line.TheVariants.{Updater, Worker}
use Rattle.world_state.specs.declared.line.UpdaterVerb.TheVariants as updater
use Rattle.world_state.specs.declared.line.WorkerVerb.TheVariants as worker
use Rattle.world_state.specs.declared.updater.UpdaterPlace.{UpdaterPlace}
use Rattle.world_state.specs.declared.updater.UpdaterPlace.TheVariants.{Idle, Syncs}
use Rattle.world_state.specs.declared.updater.Started.{Started}
use Rattle.world_state.specs.declared.updater.UpdaterState.{UpdaterState}
use Rattle.world_state.specs.Queues.{new_worker}
use Rattle.world_state.specs.View.{BoardView, idle}
use Rattle.world.specs.Steps.{WorldView, OfMemb, OfQsbr, step_of}

-- the number of an ask, its cookie, and what is answered where that is not reached
pub record Check : Type 0 where
  pub ask : ℕ
  pub cookie : ℕ
  pub otherwise : Answer

module _ {P : Type 0} where
  -- one who has taken the grace lock is to check whether a grace period of another has passed the cookie
  abbrev pub check_in : ℕ → SyncCore P → Option Check
  check_in ask (Checks cookie) = Some (record { ask = ask; cookie = cookie; otherwise = Quiet })
  check_in ask core = None

  abbrev pub check_of_place : UpdaterPlace P → Option Check
  check_of_place (Syncs ask core) = check_in ask core
  check_of_place place = None

  abbrev pub check_of_core : ℕ → WorkerCore P Unit → Option Check
  check_of_core ask (works.Syncs sync tickets) = check_in ask sync
  check_of_core ask core = None

  -- an updater in no operation asks whether its noted cookie is reached
  abbrev pub poll_at : UpdaterPlace P → Option Started → Option Check
  poll_at Idle (Some s) = Some (record { ask = s.ask; cookie = s.cookie; otherwise = Wait })
  poll_at place started = None

  abbrev pub poll_of : UpdaterState P → Option Check
  poll_of x = poll_at x.place x.started

  -- the check that the line makes
  abbrev pub check_by : BoardView P → Line → Option Check
  check_by w (Updater u updater.GoOn) = check_of_place (get_or w.updaters u idle).place
  check_by w (Updater u updater.Poll) = poll_of (get_or w.updaters u idle)
  check_by w (Worker k worker.GoOn) = check_of_core (get_or w.workers k new_worker).ask (get_or w.workers k new_worker).core
  check_by w line = None

-- it answers the ask exactly where the present sequence number has reached the cookie
abbrev pub answer_by : ℕ → Check → Result Answer Refusal
answer_by seq check = if nat_le check.cookie seq then Ok (Events (Answered check.ask) None) else Ok check.otherwise

abbrev pub AnswersByItsCookie : WorldView → Line → Type 0
AnswersByItsCookie (OfMemb w) line = (check : Check) → check_by w line ≡ Some check → (step_of (OfMemb w) line).answer ≡ answer_by w.grace.seq check
AnswersByItsCookie (OfQsbr w) line = (check : Check) → check_by w line ≡ Some check → (step_of (OfQsbr w) line).answer ≡ answer_by w.grace.seq check

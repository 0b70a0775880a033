-- What a check under the grace lock answers, and a `poll`; and the steps of a retirement, in their order.
use Rattle.world.proofs.Cited.{◌≡◌, ℕ, nat_le, cond, Bool, true, false, not, get_or, slice_get, [], ◌∷◌, Option, Some, None, Result, Ok, refl, ap, ◌∙◌, get_or_from_slice_get, Refusal, Answered, Checks, Starts, Frees, WorkerCore, Answer, Events, Wait, Line, Updater, Worker, UpdaterPlace, Idle, Syncs, Started, UpdaterState, Change, Grace, WorkerState, new_worker, Plans, BoardView, idle, ◌<◌, is_some, length, slice_set, subst, get_or-set_same, slice_get_within, ObjectId, Quiet, Blocked, QueueState, RetireStep, Count, Free, Retires, Hold, Stay, empty_queue_state, held_by, changed_here, cond_both, UpdaterVerb, WorkerVerb, GraceStep, stepped, poll_row, worked, worker_on, is_resting, lock_of}
use Rattle.world.proofs.Rows.{by_entry}
use Rattle.rcu_model.specs.declared.event.Event.TheVariants.{Answer as EventAnswer}
use Rattle.call_rcu_worker.specs.Sync.{telling}
use Rattle.call_rcu_worker.specs.declared.sync.Told.TheVariants.{Quiet}
use Rattle.world_state.specs.declared.line.Answer.TheVariants.{Quiet as Plain}
use Rattle.world.specs.Checks.{Check, check_of_place, check_of_core, poll_at, poll_of, check_by, answer_by}
use Rattle.world.specs.Lines.{operation_test, is_idle, synced, updater_on, of_updater, of_worker, with_change, outcome_of}
use Rattle.world.specs.Row.{stalled_if, guarded, after, made}
use Rattle.world_state.specs.declared.updater.RetireStep.TheVariants.{Mark, Push}
use Rattle.world.specs.Queues.{queue_of, at_place, retire_on, may_retire, lock_row}
use Rattle.world.specs.Retiring.{Due, due_at, due_of, DoesItsStep, RetiresInOrder}

module _ {P : Type 0} (plans : Plans P) (w : BoardView P) where
  -- what is answered to one whose cookie was reached, and to one whose cookie was not
  abbrev checked : ℕ → ℕ → Bool → Result (GraceStep P) Refusal
  checked ask cookie b = stepped w.grace ask (cond b (telling Answered Frees) (telling Quiet (Starts cookie)))

  abbrev reply : ℕ → Bool → Result Answer Refusal
  reply ask b = cond b (Ok (Events (EventAnswer ask) None)) (Ok Plain)

  at_updater : (u : ℕ) (x : UpdaterState P) (place : UpdaterPlace P) (check : Check) → check_of_place place ≡ Some check → (with_change w (made (after (operation_test true (not (is_idle place)) ∷ []) (updater_on plans w u x place)))).answer ≡ answer_by w.grace.seq check
  at_updater u x (Syncs ask (Checks cookie)) check is = let same : record { ask = ask; cookie = cookie; otherwise = Plain } ≡ check = cc in
      (elim (nat_le cookie w.grace.seq) as (λ b. (with_change w (made (synced plans u x ask (checked ask cookie b)))).answer ≡ reply ask b) [ true ↦ refl | false ↦ refl ]) ∙ ap (λ (c : Check). answer_by w.grace.seq c) same
  at_updater u x place check is = cc

  module _ (u : ℕ) (x : UpdaterState P) where
    polls : (place : UpdaterPlace P) (started : Option Started) (check : Check) → poll_at place started ≡ Some check →
        (with_change w (made (after (operation_test false (not (is_idle place)) ∷ []) (poll_row w u x started)))).answer ≡ answer_by w.grace.seq check
    polls Idle (Some s) check is = let same : record { ask = s.ask; cookie = s.cookie; otherwise = Wait } ≡ check = cc in
        (elim (nat_le s.cookie w.grace.seq) as (λ b. (with_change w (made (guarded (stalled_if (not b) Wait ∷ []) (Ok (Grace u (record x { started = None }) w.grace (Events (EventAnswer s.ask) None)))))).answer ≡ cond b (Ok (Events (EventAnswer s.ask) None)) (Ok Wait))
        [ true ↦ refl | false ↦ refl ])
        ∙ ap (λ (c : Check). answer_by w.grace.seq c) same
    polls place started check is = cc

  at_core : (k : ℕ) (x : WorkerState P) (core : WorkerCore P Unit) (check : Check) → check_of_core x.ask core ≡ Some check → (with_change w (made (after (operation_test true (not (is_resting core)) ∷ []) (worker_on plans w k x core)))).answer ≡ answer_by w.grace.seq check
  at_core k x (WorkerCore.Syncs (Checks cookie) tickets) check is = let same : record { ask = x.ask; cookie = cookie; otherwise = Plain } ≡ check = cc in
      (elim (nat_le cookie w.grace.seq) as (λ b. (with_change w (made (worked k x.ask tickets (checked x.ask cookie b)))).answer ≡ reply x.ask b) [ true ↦ refl | false ↦ refl ]) ∙ ap (λ (c : Check). answer_by w.grace.seq c) same
  at_core k x core check is = cc

  pub checks : (line : Line) (check : Check) → check_by w line ≡ Some check → (outcome_of plans w line).answer ≡ answer_by w.grace.seq check
  checks (Updater u UpdaterVerb.GoOn) check = by_entry (λ y (x : UpdaterState P). check_of_place x.place ≡ Some check → (with_change w (made (of_updater plans w u UpdaterVerb.GoOn y))).answer ≡ answer_by w.grace.seq check) w.updaters u idle
      (λ is. cc) (λ x there. at_updater u x x.place check)
  checks (Updater u UpdaterVerb.Poll) check = by_entry (λ y (x : UpdaterState P). poll_of x ≡ Some check → (with_change w (made (of_updater plans w u UpdaterVerb.Poll y))).answer ≡ answer_by w.grace.seq check) w.updaters u idle
      (λ is. cc) (λ x there. polls u x x.place x.started check)
  checks (Worker k WorkerVerb.GoOn) check = by_entry (λ y (x : WorkerState P). check_of_core x.ask x.core ≡ Some check → (with_change w (made (of_worker plans w k WorkerVerb.GoOn y))).answer ≡ answer_by w.grace.seq check) w.workers k new_worker
      (λ is. cc) (λ x there. at_core k x x.core check)
  checks _ check = λ is. cc

-- ---- the steps of a retirement, in their order

module _ {P : Type 0} (plans : Plans P) (w : BoardView P) (u : ℕ) (there : queue_of w u < length w.queues) where
  -- the updater and its queue once its step is made
  set_place : (x : UpdaterState P) → slice_get w.updaters u ≡ Some x → (place : UpdaterPlace P) → due_at (get_or (slice_set w.updaters u (at_place x place)) u idle).place ≡ due_at place
  set_place x was place = ap (λ (y : UpdaterState P). due_at y.place) (get_or-set_same w.updaters u (at_place x place) idle (slice_get_within w.updaters u x was))

  -- a step of a retirement
  of_step : (x : UpdaterState P) → slice_get w.updaters u ≡ Some x → (o : ObjectId) (step : RetireStep) → DoesItsStep w u (queue_of w u) (with_change w (Ok (retire_on w u x o step))) o step
  of_step x was o Mark = record { answered = refl; due = set_place x was (Retires o Count); headers = refl; stored = changed_here _ w.queues (queue_of w u) there }
  of_step x was o Count = record { answered = refl; due = set_place x was (Retires o Push); headers = refl; stored = changed_here _ w.queues (queue_of w u) there }
  of_step x was o Push = record { answered = refl; due = set_place x was (Retires o Free); headers = refl; stored = changed_here _ w.queues (queue_of w u) there }
  of_step x was o Free = record { answered = refl; due = set_place x was Idle; headers = refl; stored = changed_here _ w.queues (queue_of w u) there }

  of_place : (x : UpdaterState P) → slice_get w.updaters u ≡ Some x → (place : UpdaterPlace P) (due : Due) → due_at place ≡ Some due → DoesItsStep w u (queue_of w u) (with_change w (made (after (operation_test true (not (is_idle place)) ∷ []) (updater_on plans w u x place)))) due.object due.step
  of_place x was (Retires o step) due is =
      let same : record { object = o; step = step } ≡ due = cc in
      subst (λ (d : Due). DoesItsStep w u (queue_of w u) (with_change w (Ok (retire_on w u x o step))) d.object d.step) same (of_step x was o step)
  of_place x was place due is = cc

  -- its first line
  abbrev Begins : ObjectId → Result (Change P) Refusal → Type 0
  Begins o r =
      (with_change w r).answer ≡ Ok Quiet →
      (lock_of w (queue_of w u) ≡ None) × (lock_of (with_change w r).world (queue_of w u) ≡ Some u) × (due_of (with_change w r).world u ≡ Some (record { object = o; step = Mark }))

  of_lock : (x : UpdaterState P) → slice_get w.updaters u ≡ Some x → (o : ObjectId) (holder : Option ℕ) → lock_of w (queue_of w u) ≡ holder → Begins o (cond (is_some holder) (Ok (Stay Blocked)) (Ok (Hold u (at_place x (Retires o Mark)) (queue_of w u))))
  of_lock x was o None is = λ _. (is, ap (λ (q : QueueState). q.holder) (changed_here (held_by u) w.queues (queue_of w u) there), set_place x was (Retires o Mark))
  of_lock x was o (Some other) is = λ e. cc

  of_row : (x : UpdaterState P) → slice_get w.updaters u ≡ Some x → (o : ObjectId) (q : Option QueueState) → slice_get w.queues (queue_of w u) ≡ q → Begins o (made (lock_row w u x o q))
  of_row x was o None is = λ e. cc
  of_row x was o (Some q) is = of_lock x was o q.holder (ap (λ (y : QueueState). y.holder) (get_or_from_slice_get w.queues (queue_of w u) q empty_queue_state is))

  of_first : (o : ObjectId) (y : Option (UpdaterState P)) → slice_get w.updaters u ≡ y → Begins o (made (of_updater plans w u (UpdaterVerb.Retire o) y))
  of_first o None was = λ e. cc
  of_first o (Some x) was =
      cond_both (not (is_idle x.place)) _ _ (Begins o) (λ busy e. cc)
      (λ idle. cond_both (not (may_retire w u (slice_get w.objects o.0))) _ _ (Begins o) (λ none e. cc) (λ may. of_row x was o (slice_get w.queues (queue_of w u)) refl))

  pub in_order : RetiresInOrder plans w u
  in_order = record {
    begins = λ o. of_first o (slice_get w.updaters u) refl;
    goes_on = λ due. by_entry (λ y (x : UpdaterState P). due_at x.place ≡ Some due → DoesItsStep w u (queue_of w u) (with_change w (made (of_updater plans w u UpdaterVerb.GoOn y))) due.object due.step) w.updaters u idle
        (λ is. cc) (λ x was. of_place x was x.place due);
  }

-- The step table: what a line makes of the world, and what it answers.
use Rattle.std.specs.Prelude.{◌+◌, ℕ, Bool, true, false, not, if◌then◌else◌, is_some, List, [], ◌∷◌, slice_get, Option, Some, None, Result, Ok, Err}
use Rattle.rcu_model.specs.declared.refusal.Refusal.{Refusal}
use Rattle.rcu_model.specs.declared.refusal.Refusal.TheVariants.{NotOpen, Busy, WrongFlavour, NoActor}
use Rattle.reader_word.specs.Quiescent.{is_online}
use Rattle.poll_cookie.specs.Cookie.{cookie_for}
use Rattle.call_rcu_worker.specs.Sync.{new_core}
use Rattle.world_state.specs.declared.line.Answer.{Answer}
use Rattle.world_state.specs.declared.line.Line.{Line}
use Rattle.world_state.specs.declared.line.Line.TheVariants.{Reader, Updater, Worker}
use Rattle.world_state.specs.declared.line.ReaderVerb.{ReaderVerb}
use Rattle.world_state.specs.declared.line.ReaderVerb.TheVariants as reader
use Rattle.world_state.specs.declared.line.UpdaterVerb.{UpdaterVerb}
use Rattle.world_state.specs.declared.line.UpdaterVerb.TheVariants as updater
use Rattle.world_state.specs.declared.line.WorkerVerb.{WorkerVerb}
use Rattle.world_state.specs.declared.line.WorkerVerb.TheVariants as worker
use Rattle.world_state.specs.declared.reader.ReaderState.{ReaderState}
use Rattle.world_state.specs.declared.reader.ReaderStep.{ReaderStep}
use Rattle.world_state.specs.declared.updater.Holder.TheVariants as holder
use Rattle.world_state.specs.declared.updater.UpdaterState.{UpdaterState}
use Rattle.world_state.specs.declared.updater.UpdaterPlace.{UpdaterPlace}
use Rattle.world_state.specs.declared.updater.UpdaterPlace.TheVariants.{Idle, Publishes, Syncs, Retires, Bars}
use Rattle.world_state.specs.declared.change.Change.{Change}
use Rattle.world_state.specs.declared.change.Change.TheVariants.{Grace}
use Rattle.world_state.specs.Readers.{is_open_in, lock_row, enter_row, unlock_row, online_row, go_online_row, quiescent_row, announce_row, offline_row, touch_row}
use Rattle.world_state.specs.View.{Plans, BoardView, changed, answer_of}
use Rattle.world.specs.declared.grace.GraceStep.{GraceStep}
use Rattle.world.specs.Chains.{first_row, next_from, linked_by, push_row, replace_row, cut_row, published}
use Rattle.world_state.specs.declared.worker.WorkerState.{WorkerState}
use Rattle.world.specs.Grace.{grace_row, sync_row, sync_place, start_row, poll_row}
use Rattle.world.specs.Queues.{may_retire, retire_row, retire_on, barrier_row, barrier_on}
use Rattle.world.specs.Row.{Test, refused_if, Row, guarded, after, makes, refused, unreached, tried, read_by, made}
use Rattle.world.specs.Workers.{take_row, worker_on, is_resting}

-- `.` goes on with an operation, and any other verb begins one; first whether it is `.`, then whether the actor is in an
-- operation
abbrev pub operation_test : Bool → Bool → Test
operation_test goes_on busy = if goes_on then refused_if (not busy) NotOpen else refused_if busy Busy

-- readers: a verb of the flavour, of the other one, and in an open section
abbrev pub of_memb : Bool → Row ReaderStep → Row ReaderStep
of_memb qsbr row = after (refused_if qsbr WrongFlavour ∷ []) row

abbrev pub of_qsbr : Bool → Row ReaderStep → Row ReaderStep
of_qsbr qsbr row = after (refused_if (not qsbr) WrongFlavour ∷ []) row

abbrev pub in_section : {P : Type 0} → Bool → BoardView P → ReaderState → Row ReaderStep → Row ReaderStep
in_section qsbr w v row = after (refused_if (not (is_open_in qsbr w.layout v.word)) NotOpen ∷ []) row

-- the second step of `lock`, `online` or `quiescent`, with what the first one loaded
abbrev pub reader_on : {P : Type 0} → Bool → BoardView P → ℕ → ReaderState → Option ℕ → Result ReaderStep Refusal
reader_on qsbr w r v None = Err NotOpen
reader_on qsbr w r v (Some copy) =
    if qsbr then Ok (if is_online v.word then announce_row copy r v else go_online_row copy r v)
    else enter_row w.layout copy r v

abbrev pub reader_verb : {P : Type 0} → Bool → BoardView P → ℕ → ReaderState → ReaderVerb → Row ReaderStep
reader_verb qsbr w r v reader.Lock = of_memb qsbr (tried (lock_row w.layout w.grace.word v))
reader_verb qsbr w r v reader.Unlock = of_memb qsbr (tried (unlock_row w.layout r v))
reader_verb qsbr w r v reader.Online = of_qsbr qsbr (tried (online_row w.grace.word v))
reader_verb qsbr w r v reader.Quiescent = of_qsbr qsbr (tried (quiescent_row w.grace.word v))
reader_verb qsbr w r v reader.Offline = of_qsbr qsbr (tried (offline_row r v))
reader_verb qsbr w r v (reader.First c) = in_section qsbr w v (first_row r v c (slice_get w.heads c))
reader_verb qsbr w r v reader.Next = in_section qsbr w v (next_from w r v v.cursor)
reader_verb qsbr w r v reader.Touch = in_section qsbr w v (tried (touch_row r v v.cursor))
reader_verb qsbr w r v reader.GoOn = guarded [] (reader_on qsbr w r v v.copy)

abbrev pub reads_on : ReaderVerb → Bool
reads_on reader.GoOn = true
reads_on verb = false

abbrev pub reader_line : {P : Type 0} → Bool → BoardView P → ℕ → ReaderState → ReaderVerb → Row ReaderStep
reader_line qsbr w r v verb = after (operation_test (reads_on verb) (is_some v.copy) ∷ []) (reader_verb qsbr w r v verb)

-- updaters: a step of a grace period
abbrev pub grace_change : {P : Type 0} → Plans P → ℕ → UpdaterState P → ℕ → GraceStep P → Change P
grace_change plans u x ask step = Grace u (record x { place = sync_place plans ask step.core }) step.grace step.answer

abbrev pub synced : {P : Type 0} → Plans P → ℕ → UpdaterState P → ℕ → Result (GraceStep P) Refusal → Row (Change P)
synced plans u x ask step = sync_row (grace_change plans u x ask) step

abbrev pub is_idle : {P : Type 0} → UpdaterPlace P → Bool
is_idle Idle = true
is_idle (Publishes what) = false
is_idle (Syncs ask core) = false
is_idle (Retires o due) = false
is_idle (Bars b) = false

-- an updater's next step
abbrev pub updater_on : {P : Type 0} → Plans P → BoardView P → ℕ → UpdaterState P → UpdaterPlace P → Row (Change P)
updater_on plans w u x Idle = unreached NotOpen
updater_on plans w u x (Publishes what) = published w u x what
updater_on plans w u x (Syncs ask core) = synced plans u x ask (grace_row plans w (holder.Updater u) ask core)
updater_on plans w u x (Retires o due) = makes (retire_on w u x o due)
updater_on plans w u x (Bars b) = barrier_on w u x b b.due

abbrev pub updater_verb : {P : Type 0} → Plans P → BoardView P → ℕ → UpdaterState P → UpdaterVerb → Row (Change P)
updater_verb plans w u x (updater.Push c) = push_row w u x c (slice_get w.heads c)
updater_verb plans w u x (updater.Replace o) = replace_row w u x o (linked_by w u (slice_get w.objects o.0))
updater_verb plans w u x (updater.Cut o) = cut_row u x o (linked_by w u (slice_get w.objects o.0))
updater_verb plans w u x (updater.Retire o) = retire_row w u x o (may_retire w u (slice_get w.objects o.0))
updater_verb plans w u x updater.Sync = synced plans u x (w.grace.asks + 1) (grace_row plans w (holder.Updater u) (w.grace.asks + 1) new_core)
updater_verb plans w u x updater.Start = start_row w u x (cookie_for w.grace.seq)
updater_verb plans w u x updater.Poll = poll_row w u x x.started
updater_verb plans w u x updater.Barrier = makes (barrier_row w u x)
updater_verb plans w u x updater.GoOn = updater_on plans w u x x.place

abbrev pub updates_on : UpdaterVerb → Bool
updates_on updater.GoOn = true
updates_on verb = false

abbrev pub updater_line : {P : Type 0} → Plans P → BoardView P → ℕ → UpdaterState P → UpdaterVerb → Row (Change P)
updater_line plans w u x verb = after (operation_test (updates_on verb) (not (is_idle x.place)) ∷ []) (updater_verb plans w u x verb)

-- workers
abbrev pub worker_verb : {P : Type 0} → Plans P → BoardView P → ℕ → WorkerState P → WorkerVerb → Row (Change P)
worker_verb plans w k x worker.Take = take_row w k x (slice_get w.queues k)
worker_verb plans w k x worker.GoOn = worker_on plans w k x x.core

abbrev pub works_on : WorkerVerb → Bool
works_on worker.GoOn = true
works_on worker.Take = false

abbrev pub worker_line : {P : Type 0} → Plans P → BoardView P → ℕ → WorkerState P → WorkerVerb → Row (Change P)
worker_line plans w k x verb = after (operation_test (works_on verb) (not (is_resting x.core)) ∷ []) (worker_verb plans w k x verb)

-- a line of an actor, if there is such an actor
abbrev pub of_reader : {P : Type 0} → Bool → BoardView P → ℕ → ReaderVerb → Option ReaderState → Row (Change P)
of_reader qsbr w r verb None = refused NoActor
of_reader qsbr w r verb (Some v) = read_by r (reader_line qsbr w r v verb)

abbrev pub of_updater : {P : Type 0} → Plans P → BoardView P → ℕ → UpdaterVerb → Option (UpdaterState P) → Row (Change P)
of_updater plans w u verb None = refused NoActor
of_updater plans w u verb (Some x) = updater_line plans w u x verb

abbrev pub of_worker : {P : Type 0} → Plans P → BoardView P → ℕ → WorkerVerb → Option (WorkerState P) → Row (Change P)
of_worker plans w k verb None = refused NoActor
of_worker plans w k verb (Some x) = worker_line plans w k x verb

abbrev pub row_of : {P : Type 0} → Plans P → BoardView P → Line → Row (Change P)
row_of plans w (Reader r verb) = of_reader plans.qsbr w r verb (slice_get w.readers r)
row_of plans w (Updater u verb) = of_updater plans w u verb (slice_get w.updaters u)
row_of plans w (Worker k verb) = of_worker plans w k verb (slice_get w.workers k)

abbrev pub change_of : {P : Type 0} → Plans P → BoardView P → Line → Result (Change P) Refusal
change_of plans w line = made (row_of plans w line)

-- the world after a step, and the answer
pub record Outcome (P : Type 0) : Type 0 where
  pub world : BoardView P
  pub answer : Result Answer Refusal

abbrev pub with_change : {P : Type 0} → BoardView P → Result (Change P) Refusal → Outcome P
with_change w (Ok change) = record { world = changed w change; answer = Ok (answer_of change) }
with_change w (Err e) = record { world = w; answer = Err e }

abbrev pub outcome_of : {P : Type 0} → Plans P → BoardView P → Line → Outcome P
outcome_of plans w line = with_change w (change_of plans w line)

-- the world after these lines
abbrev pub world_after : {P : Type 0} → Plans P → BoardView P → List Line → BoardView P
world_after plans w [] = w
world_after plans w (line ∷ lines) = world_after plans ((outcome_of plans w line).world) lines

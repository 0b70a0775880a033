-- The first test that fails goes by where the actor stands, and by the lock that its step needs free.
use Rattle.world.proofs.Cited.{QueueState, ◌≡◌, ◌≢◌, ◌+◌, ◌-◌, ◌^◌, ◌==◌, ◌&&◌, ℕ, nat_le, nat_lt, cond, not, Bool, true, false, is_some, List, [], ◌∷◌, slice_get, Option, Some, None, Result, Ok, Err, refl, sym, subst, IfOk, IfErr, option_map_or, get_or_from_slice_get, Close, ObjectId, Refusal, NotOpen, Busy, NestFull, NoActor, NoPlace, count_of, greatest_count, fresh, is_online, cookie_for, items_of, SyncCore, Told, WorkerCore, Telling, asked_with, is_finished, turned, told_of, Change, Answer, Events, Quiet, Wait, Blocked, Line, Reader, Updater, Worker, ReaderVerb, UpdaterVerb, WorkerVerb, ReaderState, ReaderStep, Note, Check, GraceState, Holder, Publishing, UpdaterPlace, Idle, Publishes, Syncs, Bars, UpdaterState, WorkerState, new_worker, empty_queue_state, section_of, is_open_in, quietly, telling, with_word, closed, stores, touch_row, Plans, BoardView, idle, Turn, GraceStep, answer_to, linked_by, first_row, next_row, next_from, push_row, replace_row, cut_row, pushed_row, replaced_row, published, stepped, lock_effect, action_effect, plan_now, planned, done_with, grace_row, sync_row, start_row, poll_row, operation_test, reads_on, reader_verb, reader_line, grace_change, is_idle, updater_on, updates_on, updater_verb, updater_line, works_on, worker_verb, worker_line, of_reader, of_updater, of_worker, row_of, lock_of, IsOfVerb, Test, refused_if, stalled_if, first_failing, refusal_of, WorldView, OfMemb, OfQsbr, memb_plans, qsbr_plans, IsPrompt, exact, tests_of, MeetsTests, is_none_left, first_in, take_row, run_row, worker_on, work_change, ask_for, is_resting}
use Rattle.world.specs.Blocking.{is_to_lock, place_is_to_lock, core_is_to_lock, needs_held_lock, is_locked_out, IsBlockedIf}
use Rattle.world.specs.Queues.{queue_of, may_retire, lock_row as queue_lock_row, barrier_on}
use Rattle.world.specs.Standing.{outside, by_section, by_cookie, by_operation, refusal_in, standing_refusal, MeetsStanding}
use Rattle.world.proofs.Rows.{by_option, by_entry}

-- what the first test that fails says: a refusal by where the actor stands, or whether a lock is held
abbrev Tells : Option Refusal → Bool → Option (Result Answer Refusal) → Type 0
Tells (Some e) locked first = first ≡ Some (Err e)
Tells None locked None = locked ≡ false
Tells None locked (Some (Ok answer)) = IsBlockedIf locked answer
Tells None locked (Some (Err e)) = IsOfVerb e

-- no test speaks of either
abbrev Plain : Result Answer Refusal → Type 0
Plain (Ok answer) = answer ≢ Blocked
Plain (Err e) = IsOfVerb e

abbrev ArePlain : List Test → Type 0
ArePlain [] = Unit {0}
ArePlain (test ∷ tests) = Plain test.answer × ArePlain tests

plain : (tests : List Test) → ArePlain tests → Tells None false (first_failing tests)
plain [] each = refl
plain (t ∷ ts) each = by t.fails (plain ts each.1)
  where
    said : (answer : Result Answer Refusal) → Plain answer → Tells None false (Some answer)
    said (Ok a) h = h
    said (Err e) h = h

    by : (b : Bool) → Tells None false (first_failing ts) → Tells None false (cond b (Some t.answer) (first_failing ts))
    by true rest = said t.answer each.0
    by false rest = rest

waits : Plain (Ok Wait)
waits e = let no : Wait ≡ Blocked = e in cc

-- a verb begins an operation, and `.` goes on with one
begins : (busy : Bool) (rests : Option Refusal) (locked : Bool) (tests : List Test) → Tells rests locked (first_failing tests) → Tells (by_operation false busy rests) locked (first_failing (operation_test false busy ∷ tests))
begins true rests locked tests h = refl
begins false rests locked tests h = h

continues : (busy : Bool) (rests : Option Refusal) (locked : Bool) (tests : List Test) → Tells None locked (first_failing tests) → Tells (by_operation true busy rests) locked (first_failing (operation_test true busy ∷ tests))
continues true rests locked tests h = h
continues false rests locked tests h = refl

-- a lock that has to be free
locks : (held : Bool) (tests : List Test) → ArePlain tests → Tells None held (first_failing (stalled_if held Blocked ∷ tests))
locks true tests each = refl
locks false tests each = plain tests each

in_section : (is_open : Bool) (tests : List Test) → ArePlain tests → Tells (outside is_open) false (first_failing (refused_if (not is_open) NotOpen ∷ tests))
in_section true tests each = plain tests each
in_section false tests each = refl

-- ---- readers

module _ {P : Type 0} (w : BoardView P) (r : ℕ) (v : ReaderState) where
  abbrev copied : ReaderStep
  copied = quietly (record v { copy = Some w.grace.word })

  abbrev left_with : ℕ → ReaderStep
  left_with word = cond (count_of w.layout word == 0) (telling (Close (section_of r v.ordinal)) (closed v word)) (quietly (with_word v word))

  enters : (outer full : Bool) →
      Tells None false (first_failing (refusal_of (cond outer (Ok copied) (stores (λ word. quietly (with_word v word)) (cond outer (Ok (fresh w.layout false)) (cond full (Err NestFull) (Ok (v.word + 1))))))))
  enters true full = refl
  enters false true = tt
  enters false false = refl

  announces : (is_open : Bool) (step : ReaderStep) → Tells (outside is_open) false (first_failing (refusal_of (cond is_open (Ok step) (Err NotOpen))))
  announces true step = refl
  announces false step = refl

  -- a verb, by its tests
  verb_tells : (qsbr : Bool) (verb : ReaderVerb) → Tells (by_section qsbr (is_open_in qsbr w.layout v.word) verb) false (first_failing (reader_verb qsbr w r v verb).tests)
  verb_tells false ReaderVerb.Lock = enters (count_of w.layout v.word == 0) (count_of w.layout v.word == greatest_count w.layout)
  verb_tells false ReaderVerb.Unlock = elim (count_of w.layout v.word == 0) as (λ none. Tells (outside (not none)) false (first_failing (refusal_of (stores left_with (cond none (Err NotOpen) (Ok (v.word - 1))))))) [ true ↦ refl | false ↦ refl ]
  verb_tells true ReaderVerb.Online = elim (is_online v.word) as (λ is_open. Tells (cond is_open (Some Busy) None) false (first_failing (refusal_of (cond is_open (Err Busy) (Ok copied))))) [ true ↦ refl | false ↦ refl ]
  verb_tells true ReaderVerb.Quiescent = announces (is_online v.word) copied
  verb_tells true ReaderVerb.Offline = announces (is_online v.word) (telling (Close (section_of r v.ordinal)) (closed v 0))
  verb_tells qsbr (ReaderVerb.First c) = in_section (is_open_in qsbr w.layout v.word) (first_row r v c (slice_get w.heads c)).tests (elim (slice_get w.heads c) as (λ head. ArePlain (first_row r v c head).tests) [ None ↦ (tt, tt) | Some head ↦ tt ])
  verb_tells qsbr ReaderVerb.Next = in_section (is_open_in qsbr w.layout v.word) (next_from w r v v.cursor).tests
      (elim v.cursor as (λ from. ArePlain (next_from w r v from).tests) [ None ↦ (tt, tt) | Some o ↦ elim (slice_get w.objects o.0) as (λ x. ArePlain (next_row r v o x).tests) [ None ↦ tt | Some x ↦ tt ] ])
  verb_tells qsbr ReaderVerb.Touch = in_section (is_open_in qsbr w.layout v.word) (refusal_of (touch_row r v v.cursor)) (elim v.cursor as (λ from. ArePlain (refusal_of (touch_row r v from))) [ None ↦ (tt, tt) | Some o ↦ tt ])
  verb_tells _ _ = refl

  reads : (qsbr : Bool) (verb : ReaderVerb) → Tells (by_operation (reads_on verb) (is_some v.copy) (by_section qsbr (is_open_in qsbr w.layout v.word) verb)) false (first_failing (reader_line qsbr w r v verb).tests)
  reads qsbr ReaderVerb.GoOn = continues (is_some v.copy) None false [] refl
  reads qsbr verb = begins (is_some v.copy) (by_section qsbr (is_open_in qsbr w.layout v.word) verb) false (reader_verb qsbr w r v verb).tests (verb_tells qsbr verb)

-- ---- steps of grace periods

-- it is refused for want of a number alone
abbrev Fine : {X : Type 0} → Result X Refusal → Type 0
Fine r = IfErr r IsOfVerb

either : {X : Type 0} (b : Bool) (x y : Result X Refusal) → Fine x → Fine y → Fine (cond b x y)
either true x y p q = p
either false x y p q = q

fine_cookie : (seq : ℕ) → Fine (cookie_for seq)
fine_cookie seq = either (nat_lt seq (2 ^ 62)) _ _ tt tt

module _ {P : Type 0} (plans : Plans P) (w : BoardView P) where
  fine_ask : (cookie : Result ℕ Refusal) → Fine cookie → Fine (asked_with {P = P} cookie)
  fine_ask (Ok c) h = tt
  fine_ask (Err e) h = h

  fine_told : (sync : SyncCore P) (loaded : ℕ) → Fine (told_of plans.action plans.turn plans.taken sync loaded)
  fine_told SyncCore.Asks loaded = fine_ask (cookie_for loaded) (fine_cookie loaded)
  fine_told (SyncCore.Checks c) loaded = either (nat_le c loaded) _ _ tt tt
  fine_told (SyncCore.Runs c p) loaded = elim (plans.turn p loaded) as (λ turn. Fine (turned plans.action c p (plans.taken p loaded) turn)) [ Turn.Wait ↦ tt | Turn.Step ↦ either (is_finished (plans.action (plans.taken p loaded))) _ _ tt tt ]
  fine_told _ loaded = tt

  -- a step that takes no lock
  tells_step : (change : GraceStep P → Change P) (grace : GraceState) (ask : ℕ) (t : Result (Telling P) Refusal) → Fine t → Tells None false (first_failing (sync_row change (stepped grace ask t)).tests)
  tells_step change grace ask (Err e) h = h
  tells_step change grace ask (Ok t) h = by t.told
    where
      by : (told : Told) → Tells None false (first_failing (sync_row change (Ok (record { core = t.core; grace = grace; answer = answer_to ask told }))).tests)
      by Told.Waiting = waits
      by _ = refl

  tells_sync : (change : GraceStep P → Change P) (me : Holder) (ask : ℕ) (sync : SyncCore P) → Tells None (is_to_lock sync && is_some w.grace.holder) (first_failing (sync_row change (grace_row plans w me ask sync)).tests)
  tells_sync change me ask SyncCore.Asks = tells_step change (record w.grace { asks = ask }) ask (asked_with (cookie_for w.grace.seq)) (fine_told SyncCore.Asks w.grace.seq)
  tells_sync change me ask (SyncCore.Waits c) = by w.grace.holder
    where
      by : (held : Option Holder) → Tells None (true && is_some held) (first_failing (sync_row change (done_with plans w ask (SyncCore.Waits c) (lock_effect w me held))).tests)
      by None = refl
      by (Some other) = refl
  tells_sync change me ask (SyncCore.Checks c) = tells_step change w.grace ask (told_of plans.action plans.turn plans.taken (SyncCore.Checks c) w.grace.seq) (fine_told (SyncCore.Checks c) w.grace.seq)
  tells_sync change me ask (SyncCore.Starts c) =
      let p : P = plan_now plans w in
      let loaded : ℕ = (action_effect {P = P} w (plans.action p)).loaded in
      tells_step change (action_effect {P = P} w (plans.action p)).grace ask (told_of plans.action plans.turn plans.taken (SyncCore.Runs c p) loaded) (fine_told (SyncCore.Runs c p) loaded)
  tells_sync change me ask (SyncCore.Runs c p) =
      let loaded : ℕ = (action_effect {P = P} w (plans.action p)).loaded in
      let sync : SyncCore P = planned (SyncCore.Runs c p) (action_effect {P = P} w (plans.action p)).plan in
      tells_step change (action_effect {P = P} w (plans.action p)).grace ask (told_of plans.action plans.turn plans.taken sync loaded) (fine_told sync loaded)
  tells_sync change me ask SyncCore.Frees = tells_step change (record w.grace { holder = None }) ask (told_of plans.action plans.turn plans.taken SyncCore.Frees 0) tt
  tells_sync change me ask SyncCore.Done = tells_step change w.grace ask (told_of plans.action plans.turn plans.taken SyncCore.Done 0) tt

  -- ---- updaters

  module _ (u : ℕ) (x : UpdaterState P) where
    publishes : (what : Publishing) → Tells None false (first_failing (published w u x what).tests)
    publishes (Publishing.Push new) = elim (slice_get w.objects new.0) as (λ y. Tells None false (first_failing (pushed_row u (record x { place = Idle }) new y).tests)) [ None ↦ refl | Some y ↦ refl ]
    publishes (Publishing.Replace old new) = elim (slice_get w.objects old.0) as (λ y. Tells None false (first_failing (replaced_row u (record x { place = Idle }) old new y).tests)) [ None ↦ refl | Some y ↦ refl ]

    goes_on : (place : UpdaterPlace P) → Tells None (place_is_to_lock place && is_some w.grace.holder) (first_failing (updater_on plans w u x place).tests)
    goes_on (Publishes what) = publishes what
    goes_on (Syncs ask sync) = tells_sync (grace_change plans u x ask) (Holder.Updater u) ask sync
    goes_on (Bars b) = plain (barrier_on w u x b b.due).tests (elim b.due as (λ step. ArePlain (barrier_on w u x b step).tests) [ Note q ↦ tt | Check q ↦ (waits, tt) ])
    goes_on _ = refl

    retires : (o : ObjectId) (may : Bool) → Tells None (may && is_some (lock_of w (queue_of w u))) (first_failing (refused_if (not may) NoPlace ∷ (queue_lock_row w u x o (slice_get w.queues (queue_of w u))).tests))
    retires o false = tt
    retires o true = by_entry (λ q (z : QueueState). Tells None (is_some z.holder) (first_failing (queue_lock_row w u x o q).tests)) w.queues (queue_of w u) empty_queue_state refl (λ q is. locks (is_some q.holder) [] tt)

    -- a verb, by its tests
    verb_updates : slice_get w.updaters u ≡ Some x → (verb : UpdaterVerb) → Tells (by_cookie verb x.started) (needs_held_lock w (Updater u verb)) (first_failing (updater_verb plans w u x verb).tests)
    verb_updates there (UpdaterVerb.Push c) = plain (push_row w u x c (slice_get w.heads c)).tests (elim (slice_get w.heads c) as (λ head. ArePlain (push_row w u x c head).tests) [ None ↦ (tt, tt) | Some head ↦ (tt, tt) ])
    verb_updates there (UpdaterVerb.Replace o) = plain (replace_row w u x o (linked_by w u (slice_get w.objects o.0))).tests (elim (linked_by w u (slice_get w.objects o.0)) as (λ y. ArePlain (replace_row w u x o y).tests) [ None ↦ (tt, tt) | Some y ↦ tt ])
    verb_updates there (UpdaterVerb.Cut o) = plain (cut_row u x o (linked_by w u (slice_get w.objects o.0))).tests (elim (linked_by w u (slice_get w.objects o.0)) as (λ y. ArePlain (cut_row u x o y).tests) [ None ↦ (tt, tt) | Some y ↦ tt ])
    verb_updates there (UpdaterVerb.Retire o) = retires o (may_retire w u (slice_get w.objects o.0))
    verb_updates there UpdaterVerb.Sync = tells_sync (grace_change plans u x (w.grace.asks + 1)) (Holder.Updater u) (w.grace.asks + 1) SyncCore.Asks
    verb_updates there UpdaterVerb.Start = plain (start_row w u x (cookie_for w.grace.seq)).tests
        ((elim (cookie_for w.grace.seq) as (λ cookie. Fine cookie → ArePlain (start_row w u x cookie).tests) [ Ok c ↦ λ h. tt | Err e ↦ λ h. (h, tt) ]) (fine_cookie w.grace.seq))
    verb_updates there UpdaterVerb.Poll = elim x.started as (λ s. Tells (by_cookie UpdaterVerb.Poll s) false (first_failing (poll_row w u x s).tests)) [ None ↦ refl | Some s ↦ plain (poll_row w u x (Some s)).tests (waits, tt) ]
    verb_updates there UpdaterVerb.Barrier = refl
    verb_updates there UpdaterVerb.GoOn =
        subst (λ (y : UpdaterState P). Tells None (place_is_to_lock y.place && is_some w.grace.holder) (first_failing (updater_on plans w u x x.place).tests)) (sym (get_or_from_slice_get w.updaters u x idle there)) (goes_on x.place)

    updates : slice_get w.updaters u ≡ Some x → (verb : UpdaterVerb) → Tells (by_operation (updates_on verb) (not (is_idle x.place)) (by_cookie verb x.started)) (needs_held_lock w (Updater u verb)) (first_failing (updater_line plans w u x verb).tests)
    updates there UpdaterVerb.GoOn = continues (not (is_idle x.place)) None (needs_held_lock w (Updater u UpdaterVerb.GoOn)) (updater_verb plans w u x UpdaterVerb.GoOn).tests (verb_updates there UpdaterVerb.GoOn)
    updates there (UpdaterVerb.Retire o) = begins (not (is_idle x.place)) None (needs_held_lock w (Updater u (UpdaterVerb.Retire o))) (updater_verb plans w u x (UpdaterVerb.Retire o)).tests (verb_updates there (UpdaterVerb.Retire o))
    updates there UpdaterVerb.Poll = begins (not (is_idle x.place)) (by_cookie UpdaterVerb.Poll x.started) false (updater_verb plans w u x UpdaterVerb.Poll).tests (verb_updates there UpdaterVerb.Poll)
    updates there verb = begins (not (is_idle x.place)) None false (updater_verb plans w u x verb).tests (verb_updates there verb)

  -- ---- workers

  module _ (k : ℕ) (x : WorkerState P) where
    takes : Tells None (is_some (lock_of w k)) (first_failing (take_row w k x (slice_get w.queues k)).tests)
    takes = by_entry (λ q (z : QueueState). Tells None (is_some z.holder) (first_failing (take_row w k x q).tests)) w.queues k empty_queue_state refl
        (λ q is. locks (is_some q.holder) (stalled_if (is_none_left (items_of q.items)) Answer.Idle ∷ []) ((λ e. let no : Answer.Idle ≡ Blocked = e in cc), tt))

    works_at : (place : WorkerCore P Unit) → Tells None (core_is_to_lock place && is_some w.grace.holder) (first_failing (worker_on plans w k x place).tests)
    works_at (WorkerCore.Syncs sync tickets) = tells_sync (work_change k (ask_for w x.ask sync) tickets) (Holder.Worker k) (ask_for w x.ask sync) sync
    works_at (WorkerCore.Pops tickets) = elim (first_in (slice_get w.queues k)) as (λ first. Tells None false (first_failing (run_row w k x tickets first).tests)) [ None ↦ refl | Some first ↦ refl ]
    works_at _ = refl

    verb_works : slice_get w.workers k ≡ Some x → (verb : WorkerVerb) → Tells None (needs_held_lock w (Worker k verb)) (first_failing (worker_verb plans w k x verb).tests)
    verb_works there WorkerVerb.Take = takes
    verb_works there WorkerVerb.GoOn =
        subst (λ (y : WorkerState P). Tells None (core_is_to_lock y.core && is_some w.grace.holder) (first_failing (worker_on plans w k x x.core).tests)) (sym (get_or_from_slice_get w.workers k x new_worker there)) (works_at x.core)

    does : slice_get w.workers k ≡ Some x → (verb : WorkerVerb) → Tells (by_operation (works_on verb) (not (is_resting x.core)) None) (needs_held_lock w (Worker k verb)) (first_failing (worker_line plans w k x verb).tests)
    does there WorkerVerb.Take = begins (not (is_resting x.core)) None (needs_held_lock w (Worker k WorkerVerb.Take)) (worker_verb plans w k x WorkerVerb.Take).tests (verb_works there WorkerVerb.Take)
    does there WorkerVerb.GoOn = continues (not (is_resting x.core)) None (needs_held_lock w (Worker k WorkerVerb.GoOn)) (worker_verb plans w k x WorkerVerb.GoOn).tests (verb_works there WorkerVerb.GoOn)

  -- ---- a line of an actor, if there is such an actor

  tells : (line : Line) → Tells (refusal_in plans.qsbr w line) (needs_held_lock w line) (first_failing (row_of plans w line).tests)
  tells (Reader r verb) = elim (slice_get w.readers r) as (λ x.
      Tells (cond (is_some x) (by_operation (reads_on verb) (option_map_or (λ v. is_some v.copy) x false) (option_map_or (λ v. by_section plans.qsbr (is_open_in plans.qsbr w.layout v.word) verb) x None)) (Some NoActor))
      false (first_failing (of_reader {P = P} plans.qsbr w r verb x).tests)) [ None ↦ refl | Some v ↦ reads w r v plans.qsbr verb ]
  tells (Updater u verb) = by_option (λ x.
      Tells (cond (is_some x) (by_operation (updates_on verb) (option_map_or (λ y. not (is_idle y.place)) x false) (option_map_or (λ y. by_cookie verb y.started) x None)) (Some NoActor))
      (needs_held_lock w (Updater u verb)) (first_failing (of_updater plans w u verb x).tests)) (slice_get w.updaters u) (λ is. refl) (λ x is. updates u x is verb)
  tells (Worker k verb) = by_option (λ x.
      Tells (cond (is_some x) (by_operation (works_on verb) (option_map_or (λ y. not (is_resting y.core)) x false) None) (Some NoActor))
      (needs_held_lock w (Worker k verb)) (first_failing (of_worker plans w k verb x).tests)) (slice_get w.workers k) (λ is. refl) (λ x is. does k x is verb)

-- ---- as the tests of a step say it

tells_in : (w : WorldView) (line : Line) → Tells (standing_refusal w line) (is_locked_out w line) (first_failing (tests_of w line))
tells_in (OfMemb w) line = tells (exact memb_plans w) w line
tells_in (OfQsbr w) line = tells (exact qsbr_plans w) w line

prompt_free : (answer : Answer) → IsPrompt answer → answer ≢ Blocked
prompt_free (Events first second) p e = let no : Events first second ≡ Blocked = e in cc
prompt_free Quiet p e = let no : Quiet ≡ Blocked = e in cc
prompt_free _ p e = absurd p

module _ (old new : WorldView) (line : Line) where
  stands : (standing : Option Refusal) (locked : Bool) (first : Option (Result Answer Refusal)) (result : Result Answer Refusal) → Tells standing locked first → MeetsTests first old new result → MeetsStanding standing result
  stands (Some e) locked first result h meets = (subst (λ (f : Option (Result Answer Refusal)). MeetsTests f old new result) h meets).0
  stands None locked None (Ok answer) h meets = tt
  stands None locked None (Err e) h meets = subst IsOfVerb (sym meets.0) tt
  stands None locked (Some (Ok answer)) result h meets = subst (λ (r : Result Answer Refusal). Fine r) (sym meets.0) tt
  stands None locked (Some (Err e)) result h meets = subst (λ (r : Result Answer Refusal). Fine r) (sym meets.0) h

  blocks : (standing : Option Refusal) (locked : Bool) (first : Option (Result Answer Refusal)) (result : Result Answer Refusal) → Tells standing locked first → MeetsTests first old new result → IfOk result (IsBlockedIf locked)
  blocks (Some e) locked first result h meets = subst (λ (r : Result Answer Refusal). IfOk r (IsBlockedIf locked)) (sym (subst (λ (f : Option (Result Answer Refusal)). MeetsTests f old new result) h meets).0) tt
  blocks None locked None (Ok answer) h meets = subst (λ (b : Bool). IsBlockedIf b answer) (sym h) (prompt_free answer meets.0)
  blocks None locked None (Err e) h meets = tt
  blocks None locked (Some (Ok answer)) result h meets = subst (λ (r : Result Answer Refusal). IfOk r (IsBlockedIf locked)) (sym meets.0) h
  blocks None locked (Some (Err e)) result h meets = subst (λ (r : Result Answer Refusal). IfOk r (IsBlockedIf locked)) (sym meets.0) tt

  pub meets_standing : (result : Result Answer Refusal) → MeetsTests (first_failing (tests_of old line)) old new result → MeetsStanding (standing_refusal old line) result
  meets_standing result = λ meets. stands (standing_refusal old line) (is_locked_out old line) (first_failing (tests_of old line)) result (tells_in old line) meets

  pub meets_blocked : (result : Result Answer Refusal) → MeetsTests (first_failing (tests_of old line)) old new result → IfOk result (IsBlockedIf (is_locked_out old line))
  meets_blocked result = λ meets. blocks (standing_refusal old line) (is_locked_out old line) (first_failing (tests_of old line)) result (tells_in old line) meets

-- Each row of the step table, gone through once: what stood there before the line, and what the tests of the row say.
use Rattle.world.proofs.Cited.{◌≡◌, ◌⊎◌, inl, inr, ℕ, true, false, List, [], ◌∷◌, Option, Some, None, Result, Ok, Err, refl, sym, ap, subst, unwrap_or, unwrap_or-slice_get, get_or_from_slice_get, cond_both, Event, Refusal, Action, Load, Turn, cookie_for, SyncCore, Asks, Waits, Checks, Starts, Runs, Frees, Done, asked_with, is_finished, turned, Quiet, Wait, Blocked, Holder, Plans, BoardView, told, true≢false, ◌+◌, ◌^◌, ◌==◌, cond, not, Bool, length, get_or, slice_get, nat_le, nat_lt, ◌∙◌, not-false, IfErr, ObjectId, NoActor, NotOpen, Busy, WrongFlavour, NoPlace, Layout, count_of, greatest_count, entered_of, left_of, is_online, Item, Ticket, items_of, Tickets, WorkerCore, new_core, after_take, item_done, Answer, Events, Line, Reader, Updater, Worker, ReaderVerb, UpdaterVerb, WorkerVerb, Mark, ObjectState, QueueAct, QueueState, ReaderState, ReaderStep, Barrier, BarrierStep, Note, Check, GraceState, Publishing, RetireStep, Started, UpdaterPlace, Idle, Publishes, Syncs, Retires, Bars, UpdaterState, WorkerState, Change, Read, Begin, Publish, Grace, Hold, Bar, Work, Stay, fresh_object, item_of, section_of, is_open_in, quietly, telling, with_word, opened, closed, found_row, stores, lock_row, enter_row, unlock_row, online_row, quiescent_row, offline_row, announce_row, go_online_row, touch_row, changed, Life, Told, GraceStep, one, stepped, action_effect, lock_effect, plan_now, planned, done_with, grace_row, is_blocked, is_waiting, sync_row, start_row, poll_row, IsInside, writes, next_object, first_row, next_row, next_from, push_row, replace_row, cut_row, pushed_row, replaced_row, published, linked_by, of_memb, of_qsbr, in_section, reader_on, reader_verb, reader_line, of_reader, grace_change, is_idle, updater_on, updater_verb, updater_line, of_updater, worker_verb, worker_line, of_worker, row_of, change_of, with_change, outcome_of, world_after, IsStepError, IsOfReader, IsStalled, is_none_left, first_in, first_fresh, with_core, take_row, ask_for, work_change, run_row, worker_on, is_resting}
use Rattle.std.specs.Prelude.{nat_le, is_some}
use Rattle.call_rcu_worker.specs.Sync.{telling as sync_telling}
use Rattle.world.specs.declared.grace.Effect.{Effect}
use Rattle.std.specs.List.{AllByRecursion as Every}
use Rattle.world.specs.Queues.{queue_of, at_place, may_retire, lock_row as queue_lock_row, retire_on, finished_in, after_note, noted_at, barrier_row, checked, barrier_on}
use Rattle.world.specs.Row.{Row, refused_if, stalled_if, guarded, after, makes, refused, unreached, tried, read_by, made}

-- a plan that runs is not made anew
pub unplanned : {P : Type 0} (c : ℕ) (p : P) (made : Option P) → planned (Runs c p) made ≡ Runs c p
unplanned c p None = refl
unplanned c p (Some made) = refl

module _ {P : Type 0} (plans : Plans P) (w : BoardView P) where
  -- what a turn of a plan does, and the plan behind it
  abbrev pub effect : P → Effect P
  effect p = action_effect w (plans.action p)

  abbrev pub next : P → P
  next p = plans.taken p (effect p).loaded

  -- this plan takes its turn from there: it runs, or is made now
  pub data TakesTurn : SyncCore P → ℕ → P → Type 0 where
    Begins : (c : ℕ) → TakesTurn (Starts c) c (plan_now plans w)
    GoesOn : (c : ℕ) (p : P) → TakesTurn (Runs c p) c p

module _ {P : Type 0} (plans : Plans P) (w : BoardView P) (me : Holder) (ask : ℕ) where
  -- the lock stays with whom it was, and who was inside still is; or is taken by one who is inside then; or is freed
  abbrev pub LockMoves : Type 0 → Option Holder → Type 0 → Type 0
  LockMoves was held is = ((held ≡ w.grace.holder) × (was → is)) ⊎ (((held ≡ Some me) × is) ⊎ (held ≡ None))

  -- the lock moves so, and this ask is made, or at most answered
  pub record Fits (sync : SyncCore P) (step : GraceStep P) : Type 0 where
    pub lock : LockMoves (IsInside sync) step.grace.holder (IsInside step.core)
    pub asks : ((sync ≡ Asks) × (step.grace.asks ≡ ask) × (told step.answer ≡ Event.Ask ask ∷ [])) ⊎ ((step.grace.asks ≡ w.grace.asks) × ((told step.answer ≡ []) ⊎ (told step.answer ≡ Event.Answer ask ∷ [])))

  -- a step from each place of a grace period
  pub data TurnRow : SyncCore P → Result (GraceStep P) Refusal → Type 0 where
    Late : (e : Refusal) → cookie_for w.grace.seq ≡ Err e → TurnRow Asks (Err e)
    Asking : (c : ℕ) → cookie_for w.grace.seq ≡ Ok c → TurnRow Asks (Ok (record { core = Waits c; grace = record w.grace { asks = ask }; answer = one (Event.Ask ask) }))
    Blocking : (c : ℕ) (other : Holder) → w.grace.holder ≡ Some other → TurnRow (Waits c) (Ok (record { core = Waits c; grace = w.grace; answer = Blocked }))
    Locking : (c : ℕ) → w.grace.holder ≡ None → TurnRow (Waits c) (Ok (record { core = Checks c; grace = record w.grace { holder = Some me }; answer = Quiet }))
    Finding : (c : ℕ) → nat_le c w.grace.seq ≡ true → TurnRow (Checks c) (Ok (record { core = Frees; grace = w.grace; answer = one (Event.Answer ask) }))
    Needing : (c : ℕ) → nat_le c w.grace.seq ≡ false → TurnRow (Checks c) (Ok (record { core = Starts c; grace = w.grace; answer = Quiet }))
    Standing : (from : SyncCore P) (c : ℕ) (p : P) → TakesTurn plans w from c p → TurnRow from (Ok (record { core = Runs c p; grace = (effect plans w p).grace; answer = Wait }))
    Ending : (from : SyncCore P) (c : ℕ) (p : P) → TakesTurn plans w from c p → is_finished (plans.action (next plans w p)) ≡ true → TurnRow from (Ok (record { core = Frees; grace = (effect plans w p).grace; answer = one (Event.Answer ask) }))
    Going : (from : SyncCore P) (c : ℕ) (p : P) → TakesTurn plans w from c p → plans.turn p (effect plans w p).loaded ≡ Turn.Step → is_finished (plans.action (next plans w p)) ≡ false →
        TurnRow from (Ok (record { core = Runs c (next plans w p); grace = (effect plans w p).grace; answer = Quiet }))
    Freeing : TurnRow Frees (Ok (record { core = Done; grace = record w.grace { holder = None }; answer = Quiet }))
    Resting : TurnRow Done (Ok (record { core = Done; grace = w.grace; answer = Quiet }))

  asking : (cookie : Result ℕ Refusal) → cookie_for w.grace.seq ≡ cookie → TurnRow Asks (stepped (record w.grace { asks = ask }) ask (asked_with cookie))
  asking (Ok c) is = Asking c is
  asking (Err e) is = Late e is

  locking : (c : ℕ) (held : Option Holder) → w.grace.holder ≡ held → TurnRow (Waits c) (done_with plans w ask (Waits c) (lock_effect w me held))
  locking c None is = Locking c is
  locking c (Some other) is = Blocking c other is

  turning : (from : SyncCore P) (c : ℕ) (p : P) → TakesTurn plans w from c p → (turn : Turn) → plans.turn p (effect plans w p).loaded ≡ turn → TurnRow from (stepped (effect plans w p).grace ask (turned plans.action c p (next plans w p) turn))
  turning from c p at Turn.Wait is = Standing from c p at
  turning from c p at Turn.Step is = cond_both (is_finished (plans.action (next plans w p))) (sync_telling {P = P} Told.Answered Frees) (sync_telling Told.Quiet (Runs c (next plans w p))) (λ t. TurnRow from (stepped (effect plans w p).grace ask t))
      (Ending from c p at) (Going from c p at is)

  pub each_turn : (sync : SyncCore P) → TurnRow sync (grace_row plans w me ask sync)
  each_turn Asks = asking (cookie_for w.grace.seq) refl
  each_turn (Waits c) = locking c w.grace.holder refl
  each_turn (Checks c) = cond_both (nat_le c w.grace.seq) (sync_telling {P = P} Told.Answered Frees) (sync_telling Told.Quiet (Starts c)) (λ t. TurnRow (Checks c) (stepped w.grace ask t)) (Finding c) (Needing c)
  each_turn (Starts c) = turning (Starts c) c (plan_now plans w) (Begins c) (plans.turn (plan_now plans w) _) refl
  each_turn (Runs c p) = rw (unplanned c p (effect plans w p).plan) (turning (Runs c p) c p (GoesOn c p) (plans.turn p _) refl)
  each_turn Frees = Freeing
  each_turn Done = Resting

  -- the row of a step that is made
  pub turn_of : (sync : SyncCore P) (step : GraceStep P) → grace_row plans w me ask sync ≡ Ok step → TurnRow sync (Ok step)
  turn_of sync step is = subst (TurnRow sync) is (each_turn sync)

  -- a turn leaves the lock, and asks nothing
  acts : (a : Action) → ((action_effect w a).grace.holder ≡ w.grace.holder) × ((action_effect w a).grace.asks ≡ w.grace.asks)
  acts (Load slot) = (refl, refl)
  acts _ = (refl, refl)

  fits : (sync : SyncCore P) (step : GraceStep P) → TurnRow sync (Ok step) → Fits sync step
  fits _ _ (Asking c is) = record { lock = inl (refl, λ h. absurd h); asks = inl (refl, refl, refl) }
  fits _ _ (Blocking c other held) = record { lock = inl (refl, λ h. h); asks = inr (refl, inl refl) }
  fits _ _ (Locking c free) = record { lock = inr (inl (refl, tt)); asks = inr (refl, inl refl) }
  fits _ _ (Finding c up) = record { lock = inl (refl, λ _. tt); asks = inr (refl, inr refl) }
  fits _ _ (Needing c low) = record { lock = inl (refl, λ _. tt); asks = inr (refl, inl refl) }
  fits _ _ (Standing from c p at) = let a = acts (plans.action p) in record { lock = inl (a.0, λ _. tt); asks = inr (a.1, inl refl) }
  fits _ _ (Ending from c p at done) = let a = acts (plans.action p) in record { lock = inl (a.0, λ _. tt); asks = inr (a.1, inr refl) }
  fits _ _ (Going from c p at goes more) = let a = acts (plans.action p) in record { lock = inl (a.0, λ _. tt); asks = inr (a.1, inl refl) }
  fits _ _ Freeing = record { lock = inr (inr refl); asks = inr (refl, inl refl) }
  fits _ _ Resting = record { lock = inl (refl, λ h. h); asks = inr (refl, inl refl) }

  pub fits_step : (sync : SyncCore P) (step : GraceStep P) → grace_row plans w me ask sync ≡ Ok step → Fits sync step
  fits_step sync step is = fits sync step (turn_of sync step is)

  -- it tells nothing, or the ask, or the answer
  pub tells : (Q : List Event → Type 0) → Q [] → Q (Event.Ask ask ∷ []) → Q (Event.Answer ask ∷ []) → (sync : SyncCore P) (step : GraceStep P) → grace_row plans w me ask sync ≡ Ok step → Q (told step.answer)
  tells Q none asked answered sync step is = elim (fits_step sync step is).asks [ inl a ↦ subst Q (sym a.2) asked | inr n ↦ elim n.1 [ inl e ↦ subst Q (sym e) none | inr e ↦ subst Q (sym e) answered ] ]

pub idle_tells : {P : Type 0} (place : UpdaterPlace P) → is_idle place ≡ true → place ≡ Idle
idle_tells Idle e = refl
idle_tells _ e = absurd (true≢false (sym e))

pub rest_tells : {P : Type 0} (core : WorkerCore P Unit) → is_resting core ≡ true → core ≡ WorkerCore.Idle
rest_tells WorkerCore.Idle e = refl
rest_tells _ e = absurd (true≢false (sym e))

pub not_false : {b : Bool} → not b ≡ false → b ≡ true
not_false {b} e = not-false b e

pub none_is : {X : Type 0} (o : Option X) → is_some o ≡ false → o ≡ None
none_is None e = refl
none_is (Some x) e = absurd (true≢false e)

-- what is looked up is there or not
pub by_option : {X : Type 0} (Q : Option X → Type 0) (o : Option X) → (o ≡ None → Q None) → ((x : X) → o ≡ Some x → Q (Some x)) → Q o
by_option Q None none some = none refl
by_option Q (Some x) none some = some x refl

-- and so is an entry, as it is read where a list may end before it
pub by_entry : {X : Type 0} (Q : Option X → X → Type 0) (xs : List X) (i : ℕ) (d : X) → Q None d → ((x : X) → slice_get xs i ≡ Some x → Q (Some x) x) → Q (slice_get xs i) (get_or xs i d)
by_entry Q xs i d none some = by_option (λ o. Q o (get_or xs i d)) (slice_get xs i) (λ is. subst (Q None) (sym (ap (λ o. unwrap_or o d) is) ∙ unwrap_or-slice_get xs i d) none)
    (λ x is. subst (Q (Some x)) (sym (get_or_from_slice_get xs i x d is)) (some x is))

-- a step that was not made tells nothing
pub stalled_silent : (answer : Answer) → IsStalled answer → told answer ≡ []
stalled_silent (Events first second) h = absurd h
stalled_silent _ h = refl

-- ---- what words, cookies and steps of grace periods are refused by

abbrev pub Fails : {X : Type 0} → Result X Refusal → Type 0
Fails r = IfErr r IsStepError

pub whichever : {X : Type 0} (b : Bool) (x y : Result X Refusal) → Fails x → Fails y → Fails (cond b x y)
whichever true x y p q = p
whichever false x y p q = q

enter_fails : (layout : Layout) (word : ℕ) (phase : Bool) → Fails (entered_of layout word phase)
enter_fails layout word phase = whichever (count_of layout word == 0) _ _ tt (whichever (count_of layout word == greatest_count layout) _ _ tt tt)

cookie_fails : (seq : ℕ) → Fails (cookie_for seq)
cookie_fails seq = whichever (nat_lt seq (2 ^ 62)) _ _ tt tt

module _ {P : Type 0} (plans : Plans P) (w : BoardView P) where
  turn_fails : (me : Holder) (ask : ℕ) (sync : SyncCore P) (r : Result (GraceStep P) Refusal) → TurnRow plans w me ask sync r → Fails r
  turn_fails me ask _ _ (Late e late) = subst (λ (r : Result ℕ Refusal). Fails r) late (cookie_fails w.grace.seq)
  turn_fails me ask _ _ _ = tt

  grace_fails : (me : Holder) (ask : ℕ) (sync : SyncCore P) → Fails (grace_row plans w me ask sync)
  grace_fails me ask sync = turn_fails me ask sync (grace_row plans w me ask sync) (each_turn plans w me ask sync)

-- ---- the rows

-- a step of a reader, and what holds of each
module _ {P : Type 0} (qsbr : Bool) (layout : Layout) (w : BoardView P) (r : ℕ) (v : ReaderState) where
  pub data ReaderRow : ReaderStep → Type 0 where
    -- `lock`, `online` and `quiescent` load; in the general-purpose flavour no section is open then
    Copies : v.copy ≡ None → (qsbr ≡ false → (count_of layout v.word == 0) ≡ true) → ReaderRow (quietly (record v { copy = Some w.grace.word }))
    Nests : (word : ℕ) → v.copy ≡ None → qsbr ≡ false → (count_of layout v.word == 0) ≡ false → entered_of layout v.word false ≡ Ok word → ReaderRow (quietly (with_word v word))
    Unnests : (word : ℕ) → v.copy ≡ None → qsbr ≡ false → left_of layout v.word ≡ Ok word → (count_of layout word == 0) ≡ false → ReaderRow (quietly (with_word v word))
    Unlocks : (word : ℕ) → v.copy ≡ None → qsbr ≡ false → left_of layout v.word ≡ Ok word → (count_of layout word == 0) ≡ true → ReaderRow (telling (Event.Close (section_of r v.ordinal)) (closed v word))
    Leaves : v.copy ≡ None → qsbr ≡ true → is_online v.word ≡ true → ReaderRow (telling (Event.Close (section_of r v.ordinal)) (closed v 0))
    Enters : (copied word : ℕ) → v.copy ≡ Some copied → qsbr ≡ false → entered_of layout v.word (copied == 1) ≡ Ok word → ReaderRow (telling (Event.Open (section_of r (v.ordinal + 1))) (opened v word))
    GoesOnline : (copied : ℕ) → v.copy ≡ Some copied → qsbr ≡ true → is_online v.word ≡ false → ReaderRow (go_online_row copied r v)
    Announces : (copied : ℕ) → v.copy ≡ Some copied → qsbr ≡ true → is_online v.word ≡ true → ReaderRow (announce_row copied r v)
    Firsts : (c : ℕ) (head : Option ObjectId) → v.copy ≡ None → is_open_in qsbr layout v.word ≡ true → slice_get w.heads c ≡ Some head → ReaderRow (found_row v head (Event.First (section_of r v.ordinal) c head))
    Nexts : (o : ObjectId) (x : ObjectState) → v.copy ≡ None → is_open_in qsbr layout v.word ≡ true → v.cursor ≡ Some o → slice_get w.objects o.0 ≡ Some x → ReaderRow (found_row v x.link (Event.Next (section_of r v.ordinal) o x.link))
    Touches : (o : ObjectId) → v.copy ≡ None → is_open_in qsbr layout v.word ≡ true → v.cursor ≡ Some o → ReaderRow (telling (Event.Touch (section_of r v.ordinal) o) v)

  abbrev pub ReaderRows : (ReaderStep → Type 0) → Type 0
  ReaderRows H = (step : ReaderStep) → ReaderRow step → H step

-- events of those who publish, and of those who wait
abbrev pub IsPublishing : Event → Type 0
IsPublishing (Event.Push c o) = Unit {0}
IsPublishing (Event.Replace c old new) = Unit {0}
IsPublishing (Event.Cut c o) = Unit {0}
IsPublishing _ = ⊥

abbrev pub IsWaiting : Event → Type 0
IsWaiting (Event.Ask a) = Unit {0}
IsWaiting (Event.Answer a) = Unit {0}
IsWaiting (Event.Bar b) = Unit {0}
IsWaiting (Event.Clear b) = Unit {0}
IsWaiting _ = ⊥

-- the change is an updater's, and no step of a retirement after its first one
abbrev pub IsUpdate : {P : Type 0} → Change P → Type 0
IsUpdate (Begin u x object) = Unit {0}
IsUpdate (Publish u x splice event) = IsPublishing event
IsUpdate (Grace u x grace answer) = Every IsWaiting (told answer)
IsUpdate (Hold u x q) = Unit {0}
IsUpdate (Bar u x barriers answer) = Every IsWaiting (told answer)
IsUpdate _ = ⊥

module _ {P : Type 0} (plans : Plans P) (w : BoardView P) where
  -- the actor is so now, and at this place
  pub record WasAt (u : ℕ) (x : UpdaterState P) (place : UpdaterPlace P) : Type 0 where
    pub was : slice_get w.updaters u ≡ Some x
    pub at : x.place ≡ place

  pub record WorkedAt (k : ℕ) (x : WorkerState P) (core : WorkerCore P Unit) : Type 0 where
    pub was : slice_get w.workers k ≡ Some x
    pub at : x.core ≡ core

  -- the updater begins a grace period, or goes on with one
  abbrev pub SyncsAt : ℕ → UpdaterState P → ℕ → SyncCore P → Type 0
  SyncsAt u x ask core = WasAt u x Idle ⊎ WasAt u x (Syncs ask core)

  -- what is missing, as in no world that lines lead to
  pub data Lack : Type 0 where
    NoNext : (r : ℕ) (v : ReaderState) (o : ObjectId) → slice_get w.readers r ≡ Some v → v.cursor ≡ Some o → slice_get w.objects o.0 ≡ None → Lack
    NoEntry : (r : ℕ) (v : ReaderState) (copied : ℕ) (e : Refusal) → slice_get w.readers r ≡ Some v → v.copy ≡ Some copied → plans.qsbr ≡ false → entered_of w.layout v.word (copied == 1) ≡ Err e → Lack
    NoQueue : (u : ℕ) → slice_get w.queues (queue_of w u) ≡ None → Lack
    NoPushed : (u : ℕ) (x : UpdaterState P) (new : ObjectId) → WasAt u x (Publishes (Publishing.Push new)) → slice_get w.objects new.0 ≡ None → Lack
    NoReplaced : (u : ℕ) (x : UpdaterState P) (old new : ObjectId) → WasAt u x (Publishes (Publishing.Replace old new)) → slice_get w.objects old.0 ≡ None → Lack
    NoBatch : (k : ℕ) (x : WorkerState P) → slice_get w.workers k ≡ Some x → slice_get w.queues k ≡ None → Lack
    NoneReady : (k : ℕ) (x : WorkerState P) (tickets : Tickets) → WorkedAt k x (WorkerCore.Pops tickets) → first_in (slice_get w.queues k) ≡ None → Lack
    NotRun : (k : ℕ) (x : WorkerState P) (tickets : Tickets) (ticket : Ticket) (item : Item Unit) → WorkedAt k x (WorkerCore.Runs tickets ticket item) → Lack
    NotCounted : (k : ℕ) (x : WorkerState P) (tickets : Tickets) (ticket : Ticket) → WorkedAt k x (WorkerCore.Counts tickets ticket) → Lack

  -- a step of an updater, and what holds of each
  module _ (u : ℕ) (x : UpdaterState P) where
    pub data UpdaterRow : UpdaterVerb → Change P → Type 0 where
      ByPush : (c : ℕ) (head : Option ObjectId) → WasAt u x Idle → slice_get w.heads c ≡ Some head → writes w u c ≡ true →
          UpdaterRow (UpdaterVerb.Push c) (Begin u (record x { place = Publishes (Publishing.Push (next_object w)) }) (fresh_object c head))
      ByReplace : (o : ObjectId) (y : ObjectState) → WasAt u x Idle → linked_by w u (slice_get w.objects o.0) ≡ Some y →
          UpdaterRow (UpdaterVerb.Replace o) (Begin u (record x { place = Publishes (Publishing.Replace o (next_object w)) }) (fresh_object y.chain y.link))
      ByCut : (o : ObjectId) (y : ObjectState) → WasAt u x Idle → linked_by w u (slice_get w.objects o.0) ≡ Some y →
          UpdaterRow (UpdaterVerb.Cut o) (Publish u x (record { chain = y.chain; before = y.before; after = y.link; leaves = Some o; enters = None }) (Event.Cut y.chain o))
      ByPushed : (new : ObjectId) (y : ObjectState) → WasAt u x (Publishes (Publishing.Push new)) → slice_get w.objects new.0 ≡ Some y →
          UpdaterRow UpdaterVerb.GoOn (Publish u (record x { place = Idle }) (record { chain = y.chain; before = None; after = y.link; leaves = None; enters = Some new }) (Event.Push y.chain new))
      ByReplaced : (old new : ObjectId) (y : ObjectState) → WasAt u x (Publishes (Publishing.Replace old new)) → slice_get w.objects old.0 ≡ Some y →
          UpdaterRow UpdaterVerb.GoOn (Publish u (record x { place = Idle }) (record { chain = y.chain; before = y.before; after = y.link; leaves = Some old; enters = Some new }) (Event.Replace y.chain old new))
      BySync : (step : GraceStep P) → WasAt u x Idle → grace_row plans w (Holder.Updater u) (w.grace.asks + 1) new_core ≡ Ok step → is_blocked step.answer ≡ false → is_waiting step.answer ≡ false →
          UpdaterRow UpdaterVerb.Sync (grace_change plans u x (w.grace.asks + 1) step)
      ByTurn : (ask : ℕ) (core : SyncCore P) (step : GraceStep P) → WasAt u x (Syncs ask core) → grace_row plans w (Holder.Updater u) ask core ≡ Ok step → is_blocked step.answer ≡ false → is_waiting step.answer ≡ false →
          UpdaterRow UpdaterVerb.GoOn (grace_change plans u x ask step)
      ByStart : (cookie : ℕ) → WasAt u x Idle → cookie_for w.grace.seq ≡ Ok cookie →
          UpdaterRow UpdaterVerb.Start (Grace u (record x { started = Some (record { ask = w.grace.asks + 1; cookie = cookie }) }) (record w.grace { asks = w.grace.asks + 1 }) (Events (Event.Ask (w.grace.asks + 1)) None))
      ByPoll : (s : Started) → WasAt u x Idle → x.started ≡ Some s → nat_le s.cookie w.grace.seq ≡ true → UpdaterRow UpdaterVerb.Poll (Grace u (record x { started = None }) w.grace (Events (Event.Answer s.ask) None))
      ByHold : (o : ObjectId) (q : QueueState) → WasAt u x Idle → may_retire w u (slice_get w.objects o.0) ≡ true → slice_get w.queues (queue_of w u) ≡ Some q → is_some q.holder ≡ false →
          UpdaterRow (UpdaterVerb.Retire o) (Hold u (at_place x (Retires o RetireStep.Mark)) (queue_of w u))
      ByRetire : (o : ObjectId) (step : RetireStep) → WasAt u x (Retires o step) → UpdaterRow UpdaterVerb.GoOn (retire_on w u x o step)
      ByBarrier : WasAt u x Idle → UpdaterRow UpdaterVerb.Barrier (barrier_row w u x)
      ByNote : (b : Barrier) (q : ℕ) → WasAt u x (Bars b) → b.due ≡ Note q → UpdaterRow UpdaterVerb.GoOn (Bar u (at_place x (Bars (record b { counts = noted_at w b.counts q; due = after_note w q }))) w.barriers Quiet)
      ByCheck : (b : Barrier) (q : ℕ) → WasAt u x (Bars b) → b.due ≡ Check q → nat_le (get_or b.counts q 0) (finished_in (slice_get w.queues q)) ≡ true → nat_lt (q + 1) (length w.queues) ≡ true →
          UpdaterRow UpdaterVerb.GoOn (Bar u (at_place x (Bars (record b { due = Check (q + 1) }))) w.barriers Quiet)
      ByClear : (b : Barrier) (q : ℕ) → WasAt u x (Bars b) → b.due ≡ Check q → nat_le (get_or b.counts q 0) (finished_in (slice_get w.queues q)) ≡ true → nat_lt (q + 1) (length w.queues) ≡ false →
          UpdaterRow UpdaterVerb.GoOn (Bar u (at_place x Idle) w.barriers (one (Event.Clear b.number)))

    abbrev pub UpdaterRows : (UpdaterVerb → Change P → Type 0) → Type 0
    UpdaterRows F = (v : UpdaterVerb) (change : Change P) → UpdaterRow v change → F v change

  module _ (u : ℕ) (x : UpdaterState P) (F : UpdaterVerb → Change P → Type 0) where
    pub any_retires : ((y : UpdaterState P) (q : ℕ) (a : QueueAct) (mark : Option Mark) (answer : Answer) → F UpdaterVerb.GoOn (Change.Retire u y q a mark answer)) → (o : ObjectId) (step : RetireStep) → WasAt u x (Retires o step) → F UpdaterVerb.GoOn (retire_on w u x o step)
    any_retires f o RetireStep.Mark at = f _ _ _ _ _
    any_retires f o _ at = f _ _ _ _ _

    -- what is so of each update, and of the steps of retirements
    pub any_updates : ((v : UpdaterVerb) (change : Change P) → IsUpdate change → F v change) → ((o : ObjectId) (step : RetireStep) → WasAt u x (Retires o step) → F UpdaterVerb.GoOn (retire_on w u x o step)) → UpdaterRows u x F
    any_updates f retires _ _ (BySync step at is goes on) = f _ _ (tells plans w (Holder.Updater u) (w.grace.asks + 1) (Every IsWaiting) tt (tt, tt) (tt, tt) new_core step is)
    any_updates f retires _ _ (ByTurn ask core step at is goes on) = f _ _ (tells plans w (Holder.Updater u) ask (Every IsWaiting) tt (tt, tt) (tt, tt) core step is)
    any_updates f retires _ _ (ByStart cookie at is) = f _ _ (tt, tt)
    any_updates f retires _ _ (ByPoll s at is up) = f _ _ (tt, tt)
    any_updates f retires _ _ (ByRetire o step at) = retires o step at
    any_updates f retires _ _ (ByBarrier at) = f _ _ (tt, tt)
    any_updates f retires _ _ (ByClear b q at is up last) = f _ _ (tt, tt)
    any_updates f retires _ _ _ = f _ _ tt

  -- a step of a worker
  module _ (k : ℕ) (x : WorkerState P) (F : WorkerVerb → Change P → Type 0) where
    pub record WorkerRows : Type 0 where
      pub takes : (q : QueueState) → WorkedAt k x WorkerCore.Idle → slice_get w.queues k ≡ Some q → is_some q.holder ≡ false → is_none_left (items_of q.items) ≡ false →
          F WorkerVerb.Take (Work k (with_core x (after_take x.core (first_fresh q.items) (length q.items.fresh))) w.grace QueueAct.Seal None Quiet)
      pub works : (sync : SyncCore P) (tickets : Tickets) (step : GraceStep P) → WorkedAt k x (WorkerCore.Syncs sync tickets) → grace_row plans w (Holder.Worker k) (ask_for w x.ask sync) sync ≡ Ok step → is_blocked step.answer ≡ false → is_waiting step.answer ≡ false →
          F WorkerVerb.GoOn (work_change k (ask_for w x.ask sync) tickets step)
      pub runs : (tickets : Tickets) (first : Ticket × ObjectId) → WorkedAt k x (WorkerCore.Pops tickets) → first_in (slice_get w.queues k) ≡ Some first →
          F WorkerVerb.GoOn (Work k (with_core x (WorkerCore.Ran tickets first.0 (item_of first.1))) w.grace QueueAct.Pop (Some (record { object = first.1; life = Life.Reclaimed })) (one (Event.Run first.1)))
      pub counts : (tickets : Tickets) (ticket : Ticket) (item : Item Unit) → WorkedAt k x (WorkerCore.Ran tickets ticket item) → F WorkerVerb.GoOn (Work k (with_core x (item_done (WorkerCore.Counts tickets ticket))) w.grace QueueAct.Finish None Quiet)

    pub any_works : ((v : WorkerVerb) (y : WorkerState P) (grace : GraceState) (a : QueueAct) (mark : Option Mark) (answer : Answer) → F v (Work k y grace a mark answer)) → WorkerRows
    any_works f = record {
      takes = λ q at is free some. f _ _ _ _ _ _;
      works = λ sync tickets step at is goes on. f _ _ _ _ _ _;
      runs = λ tickets first at is. f _ _ _ _ _ _;
      counts = λ tickets ticket item at. f _ _ _ _ _ _;
    }

  -- ---- the sweep

  -- what holds of rows: it is carried over their tests, and holds where something is missing, and of what each row makes
  module _ (G : Line → Row (Change P) → Type 0) where
    pub record Sweep : Type 0 where
      pub stops : (line : Line) (fails : Bool) (e : Refusal) (row : Row (Change P)) → IsStepError e → (fails ≡ false → G line row) → G line (after (refused_if fails e ∷ []) row)
      pub stalls : (line : Line) (fails : Bool) (answer : Answer) (row : Row (Change P)) → (IsOfReader line → ⊥) → IsStalled answer → (fails ≡ false → G line row) → G line (after (stalled_if fails answer ∷ []) row)
      pub lacks : (line : Line) (e : Refusal) → IsStepError e → Lack → G line (unreached e)
      pub reads : (r : ℕ) (v : ReaderState) (verb : ReaderVerb) → slice_get w.readers r ≡ Some v → ReaderRows plans.qsbr w.layout w r v (λ step. G (Reader r verb) (makes (Read r step)))
      pub updates : (u : ℕ) (x : UpdaterState P) → slice_get w.updaters u ≡ Some x → UpdaterRows u x (λ v change. G (Updater u v) (makes change))
      pub works : (k : ℕ) (x : WorkerState P) → slice_get w.workers k ≡ Some x → WorkerRows k x (λ v change. G (Worker k v) (makes change))

    module _ (s : Sweep) where
      refuses : (line : Line) (e : Refusal) → IsStepError e → G line (refused e)
      refuses line e h = s.stops line true e (unreached e) h (λ never. absurd (true≢false never))

      turn : (line : Line) → (IsOfReader line → ⊥) → (change : GraceStep P → Change P) (r : Result (GraceStep P) Refusal) → Fails r → ((step : GraceStep P) → r ≡ Ok step → is_blocked step.answer ≡ false → is_waiting step.answer ≡ false → G line (makes (change step))) → G line (sync_row change r)
      turn line never change (Ok step) f h = s.stalls line (is_blocked step.answer) Blocked (guarded (stalled_if (is_waiting step.answer) Wait ∷ []) (Ok (change step))) never tt
          (λ goes. s.stalls line (is_waiting step.answer) Wait (makes (change step)) never tt (λ on. h step refl goes on))
      turn line never change (Err e) f h = refuses line e f

      -- readers
      module _ (r : ℕ) (v : ReaderState) (verb : ReaderVerb) (was : slice_get w.readers r ≡ Some v) where
        abbrev R : Row ReaderStep → Type 0
        R row = G (Reader r verb) (read_by r row)

        rows : ReaderRows plans.qsbr w.layout w r v (λ step. R (makes step))
        rows = s.reads r v verb was

        stopped : (fails : Bool) (e : Refusal) (row : Row ReaderStep) → IsStepError e → (fails ≡ false → R row) → R (after (refused_if fails e ∷ []) row)
        stopped fails e row h go = s.stops (Reader r verb) fails e (read_by r row) h go

        fresh : (row : Row ReaderStep) → (v.copy ≡ None → R row) → R (after (refused_if (is_some v.copy) Busy ∷ []) row)
        fresh row h = stopped (is_some v.copy) Busy row tt (λ free. h (none_is v.copy free))

        memb : (row : Row ReaderStep) → (plans.qsbr ≡ false → R row) → R (of_memb plans.qsbr row)
        memb row h = stopped plans.qsbr WrongFlavour row tt h

        qsbr : (row : Row ReaderStep) → (plans.qsbr ≡ true → R row) → R (of_qsbr plans.qsbr row)
        qsbr row h = stopped (not plans.qsbr) WrongFlavour row tt (λ e. h (not_false e))

        section : (row : Row ReaderStep) → (is_open_in plans.qsbr w.layout v.word ≡ true → R row) → R (in_section plans.qsbr w v row)
        section row h = stopped (not (is_open_in plans.qsbr w.layout v.word)) NotOpen row tt (λ e. h (not_false e))

        which : (b : Bool) (x y : Result ReaderStep Refusal) → (b ≡ true → R (tried x)) → (b ≡ false → R (tried y)) → R (tried (cond b x y))
        which b x y = cond_both b x y (λ (step : Result ReaderStep Refusal). R (tried step))

        which_step : (b : Bool) (x y : ReaderStep) → (b ≡ true → R (makes x)) → (b ≡ false → R (makes y)) → R (makes (cond b x y))
        which_step b x y = cond_both b x y (λ (step : ReaderStep). R (makes step))

        stored : (step : ℕ → ReaderStep) (x : Result ℕ Refusal) → Fails x → ((word : ℕ) → x ≡ Ok word → R (makes (step word))) → R (tried (stores step x))
        stored step (Ok word) f h = h word refl
        stored step (Err e) f h = refuses (Reader r verb) e f

        other_flavour : plans.qsbr ≡ true → plans.qsbr ≡ false → (count_of w.layout v.word == 0) ≡ true
        other_flavour q f = absurd (true≢false (sym q ∙ f))

        on : (copy : Option ℕ) → v.copy ≡ copy → is_some copy ≡ true → R (guarded [] (reader_on plans.qsbr w r v copy))
        on None has some = absurd (true≢false (sym some))
        on (Some copied) has some = by plans.qsbr refl
          where
            enter : plans.qsbr ≡ false → (x : Result ℕ Refusal) → entered_of w.layout v.word (copied == 1) ≡ x → Fails x → R (guarded [] (stores (λ word. telling (Event.Open (section_of r (v.ordinal + 1))) (opened v word)) x))
            enter flavour (Ok word) is f = rows _ (Enters copied word has flavour is)
            enter flavour (Err e) is f = s.lacks (Reader r verb) e f (NoEntry r v copied e was has flavour is)

            by : (b : Bool) → plans.qsbr ≡ b → R (guarded [] (cond b (Ok (cond (is_online v.word) (announce_row copied r v) (go_online_row copied r v))) (enter_row w.layout copied r v)))
            by true flavour = which_step (is_online v.word) (announce_row copied r v) (go_online_row copied r v) (λ online. rows _ (Announces copied has flavour online)) (λ offline. rows _ (GoesOnline copied has flavour offline))
            by false flavour = enter flavour (entered_of w.layout v.word (copied == 1)) refl (enter_fails w.layout v.word (copied == 1))

        sweep_read : (b : ReaderVerb) → R (reader_line plans.qsbr w r v b)
        sweep_read ReaderVerb.Lock = fresh (reader_verb plans.qsbr w r v ReaderVerb.Lock) (λ none. memb (tried (lock_row w.layout w.grace.word v)) (λ flavour.
            which (count_of w.layout v.word == 0) _ _ (λ zero. rows _ (Copies none (λ _. zero)))
            (λ more. stored _ (entered_of w.layout v.word false) (enter_fails w.layout v.word false) (λ word is. rows _ (Nests word none flavour more is)))))
        sweep_read ReaderVerb.Unlock = fresh (reader_verb plans.qsbr w r v ReaderVerb.Unlock) (λ none. memb (tried (unlock_row w.layout r v)) (λ flavour.
            stored _ (left_of w.layout v.word) (whichever (count_of w.layout v.word == 0) _ _ tt tt)
            (λ word is. which_step (count_of w.layout word == 0) _ _ (λ zero. rows _ (Unlocks word none flavour is zero)) (λ more. rows _ (Unnests word none flavour is more)))))
        sweep_read ReaderVerb.Online = fresh (reader_verb plans.qsbr w r v ReaderVerb.Online) (λ none. qsbr (tried (online_row w.grace.word v)) (λ flavour.
            which (is_online v.word) _ _ (λ online. refuses (Reader r verb) Busy tt) (λ offline. rows _ (Copies none (other_flavour flavour)))))
        sweep_read ReaderVerb.Quiescent = fresh (reader_verb plans.qsbr w r v ReaderVerb.Quiescent) (λ none. qsbr (tried (quiescent_row w.grace.word v)) (λ flavour.
            which (is_online v.word) _ _ (λ online. rows _ (Copies none (other_flavour flavour))) (λ offline. refuses (Reader r verb) NotOpen tt)))
        sweep_read ReaderVerb.Offline = fresh (reader_verb plans.qsbr w r v ReaderVerb.Offline) (λ none. qsbr (tried (offline_row r v)) (λ flavour.
            which (is_online v.word) _ _ (λ online. rows _ (Leaves none flavour online)) (λ offline. refuses (Reader r verb) NotOpen tt)))
        sweep_read (ReaderVerb.First c) = fresh (reader_verb plans.qsbr w r v (ReaderVerb.First c)) (λ none. section (first_row r v c (slice_get w.heads c)) (λ open'.
            by_option (λ head. R (first_row r v c head)) (slice_get w.heads c) (λ is. refuses (Reader r verb) NoPlace tt) (λ head is. rows _ (Firsts c head none open' is))))
        sweep_read ReaderVerb.Next = fresh (reader_verb plans.qsbr w r v ReaderVerb.Next) (λ none. section (next_from w r v v.cursor) (λ open'.
            by_option (λ from. R (next_from w r v from)) v.cursor (λ from. refuses (Reader r verb) NoPlace tt)
            (λ o from. by_option (λ x. R (next_row r v o x)) (slice_get w.objects o.0) (λ is. s.lacks (Reader r verb) NoPlace tt (NoNext r v o was from is)) (λ x is. rows _ (Nexts o x none open' from is)))))
        sweep_read ReaderVerb.Touch = fresh (reader_verb plans.qsbr w r v ReaderVerb.Touch) (λ none. section (tried (touch_row r v v.cursor)) (λ open'.
            by_option (λ from. R (tried (touch_row r v from))) v.cursor (λ from. refuses (Reader r verb) NoPlace tt) (λ o from. rows _ (Touches o none open' from))))
        sweep_read ReaderVerb.GoOn = stopped (not (is_some v.copy)) NotOpen (reader_verb plans.qsbr w r v ReaderVerb.GoOn) tt (λ goes. on v.copy refl (not_false goes))

      -- updaters
      module _ (u : ℕ) (x : UpdaterState P) (was : slice_get w.updaters u ≡ Some x) where
        abbrev U : UpdaterVerb → Row (Change P) → Type 0
        U v row = G (Updater u v) row

        rows_of : UpdaterRows u x (λ v change. U v (makes change))
        rows_of = s.updates u x was

        none : IsOfReader (Updater u UpdaterVerb.GoOn) → ⊥
        none h = h

        idle : (v : UpdaterVerb) (row : Row (Change P)) → (WasAt u x Idle → U v row) → U v (after (refused_if (not (is_idle x.place)) Busy ∷ []) row)
        idle v row h = s.stops (Updater u v) (not (is_idle x.place)) Busy row tt (λ goes. h (record { was = was; at = idle_tells x.place (not_false goes) }))

        start : (cookie : Result ℕ Refusal) → WasAt u x Idle → cookie_for w.grace.seq ≡ cookie → Fails cookie → U UpdaterVerb.Start (start_row w u x cookie)
        start (Ok c) at is f = rows_of _ _ (ByStart c at is)
        start (Err e) at is f = refuses (Updater u UpdaterVerb.Start) e f

        publish : (what : Publishing) → WasAt u x (Publishes what) → U UpdaterVerb.GoOn (published w u x what)
        publish (Publishing.Push new) at = by_option (λ y. U UpdaterVerb.GoOn (pushed_row u (record x { place = Idle }) new y)) (slice_get w.objects new.0)
            (λ is. s.lacks (Updater u UpdaterVerb.GoOn) NoPlace tt (NoPushed u x new at is)) (λ y is. rows_of _ _ (ByPushed new y at is))
        publish (Publishing.Replace old new) at = by_option (λ y. U UpdaterVerb.GoOn (replaced_row u (record x { place = Idle }) old new y)) (slice_get w.objects old.0)
            (λ is. s.lacks (Updater u UpdaterVerb.GoOn) NoPlace tt (NoReplaced u x old new at is)) (λ y is. rows_of _ _ (ByReplaced old new y at is))

        barrier : (b : Barrier) (step : BarrierStep) → WasAt u x (Bars b) → b.due ≡ step → U UpdaterVerb.GoOn (barrier_on w u x b step)
        barrier b (Note q) at is = rows_of _ _ (ByNote b q at is)
        barrier b (Check q) at is = s.stalls (Updater u UpdaterVerb.GoOn) (not (nat_le (get_or b.counts q 0) (finished_in (slice_get w.queues q)))) Wait (makes (checked w u x b q)) none tt (λ up.
            cond_both (nat_lt (q + 1) (length w.queues)) _ _ (λ (change : Change P). U UpdaterVerb.GoOn (makes change)) (λ more. rows_of _ _ (ByCheck b q at is (not_false up) more)) (λ last. rows_of _ _ (ByClear b q at is (not_false up) last)))

        go_on : (place : UpdaterPlace P) → WasAt u x place → not (is_idle place) ≡ true → U UpdaterVerb.GoOn (updater_on plans w u x place)
        go_on Idle at busy = absurd (true≢false (sym busy))
        go_on (Publishes what) at busy = publish what at
        go_on (Syncs ask core) at busy = turn (Updater u UpdaterVerb.GoOn) none (grace_change plans u x ask) (grace_row plans w (Holder.Updater u) ask core) (grace_fails plans w (Holder.Updater u) ask core) (λ step is goes on. rows_of _ _ (ByTurn ask core step at is goes on))
        go_on (Retires o step) at busy = rows_of _ _ (ByRetire o step at)
        go_on (Bars b) at busy = barrier b b.due at refl

        sweep_update : (v : UpdaterVerb) → U v (updater_line plans w u x v)
        sweep_update (UpdaterVerb.Push c) = idle (UpdaterVerb.Push c) (updater_verb plans w u x (UpdaterVerb.Push c)) (λ at. by_option (λ head. U (UpdaterVerb.Push c) (push_row w u x c head)) (slice_get w.heads c)
            (λ is. refuses (Updater u (UpdaterVerb.Push c)) NoPlace tt) (λ head is. s.stops (Updater u (UpdaterVerb.Push c)) (not (writes w u c)) NoPlace (makes _) tt (λ mine. rows_of _ _ (ByPush c head at is (not_false mine)))))
        sweep_update (UpdaterVerb.Replace o) = idle (UpdaterVerb.Replace o) (updater_verb plans w u x (UpdaterVerb.Replace o)) (λ at. by_option (λ y. U (UpdaterVerb.Replace o) (replace_row w u x o y)) (linked_by w u (slice_get w.objects o.0))
            (λ is. refuses (Updater u (UpdaterVerb.Replace o)) NoPlace tt) (λ y is. rows_of _ _ (ByReplace o y at is)))
        sweep_update (UpdaterVerb.Cut o) = idle (UpdaterVerb.Cut o) (updater_verb plans w u x (UpdaterVerb.Cut o)) (λ at. by_option (λ y. U (UpdaterVerb.Cut o) (cut_row u x o y)) (linked_by w u (slice_get w.objects o.0))
            (λ is. refuses (Updater u (UpdaterVerb.Cut o)) NoPlace tt) (λ y is. rows_of _ _ (ByCut o y at is)))
        sweep_update (UpdaterVerb.Retire o) = idle (UpdaterVerb.Retire o) (updater_verb plans w u x (UpdaterVerb.Retire o)) (λ at. s.stops (Updater u (UpdaterVerb.Retire o)) (not (may_retire w u (slice_get w.objects o.0))) NoPlace (queue_lock_row w u x o (slice_get w.queues (queue_of w u))) tt
            (λ may. by_option (λ q. U (UpdaterVerb.Retire o) (queue_lock_row w u x o q)) (slice_get w.queues (queue_of w u)) (λ is. s.lacks (Updater u (UpdaterVerb.Retire o)) NoPlace tt (NoQueue u is))
            (λ q is. s.stalls (Updater u (UpdaterVerb.Retire o)) (is_some q.holder) Blocked (makes _) none tt (λ free. rows_of _ _ (ByHold o q at (not_false may) is free)))))
        sweep_update UpdaterVerb.Sync = idle UpdaterVerb.Sync (updater_verb plans w u x UpdaterVerb.Sync) (λ at. turn (Updater u UpdaterVerb.Sync) none (grace_change plans u x (w.grace.asks + 1)) (grace_row plans w (Holder.Updater u) (w.grace.asks + 1) new_core)
            (grace_fails plans w (Holder.Updater u) (w.grace.asks + 1) new_core) (λ step is goes on. rows_of _ _ (BySync step at is goes on)))
        sweep_update UpdaterVerb.Start = idle UpdaterVerb.Start (updater_verb plans w u x UpdaterVerb.Start) (λ at. start (cookie_for w.grace.seq) at refl (cookie_fails w.grace.seq))
        sweep_update UpdaterVerb.Poll = idle UpdaterVerb.Poll (updater_verb plans w u x UpdaterVerb.Poll) (λ at. by_option (λ y. U UpdaterVerb.Poll (poll_row w u x y)) x.started (λ is. refuses (Updater u UpdaterVerb.Poll) NotOpen tt)
            (λ y is. s.stalls (Updater u UpdaterVerb.Poll) (not (nat_le y.cookie w.grace.seq)) Wait (makes _) none tt (λ up. rows_of _ _ (ByPoll y at is (not_false up)))))
        sweep_update UpdaterVerb.Barrier = idle UpdaterVerb.Barrier (updater_verb plans w u x UpdaterVerb.Barrier) (λ at. rows_of _ _ (ByBarrier at))
        sweep_update UpdaterVerb.GoOn = s.stops (Updater u UpdaterVerb.GoOn) (not (not (is_idle x.place))) NotOpen (updater_verb plans w u x UpdaterVerb.GoOn) tt (λ goes. go_on x.place (record { was = was; at = refl }) (not_false goes))

      -- workers
      module _ (k : ℕ) (x : WorkerState P) (was : slice_get w.workers k ≡ Some x) where
        abbrev W : WorkerVerb → Row (Change P) → Type 0
        W v row = G (Worker k v) row

        rows_for : WorkerRows k x (λ v change. W v (makes change))
        rows_for = s.works k x was

        no_reader : IsOfReader (Worker k WorkerVerb.GoOn) → ⊥
        no_reader h = h

        work_on : (place : WorkerCore P Unit) → WorkedAt k x place → not (is_resting place) ≡ true → W WorkerVerb.GoOn (worker_on plans w k x place)
        work_on WorkerCore.Idle at busy = absurd (true≢false (sym busy))
        work_on (WorkerCore.Syncs sync tickets) at busy = turn (Worker k WorkerVerb.GoOn) no_reader (work_change k (ask_for w x.ask sync) tickets) (grace_row plans w (Holder.Worker k) (ask_for w x.ask sync) sync)
            (grace_fails plans w (Holder.Worker k) (ask_for w x.ask sync) sync) (λ step is goes on. rows_for.works sync tickets step at is goes on)
        work_on (WorkerCore.Pops tickets) at busy = by_option (λ first. W WorkerVerb.GoOn (run_row w k x tickets first)) (first_in (slice_get w.queues k))
            (λ is. s.lacks (Worker k WorkerVerb.GoOn) NotOpen tt (NoneReady k x tickets at is)) (λ first is. rows_for.runs tickets first at is)
        work_on (WorkerCore.Runs tickets ticket item) at busy = s.lacks (Worker k WorkerVerb.GoOn) NotOpen tt (NotRun k x tickets ticket item at)
        work_on (WorkerCore.Ran tickets ticket item) at busy = rows_for.counts tickets ticket item at
        work_on (WorkerCore.Counts tickets ticket) at busy = s.lacks (Worker k WorkerVerb.GoOn) NotOpen tt (NotCounted k x tickets ticket at)

        sweep_work : (v : WorkerVerb) → W v (worker_line plans w k x v)
        sweep_work WorkerVerb.Take = s.stops (Worker k WorkerVerb.Take) (not (is_resting x.core)) Busy (worker_verb plans w k x WorkerVerb.Take) tt (λ rests. by_option (λ q. W WorkerVerb.Take (take_row w k x q)) (slice_get w.queues k)
            (λ is. s.lacks (Worker k WorkerVerb.Take) NoActor tt (NoBatch k x was is))
            (λ q is. s.stalls (Worker k WorkerVerb.Take) (is_some q.holder) Blocked (guarded (stalled_if (is_none_left (items_of q.items)) Answer.Idle ∷ []) (Ok _)) no_reader tt
            (λ free. s.stalls (Worker k WorkerVerb.Take) (is_none_left (items_of q.items)) Answer.Idle (makes _) no_reader tt (λ some. rows_for.takes q (record { was = was; at = rest_tells x.core (not_false rests) }) is free some))))
        sweep_work WorkerVerb.GoOn = s.stops (Worker k WorkerVerb.GoOn) (not (not (is_resting x.core))) NotOpen (worker_verb plans w k x WorkerVerb.GoOn) tt (λ goes. work_on x.core (record { was = was; at = refl }) (not_false goes))

      pub sweep : (line : Line) → G line (row_of plans w line)
      sweep (Reader r verb) = by_option (λ v. G (Reader r verb) (of_reader plans.qsbr w r verb v)) (slice_get w.readers r) (λ is. refuses (Reader r verb) NoActor tt) (λ v is. sweep_read r v verb is verb)
      sweep (Updater u v) = by_option (λ x. G (Updater u v) (of_updater plans w u v x)) (slice_get w.updaters u) (λ is. refuses (Updater u v) NoActor tt) (λ x is. sweep_update u x is v)
      sweep (Worker k v) = by_option (λ x. G (Worker k v) (of_worker plans w k v x)) (slice_get w.workers k) (λ is. refuses (Worker k v) NoActor tt) (λ x is. sweep_work k x is v)

  -- ---- laws of changes

  module _ (F : Line → Change P → Type 0) where
    -- what holds of the change that comes of a line, if one does
    abbrev pub Each : Line → Result (Change P) Refusal → Type 0
    Each line (Ok change) = F line change
    Each line (Err e) = Unit {0}

    pub record Law : Type 0 where
      pub stays : (line : Line) (answer : Answer) → (IsOfReader line → ⊥) → IsStalled answer → F line (Stay answer)
      pub reads : (r : ℕ) (v : ReaderState) (verb : ReaderVerb) → slice_get w.readers r ≡ Some v → ReaderRows plans.qsbr w.layout w r v (λ step. F (Reader r verb) (Read r step))
      pub updates : (u : ℕ) (x : UpdaterState P) → slice_get w.updaters u ≡ Some x → UpdaterRows u x (λ v change. F (Updater u v) change)
      pub works : (k : ℕ) (x : WorkerState P) → slice_get w.workers k ≡ Some x → WorkerRows k x (λ v change. F (Worker k v) change)

    passes : (line : Line) (fails : Bool) (x y : Result (Change P) Refusal) → Each line x → (fails ≡ false → Each line y) → Each line (cond fails x y)
    passes line true x y stop go = stop
    passes line false x y stop go = go refl

    pub by_law : Law → (line : Line) → Each line (change_of plans w line)
    by_law law line = sweep (λ l row. Each l (made row)) (record {
      stops = λ l fails e row h go. passes l fails (Err e) (made row) tt go;
      stalls = λ l fails answer row never none go. passes l fails (Ok (Stay answer)) (made row) (law.stays l answer never none) go;
      lacks = λ l e h lack. tt;
      reads = law.reads;
      updates = law.updates;
      works = law.works;
    }) line

-- what holds of refusals, and of what each change makes, holds of what comes of a line
pub by_change : {P : Type 0} (plans : Plans P) (w : BoardView P) (F : Line → Change P → Type 0) (Q : Result (Change P) Refusal → Type 0) → Law plans w F → (line : Line) → ((e : Refusal) → Q (Err e)) → ((change : Change P) → F line change → Q (Ok change)) → Q (change_of plans w line)
by_change plans w F Q law line refused makes = (elim (change_of plans w line) as (λ x. Each plans w F line x → Q x) [ Ok change ↦ makes change | Err e ↦ λ _. refused e ]) (by_law plans w F law line)

-- what each change keeps, all lines keep
module _ {P : Type 0} (plans : Plans P) (I : BoardView P → Type 0) (F : BoardView P → Line → Change P → Type 0) (keeps : (w : BoardView P) (line : Line) (change : Change P) → F w line change → I w → I (changed w change)) where
  pub over_line : (w : BoardView P) → Law plans w (F w) → (line : Line) → I w → I ((outcome_of plans w line).world)
  over_line w law line i = by_change plans w (F w) (λ x. I ((with_change w x).world)) law line (λ e. i) (λ change f. keeps w line change f i)

  pub over_lines : ((w : BoardView P) → Law plans w (F w)) → (w : BoardView P) (lines : List Line) → I w → I (world_after plans w lines)
  over_lines law w [] i = i
  over_lines law w (line ∷ lines) i = over_lines law ((outcome_of plans w line).world) lines (over_line w (law w) line i)

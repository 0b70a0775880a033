-- In each world that lines lead to, nothing is missing that a row looks up, and a step that is made leaves another world.
use Rattle.world.proofs.Cited.{◌≡◌, ◌+◌, ◌<◌, ◌==◌, ℕ, not, Bool, true, false, List, [], ◌∷◌, length, get_or, slice_get, Some, None, Ok, Err, refl, sym, ap, ◌∙◌, subst, arith, cond-true, slice_get-get_or, get_or_from_slice_get, none-some, ObjectId, State, start, after_all, Layout, count_of, fresh, Action, Finished, after_loads, turn_at, Item, object_with, SyncCore, WorkerCore, turned, told_of, Line, Reader, Updater, Worker, UpdaterVerb, WorkerVerb, Fresh, Linked, QueueState, ReaderState, Holder, Publishing, UpdaterPlace, Publishes, Syncs, UpdaterState, WorkerState, empty_queue_state, is_open_in, Plans, BoardView, idle, PlaceKept, no_object, within, synced, zero, ◌≢◌, ◌≤◌, ◌%◌, ◌^◌, true≢false, cond, nat_lt, ◌++◌, slice_set, Result, IfOk, lt-ltb, Refusal, FinishesAfter, each_turn, turn_count, Ticket, Tickets, new_core, rest_of, after_take, Change, Config, Answer, BarrierStep, Note, Check, RetireStep, Idle, Retires, Bars, is_within_limits, changed, told, fresh_at, suc, get_or-set_same, Event, length-append, slice_get_within, steps, answer_of, Read, went_on, after_snoc, entered_of-nests, eqb-false, left_of-nests, Turn, action_effect, lock_effect, plan_now, stepped, done_with, grace_row, is_waiting, sync_place, is_blocked, queue_of, retire_on, exact, StepsBy, IsTested, first_in, worker_on, worked, ask_for, is_resting, is_none_left, first_fresh, work_change, GraceStep, one, IsStalled, IsPrompt}
use Rattle.world.specs.Lines.{operation_test, synced as synced_row, is_idle, updater_on, updater_verb, updates_on, worker_verb, works_on, of_updater, of_worker, row_of, grace_change, with_change, outcome_of, world_after}
use Rattle.world.specs.Row.{after, first_failing, Row, made}
use Rattle.world.proofs.Asking.{is_present}
use Rattle.world.proofs.Callbacks.{its_work, own_queue, its_queue}
use Rattle.world.proofs.Fence.{Laws, Running}
use Rattle.world.proofs.Rows.{unplanned, Begins, GoesOn, TurnRow, TakesTurn, effect, next, Asking, Blocking, Standing, Locking, Needing, Going, Freeing, Resting, Ending, turn_of, WasAt, Lack, NoNext, NoEntry, NoQueue, NoPushed, NoReplaced, NoBatch, NoneReady, NotRun, NotCounted, not_false, ReaderRows, UpdaterRows, WorkerRows, Sweep, sweep, Copies, Nests, Unnests, ByPush, ByReplace, BySync, ByTurn, ByHold, ByRetire, ByNote, ByCheck, by_option}
use Rattle.world.proofs.KeptReaders.{there as reader_there}
use Rattle.world.proofs.Logged.{Logged, logged}
use Rattle.world.proofs.State.{Asker, Syncing, Working, UpdaterKept, core_work, place_work, work_of, stands_at, works_at}
use Rattle.world.proofs.WorkerSteps.{all_fresh, some_left}

-- the same turns, by layouts that differ at most in the quiescent-state flavour
same_turns : (qsbr : Bool) (one other : Layout) (number word : ℕ) (action : Action) → (qsbr ≡ false → one ≡ other) → turn_at qsbr one number action word ≡ turn_at qsbr other number action word
same_turns false one other number word action same = ap (λ l. turn_at false l number action word) (same refl)
same_turns true one other number word Finished same = refl
same_turns true one other number word _ same = refl

module _ {P : Type 0} (plans : Plans P) (layout : Layout) (slots : ℕ) (laws : Laws plans layout slots) where
  -- what a plan's scans go by
  pub record ScansExactly : Type 0 where
    pub layout_of : P → Layout
    pub exact : (p : P) (word : ℕ) → plans.turn p word ≡ turn_at plans.qsbr (layout_of p) (laws.present p) (plans.action p) word
    pub begins_layout : (seq word : ℕ) (p : P) → laws.begun seq word p → plans.qsbr ≡ false → layout_of p ≡ layout
    pub keeps_layout : (p : P) (word : ℕ) → layout_of (plans.taken p word) ≡ layout_of p

  module _ (w : BoardView P) (l : Logged plans layout slots laws w) where
    abbrev now : State
    now = after_all start w.log

    object_there : (o : ObjectId) → o.0 < length w.objects → slice_get w.objects o.0 ≡ None → ⊥
    object_there o inside none = none-some (get_or w.objects o.0 no_object) (sym none ∙ slice_get-get_or w.objects o.0 no_object inside)

    queue_there : (q : ℕ) → q < length w.queues → slice_get w.queues q ≡ None → ⊥
    queue_there q inside none = none-some (get_or w.queues q empty_queue_state) (sym none ∙ slice_get-get_or w.queues q empty_queue_state inside)

    -- a reader that is to enter has no section, so its nesting count is not full
    closed : (r : ℕ) (v : ReaderState) (copied : ℕ) → slice_get w.readers r ≡ Some v → v.copy ≡ Some copied → plans.qsbr ≡ false → (count_of w.layout v.word == 0) ≡ true
    closed r v copied was has memb =
        let t = reader_there l.kept r v was in
        not_false (ap (λ b. is_open_in b w.layout v.word) (sym memb) ∙ ap (λ k. is_open_in plans.qsbr k v.word) l.kept.shape.laid ∙ (t.mine.copying copied has).0 memb)

    place_now : (u : ℕ) (x : UpdaterState P) (what : Publishing) → WasAt plans w u x (Publishes what) → PlaceKept w.heads w.objects (length w.updaters) u what
    place_now u x what at = subst (λ (p : UpdaterPlace P). UpdaterKept w.heads w.objects (length w.updaters) u p) (stands_at w.updaters u x at.was at.at) (l.kept.places_kept u)

    -- nothing is missing: a worker that pops has a ready item, and rests neither before it runs an item nor before it counts it
    pub nothing_lacks : Lack plans w → ⊥
    nothing_lacks (NoNext r v o was from none) = object_there o (within w.objects o ((reader_there l.kept r v was).mine.holds o from).2) none
    nothing_lacks (NoEntry r v copied e was has memb full) = let same : Ok (fresh w.layout (copied == 1)) ≡ Err e = sym (cond-true (count_of w.layout v.word == 0) _ _ (closed r v copied was has memb)) ∙ full in cc
    nothing_lacks (NoQueue u none) = queue_there (queue_of w u) (own_queue u l.callbacks.sizes) none
    nothing_lacks (NoPushed u x new at none) = object_there new (place_now u x (Publishing.Push new) at).0.1 none
    nothing_lacks (NoReplaced u x old new at none) = object_there old (within w.objects old (λ f. let linked = (place_now u x (Publishing.Replace old new) at).2 in let e : Linked ≡ Fresh = sym linked ∙ f in cc)) none
    nothing_lacks (NoBatch k x was none) = queue_there k (its_queue k x l.callbacks.sizes was) none
    nothing_lacks (NoneReady k x tickets at none) = by mine.items.ready (its_work w now l.callbacks k x at.was at.at).1 (sym (ap first_in (slice_get-get_or w.queues k empty_queue_state (its_queue k x l.callbacks.sizes at.was))) ∙ none)
      where
        mine : QueueState
        mine = get_or w.queues k empty_queue_state

        by : (ready : List (Item Unit)) → tickets.left ≡ length ready → object_with (mine.items.gone + 1) ready ≡ None → ⊥
        by [] all e = let some = (its_work w now l.callbacks k x at.was at.at).2 in omega (arith, all, some)
        by (item ∷ ready) all e = let clash = sym e in cc
    nothing_lacks (NotRun k x tickets ticket item at) = its_work w now l.callbacks k x at.was at.at
    nothing_lacks (NotCounted k x tickets ticket at) = its_work w now l.callbacks k x at.was at.at

    -- ---- scans

    module _ (scans : ScansExactly) where
      turn_is : (p : P) → laws.present p ≡ w.grace.word → (plans.qsbr ≡ false → scans.layout_of p ≡ layout) → (word : ℕ) → plans.turn p word ≡ turn_at plans.qsbr w.layout w.grace.word (plans.action p) word
      turn_is p shows laid word =
          scans.exact p word
          ∙ ap (λ n. turn_at plans.qsbr (scans.layout_of p) n (plans.action p) word) shows
          ∙ same_turns plans.qsbr (scans.layout_of p) w.layout w.grace.word word (plans.action p) (λ memb. laid memb ∙ sym l.kept.shape.laid)

      layout_after : (p : P) (loads : List ℕ) → scans.layout_of (after_loads plans.taken p loads) ≡ scans.layout_of p
      layout_after p [] = refl
      layout_after p (load ∷ loads) = layout_after (plans.taken p load) loads ∙ scans.keeps_layout p load

      begun_now : laws.begun w.grace.seq w.grace.word (plan_now plans w)
      begun_now = subst (laws.begun w.grace.seq w.grace.word) (ap (λ (k : Layout). plans.made k slots w.grace.seq w.grace.word) (sym l.kept.shape.laid) ∙ ap (λ (n : ℕ). plans.made w.layout n w.grace.seq w.grace.word) (sym l.kept.shape.sized)) (laws.all.made w.grace.seq w.grace.word)

      -- whose grace period stands here takes the same step by exact plans
      exact_grace : (y : Asker) (at : ℕ) (me : Holder) (ask : ℕ) (sync : SyncCore P) → work_of w.updaters w.workers y ≡ core_work at sync → grace_row plans w me ask sync ≡ grace_row (exact plans w) w me ask sync
      exact_grace y at me ask (SyncCore.Waits c) is =
          elim w.grace.holder as (λ held. done_with plans w ask (SyncCore.Waits c) (lock_effect w me held) ≡ done_with (exact plans w) w ask (SyncCore.Waits c) (lock_effect w me held)) [ None ↦ refl | Some other ↦ refl ]
      exact_grace y at me ask (SyncCore.Starts c) is =
          let q = plan_now plans w in
          let e = action_effect w (plans.action q) in
          ap (λ t. stepped e.grace ask (turned plans.action c q (plans.taken q e.loaded) t))
          (turn_is q (laws.all.keeps.begins w.grace.seq w.grace.word q begun_now (is_present l.kept)) (scans.begins_layout w.grace.seq w.grace.word q begun_now) e.loaded)
      exact_grace y at me ask (SyncCore.Runs c p) is =
          let e = action_effect w (plans.action p) in
          let run : Running plans layout slots laws w.grace.seq w.grace.word c p = l.kept.part.grace_kept.running y at c p is in
          ap (λ z. stepped e.grace ask (told_of plans.action plans.turn plans.taken z e.loaded)) (unplanned c p e.plan)
          ∙ ap (λ t. stepped e.grace ask (turned plans.action c p (plans.taken p e.loaded) t))
          (turn_is p run.present (λ memb. ap scans.layout_of run.is ∙ layout_after run.plan (run.load ∷ run.loads) ∙ scans.begins_layout run.from run.word run.plan run.begun memb) e.loaded)
          ∙ sym (ap (λ z. stepped e.grace ask (told_of plans.action (exact plans w).turn plans.taken z e.loaded)) (unplanned c p e.plan))
      exact_grace y at me ask _ is = refl

      exact_place : (u : ℕ) (x : UpdaterState P) → slice_get w.updaters u ≡ Some x → (place : UpdaterPlace P) → x.place ≡ place → updater_on plans w u x place ≡ updater_on (exact plans w) w u x place
      exact_place u x there (Syncs ask sync) is =
          ap (synced_row plans u x ask)
          (exact_grace (Syncing u) ask (Holder.Updater u) ask sync (ap place_work (stands_at w.updaters u x there is)))
      exact_place u x there _ is = refl

      exact_update : (u : ℕ) (x : UpdaterState P) → slice_get w.updaters u ≡ Some x → (v : UpdaterVerb) → updater_verb plans w u x v ≡ updater_verb (exact plans w) w u x v
      exact_update u x there UpdaterVerb.GoOn = exact_place u x there x.place refl
      exact_update u x there _ = refl

      exact_core : (k : ℕ) (x : WorkerState P) → slice_get w.workers k ≡ Some x → (place : WorkerCore P Unit) → x.core ≡ place → worker_on plans w k x place ≡ worker_on (exact plans w) w k x place
      exact_core k x there (WorkerCore.Syncs sync tickets) is =
          ap (worked k (ask_for w x.ask sync) tickets)
          (exact_grace (Working k) x.ask (Holder.Worker k) (ask_for w x.ask sync) sync (works_at w.workers k x there is))
      exact_core k x there _ is = refl

      exact_work : (k : ℕ) (x : WorkerState P) → slice_get w.workers k ≡ Some x → (v : WorkerVerb) → worker_verb plans w k x v ≡ worker_verb (exact plans w) w k x v
      exact_work k x there WorkerVerb.Take = refl
      exact_work k x there WorkerVerb.GoOn = exact_core k x there x.core refl

      pub exact_row : (line : Line) → row_of plans w line ≡ row_of (exact plans w) w line
      exact_row (Reader r v) = refl
      exact_row (Updater u v) = by_option (λ x. of_updater plans w u v x ≡ of_updater (exact plans w) w u v x) (slice_get w.updaters u) (λ is. refl) (λ x is. ap (after (operation_test (updates_on v) (not (is_idle x.place)) ∷ [])) (exact_update u x is v))
      exact_row (Worker k v) = by_option (λ x. of_worker plans w k v x ≡ of_worker (exact plans w) w k v x) (slice_get w.workers k) (λ is. refl) (λ x is. ap (after (operation_test (works_on v) (not (is_resting x.core)) ∷ [])) (exact_work k x is v))

-- ---- a step that is made leaves another world: it tells an event, makes an object, or moves whoever made it. Where a test
-- fails, the world stays.

-- a list with more behind it is another one
longer : {T : Type 0} (xs : List T) (y : T) (ys : List T) → xs ++ y ∷ ys ≢ xs
longer xs y ys e = let n : length xs + suc (length ys) ≡ length xs = sym (length-append xs (y ∷ ys)) ∙ ap length e in omega (arith, n)

-- an entry that is set where the list stays is the old one
set_same : {T : Type 0} (xs : List T) (i : ℕ) (x y : T) → slice_get xs i ≡ Some x → slice_set xs i y ≡ xs → y ≡ x
set_same {T} xs i x y there e = sym (get_or-set_same xs i y x (slice_get_within xs i x there)) ∙ ap (λ (zs : List T). get_or zs i x) e ∙ get_or_from_slice_get xs i x x there

-- the next step of a barrier is another one
abbrev due_in : {P : Type 0} → UpdaterPlace P → BarrierStep
due_in (Bars b) = b.due
due_in place = Note 0

after_noting : (q : ℕ) (more : Bool) → cond more (Note (q + 1)) (Check 0) ≢ Note q
after_noting q true e = let n : q + 1 ≡ q = cc in omega (arith, n)
after_noting q false e = cc

-- a worker that takes a batch rests no more
abbrev begun : {P : Type 0} → Tickets → Bool → WorkerCore P Unit
begun t some = cond some (WorkerCore.Syncs new_core t) WorkerCore.Idle

begins : {P : Type 0} (t : Tickets) (some : Bool) → some ≡ true → begun {P = P} t some ≢ WorkerCore.Idle
begins t true is e = cc
begins t false is e = absurd (true≢false (sym is))

-- nor is one that has run an item still at it
counts : {P : Type 0} (tickets : Tickets) (ticket : Ticket) (item : Item Unit) (more : Bool) → cond more (let pops : WorkerCore P Unit = WorkerCore.Pops (rest_of tickets) in pops) WorkerCore.Idle ≢ WorkerCore.Ran tickets ticket item
counts tickets ticket item true e = cc
counts tickets ticket item false e = cc

-- ---- grace periods

module _ {P : Type 0} (plans : Plans P) (plan : P) (count : ℕ) (finishes : FinishesAfter plans.action plans.turn plans.taken each_turn plan count) where
  steps_snoc : (p : P) (xs : List ℕ) (x : ℕ) → plans.turn (after_loads plans.taken p xs) x ≡ Turn.Step → steps plans.action plans.turn plans.taken each_turn p (xs ++ x ∷ []) ≡ steps plans.action plans.turn plans.taken each_turn p xs + 1
  steps_snoc p [] x e = rw e refl
  steps_snoc p (y ∷ ys) x e = ap (λ n. went_on (plans.turn p y) + n) (steps_snoc (plans.taken p y) ys x e) ∙ omega arith

  -- while a turn goes on and leaves the plan as it was, such turns are counted without end
  without_end : (loads : List ℕ) (word : ℕ) → plans.turn (after_loads plans.taken plan loads) word ≡ Turn.Step → plans.taken (after_loads plans.taken plan loads) word ≡ after_loads plans.taken plan loads →
      (n : ℕ) → (more : List ℕ) × (after_loads plans.taken plan more ≡ after_loads plans.taken plan loads) × (n ≤ steps plans.action plans.turn plans.taken each_turn plan more)
  without_end loads word goes same zero = (loads, refl, omega arith)
  without_end loads word goes same (suc n) =
      let r = without_end loads word goes same n in (
        r.0 ++ word ∷ [],
        after_snoc plans.taken plan r.0 word ∙ ap (λ p. plans.taken p word) r.1 ∙ same,
        let low = r.2 in
            let more = steps_snoc plan r.0 word (ap (λ p. plans.turn p word) r.1 ∙ goes) in omega (arith, low, more),
      )

  turn_moves : (loads : List ℕ) (word : ℕ) → plans.action (after_loads plans.taken plan loads) ≢ Finished → plans.turn (after_loads plans.taken plan loads) word ≡ Turn.Step →
      plans.taken (after_loads plans.taken plan loads) word ≢ after_loads plans.taken plan loads
  turn_moves loads word unfinished goes same = let r = without_end loads word goes same count in unfinished (ap plans.action (sym r.1) ∙ (finishes r.0).1 r.2)

-- a turn of a running grace period that goes on leaves another plan
running_moves : {P : Type 0} (plans : Plans P) (layout : Layout) (slots : ℕ) (laws : Laws plans layout slots) →
    ((seq word : ℕ) → FinishesAfter plans.action plans.turn plans.taken each_turn (plans.made layout slots seq word) (turn_count plans.qsbr slots)) →
    (seq number c : ℕ) (p : P) → Running plans layout slots laws seq number c p → (word : ℕ) → plans.turn p word ≡ Turn.Step → plans.taken p word ≢ p
running_moves plans layout slots laws finishes seq number c p run word goes same =
    turn_moves plans run.plan (turn_count plans.qsbr slots)
    (subst (λ q. FinishesAfter plans.action plans.turn plans.taken each_turn q (turn_count plans.qsbr slots)) (sym run.made) (finishes run.from run.word))
    (run.load ∷ run.loads) word (λ f. run.goes_on (ap plans.action run.is ∙ f)) (ap (λ q. plans.turn q word) (sym run.is) ∙ goes)
    (ap (λ q. plans.taken q word) (sym run.is) ∙ same ∙ run.is)

module _ {P : Type 0} (plans : Plans P) where
  -- whoever waits stands at another place, unless its grace period was over
  place_moves : (ask : ℕ) (one sync : SyncCore P) → (one ≡ sync → sync ≡ SyncCore.Done) → sync_place plans ask one ≢ Syncs ask sync
  place_moves ask SyncCore.Done sync h = λ e. let no : Idle ≡ Syncs ask sync = e in cc
  place_moves ask one sync h = λ e. let same : one ≡ sync = cc in let done : one ≡ SyncCore.Done = same ∙ h same in cc

  abbrev batch : Tickets → SyncCore P → WorkerCore P Unit
  batch t sync = WorkerCore.Syncs sync t

  core_moves : (t : Tickets) (one sync : SyncCore P) → (one ≡ sync → sync ≡ SyncCore.Done) → synced one t ≢ batch t sync
  core_moves t SyncCore.Done sync h = λ e. let no : WorkerCore.Pops t ≡ batch t sync = e in cc
  core_moves t one sync h = λ e. let same : one ≡ sync = cc in let done : one ≡ SyncCore.Done = same ∙ h same in cc

-- ---- the rows

module _ {P : Type 0} (plans : Plans P) (layout : Layout) (slots : ℕ) (laws : Laws plans layout slots) (w : BoardView P) (l : Logged plans layout slots laws w)
    (finishes : (seq word : ℕ) → FinishesAfter plans.action plans.turn plans.taken each_turn (plans.made layout slots seq word) (turn_count plans.qsbr slots)) where
  -- a change is made, and leaves another world
  abbrev Moved : Change P → Type 0
  Moved change = IsPrompt (answer_of change) × (changed w change ≢ w)

  told_more : (v : BoardView P) (e : Event) (es : List Event) → v ≡ w → v.log ≡ w.log ++ e ∷ es → ⊥
  told_more v e es same is = longer w.log e es (sym is ∙ ap (λ (x : BoardView P). x.log) same)

  moves_read : (r : ℕ) (v : ReaderState) → slice_get w.readers r ≡ Some v → ReaderRows plans.qsbr w.layout w r v (λ step. Moved (Read r step))
  moves_read r v was = by
    where
      stays : (x : ReaderState) → slice_set w.readers r x ≡ w.readers → x ≡ v
      stays x = set_same w.readers r v x was

      by : ReaderRows plans.qsbr w.layout w r v (λ step. Moved (Read r step))
      by _ (Copies none idle) = (tt, λ same. let e : Some w.grace.word ≡ None = ap (λ (x : ReaderState). x.copy) (stays _ (ap (λ (z : BoardView P). z.readers) same)) ∙ none in cc)
      by _ (Nests word none flavour more is) = (
        tt,
        λ same.
            let e = ap (λ (x : ReaderState). count_of w.layout x.word) (stays _ (ap (λ (z : BoardView P). z.readers) same)) in
            omega (arith, e, (entered_of-nests w.layout v.word false word (eqb-false (count_of w.layout v.word) 0 more) is).count),
      )
      by _ (Unnests word none flavour is more) = (
        tt,
        λ same.
            let e = ap (λ (x : ReaderState). count_of w.layout x.word) (stays _ (ap (λ (z : BoardView P). z.readers) same)) in
            omega (arith, e, (left_of-nests w.layout v.word word is).count),
      )
      by _ _ = (tt, λ same. told_more _ _ _ same refl)

  -- a plan that runs leaves another one behind its turn
  going : (y : Asker) (at : ℕ) (from : SyncCore P) (c : ℕ) (p : P) → TakesTurn plans w from c p → work_of w.updaters w.workers y ≡ core_work at from → plans.turn p (effect plans w p).loaded ≡ Turn.Step → SyncCore.Runs c (next plans w p) ≡ from → from ≡ SyncCore.Done
  going y at _ _ _ (Begins c) is goes e = absurd (let no : SyncCore.Runs c (next plans w (plan_now plans w)) ≡ SyncCore.Starts c = e in cc)
  going y at _ _ _ (GoesOn c p) is goes e = let same : next plans w p ≡ p = cc in absurd (running_moves plans layout slots laws finishes w.grace.seq w.grace.word c p (l.kept.part.grace_kept.running y at c p is) (effect plans w p).loaded goes same)

  -- a step of a grace period tells an event, or leaves another core
  moves_turn : (change : GraceStep P → Change P) → ((step : GraceStep P) → (changed w (change step)).log ≡ w.log ++ told step.answer) → (y : Asker) (at : ℕ) (me : Holder) (ask : ℕ) (sync : SyncCore P) →
      work_of w.updaters w.workers y ≡ core_work at sync → ((step : GraceStep P) → (step.core ≡ sync → sync ≡ SyncCore.Done) → changed w (change step) ≢ w) →
      (step : GraceStep P) → TurnRow plans w me ask sync (Ok step) → is_blocked step.answer ≡ false → is_waiting step.answer ≡ false → IsPrompt step.answer × (changed w (change step) ≢ w)
  moves_turn change logs y at me ask _ is moves _ (Blocking c other held) goes on = absurd (true≢false goes)
  moves_turn change logs y at me ask _ is moves _ (Standing from c p takes) goes on = absurd (true≢false on)
  moves_turn change logs y at me ask _ is moves _ (Locking c free) goes on = (tt, moves _ (λ e. let no : SyncCore.Checks c ≡ SyncCore.Waits c = e in cc))
  moves_turn change logs y at me ask _ is moves _ (Needing c low) goes on = (tt, moves _ (λ e. let no : SyncCore.Starts c ≡ SyncCore.Checks c = e in cc))
  moves_turn change logs y at me ask _ is moves _ (Going from c p takes turn more) goes on = (tt, moves _ (going y at from c p takes is turn))
  moves_turn change logs y at me ask _ is moves _ Freeing goes on = (tt, moves _ (λ e. let no : SyncCore.Done ≡ SyncCore.Frees = e in cc))
  moves_turn change logs y at me ask _ is moves _ Resting goes on = (tt, moves _ (λ _. refl))
  moves_turn change logs y at me ask _ is moves _ _ goes on = (tt, λ same. told_more _ _ _ same (logs _))

  module _ (u : ℕ) (x : UpdaterState P) (was : slice_get w.updaters u ≡ Some x) where
    -- where the world stays, the updater is where it was
    stays : (v : BoardView P) (y : UpdaterState P) → v ≡ w → v.updaters ≡ slice_set w.updaters u y → y.place ≡ x.place
    stays v y same is = ap (λ (z : UpdaterState P). z.place) (set_same w.updaters u x y was (sym is ∙ ap (λ (v : BoardView P). v.updaters) same))

    moves_retire : (o : ObjectId) (step : RetireStep) → x.place ≡ Retires o step → Moved (retire_on w u x o step)
    moves_retire o RetireStep.Mark is = (tt, λ same. told_more _ _ _ same refl)
    moves_retire o RetireStep.Count is = (tt, λ same. let e : Retires o RetireStep.Push ≡ Retires o RetireStep.Count = stays _ _ same refl ∙ is in cc)
    moves_retire o RetireStep.Push is = (tt, λ same. told_more _ _ _ same refl)
    moves_retire o RetireStep.Free is = (tt, λ same. let e : Idle ≡ Retires o RetireStep.Free = stays _ _ same refl ∙ is in cc)

    -- the first step of `sync` tells its ask
    moves_ask : (ask : ℕ) (step : GraceStep P) → TurnRow plans w (Holder.Updater u) ask SyncCore.Asks (Ok step) → Moved (grace_change plans u x ask step)
    moves_ask ask _ (Asking c is) = (tt, λ same. told_more _ _ _ same refl)
    moves_ask ask _ (Standing _ c p takes) = elim takes [ ]
    moves_ask ask _ (Ending _ c p takes done) = elim takes [ ]
    moves_ask ask _ (Going _ c p takes turn more) = elim takes [ ]

    moves_update : UpdaterRows plans w u x (λ v. Moved)
    moves_update _ _ (ByPush c head at is mine) = (tt, λ same. longer w.objects _ [] (ap (λ (v : BoardView P). v.objects) same))
    moves_update _ _ (ByReplace o y at is) = (tt, λ same. longer w.objects _ [] (ap (λ (v : BoardView P). v.objects) same))
    moves_update _ _ (BySync step at is goes on) = moves_ask (w.grace.asks + 1) step (turn_of plans w (Holder.Updater u) (w.grace.asks + 1) SyncCore.Asks step is)
    moves_update _ _ (ByTurn ask sync step at is goes on) = moves_turn (grace_change plans u x ask) (λ step. refl) (Syncing u) ask (Holder.Updater u) ask sync (ap place_work (stands_at w.updaters u x was at.at))
        (λ step h same. place_moves plans ask step.core sync h (stays _ _ same refl ∙ at.at)) step (turn_of plans w (Holder.Updater u) ask sync step is) goes on
    moves_update _ _ (ByHold o q at may is free) = (tt, λ same. let e : Retires o RetireStep.Mark ≡ Idle = stays _ _ same refl ∙ at.at in cc)
    moves_update _ _ (ByRetire o step at) = moves_retire o step at.at
    moves_update _ _ (ByNote b q at is) = (tt, λ same. after_noting q (nat_lt (q + 1) (length w.queues)) (ap due_in (stays _ _ same refl ∙ at.at) ∙ is))
    moves_update _ _ (ByCheck b q at is up more) = (tt, λ same. let e : Check (q + 1) ≡ Check q = ap due_in (stays _ _ same refl ∙ at.at) ∙ is in let n : q + 1 ≡ q = cc in omega (arith, n))
    moves_update _ _ _ = (tt, λ same. told_more _ _ _ same refl)

  moves_work : (k : ℕ) (x : WorkerState P) → slice_get w.workers k ≡ Some x → WorkerRows plans w k x (λ v. Moved)
  moves_work k x was = record {
    takes = λ q at is free some.
        let none = rw (get_or_from_slice_get w.queues k q empty_queue_state is) at (its_work w (after_all start w.log) l.callbacks k x at.was at.at) in
        let left = some_left q.items.fresh (ap is_none_left (sym (all_fresh q.items none.0 none.1)) ∙ some) in
        (tt, λ same. begins _ _ (lt-ltb 0 (length q.items.fresh) left) (subst (λ (c : WorkerCore P Unit). after_take c (first_fresh q.items) (length q.items.fresh) ≡ c) at.at (stays _ _ same refl)));
    works = λ sync tickets step at is goes on. moves_turn (work_change k (ask_for w x.ask sync) tickets) (λ step. refl) (Working k) x.ask (Holder.Worker k) (ask_for w x.ask sync) sync
        (works_at w.workers k x was at.at)
        (λ step h same. core_moves plans tickets step.core sync h (stays _ _ same refl ∙ at.at)) step (turn_of plans w (Holder.Worker k) (ask_for w x.ask sync) sync step is) goes on;
    runs = λ tickets first at is. (tt, λ same. told_more _ _ _ same refl);
    counts = λ tickets ticket item at. (tt, λ same. counts tickets ticket item (nat_lt 1 tickets.left) (stays _ _ same refl ∙ at.at));
  }
    where
      stays : (v : BoardView P) (y : WorkerState P) → v ≡ w → v.workers ≡ slice_set w.workers k y → y.core ≡ x.core
      stays v y same is = ap (λ (z : WorkerState P). z.core) (set_same w.workers k x y was (sym is ∙ ap (λ (v : BoardView P). v.workers) same))

  -- the first test that fails is the answer, and else the step is made
  abbrev Steps : Line → Row (Change P) → Type 0
  Steps line row = StepsBy (first_failing row.tests) w (with_change w (made row))

  decides : (line : Line) (fails : Bool) (answer : Result Answer Refusal) (row : Row (Change P)) → IfOk answer IsStalled → (fails ≡ false → Steps line row) → Steps line (after (record { fails = fails; answer = answer } ∷ []) row)
  decides line true (Ok answer) row h go = (refl, refl, h)
  decides line true (Err e) row h go = (refl, refl, h)
  decides line false answer row h go = go refl

  steps_by_row : Sweep plans w Steps
  steps_by_row = record {
    stops = λ line fails e row h go. decides line fails (Err e) row tt go;
    stalls = λ line fails answer row never stalled go. decides line fails (Ok answer) row stalled go;
    lacks = λ line e h lack. absurd (nothing_lacks plans layout slots laws w l lack);
    reads = λ r v verb was. moves_read r v was;
    updates = moves_update;
    works = moves_work;
  }

  is_tested : ScansExactly plans layout slots laws → (line : Line) → IsTested plans w line
  is_tested scans line = subst (λ (row : Row (Change P)). StepsBy (first_failing row.tests) w (outcome_of plans w line)) (exact_row plans layout slots laws w l scans line) (sweep plans w Steps steps_by_row line)

module _ {P : Type 0} (plans : Plans P) (laws : (layout : Layout) (slots : ℕ) → Laws plans layout slots)
    (scans : (layout : Layout) (slots : ℕ) → ScansExactly plans layout slots (laws layout slots))
    (finishes : (layout : Layout) (slots seq word : ℕ) → FinishesAfter plans.action plans.turn plans.taken each_turn (plans.made layout slots seq word) (turn_count plans.qsbr slots)) where
  pub all_tested : (config : Config) (seq : ℕ) (lines : List Line) (line : Line) → is_within_limits config ≡ true → seq % 2 ≡ 0 → seq ≤ 2 ^ 62 →
      IsTested plans (world_after plans (fresh_at config seq) lines) line
  all_tested config seq lines line limits even low =
      is_tested plans config.layout config.readers (laws config.layout config.readers) (world_after plans (fresh_at config seq) lines)
      (logged plans laws config seq limits even low lines) (finishes config.layout config.readers) (scans config.layout config.readers) line

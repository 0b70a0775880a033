-- What the lines of workers keep, and that what they tell may come.
use Rattle.world.proofs.Cited.{AwaitsOpen, synced, nil_from_length, ◌≡◌, ◌≢◌, ◌⊎◌, ⊎_elim, ℕ, true≢false, inl, inr, ◌+◌, ◌%◌, ◌<◌, ◌≤◌, ltb, false, List, [], ◌∷◌, ◌++◌, length, slice_get, slice_set, Option, Some, None, Result, Ok, refl, sym, ap, ◌∙◌, subst, arith, length-set, lt-ltb, ltb-true, ltb-false, cond-true, cond_both, none-some, same_Some, slice_get_within, slice_get-get_or, get_or_from_slice_get, Event, ObjectId, SectionId, Refusal, without_object, State, In, has_object_in, in_objects, without_object_has, decide, Layout, Item, Ticket, items_of, given_of, sealed, popped, without_first, object_with, SyncCore, Tickets, WorkerCore, new_core, after_take, tickets_from, rest_of, item_done, Quiet, Life, Mark, ObjectState, QueueAct, QueueState, WorkerState, Change, marked_life, new_worker, empty_queue_state, item_of, acted, changed_at, acted_at, Plans, BoardView, chain_of, life_of, life_within, life_marked, life_else, Items, Has, Stands, InQueue, queue_at, stands_above, changed_here, changed_else, changed_length, items_sealed, cond, le-leb, after as next_state, empty_from, at_number_same, is_due, after_advance, GraceState, has_either, items_advanced, changed, IsAllowed, after_all, AreAllowed, told, leb-true, Holder, one, first_fresh, with_core, is_none_left, first_in, ask_for, work_change, worker_act, GraceStep, is_blocked, is_waiting, grace_row}
use Rattle.callback_queue.specs.Queue.{Queue}
use Rattle.world.proofs.Fence.{Work, Rests, Laws, Checks, Sets}
use Rattle.world.proofs.State.{Asker, Working, core_work, worker_work, worker_at, work_of, updater_at, Kept, at_workers}
use Rattle.world.proofs.KeptReaders.{longer}
use Rattle.world.proofs.Callbacks.{its_work, its_queue, Found, RetireKept, ItemsKept, lives_as, QueueKept, BatchWaits, BatchKept, WorkAt, CallbacksKept, Callbacks, at_queues, queue_more, items_kept, sizes_over, numbers_over, over_event, found_over, retire_marked, retire_through, bar_over, stays, items_stay, OwesAll}
use Rattle.world.proofs.KeptPublishing.{kept_worker, kept_work, worker_set}
use Rattle.world.proofs.Retirements.{more_reclaimed, lives_marked}
use Rattle.world.proofs.Asking.{begun_goes, StepKept, IsDue, reached_none, kept_turn, asks_alone, ends}
use Rattle.world.proofs.Rows.{Finding, TurnRow, Asking, Blocking, Standing, Locking, turn_of, Needing, Going, Begins, GoesOn, Ending, Freeing, Resting, effect}

-- where nothing is ready and nothing waits, all items are fresh
pub all_fresh : (i : Queue (Item Unit)) → i.ready ≡ [] → i.waiting ≡ [] → items_of i ≡ i.fresh
all_fresh i none_ready none_waiting = ap (λ (l : Items). l ++ i.waiting ++ i.fresh) none_ready ∙ ap (λ (l : Items). l ++ i.fresh) none_waiting

pub some_left : (l : Items) → is_none_left l ≡ false → 1 ≤ length l
some_left [] e = absurd (true≢false e)
some_left (i ∷ l) e = omega arith

-- a step of a worker that leaves items and objects where they are
module _ {P : Type 0} (w : BoardView P) (now : State) (k : Callbacks w now) (n : ℕ) (inside : n < length w.workers) where
  abbrev qs : List QueueState
  qs = w.queues

  abbrev q : QueueState
  q = queue_at qs n

  here : n < length qs
  here = subst (λ m. n < m) k.sizes.manned inside

  module _ (f : QueueState → QueueState) where
    abbrev after : List QueueState
    after = changed_at f qs n (slice_get qs n)

    -- a step that changes the queue of the worker, and stores a header or none
    pub work_step : {logged : ℕ} (x' : WorkerState P) (mark : Option Mark) (reclaimed : List ObjectId) (noted_objects : ℕ → List ObjectId) → length w.log ≤ logged → ItemsKept (marked_life w.objects mark) after now.retired now.queued reclaimed →
        QueueKept (f q) logged now.awaited → ((v : ℕ) → RetireKept (marked_life w.objects mark) after (length w.updaters) v (updater_at w.updaters v).place) → WorkAt (f q) now.asked now.awaited now.asked_sections x' →
        ((b : ℕ) (o : ObjectId) → In (noted_objects b) o → In (now.noted_objects b) o × ((i s : ℕ) → InQueue (queue_at qs i) s o → InQueue (queue_at after i) s o)) →
        CallbacksKept (marked_life w.objects mark) after w.updaters (slice_set w.workers n x') w.barriers logged (record now { reclaimed = reclaimed; noted_objects = noted_objects })
    work_step {logged = logged} x' mark reclaimed noted_objects more items queue retiring works stay = assumption (
      sizes_over (changed_length f qs n) (length-set w.workers n x') k.sizes,
      at_queues (λ i r. QueueKept r logged now.awaited) f qs n here queue (λ i apart. queue_more more (k.queues i)),
      at_workers (λ i y. WorkAt (queue_at after i) now.asked now.awaited now.asked_sections y) w.workers n x' inside
          (subst (λ (r : QueueState). WorkAt r now.asked now.awaited now.asked_sections x') (sym (changed_here f qs n here)) works)
          (λ i apart. subst (λ (r : QueueState). WorkAt r now.asked now.awaited now.asked_sections (worker_at w.workers i)) (sym (changed_else f qs n i apart)) (k.working i)),
      λ (v : ℕ). bar_over qs after now.noted now.cleared now.noted_objects noted_objects (updater_at w.updaters v).place (changed_length f qs n) stay (k.barring v),
      numbers_over more k.numbers,
    )

    -- one that leaves items and objects where they are
    pub quiet_step : {logged : ℕ} (x' : WorkerState P) → length w.log ≤ logged → (f q).items.gone ≡ q.items.gone → items_of (f q).items ≡ items_of q.items → QueueKept (f q) logged now.awaited →
        (f q).holder ≡ q.holder → (f q).items.reserved ≡ q.items.reserved → (f q).queued ≡ q.queued → WorkAt (f q) now.asked now.awaited now.asked_sections x' →
        CallbacksKept w.objects after w.updaters (slice_set w.workers n x') w.barriers logged now
    quiet_step x' more gone items queue lock place count works =
        let given : given_of (f q).items ≡ given_of q.items = ap (λ m. m + length (items_of (f q).items)) gone ∙ ap (λ (l : Items). q.items.gone + length l) items in
        work_step x' None now.reclaimed now.noted_objects more (items_stay qs n f here gone items k.items) queue
        (λ v. retire_through qs n f here w.objects (length w.updaters) v (updater_at w.updaters v).place lock place count given (k.retiring v)) works (λ b o h. (h, λ i s. stays qs n f here gone items i s o))

-- the first ready item is popped
module _ (qs : List QueueState) (n : ℕ) (i : Item Unit) (rest : Items) (at : n < length qs) (ready : (queue_at qs n).items.ready ≡ i ∷ rest) where
  abbrev z : Queue (Item Unit)
  z = (queue_at qs n).items

  abbrev o : ObjectId
  o = i.object

  abbrev qs' : List QueueState
  qs' = changed_at (acted QueueAct.Pop) qs n (slice_get qs n)

  abbrev tail : Items
  tail = rest ++ z.waiting ++ z.fresh

  -- the queue without it, field by field
  popped_is : {X : Type 0} (g : Queue (Item Unit) → X) → g (popped z) ≡ g (without_first z (i ∷ rest))
  popped_is g = ap (λ (l : Items). g (without_first z l)) ready

  items_are : items_of z ≡ i ∷ tail
  items_are = ap (λ (l : Items). l ++ z.waiting ++ z.fresh) ready

  given_popped : given_of (popped z) ≡ given_of z
  given_popped = popped_is given_of ∙ (let l : z.gone + 1 + length tail ≡ z.gone + length (i ∷ tail) = omega arith in l) ∙ ap (λ (l : Items). z.gone + length l) (sym items_are)

  first : InQueue (queue_at qs n) (z.gone + 1) o
  first = subst (λ (l : Items). Stands z.gone l (z.gone + 1) o) (sym items_are) (inl (refl, refl))

  stays_behind : (j t : ℕ) (p : ObjectId) → p ≢ o → InQueue (queue_at qs j) t p → InQueue (queue_at qs' j) t p
  stays_behind j t p apart = at_queues (λ j y. InQueue (queue_at qs j) t p → InQueue y t p) (acted QueueAct.Pop) qs n at
      (λ h. ⊎_elim
      (λ (y : (z.gone + 1 ≡ t) × (o ≡ p)). absurd (apart (sym y.1)))
      (λ (s : Stands (z.gone + 1) tail t p). subst (λ (l : Items). Stands (without_first z l).gone (items_of (without_first z l)) t p) (sym ready) s)
      (subst (λ (l : Items). Stands z.gone l t p) items_are h)) (λ j other h. h) j

  -- and run
  module _ (os : List ObjectState) (r d c : List ObjectId) (k : ItemsKept os qs r d c) where
    was_queued : life_of os o ≡ Life.Queued
    was_queued = k.there n (z.gone + 1) o first

    items_run : ItemsKept (marked_life os (Some (record { object = o; life = Life.Reclaimed }))) qs' r d (o ∷ c)
    items_run = record {
      lives = lives_marked os m r d c r d (o ∷ c) inside_o (let mine = lives_as k o was_queued in (mine.0, mine.1, inl refl)) (λ p. more_reclaimed (life_of os p) o p r d c) k.lives;
      found = λ p e. found p (decide p o) e;
      there = λ j t p h. life_else os m p (not_it j t p h) ∙ k.there j t p (old j t p h);
      one_place = λ a b s t p g h. k.one_place a b s t p (old a s p g) (old b t p h);
    }
      where
        m : Mark
        m = record { object = o; life = Life.Reclaimed }

        inside_o : o.0 < length os
        inside_o = life_within os o (λ e. cc (sym e ∙ was_queued))

        -- what stands in a queue stood there, behind the first
        behind : (t : ℕ) (p : ObjectId) → InQueue (acted QueueAct.Pop (queue_at qs n)) t p → Stands (z.gone + 1) tail t p
        behind t p h = subst (λ (l : Items). Stands (without_first z l).gone (items_of (without_first z l)) t p) ready h

        old : (j t : ℕ) (p : ObjectId) → InQueue (queue_at qs' j) t p → InQueue (queue_at qs j) t p
        old j t p = at_queues (λ j y. InQueue y t p → InQueue (queue_at qs j) t p) (acted QueueAct.Pop) qs n at
            (λ h. subst (λ (l : Items). Stands z.gone l t p) (sym items_are) (inr (behind t p h))) (λ j apart h. h) j

        not_it : (j t : ℕ) (p : ObjectId) → InQueue (queue_at qs' j) t p → p ≢ o
        not_it j t p h e = at_queues (λ j y. InQueue y t p → InQueue (queue_at qs j) t p → ⊥) (acted QueueAct.Pop) qs n at
            (λ g was. let same = (k.one_place n n t (z.gone + 1) p was (subst (InQueue (queue_at qs n) (z.gone + 1)) (sym e) first)).1 in
            let above = stands_above (z.gone + 1) tail t p (behind t p g) in omega (arith, same, above))
            (λ j apart g was. apart (k.one_place j n t (z.gone + 1) p was (subst (InQueue (queue_at qs n) (z.gone + 1)) (sym e) first)).0) j h (old j t p h)

        found : (p : ObjectId) → (p ≡ o) ⊎ (p ≢ o) → life_of (marked_life os (Some m)) p ≡ Life.Queued → Found qs' p
        found p (inl e) is = cc (sym (life_marked os m inside_o) ∙ ap (life_of (marked_life os (Some m))) (sym e) ∙ is)
        found p (inr apart) is = found_over qs qs' p (changed_length (acted QueueAct.Pop) qs n) (λ j t. stays_behind j t p apart) (k.found p (sym (life_else os m p apart) ∙ is))

module _ {P : Type 0} {plans : Plans P} {layout : Layout} {slots : ℕ} {laws : Laws plans layout slots} {w : BoardView P} {now : State} (kept : Kept plans layout slots laws w now) (k : Callbacks w now)
    (n : ℕ) (x : WorkerState P) (at : slice_get w.workers n ≡ Some x) where
  abbrev queues : List QueueState
  queues = w.queues

  abbrev mine : QueueState
  mine = queue_at queues n

  abbrev Owed : Result (Change P) Refusal → Type 0
  Owed r = OwesAll kept k r

  abbrev works : Asker → Work P
  works = work_of w.updaters w.workers

  pub inside : n < length w.workers
  inside = slice_get_within w.workers n x at

  is : worker_at w.workers n ≡ x
  is = get_or_from_slice_get w.workers n x new_worker at

  at_queue : slice_get queues n ≡ Some mine
  at_queue = slice_get-get_or queues n empty_queue_state (its_queue n x k.sizes at)

  pub work_is : works (Working n) ≡ worker_work x.ask x.core
  work_is = ap (λ (y : WorkerState P). worker_work y.ask y.core) is

  pub more_kept : (es : List Event) → QueueKept mine (length (w.log ++ es)) now.awaited
  more_kept es = queue_more (longer w.log es) (k.queues n)

  -- a step without grace periods that tells nothing
  still : (x' : WorkerState P) (a : QueueAct) → worker_work x.ask x.core ≡ Rests → worker_work x'.ask x'.core ≡ Rests →
      CallbacksKept w.objects (acted_at queues n a) w.updaters (slice_set w.workers n x') w.barriers (length (w.log ++ [])) now →
      Owed (Ok (Change.Work n x' w.grace a None Quiet))
  still x' a was rests callbacks = (
    tt,
    kept_worker kept n x' (acted_at queues n a) None (w.log ++ []) inside (longer w.log []) (work_is ∙ was) rests,
    callbacks,
  )

  -- `take`
  module _ (idle : x.core ≡ WorkerCore.Idle) where
    empty : (mine.items.ready ≡ []) × (mine.items.waiting ≡ []) × (mine.finished ≡ mine.items.gone)
    empty = its_work w now k n x at idle

    abbrev all : Tickets
    all = tickets_from (first_fresh mine.items) (length mine.items.fresh)

    takes : 1 ≤ length mine.items.fresh → Owed (Ok (Change.Work n (with_core x (WorkerCore.Syncs new_core all)) w.grace QueueAct.Seal None Quiet))
    takes some =
        let x' : WorkerState P = with_core x (WorkerCore.Syncs new_core all) in
        let given : given_of (sealed mine.items) ≡ given_of mine.items = ap (λ (l : Items). mine.items.gone + length l) (items_sealed mine.items empty.0 empty.1) in
        still x' QueueAct.Seal (ap (worker_work x.ask) idle) refl
        (quiet_step w now k n inside (acted QueueAct.Seal) x' (longer w.log []) refl (items_sealed mine.items empty.0 empty.1)
        (items_kept mine (sealed mine.items) (length (w.log ++ [])) now.awaited (more_kept []) refl given (k.queues n).ready_free)
        refl refl refl ((empty.0, refl, some), empty.2, let count = ap (λ (l : Items). length l) (all_fresh mine.items empty.0 empty.1) in omega (arith, count, some)))

    after_take_is : (first : Ticket) (m : ℕ) → 1 ≤ m → after_take x.core first m ≡ WorkerCore.Syncs new_core (tickets_from first m)
    after_take_is first m some = ap (λ (p : WorkerCore P Unit). after_take p first m) idle ∙ cond-true (ltb 0 m) (WorkerCore.Syncs new_core (tickets_from first m)) WorkerCore.Idle (lt-ltb 0 m (omega (arith, some)))

    pub owes_take : (q : QueueState) → slice_get queues n ≡ Some q → is_none_left (items_of q.items) ≡ false → Owed (Ok (Change.Work n (with_core x (after_take x.core (first_fresh q.items) (length q.items.fresh))) w.grace QueueAct.Seal None Quiet))
    owes_take q at_q left = subst Takes (get_or_from_slice_get queues n q empty_queue_state at_q) (λ e.
        let some : 1 ≤ length mine.items.fresh = subst (λ (l : Items). 1 ≤ length l) (all_fresh mine.items empty.0 empty.1) (some_left (items_of mine.items) e) in
        subst (λ (p : WorkerCore P Unit). Owed (Ok (Change.Work n (with_core x p) w.grace QueueAct.Seal None Quiet))) (sym (after_take_is (first_fresh mine.items) (length mine.items.fresh) some)) (takes some)) left
      where
        Takes : QueueState → Type 0
        Takes r = is_none_left (items_of r.items) ≡ false → Owed (Ok (Change.Work n (with_core x (after_take x.core (first_fresh r.items) (length r.items.fresh))) w.grace QueueAct.Seal None Quiet))

  -- an item is run
  module _ (tickets : Tickets) (pops : x.core ≡ WorkerCore.Pops tickets) where
    popping : (mine.items.waiting ≡ []) × (tickets.left ≡ length mine.items.ready) × (1 ≤ tickets.left) × (mine.finished ≡ mine.items.gone) × (tickets.last.0 ≡ mine.items.gone + tickets.left)
    popping = its_work w now k n x at pops

    abbrev Runs : Ticket × ObjectId → Type 0
    Runs first = Owed (Ok (Change.Work n (with_core x (WorkerCore.Ran tickets first.0 (item_of first.1))) w.grace QueueAct.Pop (Some (record { object = first.1; life = Life.Reclaimed })) (one (Event.Run first.1))))

    runs : (i : Item Unit) (rest : Items) → mine.items.ready ≡ i ∷ rest → Runs (record { 0 = mine.items.gone + 1 }, i.object)
    runs i rest ready =
        let m : Mark = record { object = o; life = Life.Reclaimed } in
        let x' : WorkerState P = with_core x (WorkerCore.Ran tickets (record { 0 = mine.items.gone + 1 }) (item_of o)) in
        let life_is = lives_as k.items o queued in (
          ((has_object_in now.queued o life_is.1, (λ h. life_is.2 (in_objects now.reclaimed o h)), (k.queues n).ready_free o (subst (λ (l : Items). Has l o) (sym ready) (inl refl))), tt),
          assumption (kept_worker kept n x' (acted_at queues n QueueAct.Pop) (Some m) (w.log ++ Event.Run o ∷ []) inside (longer w.log (Event.Run o ∷ [])) (work_is ∙ ap (worker_work x.ask) pops) refl),
          work_step w now k n inside (acted QueueAct.Pop) x' (Some m) (o ∷ now.reclaimed) (λ b. without_object o (now.noted_objects b)) (longer w.log (Event.Run o ∷ []))
              (items_run queues n i rest here_q ready w.objects now.retired now.queued now.reclaimed k.items)
              (items_kept mine (popped mine.items) (length (w.log ++ Event.Run o ∷ [])) now.awaited (more_kept (Event.Run o ∷ [])) (popped_is queues n i rest here_q ready (λ (r : Queue (Item Unit)). r.closed)) given
              (λ p h. (k.queues n).ready_free p (subst (λ (l : Items). Has l p) (sym ready) (inr (subst (λ (l : Items). Has (without_first mine.items l).ready p) ready h)))))
              (λ v. retire_marked w.objects m (acted_at queues n QueueAct.Pop) (length w.updaters) v (updater_at w.updaters v).place other (retire_through queues n (acted QueueAct.Pop) here_q w.objects (length w.updaters) v (updater_at w.updaters v).place
              refl (popped_is queues n i rest here_q ready (λ (r : Queue (Item Unit)). r.reserved)) refl given (k.retiring v)))
              (subst (λ (l : Items). WorkAt (record mine { items = without_first mine.items l }) now.asked now.awaited now.asked_sections x') (sym ready)
              (popping.0, omega (arith, ap length ready, popping), omega (arith, popping), omega (arith, popping)))
              (λ b p h. let had = without_object_has o (now.noted_objects b) p h in (had.0, λ j s. stays_behind queues n i rest here_q ready j s p had.1)),
        )
      where
        o : ObjectId
        o = i.object

        here_q : n < length queues
        here_q = its_queue n x k.sizes at

        queued : life_of w.objects o ≡ Life.Queued
        queued = was_queued queues n i rest here_q ready w.objects now.retired now.queued now.reclaimed k.items

        given : given_of (popped mine.items) ≡ given_of mine.items
        given = given_popped queues n i rest here_q ready

        other : {v : ℕ} (p : ObjectId) → (life_of w.objects p ≡ Life.Kept) ⊎ (life_of w.objects p ≡ Life.Retired) → chain_of w.objects p % length w.updaters ≡ v → p ≢ o
        other p (inl l) home e = cc (sym l ∙ ap (life_of w.objects) e ∙ queued)
        other p (inr l) home e = cc (sym l ∙ ap (life_of w.objects) e ∙ queued)

    pub owes_run : (first : Ticket × ObjectId) → first_in (slice_get queues n) ≡ Some first → Runs first
    owes_run first found = by mine.items.ready refl (sym (ap first_in at_queue) ∙ found)
      where
        by : (l : Items) → mine.items.ready ≡ l → object_with (mine.items.gone + 1) l ≡ Some first → Runs first
        by [] e f = absurd (none-some first f)
        by (i ∷ rest) e f = subst Runs (same_Some _ first f) (runs i rest e)

  -- and counted
  pub owes_count : (tickets : Tickets) (ticket : Ticket) (item : Item Unit) → x.core ≡ WorkerCore.Ran tickets ticket item → Owed (Ok (Change.Work n (with_core x (item_done (WorkerCore.Counts tickets ticket))) w.grace QueueAct.Finish None Quiet))
  owes_count tickets ticket item ran = cond_both (ltb 1 tickets.left) (WorkerCore.Pops (rest_of tickets)) WorkerCore.Idle (λ (p : WorkerCore P Unit). Owed (Ok (Change.Work n (with_core x p) w.grace QueueAct.Finish None Quiet)))
      (λ e. let some = ltb-true 1 tickets.left e in counts (WorkerCore.Pops (rest_of tickets)) refl (batch.0, omega (arith, batch), omega (arith, some), batch.2, omega (arith, batch, some)))
      (λ e. counts WorkerCore.Idle refl (nil_from_length mine.items.ready (omega (arith, batch, ltb-false 1 tickets.left e)), batch.0, batch.2))
    where
      batch : (mine.items.waiting ≡ []) × (tickets.left ≡ length mine.items.ready + 1) × (mine.finished + 1 ≡ mine.items.gone) × (tickets.last.0 + 1 ≡ mine.items.gone + tickets.left)
      batch = its_work w now k n x at ran

      counts : (p : WorkerCore P Unit) → worker_work x.ask p ≡ Rests → WorkAt (acted QueueAct.Finish mine) now.asked now.awaited now.asked_sections (with_core x p) → Owed (Ok (Change.Work n (with_core x p) w.grace QueueAct.Finish None Quiet))
      counts p rests works' = still (with_core x p) QueueAct.Finish (ap (worker_work x.ask) ran) rests
          (quiet_step w now k n inside (acted QueueAct.Finish) (with_core x p) (longer w.log []) refl refl
          (assumption (more_kept [])) refl refl refl works')

  -- its batch, where its grace period stands there
  abbrev BatchAt : Tickets → SyncCore P → Type 0
  BatchAt tickets place = BatchKept mine.items.ready mine.items.waiting mine.items.cookie now.asked now.awaited now.asked_sections x.ask tickets.left place × (mine.finished ≡ mine.items.gone) × (tickets.last.0 ≡ mine.items.gone + tickets.left)

  -- what is kept of callbacks behind a step of it
  abbrev Calls : ℕ → Tickets → GraceStep P → Type 0
  Calls ask tickets step = Callbacks (changed w (work_change n ask tickets step)) (after_all now (told step.answer))

  -- nothing is told, and the queue stays
  stays_calls : (ask : ℕ) (p : WorkerCore P Unit) → WorkAt mine now.asked now.awaited now.asked_sections (record { ask = ask; core = p }) →
      CallbacksKept w.objects (acted_at queues n QueueAct.Leave) w.updaters (slice_set w.workers n (record { ask = ask; core = p })) w.barriers (length (w.log ++ [])) now
  stays_calls ask p works' = quiet_step w now k n inside (acted QueueAct.Leave) (record { ask = ask; core = p }) (longer w.log []) refl refl (more_kept []) refl refl refl works'

  -- an ask is told, and its cookie noted
  asked_calls : (ask c : ℕ) (tickets : Tickets) (grace : GraceState) → AwaitsOpen now → IsAllowed now (Event.Ask ask) → BatchAt tickets SyncCore.Asks → Calls ask tickets (record { core = SyncCore.Waits c; grace = grace; answer = one (Event.Ask ask) })
  asked_calls ask c tickets grace opens allowed batch =
      let q : QueueKept mine (length (w.log ++ Event.Ask ask ∷ [])) now.awaited = more_kept (Event.Ask ask ∷ []) in
      quiet_step w (next_state now (Event.Ask ask)) (over_event w now k (Event.Ask ask) tt allowed) n inside (acted (QueueAct.Note c)) (record { ask = ask; core = WorkerCore.Syncs (SyncCore.Waits c) tickets }) (longer w.log (Event.Ask ask ∷ [])) refl refl
      (assumption q) refl refl refl (
        record {
          none_ready = batch.0.0;
          count = batch.0.1;
          some = batch.0.2;
          is_noted = refl;
          was_asked = inl refl;
          covered = λ o h t g. subst (λ (l : List SectionId). In l t) (sym (at_number_same ask now.sections now.asked_sections)) (opens o t g);
        },
        batch.1,
        batch.2,
      )

  -- an answer is told, and the batch is ready
  answered_calls : (c : ℕ) (tickets : Tickets) (grace : GraceState) → IsAllowed now (Event.Answer x.ask) → BatchAt tickets (SyncCore.Waits c) → c ≤ grace.seq → now.asked_sections x.ask ≡ [] → Calls x.ask tickets (record { core = SyncCore.Frees; grace = grace; answer = one (Event.Answer x.ask) })
  answered_calls c tickets grace allowed batch up none =
      let given : given_of (after_advance mine.items grace.seq) ≡ given_of mine.items = ap (λ m. m + length (items_of (after_advance mine.items grace.seq))) (field (λ r. r.gone)) ∙ ap (λ (l : Items). mine.items.gone + length l) (items_advanced mine.items grace.seq) in
      let ready_is : (after_advance mine.items grace.seq).ready ≡ mine.items.waiting = field (λ r. r.ready) ∙ ap (λ (l : Items). l ++ mine.items.waiting) b.none_ready in
      quiet_step w (next_state now (Event.Answer x.ask)) (over_event w now k (Event.Answer x.ask) tt allowed) n inside
      (acted (QueueAct.Advance grace.seq)) (record { ask = x.ask; core = WorkerCore.Syncs SyncCore.Frees tickets }) (longer w.log (Event.Answer x.ask ∷ []))
      (field (λ r. r.gone)) (items_advanced mine.items grace.seq)
      (items_kept mine (after_advance mine.items grace.seq) (length (w.log ++ Event.Answer x.ask ∷ [])) now.awaited q (field (λ r. r.closed)) given (λ o h. free o (subst (λ (l : Items). Has l o) (field (λ r. r.ready)) h)))
      refl (field (λ r. r.reserved)) refl
      ((field (λ r. r.waiting), b.count ∙ ap (λ (l : Items). length l) (sym ready_is), b.some), subst (λ m. mine.finished ≡ m) (sym (field (λ r. r.gone))) batch.1, subst (λ m. tickets.last.0 ≡ m + tickets.left) (sym (field (λ r. r.gone))) batch.2)
    where
      b : BatchWaits mine.items.ready mine.items.waiting mine.items.cookie now.asked now.awaited now.asked_sections x.ask tickets.left c
      b = batch.0

      q : QueueKept mine (length (w.log ++ Event.Answer x.ask ∷ [])) now.awaited
      q = more_kept (Event.Answer x.ask ∷ [])

      ripe : Queue (Item Unit)
      ripe = record mine.items { ready = mine.items.ready ++ mine.items.waiting; waiting = []; cookie = None }

      field : {X : Type 0} (g : Queue (Item Unit) → X) → g (after_advance mine.items grace.seq) ≡ g ripe
      field g = ap g (ap (λ y. cond y ripe mine.items) (ap (λ (o : Option ℕ). is_due o grace.seq) b.is_noted ∙ (le-leb c grace.seq up)))

      free : (o : ObjectId) → Has (mine.items.ready ++ mine.items.waiting) o → now.awaited o ≡ []
      free o h = ⊎_elim
          (λ (l : Has mine.items.ready o). q.ready_free o l)
          (λ (r : Has mine.items.waiting o). empty_from (now.awaited o) (λ t g. subst (λ (l : List SectionId). In l t) none (b.covered o r t g)))
          (has_either mine.items.ready mine.items.waiting o h)

  calls : (place : SyncCore P) (step : GraceStep P) (tickets : Tickets) → AwaitsOpen now → TurnRow plans w (Holder.Worker n) (ask_for w x.ask place) place (Ok step) → works (Working n) ≡ core_work (ask_for w x.ask place) place → BatchAt tickets place →
      AreAllowed now (told step.answer) → is_blocked step.answer ≡ false → is_waiting step.answer ≡ false → Calls (ask_for w x.ask place) tickets step
  calls _ _ tickets opens (Asking c fits) does batch allowed goes on = asked_calls (w.grace.asks + 1) c tickets (record w.grace { asks = w.grace.asks + 1 }) opens allowed.0 batch
  calls _ _ tickets opens (Blocking c other held) does batch allowed goes on = absurd (true≢false goes)
  calls _ _ tickets opens (Standing from c p at') does batch allowed goes on = absurd (true≢false on)
  calls _ _ tickets opens (Locking c free) does batch allowed goes on = stays_calls x.ask (WorkerCore.Syncs (SyncCore.Checks c) tickets) batch
  calls _ _ tickets opens (Finding c up) does batch allowed goes on =
      let reached = leb-true c w.grace.seq up in answered_calls c tickets w.grace allowed.0 batch reached (reached_none kept (Working n) (Checks x.ask c) x.ask c does (refl, refl) reached)
  calls _ _ tickets opens (Needing c low) does batch allowed goes on = stays_calls x.ask (WorkerCore.Syncs (SyncCore.Starts c) tickets) batch
  calls _ _ tickets opens (Going _ _ _ (Begins c) turn more) does batch allowed goes on = stays_calls x.ask (WorkerCore.Syncs (SyncCore.Runs c _) tickets) batch
  calls _ _ tickets opens (Going _ _ _ (GoesOn c p) turn more) does batch allowed goes on = stays_calls x.ask (WorkerCore.Syncs (SyncCore.Runs c _) tickets) batch
  calls _ _ tickets opens (Ending _ _ _ (Begins c) done) does batch allowed goes on = absurd (begun_goes kept (Holder.Worker n) x.ask c does _ done)
  calls _ _ tickets opens (Ending _ _ _ (GoesOn c p) done) does batch allowed goes on =
      let e = ends kept (Holder.Worker n) x.ask c p does done in answered_calls c tickets (effect plans w p).grace allowed.0 batch e.1 e.0
  calls _ _ tickets opens Freeing does batch allowed goes on = stays_calls x.ask (WorkerCore.Pops tickets) (batch.0.0, batch.0.1, batch.0.2, batch.1, batch.2)
  calls _ _ tickets opens Resting does batch allowed goes on = absurd batch.0

  -- its ask is the next one, or the one that it made
  asks_work : (place : SyncCore P) → core_work x.ask place ≡ core_work {P = P} (ask_for w x.ask place) place
  asks_work SyncCore.Asks = refl
  asks_work _ = refl

  due_now : (place : SyncCore P) (tickets : Tickets) → BatchAt tickets place → IsDue kept (Holder.Worker n) (ask_for w x.ask place) place
  due_now SyncCore.Asks tickets batch = refl
  due_now SyncCore.Done tickets batch = absurd batch.0
  due_now _ tickets batch = tt

  synced_work : (ask : ℕ) (place : SyncCore P) (tickets : Tickets) → worker_work {P = P} ask (synced place tickets) ≡ core_work ask place
  synced_work ask SyncCore.Done tickets = refl
  synced_work ask _ tickets = refl

  -- a step of a worker's grace period that neither waits nor is blocked
  pub owes_batch : AwaitsOpen now → (place : SyncCore P) (tickets : Tickets) (step : GraceStep P) → x.core ≡ WorkerCore.Syncs place tickets → grace_row plans w (Holder.Worker n) (ask_for w x.ask place) place ≡ Ok step → is_blocked step.answer ≡ false → is_waiting step.answer ≡ false →
      Owed (Ok (work_change n (ask_for w x.ask place) tickets step))
  owes_batch opens place tickets step syncs made goes on =
      let ask : ℕ = ask_for w x.ask place in
      let x' : WorkerState P = record { ask = ask; core = synced step.core tickets } in
      let row : TurnRow plans w (Holder.Worker n) ask place (Ok step) = turn_of plans w (Holder.Worker n) ask place step made in
      let batch : BatchAt tickets place = its_work w now k n x at syncs in
      let stands : works (Working n) ≡ core_work ask place = work_is ∙ ap (worker_work x.ask) syncs ∙ asks_work place in
      let s : StepKept kept (Working n) (core_work ask step.core) step.grace step.answer = kept_turn kept (Holder.Worker n) ask place step stands (due_now place tickets batch) row goes on in (
        s.allowed,
        subst (Kept plans layout slots laws (changed w (work_change n ask tickets step))) (sym (asks_alone kept (Holder.Worker n) ask place step made)) (
            kept_work kept n x' (acted_at queues n (worker_act step.grace.seq x'.core)) None step.grace (w.log ++ told step.answer) _ _ _ (longer w.log (told step.answer)) s.rises s.phase_low s.seq_low s.asks_low
            (s.part _ (subst (λ (v : Work P). Sets works (work_of w.updaters (slice_set w.workers n x')) (Working n) v) (synced_work ask step.core tickets) (worker_set kept n x' inside)))
            ),
        calls place step tickets opens row stands batch s.allowed goes on,
      )

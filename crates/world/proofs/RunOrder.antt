-- The callbacks of each queue run in the order in which they were queued.
use Rattle.world.proofs.Cited.{grows, map, map-append, ◌≡◌, ◌≢◌, ◌⊎◌, ⊎_elim, ℕ, inl, inr, ◌+◌, ◌%◌, ◌^◌, ◌<◌, ◌≤◌, true, List, [], ◌∷◌, ◌++◌, length, slice_get, Some, None, Ok, refl, sym, ap, ◌∙◌, subst, cons_option, filter_map, slice_get-get_or, Event, ObjectId, State, start, after, after_all, has_object, In, in_append, filter_has, runs_of, NoTurn, InTurn, quiet_turn, queued_turn, queued_elsewhere, run_turn, run_elsewhere, Item, Ticket, items_of, without_first, object_with, Layout, SyncCore, Tickets, WorkerCore, new_core, Config, Line, Life, QueueAct, QueueState, Holder, RetireStep, UpdaterPlace, Retires, UpdaterState, WorkerState, Change, is_within_limits, empty_queue_state, item_of, acted, held_by, changed_at, acted_at, Plans, BoardView, fresh_at, changed, told, decide_number, life_of, Items, Has, InQueue, has_stands, queue_at, changed_here, changed_else, items_sealed, items_advanced, items_pushed, queued_by, run_by, queued_into, run_from, GraceStep, world_after, queue_of, retire_on, ask_for, worker_act, first_in, grace_row}
use Rattle.world.proofs.State.{stands_at}
use Rattle.call_rcu_worker.specs.Worker.{synced as synced_to}
use Rattle.world.specs.RunOrder.{RunInOrder}
use Rattle.world.proofs.Callbacks.{its_work, lives_as, own_queue, its_queue, IsOther, RetireKept, at_queues, AreOther, other_reads}
use Rattle.world.proofs.Fence.{Laws}
use Rattle.world.proofs.Rows.{tells, ByPush, ByReplace, BySync, ByTurn, ByHold, ByRetire, UpdaterRows, WasAt, WorkedAt, Law}
use Rattle.world.proofs.Logged.{get_replicate, Logged, always}

-- ---- the log

-- what ran is reclaimed
one_reclaimed : (now : State) (e : Event) (es : List Event) (o : ObjectId) → In (runs_of (e ∷ es)) o → In (after now e).reclaimed o ⊎ In (runs_of es) o
one_reclaimed now (Event.Run p) es o (inl is) = inl (inl is)
one_reclaimed now (Event.Run p) es o (inr h) = inr h
one_reclaimed now _ es o h = inr h

all_reclaimed : (now : State) (es : List Event) (o : ObjectId) → In now.reclaimed o ⊎ In (runs_of es) o → In (after_all now es).reclaimed o
all_reclaimed now [] o (inl h) = h
all_reclaimed now [] o (inr h) = absurd h
all_reclaimed now (e ∷ es) o (inl h) = all_reclaimed (after now e) es o (inl ((grows now e).reclaimed o h))
all_reclaimed now (e ∷ es) o (inr h) = all_reclaimed (after now e) es o (one_reclaimed now e es o h)

other_runs : (e : Event) → IsOther e → (run_by e ≡ None) × ((q : ℕ) → queued_by q e ≡ None)
other_runs (Event.Retire o) h = absurd h
other_runs (Event.Queue o q) h = absurd h
other_runs (Event.Run o) h = absurd h
other_runs (Event.Bar b) h = absurd h
other_runs (Event.Clear b) h = absurd h
other_runs _ h = (refl, λ q. refl)

others_run : (es : List Event) → AreOther es → NoTurn es
others_run [] h = record { runs = refl; queues = λ q. refl }
others_run (e ∷ es) h =
    let one = other_runs e h.0 in
    let more = others_run es h.1 in
    record {
      runs = ap (λ x. cons_option x (filter_map run_by es)) one.0 ∙ more.runs;
      queues = λ q. ap (λ x. cons_option x (queued_into q es)) (one.1 q) ∙ more.queues q;
    }

-- ---- what waits

abbrev objects_of : Items → List ObjectId
objects_of is = map (λ (i : Item Unit). i.object) is

has_item : (is : Items) (o : ObjectId) → In (objects_of is) o → Has is o
has_item [] o h = absurd h
has_item (i ∷ is) o (inl e) = inl e
has_item (i ∷ is) o (inr h) = inr (has_item is o h)

abbrev waiting_in : QueueState → List ObjectId
waiting_in q = objects_of (items_of q.items)

-- of each queue: what was queued in it has run, in order, or waits in it, in order
abbrev AllInTurn : List Event → List QueueState → Type 0
AllInTurn log qs = (q : ℕ) → InTurn q log (waiting_in (queue_at qs q))

-- what waits in a queue is another list
waits : (q : ℕ) (log : List Event) (ws ws' : List ObjectId) → ws' ≡ ws → InTurn q log ws → InTurn q log ws'
waits q log ws ws' same = subst (InTurn q log) (sym same)

quiet : (log : List Event) (qs qs' : List QueueState) (es : List Event) → NoTurn es → ((q : ℕ) → waiting_in (queue_at qs' q) ≡ waiting_in (queue_at qs q)) → AllInTurn log qs → AllInTurn (log ++ es) qs'
quiet log qs qs' es none stay k q = waits q (log ++ es) _ _ (stay q) (quiet_turn q log es _ none (k q))

-- one is queued that did not run
queues_one : (log : List Event) (qs qs' : List QueueState) (j : ℕ) (o : ObjectId) → (¬ In (runs_of log) o) → waiting_in (queue_at qs' j) ≡ waiting_in (queue_at qs j) ++ o ∷ [] →
    ((q : ℕ) → q ≢ j → waiting_in (queue_at qs' q) ≡ waiting_in (queue_at qs q)) → AllInTurn log qs → AllInTurn (log ++ Event.Queue o j ∷ []) qs'
queues_one log qs qs' j o fresh here beside k q = ⊎_elim
    (λ (e : q ≡ j). subst (λ n. InTurn n (log ++ Event.Queue o j ∷ []) (waiting_in (queue_at qs' n))) (sym e) (waits j (log ++ Event.Queue o j ∷ []) _ _ here (queued_turn j log _ o fresh (k j))))
    (λ (apart : q ≢ j). waits q (log ++ Event.Queue o j ∷ []) _ _ (beside q apart) (queued_elsewhere j q log _ o apart (k q)))
    (decide_number q j)

-- the first of a queue runs, which waits in no other and did not run
runs_first : (log : List Event) (qs qs' : List QueueState) (j : ℕ) (o : ObjectId) → (¬ In (runs_of log) o) → waiting_in (queue_at qs j) ≡ o ∷ waiting_in (queue_at qs' j) →
    ((q : ℕ) → q ≢ j → (waiting_in (queue_at qs' q) ≡ waiting_in (queue_at qs q)) × (¬ In (waiting_in (queue_at qs q)) o)) → AllInTurn log qs → AllInTurn (log ++ Event.Run o ∷ []) qs'
runs_first log qs qs' j o fresh first beside k q = ⊎_elim
    (λ (e : q ≡ j). subst (λ n. InTurn n (log ++ Event.Run o ∷ []) (waiting_in (queue_at qs' n))) (sym e) (run_turn j log _ o (subst (InTurn j log) first (k j))))
    (λ (apart : q ≢ j). waits q (log ++ Event.Run o ∷ []) _ _ ((beside q apart).0) (run_elsewhere q log _ o (none apart) (k q)))
    (decide_number q j)
  where
    none : q ≢ j → ¬ In (queued_into q log) o
    none apart h = ⊎_elim
        (λ (ran : In (run_from q log) o). fresh ((filter_has (λ p. has_object (queued_into q log) p) (runs_of log) o ran).0))
        (λ (waits : In (waiting_in (queue_at qs q)) o). (beside q apart).1 waits)
        (in_append (run_from q log) (waiting_in (queue_at qs q)) o (subst (λ l. In l o) (k q) h))

-- one queue changes, and not what waits in it
waits_same : (f : QueueState → QueueState) (qs : List QueueState) (j : ℕ) → j < length qs → items_of (f (queue_at qs j)).items ≡ items_of (queue_at qs j).items →
    (q : ℕ) → waiting_in (queue_at (changed_at f qs j (slice_get qs j)) q) ≡ waiting_in (queue_at qs q)
waits_same f qs j inside same = at_queues (λ q x. waiting_in x ≡ waiting_in (queue_at qs q)) f qs j inside (ap objects_of same) (λ q apart. refl)

-- the acts of a grace period leave the items where they are
worker_keeps : {P : Type 0} (seq : ℕ) (core : WorkerCore P Unit) (q : QueueState) → items_of (acted (worker_act seq core) q).items ≡ items_of q.items
worker_keeps seq (WorkerCore.Syncs SyncCore.Frees tickets) q = items_advanced q.items seq
worker_keeps seq (WorkerCore.Syncs _ tickets) q = refl
worker_keeps seq _ q = refl

abbrev IsInTurn : {P : Type 0} → BoardView P → Type 0
IsInTurn w = AllInTurn w.log w.queues

abbrev StaysInTurn : {P : Type 0} → BoardView P → Change P → Type 0
StaysInTurn w change = IsInTurn w → IsInTurn (changed w change)

-- ---- the rows

module _ {P : Type 0} (plans : Plans P) (layout : Layout) (slots : ℕ) (laws : Laws plans layout slots) (w : BoardView P) (l : Logged plans layout slots laws w) where
  abbrev now : State
  now = after_all start w.log

  abbrev mine : ℕ → QueueState
  mine k = queue_at w.queues k

  none : NoTurn []
  none = record { runs = refl; queues = λ q. refl }

  -- an object that was not reclaimed did not run
  not_yet : (o : ObjectId) → (¬ In now.reclaimed o) → ¬ In (runs_of w.log) o
  not_yet o never h = never (all_reclaimed start w.log o (inr h))

  -- a step of a grace period asks, or answers, or tells nothing
  grace_quiet : (me : Holder) (ask : ℕ) (sync : SyncCore P) (step : GraceStep P) → grace_row plans w me ask sync ≡ Ok step → NoTurn (told step.answer)
  grace_quiet me ask sync step is = tells plans w me ask NoTurn none (record { runs = refl; queues = λ q. refl }) (record { runs = refl; queues = λ q. refl }) sync step is

  -- and one that tells nothing of queues leaves them
  leaves : (es : List Event) → NoTurn es → AllInTurn w.log w.queues → AllInTurn (w.log ++ es) w.queues
  leaves es no_turn = quiet w.log w.queues w.queues es no_turn (λ q. refl)

  turn_retire : (u : ℕ) (x : UpdaterState P) (o : ObjectId) (step : RetireStep) → WasAt plans w u x (Retires o step) → StaysInTurn w (retire_on w u x o step)
  turn_retire u x o RetireStep.Mark at = quiet w.log w.queues _ _ (record { runs = refl; queues = λ q. refl }) (waits_same (acted QueueAct.Leave) w.queues (queue_of w u) (own_queue u l.callbacks.sizes) refl)
  turn_retire u x o RetireStep.Count at = quiet w.log w.queues _ _ none (waits_same (acted QueueAct.Count) w.queues (queue_of w u) (own_queue u l.callbacks.sizes) refl)
  turn_retire u x o RetireStep.Free at = quiet w.log w.queues _ _ none (waits_same (acted QueueAct.Free) w.queues (queue_of w u) (own_queue u l.callbacks.sizes) refl)
  turn_retire u x o RetireStep.Push at =
      let j : ℕ = queue_of w u in
      queues_one w.log w.queues (acted_at w.queues j (QueueAct.Push o)) j o (not_yet o (lives_as l.callbacks.items o retired).2)
      (ap waiting_in (changed_here (acted (QueueAct.Push o)) w.queues j (own_queue u l.callbacks.sizes)) ∙ ap objects_of (items_pushed (mine j).items (item_of o)) ∙ map-append (λ (i : Item Unit). i.object) (items_of (mine j).items) (item_of o ∷ []))
      (λ q apart. ap waiting_in (changed_else (acted (QueueAct.Push o)) w.queues j q apart))
    where
      retired : life_of w.objects o ≡ Life.Retired
      retired =
          (subst (λ (p : UpdaterPlace P). RetireKept w.objects w.queues (length w.updaters) u p)
          (stands_at w.updaters u x at.was at.at) (l.callbacks.retiring u)).1.0

  turn_run : (k : ℕ) (x : WorkerState P) (tickets : Tickets) (first : Ticket × ObjectId) → WorkedAt plans w k x (WorkerCore.Pops tickets) → first_in (slice_get w.queues k) ≡ Some first →
      AllInTurn w.log w.queues → AllInTurn (w.log ++ Event.Run first.1 ∷ []) (acted_at w.queues k QueueAct.Pop)
  turn_run k x tickets first at is = by (mine k).items.ready refl (sym (ap first_in (slice_get-get_or w.queues k empty_queue_state inside)) ∙ is)
    where
      inside : k < length w.queues
      inside = its_queue k x l.callbacks.sizes at.was

      o : ObjectId
      o = first.1

      second : (y z : Ticket × ObjectId) → Some y ≡ Some z → y.1 ≡ z.1
      second y z e = ap (λ (v : Ticket × ObjectId). v.1) (let same : y ≡ z = cc in same)

      by : (ready : Items) → (mine k).items.ready ≡ ready → object_with ((mine k).items.gone + 1) ready ≡ Some first →
          AllInTurn w.log w.queues → AllInTurn (w.log ++ Event.Run o ∷ []) (acted_at w.queues k QueueAct.Pop)
      by [] e none_first = cc
      by (i ∷ rest) e here = runs_first w.log w.queues (acted_at w.queues k QueueAct.Pop) k o
          (not_yet o (lives_as l.callbacks.items o (queued k (subst (λ os. In os o) (sym was) (inl refl)))).2)
          (was ∙ ap (λ os. o ∷ os) (sym (ap waiting_in (changed_here (acted QueueAct.Pop) w.queues k inside) ∙ ap (λ (r : Items). objects_of (items_of (without_first (mine k).items r))) e)))
          (λ q apart. (ap waiting_in (changed_else (acted QueueAct.Pop) w.queues k q apart), λ h. apart (one_queue q h)))
        where
          tail : Items
          tail = rest ++ (mine k).items.waiting ++ (mine k).items.fresh

          was : waiting_in (mine k) ≡ o ∷ objects_of tail
          was = ap (λ (r : Items). objects_of (r ++ (mine k).items.waiting ++ (mine k).items.fresh)) e ∙ ap (λ p. p ∷ objects_of tail) (second _ first here)

          there : (q : ℕ) → In (waiting_in (mine q)) o → (t : ℕ) × InQueue (mine q) t o
          there q h = has_stands (mine q).items.gone (items_of (mine q).items) o (has_item (items_of (mine q).items) o h)

          queued : (q : ℕ) → In (waiting_in (mine q)) o → life_of w.objects o ≡ Life.Queued
          queued q h = let s = there q h in l.callbacks.items.there q s.0 o s.1

          one_queue : (q : ℕ) → In (waiting_in (mine q)) o → q ≡ k
          one_queue q h =
              let s = there q h in
              let t = there k (subst (λ os. In os o) (sym was) (inl refl)) in
              (l.callbacks.items.one_place q k s.0 t.0 o s.1 t.1).0

  turn_updates : (u : ℕ) (x : UpdaterState P) → UpdaterRows plans w u x (λ v. StaysInTurn w)
  turn_updates u x _ _ (ByPush c head at is own) = λ k. k
  turn_updates u x _ _ (ByReplace o y at is) = λ k. k
  turn_updates u x _ _ (BySync step at is goes on) = leaves _ (grace_quiet (Holder.Updater u) (w.grace.asks + 1) new_core step is)
  turn_updates u x _ _ (ByTurn ask sync step at is goes on) = leaves _ (grace_quiet (Holder.Updater u) ask sync step is)
  turn_updates u x _ _ (ByHold o q at may is free) = λ k i. k i ∙ ap (λ os. run_from i w.log ++ os) (sym (waits_same (held_by u) w.queues (queue_of w u) (own_queue u l.callbacks.sizes) refl i))
  turn_updates u x _ _ (ByRetire o step at) = turn_retire u x o step at
  turn_updates u x _ _ _ = leaves _ (record { runs = refl; queues = λ q. refl })

  turn_law : Law plans w (λ line. StaysInTurn w)
  turn_law = record {
    stays = λ line answer never none_told k. k;
    reads = λ r v verb was step row. leaves (told step.answer) (others_run (told step.answer) (other_reads plans.qsbr w.layout w r v step row));
    updates = λ u x was. turn_updates u x;
    works = λ k x was. record {
      takes = λ q at is free some. let rests = its_work w now l.callbacks k x at.was at.at in
          quiet w.log w.queues _ _ none (waits_same (acted QueueAct.Seal) w.queues k (its_queue k x l.callbacks.sizes at.was) (items_sealed (mine k).items rests.0 rests.1));
      works = λ sync tickets step at is goes on. quiet w.log w.queues _ _ (grace_quiet (Holder.Worker k) (ask_for w x.ask sync) sync step is)
          (waits_same (acted (worker_act step.grace.seq (synced_to step.core tickets))) w.queues k (its_queue k x l.callbacks.sizes at.was) (worker_keeps step.grace.seq (synced_to step.core tickets) (mine k)));
      runs = λ tickets first at is. turn_run k x tickets first at is;
      counts = λ tickets ticket item at. quiet w.log w.queues _ _ none (waits_same (acted QueueAct.Finish) w.queues k (its_queue k x l.callbacks.sizes at.was) refl);
    };
  }

module _ {P : Type 0} (plans : Plans P) (laws : (layout : Layout) (slots : ℕ) → Laws plans layout slots) where
  pub callbacks_in_order : (config : Config) (seq : ℕ) (lines : List Line) → is_within_limits config ≡ true → seq % 2 ≡ 0 → seq ≤ 2 ^ 62 → RunInOrder (world_after plans (fresh_at config seq) lines).log
  callbacks_in_order config seq lines limits even low q = (
    waiting_in (queue_at (world_after plans (fresh_at config seq) lines).queues q),
    always plans laws config seq limits even low IsInTurn (λ v line. StaysInTurn v) (λ v line change stays. stays) (turn_law plans config.layout config.readers (laws config.layout config.readers)) lines
        (λ j. sym (ap waiting_in (get_replicate empty_queue_state config.workers j))) q,
  )

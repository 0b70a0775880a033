-- Each lock is held by just who is inside.
use Rattle.world.proofs.Cited.{◌≡◌, ◌≢◌, inl, inr, ℕ, ◌+◌, ◌%◌, ◌^◌, ◌<◌, ◌≤◌, true, List, length, slice_get, slice_set, Option, Some, None, refl, sym, ap, ◌∙◌, subst, get_or-set_same, none-some, same_Some, get_or_from_slice_get, slice_get_within, ObjectId, Layout, SyncCore, Tickets, WorkerCore, new_core, Config, Line, ObjectState, QueueAct, QueueState, Holder, RetireStep, UpdaterPlace, Idle, Syncs, Retires, UpdaterState, WorkerState, Change, Grace, Work, is_within_limits, new_worker, empty_queue_state, acted, held_by, changed_at, acted_at, held_at, Plans, BoardView, fresh_at, changed, idle, queue_at, changed_length, GraceStep, sync_place, world_after, IsInside, SyncsInside, WorksInside, IsInsideNow, IsRetiring, AreHeldInside, queue_of, retire_on, ask_for, worker_act}
use Rattle.call_rcu_worker.specs.Worker.{synced as synced_to}
use Rattle.world.proofs.Callbacks.{RetireKept, own_queue, at_queues}
use Rattle.world.proofs.Fence.{Laws, Holds}
use Rattle.world.proofs.Rows.{by_option, LockMoves, Fits, fits_step, ByPush, ByReplace, ByCut, ByPushed, ByReplaced, BySync, ByTurn, ByStart, ByPoll, ByHold, ByRetire, ByBarrier, ByNote, ByCheck, ByClear, UpdaterRows, WasAt, WorkedAt, SyncsAt, Law}
use Rattle.world.proofs.Logged.{get_replicate, Logged, logged, always}
use Rattle.world.proofs.State.{Syncing, Working, asker_of, holder_of, core_work, place_work, worker_work, updater_at, worker_at, at_updaters, at_workers}

-- ---- who holds a lock is inside

abbrev InsideOf : {P : Type 0} → List (UpdaterState P) → List (WorkerState P) → Holder → Type 0
InsideOf updaters workers (Holder.Updater u) = SyncsInside (updater_at updaters u).place
InsideOf updaters workers (Holder.Worker k) = WorksInside (worker_at workers k).core

record Owned {P : Type 0} (updaters : List (UpdaterState P)) (workers : List (WorkerState P)) (qs : List QueueState) (held : Option Holder) : Type 0 where
  grace : (h : Holder) → held ≡ Some h → InsideOf updaters workers h
  queues : (q u : ℕ) → (queue_at qs q).holder ≡ Some u → (u % length qs ≡ q) × IsRetiring (updater_at updaters u).place

abbrev IsOwned : {P : Type 0} → BoardView P → Type 0
IsOwned w = Owned w.updaters w.workers w.queues w.grace.holder

abbrev StaysOwned : {P : Type 0} → BoardView P → Change P → Type 0
StaysOwned w change = IsOwned w → IsOwned (changed w change)

-- the act leaves the queue's lock as it is
abbrev KeepsHolder : QueueAct → Type 0
KeepsHolder act = (q : QueueState) → (acted act q).holder ≡ q.holder

holders_kept : (act : QueueAct) → KeepsHolder act → (qs : List QueueState) (j i : ℕ) → (queue_at (acted_at qs j act) i).holder ≡ (queue_at qs i).holder
holders_kept act keeps qs j i = by_option (λ o. (queue_at (acted_at qs j act) i).holder ≡ (queue_at qs i).holder) (slice_get qs j) (λ is. ap (λ o. (queue_at (changed_at (acted act) qs j o) i).holder) is)
    (λ q is. at_queues (λ n x. x.holder ≡ (queue_at qs n).holder) (acted act) qs j (slice_get_within qs j q is) (keeps (queue_at qs j)) (λ n other. refl) i)

worker_keeps : {P : Type 0} (seq : ℕ) (core : WorkerCore P Unit) → KeepsHolder (worker_act seq core)
worker_keeps seq (WorkerCore.Syncs SyncCore.Asks tickets) = λ q. refl
worker_keeps seq (WorkerCore.Syncs _ tickets) = λ q. refl
worker_keeps seq _ = λ q. refl

-- a grace period that is inside rests so
inside_place : {P : Type 0} (plans : Plans P) (ask : ℕ) (sync : SyncCore P) → IsInside sync → SyncsInside (sync_place plans ask sync)
inside_place plans ask SyncCore.Asks h = h
inside_place plans ask _ h = h

inside_worker : {P : Type 0} (sync : SyncCore P) (tickets : Tickets) → IsInside sync → WorksInside {P = P} (synced_to sync tickets)
inside_worker SyncCore.Asks tickets h = h
inside_worker _ tickets h = h

module _ {P : Type 0} (plans : Plans P) (w : BoardView P) where
  -- the same of who was inside before, and of who is inside then
  lock_over : (me : Holder) (ask : ℕ) (held : Option Holder) {was was' is is' : Type 0} → (was' → was) → (is → is') → LockMoves plans w me ask was held is → LockMoves plans w me ask was' held is'
  lock_over me ask held before then (inl stays) = inl (stays.0, λ h. then (stays.1 (before h)))
  lock_over me ask held before then (inr (inl taken)) = inr (inl (taken.0, then taken.1))
  lock_over me ask held before then (inr (inr freed)) = inr (inr freed)

  -- who held the lock, or has taken it
  module _ (me : Holder) (ask : ℕ) (was is : Type 0) (held : Option Holder) (moves : LockMoves plans w me ask was held is) where
    mine : (w.grace.holder ≡ Some me → was) → held ≡ Some me → is
    mine old e = elim moves [ inl stays ↦ stays.1 (old (sym stays.0 ∙ e)) | inr more ↦ elim more [ inl taken ↦ taken.1 | inr freed ↦ absurd (none-some me (sym freed ∙ e)) ] ]

    theirs : (h : Holder) → (h ≡ me → ⊥) → held ≡ Some h → w.grace.holder ≡ Some h
    theirs h other e = elim moves [ inl stays ↦ sym stays.0 ∙ e | inr more ↦ elim more [ inl taken ↦ absurd (other (same_Some h me (sym e ∙ taken.0))) | inr freed ↦ absurd (none-some h (sym freed ∙ e)) ] ]

  module _ (u : ℕ) (x y : UpdaterState P) (there : slice_get w.updaters u ≡ Some x) where
    inside : u < length w.updaters
    inside = slice_get_within w.updaters u x there

    now : updater_at w.updaters u ≡ x
    now = get_or_from_slice_get w.updaters u x idle there

    grace_owned : (ask : ℕ) (held : Option Holder) → LockMoves plans w (Holder.Updater u) ask (SyncsInside x.place) held (SyncsInside y.place) → IsOwned w → (h : Holder) → held ≡ Some h → InsideOf (slice_set w.updaters u y) w.workers h
    grace_owned ask held moves k (Holder.Worker j) e = k.grace (Holder.Worker j) (theirs (Holder.Updater u) ask _ _ held moves (Holder.Worker j) (λ clash. cc) e)
    grace_owned ask held moves k (Holder.Updater v) e =
        at_updaters (λ n z. held ≡ Some (Holder.Updater n) → SyncsInside z.place) w.updaters u y inside
        (mine (Holder.Updater u) ask _ _ held moves (λ f. subst (λ (z : UpdaterState P). SyncsInside z.place) now (k.grace (Holder.Updater u) f)))
        (λ n apart f. k.grace (Holder.Updater n) (theirs (Holder.Updater u) ask _ _ held moves (Holder.Updater n) (λ same. apart (cc)) f)) v e

    abbrev Into : List (UpdaterState P) → ℕ → ℕ → Type 0
    Into updaters q v = (v % length w.queues ≡ q) × IsRetiring (updater_at updaters v).place

    -- another one retires as before
    carried : (q : ℕ) → (u % length w.queues ≡ q → IsRetiring x.place → IsRetiring y.place) → (v : ℕ) → Into w.updaters q v → Into (slice_set w.updaters u y) q v
    carried q goes v into = (
      into.0,
      at_updaters (λ n z. (n % length w.queues ≡ q) × IsRetiring (updater_at w.updaters n).place → IsRetiring z.place) w.updaters u y inside
          (λ i. goes i.0 (subst (λ (z : UpdaterState P). IsRetiring z.place) now i.1))
          (λ n apart i. i.1) v into,
    )

    -- a step that leaves all locks of queues, and retires no less
    steps : (ask : ℕ) (held : Option Holder) → LockMoves plans w (Holder.Updater u) ask (SyncsInside x.place) held (SyncsInside y.place) → (IsRetiring x.place → IsRetiring y.place) → IsOwned w → Owned (slice_set w.updaters u y) w.workers w.queues held
    steps ask held moves goes k = record { grace = grace_owned ask held moves k; queues = λ q v e. carried q (λ same. goes) v (k.queues q v e) }

    -- and one from a place that is inside of nothing
    outside : (SyncsInside x.place → ⊥) → (IsRetiring x.place → ⊥) → IsOwned w → Owned (slice_set w.updaters u y) w.workers w.queues w.grace.holder
    outside not_inside not_retiring k = steps 0 w.grace.holder (inl (refl, λ h. absurd (not_inside h))) (λ h. absurd (not_retiring h)) k

    -- a step that changes one queue
    queue_changed : (f : QueueState → QueueState) (j : ℕ) → j < length w.queues → (SyncsInside x.place → ⊥) →
        ((v : ℕ) → (f (queue_at w.queues j)).holder ≡ Some v → Into (slice_set w.updaters u y) j v) →
        ((i : ℕ) → i ≢ j → u % length w.queues ≡ i → IsRetiring x.place → IsRetiring y.place) → IsOwned w →
        Owned (slice_set w.updaters u y) w.workers (changed_at f w.queues j (slice_get w.queues j)) w.grace.holder
    queue_changed f j within not_inside here goes k = record {
      grace = grace_owned 0 w.grace.holder (inl (refl, λ h. absurd (not_inside h))) k;
      queues = λ q v e.
          let into = at_queues (λ i (z : QueueState). (v : ℕ) → z.holder ≡ Some v → Into (slice_set w.updaters u y) i v) f w.queues j within here
          (λ i apart v e. carried i (goes i apart) v (k.queues i v e)) q v e in
          (subst (λ n. v % n ≡ q) (sym (changed_length f w.queues j)) into.0, into.1);
    }

  module _ (n : ℕ) (x y : WorkerState P) (there : slice_get w.workers n ≡ Some x) where
    works : (ask : ℕ) (held : Option Holder) (act : QueueAct) → LockMoves plans w (Holder.Worker n) ask (WorksInside x.core) held (WorksInside y.core) → KeepsHolder act → IsOwned w →
        Owned w.updaters (slice_set w.workers n y) (acted_at w.queues n act) held
    works ask held act moves keeps k = record { grace = grace; queues = queues }
      where
        grace : (h : Holder) → held ≡ Some h → InsideOf w.updaters (slice_set w.workers n y) h
        grace (Holder.Updater u) e = k.grace (Holder.Updater u) (theirs (Holder.Worker n) ask _ _ held moves (Holder.Updater u) (λ clash. cc) e)
        grace (Holder.Worker j) e =
            at_workers (λ i z. held ≡ Some (Holder.Worker i) → WorksInside z.core) w.workers n y (slice_get_within w.workers n x there)
            (mine (Holder.Worker n) ask _ _ held moves (λ f. subst (λ (z : WorkerState P). WorksInside z.core) (get_or_from_slice_get w.workers n x new_worker there) (k.grace (Holder.Worker n) f)))
            (λ i apart f. k.grace (Holder.Worker i) (theirs (Holder.Worker n) ask _ _ held moves (Holder.Worker i) (λ same. apart (cc)) f)) j e

        queues : (q u : ℕ) → (queue_at (acted_at w.queues n act) q).holder ≡ Some u → (u % length (acted_at w.queues n act) ≡ q) × IsRetiring (updater_at w.updaters u).place
        queues q u e =
            let into = k.queues q u (sym (holders_kept act keeps w.queues n q) ∙ e) in
            (subst (λ m. u % m ≡ q) (sym (changed_length (acted act) w.queues n)) into.0, into.1)

-- ---- the rows

module _ {P : Type 0} (plans : Plans P) (layout : Layout) (slots : ℕ) (laws : Laws plans layout slots) (w : BoardView P) (l : Logged plans layout slots laws w) where
  module _ {u : ℕ} {x : UpdaterState P} {place : UpdaterPlace P} (at : WasAt plans w u x place) where
    not_inside : (SyncsInside place → ⊥) → SyncsInside x.place → ⊥
    not_inside never h = never (subst (λ (p : UpdaterPlace P). SyncsInside p) at.at h)

    not_retiring : (IsRetiring place → ⊥) → IsRetiring x.place → ⊥
    not_retiring never h = never (subst (λ (p : UpdaterPlace P). IsRetiring p) at.at h)

    beside : (y : UpdaterState P) → (SyncsInside place → ⊥) → (IsRetiring place → ⊥) → IsOwned w → Owned (slice_set w.updaters u y) w.workers w.queues w.grace.holder
    beside y never none k = outside plans w u x y at.was (not_inside never) (not_retiring none) k

  owned_sync : (u : ℕ) (x : UpdaterState P) (ask : ℕ) (sync : SyncCore P) (step : GraceStep P) → SyncsAt plans w u x ask sync → Fits plans w (Holder.Updater u) ask sync step →
      StaysOwned w (Grace u (record x { place = sync_place plans ask step.core }) step.grace step.answer)
  owned_sync u x ask sync step at fits k = by at
    where
      moves : (was : Type 0) → (was → IsInside sync) → LockMoves plans w (Holder.Updater u) ask was step.grace.holder (SyncsInside (sync_place plans ask step.core))
      moves was has = lock_over plans w (Holder.Updater u) ask step.grace.holder has (inside_place plans ask step.core) fits.lock

      by : SyncsAt plans w u x ask sync → Owned (slice_set w.updaters u (record x { place = sync_place plans ask step.core })) w.workers w.queues step.grace.holder
      by (inl i) = steps plans w u x _ i.was ask step.grace.holder (moves (SyncsInside x.place) (λ h. absurd (not_inside i (λ n. n) h))) (λ h. absurd (not_retiring i (λ n. n) h)) k
      by (inr i) = steps plans w u x _ i.was ask step.grace.holder (moves (SyncsInside x.place) (λ h. subst (λ (p : UpdaterPlace P). SyncsInside p) i.at h)) (λ h. absurd (not_retiring i (λ n. n) h)) k

  owned_work : (n : ℕ) (x : WorkerState P) (sync : SyncCore P) (tickets : Tickets) (step : GraceStep P) → WorkedAt plans w n x (WorkerCore.Syncs sync tickets) → Fits plans w (Holder.Worker n) (ask_for w x.ask sync) sync step →
      StaysOwned w (Work n (record { ask = ask_for w x.ask sync; core = synced_to step.core tickets }) step.grace (worker_act step.grace.seq (synced_to step.core tickets)) None step.answer)
  owned_work n x sync tickets step at fits k =
      works plans w n x _ at.was (ask_for w x.ask sync) step.grace.holder (worker_act step.grace.seq (synced_to step.core tickets))
      (lock_over plans w (Holder.Worker n) (ask_for w x.ask sync) step.grace.holder (λ h. subst (λ (c : WorkerCore P Unit). WorksInside c) at.at h) (inside_worker step.core tickets) fits.lock) (worker_keeps step.grace.seq (synced_to step.core tickets)) k

  -- a worker's step that is none of a grace period
  owned_item : (n : ℕ) (x y : WorkerState P) (core : WorkerCore P Unit) (a : QueueAct) → WorkedAt plans w n x core → (WorksInside core → ⊥) → KeepsHolder a → IsOwned w → Owned w.updaters (slice_set w.workers n y) (acted_at w.queues n a) w.grace.holder
  owned_item n x y core a at never keeps k =
      works plans w n x y at.was 0 w.grace.holder a (inl (refl, λ h. absurd (never (subst (λ (c : WorkerCore P Unit). WorksInside c) at.at h)))) keeps k

  -- a step of a retirement that goes on holds the lock
  owned_going : (u : ℕ) (x y : UpdaterState P) (o : ObjectId) (step : RetireStep) (a : QueueAct) → WasAt plans w u x (Retires o step) → IsRetiring y.place → KeepsHolder a → IsOwned w →
      Owned (slice_set w.updaters u y) w.workers (acted_at w.queues (queue_of w u) a) w.grace.holder
  owned_going u x y o step a at retires keeps k =
      queue_changed plans w u x y at.was (acted a) (queue_of w u) (own_queue u l.callbacks.sizes) (not_inside at (λ n. n))
      (λ v e. carried plans w u x y at.was (queue_of w u) (λ same h. retires) v (k.queues (queue_of w u) v (sym (keeps (queue_at w.queues (queue_of w u))) ∙ e)))
      (λ i apart same h. retires) k

  owned_retire : (u : ℕ) (x : UpdaterState P) (o : ObjectId) (step : RetireStep) → WasAt plans w u x (Retires o step) → StaysOwned w (retire_on w u x o step)
  owned_retire u x o RetireStep.Mark at k = owned_going u x _ o RetireStep.Mark QueueAct.Leave at tt (λ q. refl) k
  owned_retire u x o RetireStep.Count at k = owned_going u x _ o RetireStep.Count QueueAct.Count at tt (λ q. refl) k
  owned_retire u x o RetireStep.Push at k = owned_going u x _ o RetireStep.Push (QueueAct.Push o) at tt (λ q. refl) k
  owned_retire u x o RetireStep.Free at k =
      queue_changed plans w u x _ at.was (acted QueueAct.Free) (queue_of w u) (own_queue u l.callbacks.sizes) (not_inside at (λ n. n))
      (λ v e. absurd (none-some v e)) (λ i apart same h. absurd (apart (sym same))) k

  owned_hold : (u : ℕ) (x y : UpdaterState P) → WasAt plans w u x Idle → IsRetiring y.place → IsOwned w → Owned (slice_set w.updaters u y) w.workers (held_at w.queues (queue_of w u) u) w.grace.holder
  owned_hold u x y at retires k =
      queue_changed plans w u x y at.was (held_by u) (queue_of w u) (own_queue u l.callbacks.sizes) (not_inside at (λ n. n))
      (λ v e. subst (λ n. (n % length w.queues ≡ queue_of w u) × IsRetiring (updater_at (slice_set w.updaters u y) n).place) (same_Some u v e) (
        refl,
        subst (λ (z : UpdaterState P). IsRetiring z.place) (sym (get_or-set_same w.updaters u y idle (slice_get_within w.updaters u x at.was))) retires,
      ))
      (λ i apart same h. absurd (not_retiring at (λ n. n) h)) k

  owned_updates : (u : ℕ) (x : UpdaterState P) → UpdaterRows plans w u x (λ v. StaysOwned w)
  owned_updates u x _ _ (ByPush c head at is own) k = beside at _ (λ n. n) (λ n. n) k
  owned_updates u x _ _ (ByReplace o y at is) k = beside at _ (λ n. n) (λ n. n) k
  owned_updates u x _ _ (ByCut o y at is) k = beside at _ (λ n. n) (λ n. n) k
  owned_updates u x _ _ (ByPushed new y at is) k = beside at _ (λ n. n) (λ n. n) k
  owned_updates u x _ _ (ByReplaced old new y at is) k = beside at _ (λ n. n) (λ n. n) k
  owned_updates u x _ _ (BySync step at is goes on) k = owned_sync u x (w.grace.asks + 1) new_core step (inl at) (fits_step plans w (Holder.Updater u) (w.grace.asks + 1) new_core step is) k
  owned_updates u x _ _ (ByTurn ask sync step at is goes on) k = owned_sync u x ask sync step (inr at) (fits_step plans w (Holder.Updater u) ask sync step is) k
  owned_updates u x _ _ (ByStart cookie at is) k = beside at _ (λ n. n) (λ n. n) k
  owned_updates u x _ _ (ByPoll s at is up) k = beside at _ (λ n. n) (λ n. n) k
  owned_updates u x _ _ (ByHold o q at may is free) k = owned_hold u x _ at tt k
  owned_updates u x _ _ (ByRetire o step at) k = owned_retire u x o step at k
  owned_updates u x _ _ (ByBarrier at) k = beside at _ (λ n. n) (λ n. n) k
  owned_updates u x _ _ (ByNote b q at is) k = beside at _ (λ n. n) (λ n. n) k
  owned_updates u x _ _ (ByCheck b q at is up more) k = beside at _ (λ n. n) (λ n. n) k
  owned_updates u x _ _ (ByClear b q at is up last) k = beside at _ (λ n. n) (λ n. n) k

  owned_law : Law plans w (λ line. StaysOwned w)
  owned_law = record {
    stays = λ line answer never none k. k;
    reads = λ r v verb was step row k. record { grace = k.grace; queues = k.queues };
    updates = λ u x was. owned_updates u x;
    works = λ n x was. record {
      takes = λ q at is free some k. owned_item n x _ WorkerCore.Idle QueueAct.Seal at (λ h. h) (λ q. refl) k;
      works = λ sync tickets step at is goes on. owned_work n x sync tickets step at (fits_step plans w (Holder.Worker n) (ask_for w x.ask sync) sync step is);
      runs = λ tickets first at is k. owned_item n x _ (WorkerCore.Pops tickets) QueueAct.Pop at (λ h. h) (λ q. refl) k;
      counts = λ tickets ticket item at k. owned_item n x _ (WorkerCore.Ran tickets ticket item) QueueAct.Finish at (λ h. h) (λ q. refl) k;
    };
  }

-- ---- and who is inside holds it

module _ {P : Type 0} (plans : Plans P) (layout : Layout) (slots : ℕ) (laws : Laws plans layout slots) where
  inside_holds : (ask : ℕ) (sync : SyncCore P) → IsInside sync → Holds (core_work ask sync)
  inside_holds ask SyncCore.Asks h = h
  inside_holds ask _ h = h

  place_holds : (place : UpdaterPlace P) → SyncsInside place → Holds (place_work place)
  place_holds (Syncs ask sync) h = inside_holds ask sync h
  place_holds _ h = h

  worker_holds : (ask : ℕ) (core : WorkerCore P Unit) → WorksInside core → Holds (worker_work ask core)
  worker_holds ask (WorkerCore.Syncs sync tickets) h = inside_holds ask sync h
  worker_holds ask _ h = h

  asks_as : (held : Option Holder) (h : Holder) → holder_of held ≡ Some (asker_of h) → held ≡ Some h
  asks_as None h e = absurd (none-some (asker_of h) e)
  asks_as (Some (Holder.Updater u)) (Holder.Updater v) e = cc
  asks_as (Some (Holder.Worker u)) (Holder.Worker v) e = cc
  asks_as (Some _) _ e = cc

  retiring_holds : (os : List ObjectState) (qs : List QueueState) (count u : ℕ) (place : UpdaterPlace P) → RetireKept os qs count u place → IsRetiring place → (queue_at qs (u % length qs)).holder ≡ Some u
  retiring_holds os qs count u (Retires o step) k h = k.0
  retiring_holds os qs count u _ k h = absurd h

  held_inside : (w : BoardView P) → Logged plans layout slots laws w → IsOwned w → AreHeldInside w
  held_inside w l k = record {
    grace = λ h. (owner h, holds h);
    queues = λ q u. (k.queues q u, λ i. subst (λ n. (queue_at w.queues n).holder ≡ Some u) i.0 (retiring_holds w.objects w.queues (length w.updaters) u (updater_at w.updaters u).place (l.callbacks.retiring u) i.1));
  }
    where
      owner : (h : Holder) → w.grace.holder ≡ Some h → IsInsideNow w h
      owner (Holder.Updater u) e = k.grace (Holder.Updater u) e
      owner (Holder.Worker n) e = k.grace (Holder.Worker n) e

      holds : (h : Holder) → IsInsideNow w h → w.grace.holder ≡ Some h
      holds (Holder.Updater u) i = asks_as w.grace.holder (Holder.Updater u) (l.kept.part.grace_kept.held (Syncing u) (place_holds (updater_at w.updaters u).place i))
      holds (Holder.Worker n) i = asks_as w.grace.holder (Holder.Worker n) (l.kept.part.grace_kept.held (Working n) (worker_holds (worker_at w.workers n).ask (worker_at w.workers n).core i))

fresh_owned : {P : Type 0} (config : Config) (seq : ℕ) → IsOwned (fresh_at {P = P} config seq)
fresh_owned {P} config seq = record {
  grace = λ h e. absurd (none-some h e);
  queues = λ q u e. absurd (none-some u (sym (ap (λ (x : QueueState). x.holder) (get_replicate empty_queue_state config.workers q)) ∙ e));
}

module _ {P : Type 0} (plans : Plans P) (laws : (layout : Layout) (slots : ℕ) → Laws plans layout slots) where
  pub locks_held : (config : Config) (seq : ℕ) (lines : List Line) → is_within_limits config ≡ true → seq % 2 ≡ 0 → seq ≤ 2 ^ 62 → AreHeldInside (world_after plans (fresh_at config seq) lines)
  locks_held config seq lines limits even low =
      held_inside plans config.layout config.readers (laws config.layout config.readers) (world_after plans (fresh_at config seq) lines) (logged plans laws config seq limits even low lines)
      (always plans laws config seq limits even low IsOwned (λ v line. StaysOwned v) (λ v line change stays. stays) (owned_law plans config.layout config.readers (laws config.layout config.readers)) lines (fresh_owned config seq))

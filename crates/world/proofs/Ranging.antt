-- The numbers of a kept world are small enough for its next step, and a line asks no more of a queue than it has.
use Rattle.world.proofs.Cited.{◌≡◌, ◌^◌, ◌<◌, ℕ, true≢false, false, length, slice_get, Some, Ok, refl, ap, ◌∙◌, subst, arith, get_or_from_slice_get, ObjectId, State, SyncCore, Tickets, WorkerCore, Line, QueueAct, QueueState, RetireStep, UpdaterPlace, Retires, UpdaterState, WorkerState, Change, empty_queue_state, MayAct, MayActAt, Plans, BoardView, queue_at, MayMake, ◌+◌, ◌-◌, ◌%◌, ◌≤◌, Bool, true, List, [], ◌∷◌, sym, slice_get_within, slice_get-get_or, Layout, Item, Ticket, given_of, object_with, step_of, ReaderState, Barrier, Note, Check, Bars, new_reader, IsRun, Config, is_within_limits, fresh_at, Holder, GraceStep, action_effect, is_blocked, change_of, world_after, queue_of, retire_on, ask_for, work_change, first_in, CanStart, LoadsNoGroup, IsAtQueue, IsInRange, IsReached}
use Rattle.world.proofs.Rows.{by_option, TurnRow, Asking, Blocking, Finding, Ending, turn_of, WasAt, WorkerRows, IsUpdate, any_updates, Each, Law, by_law}
use Rattle.world.proofs.Callbacks.{its_work, Callbacks, RetireKept, BatchKept, IsAt, BarKept}
use Rattle.call_rcu_worker.specs.Worker.{next_of}
use Rattle.world.proofs.Fence.{Work, Starts, Pending, Holds, Laws, even_at, runs_no_group}
use Rattle.world.proofs.State.{Asker, Syncing, Working, core_work, place_work, work_of, Kept, stands_at, works_at}
use Rattle.world.proofs.Logged.{logged}

module _ {P : Type 0} (plans : Plans P) (w : BoardView P) (now : State) (k : Callbacks w now) (small : length w.log < 2 ^ 63) where
  may_act : (a : QueueAct) (j : ℕ) → MayAct a (queue_at w.queues j) → MayActAt a (slice_get w.queues j)
  may_act a j h = by_option (MayActAt a) (slice_get w.queues j) (λ e. tt) (λ q e. subst (MayAct a) (get_or_from_slice_get w.queues j q empty_queue_state e) h)

  makes_retire : (u : ℕ) (x : UpdaterState P) (o : ObjectId) (step : RetireStep) → RetireKept {P = P} w.objects w.queues (length w.updaters) u (Retires o step) → MayMake w (retire_on w u x o step)
  makes_retire u x o RetireStep.Mark h = may_act QueueAct.Leave (queue_of w u) tt
  makes_retire u x o RetireStep.Count h = may_act QueueAct.Count (queue_of w u) (let low = (k.queues (queue_of w u)).given_low in let same = h.1.3 in omega (arith, low, same, small))
  makes_retire u x o RetireStep.Push h = may_act (QueueAct.Push o) (queue_of w u) ((k.queues (queue_of w u)).is_open, h.1.2, let low = (k.queues (queue_of w u)).given_low in omega (arith, low, small))
  makes_retire u x o RetireStep.Free h = may_act QueueAct.Free (queue_of w u) tt

  module _ (n : ℕ) (x : WorkerState P) where
    abbrev mine : QueueState
    mine = queue_at w.queues n

    -- what the queue is told of a grace period
    abbrev MayTell : ℕ → Tickets → SyncCore P → GraceStep P → Type 0
    MayTell ask tickets sync step = BatchKept mine.items.ready mine.items.waiting mine.items.cookie now.asked now.awaited now.asked_sections x.ask tickets.left sync → is_blocked step.answer ≡ false → MayMake w (work_change n ask tickets step)

    makes_row : (ask : ℕ) (tickets : Tickets) (sync : SyncCore P) (step : GraceStep P) → TurnRow plans w (Holder.Worker n) ask sync (Ok step) → MayTell ask tickets sync step
    makes_row ask tickets _ _ (Asking c is) h made = may_act (QueueAct.Note c) n (let same = h.1 in let some = h.2 in omega (arith, same, some))
    makes_row ask tickets _ _ (Blocking c other held) h made = absurd (true≢false made)
    makes_row ask tickets _ _ (Finding c up) h made = may_act (QueueAct.Advance w.grace.seq) n tt
    makes_row ask tickets _ _ (Ending from c p at done) h made = may_act (QueueAct.Advance (action_effect w (plans.action p)).grace.seq) n tt
    makes_row ask tickets _ _ _ h made = may_act QueueAct.Leave n tt

    works : WorkerRows plans w n x (λ v. MayMake w)
    works = record {
      takes = λ q at is free some. let rests = its_work w now k n x at.was at.at in may_act QueueAct.Seal n (rests.0, rests.1);
      works = λ sync tickets step at is goes on. makes_row (ask_for w x.ask sync) tickets sync step (turn_of plans w (Holder.Worker n) (ask_for w x.ask sync) sync step is) (its_work w now k n x at.was at.at).0 goes;
      runs = λ tickets first at is. may_act QueueAct.Pop n tt;
      counts = λ tickets ticket item at. may_act QueueAct.Finish n (let low = (k.queues n).given_low in let gone = (its_work w now k n x at.was at.at).2 in omega (arith, low, gone, small));
    }

  retiring : (u : ℕ) (x : UpdaterState P) (o : ObjectId) (step : RetireStep) → WasAt plans w u x (Retires o step) → MayMake w (retire_on w u x o step)
  retiring u x o step at = makes_retire u x o step
      (subst (λ (p : UpdaterPlace P). RetireKept w.objects w.queues (length w.updaters) u p) (stands_at w.updaters u x at.was at.at) (k.retiring u))

  update_makes : (change : Change P) → IsUpdate change → MayMake w change
  update_makes (Change.Retire u x q act mark answer) is = absurd is
  update_makes (Change.Work k x grace act mark answer) is = absurd is
  update_makes _ is = tt

  law : Law plans w (λ line. MayMake w)
  law = record {
    stays = λ line answer never none. tt;
    reads = λ r v verb was step row. tt;
    updates = λ u x was. any_updates plans w u x (λ v. MayMake w) (λ v. update_makes) (retiring u x);
    works = λ n x was. works n x;
  }

  pub may_make : (line : Line) (change : Change P) → change_of plans w line ≡ Ok change → MayMake w change
  may_make line change e = subst (Each plans w (λ l. MayMake w) line) e (by_law plans w (λ l. MayMake w) law line)

-- ---- the numbers of a kept world are small enough for its next step

module _ {P : Type 0} {plans : Plans P} {layout : Layout} {slots : ℕ} {laws : Laws plans layout slots} {w : BoardView P} {now : State} (k : Kept plans layout slots laws w now) (callbacks : Callbacks w now) where
  -- whoever makes a plan, finds numbers that a plan can begin with
  can_start : (x : Asker) (ask cookie : ℕ) → work_of w.updaters w.workers x ≡ Starts ask cookie → CanStart w.grace
  can_start x ask cookie is = record { even = even; seq = seq; word = word plans.qsbr refl }
    where
      even : w.grace.seq % 2 ≡ 0
      even = even_at k.part.grace_kept x (subst (λ (v : Work P). Holds v) (sym is) tt) (λ a c p e. cc (sym is ∙ e))

      seq : w.grace.seq ≤ 2 ^ 62
      seq =
          let p = k.part.asks_kept.pending x ask cookie (subst (λ (v : Work P). Pending v ask cookie) (sym is) (refl, refl)) in
          let below = k.part.grace_kept.starts x ask cookie is in
          omega (arith, below, p.3, p.4, even)

      word : (b : Bool) → plans.qsbr ≡ b → w.grace.word ≤ 2 ^ 62
      word true q = let n = k.part.grace_kept.number_low q in omega (arith, n, seq)
      word false f = let n = k.phase_low f in omega (arith, n)

  at_queue : (u : ℕ) (x : UpdaterState P) (b : Barrier) → slice_get w.updaters u ≡ Some x → x.place ≡ Bars b → IsAtQueue w b.due
  at_queue u x b is place =
      let kept = subst (λ (p : UpdaterPlace P). BarKept w.queues now.noted now.cleared now.noted_objects p)
      (stands_at w.updaters u x is place) (callbacks.barring u) in
      (elim b.due as (λ step. IsAt step (length w.queues) → IsAtQueue w step) [ Note q ↦ λ h. h | Check q ↦ λ h. h ]) kept.3

  -- a plan that runs loads no group word
  no_group : (x : Asker) (ask : ℕ) (core : SyncCore P) → work_of w.updaters w.workers x ≡ core_work ask core → LoadsNoGroup (step_of plans.action core)
  no_group x ask (SyncCore.Runs c p) is group e = runs_no_group (k.part.grace_kept.running x ask c p is) group (cc (e))
  no_group x ask _ is group e = cc

  -- the first ready item has the ticket that its worker waits for
  at_first : (n : ℕ) (x : WorkerState P) (tickets : Tickets) (first : Ticket × ObjectId) → slice_get w.workers n ≡ Some x → x.core ≡ WorkerCore.Pops tickets → first_in (slice_get w.queues n) ≡ Some first → first.0 ≡ next_of tickets
  at_first n x tickets first is pops found = by mine.items.ready refl (sym (ap first_in (slice_get-get_or w.queues n empty_queue_state (subst (λ m. n < m) callbacks.sizes.manned (slice_get_within w.workers n x is)))) ∙ found)
    where
      mine : QueueState
      mine = queue_at w.queues n

      batch : (mine.items.waiting ≡ []) × (tickets.left ≡ length mine.items.ready) × (1 ≤ tickets.left) × (mine.finished ≡ mine.items.gone) × (tickets.last.0 ≡ mine.items.gone + tickets.left)
      batch = its_work w now callbacks n x is pops

      next_is : (let t : Ticket = record { 0 = mine.items.gone + 1 } in t) ≡ next_of tickets
      next_is = let some = batch.2 in let last = batch.4 in let same : mine.items.gone + 1 ≡ tickets.last.0 - (tickets.left - 1) = omega (arith, some, last) in ap (λ (m : ℕ). let t : Ticket = record { 0 = m } in t) same

      by : (l : List (Item Unit)) → mine.items.ready ≡ l → object_with (mine.items.gone + 1) mine.items.ready ≡ Some first → first.0 ≡ next_of tickets
      by [] e f = let none = sym (ap (object_with (mine.items.gone + 1)) e) ∙ f in absurd (cc)
      by (i ∷ rest) e f = sym (ticket_is (sym (ap (object_with (mine.items.gone + 1)) e) ∙ f)) ∙ next_is
        where
          ticket_is : Some (record { 0 = mine.items.gone + 1 }, i.object) ≡ Some first → (let t : Ticket = record { 0 = mine.items.gone + 1 } in t) ≡ first.0
          ticket_is same = let one : (record { 0 = mine.items.gone + 1 }, i.object) ≡ first = cc in ap (λ (found : Ticket × ObjectId). found.0) one

  pub in_range : IsInRange plans w
  in_range = record {
    some_reader = subst (λ n. 1 ≤ n) (sym k.shape.sized) k.shape.some_slot;
    queues = record { some = callbacks.sizes.some; few = callbacks.sizes.few };
    ordinals = λ r v is. subst (λ (x : ReaderState). x.ordinal ≤ length w.log) (get_or_from_slice_get w.readers r v new_reader is) (k.ordinals r);
    copies = λ q r v copy is has.
        let l = ((k.readers_kept r).copying copy (ap (λ (x : ReaderState). x.copy) (get_or_from_slice_get w.readers r v new_reader is) ∙ has)).1 q in
        let n = k.part.grace_kept.number_low q in
        omega (arith, l, n, k.seq_low);
    asks = k.asks_low;
    barriers = callbacks.numbers.barriers_low;
    starts = λ u x ask cookie is place. can_start (Syncing u) ask cookie (ap place_work (stands_at w.updaters u x is place));
    worker_starts = λ n x cookie tickets is core. can_start (Working n) x.ask cookie (works_at w.workers n x is core);
    plans_run = λ u x ask core is place. no_group (Syncing u) ask core (ap place_work (stands_at w.updaters u x is place));
    worker_plans_run = λ n x core tickets is at. no_group (Working n) x.ask core (works_at w.workers n x is at);
    given = λ n q is. subst (λ (r : QueueState). given_of r.items ≤ length w.log) (get_or_from_slice_get w.queues n q empty_queue_state is) (callbacks.queues n).given_low;
    pops = at_first;
    bars = at_queue;
    may_make = λ small line change e. may_make plans w now callbacks small line change e;
  }

-- ---- the schedule theorem and its companions, for a plan whose laws are known

module _ {P : Type 0} (plans : Plans P) (laws : (layout : Layout) (slots : ℕ) → Laws plans layout slots) where
  pub runs : (config : Config) (seq : ℕ) (lines : List Line) → is_within_limits config ≡ true → seq % 2 ≡ 0 → seq ≤ 2 ^ 62 → IsRun (world_after plans (fresh_at config seq) lines).log
  runs config seq lines limits even low = (logged plans laws config seq limits even low lines).run

  pub ranges : (w : BoardView P) → IsReached plans w → IsInRange plans w
  ranges w r =
      let l = logged plans laws r.config r.seq r.limits r.even r.low r.lines in
      subst (λ (v : BoardView P). IsInRange plans v) r.leads (in_range l.kept l.callbacks)

-- A drain's steps: where a worker stands alone, its next line is made, and leads to where it stands with one step less.
use Rattle.world.proofs.Cited.{start, after_all, nil_from_length, ◌≡◌, ◌≢◌, ◌↔◌, ℕ, zero, suc, ◌+◌, ◌*◌, ◌%◌, ◌^◌, ◌<◌, ◌≤◌, ltb, cond_both, Bool, true, false, not, List, [], ◌∷◌, length, length-append, slice_get, slice_set, Option, Some, None, Result, Ok, refl, sym, ap, ◌∙◌, subst, arith, or_parts, le-leb, lt-leb, lt-ltb, ltb-true, ltb-false, Refusal, Layout, Narrow, Wide, Item, items_of, after_advance, Action, Load, StoreSeq, Finished, after_loads, FinishesAfter, each_turn, turn_at, turn_count, went_on, SyncCore, WorkerCore, rest_of, turned, is_finished, Change, Work, Answer, Quiet, Worker, Mark, QueueAct, QueueState, ReaderState, GraceState, Holder, WorkerState, acted, changed_at, is_open_in, Items, Plans, BoardView, told, ◌-◌, cond, replicate, Err, ne_eqb, Busy, Exhausted, get_or_from_slice_get, none_some, empty_queue_state, inl, inr, MembPlan, QsbrPlan, Line, Turn, WorkerVerb, stepped, loaded_word, action_effect, lock_effect, done_with, plan_now, operation_test, change_of, with_change, outcome_of, world_after, IsPrompt, IsMade, OfMemb, OfQsbr, memb_plans, qsbr_plans, worked, worker_on, with_core, is_resting, is_none_left, some_open, steps_for, drain_lines, is_busy, items_in, items_to_drain, steps_with, HasDrained, AreMadeFrom, Tells, Drains, IsSettled, AreMade, MeetsDrain, IsReached, slice_get_within, slice_get-get_or, length-set, get_or-set_same}
use Rattle.callback_queue.specs.Queue.{Queue}
use Rattle.call_rcu_worker.specs.declared.worker.Tickets.{Tickets}
use Rattle.world.specs.Row.{after, made}
use Rattle.world.proofs.Rows.{unplanned, rest_tells, not_false, none_is}
use Rattle.std.specs.Prelude.{is_some, OnErr}
use Rattle.world.specs.Lines.{Outcome}
use Rattle.world.specs.Shown.{Meets}
use Rattle.world.proofs.Promises.{reached_step, memb_lines, qsbr_lines}
use Rattle.world.proofs.WorkerSteps.{all_fresh}
use Rattle.world.proofs.Fence.{Laws, Work as Works, Holds}
use Rattle.world.proofs.Callbacks.{its_work}
use Rattle.world.proofs.Logged.{Logged, within_limits, logged}
use Rattle.world.proofs.State.{holder_of}

-- where nobody is in a section, every loaded word says so
none_open : (qsbr : Bool) (layout : Layout) → is_open_in qsbr layout 0 ≡ false
none_open true layout = refl
none_open false Narrow = refl
none_open false Wide = refl

closed_at : (qsbr : Bool) (layout : Layout) (vs : List ReaderState) (slot : ℕ) → some_open qsbr layout vs ≡ false → is_open_in qsbr layout (loaded_word (slice_get vs slot)) ≡ false
closed_at qsbr layout [] slot e = none_open qsbr layout
closed_at qsbr layout (v ∷ vs) zero e = (or_parts (is_open_in qsbr layout v.word) _ e).0
closed_at qsbr layout (v ∷ vs) (suc slot) e = closed_at qsbr layout vs slot (or_parts (is_open_in qsbr layout v.word) _ e).1

-- so a turn that loads one goes on, whatever is due
closed_step : (qsbr : Bool) (mine layout : Layout) (present word : ℕ) (a : Action) → (qsbr ≡ false → mine ≡ layout) → is_open_in qsbr layout word ≡ false → turn_at qsbr mine present a word ≡ Turn.Step
closed_step false mine layout present word (Load slot) same closed = rw (same refl, closed)
closed_step true mine layout present word (Load slot) same closed = rw closed
closed_step qsbr mine layout present word _ same closed = refl

set_there : {X : Type 0} (xs : List X) (k : ℕ) (x y : X) → slice_get xs k ≡ Some x → slice_get (slice_set xs k y) k ≡ Some y
set_there xs k x y there =
    let inside = slice_get_within xs k x there in slice_get-get_or (slice_set xs k y) k y (subst (λ n. k < n) (sym (length-set xs k y)) inside) ∙ ap Some (get_or-set_same xs k y y inside)

-- how many items are ready, and how many wait, of a batch of this many; none is fresh
abbrev pub Batch : Queue (Item Unit) → ℕ → ℕ → ℕ → Type 0
Batch i tickets ready waiting = (1 ≤ tickets) × (length i.ready ≡ ready) × (length i.waiting ≡ waiting) × (length i.fresh ≡ 0)

-- it waits with a cookie, which the grace period will reach that begins at this even number
abbrev pub Noted : Queue (Item Unit) → ℕ → ℕ → ℕ → Type 0
Noted i tickets cookie seq = Batch i tickets 0 tickets × (i.cookie ≡ Some cookie) × (cookie ≡ seq + 2)

-- where the cookie is reached, the batch is ready
advanced : (i : Queue (Item Unit)) (t c seq n : ℕ) → Noted i t c seq → c ≤ n → Batch (after_advance i n) t t 0
advanced i t c seq n b low = rw (b.1, le-leb c n low) (b.0.0, omega (arith, length-append i.ready i.waiting, b.0), refl, b.0.3)

unfinished : (a : Action) → a ≢ Finished → is_finished a ≡ false
unfinished Finished n = absurd (n refl)
unfinished _ n = refl

module _ {P : Type 0} (plans : Plans P) (layout : Layout) where
  -- a plan with this many turns left, each of which goes on where it loads a word with no open section
  pub record Turns (seq rest : ℕ) (p : P) : Type 0 where
    pub finishes : FinishesAfter plans.action plans.turn plans.taken each_turn p rest
    pub last : (words : List ℕ) (word : ℕ) → plans.action (after_loads plans.taken p words) ≢ Finished →
        (plans.action (plans.taken (after_loads plans.taken p words) word) ≡ Finished) ↔ (plans.action (after_loads plans.taken p words) ≡ StoreSeq (seq + 2))
    pub goes_on : (words : List ℕ) (word : ℕ) → is_open_in plans.qsbr layout word ≡ false → plans.turn (after_loads plans.taken p words) word ≡ Turn.Step

  one_less : (seq rest word : ℕ) (p : P) → is_open_in plans.qsbr layout word ≡ false → Turns seq (suc rest) p → Turns seq rest (plans.taken p word)
  one_less seq rest word p closed t =
      let one = ap went_on (t.goes_on [] word closed) in
      record {
        finishes = λ words. let f = t.finishes (word ∷ words) in (λ done. let d = f.0 done in omega (arith, one, d), λ done. f.1 (omega (arith, one, done)));
        last = λ words. t.last (word ∷ words);
        goes_on = λ words. t.goes_on (word ∷ words);
      }

  -- so do all whose turns wait exactly where the law says it, and which keep their layout
  pub all_go_on : (layout_of : P → Layout) (present : P → ℕ) → ((p : P) (word : ℕ) → plans.turn p word ≡ turn_at plans.qsbr (layout_of p) (present p) (plans.action p) word) → ((p : P) (word : ℕ) → layout_of (plans.taken p word) ≡ layout_of p) →
      (p : P) → (plans.qsbr ≡ false → layout_of p ≡ layout) → (words : List ℕ) (word : ℕ) → is_open_in plans.qsbr layout word ≡ false → plans.turn (after_loads plans.taken p words) word ≡ Turn.Step
  all_go_on layout_of present exact keeps p same [] word closed = exact p word ∙ closed_step plans.qsbr (layout_of p) layout (present p) word (plans.action p) same closed
  all_go_on layout_of present exact keeps p same (load ∷ loads) word closed = all_go_on layout_of present exact keeps (plans.taken p load) (λ e. keeps p load ∙ same e) loads word closed

module _ {P : Type 0} (plans : Plans P) where
  abbrev pub AreSound : Type 0
  AreSound = (layout : Layout) (slots seq word : ℕ) → Turns plans layout seq (turn_count plans.qsbr slots) (plans.made layout slots seq word)

  some_turns : (qsbr : Bool) (slots : ℕ) → 1 ≤ turn_count qsbr slots
  some_turns true slots = omega arith
  some_turns false slots = omega arith

  -- how many steps and events are left of a drain, and what is so, where its worker stands there
  module _ (layout : Layout) (count : ℕ) where
    abbrev pub Syncing : GraceState → Queue (Item Unit) → ℕ → ℕ → ℕ → SyncCore P → Type 0
    Syncing g i t left events SyncCore.Asks = (left ≡ count + 4 + 2 * t) × (events ≡ t + 2) × Batch i t 0 t × (g.holder ≡ None) × (g.seq % 2 ≡ 0) × (g.seq < 2 ^ 62)
    Syncing g i t left events (SyncCore.Waits c) = (left ≡ count + 3 + 2 * t) × (events ≡ t + 1) × Noted i t c g.seq × (g.holder ≡ None)
    Syncing g i t left events (SyncCore.Checks c) = (left ≡ count + 2 + 2 * t) × (events ≡ t + 1) × Noted i t c g.seq
    Syncing g i t left events (SyncCore.Starts c) = (left ≡ count + 1 + 2 * t) × (events ≡ t + 1) × Noted i t c g.seq
    Syncing g i t left events (SyncCore.Runs c p) = (seq : ℕ) × (rest : ℕ) × (1 ≤ rest) × (left ≡ rest + 1 + 2 * t) × (events ≡ t + 1) × Noted i t c seq × Turns plans layout seq rest p
    Syncing g i t left events SyncCore.Frees = (left ≡ 1 + 2 * t) × (events ≡ t) × Batch i t t 0
    Syncing g i t left events SyncCore.Done = ⊥

    abbrev pub Stands : GraceState → Queue (Item Unit) → ℕ → ℕ → WorkerCore P Unit → Type 0
    Stands g i left events WorkerCore.Idle = (left ≡ 0) × (events ≡ 0) × (items_of i ≡ []) × (g.holder ≡ None)
    Stands g i left events (WorkerCore.Syncs sync t) = Syncing g i t.left left events sync
    Stands g i left events (WorkerCore.Pops t) = (left ≡ 2 * t.left) × (events ≡ t.left) × Batch i t.left t.left 0 × (g.holder ≡ None)
    Stands g i left events (WorkerCore.Ran t ticket item) = (suc left ≡ 2 * t.left) × (suc events ≡ t.left) × Batch i t.left events 0 × (g.holder ≡ None)
    Stands g i left events _ = ⊥

  -- a worker and its queue where nobody is in a section, with this many steps left, after which so many events are told
  pub record Drain (w : BoardView P) (k left goal : ℕ) : Type 0 where
    pub x : WorkerState P
    pub q : QueueState
    pub is : slice_get w.workers k ≡ Some x
    pub has : slice_get w.queues k ≡ Some q
    pub closed : some_open plans.qsbr w.layout w.readers ≡ false
    pub events : ℕ
    pub logged : length w.log + events ≡ goal
    pub stands : Stands w.layout (turn_count plans.qsbr (length w.readers)) w.grace q.items left events x.core

  -- a line is made, and leads there
  pub record Goes (w : BoardView P) (k left goal : ℕ) (r : Result (Change P) Refusal) : Type 0 where
    pub made : IsMade (with_change w r).answer
    pub drain : Drain ((with_change w r).world) k left goal

  module _ (w : BoardView P) (k left goal : ℕ) (x : WorkerState P) (q : QueueState) (is : slice_get w.workers k ≡ Some x) (has : slice_get w.queues k ≡ Some q) (closed : some_open plans.qsbr w.layout w.readers ≡ false)
      (events : ℕ) (logged : length w.log + events ≡ goal) where
    abbrev Made : Result (Change P) Refusal → Type 0
    Made r = Goes w k left goal r

    pub leads : {y : WorkerState P} {grace : GraceState} {done : QueueAct} {mark : Option Mark} {answer : Answer} (later : ℕ) → IsPrompt answer → length (told answer) + later ≡ events →
        Stands w.layout (turn_count plans.qsbr (length w.readers)) grace (acted done q).items left later y.core → Goes w k left goal (Ok (Work k y grace done mark answer))
    leads {y} {done} {answer} later prompt tells stands = record {
      made = prompt;
      drain = record {
        x = y;
        q = acted done q;
        is = set_there w.workers k x y is;
        has = ap (λ (o : Option QueueState). slice_get (changed_at (acted done) w.queues k o) k) has ∙ set_there w.queues k q (acted done q) has;
        closed = closed;
        events = later;
        logged = omega (arith, length-append w.log (told answer));
        stands = stands;
      };
    }

    loaded_closed : (a : Action) → is_open_in plans.qsbr w.layout (action_effect {P = P} w a).loaded ≡ false
    loaded_closed (Load slot) = closed_at plans.qsbr w.layout w.readers slot closed
    loaded_closed _ = none_open plans.qsbr w.layout

    -- a turn of a plan, whose last one stores the number that the cookie waits for
    turning : (c : ℕ) (t : Tickets) (p : P) (seq rest : ℕ) → 1 ≤ rest → suc left ≡ rest + 1 + 2 * t.left → events ≡ t.left + 1 → Noted q.items t.left c seq → Turns plans w.layout seq rest p →
        Made (made (worked k x.ask t (stepped (action_effect w (plans.action p)).grace x.ask (turned plans.action c p (plans.taken p (action_effect w (plans.action p)).loaded) (plans.turn p (action_effect w (plans.action p)).loaded)))))
    turning c t p seq zero some steps tells n u = absurd (omega arith)
    turning c t p seq (suc rest) some steps tells n u = rw (u.goes_on [] load (loaded_closed (plans.action p))) (by rest (one_less plans w.layout seq rest load p (loaded_closed (plans.action p)) u) (omega arith))
      where
        load : ℕ
        load = (action_effect w (plans.action p)).loaded

        by : (r : ℕ) → Turns plans w.layout seq r (plans.taken p load) → left ≡ r + 1 + 2 * t.left →
            Made (made (worked k x.ask t (stepped (action_effect w (plans.action p)).grace x.ask (turned plans.action c p (plans.taken p load) Turn.Step))))
        by zero v steps =
            let ends = (v.finishes []).1 (omega arith) in
            let stored = ap (λ (a : Action). (action_effect w a).grace.seq) ((u.last [] load (λ f. let d = (u.finishes []).0 f in omega (arith, d))).0 ends) in
            rw ends (leads t.left tt (omega arith) (steps, refl, advanced q.items t.left c seq (action_effect w (plans.action p)).grace.seq n (omega (arith, stored))))
        by (suc r) v steps = rw (unfinished (plans.action (plans.taken p load)) (λ f. let d = (v.finishes []).0 f in omega (arith, d))) (leads events tt (omega arith) (seq, suc r, omega arith, steps, tells, n, v))

    syncs : AreSound → (t : Tickets) (sync : SyncCore P) → Syncing w.layout (turn_count plans.qsbr (length w.readers)) w.grace q.items t.left (suc left) events sync → Made (made (worker_on plans w k x (WorkerCore.Syncs sync t)))
    syncs sound t SyncCore.Asks s = rw (lt-ltb w.grace.seq (2 ^ 62) s.5) (leads (t.left + 1) tt (omega arith) (omega arith, refl, (s.2, refl, omega arith), s.3))
    syncs sound t (SyncCore.Waits c) s = subst (λ (h : Option Holder). Made (made (worked k x.ask t (done_with plans w x.ask (SyncCore.Waits c) (lock_effect w (Holder.Worker k) h))))) (sym s.3) (leads events tt (omega arith) (omega arith, s.1, s.2))
    syncs sound t (SyncCore.Checks c) s = rw (lt-leb c w.grace.seq (omega arith)) (leads events tt (omega arith) (omega arith, s.1, s.2))
    syncs sound t (SyncCore.Starts c) s = turning c t (plan_now plans w) w.grace.seq (turn_count plans.qsbr (length w.readers)) (some_turns plans.qsbr (length w.readers)) s.0 s.1 s.2 (sound w.layout (length w.readers) w.grace.seq w.grace.word)
    syncs sound t (SyncCore.Runs c p) s = rw (unplanned c p (action_effect w (plans.action p)).plan) (turning c t p s.0 s.1 s.2 s.3 s.4 s.5 s.6)
    syncs sound t SyncCore.Frees s = leads events tt (omega arith) (omega arith, s.1, s.2, refl)
    syncs sound t SyncCore.Done s = absurd s

    pops : (t : Tickets) (items : Items) → q.items.ready ≡ items → Stands w.layout (turn_count plans.qsbr (length w.readers)) w.grace q.items (suc left) events (WorkerCore.Pops t) → Made (made (worker_on plans w k x (WorkerCore.Pops t)))
    pops t [] e s = absurd (omega (arith, ap length e))
    pops t (item ∷ items) e s = rw (has, e) (leads (length items) tt (omega (arith, ap length e)) (rw e (omega (arith, ap length e), omega (arith, ap length e), (s.2.0, refl, s.2.2, s.2.3), s.3)))

    goes : AreSound → (c : WorkerCore P Unit) → Stands w.layout (turn_count plans.qsbr (length w.readers)) w.grace q.items (suc left) events c → Made (made (after (operation_test true (not (is_resting c)) ∷ []) (worker_on plans w k x c)))
    goes sound WorkerCore.Idle s = absurd (omega arith)
    goes sound (WorkerCore.Syncs sync t) s = syncs sound t sync s
    goes sound (WorkerCore.Pops t) s = pops t q.items.ready refl s
    goes sound (WorkerCore.Runs t ticket item) s = absurd s
    goes sound (WorkerCore.Ran t ticket item) s = cond_both (ltb 1 t.left) (WorkerCore.Pops (rest_of t)) WorkerCore.Idle (λ (c : WorkerCore P Unit). Made (Ok (Work k (with_core x c) w.grace QueueAct.Finish None Quiet)))
        (λ more. let m = ltb-true 1 t.left more in leads events tt (omega arith) (omega arith, omega arith, (omega arith, omega arith, s.2.2, s.2.3), s.3))
        (λ none. let m = ltb-false 1 t.left none in leads events tt (omega arith) (omega arith, omega arith, nil_from_length (items_of q.items) (simp length-append (omega arith)), s.3))
    goes sound (WorkerCore.Counts t ticket) s = absurd s

  -- a line that goes on
  pub goes_at : AreSound → (w : BoardView P) (k left goal : ℕ) → Drain w k (suc left) goal → Goes w k left goal (change_of plans w (Worker k WorkerVerb.GoOn))
  goes_at sound w k left goal d = rw d.is (goes w k left goal d.x d.q d.is d.has d.closed d.events d.logged sound d.x.core d.stands)

-- where the log has room, a step leaves the world of its outcome
pub made_in_room : {P : Type 0} (outcome : Outcome P) (old new : BoardView P) (r : Result Answer Refusal) → Meets outcome old new r → OnErr r (outcome.world ≡ old) → new ≡ outcome.world
made_in_room outcome old new (Ok a) meets none = meets.1
made_in_room outcome old new (Err e) meets none = meets.0 ∙ sym none

-- ---- a drain from its `take` to its last count, on the board's definitions

some_left : {X : Type 0} (xs : List X) → xs ≢ [] → is_none_left xs ≡ false
some_left [] n = absurd (n refl)
some_left (y ∷ ys) n = refl

-- the number of steps: the `take` and those behind it
steps_count : (qsbr : Bool) (slots items : ℕ) → 1 ≤ items → steps_for qsbr slots items ≡ suc (turn_count qsbr slots + 4 + 2 * items)
steps_count true slots items some = rw (ne_eqb items 0 (λ none. omega (arith, none, some))) (omega arith)
steps_count false slots items some = rw (ne_eqb items 0 (λ none. omega (arith, none, some))) (omega arith)

module _ {P : Type 0} where
  not_busy : (qsbr : Bool) (w : BoardView P) (x : WorkerState P) (q : QueueState) → is_busy qsbr w x q ≡ false → (some_open qsbr w.layout w.readers ≡ false) × (w.grace.holder ≡ None) × (is_some q.holder ≡ false) × (x.core ≡ WorkerCore.Idle)
  not_busy qsbr w x q quiet =
      let a = or_parts (some_open qsbr w.layout w.readers) _ quiet in
      let b = or_parts (is_some w.grace.holder) _ a.1 in
      let c = or_parts (is_some q.holder) _ b.1 in
      (a.0, none_is w.grace.holder b.0, c.0, rest_tells x.core (not_false c.1))

  -- a drain can begin
  pub record Begins (qsbr : Bool) (w : BoardView P) (k items : ℕ) : Type 0 where
    pub x : WorkerState P
    pub q : QueueState
    pub is : slice_get w.workers k ≡ Some x
    pub has : slice_get w.queues k ≡ Some q
    pub quiet : is_busy qsbr w x q ≡ false
    pub count : length (items_of q.items) ≡ items
    pub below : 1 ≤ items → w.grace.seq < 2 ^ 62

  begins : (qsbr : Bool) (w : BoardView P) (k items : ℕ) → items_to_drain qsbr w k ≡ Ok items → Begins qsbr w k items
  begins qsbr w k items = at (slice_get w.workers k) (slice_get w.queues k) refl refl
    where
      at : (ox : Option (WorkerState P)) (oq : Option QueueState) → slice_get w.workers k ≡ ox → slice_get w.queues k ≡ oq → items_in qsbr w ox oq ≡ Ok items → Begins qsbr w k items
      at None oq is has e = absurd (cc)
      at (Some x) None is has e = absurd (cc)
      at (Some x) (Some q) is has e = by (is_busy qsbr w x q) (items_of q.items) (ltb w.grace.seq (2 ^ 62)) refl refl refl e
        where
          by : (busy : Bool) (all : Items) (low : Bool) → is_busy qsbr w x q ≡ busy → items_of q.items ≡ all → ltb w.grace.seq (2 ^ 62) ≡ low → cond busy (Err Busy) (cond (is_none_left all) (Ok 0) (cond low (Ok (length all)) (Err Exhausted))) ≡ Ok items → Begins qsbr w k items
          by true all low quiet is_all below e = absurd (cc)
          by false [] low quiet is_all below e = let none : 0 ≡ items = cc in record { x = x; q = q; is = is; has = has; quiet = quiet; count = ap length is_all ∙ none; below = λ some. absurd (omega (arith, none, some)) }
          by false (y ∷ ys) false quiet is_all below e = absurd (cc)
          by false (y ∷ ys) true quiet is_all below e = record { x = x; q = q; is = is; has = has; quiet = quiet; count = ap length is_all ∙ cc; below = λ some. ltb-true w.grace.seq (2 ^ 62) below }

  pub drains_fresh : (qsbr : Bool) (w : BoardView P) (k : ℕ) (x : WorkerState P) (q : QueueState) → slice_get w.workers k ≡ Some x → slice_get w.queues k ≡ Some q → is_busy qsbr w x q ≡ false → items_of q.items ≢ [] → w.grace.seq < 2 ^ 62 → IsSettled w → items_to_drain qsbr w k ≡ Ok (length q.items.fresh)
  drains_fresh qsbr w k x q is has quiet some below s =
      let empty = s.rested k x q is has (not_busy qsbr w x q quiet).3 in
      rw (is, has, quiet, some_left (items_of q.items) some, lt-ltb w.grace.seq (2 ^ 62) below, all_fresh q.items empty.0 empty.1)

module _ {P : Type 0} (plans : Plans P) where
  abbrev next : BoardView P → ℕ → BoardView P
  next w k = (outcome_of plans w (Worker k WorkerVerb.GoOn)).world

  -- the lines that are left of a drain are made
  finish : AreSound plans → (w : BoardView P) (k left goal : ℕ) → Drain plans w k left goal → AreMadeFrom plans w (replicate left (Worker k WorkerVerb.GoOn)) × Drain plans (world_after plans w (replicate left (Worker k WorkerVerb.GoOn))) k 0 goal
  finish sound w k zero goal d = (tt, d)
  finish sound w k (suc left) goal d =
      let g = goes_at plans sound w k left goal d in
      let r = finish sound (next w k) k left goal g.drain in
      ((g.made, r.0), r.1)

  -- once none is left, all is told, the worker rests, and nothing is left
  ended : (w : BoardView P) (k goal : ℕ) → Drain plans w k 0 goal → (length w.log ≡ goal) × (IsSettled w → HasDrained w k)
  ended w k goal d = by d.x.core refl d.stands
    where
      by : (c : WorkerCore P Unit) → d.x.core ≡ c → Stands plans w.layout (turn_count plans.qsbr (length w.readers)) w.grace d.q.items 0 d.events c → (length w.log ≡ goal) × (IsSettled w → HasDrained w k)
      by WorkerCore.Idle idle s = (omega (arith, d.logged), λ settled. rw (d.is, d.has) (idle, (s.2, (settled.rested k d.x d.q d.is d.has idle).2), s.3))
      by (WorkerCore.Syncs SyncCore.Asks t) idle s = absurd (omega arith)
      by (WorkerCore.Syncs _ t) idle s = absurd (omega arith)
      by _ idle s = absurd (omega arith)

  -- the loop of a drain: the lines that are left lead to this board, and the log has room for all that is told
  pub record Under (final w : BoardView P) (k left goal room : ℕ) : Type 0 where
    pub drain : Drain plans w k left goal
    pub leads_to : world_after plans w (replicate left (Worker k WorkerVerb.GoOn)) ≡ final
    pub reached : IsReached plans w
    pub fits : goal ≤ room

  -- a round of the loop
  pub record Round (final w : BoardView P) (k left goal room : ℕ) : Type 0 where
    pub fits : length (next w k).log ≤ room
    pub under : (more : ℕ) → room ≤ more → Under final (next w k) k left goal more

  pub round : AreSound plans → (final w : BoardView P) (k done steps goal room : ℕ) → done < steps → Under final w k (steps - done) goal room → Round final w k (steps - (done + 1)) goal room
  round sound final w k done steps goal room less under =
      let u = subst (λ n. Under final w k n goal room) (let one : steps - done ≡ suc (steps - (done + 1)) = omega (arith, less) in one) under in
      let g = goes_at plans sound w k (steps - (done + 1)) goal u.drain in
      record {
        fits = let logged = g.drain.logged in let fits = u.fits in omega (arith, logged, fits);
        under = λ more grows. record { drain = g.drain; leads_to = u.leads_to; reached = reached_step plans w (Worker k WorkerVerb.GoOn) u.reached; fits = let fits = u.fits in omega (arith, fits, grows) };
      }

  module _ (w : BoardView P) (k items : ℕ) (e : items_to_drain plans.qsbr w k ≡ Ok items) (s : IsSettled w) where
    b : Begins plans.qsbr w k items
    b = begins plans.qsbr w k items e

    rests : (some_open plans.qsbr w.layout w.readers ≡ false) × (w.grace.holder ≡ None) × (is_some b.q.holder ≡ false) × (b.x.core ≡ WorkerCore.Idle)
    rests = not_busy plans.qsbr w b.x b.q b.quiet

    empty : (b.q.items.ready ≡ []) × (b.q.items.waiting ≡ []) × (b.q.finished ≡ b.q.items.gone)
    empty = s.rested k b.x b.q b.is b.has rests.3

    -- nothing is queued
    pub drained_none : items ≡ 0 → Drains plans k w w (Ok 0)
    drained_none none = (ap (steps_with plans.qsbr (length w.readers)) (e ∙ ap Ok none), refl, tt, rw (b.is, b.has) (rests.3, (nil_from_length (items_of b.q.items) (b.count ∙ none), empty.2), rests.1))

    -- a drain begins with its `take`
    module _ (sound : AreSound plans) (some : 1 ≤ items) where
      abbrev behind : ℕ
      behind = turn_count plans.qsbr (length w.readers) + 4 + 2 * items

      abbrev goal : ℕ
      goal = length w.log + (items + 2)

      first : Goes plans w k behind goal (change_of plans w (Worker k WorkerVerb.Take))
      first =
          let fresh = sym (ap length (all_fresh b.q.items empty.0 empty.1)) ∙ b.count in
          rw (b.is, rests.3, b.has, rests.2, some_left (items_of b.q.items) (λ none. let n = sym b.count ∙ ap length none in omega (arith, n, some)), rests.3, lt-ltb 0 (length b.q.items.fresh) (omega (arith, fresh, some)))
          (leads plans w k behind goal b.x b.q b.is b.has rests.0 (items + 2) refl (items + 2) tt (omega arith) (omega (arith, fresh), omega (arith, fresh), (omega (arith, fresh, some), ap length empty.0, refl, refl), rests.1, s.even rests.1, b.below some))

      pub first_fits : (room : ℕ) → goal ≤ room → length ((outcome_of plans w (Worker k WorkerVerb.Take)).world).log ≤ room
      first_fits room fits = let logged = first.drain.logged in omega (arith, logged, fits)

      -- all its lines are made, and lead to its end
      whole : (steps : ℕ) → steps ≡ steps_for plans.qsbr (length w.readers) items → AreMadeFrom plans w (drain_lines k steps) × Drain plans (world_after plans w (drain_lines k steps)) k 0 goal
      whole steps is =
          let r = finish sound ((outcome_of plans w (Worker k WorkerVerb.Take)).world) k behind goal first.drain in
          subst (λ n. AreMadeFrom plans w (drain_lines k n) × Drain plans (world_after plans w (drain_lines k n)) k 0 goal) (sym (is ∙ steps_count plans.qsbr (length w.readers) items some)) ((first.made, r.0), r.1)

      pub tells : Tells plans w k
      tells = (steps_for plans.qsbr (length w.readers) items, ap (steps_with plans.qsbr (length w.readers)) e, let all = (ended _ k goal (whole _ refl).1).0 in omega (arith, all))

      module _ (v : BoardView P) (steps room : ℕ) (count : steps ≡ steps_for plans.qsbr (length w.readers) items) where
        pub loop_first : IsReached plans w → v ≡ (outcome_of plans w (Worker k WorkerVerb.Take)).world → goal ≤ room → Under (world_after plans w (drain_lines k steps)) v k (steps - 1) goal room
        loop_first reached is fits =
            let n = count ∙ steps_count plans.qsbr (length w.readers) items some in
            rw (is, n) (subst (λ m. Under (world_after plans w (drain_lines k (suc behind))) ((outcome_of plans w (Worker k WorkerVerb.Take)).world) k m goal room) (let m : behind ≡ suc behind - 1 = omega arith in m)
            (record { drain = first.drain; leads_to = refl; reached = reached_step plans w (Worker k WorkerVerb.Take) reached; fits = fits }))

        pub drained : IsSettled v → (done : ℕ) → steps ≤ done → Under (world_after plans w (drain_lines k steps)) v k (steps - done) goal room → Drains plans k w v (Ok steps)
        drained settled done past under =
            let u = subst (λ n. Under (world_after plans w (drain_lines k steps)) v k n goal room) (let none : steps - done ≡ 0 = omega (arith, past) in none) under in
            (ap (steps_with plans.qsbr (length w.readers)) e ∙ ap Ok (sym count), u.leads_to, (whole steps count).0, (ended v k goal u.drain).1 settled)

-- ---- what a worker that rests finds, on every board that lines led to

settled_from : {P : Type 0} (plans : Plans P) (layout : Layout) (slots : ℕ) (laws : Laws plans layout slots) (w : BoardView P) → Logged plans layout slots laws w → slots ≤ 64 → IsSettled w
settled_from {P} plans layout slots laws w l few = record {
  even = λ free. l.kept.part.grace_kept.even (λ x a c p runs. none_some x (sym (ap holder_of free) ∙ l.kept.part.grace_kept.held x (subst (λ (v : Works P). Holds v) (sym runs) tt)));
  rested = λ k x q is has idle. rw (get_or_from_slice_get w.queues k q empty_queue_state has) at (its_work w (after_all start w.log) l.callbacks k x is idle);
  few_readers = subst (λ n. n ≤ 64) (sym l.kept.shape.sized) few;
}

pub settles : {P : Type 0} (plans : Plans P) (laws : (layout : Layout) (slots : ℕ) → Laws plans layout slots) (w : BoardView P) → IsReached plans w → IsSettled w
settles {P} plans laws w r = subst (λ (v : BoardView P). IsSettled v) r.leads
    (settled_from plans r.config.layout r.config.readers (laws r.config.layout r.config.readers) _ (logged plans laws r.config r.seq r.limits r.even r.low r.lines) (within_limits r.config r.limits).readers.1)

-- ---- a drain of a board, as the world shows it

memb_made : (w : BoardView MembPlan) (lines : List Line) → AreMadeFrom memb_plans w lines → AreMade (OfMemb w) lines
memb_made w [] made = tt
memb_made w (line ∷ lines) made = (made.0, memb_made ((outcome_of memb_plans w line).world) lines made.1)

qsbr_made : (w : BoardView QsbrPlan) (lines : List Line) → AreMadeFrom qsbr_plans w lines → AreMade (OfQsbr w) lines
qsbr_made w [] made = tt
qsbr_made w (line ∷ lines) made = (made.0, qsbr_made ((outcome_of qsbr_plans w line).world) lines made.1)

pub memb_drain : (k : ℕ) (old new : BoardView MembPlan) (r : Result ℕ Refusal) → Drains memb_plans k old new r → MeetsDrain k (OfMemb old) (OfMemb new) r
memb_drain k old new (Ok steps) d = (d.0, ap OfMemb d.1 ∙ sym (memb_lines old (drain_lines k steps)), memb_made old (drain_lines k steps) d.2, d.3)
memb_drain k old new (Err e) (same, inl refused) = (ap OfMemb same, inl refused)
memb_drain k old new (Err e) (same, inr (none, (steps, count, longer))) = (ap OfMemb same, inr (none, (steps, count, rw (memb_lines old (drain_lines k steps)) longer)))

pub qsbr_drain : (k : ℕ) (old new : BoardView QsbrPlan) (r : Result ℕ Refusal) → Drains qsbr_plans k old new r → MeetsDrain k (OfQsbr old) (OfQsbr new) r
qsbr_drain k old new (Ok steps) d = (d.0, ap OfQsbr d.1 ∙ sym (qsbr_lines old (drain_lines k steps)), qsbr_made old (drain_lines k steps) d.2, d.3)
qsbr_drain k old new (Err e) (same, inl refused) = (ap OfQsbr same, inl refused)
qsbr_drain k old new (Err e) (same, inr (none, (steps, count, longer))) = (ap OfQsbr same, inr (none, (steps, count, rw (qsbr_lines old (drain_lines k steps)) longer)))

-- a drain leads from a reached board to a reached one
reached_lines : {P : Type 0} (plans : Plans P) (w : BoardView P) (lines : List Line) → IsReached plans w → IsReached plans (world_after plans w lines)
reached_lines plans w [] r = r
reached_lines plans w (line ∷ lines) r = reached_lines plans ((outcome_of plans w line).world) lines (reached_step plans w line r)

pub reached_drain : {P : Type 0} (plans : Plans P) (k : ℕ) (old new : BoardView P) (r : Result ℕ Refusal) → Drains plans k old new r → IsReached plans old → IsReached plans new
reached_drain plans k old new (Ok steps) d reached = subst (IsReached plans) (sym d.1) (reached_lines plans old (drain_lines k steps) reached)
reached_drain plans k old new (Err e) d reached = subst (IsReached plans) (sym d.0) reached

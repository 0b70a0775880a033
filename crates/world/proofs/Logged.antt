-- The world's log is a run, and the world stands as the machine does after it: for every line, and every list of lines.
use Rattle.world.proofs.Cited.{AwaitsOpen, awaits_open, length-replicate, ◌≡◌, ℕ, true≢false, zero, suc, ◌+◌, ◌%◌, ◌^◌, ◌≤◌, nat_le, true, List, [], ◌∷◌, ◌++◌, length, get_or, replicate, slice_get, Option, Some, None, Result, Ok, refl, sym, ap, ◌∙◌, subst, arith, and_parts, leb-true, Event, ObjectId, Refusal, State, start, after_all, IsRun, IsPlace, follows, none_some, allowed_append, after_append, Layout, Config, Line, Fresh, ReaderState, UpdaterState, UpdaterPlace, Idle, Publishes, Syncs, Change, Read, Begin, Publish, is_in, is_within_limits, new_reader, fresh_object, Plans, BoardView, idle, fresh_at, changed, no_object, word_of, ReaderKept, not_new, InQueue, queue_at, WorkerState, new_worker, Life, QueueState, empty_queue_state, SyncCore, new_core, Holder, Publishing, next_object, with_change, outcome_of, world_after}
use Rattle.world.proofs.Rows.{ByPush, ByReplace, ByCut, ByPushed, ByReplaced, BySync, ByTurn, ByStart, ByPoll, ByHold, ByRetire, ByBarrier, ByNote, ByCheck, ByClear, ReaderRows, UpdaterRows, Law, by_change, over_line}
use Rattle.world.proofs.Fence.{Work, Rests, Pending, Holds, Laws}
use Rattle.world.proofs.State.{Asker, Syncing, Polling, Working, place_work, started_work, worker_work, worker_at, work_of, UpdaterKept, told_by, log_after, Kept, Owes, IsUnderWay}
use Rattle.world.proofs.KeptReaders.{there as reader_there, OwesRead, owes_reads}
use Rattle.world.proofs.KeptPublishing.{There, there, owes_push, owes_replace, owes_cut, owes_pushed, owes_replaced}
use Rattle.world.proofs.Asking.{IsDue, owes_turn, owes_start, owes_poll}
use Rattle.world.proofs.Callbacks.{LifeKept, QueueKept, RetireKept, WorkAt, BarKept, Barring, Callbacks, IsPlain, other_reads, PlainChange, OwesAll, plainly}
use Rattle.world.proofs.Retirements.{owes_hold, owes_on, owes_barrier, owes_note, owes_check, owes_clear}
use Rattle.world.proofs.WorkerSteps.{owes_batch, owes_take, owes_run, owes_count}

pub get_replicate : {X : Type 0} (x : X) (n i : ℕ) → get_or (replicate n x) i x ≡ x
get_replicate x zero i = refl
get_replicate x (suc n) zero = refl
get_replicate x (suc n) (suc i) = get_replicate x n i

module _ {P : Type 0} (plans : Plans P) (layout : Layout) (slots : ℕ) (laws : Laws plans layout slots) where
  module _ (w : BoardView P) (now : State) (k : Kept plans layout slots laws w now) (c : Callbacks w now) where
    abbrev OwesNow : Result (Change P) Refusal → Type 0
    OwesNow x = OwesAll k c x

    -- a change that callbacks do not notice
    plain : (change : Change P) → PlainChange w change → Owes plans layout slots laws w now (Ok change) → OwesNow (Ok change)
    plain = plainly k c

    reads : (r : ℕ) (v : ReaderState) → slice_get w.readers r ≡ Some v → ReaderRows plans.qsbr w.layout w r v (λ step. OwesNow (Ok (Read r step)))
    reads r v was step row = plain (Read r step) (other_reads plans.qsbr w.layout w r v step row)
        (subst (λ (l : Layout). ReaderRows plans.qsbr l w r v (OwesRead k r)) (sym k.shape.laid) (owes_reads k r v (reader_there k r v was)) step row)

    -- a grace period that rests between two lines is due
    under_way : (u ask : ℕ) (sync : SyncCore P) → IsUnderWay sync → IsDue k (Holder.Updater u) ask sync
    under_way u ask SyncCore.Asks h = absurd h
    under_way u ask SyncCore.Done h = absurd h
    under_way u ask _ h = h

    module _ (u : ℕ) (x : UpdaterState P) (t : There k u x) where
      mine : (place : UpdaterPlace P) → x.place ≡ place → UpdaterKept w.heads w.objects (length w.updaters) u place
      mine place is = subst (UpdaterKept w.heads w.objects (length w.updaters) u) is t.mine

      rests : x.place ≡ Idle → IsPlain x.place
      rests is = subst (λ (p : UpdaterPlace P). IsPlain p) (sym is) (tt, tt)

      updates : UpdaterRows plans w u x (λ v change. OwesNow (Ok change))
      updates _ _ (ByPush h head at is writes') = plain (Begin u (record x { place = Publishes (Publishing.Push (next_object w)) }) (fresh_object h head)) (t.inside, (tt, tt), refl, refl) (owes_push k u x h head t (ap place_work at.at) is writes')
      updates _ _ (ByReplace o y at is) = plain (Begin u (record x { place = Publishes (Publishing.Replace o (next_object w)) }) (fresh_object y.chain y.link)) (t.inside, (tt, tt), refl, refl) (owes_replace k u x o y t (ap place_work at.at) is)
      updates _ _ (ByCut o y at is) = plain (Publish u x (record { chain = y.chain; before = y.before; after = y.link; leaves = Some o; enters = None }) (Event.Cut y.chain o)) (t.inside, rests at.at, tt) (owes_cut k u x o y t at.at is)
      updates _ _ (ByPushed m y at is) = plain (Publish u (record x { place = Idle }) (record { chain = y.chain; before = None; after = y.link; leaves = None; enters = Some m }) (Event.Push y.chain m)) (t.inside, (tt, tt), tt)
          (owes_pushed k u x m y t (ap place_work at.at) (mine (Publishes (Publishing.Push m)) at.at) is)
      updates _ _ (ByReplaced o m y at is) = plain (Publish u (record x { place = Idle }) (record { chain = y.chain; before = y.before; after = y.link; leaves = Some o; enters = Some m }) (Event.Replace y.chain o m)) (t.inside, (tt, tt), tt)
          (owes_replaced k u x o m y t (ap place_work at.at) (mine (Publishes (Publishing.Replace o m)) at.at) is)
      updates _ _ (BySync step at is goes on) = owes_turn k c u x t (w.grace.asks + 1) new_core step (ap place_work at.at) refl is goes on
      updates _ _ (ByTurn ask place step at is goes on) = owes_turn k c u x t ask place step (ap place_work at.at) (under_way u ask place (mine (Syncs ask place) at.at)) is goes on
      updates _ _ (ByStart cookie at is) = owes_start k c u x t cookie at.at is
      updates _ _ (ByPoll s at is up) = owes_poll k c u x t s at.at is up
      updates _ _ (ByHold o q at may is free) = owes_hold k c u x t o at.at may q is free
      updates _ _ (ByRetire o due at) = owes_on k c u x t o due at.at
      updates _ _ (ByBarrier at) = owes_barrier k c u x t at.at
      updates _ _ (ByNote b q at is) = owes_note k c u x t b at.at q is
      updates _ _ (ByCheck b q at is up more) = owes_check k c u x t b at.at q is up more
      updates _ _ (ByClear b q at is up last) = owes_clear k c u x t b at.at q is up last

    owes : AwaitsOpen now → Law plans w (λ line change. OwesNow (Ok change))
    owes opens = record {
      stays = λ line answer never none. (tt, k, c);
      reads = λ r v verb was. reads r v was;
      updates = λ u x was. updates u x (there k u x was);
      works = λ n x was. record {
        takes = λ q at is free some. owes_take k c n x was at.at q is some;
        works = λ sync tickets step at is goes on. owes_batch k c n x was opens sync tickets step at.at is goes on;
        runs = λ tickets first at is. owes_run k c n x was tickets at.at first is;
        counts = λ tickets ticket item at. owes_count k c n x was tickets ticket item at.at;
      };
    }

  -- the log so far is a run, and the world is kept beside the machine after it
  pub record Logged (w : BoardView P) : Type 0 where
    pub run : IsRun w.log
    pub kept : Kept plans layout slots laws w (after_all start w.log)
    pub callbacks : Callbacks w (after_all start w.log)

  logged_change : (w : BoardView P) (l : Logged w) (change : Change P) → OwesNow w (after_all start w.log) l.kept l.callbacks (Ok change) → Logged (changed w change)
  logged_change w l change owed =
      let log : (changed w change).log ≡ w.log ++ told_by change = log_after w change in
      let after : after_all start (changed w change).log ≡ after_all (after_all start w.log) (told_by change) = ap (after_all start) log ∙ after_append start w.log (told_by change) in
      record {
        run = subst (λ (es : List Event). IsRun es) (sym log) (allowed_append start w.log (told_by change) l.run owed.0);
        kept = subst (Kept plans layout slots laws (changed w change)) (sym after) owed.1;
        callbacks = subst (Callbacks (changed w change)) (sym after) owed.2;
      }

  pub logged_step : (w : BoardView P) (line : Line) → Logged w → Logged ((outcome_of plans w line).world)
  logged_step w line l =
      let now = after_all start w.log in
      by_change plans w (λ line change. OwesNow w now l.kept l.callbacks (Ok change)) (λ x. Logged ((with_change w x).world)) (owes w now l.kept l.callbacks (awaits_open w.log)) line (λ e. l) (logged_change w l)

  pub logged_lines : (w : BoardView P) (lines : List Line) → Logged w → Logged (world_after plans w lines)
  logged_lines w [] l = l
  logged_lines w (line ∷ lines) l = logged_lines ((outcome_of plans w line).world) lines (logged_step w line l)

  fresh_callbacks : (config : Config) (seq : ℕ) → 1 ≤ config.workers → config.workers ≤ 8 → Callbacks (fresh_at {P = P} config seq) start
  fresh_callbacks config seq some few =
      let queue = get_replicate empty_queue_state config.workers in
      let updater_is = get_replicate (idle {P = P}) config.updaters in
      let none_there : (j t : ℕ) (o : ObjectId) → ¬ InQueue (queue_at (replicate config.workers empty_queue_state) j) t o = λ j t o h. subst (λ (q : QueueState). InQueue q t o) (queue j) h in record {
        sizes =
            let long = length-replicate config.workers empty_queue_state in
            record { some = subst (λ n. 1 ≤ n) (sym long) some; few = subst (λ n. n ≤ 8) (sym long) few; manned = length-replicate config.workers new_worker ∙ sym long };
        items = record {
          lives = λ o. subst (λ (l : Life). LifeKept l o [] [] []) (sym (kept_at o.0)) ((λ h. h), (λ h. h), (λ h. h));
          found = λ o e. cc (sym (kept_at o.0) ∙ e);
          there = λ j t o h. absurd (none_there j t o h);
          one_place = λ i j s t o g h. absurd (none_there i s o g);
        };
        queues = λ j. subst (λ (q : QueueState). QueueKept q 0 (λ _. [])) (sym (queue j)) (record { is_open = refl; given_low = omega arith; announced = omega arith; at_rest = λ e. refl; ready_free = λ o h. absurd h });
        retiring = λ u. subst (λ (x : UpdaterState P). RetireKept (fresh_at {P = P} config seq).objects (fresh_at {P = P} config seq).queues (length (fresh_at {P = P} config seq).updaters) u x.place) (sym (updater_is u)) tt;
        working = λ n. subst (λ (q : QueueState). WorkAt q [] (λ _. []) (λ _. []) (worker_at (fresh_at {P = P} config seq).workers n)) (sym (queue n))
            (subst (λ (x : WorkerState P). WorkAt empty_queue_state [] (λ _. []) (λ _. []) x) (sym (get_replicate new_worker config.workers n)) (refl, refl, omega arith));
        barring = λ u. subst (λ (x : UpdaterState P). BarKept (fresh_at {P = P} config seq).queues [] [] (λ _. []) x.place) (sym (updater_is u)) tt;
        one_barrier = λ u v n a b. absurd (subst (λ (x : UpdaterState P). Barring x.place n) (updater_is u) a);
        numbers = record { noted_low = λ b h. absurd h; cleared_noted = λ b h. absurd h; barriers_low = omega arith };
      }
    where
      kept_at : (n : ℕ) → (get_or (fresh_object 0 None ∷ []) n no_object).life ≡ Life.Kept
      kept_at zero = refl
      kept_at (suc n) = refl

  -- a world in which nothing has happened
  pub logged_fresh : (config : Config) (seq : ℕ) → config.layout ≡ layout → config.readers ≡ slots → 1 ≤ slots → 1 ≤ config.workers → config.workers ≤ 8 → seq % 2 ≡ 0 → seq ≤ 2 ^ 62 → Logged (fresh_at config seq)
  logged_fresh config seq laid sized some some_worker few even low = record {
    callbacks = fresh_callbacks config seq some_worker few;
    run = tt;
    kept = record {
      shape = record { laid = laid; sized = length-replicate config.readers new_reader ∙ sized; some_slot = some };
      links_kept = record {
        chains = λ c. record { once = tt; words = words c; befores = λ o h. absurd h };
        linked = λ c o h. absurd h;
        links = λ o is. cc (sym (fresh o.0) ∙ is);
        was_cut = λ o h. absurd h;
        cuts = λ o is. cc (sym (fresh o.0) ∙ is);
        used_known = λ o h. absurd h;
        targets = λ o f is. cc (sym (fresh o.0) ∙ is);
      };
      places_kept = λ u. subst (λ (x : UpdaterState P). UpdaterKept (fresh_at {P = P} config seq).heads (fresh_at {P = P} config seq).objects (length (replicate config.updaters (idle {P = P}))) u x.place) (sym (get_replicate idle config.updaters u)) tt;
      readers_kept = λ r. subst (λ (v : ReaderState). ReaderKept plans.qsbr layout r v 0 (fresh_at {P = P} config seq).objects [] [] (λ _. [])) (sym (get_replicate new_reader config.readers r))
          (record {
            low = λ n h. absurd h;
            opened = λ e. absurd (true≢false (sym e ∙ not_new plans.qsbr layout));
            opens = λ n h. absurd h;
            holds = λ o e. absurd (none_some o e);
            copying = λ copy e. cc;
            marked = λ _. omega arith;
          });
      part = record {
        asks_kept = record {
          asked_low = λ a h. absurd h;
          answered_asked = λ a h. absurd h;
          pending = λ x a c h. absurd (subst (λ (v : Work P). Pending v a c) (rests x) h);
          one_each = λ x y a c d h i. absurd (subst (λ (v : Work P). Pending v a c) (rests x) h);
        };
        grace_kept = record {
          held = λ x h. absurd (subst (λ (v : Work P). Holds v) (rests x) h);
          starts = λ x a c e. cc (sym (rests x) ∙ e);
          running = λ x a c p e. cc (sym (rests x) ∙ e);
          even = λ _. even;
          number_low = λ _. omega arith;
        };
        fenced = λ x a c s h has. absurd has;
        awaited_open = λ a s h. absurd h;
      };
      ordinals = λ r. subst (λ (v : ReaderState). v.ordinal ≤ 0) (sym (get_replicate new_reader config.readers r)) (omega arith);
      asks_low = omega arith;
      seq_low = omega (arith, low);
      phase_low = λ _. omega arith;
    };
  }
    where
      fresh : (n : ℕ) → (get_or (fresh_object 0 None ∷ []) n no_object).stage ≡ Fresh
      fresh zero = refl
      fresh (suc n) = refl

      rests : (x : Asker) → work_of {P = P} (replicate config.updaters idle) (replicate config.workers new_worker) x ≡ Rests
      rests (Syncing u) = ap (λ (x : UpdaterState P). place_work x.place) (get_replicate idle config.updaters u)
      rests (Polling u) = ap (λ (x : UpdaterState P). started_work x.started) (get_replicate idle config.updaters u)
      rests (Working n) = ap (λ (x : WorkerState P). worker_work x.ask x.core) (get_replicate new_worker config.workers n)

      words : (c : ℕ) (q : Option ObjectId) → IsPlace [] q → word_of (replicate config.chains None) (fresh_object 0 None ∷ []) c q ≡ follows [] q
      words c None h = get_replicate None config.chains c
      words c (Some o) h = absurd h

-- the limits of a config leave a reader
in_limits : (low high n : ℕ) → is_in low high n ≡ true → (low ≤ n) × (n ≤ high)
in_limits low high n e = let b = and_parts (nat_le low n) (nat_le n high) e in (leb-true low n b.0, leb-true n high b.1)

pub record Within (config : Config) : Type 0 where
  pub readers : (1 ≤ config.readers) × (config.readers ≤ 64)
  pub workers : (1 ≤ config.workers) × (config.workers ≤ 8)
  pub chains : config.chains ≤ 64

pub within_limits : (config : Config) → is_within_limits config ≡ true → Within config
within_limits config e =
    let three = and_parts _ (is_in 1 64 config.chains) e in
    let two = and_parts _ (is_in 1 8 config.workers) three.0 in
    record {
      readers = in_limits 1 64 config.readers (and_parts (is_in 1 64 config.readers) (is_in 1 16 config.updaters) two.0).0;
      workers = in_limits 1 8 config.workers two.1;
      chains = (in_limits 1 64 config.chains three.1).1;
    }

-- a world that lines led to
module _ {P : Type 0} (plans : Plans P) (laws : (layout : Layout) (slots : ℕ) → Laws plans layout slots) (config : Config) (seq : ℕ) (limits : is_within_limits config ≡ true) (even : seq % 2 ≡ 0) (low : seq ≤ 2 ^ 62) where
  abbrev pub LoggedNow : BoardView P → Type 0
  LoggedNow w = Logged plans config.layout config.readers (laws config.layout config.readers) w

  pub at_first : LoggedNow (fresh_at config seq)
  at_first = logged_fresh plans config.layout config.readers (laws config.layout config.readers) config seq refl refl (within_limits config limits).readers.0 (within_limits config limits).workers.0 (within_limits config limits).workers.1 even low

  pub logged : (lines : List Line) → LoggedNow (world_after plans (fresh_at config seq) lines)
  logged lines = logged_lines plans config.layout config.readers (laws config.layout config.readers) (fresh_at config seq) lines at_first

  -- what is so at first, and what each change keeps, is so
  module _ (I : BoardView P → Type 0) (F : BoardView P → Line → Change P → Type 0) (keeps : (w : BoardView P) (line : Line) (change : Change P) → F w line change → I w → I (changed w change)) (law : (w : BoardView P) → LoggedNow w → Law plans w (F w)) where
    from : (w : BoardView P) (lines : List Line) → LoggedNow w → I w → I (world_after plans w lines)
    from w [] l i = i
    from w (line ∷ lines) l i = from ((outcome_of plans w line).world) lines (logged_step plans config.layout config.readers (laws config.layout config.readers) w line l) (over_line plans I F keeps w (law w l) line i)

    pub always : (lines : List Line) → I (fresh_at config seq) → I (world_after plans (fresh_at config seq) lines)
    always lines i = from (fresh_at config seq) lines at_first i

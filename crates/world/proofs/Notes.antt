-- What readers and updaters note is what their latest lines were answered.
use Rattle.world.proofs.Cited.{◌≡◌, ◌≢◌, ℕ, ◌+◌, ◌==◌, cond, Bool, List, [], ◌∷◌, ◌++◌, slice_get, slice_set, Option, Some, None, Ok, refl, sym, ap, ◌∙◌, subst, option_or, eq-eqb, ne_eqb, cond-true, cond-false, get_or_from_slice_get, slice_get_within, Event, ObjectId, Layout, announced, Line, ReaderState, ReaderStep, Holder, RetireStep, Retires, UpdaterState, Change, Read, Begin, Publish, Grace, Hold, Bar, section_of, new_reader, quietly, telling, with_word, opened, closed, Plans, BoardView, changed, told, true, false, Result, Err, Refusal, Answer, Events, Quiet, Reader, Updater, Worker, UpdaterVerb, Started, UpdaterPlace, Idle, answer_of, idle, Config, fresh_at, world_after, change_of, with_change, outcome_of, retire_on, queue_of, ask_for, events_of}
use Rattle.std.specs.List.{AllByRecursion as Every}
use Rattle.world.specs.Notes.{got_after, got_last, AreFromLast, cursor_of, Reply, note_of, noted_by, noted_after, noted_last, IsAnswerTo, IsOfNoted, IsPolled, ArePolled, started_by, replies_to, AreNoted}
use Rattle.world.proofs.Rows.{tells, Copies, Nests, Unnests, Unlocks, Leaves, Enters, GoesOnline, Announces, Firsts, Nexts, Touches, ReaderRows, IsPublishing, IsWaiting, IsUpdate, any_updates, WasAt, Law, over_lines, stalled_silent, ByStart, ByPoll, ByRetire, any_works, UpdaterRows, by_change}
use Rattle.world.proofs.State.{at_each, at_updaters, told_by, log_after, updater_at}
use Rattle.world.proofs.Logged.{get_replicate}

-- the same number, and two that differ
pub itself : {X : Type 0} (n : ℕ) (x y : X) → cond (n == n) x y ≡ x
itself n x y = cond-true (n == n) x y (eq-eqb n n refl)

pub another : {X : Type 0} (n m : ℕ) (x y : X) → m ≢ n → cond (n == m) x y ≡ y
another n m x y apart = cond-false (n == m) x y (ne_eqb n m (λ e. apart (sym e)))

-- ---- what a reader's own step tells

-- the object that a reader got last goes on so, over these events
abbrev GoesOn : ℕ → Option ObjectId → Option ObjectId → List Event → Type 0
GoesOn r was is es = (is ≡ got_last r was es) × AreFromLast r was es

pub record Stands (r : ℕ) (v : ReaderState) (step : ReaderStep) : Type 0 where
  pub own : GoesOn r v.cursor step.state.cursor (told step.answer)
  pub others : (s : ℕ) → s ≢ r → (got : Option ObjectId) → GoesOn s got got (told step.answer)

module _ {P : Type 0} (qsbr : Bool) (layout : Layout) (w : BoardView P) (r : ℕ) (v : ReaderState) where
  stands_quiet : (v' : ReaderState) → v'.cursor ≡ v.cursor → Stands r v (quietly v')
  stands_quiet v' same = record { own = (same, tt); others = λ s apart got. (refl, tt) }

  stands_opened : (word : ℕ) → Stands r v (telling (Event.Open (section_of r (v.ordinal + 1))) (opened v word))
  stands_opened word = record { own = (sym (itself r None v.cursor), (tt, tt)); others = λ s apart got. (sym (another r s None got apart), (tt, tt)) }

  stands_closed : (word : ℕ) → Stands r v (telling (Event.Close (section_of r v.ordinal)) (closed v word))
  stands_closed word = record { own = (sym (itself r None v.cursor), (tt, tt)); others = λ s apart got. (sym (another r s None got apart), (tt, tt)) }

  stands : ReaderRows qsbr layout w r v (Stands r v)
  stands _ (Copies none zero) = stands_quiet (record v { copy = Some w.grace.word }) refl
  stands _ (Nests word none flavour more is) = stands_quiet (with_word v word) refl
  stands _ (Unnests word none flavour is more) = stands_quiet (with_word v word) refl
  stands _ (Unlocks word none flavour is zero) = stands_closed word
  stands _ (Leaves none flavour online) = stands_closed 0
  stands _ (Enters copied word has flavour is) = stands_opened word
  stands _ (GoesOnline copied has flavour offline) = stands_opened (announced copied)
  stands _ (Announces copied has flavour online) = record {
    own = (sym (itself r None (cond (r == r) None v.cursor)), (tt, (tt, tt)));
    others = λ s apart got. (sym (another r s None (cond (r == s) None got) apart ∙ another r s None got apart), (tt, (tt, tt)));
  }
  stands _ (Firsts c head none open' is) = record {
    own = (sym (itself r (option_or head v.cursor) v.cursor), (tt, tt));
    others = λ s apart got. (sym (another r s (option_or head got) got apart), (tt, tt));
  }
  stands _ (Nexts o x none open' from is) = record {
    own = (sym (itself r (option_or x.link v.cursor) v.cursor), ((λ _. from), tt));
    others = λ s apart got. (sym (another r s (option_or x.link got) got apart), ((λ e. absurd (apart (sym e))), tt));
  }
  stands _ (Touches o none open' from) = record {
    own = (refl, ((λ _. from), tt));
    others = λ s apart got. (refl, ((λ e. absurd (apart (sym e))), tt));
  }

-- ---- the rows

module _ {P : Type 0} (plans : Plans P) (w : BoardView P) where
  abbrev GoOnBy : Change P → Type 0
  GoOnBy change = (s : ℕ) → GoesOn s (cursor_of w s) (cursor_of (changed w change) s) (told_by change)

  read_on : (r : ℕ) (v : ReaderState) (step : ReaderStep) → slice_get w.readers r ≡ Some v → Stands r v step → GoOnBy (Read r step)
  read_on r v step was stands = at_each new_reader (λ s y. GoesOn s (cursor_of w s) y.cursor (told step.answer)) w.readers r step.state (slice_get_within w.readers r v was)
      (subst (λ (c : Option ObjectId). GoesOn r c step.state.cursor (told step.answer)) (sym (ap (λ (y : ReaderState). y.cursor) (get_or_from_slice_get w.readers r v new_reader was))) stands.own)
      (λ s apart. stands.others s apart (cursor_of w s))

  read_retire : (u : ℕ) (x : UpdaterState P) (o : ObjectId) (step : RetireStep) → WasAt plans w u x (Retires o step) → GoOnBy (retire_on w u x o step)
  read_retire u x o RetireStep.Mark at s = (refl, (tt, tt))
  read_retire u x o RetireStep.Count at s = (refl, tt)
  read_retire u x o RetireStep.Push at s = (refl, (tt, tt))
  read_retire u x o RetireStep.Free at s = (refl, tt)

  -- and updaters tell them nothing
  published_on : (s : ℕ) (got : Option ObjectId) (e : Event) → IsPublishing e → GoesOn s got got (e ∷ [])
  published_on s got (Event.Push c o) is = (refl, (tt, tt))
  published_on s got (Event.Replace c old new) is = (refl, (tt, tt))
  published_on s got (Event.Cut c o) is = (refl, (tt, tt))
  published_on s got _ is = absurd is

  waits_on : (s : ℕ) (got : Option ObjectId) (es : List Event) → Every IsWaiting es → GoesOn s got got es
  waits_on s got [] is = (refl, tt)
  waits_on s got (Event.Ask a ∷ es) is = let more = waits_on s got es is.1 in (more.0, (tt, more.1))
  waits_on s got (Event.Answer a ∷ es) is = let more = waits_on s got es is.1 in (more.0, (tt, more.1))
  waits_on s got (Event.Bar b ∷ es) is = let more = waits_on s got es is.1 in (more.0, (tt, more.1))
  waits_on s got (Event.Clear b ∷ es) is = let more = waits_on s got es is.1 in (more.0, (tt, more.1))
  waits_on s got (_ ∷ es) is = absurd is.0

  update_on : (change : Change P) → IsUpdate change → GoOnBy change
  update_on (Begin u x object) is s = (refl, tt)
  update_on (Publish u x splice event) is s = published_on s (cursor_of w s) event is
  update_on (Grace u x grace answer) is s = waits_on s (cursor_of w s) (told answer) is
  update_on (Hold u x q) is s = (refl, tt)
  update_on (Bar u x barriers answer) is s = waits_on s (cursor_of w s) (told answer) is
  update_on _ is s = absurd is

  law : Law plans w (λ line. GoOnBy)
  law = record {
    stays = λ line answer never none s. (refl, tt);
    reads = λ r v verb was step row. read_on r v step was (stands plans.qsbr w.layout w r v step row);
    updates = λ u x was. any_updates plans w u x (λ v. GoOnBy) (λ v. update_on) (read_retire u x);
    works = λ k x was. record {
      takes = λ q at is free some s. (refl, tt);
      works = λ sync tickets step at is goes on s. tells plans w (Holder.Worker k) (ask_for w x.ask sync) (GoesOn s (cursor_of w s) (cursor_of w s)) (refl, tt) (refl, (tt, tt)) (refl, (tt, tt)) sync step is;
      runs = λ tickets first at is s. (refl, (tt, tt));
      counts = λ tickets ticket item at s. (refl, tt);
    };
  }

-- ---- all lines

got_more : (r : ℕ) (got : Option ObjectId) (xs ys : List Event) → got_last r got (xs ++ ys) ≡ got_last r (got_last r got xs) ys
got_more r got [] ys = refl
got_more r got (e ∷ xs) ys = got_more r (got_after r got e) xs ys

reads_more : (r : ℕ) (got : Option ObjectId) (xs ys : List Event) → AreFromLast r got xs → AreFromLast r (got_last r got xs) ys → AreFromLast r got (xs ++ ys)
reads_more r got [] ys p q = q
reads_more r got (e ∷ xs) ys p q = (p.0, reads_more r (got_after r got e) xs ys p.1 q)

module _ {P : Type 0} where
  -- every reader stands there, by the log so far
  abbrev pub AllStand : BoardView P → Type 0
  AllStand w = (r : ℕ) → GoesOn r None (cursor_of w r) w.log

  stand_on : (plans : Plans P) (w : BoardView P) (line : Line) (change : Change P) → GoOnBy plans w change → AllStand w → AllStand (changed w change)
  stand_on plans w line change m k r =
      let goes : GoesOn r (got_last r None w.log) (cursor_of (changed w change) r) (told_by change) =
      subst (λ (c : Option ObjectId). GoesOn r c (cursor_of (changed w change) r) (told_by change)) (k r).0 (m r) in
      subst (GoesOn r None (cursor_of (changed w change) r)) (sym (log_after w change))
      (goes.0 ∙ sym (got_more r None w.log (told_by change)), reads_more r None w.log (told_by change) (k r).1 goes.1)

  pub stand_lines : (plans : Plans P) (w : BoardView P) (lines : List Line) → AllStand w → AllStand (world_after plans w lines)
  stand_lines plans = over_lines plans AllStand (λ w line. GoOnBy plans w) (stand_on plans) (law plans)

-- ---- an updater notes the ask and the cookie of its latest `start`, until a `poll` answers it

both_same : (b : Bool) (x y : Option Started) → x ≡ y → y ≡ cond b x y
both_same true x y e = sym e
both_same false x y e = refl

module _ {P : Type 0} (plans : Plans P) (w : BoardView P) where
  -- what an updater noted goes on so, over a line that is answered so
  abbrev NotedBy : Line → Result Answer Refusal → ℕ → Option Started → Option Started → Type 0
  NotedBy line reply s was is = (is ≡ noted_after s was (w.grace.seq, line, reply)) × IsPolled s was (w.grace.seq, line, reply)

  -- a reply that tells nothing leaves it
  leaves : (v : UpdaterVerb) (reply : Result Answer Refusal) → events_of reply ≡ [] → (n : Option Started) → (noted_by v w.grace.seq reply n ≡ n) × IsOfNoted v reply n
  leaves UpdaterVerb.Start (Ok (Events e second)) none n = absurd (cc)
  leaves UpdaterVerb.Poll (Ok (Events e second)) none n = absurd (cc)
  leaves _ _ none n = (refl, tt)

  unmoved : (line : Line) (reply : Result Answer Refusal) → events_of reply ≡ [] → (s : ℕ) (n : Option Started) → NotedBy line reply s n n
  unmoved (Reader r v) reply none s n = (refl, tt)
  unmoved (Updater u v) reply none s n = let left = leaves v reply none n in (both_same (u == s) (noted_by v w.grace.seq reply n) n left.0, λ e. left.1)
  unmoved (Worker k v) reply none s n = (refl, tt)

  abbrev NotedOver : Line → Change P → Type 0
  NotedOver line change = (s : ℕ) → NotedBy line (Ok (answer_of change)) s (started_by w s) (started_by (changed w change) s)

  module _ (u : ℕ) (x : UpdaterState P) (was : slice_get w.updaters u ≡ Some x) where
    noted_now : started_by w u ≡ x.started
    noted_now = ap (λ (y : UpdaterState P). y.started) (get_or_from_slice_get w.updaters u x idle was)

    -- the updater is so then, and has what its verb notes
    noted : (v : UpdaterVerb) (y : UpdaterState P) (answer : Answer) → y.started ≡ noted_by v w.grace.seq (Ok answer) (started_by w u) → IsOfNoted v (Ok answer) (started_by w u) → (s : ℕ) → NotedBy (Updater u v) (Ok answer) s (started_by w s) (updater_at (slice_set w.updaters u y) s).started
    noted v y answer own polls = at_updaters (λ s z. NotedBy (Updater u v) (Ok answer) s (started_by w s) z.started) w.updaters u y (slice_get_within w.updaters u x was)
        (own ∙ sym (itself u (noted_by v w.grace.seq (Ok answer) (started_by w u)) (started_by w u)), λ _. polls)
        (λ s apart. (sym (another u s (noted_by v w.grace.seq (Ok answer) (started_by w s)) (started_by w s) apart), λ e. absurd (apart (sym e))))

    -- it stands elsewhere, and has what it noted
    same : (v : UpdaterVerb) (place : UpdaterPlace P) (answer : Answer) → ((n : Option Started) → (noted_by v w.grace.seq (Ok answer) n ≡ n) × IsOfNoted v (Ok answer) n) → (s : ℕ) → NotedBy (Updater u v) (Ok answer) s (started_by w s) (updater_at (slice_set w.updaters u (record x { place = place })) s).started
    same v place answer left = noted v (record x { place = place }) answer (sym noted_now ∙ sym (left (started_by w u)).0) (left (started_by w u)).1

    retires : (o : ObjectId) (step : RetireStep) → NotedOver (Updater u UpdaterVerb.GoOn) (retire_on w u x o step)
    retires o RetireStep.Mark = same UpdaterVerb.GoOn (Retires o RetireStep.Count) (Events (Event.Retire o) None) (λ n. (refl, tt))
    retires o RetireStep.Count = same UpdaterVerb.GoOn (Retires o RetireStep.Push) Quiet (λ n. (refl, tt))
    retires o RetireStep.Push = same UpdaterVerb.GoOn (Retires o RetireStep.Free) (Events (Event.Queue o (queue_of w u)) None) (λ n. (refl, tt))
    retires o RetireStep.Free = same UpdaterVerb.GoOn Idle Quiet (λ n. (refl, tt))

    updates : UpdaterRows plans w u x (λ v. NotedOver (Updater u v))
    updates _ _ (ByStart cookie at is) = noted UpdaterVerb.Start _ (Events (Event.Ask (w.grace.asks + 1)) None) (sym (ap (note_of (Event.Ask (w.grace.asks + 1))) is)) tt
    updates _ _ (ByPoll y at is up) = noted UpdaterVerb.Poll _ (Events (Event.Answer y.ask) None) refl (subst (λ (n : Option Started). IsAnswerTo n (Event.Answer y.ask)) (sym (noted_now ∙ is)) refl)
    updates _ _ (ByRetire o step at) = retires o step
    updates v change _ = same v _ (answer_of change) (λ n. (refl, tt))

  notes : Law plans w NotedOver
  notes = record {
    stays = λ line answer never stalled s. unmoved line (Ok answer) (stalled_silent answer stalled) s (started_by w s);
    reads = λ r v verb was step row s. (refl, tt);
    updates = updates;
    works = λ k x was. any_works plans w k x (λ v. NotedOver (Worker k v)) (λ v y grace act mark answer s. (refl, tt));
  }

  abbrev NotedAfter : Line → Result (Change P) Refusal → Type 0
  NotedAfter line y = (s : ℕ) → NotedBy line ((with_change w y).answer) s (started_by w s) (started_by ((with_change w y).world) s)

  noted_step : (line : Line) → NotedAfter line (change_of plans w line)
  noted_step line = by_change plans w NotedOver (NotedAfter line) notes line (λ e s. unmoved line (Err e) refl s (started_by w s)) (λ change over. over)

-- ---- all lines

abbrev pub NotedLast : ℕ → List Reply → Option Started → Option Started → Type 0
NotedLast s xs was is = (is ≡ noted_last s was xs) × ArePolled s was xs

pub noted_lines : {P : Type 0} (plans : Plans P) (w : BoardView P) (lines : List Line) (s : ℕ) → NotedLast s (replies_to plans w lines) (started_by w s) (started_by (world_after plans w lines) s)
noted_lines plans w [] s = (refl, tt)
noted_lines plans w (line ∷ lines) s =
    let next = (outcome_of plans w line).world in
    let step = noted_step plans w line s in
    let rest = subst (λ (n : Option Started). NotedLast s (replies_to plans next lines) n (started_by (world_after plans next lines) s)) step.0 (noted_lines plans next lines s) in
    (rest.0, (step.1, rest.1))

-- ---- what readers and updaters note is what their latest lines were answered

module _ {P : Type 0} (plans : Plans P) (config : Config) (seq : ℕ) where
  abbrev fresh : BoardView P
  fresh = fresh_at config seq

  pub all_noted : (lines : List Line) → AreNoted (world_after plans fresh lines) (replies_to plans fresh lines)
  all_noted lines =
      let stands = stand_lines plans fresh lines (λ r. (ap (λ (v : ReaderState). v.cursor) (get_replicate new_reader config.readers r), tt)) in
      let noted = λ (u : ℕ).
      subst (λ (n : Option Started). NotedLast u (replies_to plans fresh lines) n (started_by (world_after plans fresh lines) u)) (ap (λ (x : UpdaterState P). x.started) (get_replicate idle config.updaters u)) (noted_lines plans fresh lines u) in
      record {
        cursors = λ r. (stands r).0;
        reads = λ r. (stands r).1;
        starts = λ u. (noted u).0;
        polls = λ u. (noted u).1;
      }

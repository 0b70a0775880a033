-- How events are numbered: each number is at most twice the number of lines, and is given once, and in order.
use Rattle.world.proofs.Cited.{OpenSeen, open_seen, kept_log, run_parts, append_assoc, IsRun, split_at, set_split, take, drop, ◌≡◌, inl, ℕ, ◌+◌, ◌*◌, ◌%◌, ◌^◌, ◌<◌, ◌≤◌, true, List, [], ◌∷◌, ◌++◌, length, Option, Some, None, Result, Ok, refl, sym, ap, ◌∙◌, subst, arith, length-append, All, length-replicate, All-from_recursion, Event, Open, Close, First, Next, Touch, Push, Replace, Cut, Retire, Queue, Run, Ask, Clear, ObjectId, SectionId, Refusal, State, start, IsAllowed, AreAllowed, after, after_all, In, in_objects, after_append, at_number_same, Layout, Config, Answer, Events, Line, Change, Read, Begin, Publish, Grace, Work, Mark, ObjectState, is_within_limits, marked_life, Plans, BoardView, told, fresh_at, within, length_heads, spliced_length, length_written, inr, ⊎_elim, got, in_sections, in_numbers, at_section_same, Kept, SafeIn, linked, cut_last, cut_before, kept_step, mod_below, slice_get_within, SyncCore, ReaderState, Holder, RetireStep, UpdaterState, Hold, ◌≢◌, ◌⊎◌, zero, suc, ◌==◌, slice_get, slice_set, IsPermutation, append-nil, filter_map, cons_option, range_with_len, filter_map-append, length-range_with_len, IsPermutation-sym, IsPermutation-middle, eq-eqb, ne_eqb, cond-true, cond-false, section_of, Bool, ReaderStep, ◌-◌, replicate, IsPermutation-refl, IsPermutation-trans, IsPermutation-append_right, IsPermutation-push_more, IsPermutation-pop_more, get_or_from_slice_get, new_core, step_of, SyncStep, QueueAct, UpdaterPlace, Syncs, Retires, WorkerState, WorkerCore, new_reader, changed, idle, reader_at, Life, change_of, with_change, outcome_of, world_after, grace_change, GraceStep, grace_row, place_at, sync_place, retire_on, ask_for}
use Rattle.std.specs.List.{AllByRecursion as Every}
use Rattle.world.specs.Numbering.{IsFoundWithin, IsNumberedWithin}
use Rattle.world.proofs.Fence.{Laws}
use Rattle.world.proofs.Logged.{Logged, logged_step, within_limits, at_first, get_replicate, always}
use Rattle.world.proofs.Rows.{IsPublishing, Each, by_law, Copies, Nests, Unnests, Announces, Firsts, ReaderRows, IsWaiting, IsUpdate, any_updates, Law, tells, Enters, GoesOnline, ByPush, ByReplace, ByCut, ByPushed, ByReplaced, BySync, ByTurn, ByStart, ByPoll, ByHold, ByRetire, ByBarrier, ByNote, ByCheck, ByClear, UpdaterRows, WasAt, Fits, fits_step}
use Rattle.world.specs.Given.{CountUp, ordinal_of, made_by, ask_of, barrier_of, object_of, IsCounted, made_at, AreGivenOnce}
use Rattle.world.proofs.State.{at_each, told_by, log_after, UpdaterKept, stands_at}

every_append : {X : Type 0} (F : X → Type 0) (xs ys : List X) → Every F xs → Every F ys → Every F (xs ++ ys)
every_append F [] ys p q = q
every_append F (x ∷ xs) ys p q = (p.0, every_append F xs ys p.1 q)

-- ---- what events name

-- what a state knows is at most this
record Low (seen : List SectionId) (used : List ObjectId) (asked noted : List ℕ) (most : ℕ) : Type 0 where
  sections : (s : SectionId) → In seen s → s.ordinal ≤ most
  objects : (o : ObjectId) → In used o → o.0 ≤ most
  asks : (a : ℕ) → In asked a → a ≤ most
  barriers : (b : ℕ) → In noted b → b ≤ most

abbrev IsLow : State → ℕ → Type 0
IsLow now most = Low now.seen now.used now.asked now.noted most

-- nothing is forgotten, so it was low before
low_before : (now : State) (e : Event) (most : ℕ) → IsLow (after now e) most → IsLow now most
low_before now (Open s) most l = record { sections = λ t h. l.sections t (inr h); objects = l.objects; asks = l.asks; barriers = l.barriers }
low_before now (Push c o) most l = record { sections = l.sections; objects = λ p h. l.objects p (inr h); asks = l.asks; barriers = l.barriers }
low_before now (Replace c old new) most l = record { sections = l.sections; objects = λ p h. l.objects p (inr h); asks = l.asks; barriers = l.barriers }
low_before now (Ask n) most l = record { sections = l.sections; objects = l.objects; asks = λ a h. l.asks a (inr h); barriers = l.barriers }
low_before now (Event.Bar n) most l = record { sections = l.sections; objects = l.objects; asks = l.asks; barriers = λ b h. l.barriers b (inr h) }
low_before now (First s c None) most l = l
low_before now (Next s o None) most l = l
low_before now _ most l = l

low_all : (now : State) (es : List Event) (most : ℕ) → IsLow (after_all now es) most → IsLow now most
low_all now [] most l = l
low_all now (e ∷ es) most l = low_before now e most (low_all (after now e) es most l)

-- what a section holds was put into a chain
safe_used : (now : State) (s : SectionId) (o : ObjectId) → Kept now → SafeIn now s o → In now.used o
safe_used now s o k (linked c h) = k.linking.linked_used c o h
safe_used now s o k (cut_last h waits e) = k.linking.cut_used o h
safe_used now s o k (cut_before m h waits e rest) = k.linking.cut_used o h

held_used : (now : State) (s : SectionId) (o : ObjectId) → Kept now → In (now.held s) o → In now.used o
held_used now s o k h = safe_used now s o k (k.safe s o h)

found_low : (now : State) (s : SectionId) (found : Option ObjectId) (most : ℕ) → Kept (got now s found) → IsLow (got now s found) most → IsFoundWithin most found
found_low now s None most k l = tt
found_low now s (Some o) most k l = l.objects o (held_used (got now s (Some o)) s o k (subst (λ (os : List ObjectId). In os o) (sym (at_section_same s (o ∷ now.held s) now.held)) (inl refl)))

-- the reader, the chain or the queue of the event is below the limit of a config
abbrev IsPlaced : Event → Type 0
IsPlaced (Open s) = s.reader < 64
IsPlaced (Close s) = s.reader < 64
IsPlaced (First s c found) = (s.reader < 64) × (c < 64)
IsPlaced (Next s o found) = s.reader < 64
IsPlaced (Touch s o) = s.reader < 64
IsPlaced (Push c o) = c < 64
IsPlaced (Replace c old new) = c < 64
IsPlaced (Cut c o) = c < 64
IsPlaced (Queue o q) = q < 8
IsPlaced _ = Unit {0}

-- what an event names is known then
numbered : (now : State) (e : Event) (most : ℕ) → Kept now → OpenSeen now → IsAllowed now e → IsPlaced e → IsLow (after now e) most → IsNumberedWithin most e
numbered now (Open s) most k o a p l = (p, l.sections s (inl refl))
numbered now (Close s) most k o a p l = (p, l.sections s (o s (in_sections now.sections s a)))
numbered now (First s c found) most k o a p l =
    ((p.0, (low_before now (First s c found) most l).sections s (o s (in_sections now.sections s a.0))), p.1, found_low now s found most (kept_step now (First s c found) k a) l)
numbered now (Next s q found) most k o a p l =
    let was = low_before now (Next s q found) most l in
    ((p, was.sections s (o s (in_sections now.sections s a.0))), was.objects q (held_used now s q k (in_objects (now.held s) q a.1)), found_low now s found most (kept_step now (Next s q found) k a) l)
numbered now (Touch s q) most k o a p l = ((p, l.sections s (o s (in_sections now.sections s a.0))), l.objects q (held_used now s q k (in_objects (now.held s) q a.1)))
numbered now (Push c q) most k o a p l = (p, l.objects q (inl refl))
numbered now (Replace c old new) most k o a p l = (p, l.objects old (inr (k.linking.linked_used c old (in_objects (now.chain c) old a.0))), l.objects new (inl refl))
numbered now (Cut c q) most k o a p l = (p, l.objects q (k.linking.linked_used c q (in_objects (now.chain c) q a)))
numbered now (Retire q) most k o a p l = l.objects q (k.linking.cut_used q (in_objects now.cut q a.0))
numbered now (Queue q j) most k o a p l = (l.objects q (k.linking.cut_used q (k.linking.retired_cut q (in_objects now.retired q a.0))), p)
numbered now (Run q) most k o a p l = l.objects q (k.linking.cut_used q (k.linking.retired_cut q (k.queued_retired q (in_objects now.queued q a.0))))
numbered now (Ask n) most k o a p l = l.asks n (inl refl)
numbered now (Event.Answer n) most k o a p l = l.asks n (in_numbers now.asked n a.0)
numbered now (Event.Bar n) most k o a p l = l.barriers n (inl refl)
numbered now (Clear n) most k o a p l = l.barriers n (in_numbers now.noted n a.0)

all_numbered : (log es : List Event) (most : ℕ) → IsRun (log ++ es) → Every IsPlaced es → IsLow (after_all start (log ++ es)) most → Every (IsNumberedWithin most) es
all_numbered log [] most run p l = tt
all_numbered log (e ∷ es) most run p l =
    let now = after_all start log in
    let parts = run_parts (log ++ e ∷ es) log (e ∷ es) run refl in
    let more : log ++ e ∷ es ≡ (log ++ e ∷ []) ++ es = sym (append_assoc log (e ∷ []) es) in (
      numbered now e most (kept_log log parts.0) (open_seen log parts.0) parts.1.0 p.0 (low_all (after now e) es most (subst (λ (s : State). IsLow s most) (sym parts.2) l)),
      all_numbered (log ++ e ∷ []) es most (subst (λ (xs : List Event). IsRun xs) more run) p.1 (subst (λ (xs : List Event). IsLow (after_all start xs) most) more l),
    )

-- ---- where they name it

-- of what publishes the machine's lists tell
abbrev Places : {P : Type 0} → Change P → Type 0
Places (Publish u x splice event) = IsPublishing event
Places (Read r step) = Every IsPlaced (told step.answer)
Places (Grace u x grace answer) = Every IsPlaced (told answer)
Places (Change.Retire u x q act mark answer) = Every IsPlaced (told answer)
Places (Change.Bar u x barriers answer) = Every IsPlaced (told answer)
Places (Work k x grace act mark answer) = Every IsPlaced (told answer)
Places _ = Unit {0}

module _ {P : Type 0} (plans : Plans P) (w : BoardView P) where
  placed_reads : length w.heads ≤ 64 → (r : ℕ) (v : ReaderState) → r < 64 → ReaderRows plans.qsbr w.layout w r v (λ step. Every IsPlaced (told step.answer))
  placed_reads few r v inside _ (Copies none idle) = tt
  placed_reads few r v inside _ (Nests word none flavour more is) = tt
  placed_reads few r v inside _ (Unnests word none flavour is more) = tt
  placed_reads few r v inside _ (Announces copied has flavour online) = (inside, (inside, tt))
  placed_reads few r v inside _ (Firsts c head none open' is) = let there : c < length w.heads = slice_get_within w.heads c head is in ((inside, omega (arith, there, few)), tt)
  placed_reads few r v inside _ _ = (inside, tt)

  module _ (most : length w.readers ≤ 64) (few : length w.heads ≤ 64) (some : 1 ≤ length w.queues) (queues : length w.queues ≤ 8) where
    places_retire : (u : ℕ) (x : UpdaterState P) (o : ObjectId) (step : RetireStep) → Places (retire_on w u x o step)
    places_retire u x o RetireStep.Mark = (tt, tt)
    places_retire u x o RetireStep.Count = tt
    places_retire u x o RetireStep.Push = let below : u % length w.queues < length w.queues = mod_below u (length w.queues) (omega (arith, some)) in (omega (arith, below, queues), tt)
    places_retire u x o RetireStep.Free = tt

    waits_placed : (es : List Event) → Every IsWaiting es → Every IsPlaced es
    waits_placed [] is = tt
    waits_placed (Ask a ∷ es) is = (tt, waits_placed es is.1)
    waits_placed (Event.Answer a ∷ es) is = (tt, waits_placed es is.1)
    waits_placed (Event.Bar b ∷ es) is = (tt, waits_placed es is.1)
    waits_placed (Clear b ∷ es) is = (tt, waits_placed es is.1)
    waits_placed (_ ∷ es) is = absurd is.0

    update_placed : (change : Change P) → IsUpdate change → Places change
    update_placed (Begin u x object) is = tt
    update_placed (Publish u x splice event) is = is
    update_placed (Grace u x grace answer) is = waits_placed (told answer) is
    update_placed (Hold u x q) is = tt
    update_placed (Change.Bar u x barriers answer) is = waits_placed (told answer) is
    update_placed _ is = absurd is

    places : Law plans w (λ line. Places)
    places = record {
      stays = λ line answer never none. tt;
      reads = λ r v verb was. let there : r < length w.readers = slice_get_within w.readers r v was in placed_reads few r v (omega (arith, there, most));
      updates = λ u x was. any_updates plans w u x (λ v. Places) (λ v. update_placed) (λ o step at. places_retire u x o step);
      works = λ k x was. record {
        takes = λ q at is free some. tt;
        works = λ sync tickets step at is goes on. tells plans w (Holder.Worker k) (ask_for w x.ask sync) (Every IsPlaced) tt (tt, tt) (tt, tt) sync step is;
        runs = λ tickets first at is. (tt, tt);
        counts = λ tickets ticket item at. tt;
      };
    }

-- ---- the count of lines

told_few : (a : Answer) → length (told a) ≤ 2
told_few (Events first None) = omega arith
told_few _ = omega arith

pub marked_length : (os : List ObjectState) (mark : Option Mark) → length (marked_life os mark) ≡ length os
marked_length os None = refl
marked_length os (Some m) = length_written os (Some m.object) (λ x. record x { life = m.life })

-- what comes after a beginning was allowed there
allowed_after : (now : State) (es fs : List Event) → AreAllowed now (es ++ fs) → AreAllowed (after_all now es) fs
allowed_after now [] fs a = a
allowed_after now (e ∷ es) fs a = allowed_after (after now e) es fs a.1

module _ {P : Type 0} (plans : Plans P) (layout : Layout) (slots : ℕ) (laws : Laws plans layout slots) where
  -- after this many lines
  record Counted (w : BoardView P) (n : ℕ) : Type 0 where
    pub logged : Logged plans layout slots laws w
    pub few_chains : length w.heads ≤ 64
    pub log : length w.log ≤ 2 * n
    pub objects : length w.objects ≤ n + 1
    pub placed : Every IsPlaced w.log

  -- an event that publishes does so in a chain that is there
  publishes : (w w' : BoardView P) (e : Event) → length w.heads ≤ 64 → length w'.heads ≤ 64 → w'.log ≡ w.log ++ e ∷ [] → IsPublishing e → Logged plans layout slots laws w → Logged plans layout slots laws w' → IsPlaced e
  publishes w w' e few few' log is l l' = by e log is
    where
      now : State
      now = after_all start w.log

      allowed : (f : Event) → w'.log ≡ w.log ++ f ∷ [] → IsAllowed now f
      allowed f same = (allowed_after start w.log (f ∷ []) (subst (λ (es : List Event). AreAllowed start es) same l'.run)).0

      linked : (c : ℕ) (o : ObjectId) → In (now.chain c) o → c < 64
      linked c o h = let there : c < length w.heads = (l.kept.links_kept.linked c o h).2 in omega (arith, there, few)

      by : (f : Event) → w'.log ≡ w.log ++ f ∷ [] → IsPublishing f → IsPlaced f
      by (Push c o) same h =
          let later : after_all start w'.log ≡ after_all now (Push c o ∷ []) = ap (after_all start) same ∙ after_append start w.log (Push c o ∷ []) in
          let has : In ((after_all start w'.log).chain c) o = subst (λ (s : State). In (s.chain c) o) (sym later) (subst (λ (os : List ObjectId). In os o) (sym (at_number_same c (o ∷ now.chain c) now.chain)) (inl refl)) in
          let there : c < length w'.heads = (l'.kept.links_kept.linked c o has).2 in omega (arith, there, few')
      by (Replace c old new) same h = linked c old (in_objects (now.chain c) old (allowed (Replace c old new) same).0)
      by (Cut c o) same h = linked c o (in_objects (now.chain c) o (allowed (Cut c o) same))
      by _ same h = absurd h

  counted_step : slots ≤ 64 → (w : BoardView P) (n : ℕ) (line : Line) → Counted w n → Counted ((outcome_of plans w line).world) (n + 1)
  counted_step most w n line c = by (change_of plans w line) placed (logged_step plans layout slots laws w line c.logged)
    where
      placed : Each plans w (λ l. Places) line (change_of plans w line)
      placed = by_law plans w (λ l. Places) (places plans w (let same = c.logged.kept.shape.sized in omega (arith, same, most)) c.few_chains c.logged.callbacks.sizes.some c.logged.callbacks.sizes.few) line

      told_more : (w' : BoardView P) (answer : Answer) → w'.log ≡ w.log ++ told answer → w'.heads ≡ w.heads → length w'.objects ≡ length w.objects → Every IsPlaced (told answer) → Logged plans layout slots laws w' → Counted w' (n + 1)
      told_more w' answer log heads long p l = record {
        logged = l;
        few_chains = subst (λ (hs : List (Option ObjectId)). length hs ≤ 64) (sym heads) c.few_chains;
        log = subst (λ (es : List Event). length es ≤ 2 * (n + 1)) (sym log) (omega (arith, c.log, told_few answer, length-append w.log (told answer)));
        objects = omega (arith, long, c.objects);
        placed = subst (Every IsPlaced) (sym log) (every_append IsPlaced w.log (told answer) c.placed p);
      }

      by : (x : Result (Change P) Refusal) → Each plans w (λ l. Places) line x → Logged plans layout slots laws ((with_change w x).world) → Counted ((with_change w x).world) (n + 1)
      by (Ok (Read r step)) p l = told_more _ step.answer refl refl refl p l
      by (Ok (Begin u x y)) p l = record {
        logged = l;
        few_chains = c.few_chains;
        log = let low = c.log in omega (arith, low);
        objects = let low = c.objects in let long = length-append w.objects (y ∷ []) in omega (arith, low, long);
        placed = c.placed;
      }
      by (Ok (Publish u x s e)) p l =
          let heads = length_heads w.heads s in
          let few = c.few_chains in
          let low = c.log in
          let long = length-append w.log (e ∷ []) in record {
            logged = l;
            few_chains = omega (arith, heads, few);
            log = omega (arith, low, long);
            objects = omega (arith, spliced_length w.objects s, c.objects);
            placed = every_append IsPlaced w.log (e ∷ []) c.placed (publishes w _ e c.few_chains (omega (arith, heads, few)) refl p c.logged l, tt);
          }
      by (Ok (Grace u x grace answer)) p l = told_more _ answer refl refl refl p l
      by (Ok (Change.Retire u x q act mark answer)) p l = told_more _ answer refl refl (marked_length w.objects mark) p l
      by (Ok (Change.Bar u x barriers answer)) p l = told_more _ answer refl refl refl p l
      by (Ok (Work k x grace act mark answer)) p l = told_more _ answer refl refl (marked_length w.objects mark) p l
      by _ p l = record { logged = l; few_chains = c.few_chains; log = let low = c.log in omega (arith, low); objects = omega (arith, c.objects); placed = c.placed }

  counted_lines : slots ≤ 64 → (w : BoardView P) (n : ℕ) (lines : List Line) → Counted w n → Counted (world_after plans w lines) (n + length lines)
  counted_lines most w n [] c = subst (Counted w) (omega arith) c
  counted_lines most w n (line ∷ lines) c =
      subst (Counted (world_after plans ((outcome_of plans w line).world) lines)) (omega arith) (counted_lines most ((outcome_of plans w line).world) (n + 1) lines (counted_step most w n line c))

  -- what the machine knows, and the world keeps beside it, is low
  module _ (w : BoardView P) (n : ℕ) (c : Counted w n) where
    low : IsLow (after_all start w.log) (2 * n)
    low = record {
      sections = λ s h. omega (arith, (c.logged.kept.readers_kept s.reader).low s.ordinal h, c.logged.kept.ordinals s.reader, c.log);
      objects = λ o h. omega (arith, within w.objects o (c.logged.kept.links_kept.used_known o h), c.objects);
      asks = λ a h. omega (arith, c.logged.kept.part.asks_kept.asked_low a h, c.logged.kept.asks_low, c.log);
      barriers = λ b h. omega (arith, c.logged.callbacks.numbers.noted_low b h, c.logged.callbacks.numbers.barriers_low, c.log);
    }

    log_numbered : All (IsNumberedWithin (2 * n)) w.log
    log_numbered = All-from_recursion (IsNumberedWithin (2 * n)) w.log (all_numbered [] w.log (2 * n) c.logged.run c.placed low)

module _ {P : Type 0} (plans : Plans P) (laws : (layout : Layout) (slots : ℕ) → Laws plans layout slots) where
  pub numbers : (config : Config) (seq : ℕ) (lines : List Line) → is_within_limits config ≡ true → seq % 2 ≡ 0 → seq ≤ 2 ^ 62 → All (IsNumberedWithin (2 * length lines)) (world_after plans (fresh_at config seq) lines).log
  numbers config seq lines limits even low =
      subst (λ n. All (IsNumberedWithin (2 * n)) (world_after plans (fresh_at config seq) lines).log) (omega arith)
      (log_numbered plans config.layout config.readers mine (world_after plans (fresh_at config seq) lines) (0 + length lines)
      (counted_lines plans config.layout config.readers mine (within_limits config limits).readers.1 (fresh_at config seq) 0 lines fresh))
    where
      mine : Laws plans config.layout config.readers
      mine = laws config.layout config.readers

      fresh : Counted plans config.layout config.readers mine (fresh_at config seq) 0
      fresh = record {
        logged = at_first plans laws config seq limits even low;
        few_chains = let long = length-replicate {A = Option ObjectId} config.chains None in let few = (within_limits config limits).chains in omega (arith, long, few);
        log = omega arith;
        objects = omega arith;
        placed = tt;
      }

-- ---- sections, asks and barriers are numbered as they begin, and objects once each

range_next : (a n : ℕ) → range_with_len a (suc n) ≡ range_with_len a n ++ (a + n) ∷ []
range_next a zero = ap (λ k. k ∷ []) (omega arith)
range_next a (suc n) = ap (λ l. a ∷ l) (range_next (a + 1) n ∙ ap (λ k. range_with_len (a + 1) n ++ k ∷ []) (omega arith))

-- the numbers from 1 on, and the next one
pub range_more : (n : ℕ) → range_with_len 1 (n + 1) ≡ range_with_len 1 n ++ (n + 1) ∷ []
range_more n =
    let long : n + 1 ≡ suc n = omega arith in
    let last : 1 + n ≡ n + 1 = omega arith in
    ap (range_with_len 1) long ∙ range_next 1 n ∙ ap (λ k. range_with_len 1 n ++ k ∷ []) last

pub counts_up : (ns : List ℕ) (n : ℕ) → ns ≡ range_with_len 1 n → CountUp ns
counts_up ns n is = is ∙ ap (range_with_len 1) (sym (ap length is ∙ length-range_with_len 1 n))

-- none more is given, or the next one
abbrev pub Grows : (Event → Option ℕ) → List Event → ℕ → ℕ → Type 0
Grows f es n n' = ((filter_map f es ≡ []) × (n' ≡ n)) ⊎ ((filter_map f es ≡ (n + 1) ∷ []) × (n' ≡ n + 1))

pub none_more : (f : Event → Option ℕ) (log es : List Event) → filter_map f es ≡ [] → filter_map f (log ++ es) ≡ filter_map f log
none_more f log es none = filter_map-append f log es ∙ ap (λ ns. filter_map f log ++ ns) none ∙ append-nil (filter_map f log)

pub given_more : (f : Event → Option ℕ) (log es : List Event) (n n' : ℕ) → Grows f es n n' → filter_map f log ≡ range_with_len 1 n → filter_map f (log ++ es) ≡ range_with_len 1 n'
given_more f log es n n' (inl none) is = none_more f log es none.0 ∙ is ∙ ap (range_with_len 1) (sym none.1)
given_more f log es n n' (inr next) is =
    filter_map-append f log es ∙ ap (λ ns. filter_map f log ++ ns) next.0 ∙ ap (λ ns. ns ++ (n + 1) ∷ []) is
    ∙ sym (range_more n) ∙ ap (range_with_len 1) (sym next.1)

-- one of a list is there, and is set
module _ {P : Type 0} (us : List (UpdaterState P)) (u : ℕ) (x y : UpdaterState P) (was : slice_get us u ≡ Some x) where
  inside : u < length us
  inside = slice_get_within us u x was

  abbrev made_in : List (UpdaterState P) → List ℕ
  made_in = filter_map made_by

  before : made_in us ≡ made_in (take u us) ++ cons_option (made_by x) (made_in (drop (suc u) us))
  before = ap made_in (split_at us u x inside ∙ ap (λ z. take u us ++ z ∷ drop (suc u) us) (get_or_from_slice_get us u x x was)) ∙ filter_map-append made_by (take u us) (x ∷ drop (suc u) us)

  behind : made_in (slice_set us u y) ≡ made_in (take u us) ++ cons_option (made_by y) (made_in (drop (suc u) us))
  behind = ap made_in (set_split us u y inside) ∙ filter_map-append made_by (take u us) (y ∷ drop (suc u) us)

  pub made_same : made_by y ≡ made_by x → filter_map made_by (slice_set us u y) ≡ filter_map made_by us
  made_same same = behind ∙ ap (λ o. made_in (take u us) ++ cons_option o (made_in (drop (suc u) us))) same ∙ sym before

  pub made_more : (n : ℕ) → made_by x ≡ None → made_by y ≡ Some n → IsPermutation (n ∷ filter_map made_by us) (filter_map made_by (slice_set us u y))
  made_more n none has =
      subst (λ l. IsPermutation (n ∷ l) (made_in (slice_set us u y))) (sym (before ∙ ap (λ o. made_in (take u us) ++ cons_option o (made_in (drop (suc u) us))) none))
      (subst (λ l. IsPermutation (n ∷ (made_in (take u us) ++ made_in (drop (suc u) us))) l) (sym (behind ∙ ap (λ o. made_in (take u us) ++ cons_option o (made_in (drop (suc u) us))) has))
      (IsPermutation-sym _ _ (IsPermutation-middle (made_in (take u us)) n (made_in (drop (suc u) us)))))

  pub made_less : (n : ℕ) → made_by x ≡ Some n → made_by y ≡ None → IsPermutation (filter_map made_by us) (n ∷ filter_map made_by (slice_set us u y))
  made_less n has none =
      subst (λ l. IsPermutation l (n ∷ made_in (slice_set us u y))) (sym (before ∙ ap (λ o. made_in (take u us) ++ cons_option o (made_in (drop (suc u) us))) has))
      (subst (λ l. IsPermutation (made_in (take u us) ++ n ∷ made_in (drop (suc u) us)) (n ∷ l)) (sym (behind ∙ ap (λ o. made_in (take u us) ++ cons_option o (made_in (drop (suc u) us))) none))
      (IsPermutation-middle (made_in (take u us)) n (made_in (drop (suc u) us))))

-- ---- what a reader's step tells: the next section, where one opens, and no ask, barrier or new object

-- the reader's next section opens, or none does
pub record Opens (r : ℕ) (v : ReaderState) (step : ReaderStep) : Type 0 where
  pub asks : filter_map ask_of (told step.answer) ≡ []
  pub barriers : filter_map barrier_of (told step.answer) ≡ []
  pub objects : filter_map object_of (told step.answer) ≡ []
  pub sections : (((s : ℕ) → filter_map (ordinal_of s) (told step.answer) ≡ []) × (step.state.ordinal ≡ v.ordinal)) ⊎
      (((s : ℕ) → filter_map (ordinal_of s) (told step.answer) ≡ filter_map (ordinal_of s) (Open (section_of r (v.ordinal + 1)) ∷ [])) × (step.state.ordinal ≡ v.ordinal + 1))

module _ {P : Type 0} (qsbr : Bool) (layout : Layout) (w : BoardView P) (r : ℕ) (v : ReaderState) where
  pub opens : ReaderRows qsbr layout w r v (Opens r v)
  opens _ (Enters copied word has flavour is) = record { asks = refl; barriers = refl; objects = refl; sections = inr ((λ s. refl), refl) }
  opens _ (GoesOnline copied has flavour offline) = record { asks = refl; barriers = refl; objects = refl; sections = inr ((λ s. refl), refl) }
  opens _ (Announces copied has flavour online) = record { asks = refl; barriers = refl; objects = refl; sections = inr ((λ s. refl), refl) }
  opens _ _ = record { asks = refl; barriers = refl; objects = refl; sections = inl ((λ s. refl), refl) }

-- ---- sections, asks and barriers are numbered as they begin, and objects once each

-- the updater's new object, or that none is in its hands
module _ {P : Type 0} where
  none_made : (plans : Plans P) (ask : ℕ) (sync : SyncCore P) → made_at (sync_place plans ask sync) ≡ None
  none_made plans ask sync = by (step_of plans.action sync)
    where
      by : (step : SyncStep) → made_at (place_at ask sync step) ≡ None
      by SyncStep.Nothing = refl
      by _ = refl

  abbrev made : BoardView P → List ℕ
  made w = filter_map made_by w.updaters

  -- no object is made; or one, with the next number; or the one of an updater comes in
  abbrev ObjectMoves : BoardView P → BoardView P → List Event → Type 0
  ObjectMoves w w' es =
      ((filter_map object_of es ≡ []) × (length w'.objects ≡ length w.objects) × (made w' ≡ made w)) ⊎
      (((filter_map object_of es ≡ []) × (length w'.objects ≡ length w.objects + 1) × IsPermutation (length w.objects ∷ made w) (made w')) ⊎
      ((n : ℕ) × (filter_map object_of es ≡ n ∷ []) × (length w'.objects ≡ length w.objects) × IsPermutation (made w) (n ∷ made w')))

  record Moves (w w' : BoardView P) (es : List Event) : Type 0 where
    asks : Grows ask_of es w.grace.asks w'.grace.asks
    barriers : Grows barrier_of es w.barriers w'.barriers
    sections : (r : ℕ) → Grows (ordinal_of r) es (reader_at w.readers r).ordinal (reader_at w'.readers r).ordinal
    objects : ObjectMoves w w' es

  abbrev MovesBy : BoardView P → Change P → Type 0
  MovesBy w change = Moves w (changed w change) (told_by change)

  -- all numbers that were given, in order
  record InOrder (w : BoardView P) : Type 0 where
    asks : filter_map ask_of w.log ≡ range_with_len 1 w.grace.asks
    barriers : filter_map barrier_of w.log ≡ range_with_len 1 w.barriers
    sections : (r : ℕ) → filter_map (ordinal_of r) w.log ≡ range_with_len 1 (reader_at w.readers r).ordinal
    some : 1 ≤ length w.objects
    objects : AreGivenOnce w

  objects_moved : (w w' : BoardView P) (es : List Event) → w'.log ≡ w.log ++ es → 1 ≤ length w.objects → ObjectMoves w w' es → AreGivenOnce w → (1 ≤ length w'.objects) × AreGivenOnce w'
  objects_moved w w' es log some (inl (none, same, still)) given = (
    omega (arith, some, same),
    subst (λ l. IsPermutation (range_with_len 1 (length w'.objects - 1)) (l ++ made w')) (sym (ap (filter_map object_of) log ∙ none_more object_of w.log es none))
        (subst (λ l. IsPermutation (range_with_len 1 (length w'.objects - 1)) (filter_map object_of w.log ++ l)) (sym still)
        (subst (λ n. IsPermutation (range_with_len 1 (n - 1)) (filter_map object_of w.log ++ made w)) (sym same) given)),
  )
  objects_moved w w' es log some (inr (inl (none, more, next))) given = (
    omega (arith, some, more),
    subst (λ l. IsPermutation (range_with_len 1 (length w'.objects - 1)) (l ++ made w')) (sym (ap (filter_map object_of) log ∙ none_more object_of w.log es none))
        (subst (λ l. IsPermutation l (filter_map object_of w.log ++ made w')) (sym numbers)
        (IsPermutation-push_more (range_with_len 1 (length w.objects - 1)) (filter_map object_of w.log ++ made w) (filter_map object_of w.log ++ made w') (length w.objects) given
        (IsPermutation-trans _ _ _ (IsPermutation-sym _ _ (IsPermutation-middle (filter_map object_of w.log) (length w.objects) (made w)))
        (IsPermutation-append_right (filter_map object_of w.log) (length w.objects ∷ made w) (made w') next)))),
  )
    where
      numbers : range_with_len 1 (length w'.objects - 1) ≡ range_with_len 1 (length w.objects - 1) ++ length w.objects ∷ []
      numbers =
          let long : length w'.objects - 1 ≡ (length w.objects - 1) + 1 = omega (arith, some, more) in
          let last : (length w.objects - 1) + 1 ≡ length w.objects = omega (arith, some) in
          ap (range_with_len 1) long ∙ range_more (length w.objects - 1) ∙ ap (λ k. range_with_len 1 (length w.objects - 1) ++ k ∷ []) last
  objects_moved w w' es log some (inr (inr (n, is, same, less))) given = (
    omega (arith, some, same),
    subst (λ l. IsPermutation (range_with_len 1 (length w'.objects - 1)) (l ++ made w')) (sym (ap (filter_map object_of) log ∙ filter_map-append object_of w.log es ∙ ap (λ l. filter_map object_of w.log ++ l) is))
        (subst (λ k. IsPermutation (range_with_len 1 (k - 1)) ((filter_map object_of w.log ++ n ∷ []) ++ made w')) (sym same)
        (IsPermutation-pop_more (range_with_len 1 (length w.objects - 1)) (filter_map object_of w.log) (made w) (made w') n given less)),
  )

  moved : (w w' : BoardView P) (es : List Event) → w'.log ≡ w.log ++ es → Moves w w' es → InOrder w → InOrder w'
  moved w w' es log m k =
      let objects = objects_moved w w' es log k.some m.objects k.objects in
      record {
        asks = ap (filter_map ask_of) log ∙ given_more ask_of w.log es _ _ m.asks k.asks;
        barriers = ap (filter_map barrier_of) log ∙ given_more barrier_of w.log es _ _ m.barriers k.barriers;
        sections = λ r. ap (filter_map (ordinal_of r)) log ∙ given_more (ordinal_of r) w.log es _ _ (m.sections r) (k.sections r);
        some = objects.0;
        objects = objects.1;
      }

  -- no number is given, but that of an object
  unnumbered : (w w' : BoardView P) (es : List Event) → filter_map ask_of es ≡ [] → w'.grace.asks ≡ w.grace.asks → filter_map barrier_of es ≡ [] → w'.barriers ≡ w.barriers →
      ((r : ℕ) → filter_map (ordinal_of r) es ≡ []) → ((r : ℕ) → (reader_at w'.readers r).ordinal ≡ (reader_at w.readers r).ordinal) → ObjectMoves w w' es → Moves w w' es
  unnumbered w w' es no_ask asks no_barrier barriers no_section ordinals objects = record { asks = inl (no_ask, asks); barriers = inl (no_barrier, barriers); sections = λ r. inl (no_section r, ordinals r); objects = objects }

-- ---- the rows

module _ {P : Type 0} (plans : Plans P) (layout : Layout) (slots : ℕ) (laws : Laws plans layout slots) (w : BoardView P) (l : Logged plans layout slots laws w) where
  -- nobody rests before its ask
  next_ask : (u : ℕ) (x : UpdaterState P) (ask : ℕ) (sync : SyncCore P) → WasAt plans w u x (Syncs ask sync) → sync ≡ SyncCore.Asks → ask ≡ w.grace.asks + 1
  next_ask u x ask sync at e = absurd (subst (λ (p : UpdaterPlace P). UpdaterKept w.heads w.objects (length w.updaters) u p) (stands_at w.updaters u x at.was (at.at ∙ ap (Syncs ask) e)) (l.kept.places_kept u))

  -- what a step of a grace period tells: an ask, an answer, or nothing
  asks_tell : (me : Holder) (ask : ℕ) (sync : SyncCore P) (step : GraceStep P) → (sync ≡ SyncCore.Asks → ask ≡ w.grace.asks + 1) → Fits plans w me ask sync step → Grows ask_of (told step.answer) w.grace.asks step.grace.asks
  asks_tell me ask sync step next fits = elim fits.asks [
    | inl a ↦ inr (ap (filter_map ask_of) a.2 ∙ ap (λ n. n ∷ []) (next a.0), a.1 ∙ next a.0)
    | inr n ↦ elim n.1 [ inl e ↦ inl (ap (filter_map ask_of) e, n.0) | inr e ↦ inl (ap (filter_map ask_of) e, n.0) ]
  ]

  tells_none : (f : Event → Option ℕ) (me : Holder) (ask : ℕ) (sync : SyncCore P) (step : GraceStep P) → f (Event.Ask ask) ≡ None → f (Event.Answer ask) ≡ None → grace_row plans w me ask sync ≡ Ok step → filter_map f (told step.answer) ≡ []
  tells_none f me ask sync step no_ask no_answer is = tells plans w me ask (λ es. filter_map f es ≡ []) refl (ap (λ o. cons_option o []) no_ask) (ap (λ o. cons_option o []) no_answer) sync step is

  moves_sync : (u : ℕ) (x : UpdaterState P) (ask : ℕ) (sync : SyncCore P) (step : GraceStep P) → slice_get w.updaters u ≡ Some x → made_by x ≡ None → (sync ≡ SyncCore.Asks → ask ≡ w.grace.asks + 1) → grace_row plans w (Holder.Updater u) ask sync ≡ Ok step →
      MovesBy w (grace_change plans u x ask step)
  moves_sync u x ask sync step was none next is = record {
    asks = asks_tell (Holder.Updater u) ask sync step next (fits_step plans w (Holder.Updater u) ask sync step is);
    barriers = inl (tells_none barrier_of (Holder.Updater u) ask sync step refl refl is, refl);
    sections = λ r. inl (tells_none (ordinal_of r) (Holder.Updater u) ask sync step refl refl is, refl);
    objects = inl (tells_none object_of (Holder.Updater u) ask sync step refl refl is, refl, made_same w.updaters u x _ was (none_made plans ask step.core ∙ sym none));
  }

  moves_work : (k : ℕ) (x : WorkerState P) (sync : SyncCore P) (core : WorkerCore P Unit) (act : QueueAct) (step : GraceStep P) → grace_row plans w (Holder.Worker k) (ask_for w x.ask sync) sync ≡ Ok step →
      MovesBy w (Work k (record { ask = ask_for w x.ask sync; core = core }) step.grace act None step.answer)
  moves_work k x sync core act step is = let ask : ℕ = ask_for w x.ask sync in record {
    asks = asks_tell (Holder.Worker k) ask sync step (λ e. ap (ask_for w x.ask) e) (fits_step plans w (Holder.Worker k) ask sync step is);
    barriers = inl (tells_none barrier_of (Holder.Worker k) ask sync step refl refl is, refl);
    sections = λ r. inl (tells_none (ordinal_of r) (Holder.Worker k) ask sync step refl refl is, refl);
    objects = inl (tells_none object_of (Holder.Worker k) ask sync step refl refl is, refl, refl);
  }

  moves_retire : (u : ℕ) (x : UpdaterState P) (o : ObjectId) (step : RetireStep) → WasAt plans w u x (Retires o step) → MovesBy w (retire_on w u x o step)
  moves_retire u x o RetireStep.Mark at = unnumbered w _ _ refl refl refl refl (λ r. refl) (λ r. refl) (inl (refl, marked_length w.objects (Some (record { object = o; life = Life.Retired })), made_same w.updaters u x _ at.was (sym (ap made_at at.at))))
  moves_retire u x o RetireStep.Count at = unnumbered w _ _ refl refl refl refl (λ r. refl) (λ r. refl) (inl (refl, refl, made_same w.updaters u x _ at.was (sym (ap made_at at.at))))
  moves_retire u x o RetireStep.Push at = unnumbered w _ _ refl refl refl refl (λ r. refl) (λ r. refl) (inl (refl, marked_length w.objects (Some (record { object = o; life = Life.Queued })), made_same w.updaters u x _ at.was (sym (ap made_at at.at))))
  moves_retire u x o RetireStep.Free at = unnumbered w _ _ refl refl refl refl (λ r. refl) (λ r. refl) (inl (refl, refl, made_same w.updaters u x _ at.was (sym (ap made_at at.at))))

  moves_read : (r : ℕ) (v : ReaderState) (step : ReaderStep) → slice_get w.readers r ≡ Some v → Opens r v step → MovesBy w (Read r step)
  moves_read r v step was o = record {
    asks = inl (o.asks, refl);
    barriers = inl (o.barriers, refl);
    sections = at_each new_reader (λ s y. Grows (ordinal_of s) (told step.answer) (reader_at w.readers s).ordinal y.ordinal) w.readers r step.state (slice_get_within w.readers r v was) here (λ s other. inl (none s other, refl));
    objects = inl (o.objects, refl, refl);
  }
    where
      old : (reader_at w.readers r).ordinal ≡ v.ordinal
      old = ap (λ (y : ReaderState). y.ordinal) (get_or_from_slice_get w.readers r v new_reader was)

      here : Grows (ordinal_of r) (told step.answer) (reader_at w.readers r).ordinal step.state.ordinal
      here =
          ⊎_elim
          (λ (n : ((s : ℕ) → filter_map (ordinal_of s) (told step.answer) ≡ []) × (step.state.ordinal ≡ v.ordinal)). inl (n.0 r, n.1 ∙ sym old))
          (λ (n : ((s : ℕ) → filter_map (ordinal_of s) (told step.answer) ≡ filter_map (ordinal_of s) (Event.Open (section_of r (v.ordinal + 1)) ∷ [])) × (step.state.ordinal ≡ v.ordinal + 1)).
          inr (n.0 r ∙ ap (λ o. cons_option o []) (cond-true (r == r) (Some (v.ordinal + 1)) None (eq-eqb r r refl)) ∙ ap (λ k. (k + 1) ∷ []) (sym old), n.1 ∙ ap (λ k. k + 1) (sym old)))
          o.sections

      none : (s : ℕ) → s ≢ r → filter_map (ordinal_of s) (told step.answer) ≡ []
      none s other =
          ⊎_elim
          (λ (n : ((s : ℕ) → filter_map (ordinal_of s) (told step.answer) ≡ []) × (step.state.ordinal ≡ v.ordinal)). n.0 s)
          (λ (n : ((s : ℕ) → filter_map (ordinal_of s) (told step.answer) ≡ filter_map (ordinal_of s) (Event.Open (section_of r (v.ordinal + 1)) ∷ [])) × (step.state.ordinal ≡ v.ordinal + 1)).
          n.0 s ∙ ap (λ o. cons_option o []) (cond-false (r == s) (Some (v.ordinal + 1)) None (ne_eqb r s (λ e. other (sym e)))))
          o.sections

  moves_updates : (u : ℕ) (x : UpdaterState P) → UpdaterRows plans w u x (λ v. MovesBy w)
  moves_updates u x _ _ (ByPush c head at is mine) = unnumbered w _ _ refl refl refl refl (λ r. refl) (λ r. refl) (inr (inl (refl, length-append w.objects _, made_more w.updaters u x _ at.was (length w.objects) (ap made_at at.at) refl)))
  moves_updates u x _ _ (ByReplace o y at is) = unnumbered w _ _ refl refl refl refl (λ r. refl) (λ r. refl) (inr (inl (refl, length-append w.objects _, made_more w.updaters u x _ at.was (length w.objects) (ap made_at at.at) refl)))
  moves_updates u x _ _ (ByCut o y at is) = unnumbered w _ _ refl refl refl refl (λ r. refl) (λ r. refl) (inl (refl, spliced_length w.objects (record { chain = y.chain; before = y.before; after = y.link; leaves = Some o; enters = None }), made_same w.updaters u x x at.was refl))
  moves_updates u x _ _ (ByPushed new y at is) = unnumbered w _ _ refl refl refl refl (λ r. refl) (λ r. refl)
      (inr (inr (new.0, refl, spliced_length w.objects (record { chain = y.chain; before = None; after = y.link; leaves = None; enters = Some new }), made_less w.updaters u x _ at.was new.0 (ap made_at at.at) refl)))
  moves_updates u x _ _ (ByReplaced old new y at is) = unnumbered w _ _ refl refl refl refl (λ r. refl) (λ r. refl)
      (inr (inr (new.0, refl, spliced_length w.objects (record { chain = y.chain; before = y.before; after = y.link; leaves = Some old; enters = Some new }), made_less w.updaters u x _ at.was new.0 (ap made_at at.at) refl)))
  moves_updates u x _ _ (BySync step at is goes on) = moves_sync u x (w.grace.asks + 1) new_core step at.was (ap made_at at.at) (λ e. refl) is
  moves_updates u x _ _ (ByTurn ask sync step at is goes on) = moves_sync u x ask sync step at.was (ap made_at at.at) (next_ask u x ask sync at) is
  moves_updates u x _ _ (ByStart cookie at is) = record { asks = inr (refl, refl); barriers = inl (refl, refl); sections = λ r. inl (refl, refl); objects = inl (refl, refl, made_same w.updaters u x _ at.was refl) }
  moves_updates u x _ _ (ByPoll s at is up) = unnumbered w _ _ refl refl refl refl (λ r. refl) (λ r. refl) (inl (refl, refl, made_same w.updaters u x _ at.was refl))
  moves_updates u x _ _ (ByHold o q at may is free) = unnumbered w _ _ refl refl refl refl (λ r. refl) (λ r. refl) (inl (refl, refl, made_same w.updaters u x _ at.was (sym (ap made_at at.at))))
  moves_updates u x _ _ (ByRetire o step at) = moves_retire u x o step at
  moves_updates u x _ _ (ByBarrier at) = record { asks = inl (refl, refl); barriers = inr (refl, refl); sections = λ r. inl (refl, refl); objects = inl (refl, refl, made_same w.updaters u x _ at.was (sym (ap made_at at.at))) }
  moves_updates u x _ _ (ByNote b q at is) = unnumbered w _ _ refl refl refl refl (λ r. refl) (λ r. refl) (inl (refl, refl, made_same w.updaters u x _ at.was (sym (ap made_at at.at))))
  moves_updates u x _ _ (ByCheck b q at is up more) = unnumbered w _ _ refl refl refl refl (λ r. refl) (λ r. refl) (inl (refl, refl, made_same w.updaters u x _ at.was (sym (ap made_at at.at))))
  moves_updates u x _ _ (ByClear b q at is up last) = unnumbered w _ _ refl refl refl refl (λ r. refl) (λ r. refl) (inl (refl, refl, made_same w.updaters u x _ at.was (sym (ap made_at at.at))))

  moves_law : Law plans w (λ line. MovesBy w)
  moves_law = record {
    stays = λ line answer never none. unnumbered w _ _ refl refl refl refl (λ r. refl) (λ r. refl) (inl (refl, refl, refl));
    reads = λ r v verb was step row. moves_read r v step was (opens plans.qsbr w.layout w r v step row);
    updates = λ u x was. moves_updates u x;
    works = λ k x was. record {
      takes = λ q at is free some. unnumbered w _ _ refl refl refl refl (λ r. refl) (λ r. refl) (inl (refl, refl, refl));
      works = λ sync tickets step at is goes on. moves_work k x sync _ _ step is;
      runs = λ tickets first at is. unnumbered w _ _ refl refl refl refl (λ r. refl) (λ r. refl) (inl (refl, marked_length w.objects (Some (record { object = first.1; life = Life.Reclaimed })), refl));
      counts = λ tickets ticket item at. unnumbered w _ _ refl refl refl refl (λ r. refl) (λ r. refl) (inl (refl, refl, refl));
    };
  }

none_made_yet : (P : Type 0) (n : ℕ) → filter_map (made_by {P = P}) (replicate n idle) ≡ []
none_made_yet P zero = refl
none_made_yet P (suc n) = none_made_yet P n

fresh_in_order : {P : Type 0} (config : Config) (seq : ℕ) → InOrder (fresh_at {P = P} config seq)
fresh_in_order {P} config seq = record {
  asks = refl;
  barriers = refl;
  sections = λ r. ap (λ (v : ReaderState). range_with_len 1 v.ordinal) (sym (get_replicate new_reader config.readers r));
  some = omega arith;
  objects = subst (IsPermutation []) (sym (none_made_yet P config.updaters)) (IsPermutation-refl []);
}

module _ {P : Type 0} (plans : Plans P) (laws : (layout : Layout) (slots : ℕ) → Laws plans layout slots) where
  pub numbers_in_order : (config : Config) (seq : ℕ) (lines : List Line) → is_within_limits config ≡ true → seq % 2 ≡ 0 → seq ≤ 2 ^ 62 →
      IsCounted (world_after plans (fresh_at config seq) lines).log × AreGivenOnce (world_after plans (fresh_at config seq) lines)
  numbers_in_order config seq lines limits even low =
      let k = always plans laws config seq limits even low InOrder (λ w line. MovesBy w) (λ w line change m. moved w (changed w change) (told_by change) (log_after w change) m) (moves_law plans config.layout config.readers (laws config.layout config.readers)) lines (fresh_in_order config seq) in (
        record {
          sections = λ r. counts_up _ _ (k.sections r);
          asks = counts_up _ _ k.asks;
          barriers = counts_up _ _ k.barriers;
        },
        k.objects,
      )

-- The machine with readings, beside the machine without.
use Rattle.std.proofs.Common.{◌≡◌, ◌≢◌, ℕ, List, [], ◌∷◌, ◌++◌, cond, Bool, true, false, Option, Some, None, sym, refl, ap, ◌∙◌, subst, inl, inr, ⊎_elim, if◌then◌else◌}
use Rattle.rcu_model.specs.declared.event.SectionId.{SectionId}
use Rattle.rcu_model.specs.declared.event.ObjectId.{ObjectId}
use Rattle.rcu_model.specs.declared.event.Event as machine
use Rattle.rcu_model.specs.declared.event.Event.TheVariants as seen
use Rattle.rcu_model.specs.Machine as model
use Rattle.rcu_model.specs.Machine.{State, start, after, after_all, IsAllowed, AreAllowed, got, IsSuccessor}
use Rattle.rcu_model.specs.Sets.{In, HasObject, same_section, at_section, first_of}
use Rattle.rcu_model.proofs.Lemmas.{in_sections, has_section_in, in_objects, has_object_in, section_tells, at_section_same, at_section_other, without_section_has}
use Rattle.live_log.specs.declared.event.LiveEvent.{LiveEvent}
use Rattle.live_log.specs.declared.event.LiveEvent.TheVariants.{Open, Close, SeqOdd, SeqEven, Present, ChainNote, CloseQueue, Object}
use Rattle.live_log.specs.declared.event.ObjectEvent.{ObjectEvent}
use Rattle.live_log.specs.declared.event.ObjectEvent.TheVariants.{Push, Replace, Cut, Retire, Queue, Run}
use Rattle.live_log.specs.Log.{Log, section, event_of, state_of, IsLiveRun, Follows, objects_of}
use Rattle.live_log.proofs.Machine.{fresh_section, open_inside, inside_between, inside_seen, same_sections, kept_log, run_of}
use Rattle.live_log.proofs.Linked.{follows_is}
use Rattle.live_log.specs.declared.reading.Reading.{Reading}
use Rattle.live_log.specs.declared.reading.Reading.TheVariants.{First, Next, Touch}
use Rattle.live_log.specs.declared.reading.Mark.TheVariants.{Stored, Read}
use Rattle.live_log.specs.Fit.{Readings, shown, read_event, marked, events_in, log_in, kept_readings, read_by, later, AreFitted, FitIn, found_by, HoldsIn, IsSoIn, ReadsOn, StartsHeld, StaysOpen}

-- the section is open after the log
abbrev Inside : SectionId → Log → Type 0
Inside s log = In (state_of log).sections s

-- the machine, step by step
abbrev pub state : Readings → State
state [] = start
state (x ∷ xs) = after_all (state xs) (marked x)

abbrev pub Runs : Readings → Type 0
Runs [] = Unit {0}
Runs (x ∷ xs) = Runs xs × AreAllowed (state xs) (marked x)

after_more : (now : State) (xs ys : List machine.Event) → after_all now (xs ++ ys) ≡ after_all (after_all now xs) ys
after_more now [] ys = refl
after_more now (x ∷ xs) ys = after_more (after now x) xs ys

allowed_more : (now : State) (xs ys : List machine.Event) → AreAllowed now xs → AreAllowed (after_all now xs) ys → AreAllowed now (xs ++ ys)
allowed_more now [] ys h a = a
allowed_more now (x ∷ xs) ys h a = (h.0, allowed_more (after now x) xs ys h.1 a)

allowed_less : (now : State) (xs ys : List machine.Event) → AreAllowed now (xs ++ ys) → AreAllowed now xs × AreAllowed (after_all now xs) ys
allowed_less now [] ys h = (tt, h)
allowed_less now (x ∷ xs) ys h = let a = allowed_less (after now x) xs ys h.1 in ((h.0, a.0), a.1)

pub state_is : (m : Readings) → model.state_after (events_in m) ≡ state m
state_is [] = refl
state_is (x ∷ xs) = after_more start (events_in xs) (marked x) ∙ ap (λ (s : State). after_all s (marked x)) (state_is xs)

pub fitted : (m : Readings) → Runs m → AreFitted m
fitted [] run = tt
fitted (x ∷ xs) run = allowed_more start (events_in xs) (marked x) (fitted xs run.0) (subst (λ (s : State). AreAllowed s (marked x)) (sym (state_is xs)) run.1)

pub runs : (m : Readings) → AreFitted m → Runs m
runs [] run = tt
runs (x ∷ xs) run = let a = allowed_less start (events_in xs) (marked x) run in (runs xs a.0, subst (λ (s : State). AreAllowed s (marked x)) (state_is xs) a.1)

-- two machines that differ in what sections hold alone
abbrev pub Beside : State → State → Type 0
Beside a b = a ≡ record b { held = a.held }

-- a store changes both alike, and what a section holds too
object_beside : (d : ObjectEvent) (a b : State) → Beside a b → Beside (after a (event_of d)) (after b (event_of d))
object_beside (Push c o i w) a b e = ap (λ (z : State). after z (seen.Push c o)) e
object_beside (Replace c p o i w) a b e = ap (λ (z : State). after z (seen.Replace c p o)) e
object_beside (Cut c o) a b e = ap (λ (z : State). after z (seen.Cut c o)) e
object_beside (Retire o) a b e = ap (λ (z : State). after z (seen.Retire o)) e
object_beside (Queue o q n) a b e = ap (λ (z : State). after z (seen.Queue o q)) e
object_beside (Run o) a b e = ap (λ (z : State). after z (seen.Run o)) e

store_beside : (e : LiveEvent) (a b : State) → Beside a b → Beside (after_all a (shown e)) (after_all b (shown e))
store_beside (Open r n m) a b h = ap (λ (z : State). after z (seen.Open (section r n))) h
store_beside (Close r n) a b h = ap (λ (z : State). after z (seen.Close (section r n))) h
store_beside (Object d) a b h = object_beside d a b h
store_beside SeqOdd a b h = h
store_beside SeqEven a b h = h
store_beside (Present p) a b h = h
store_beside (ChainNote c x) a b h = h
store_beside (CloseQueue q) a b h = h

object_holds : (d : ObjectEvent) (a : State) → (after a (event_of d)).held ≡ a.held
object_holds (Push c o i w) a = refl
object_holds (Replace c p o i w) a = refl
object_holds (Cut c o) a = refl
object_holds (Retire o) a = refl
object_holds (Queue o q n) a = refl
object_holds (Run o) a = refl

store_holds : (e : LiveEvent) (a b : State) (s : SectionId) → a.held s ≡ b.held s → (after_all a (shown e)).held s ≡ (after_all b (shown e)).held s
store_holds (Open r n m) a b s h = h
store_holds (Close r n) a b s h = ap (λ (os : List ObjectId). if same_section s (section r n) then [] else os) h
store_holds (Object d) a b s h = ap (λ f. f s) (object_holds d a) ∙ (h ∙ sym (ap (λ f. f s) (object_holds d b)))
store_holds SeqOdd a b s h = h
store_holds SeqEven a b s h = h
store_holds (Present p) a b s h = h
store_holds (ChainNote c x) a b s h = h
store_holds (CloseQueue q) a b s h = h

-- and what it asks does not depend on what sections hold
object_allowed : (d : ObjectEvent) (a b : State) → Beside a b → IsAllowed b (event_of d) → IsAllowed a (event_of d)
object_allowed (Push c o i w) a b e h = subst (λ (z : State). IsAllowed z (seen.Push c o)) (sym e) h
object_allowed (Replace c p o i w) a b e h = subst (λ (z : State). IsAllowed z (seen.Replace c p o)) (sym e) h
object_allowed (Cut c o) a b e h = subst (λ (z : State). IsAllowed z (seen.Cut c o)) (sym e) h
object_allowed (Retire o) a b e h = subst (λ (z : State). IsAllowed z (seen.Retire o)) (sym e) h
object_allowed (Queue o q n) a b e h = subst (λ (z : State). IsAllowed z (seen.Queue o q)) (sym e) h
object_allowed (Run o) a b e h = subst (λ (z : State). IsAllowed z (seen.Run o)) (sym e) h

pub store_allowed : (e : LiveEvent) (a b : State) → Beside a b → AreAllowed b (shown e) → AreAllowed a (shown e)
store_allowed (Open r n m) a b e h = (subst (λ (z : State). IsAllowed z (seen.Open (section r n))) (sym e) h.0, tt)
store_allowed (Close r n) a b e h = (subst (λ (z : State). IsAllowed z (seen.Close (section r n))) (sym e) h.0, tt)
store_allowed (Object d) a b e h = (object_allowed d a b e h.0, tt)
store_allowed SeqOdd a b e h = tt
store_allowed SeqEven a b e h = tt
store_allowed (Present p) a b e h = tt
store_allowed (ChainNote c x) a b e h = tt
store_allowed (CloseQueue q) a b e h = tt

-- a reading changes nothing but what its section holds
got_beside : (a b : State) (s : SectionId) (found : Option ObjectId) → Beside a b → Beside (got a s found) b
got_beside a b s None e = e
got_beside a b s (Some o) e = ap (λ (z : State). record z { held = at_section s (o ∷ a.held s) a.held }) e

got_both : (a b : State) (s : SectionId) (found : Option ObjectId) → Beside a b → Beside (got a s found) (got b s found)
got_both a b s None e = e
got_both a b s (Some o) e = ap (λ (z : State). record z { held = at_section s (o ∷ a.held s) a.held }) e

got_holds : (a b : State) (s : SectionId) (found : Option ObjectId) → a.held s ≡ b.held s → (got a s found).held s ≡ (got b s found).held s
got_holds a b s None h = h
got_holds a b s (Some o) h = at_section_same s (o ∷ a.held s) a.held ∙ (ap (λ (os : List ObjectId). o ∷ os) h ∙ sym (at_section_same s (o ∷ b.held s) b.held))

got_other : (a : State) (s t : SectionId) (found : Option ObjectId) → t ≢ s → (got a s found).held t ≡ a.held t
got_other a s t None ne = refl
got_other a s t (Some o) ne = at_section_other s t (o ∷ a.held s) a.held ne

pub read_is : (a : State) (s : SectionId) (l : Reading) → after a (read_event s l) ≡ got a s (found_by l)
read_is a s (First c found) = refl
read_is a s (Next o found) = refl
read_is a s (Touch o) = refl

pub read_allowed : (a b : State) (s : SectionId) (l : Reading) → Beside a b → a.held s ≡ b.held s → IsAllowed b (read_event s l) → IsAllowed a (read_event s l)
read_allowed a b s (First c found) e h x = subst (λ (z : State). IsAllowed z (seen.First s c found)) (sym e) x
read_allowed a b s (Next o found) e h x = subst (λ (z : State). IsAllowed z (seen.Next s o found)) (sym e) (x.0, subst (λ (os : List ObjectId). HasObject os o) (sym h) x.1, record { while_linked = x.2.while_linked; once_cut = x.2.once_cut })
read_allowed a b s (Touch o) e h x = subst (λ (z : State). IsAllowed z (seen.Touch s o)) (sym e) (x.0, subst (λ (os : List ObjectId). HasObject os o) (sym h) x.1)

-- the machine is the same with fewer readings, but for what sections hold
pub beside : (k : SectionId → Bool) (m : Readings) → Beside (state m) (state (kept_readings k m))
beside k [] = refl
beside k (Stored e ∷ xs) = store_beside e (state xs) (state (kept_readings k xs)) (beside k xs)
beside k (Read s l ∷ xs) = subst (λ (z : State). Beside z (state (kept_readings k (Read s l ∷ xs)))) (sym (read_is (state xs) s l)) (go (beside k xs) (k s))
  where
    go : Beside (state xs) (state (kept_readings k xs)) → (b : Bool) → Beside (got (state xs) s (found_by l)) (state (cond b (Read s l ∷ kept_readings k xs) (kept_readings k xs)))
    go h true = subst (λ (z : State). Beside (got (state xs) s (found_by l)) z) (sym (read_is (state (kept_readings k xs)) s l)) (got_both (state xs) (state (kept_readings k xs)) s (found_by l) h)
    go h false = got_beside (state xs) (state (kept_readings k xs)) s (found_by l) h

-- and a section holds the same with its read_by readings alone
pub holds_own : (s : SectionId) (m : Readings) → (state m).held s ≡ (state (read_by s m)).held s
holds_own s [] = refl
holds_own s (Stored e ∷ xs) = store_holds e (state xs) (state (read_by s xs)) s (holds_own s xs)
holds_own s (Read t l ∷ xs) = ap (λ (z : State). z.held s) (read_is (state xs) t l) ∙ ⊎_elim
    (λ (y : (same_section t s ≡ true) × (t ≡ s)). mine (holds_own s xs) y.0 y.1)
    (λ (n : (same_section t s ≡ false) × (t ≢ s)). got_other (state xs) t s (found_by l) (λ e. n.1 (sym e)) ∙ (holds_own s xs ∙ ap (λ (b : Bool). (state (cond b (Read t l ∷ read_by s xs) (read_by s xs))).held s) (sym n.0)))
    (section_tells t s)
  where
    mine : (state xs).held s ≡ (state (read_by s xs)).held s → same_section t s ≡ true → t ≡ s → (got (state xs) t (found_by l)).held s ≡ (state (read_by s (Read t l ∷ xs))).held s
    mine h y e = subst (λ (u : SectionId). (got (state xs) u (found_by l)).held s ≡ (state (read_by s (Read u l ∷ xs))).held s) (sym e)
        (got_holds (state xs) (state (read_by s xs)) s (found_by l) h ∙ (ap (λ (z : State). z.held s) (sym (read_is (state (read_by s xs)) s l)) ∙ ap (λ (b : Bool). (state (cond b (Read s l ∷ read_by s xs) (read_by s xs))).held s) (sym (subst (λ (u : SectionId). same_section u s ≡ true) e y))))

less : (s t : SectionId) (l : Reading) (xs : Readings) → Runs (read_by s (Read t l ∷ xs)) → Runs (read_by s xs)
less s t l xs = go (same_section t s)
  where
    go : (b : Bool) → Runs (cond b (Read t l ∷ read_by s xs) (read_by s xs)) → Runs (read_by s xs)
    go true h = h.0
    go false h = h

same_is : (s : SectionId) → same_section s s ≡ true
same_is s = ⊎_elim (λ (y : (same_section s s ≡ true) × (s ≡ s)). y.0) (λ (n : (same_section s s ≡ false) × (s ≢ s)). absurd (n.1 refl)) (section_tells s s)

-- the readings of any number of sections go together where those of each go alone
pub together : (m : Readings) → ((s : SectionId) → Runs (read_by s m)) → Runs m
together [] each = tt
together (Stored e ∷ xs) each = (together xs (λ s. (each s).0), store_allowed e (state xs) (state (read_by (section 0 0) xs)) (beside _ xs) (each (section 0 0)).1)
together (Read t l ∷ xs) each =
    let a : Runs (Read t l ∷ read_by t xs) = subst (λ (b : Bool). Runs (cond b (Read t l ∷ read_by t xs) (read_by t xs))) (same_is t) (each t) in
    (together xs (λ s. less s t l xs (each s)), (read_allowed (state xs) (state (read_by t xs)) t l (beside _ xs) (holds_own t xs) a.1.0, tt))

-- the log alone has the same machine, but for what sections hold
bare : (m : Readings) → Beside (state m) (state_of (log_in m))
bare [] = refl
bare (Stored e ∷ xs) = subst (λ (z : State). Beside (after_all (state xs) (shown e)) z) (sym (log_step e (log_in xs))) (store_beside e (state xs) (state_of (log_in xs)) (bare xs))
  where
    log_step : (e : LiveEvent) (es : Log) → state_of (e ∷ es) ≡ after_all (state_of es) (shown e)
    log_step (Open r n m) es = refl
    log_step (Close r n) es = refl
    log_step (Object d) es = refl
    log_step SeqOdd es = refl
    log_step SeqEven es = refl
    log_step (Present p) es = refl
    log_step (ChainNote c x) es = refl
    log_step (CloseQueue q) es = refl
bare (Read s l ∷ xs) = subst (λ (z : State). Beside z (state_of (log_in xs))) (sym (read_is (state xs) s l)) (got_beside (state xs) (state_of (log_in xs)) s (found_by l) (bare xs))

pub log_more : (since : Log) (m : Readings) → log_in (later since m) ≡ since ++ log_in m
log_more [] m = refl
log_more (e ∷ es) m = ap (λ (l : Log). e ∷ l) (log_more es m)

-- what was seen stays so
seen_grows : (since old : Log) (s : SectionId) → In (state_of old).seen s → In (state_of (since ++ old)).seen s
seen_grows [] old s h = h
seen_grows (Open q i j ∷ es) old s h = inr (seen_grows es old s h)
seen_grows (Close q i ∷ es) old s h = seen_grows es old s h
seen_grows (SeqOdd ∷ es) old s h = seen_grows es old s h
seen_grows (SeqEven ∷ es) old s h = seen_grows es old s h
seen_grows (Present _ ∷ es) old s h = seen_grows es old s h
seen_grows (ChainNote _ _ ∷ es) old s h = seen_grows es old s h
seen_grows (CloseQueue _ ∷ es) old s h = seen_grows es old s h
seen_grows (Object d ∷ es) old s h = subst (λ l. In l s) (sym (same_sections (state_of (es ++ old)) d).1) (seen_grows es old s h)

module _ (qsbr : Bool) (allows : Log → LiveEvent → Type 0) where
  shown_allowed : (e : LiveEvent) (es : Log) → IsLiveRun qsbr allows (e ∷ es) → AreAllowed (state_of es) (shown e)
  shown_allowed (Open r n m) es run = ((λ h. fresh_section qsbr allows es r n m run (in_sections (state_of es).seen (section r n) h)), tt)
  shown_allowed (Close r n) es run = (has_section_in (state_of es).sections (section r n) (open_inside es r n run.0.0 run.0.1), tt)
  shown_allowed (Object d) es run = (run.0.0, tt)
  shown_allowed SeqOdd es run = tt
  shown_allowed SeqEven es run = tt
  shown_allowed (Present p) es run = tt
  shown_allowed (ChainNote c x) es run = tt
  shown_allowed (CloseQueue q) es run = tt

  -- readings that are fitted stay so as the log goes on
  pub goes_on : (since : Log) (m : Readings) → IsLiveRun qsbr allows (log_in (later since m)) → Runs m → Runs (later since m)
  goes_on [] m run h = h
  goes_on (e ∷ es) m run h = (goes_on es m run.1 h, store_allowed e (state (later es m)) (state_of (log_in (later es m))) (bare (later es m)) (shown_allowed e (log_in (later es m)) run))

  -- First is fitted to a log in which the section is open and the chain begins so
  pub first_fits : (since : Log) (m : Readings) (s : SectionId) (c : ℕ) (found : Option ObjectId) → IsLiveRun qsbr allows (log_in (later since m)) → Runs m
      → Inside s (log_in (later since m)) → first_of ((state_of (log_in (later since m))).chain c) ≡ found → Runs (Read s (First c found) ∷ later since m)
  first_fits since m s c found run h inside e = (goes_on since m run h, (subst (λ (z : State). IsAllowed z (seen.First s c found)) (sym (bare (later since m))) (has_section_in (state_of (log_in (later since m))).sections s inside, e), tt))

  -- Next, and Touch, of an object that the section holds there
  pub next_fits : (since : Log) (m : Readings) (s : SectionId) (o : ObjectId) (found : Option ObjectId) → IsLiveRun qsbr allows (log_in (later since m)) → Runs m
      → Inside s (log_in (later since m)) → HasObject ((state (later since m)).held s) o → IsSuccessor (state_of (log_in (later since m))) o found → Runs (Read s (Next o found) ∷ later since m)
  next_fits since m s o found run h inside has e = (goes_on since m run h, (subst (λ (z : State). IsAllowed z (seen.Next s o found)) (sym (bare (later since m))) (has_section_in (state_of (log_in (later since m))).sections s inside, has, record { while_linked = e.while_linked; once_cut = e.once_cut }), tt))

  pub touch_fits : (since : Log) (m : Readings) (s : SectionId) (o : ObjectId) → IsLiveRun qsbr allows (log_in (later since m)) → Runs m
      → Inside s (log_in (later since m)) → HasObject ((state (later since m)).held s) o → Runs (Read s (Touch o) ∷ later since m)
  touch_fits since m s o run h inside has = (goes_on since m run h, (subst (λ (z : State). IsAllowed z (seen.Touch s o)) (sym (bare (later since m))) (has_section_in (state_of (log_in (later since m))).sections s inside, has), tt))

  -- what a section holds it holds while it is open
  pub holds_on : (since : Log) (m : Readings) (s : SectionId) (o : ObjectId) → IsLiveRun qsbr allows (log_in (later since m)) → Inside s (log_in m) → Inside s (log_in (later since m)) → HasObject ((state m).held s) o → HasObject ((state (later since m)).held s) o
  holds_on [] m s o run was inside has = has
  holds_on (e ∷ es) m s o run was inside has =
      let before : Inside s (log_in (later es m)) = inside_between qsbr allows (log_in (later es m)) (log_in (later (e ∷ es) m)) s (e ∷ [], refl) run (seen_there es run.1) inside in
      one e (later es m) inside (holds_on es m s o run.1 was before has)
    where
      seen_there : (since : Log) → IsLiveRun qsbr allows (log_in (later since m)) → In (state_of (log_in (later since m))).seen s
      seen_there since run = subst (λ (l : Log). In (state_of l).seen s) (sym (log_more since m)) (seen_grows since (log_in m) s (inside_seen qsbr allows (log_in m) s (run_of qsbr allows (log_in m) (log_in (later since m)) (since, log_more since m) run) was))

      one : (e : LiveEvent) (m : Readings) → Inside s (log_in (Stored e ∷ m)) → HasObject ((state m).held s) o → HasObject ((state (Stored e ∷ m)).held s) o
      one (Open r n x) m i has = has
      one (Close r n) m i has = subst (λ (os : List ObjectId). HasObject os o) (sym (at_section_other (section r n) s [] (state m).held (λ e. (without_section_has (section r n) (state_of (log_in m)).sections s i).1 e))) has
      one (Object d) m i has = subst (λ (f : SectionId → List ObjectId). HasObject (f s) o) (sym (object_holds d (state m))) has
      one SeqOdd m i has = has
      one SeqEven m i has = has
      one (Present p) m i has = has
      one (ChainNote c x) m i has = has
      one (CloseQueue q) m i has = has

-- what was found is held
pub finds : (m : Readings) (s : SectionId) (l : Reading) (o : ObjectId) → found_by l ≡ Some o → HasObject ((state (Read s l ∷ m)).held s) o
finds m s l o e = subst (λ (z : State). HasObject (z.held s) o) (sym (read_is (state m) s l ∙ ap (λ found. got (state m) s found) e))
    (subst (λ (os : List ObjectId). HasObject os o) (sym (at_section_same s (o ∷ (state m).held s) (state m).held)) (has_object_in (o ∷ (state m).held s) o (inl refl)))

pub held_there : (m : Readings) (s : SectionId) (o : ObjectId) → HasObject ((state m).held s) o → HoldsIn m s o
held_there m s o h = subst (λ (z : State). HasObject (z.held s) o) (sym (state_is m)) h

pub there_held : (m : Readings) (s : SectionId) (o : ObjectId) → HoldsIn m s o → HasObject ((state m).held s) o
there_held m s o h = subst (λ (z : State). HasObject (z.held s) o) (state_is m) h

-- a section that reads goes on holding what it held
held_on : (m : Readings) (s : SectionId) (x : Reading) (o : ObjectId) → HasObject ((state m).held s) o → HasObject ((state (Read s x ∷ m)).held s) o
held_on m s x o h = subst (λ (z : State). HasObject (z.held s) o) (sym (read_is (state m) s x)) (got_more (state m) (found_by x) h)
  where
    got_more : (a : State) (found : Option ObjectId) → HasObject (a.held s) o → HasObject ((got a s found).held s) o
    got_more a None has = has
    got_more a (Some p) has = subst (λ (os : List ObjectId). HasObject os o) (sym (at_section_same s (p ∷ a.held s) a.held)) (has_object_in (p ∷ a.held s) o (inr (in_objects (a.held s) o has)))

-- in a later log in which its section is open still
module _ (qsbr : Bool) (allows : Log → LiveEvent → Type 0) (old new : Log) (m : Readings) (s : SectionId) (stays : StaysOpen qsbr allows s old new) (fit : FitIn m old) where
  abbrev since : Log
  since = stays.later.0

  reaches : log_in (later since m) ≡ new
  reaches = log_more since m ∙ (ap (λ (l : Log). since ++ l) fit.0 ∙ sym stays.later.1)

  at_end : IsLiveRun qsbr allows (log_in (later since m))
  at_end = subst (IsLiveRun qsbr allows) (sym reaches) stays.run

  was : Inside s (log_in m)
  was = subst (Inside s) (sym fit.0) (in_sections (state_of old).sections s stays.was_open)

  is : Inside s (log_in (later since m))
  is = subst (Inside s) (sym reaches) (in_sections (state_of new).sections s stays.is_open)

  still_held : (o : ObjectId) → HoldsIn m s o → HasObject ((state (later since m)).held s) o
  still_held o has = holds_on qsbr allows since m s o at_end was is (there_held m s o has)

  one_more : (x : Reading) → StartsHeld m s x → IsSoIn new x → Runs (Read s x ∷ later since m)
  one_more (First c found) held so = first_fits qsbr allows since m s c found at_end (runs m fit.1) is (subst (λ (l : Log). first_of ((state_of l).chain c) ≡ found) (sym reaches) so)
  one_more (Next o found) held so = next_fits qsbr allows since m s o found at_end (runs m fit.1) is (still_held o held) (follows_is (log_in (later since m)) o found (kept_log qsbr allows (log_in (later since m)) at_end) (subst (λ (l : Log). Follows (objects_of l) o found) (sym reaches) so))
  one_more (Touch o) held so = touch_fits qsbr allows since m s o at_end (runs m fit.1) is (still_held o held)

  pub reads_on : (x : Reading) → StartsHeld m s x → IsSoIn new x → ReadsOn m s x new
  reads_on x held so = record {
    since = since;
    fit = (reaches, fitted (Read s x ∷ later since m) (one_more x held so));
    keeps = λ o has. held_there (Read s x ∷ later since m) s o (held_on (later since m) s x o (still_held o has));
    finds = λ o e. held_there (Read s x ∷ later since m) s o (finds (later since m) s x o e);
  }

-- What an event leaves, the checker knows.
use Rattle.rcu_judge.proofs.Cited.{◌≡◌, ◌≢◌, ◌⊎◌, ◌↔◌, inl, inr, ⊎_elim, ℕ, Bool, true, false, not, List, [], ◌∷◌, ◌++◌, length, length-set, set, Option, Some, None, arith, refl, sym, ap, ◌∙◌, subst, true≢false, IsTrue, option_eq, get_or_past, length_push, SectionId, ObjectId, Event, Open, Close, First, Next, Touch, Retire, Queue, Run, Ask, Answer, Bar, Clear, same_object, HasSection, HasObject, HasNumber, without_section, without_object, at_number, at_section, at_object, first_of, State, start, IsAllowed, IsSuccessor, after, not_run, got, Tells, section_tells, object_tells, has_section_in, in_objects, has_object_in, at_number_same, at_number_other, at_section_same, at_section_other, at_object_same, at_object_other, Kept, decide, not_reclaimed}
use Rattle.rcu_judge.specs.declared.checker.Checker.{Checker}
use Rattle.rcu_judge.specs.declared.holdings.Holdings.{Holdings}
use Rattle.rcu_judge.specs.declared.objects.Objects.{Objects}
use Rattle.rcu_judge.specs.declared.sections.Sections.{Sections}
use Rattle.rcu_judge.specs.declared.waits.Waits.{Waits}
use Rattle.rcu_judge.specs.Roster.{IsThere, HaveLeft, Awaits}
use Rattle.rcu_judge.specs.Sections.{place_of, AreSections, AwaitsSections, Opens, Closes}
use Rattle.rcu_judge.specs.Holdings.{HasGot}
use Rattle.rcu_judge.specs.Waits.{AreWaits, IsPending, Begins, Ends}
use Rattle.rcu_judge.specs.declared.object.Waiting.{Waiting}
use Rattle.rcu_judge.specs.Objects.{Knows, IsReached, FindsSuccessor, FindsWaiting}
use Rattle.rcu_judge.specs.Checker.{AreHeld, Follows, Goes, Gets, GetsIn}
use Rattle.rcu_judge.proofs.Members.{has_first, has_last, has_without, has_more, no_object, has_without_object_is, not_run_has}
use Rattle.rcu_judge.proofs.Parts.{of_sections, of_objects, of_waits}
use Rattle.rcu_judge.proofs.ObjectsStores.{kept_reached}
use Rattle.rcu_judge.proofs.Rosters.{none_awaited, awaits_here, rostered_arrive, awaits_arrive, rostered_leave, awaits_leave}
use Rattle.rcu_judge.proofs.SectionLemmas.{was_opened}

-- a section opens
open_held : (h : Holdings) (now : State) (s : SectionId) → Kept now → AreHeld h now.seen now.sections now.held → ((t : SectionId) → HasSection now.sections t → HasSection now.seen t) → ¬ HasSection now.seen s →
    AreHeld h (s ∷ now.seen) (now.sections ++ s ∷ []) now.held
open_held h now s k a came fresh = record {
  opened = λ t o g. (has_first s now.seen t).1 (inr (a.opened t o g));
  holds = λ t o is_open.
      let was = (has_last s now.sections t).0 is_open in
      let got = a.opened t o in
      let held = k.holder_open t o in
      let holds = a.holds t o in
      grind (arith, was, got, held, holds, came t, in_objects, has_section_in);
}

pub open_goes : (k : Checker) (new : Sections) (s : SectionId) (opened : Bool) →
    ((seen still : List SectionId) → AreSections k.sections seen still → Opens k.sections new seen still s opened) →
    (now : State) → IsReached now → Follows k now → Goes (record k { sections = new }) now (Open s) opened
open_goes k new s opened does now r f =
    let o = does now.seen now.sections f.sections in
    record {
      allowed = o.fresh;
      follows = λ t. of_sections k now (after now (Open s)) f new k.holdings (o.open_now t)
          (open_held k.holdings now s (kept_reached now r) f.holdings (was_opened k.sections now.seen now.sections f.sections) (o.fresh.0 t))
          (λ p h. o.awaits t (now.awaited p) (f.moments p) (f.retired p h)) (λ a m h. o.awaits t (now.asked_sections a) m (f.asked a m h));
    }

-- a section closes
close_held : (h new : Holdings) (now : State) (s : SectionId) → ((t : SectionId) (o : ObjectId) → HasGot new t o ↔ (HasGot h t o × (s ≢ t))) → AreHeld h now.seen now.sections now.held → AreHeld new now.seen (without_section s now.sections) (at_section s [] now.held)
close_held h new now s forgets a = grind (arith, has_without, at_section_other)

pub close_goes : (k : Checker) (holdings : Holdings) (new : Sections) (s : SectionId) (closed : Bool) → ((t : SectionId) (o : ObjectId) → HasGot holdings t o ↔ (HasGot k.holdings t o × (s ≢ t))) →
    ((seen still : List SectionId) → AreSections k.sections seen still → Closes k.sections new seen still s closed) →
    (now : State) → Follows k now → Goes (record k { sections = new; holdings = holdings }) now (Close s) closed
close_goes k holdings new s closed forgets does now f =
    let c = does now.seen now.sections f.sections in
    record {
      allowed = c.was;
      follows = λ t. of_sections k now (after now (Close s)) f new holdings (c.closed_now t) (close_held k.holdings holdings now s forgets f.holdings)
          (λ p h. c.awaits t (now.awaited p) (f.moments p) (f.retired p h)) (λ a m h. c.awaits t (now.asked_sections a) m (f.asked a m h));
    }

-- a section gets what it found
get_held : (h new : Holdings) (now : State) (s : SectionId) (o : ObjectId) → HasSection now.sections s → HasSection now.seen s → GetsIn h new s (Some o) → AreHeld h now.seen now.sections now.held →
    AreHeld new now.seen now.sections (at_section s (o ∷ now.held s) now.held)
get_held h new now s o is_open seen does a = grind (arith, section_tells, at_section_same, at_section_other, has_more)

pub get_follows : (k new : Checker) (s : SectionId) (found : Option ObjectId) → Gets k new s found → (now : State) → HasSection now.sections s → Follows k now → Follows new (got now s found)
get_follows k new s None g now is_open f = subst (λ c. Follows c now) (sym (g.rest ∙ ap (λ (h : Holdings). let c : Checker = record k { holdings = h } in c) g.got)) f
get_follows k new s (Some o) g now is_open f = subst (λ c. Follows c (got now s (Some o))) (sym g.rest)
    (of_sections k now (got now s (Some o)) f k.sections new.holdings f.sections (get_held k.holdings new.holdings now s o is_open (was_opened k.sections now.seen now.sections f.sections s is_open) g.got f.holdings) f.retired f.asked)

-- a callback is queued, or runs
module _ (now : State) (o : ObjectId) where
  queued_here : (¬ HasObject now.reclaimed o) → (p : ObjectId) → HasObject (not_run (record now { queued = o ∷ now.queued })) p ↔ ((o ≡ p) ⊎ HasObject (not_run now) p)
  queued_here fresh p = grind (arith, not_run_has, has_more)

  reclaimed_here : (p : ObjectId) → HasObject (not_run (record now { reclaimed = o ∷ now.reclaimed })) p ↔ (HasObject (not_run now) p × (p ≢ o))
  reclaimed_here p =
      let before = not_run_has now.queued now.reclaimed p in
      let after = not_run_has now.queued (o ∷ now.reclaimed) p in
      grind (arith, before, after, has_more)

pub queue_goes : (k : Checker) (objects : Objects) (present : List Bool) (o : ObjectId) (q ticket : ℕ) (done : Bool) →
    ticket ≡ length k.queued → present ≡ k.queued ++ true ∷ [] →
    ((now : State) (moments tickets : ObjectId → ℕ) (queue : ℕ) → Knows k.objects now moments tickets → (IsTrue done ↔ IsAllowed now (Queue o queue)) × (IsTrue done → Knows objects (after now (Queue o queue)) moments (at_object o ticket tickets))) →
    (now : State) → Follows k now → Goes (record k { objects = objects; queued = present }) now (Queue o q) done
queue_goes k objects present o q ticket done at came does now f =
    let d = does now f.moments f.tickets q f.objects in
    let later = after now (Queue o q) in
    let place = at_object o ticket f.tickets in
    let last = at_object_same o ticket f.tickets ∙ at in
    let here = λ (t : IsTrue done). queued_here now o (λ h. (d.0.0 t).1 (f.objects.shows.was_run o h)) in
    let keeps = λ (t : IsTrue done) (p : ObjectId) (h : HasObject now.queued p). at_object_other o p ticket f.tickets (λ e. (d.0.0 t).1 (subst (HasObject now.queued) e h)) in
    record {
      allowed = d.0;
      follows = λ t. of_objects k now later f objects present f.moments place (d.1 t) f.retired
          (rostered_arrive (HasObject now.queued) (HasObject (not_run now)) f.tickets k.queued f.queued o (HasObject (not_run later)) present (HasObject later.queued) place (d.0.0 t).1 (has_more o now.queued) (here t) last (keeps t) came)
          (λ b m h. awaits_arrive (HasObject (not_run now)) f.tickets (length k.queued) o (HasObject (not_run later)) place (here t) last (λ p i. keeps t p (f.queued.came p i))
          (HasObject (now.noted_objects b)) m (length present) (ap length came ∙ length_push k.queued true) (f.noted b m h));
    }

-- an event that may not come now
no_event : (k : Checker) (now : State) (e : Event) → ¬ IsAllowed now e → Goes k now e false
no_event k now e not_now = grind arith

-- a callback runs
module _ (k : Checker) (o : ObjectId) (w : Waiting) (closed : Bool)
    (found : (now : State) (moments tickets : ObjectId → ℕ) → Knows k.objects now moments tickets → FindsWaiting now moments tickets o (Some w))
    (told : (seen still awaited : List SectionId) → AreSections k.sections seen still → AwaitsSections k.sections still awaited w.moment → IsTrue closed ↔ (awaited ≡ []))
    (now : State) (r : IsReached now) (f : Follows k now) where
  waits : FindsWaiting now f.moments f.tickets o (Some w)
  waits = found now f.moments f.tickets f.objects

  awaits_nobody : IsTrue closed ↔ (now.awaited o ≡ [])
  awaits_nobody =
      let retired = has_object_in now.retired o ((kept_reached now r).queued_retired o (in_objects now.queued o (waits.waits.0 refl).0)) in
      told now.seen now.sections (now.awaited o) f.sections (subst (AwaitsSections k.sections now.sections (now.awaited o)) (sym waits.is.0) (f.retired o retired))

  pub run_waits : closed ≡ false → Goes k now (Run o) false
  run_waits open_yet = no_event k now (Run o) (λ a. true≢false (sym (awaits_nobody.1 a.2) ∙ open_yet))

  pub run_goes : (objects : Objects) (present : List Bool) (left : Bool) → closed ≡ true → present ≡ set k.queued w.ticket false → (IsTrue left ↔ IsThere k.queued w.ticket) →
      ((now : State) (moments tickets : ObjectId → ℕ) → Knows k.objects now moments tickets → HasObject now.queued o → Knows objects (after now (Run o)) moments tickets) →
      Goes (record k { objects = objects; queued = present }) now (Run o) left
  run_goes objects present left yes_closed gone was does = record {
    allowed = ((λ _. (q.0, q.1, awaits_nobody.0 yes_closed)), (λ _. was.1 (subst (IsThere k.queued) (sym waits.is.1) ((f.queued.marked o q.0).0 is_here))));
    follows = λ _. of_objects k now later f objects present f.moments f.tickets (does now f.moments f.tickets f.objects q.0) f.retired
        (rostered_leave (HasObject now.queued) (HasObject (not_run now)) f.tickets k.queued f.queued o (HasObject (not_run later)) present is_here (reclaimed_here now o) at)
        (λ b m h. awaits_leave (HasObject (not_run now)) f.tickets (length k.queued) o (HasObject (not_run later)) (reclaimed_here now o) (HasObject (now.noted_objects b)) (HasObject (without_object o (now.noted_objects b))) m (length present)
        (has_without_object_is o (now.noted_objects b)) (ap length at ∙ length-set k.queued (f.tickets o) false) (f.noted b m h));
  }
    where
      later : State
      later = after now (Run o)

      q : HasObject now.queued o × ¬ HasObject now.reclaimed o
      q = waits.waits.0 refl

      is_here : HasObject (not_run now) o
      is_here = (not_run_has now.queued now.reclaimed o).1 q

      at : present ≡ set k.queued (f.tickets o) false
      at = gone ∙ ap (λ n. set k.queued n false) waits.is.1

-- a callback that does not wait
pub run_none : (k : Checker) (o : ObjectId) → ((now : State) (moments tickets : ObjectId → ℕ) → Knows k.objects now moments tickets → FindsWaiting now moments tickets o None) → (now : State) → Follows k now → Goes k now (Run o) false
run_none k o finds now f = no_event k now (Run o) (λ a. true≢false (sym ((finds now f.moments f.tickets f.objects).waits.1 (a.0, a.1))))

-- what a test of two findings tells
option_tells : {X : Type 0} (same : X → X → Bool) → ((x y : X) → Tells (same x y) x y) → (a b : Option X) → Tells (option_eq same a b) a b
option_tells same tells a b = grind arith

pub found_tells : (a b : Option ObjectId) → Tells (option_eq same_object a b) a b
found_tells = option_tells same_object object_tells

pub next_tells : (a b : Option (Option ObjectId)) → Tells (option_eq (option_eq same_object) a b) a b
next_tells = option_tells (option_eq same_object) found_tells

pub not_different : {X : Type 0} (b same : Bool) (x y : X) → Tells same x y → b ≡ not same → b ≡ false → x ≡ y
not_different b same x y tells e f = grind arith

pub different : {X : Type 0} (b same : Bool) (x y : X) → Tells same x y → b ≡ not same → b ≡ true → x ≢ y
different b same x y tells e f = grind arith

-- a section reads
pub first_goes : (k new : Checker) (s : SectionId) (c : ℕ) (found first : Option ObjectId) (is_open : Bool) →
    ((seen still : List SectionId) → AreSections k.sections seen still → IsTrue is_open ↔ HasSection still s) → is_open ≡ true →
    ((now : State) (moments tickets : ObjectId → ℕ) → Knows k.objects now moments tickets → first ≡ first_of (now.chain c)) → first ≡ found →
    Gets k new s found → (now : State) → Follows k now → Goes new now (First s c found) true
first_goes k new s c found first is_open told yes_open firsts same gets now f =
    let o = (told now.seen now.sections f.sections).0 yes_open in
    record {
      allowed = ((λ _. (o, sym (firsts now f.moments f.tickets f.objects) ∙ same)), (λ _. refl));
      follows = λ _. get_follows k new s found gets now o f;
    }

holds_used : (now : State) (s : SectionId) (o : ObjectId) → Kept now → HasObject (now.held s) o → HasObject now.used o
holds_used now s o k h = grind (arith, in_objects, has_object_in)

module _ (k : Checker) (s : SectionId) (from : ObjectId) (found : Option ObjectId) (after : Option (Option ObjectId)) (touched : Bool) (now : State)
    (finds : FindsSuccessor now from after) (touch : Goes k now (Touch s from) touched) where
  pub next_goes : (new : Checker) → touched ≡ true → after ≡ Some found → Gets k new s found → Follows k now → Goes new now (Next s from found) true
  next_goes new yes_touched same gets f =
      let t = touch.allowed.0 yes_touched in
      let e = subst (FindsSuccessor now from) same finds in
      record {
        allowed = ((λ _. (t.0, t.1, (e.1 found).0 refl)), (λ _. refl));
        follows = λ _. get_follows k new s found gets now t.0 f;
      }

  pub next_stops : IsReached now → after ≢ Some found → Goes k now (Next s from found) false
  next_stops r other = no_event k now (Next s from found) (by after finds other)
    where
      kept : Kept now
      kept = kept_reached now r

      by : (after : Option (Option ObjectId)) → FindsSuccessor now from after → after ≢ Some found → ¬ (HasSection now.sections s × HasObject (now.held s) from × IsSuccessor now from found)
      by None absent apart a = ⊎_elim (λ (n : ¬ HasObject now.used from). n (holds_used now s from kept a.1)) (λ (h : HasObject now.reclaimed from). not_reclaimed now s from kept (kept.safe s from (in_objects (now.held s) from a.1)) (in_objects now.reclaimed from h)) absent
      by (Some next) finds apart a = apart (ap (λ (x : Option ObjectId). Some x) ((finds.1 found).1 a.2))

-- a wait is over where it was pending and nobody is awaited
is_over : {T : Type 0} (awaited : List T) (begun over : List ℕ) (n : ℕ) (b : Bool) → HasNumber begun n × ¬ HasNumber over n → IsTrue b ↔ (awaited ≡ []) → IsTrue b ↔ (HasNumber begun n × (¬ HasNumber over n) × (awaited ≡ []))
is_over awaited begun over n b pending nobody = grind arith

pub answer_goes : (k : Checker) (asks : Waits) (a moment : ℕ) (closed : Bool) →
    ((begun over : List ℕ) → AreWaits k.asks begun over → Ends k.asks asks begun over a (Some moment)) →
    ((seen still awaited : List SectionId) → AreSections k.sections seen still → AwaitsSections k.sections still awaited moment → IsTrue closed ↔ (awaited ≡ [])) →
    (now : State) → Follows k now → Goes (record k { asks = asks }) now (Answer a) closed
answer_goes k asks a moment closed ends told now f =
    let e = ends now.asked now.answered f.asks in
    record {
      allowed = is_over (now.asked_sections a) now.asked now.answered a closed (e.pending.0 refl) (told now.seen now.sections (now.asked_sections a) f.sections (f.asked a moment (e.since moment refl)));
      follows = λ _. of_waits k now (after now (Answer a)) f asks k.barriers (e.ended_now refl) (λ b m h. f.asked b m (e.pends b m h)) f.barriers f.noted;
    }

pub clear_goes : (k : Checker) (barriers : Waits) (b moment : ℕ) (gone : Bool) →
    ((begun over : List ℕ) → AreWaits k.barriers begun over → Ends k.barriers barriers begun over b (Some moment)) →
    (IsTrue gone ↔ HaveLeft k.queued moment) →
    (now : State) → Follows k now → Goes (record k { barriers = barriers }) now (Clear b) gone
clear_goes k barriers b moment gone ends told now f = record {
  allowed = is_over (now.noted_objects b) now.noted now.cleared b gone (e.pending.0 refl) ((λ t. (no_object (now.noted_objects b)).0 (left.0 (told.0 t))), (λ none. told.1 (left.1 ((no_object (now.noted_objects b)).1 none))));
  follows = λ _. of_waits k now (after now (Clear b)) f k.asks barriers f.asks f.asked (e.ended_now refl) (λ c m h. f.noted c m (e.pends c m h));
}
  where
    e : Ends k.barriers barriers now.noted now.cleared b (Some moment)
    e = ends now.noted now.cleared f.barriers

    left : HaveLeft k.queued moment ↔ ((o : ObjectId) → ¬ HasObject (now.noted_objects b) o)
    left = none_awaited (HasObject now.queued) (HasObject (not_run now)) f.tickets k.queued (HasObject (now.noted_objects b)) moment f.queued (f.noted b moment (e.since moment refl))

-- what is awaited by the waits that pend, once one more has begun that awaits all that are here
awaits_begun : {T : Type 0} (Has : List T → T → Type 0) (here : List T) (place : T → ℕ) (came : ℕ) (old new : Waits) (n moment : ℕ) (awaited : ℕ → List T) →
    ((k m : ℕ) → IsPending new k m → ((k ≡ n) × (m ≡ moment)) ⊎ ((k ≢ n) × IsPending old k m)) → Awaits (Has here) (Has here) place came moment →
    ((k m : ℕ) → IsPending old k m → Awaits (Has here) (Has (awaited k)) place came m) → (k m : ℕ) → IsPending new k m → Awaits (Has here) (Has (at_number n here awaited k)) place came m
awaits_begun Has here place came old new n moment awaited pends now was k m h = grind (arith, at_number_same, at_number_other)

-- a barrier begins
pub bar_goes : (k : Checker) (barriers : Waits) (b moment : ℕ) (fresh : Bool) → moment ≡ length k.queued →
    ((begun over : List ℕ) → AreWaits k.barriers begun over → Begins k.barriers barriers begun over b moment fresh) →
    (now : State) → Follows k now → Goes (record k { barriers = barriers }) now (Bar b) fresh
bar_goes k barriers b moment fresh at begins now f =
    let e = begins now.noted now.cleared f.barriers in
    let here = awaits_here (HasObject (not_run now)) f.tickets (length k.queued) (λ p h. f.queued.placed p (f.queued.came p h)) in
    record {
      allowed = e.fresh;
      follows = λ t. of_waits k now (after now (Bar b)) f k.asks barriers f.asks f.asked (e.begun_now t)
          (awaits_begun HasObject (not_run now) f.tickets (length k.queued) k.barriers barriers b moment now.noted_objects (e.pends t) (rw at here) f.noted);
    }

-- an ask begins
pub ask_goes : (k : Checker) (asks : Waits) (a moment : ℕ) (fresh : Bool) → ((seen still : List SectionId) → AreSections k.sections seen still → AwaitsSections k.sections still still moment) →
    ((begun over : List ℕ) → AreWaits k.asks begun over → Begins k.asks asks begun over a moment fresh) →
    (now : State) → Follows k now → Goes (record k { asks = asks }) now (Ask a) fresh
ask_goes k asks a moment fresh at begins now f =
    let e = begins now.asked now.answered f.asks in
    record {
      allowed = e.fresh;
      follows = λ t. of_waits k now (after now (Ask a)) f asks k.barriers (e.begun_now t)
          (awaits_begun HasSection now.sections (place_of k.sections) k.sections.opened k.asks asks a moment now.asked_sections (e.pends t) (at now.seen now.sections f.sections) f.asked) f.barriers f.noted;
    }

-- an object is retired
pub retire_goes : (k : Checker) (objects : Objects) (o : ObjectId) (moment : ℕ) (done : Bool) → ((seen still : List SectionId) → AreSections k.sections seen still → AwaitsSections k.sections still still moment) →
    ((now : State) (moments tickets : ObjectId → ℕ) → Knows k.objects now moments tickets → (IsTrue done ↔ IsAllowed now (Retire o)) × (IsTrue done → Knows objects (after now (Retire o)) (at_object o moment moments) tickets)) →
    (now : State) → Follows k now → Goes (record k { objects = objects }) now (Retire o) done
retire_goes k objects o moment done at retires now f =
    let r = retires now f.moments f.tickets f.objects in
    record {
      allowed = r.0;
      follows = λ t. of_objects k now (after now (Retire o)) f objects k.queued (at_object o moment f.moments) f.tickets (r.1 t) (λ p h. awaits p (decide p o) ((has_more o now.retired p).0 h)) f.queued f.noted;
    }
  where
    awaits : (p : ObjectId) → (p ≡ o) ⊎ (p ≢ o) → (o ≡ p) ⊎ HasObject now.retired p → AwaitsSections k.sections now.sections (at_object o now.sections now.awaited p) (at_object o moment f.moments p)
    awaits p (inl e) h = rw (e, at_object_same o now.sections now.awaited, at_object_same o moment f.moments) (at now.seen now.sections f.sections)
    awaits p (inr n) (inl e) = absurd (n (sym e))
    awaits p (inr n) (inr h) = rw (at_object_other o p now.sections now.awaited n, at_object_other o p moment f.moments n) (f.retired p h)

-- a section that is not open reads nothing
pub first_stops : (k : Checker) (s : SectionId) (c : ℕ) (found : Option ObjectId) (is_open : Bool) →
    ((seen still : List SectionId) → AreSections k.sections seen still → IsTrue is_open ↔ HasSection still s) → is_open ≡ false →
    (now : State) → Follows k now → Goes k now (First s c found) false
first_stops k s c found is_open told not_open now f = no_event k now (First s c found) (λ a. true≢false (sym ((told now.seen now.sections f.sections).1 a.0) ∙ not_open))

module _ (k : Checker) (s : SectionId) (o : ObjectId) (is_open : Bool) (told : (seen still : List SectionId) → AreSections k.sections seen still → IsTrue is_open ↔ HasSection still s) (now : State) (f : Follows k now) where
  pub touch_goes : (has : Bool) → IsTrue has ↔ HasGot k.holdings s o → is_open ≡ true → Goes k now (Touch s o) has
  touch_goes has got yes_open =
      let opened = (told now.seen now.sections f.sections).0 yes_open in
      let held = f.holdings.holds s o opened in
      record { allowed = ((λ t. (opened, held.0 (got.0 t))), (λ a. got.1 (held.1 a.1))); follows = λ _. f }

  pub touch_stops : is_open ≡ false → Goes k now (Touch s o) is_open
  touch_stops not_open = record { allowed = ((λ t. absurd (true≢false (sym t ∙ not_open))), (λ a. (told now.seen now.sections f.sections).1 a.0)); follows = λ _. f }

-- nothing has happened
none_pending : (w : Waits) → AreWaits w [] [] → (n m : ℕ) → ¬ IsPending w n m
none_pending w a n m h = grind arith

pub follows_start : (sections : Sections) (holdings : Holdings) (objects : Objects) (queued : List Bool) (asks barriers : Waits) →
    AreSections sections [] [] → ((s : SectionId) (o : ObjectId) → ¬ HasGot holdings s o) →
    ((moments tickets : ObjectId → ℕ) → Knows objects start moments tickets) → queued ≡ [] → AreWaits asks [] [] → AreWaits barriers [] [] →
    Follows (record { sections = sections; holdings = holdings; objects = objects; queued = queued; asks = asks; barriers = barriers }) start
follows_start sections holdings objects queued asks barriers are none knows empty a b = record {
  moments = λ _. 0;
  tickets = λ _. 0;
  sections = are;
  holdings = grind arith;
  objects = knows (λ _. 0) (λ _. 0);
  retired = grind arith;
  queued = grind (arith, get_or_past);
  asks = a;
  asked = grind (arith, none_pending);
  barriers = b;
  noted = grind (arith, none_pending);
}

-- a store into a chain leaves the rest as it is
abbrev pub stored : State → State → State
stored now later = record now { chain = later.chain; used = later.used; cut = later.cut; successor = later.successor }

pub store_goes : (k : Checker) (objects : Objects) (e : Event) (done : Bool) → ((now : State) → stored now (after now e) ≡ after now e) →
    ((now : State) (moments tickets : ObjectId → ℕ) → IsReached now → Knows k.objects now moments tickets → (IsTrue done ↔ IsAllowed now e) × (IsTrue done → Knows objects (after now e) moments tickets)) →
    (now : State) → IsReached now → Follows k now → Goes (record k { objects = objects }) now e done
store_goes k objects e done rest does now r f =
    let d = does now f.moments f.tickets r f.objects in
    let goes = λ (t : IsTrue done). of_objects k now (stored now (after now e)) f objects k.queued f.moments f.tickets (subst (λ (later : State). Knows objects later f.moments f.tickets) (sym (rest now)) (d.1 t)) f.retired f.queued f.noted in
    record { allowed = d.0; follows = λ t. subst (Follows (record k { objects = objects })) (rest now) (goes t) }

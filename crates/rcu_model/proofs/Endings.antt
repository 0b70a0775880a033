-- An ask is answered, and a barrier is over, at most once, and only after what they await has ended; a callback is
-- queued once before it runs.
use Rattle.std.proofs.Common.{◌≡◌, ◌≢◌, ◌⊎◌, ◌↔◌, inl, inr, ⊎_elim, ℕ, Bool, true, false, not, List, [], ◌∷◌, ◌++◌, Some, None, refl, sym, ap, ◌∙◌, subst}
use Rattle.rcu_model.specs.declared.event.Event.{Event}
use Rattle.rcu_model.specs.declared.event.Event.TheVariants.{Open, Close, First, Next, Touch, Push, Replace, Cut, Retire, Queue, Run, Ask, Answer, Bar, Clear}
use Rattle.rcu_model.specs.declared.event.SectionId.{SectionId}
use Rattle.rcu_model.specs.declared.event.ObjectId.{ObjectId}
use Rattle.rcu_model.specs.Sets.{same_object, has_object}
use Rattle.rcu_model.specs.Machine.{State, start, IsAllowed, AreAllowed, IsRun, after, after_all, state_after, not_run}
use Rattle.rcu_model.specs.Headline.{IsQueuedAfter, AnswersOnceAfterItsSections, ClearsOnceAfterItsCallbacks, QueuesOnceAfterRetirement, RunsAfterItsQueueing, OpensOnce}
use Rattle.rcu_model.proofs.Members.{In, Tells, object_tells, in_objects, has_object_in, has_section_in, in_numbers, has_number_in}
use Rattle.rcu_model.proofs.SetLemmas.{has_filter, has_without_object, has_without_section, at_number_same, at_number_other}
use Rattle.rcu_model.proofs.Runs.{after_append}
use Rattle.rcu_model.proofs.Headline.{contains_in, in_contains, decide_section, allowed_split, opened_left, retired_told, at_event}

-- what is in a list after an event was there before, or comes by the event
abbrev Grown : {X : Type 0} → List X → List X → (X → Type 0) → Type 0
Grown {X} before later brings = (x : X) → In later x ↔ (In before x ⊎ brings x)

still : {X : Type 0} (xs : List X) (brings : X → Type 0) → ((x : X) → ¬ brings x) → Grown xs xs brings
still xs brings none x = ((λ h. inl h), (λ h. ⊎_elim (λ (was : In xs x). was) (λ (b : brings x). absurd (none x b)) h))

added : {X : Type 0} (xs : List X) (y : X) (brings : X → Type 0) → ((x : X) → (y ≡ x) ↔ brings x) → Grown xs (y ∷ xs) brings
added xs y brings same x = (
  (λ h. ⊎_elim (λ (e : y ≡ x). inr ((same x).0 e)) (λ (was : In xs x). inl was) h),
  (λ h. ⊎_elim (λ (was : In xs x). inr was) (λ (b : brings x). inl ((same x).1 b)) h),
)

abbrev Queues : Event → ObjectId → Type 0
Queues e o = (q : ℕ) × (e ≡ Queue o q)

-- what an event adds to the asks, the barriers and the callbacks
record Adds (now later : State) (e : Event) : Type 0 where
  pub asked : Grown now.asked later.asked (λ a. e ≡ Ask a)
  pub answered : Grown now.answered later.answered (λ a. e ≡ Answer a)
  pub noted : Grown now.noted later.noted (λ b. e ≡ Bar b)
  pub cleared : Grown now.cleared later.cleared (λ b. e ≡ Clear b)
  pub queued : Grown now.queued later.queued (Queues e)
  pub reclaimed : Grown now.reclaimed later.reclaimed (λ o. e ≡ Run o)

-- no ask, barrier or callback comes or ends by the event
abbrev IsApart : Event → Type 0
IsApart (Open s) = Unit {0}
IsApart (Close s) = Unit {0}
IsApart (First s c found) = Unit {0}
IsApart (Next s o found) = Unit {0}
IsApart (Touch s o) = Unit {0}
IsApart (Push c o) = Unit {0}
IsApart (Replace c o p) = Unit {0}
IsApart (Cut c o) = Unit {0}
IsApart (Retire o) = Unit {0}
IsApart (Queue o q) = ⊥
IsApart (Run o) = ⊥
IsApart (Ask a) = ⊥
IsApart (Answer a) = ⊥
IsApart (Bar b) = ⊥
IsApart (Clear b) = ⊥

-- a state whose asks, barriers and callbacks are those of another one
adds_none : (now : State) (e : Event) → IsApart e → Adds now now e
adds_none now e apart = record {
  asked = still now.asked (λ a. e ≡ Ask a) (λ a same. subst IsApart same apart);
  answered = still now.answered (λ a. e ≡ Answer a) (λ a same. subst IsApart same apart);
  noted = still now.noted (λ b. e ≡ Bar b) (λ b same. subst IsApart same apart);
  cleared = still now.cleared (λ b. e ≡ Clear b) (λ b same. subst IsApart same apart);
  queued = still now.queued (Queues e) (λ o same. subst IsApart same.1 apart);
  reclaimed = still now.reclaimed (λ o. e ≡ Run o) (λ o same. subst IsApart same apart);
}

-- the same of the state after the event, which differs from the one before it in other fields
of_later : (now later : State) (e : Event) → later.asked ≡ now.asked → later.answered ≡ now.answered → later.noted ≡ now.noted → later.cleared ≡ now.cleared → later.queued ≡ now.queued → later.reclaimed ≡ now.reclaimed → IsApart e → Adds now later e
of_later now later e i j k l m n apart =
    let none = adds_none now e apart in
    record {
      asked = rw i none.asked;
      answered = rw j none.answered;
      noted = rw k none.noted;
      cleared = rw l none.cleared;
      queued = rw m none.queued;
      reclaimed = rw n none.reclaimed;
    }

adds : (now : State) (e : Event) → Adds now (after now e) e
adds now (Open s) = of_later now (after now (Open s)) (Open s) refl refl refl refl refl refl tt
adds now (Close s) = of_later now (after now (Close s)) (Close s) refl refl refl refl refl refl tt
adds now (First s c None) = of_later now now (First s c None) refl refl refl refl refl refl tt
adds now (First s c (Some o)) = of_later now (after now (First s c (Some o))) (First s c (Some o)) refl refl refl refl refl refl tt
adds now (Next s o None) = of_later now now (Next s o None) refl refl refl refl refl refl tt
adds now (Next s o (Some p)) = of_later now (after now (Next s o (Some p))) (Next s o (Some p)) refl refl refl refl refl refl tt
adds now (Touch s o) = of_later now now (Touch s o) refl refl refl refl refl refl tt
adds now (Push c o) = of_later now (after now (Push c o)) (Push c o) refl refl refl refl refl refl tt
adds now (Replace c o p) = of_later now (after now (Replace c o p)) (Replace c o p) refl refl refl refl refl refl tt
adds now (Cut c o) = of_later now (after now (Cut c o)) (Cut c o) refl refl refl refl refl refl tt
adds now (Retire o) = of_later now (after now (Retire o)) (Retire o) refl refl refl refl refl refl tt
adds now (Queue p q) = record {
  asked = still now.asked (λ a. Queue p q ≡ Ask a) (λ a e. cc);
  answered = still now.answered (λ a. Queue p q ≡ Answer a) (λ a e. cc);
  noted = still now.noted (λ b. Queue p q ≡ Bar b) (λ b e. cc);
  cleared = still now.cleared (λ b. Queue p q ≡ Clear b) (λ b e. cc);
  queued = added now.queued p (Queues (Queue p q)) (λ o. ((λ e. (q, ap (λ (x : ObjectId). Queue x q) e)), (λ b. let e = b.1 in cc)));
  reclaimed = still now.reclaimed (λ o. Queue p q ≡ Run o) (λ o e. cc);
}
adds now (Run p) = record {
  asked = still now.asked (λ a. Run p ≡ Ask a) (λ a e. cc);
  answered = still now.answered (λ a. Run p ≡ Answer a) (λ a e. cc);
  noted = still now.noted (λ b. Run p ≡ Bar b) (λ b e. cc);
  cleared = still now.cleared (λ b. Run p ≡ Clear b) (λ b e. cc);
  queued = still now.queued (Queues (Run p)) (λ o b. let e = b.1 in cc);
  reclaimed = added now.reclaimed p (λ o. Run p ≡ Run o) (λ o. (ap Run, (λ e. cc)));
}
adds now (Ask n) = record {
  asked = added now.asked n (λ a. Ask n ≡ Ask a) (λ a. (ap Ask, (λ e. cc)));
  answered = still now.answered (λ a. Ask n ≡ Answer a) (λ a e. cc);
  noted = still now.noted (λ b. Ask n ≡ Bar b) (λ b e. cc);
  cleared = still now.cleared (λ b. Ask n ≡ Clear b) (λ b e. cc);
  queued = still now.queued (Queues (Ask n)) (λ o b. let e = b.1 in cc);
  reclaimed = still now.reclaimed (λ o. Ask n ≡ Run o) (λ o e. cc);
}
adds now (Answer n) = record {
  asked = still now.asked (λ a. Answer n ≡ Ask a) (λ a e. cc);
  answered = added now.answered n (λ a. Answer n ≡ Answer a) (λ a. (ap Answer, (λ e. cc)));
  noted = still now.noted (λ b. Answer n ≡ Bar b) (λ b e. cc);
  cleared = still now.cleared (λ b. Answer n ≡ Clear b) (λ b e. cc);
  queued = still now.queued (Queues (Answer n)) (λ o b. let e = b.1 in cc);
  reclaimed = still now.reclaimed (λ o. Answer n ≡ Run o) (λ o e. cc);
}
adds now (Bar n) = record {
  asked = still now.asked (λ a. Bar n ≡ Ask a) (λ a e. cc);
  answered = still now.answered (λ a. Bar n ≡ Answer a) (λ a e. cc);
  noted = added now.noted n (λ b. Bar n ≡ Bar b) (λ b. (ap Bar, (λ e. cc)));
  cleared = still now.cleared (λ b. Bar n ≡ Clear b) (λ b e. cc);
  queued = still now.queued (Queues (Bar n)) (λ o b. let e = b.1 in cc);
  reclaimed = still now.reclaimed (λ o. Bar n ≡ Run o) (λ o e. cc);
}
adds now (Clear n) = record {
  asked = still now.asked (λ a. Clear n ≡ Ask a) (λ a e. cc);
  answered = still now.answered (λ a. Clear n ≡ Answer a) (λ a e. cc);
  noted = still now.noted (λ b. Clear n ≡ Bar b) (λ b e. cc);
  cleared = added now.cleared n (λ b. Clear n ≡ Clear b) (λ b. (ap Clear, (λ e. cc)));
  queued = still now.queued (Queues (Clear n)) (λ o b. let e = b.1 in cc);
  reclaimed = still now.reclaimed (λ o. Clear n ≡ Run o) (λ o e. cc);
}

-- what stands in such a list after some events came by one of them, and stays
module _ {X : Type 0} (field : State → List X) (brings : Event → X → Type 0) (grown : (now : State) (e : Event) → Grown (field now) (field (after now e)) (brings e)) where
  stays : (now : State) (es : List Event) (x : X) → In (field now) x → In (field (after_all now es)) x
  stays now [] x h = h
  stays now (e ∷ es) x h = stays (after now e) es x ((grown now e x).1 (inl h))

  comes : (now : State) (es : List Event) (e : Event) (x : X) → In es e → brings e x → In (field (after_all now es)) x
  comes now [] e x h b = absurd h
  comes now (f ∷ es) e x (inl same) b = stays (after now f) es x ((grown now f x).1 (inr (subst (λ (g : Event). brings g x) (sym same) b)))
  comes now (f ∷ es) e x (inr h) b = comes (after now f) es e x h b

  came : (now : State) (es : List Event) (x : X) → In (field (after_all now es)) x → In (field now) x ⊎ ((e : Event) × (In es e × brings e x))
  came now [] x h = inl h
  came now (e ∷ es) x h =
      ⊎_elim
      (λ (g : In (field (after now e)) x). ⊎_elim (λ (was : In (field now) x). inl was) (λ (b : brings e x). inr (e, (inl refl, b))) ((grown now e x).0 g))
      (λ (r : (f : Event) × (In es f × brings f x)). inr (r.0, (inr r.1.0, r.1.1)))
      (came (after now e) es x h)

  came_since : (es : List Event) (x : X) → (¬ In (field start) x) → In (field (state_after es)) x → (e : Event) × (In es e × brings e x)
  came_since es x none h = ⊎_elim (λ (was : In (field start) x). absurd (none was)) (λ (r : (f : Event) × (In es f × brings f x)). r) (came start es x h)

-- what is awaited has ended by some events, or still is
module _ (ending : Event) (Known Awaited : State → Type 0)
    (knows : (now : State) (e : Event) → Known now → Known (after now e))
    (awaits : (now : State) (e : Event) → IsAllowed now e → Known now → Awaited now → (e ≡ ending) ⊎ Awaited (after now e)) where
  ended : (now : State) (es : List Event) → AreAllowed now es → Known now → Awaited now → In es ending ⊎ Awaited (after_all now es)
  ended now [] a k h = inr h
  ended now (e ∷ es) a k h =
      ⊎_elim
      (λ (c : e ≡ ending). inl (inl c))
      (λ (g : Awaited (after now e)). ⊎_elim (λ (l : In es ending). inl (inr l)) (λ (r : Awaited (after_all (after now e) es)). inr r) (ended (after now e) es a.1 (knows now e k) g))
      (awaits now e a.0 k h)

decide_object : (o p : ObjectId) → (o ≡ p) ⊎ (o ≢ p)
decide_object o p = by (object_tells o p)
  where
    by : Tells (same_object o p) o p → (o ≡ p) ⊎ (o ≢ p)
    by (inl y) = inl y.1
    by (inr n) = inr n.1

-- what an ask or a barrier awaits ends by the event, or is awaited after it too
abbrev Awaits : State → State → Event → Type 0
Awaits now later e =
    ((a : ℕ) (s : SectionId) → In now.asked a → In (now.asked_sections a) s → (e ≡ Close s) ⊎ In (later.asked_sections a) s)
    × ((b : ℕ) (o : ObjectId) → In now.noted b → In (now.noted_objects b) o → (e ≡ Run o) ⊎ In (later.noted_objects b) o)

awaits : (now : State) (e : Event) → IsAllowed now e → Awaits now (after now e) e
awaits now (Open t) may = ((λ a s k h. inr h), (λ b o k h. inr h))
awaits now (Close t) may = ((λ a s k h. ⊎_elim (λ (e : s ≡ t). inl (ap Close (sym e))) (λ (n : s ≢ t). inr (has_without_section t (now.asked_sections a) s h n)) (decide_section s t)), (λ b o k h. inr h))
awaits now (First t c None) may = ((λ a s k h. inr h), (λ b o k h. inr h))
awaits now (First t c (Some p)) may = ((λ a s k h. inr h), (λ b o k h. inr h))
awaits now (Next t p None) may = ((λ a s k h. inr h), (λ b o k h. inr h))
awaits now (Next t p (Some q)) may = ((λ a s k h. inr h), (λ b o k h. inr h))
awaits now (Touch t p) may = ((λ a s k h. inr h), (λ b o k h. inr h))
awaits now (Push c p) may = ((λ a s k h. inr h), (λ b o k h. inr h))
awaits now (Replace c p q) may = ((λ a s k h. inr h), (λ b o k h. inr h))
awaits now (Cut c p) may = ((λ a s k h. inr h), (λ b o k h. inr h))
awaits now (Retire p) may = ((λ a s k h. inr h), (λ b o k h. inr h))
awaits now (Queue p q) may = ((λ a s k h. inr h), (λ b o k h. inr h))
awaits now (Run p) may = ((λ a s k h. inr h), (λ b o k h. ⊎_elim (λ (e : o ≡ p). inl (ap Run (sym e))) (λ (n : o ≢ p). inr (has_without_object p (now.noted_objects b) o h n)) (decide_object o p)))
awaits now (Ask n) may = ((λ a s k h. inr (subst (λ (l : List SectionId). In l s) (sym (at_number_other n a now.sections now.asked_sections (λ e. may (has_number_in now.asked n (subst (In now.asked) e k))))) h)), (λ b o k h. inr h))
awaits now (Answer n) may = ((λ a s k h. inr h), (λ b o k h. inr h))
awaits now (Bar n) may = ((λ a s k h. inr h), (λ b o k h. inr (subst (λ (l : List ObjectId). In l o) (sym (at_number_other n b (not_run now) now.noted_objects (λ e. may (has_number_in now.noted n (subst (In now.noted) e k))))) h)))
awaits now (Clear n) may = ((λ a s k h. inr h), (λ b o k h. inr h))

-- what an event of a run had awaited, and nothing awaits at the end of the run, has ended since
module _ {X : Type 0} (ending e : Event) (Known : State → Type 0) (awaited : State → List X) (x : X)
    (knows : (now : State) (f : Event) → Known now → Known (after now f))
    (goes : (now : State) (f : Event) → IsAllowed now f → Known now → In (awaited now) x → (f ≡ ending) ⊎ In (awaited (after now f)) x) where
  ended_since : (before earlier since : List Event) → IsRun before → before ≡ earlier ++ e ∷ since → Known (after (state_after earlier) e) → In (awaited (after (state_after earlier) e)) x → awaited (state_after before) ≡ [] → In since ending
  ended_since before earlier since run split known has none =
      let then = after (state_after earlier) e in
      let rest = (allowed_split start earlier (e ∷ since) (subst (λ (l : List Event). IsRun l) split run)).1.1 in
      let whole : state_after before ≡ after_all then since = ap (after_all start) split ∙ after_append start earlier (e ∷ since) in
      ⊎_elim
      (λ (c : In since ending). c)
      (λ (w : In (awaited (after_all then since)) x). absurd (subst (λ (l : List X). In l x) (ap awaited (sym whole) ∙ none) w))
      (ended ending Known (λ m. In (awaited m) x) knows goes then since rest known has)

pub answers_once : (log : List Event) → IsRun log → AnswersOnceAfterItsSections log
answers_once log run before later a is = record {
  asked = let c = came_since (λ s. s.asked) (λ e x. e ≡ Ask x) (λ s e. (adds s e).asked) before a (λ h. h) (in_numbers now.asked a may.0) in in_contains before (Ask a) (subst (In before) c.1.1 c.1.0);
  closed = λ earlier since s split was. in_contains since (Close s) (closes earlier since s split (opened_left start earlier s (contains_in earlier (Open s) was.opened) (λ c. was.not_closed (in_contains earlier (Close s) c))));
  not_yet_answered = λ c. may.1 (has_number_in now.answered a (comes (λ s. s.answered) (λ e x. e ≡ Answer x) (λ s e. (adds s e).answered) start before (Answer a) a (contains_in before (Answer a) c) refl));
}
  where
    parts : IsRun before × IsAllowed (state_after before) (Answer a)
    parts = at_event log before later (Answer a) run is

    now : State
    now = state_after before

    may : IsAllowed now (Answer a)
    may = parts.1

    closes : (earlier since : List Event) (s : SectionId) → before ≡ earlier ++ Ask a ∷ since → In (state_after earlier).sections s → In since (Close s)
    closes earlier since s split h =
        let then = state_after earlier in
        ended_since (Close s) (Ask a) (λ m. In m.asked a) (λ m. m.asked_sections a) s (λ m e k. ((adds m e).asked a).1 (inl k)) (λ m e ok k w. (awaits m e ok).0 a s k w)
        before earlier since parts.0 split (inl refl) (subst (λ (l : List SectionId). In l s) (sym (at_number_same a then.sections then.asked_sections)) h) may.2

not_true : (b : Bool) → ¬ (b ≡ true) → not b ≡ true
not_true true n = absurd (n refl)
not_true false n = refl

-- a callback that was queued and has not run is one of those that a barrier notes
noted_by : (earlier : List Event) (o : ObjectId) → IsQueuedAfter earlier o → In (not_run (state_after earlier)) o
noted_by earlier o was =
    let now = state_after earlier in
    let queued : In now.queued o = comes (λ s. s.queued) Queues (λ s e. (adds s e).queued) start earlier (Queue o was.queue) o (contains_in earlier (Queue o was.queue) was.queued) (was.queue, refl) in
    has_filter (λ (p : ObjectId). not (has_object now.reclaimed p)) now.queued o queued
    (not_true (has_object now.reclaimed o)
    (λ ran. let c = came_since (λ s. s.reclaimed) (λ e x. e ≡ Run x) (λ s e. (adds s e).reclaimed) earlier o (λ h. h) (in_objects now.reclaimed o ran) in was.not_run (in_contains earlier (Run o) (subst (In earlier) c.1.1 c.1.0))))

pub clears_once : (log : List Event) → IsRun log → ClearsOnceAfterItsCallbacks log
clears_once log run before later b is = record {
  begun = let c = came_since (λ s. s.noted) (λ e x. e ≡ Bar x) (λ s e. (adds s e).noted) before b (λ h. h) (in_numbers now.noted b may.0) in in_contains before (Bar b) (subst (In before) c.1.1 c.1.0);
  run = λ earlier since o split was. in_contains since (Run o) (runs earlier since o split (noted_by earlier o was));
  not_yet_cleared = λ c. may.1 (has_number_in now.cleared b (comes (λ s. s.cleared) (λ e x. e ≡ Clear x) (λ s e. (adds s e).cleared) start before (Clear b) b (contains_in before (Clear b) c) refl));
}
  where
    parts : IsRun before × IsAllowed (state_after before) (Clear b)
    parts = at_event log before later (Clear b) run is

    now : State
    now = state_after before

    may : IsAllowed now (Clear b)
    may = parts.1

    runs : (earlier since : List Event) (o : ObjectId) → before ≡ earlier ++ Bar b ∷ since → In (not_run (state_after earlier)) o → In since (Run o)
    runs earlier since o split h =
        let then = state_after earlier in
        ended_since (Run o) (Bar b) (λ m. In m.noted b) (λ m. m.noted_objects b) o (λ m e k. ((adds m e).noted b).1 (inl k)) (λ m e ok k w. (awaits m e ok).1 b o k w)
        before earlier since parts.0 split (inl refl) (subst (λ (l : List ObjectId). In l o) (sym (at_number_same b (not_run then) then.noted_objects)) h) may.2

pub queues_once : (log : List Event) → IsRun log → QueuesOnceAfterRetirement log
queues_once log run before later o q is =
    let parts = at_event log before later (Queue o q) run is in
    let now = state_after before in
    record {
      retired = in_contains before (Retire o) (retired_told start before o (λ h. h) (in_objects now.retired o parts.1.0));
      not_yet_queued = λ p c. parts.1.1 (has_object_in now.queued o (comes (λ s. s.queued) Queues (λ s e. (adds s e).queued) start before (Queue o p) o (contains_in before (Queue o p) c) (p, refl)));
    }

pub runs_queued : (log : List Event) → IsRun log → RunsAfterItsQueueing log
runs_queued log run before later o is =
    let parts = at_event log before later (Run o) run is in
    let c = came_since (λ s. s.queued) Queues (λ s e. (adds s e).queued) before o (λ h. h) (in_objects (state_after before).queued o parts.1.0) in
    (c.1.1.0, in_contains before (Queue o c.1.1.0) (subst (In before) c.1.1.1 c.1.0))

-- a section is seen from its opening on
adds_seen : (now : State) (e : Event) → Grown now.seen (after now e).seen (λ s. e ≡ Open s)
adds_seen now (Open t) = added now.seen t (λ s. Open t ≡ Open s) (λ s. (ap Open, (λ e. cc)))
adds_seen now (Close t) = still now.seen (λ s. Close t ≡ Open s) (λ s e. cc)
adds_seen now (First t c None) = still now.seen (λ s. First t c None ≡ Open s) (λ s e. cc)
adds_seen now (First t c (Some o)) = still now.seen (λ s. First t c (Some o) ≡ Open s) (λ s e. cc)
adds_seen now (Next t o None) = still now.seen (λ s. Next t o None ≡ Open s) (λ s e. cc)
adds_seen now (Next t o (Some p)) = still now.seen (λ s. Next t o (Some p) ≡ Open s) (λ s e. cc)
adds_seen now (Touch t o) = still now.seen (λ s. Touch t o ≡ Open s) (λ s e. cc)
adds_seen now (Push c o) = still now.seen (λ s. Push c o ≡ Open s) (λ s e. cc)
adds_seen now (Replace c o p) = still now.seen (λ s. Replace c o p ≡ Open s) (λ s e. cc)
adds_seen now (Cut c o) = still now.seen (λ s. Cut c o ≡ Open s) (λ s e. cc)
adds_seen now (Retire o) = still now.seen (λ s. Retire o ≡ Open s) (λ s e. cc)
adds_seen now (Queue o q) = still now.seen (λ s. Queue o q ≡ Open s) (λ s e. cc)
adds_seen now (Run o) = still now.seen (λ s. Run o ≡ Open s) (λ s e. cc)
adds_seen now (Ask a) = still now.seen (λ s. Ask a ≡ Open s) (λ s e. cc)
adds_seen now (Answer a) = still now.seen (λ s. Answer a ≡ Open s) (λ s e. cc)
adds_seen now (Bar b) = still now.seen (λ s. Bar b ≡ Open s) (λ s e. cc)
adds_seen now (Clear b) = still now.seen (λ s. Clear b ≡ Open s) (λ s e. cc)

pub opens_once : (log : List Event) → IsRun log → OpensOnce log
opens_once log run before later s is again =
    let parts = at_event log before later (Open s) run is in
    parts.1 (has_section_in (state_after before).seen s (comes (λ m. m.seen) (λ e x. e ≡ Open x) adds_seen start before (Open s) s (contains_in before (Open s) again) refl))

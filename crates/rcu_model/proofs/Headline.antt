-- An object's callback runs at most once, and only after every section open at its retirement has ended.
use Rattle.std.proofs.Common.{◌≡◌, ◌≢◌, ◌⊎◌, inl, inr, ⊎_elim, zero, suc, List, [], ◌∷◌, ◌++◌, Some, None, refl, sym, ap, ◌∙◌, subst, arith}
use Rattle.std.specs.List.{Contains}
use Rattle.rcu_model.specs.declared.event.Event.{Event}
use Rattle.rcu_model.specs.declared.event.Event.TheVariants.{Open, Close, First, Next, Touch, Push, Replace, Cut, Retire, Queue, Run, Ask, Answer, Bar, Clear}
use Rattle.rcu_model.specs.declared.event.SectionId.{SectionId}
use Rattle.rcu_model.specs.declared.event.ObjectId.{ObjectId}
use Rattle.rcu_model.specs.Machine.{State, start, IsAllowed, AreAllowed, IsRun, after, after_all, state_after}
use Rattle.rcu_model.specs.Headline.{Uses, RunsOnceAfterItsSections, UsesNoReclaimed}
use Rattle.rcu_model.proofs.Members.{In, section_tells, Tells, in_objects, has_object_in, in_left, in_last}
use Rattle.rcu_model.proofs.SetLemmas.{at_object_same, at_object_other, at_section_same, has_without_section}
use Rattle.rcu_model.specs.Sets.{same_section}
use Rattle.rcu_model.proofs.Runs.{after_append}
use Rattle.rcu_model.proofs.Safety.{Kept, kept_log, kept_step, not_reclaimed}

-- the words of a log
pub contains_in : {X : Type 0} (xs : List X) (x : X) → Contains xs x → In xs x
contains_in [] x (i, low, is) = absurd (omega (arith, low))
contains_in (y ∷ ys) x (zero, low, is) = inl is
contains_in (y ∷ ys) x (suc i, low, is) = inr (contains_in ys x (i, omega (arith, low), is))

pub in_contains : {X : Type 0} (xs : List X) (x : X) → In xs x → Contains xs x
in_contains [] x h = absurd h
in_contains (y ∷ ys) x (inl e) = (zero, omega arith, e)
in_contains (y ∷ ys) x (inr h) = let c = in_contains ys x h in (suc c.0, let low = c.1 in omega (arith, low), c.2)

pub decide_section : (s t : SectionId) → (s ≡ t) ⊎ (s ≢ t)
decide_section s t = by (section_tells s t)
  where
    by : Tells (same_section s t) s t → (s ≡ t) ⊎ (s ≢ t)
    by (inl y) = inl y.1
    by (inr n) = inr n.1

pub allowed_split : (now : State) (es fs : List Event) → AreAllowed now (es ++ fs) → AreAllowed now es × AreAllowed (after_all now es) fs
allowed_split now [] fs a = (tt, a)
allowed_split now (e ∷ es) fs a = let rest = allowed_split (after now e) es fs a.1 in ((a.0, rest.0), rest.1)

-- an open section stays open, or is closed by the event
open_step : (now : State) (e : Event) (s : SectionId) → In now.sections s → (e ≡ Close s) ⊎ In (after now e).sections s
open_step now (Open t) s h = inr (in_left now.sections (t ∷ []) s h)
open_step now (Close t) s h = ⊎_elim (λ (e : s ≡ t). inl (ap Close (sym e))) (λ (n : s ≢ t). inr (has_without_section t now.sections s h n)) (decide_section s t)
open_step now (First t c None) s h = inr h
open_step now (First t c (Some o)) s h = inr h
open_step now (Next t o None) s h = inr h
open_step now (Next t o (Some p)) s h = inr h
open_step now (Touch t o) s h = inr h
open_step now (Push c o) s h = inr h
open_step now (Replace c o p) s h = inr h
open_step now (Cut c o) s h = inr h
open_step now (Retire o) s h = inr h
open_step now (Queue o q) s h = inr h
open_step now (Run o) s h = inr h
open_step now (Ask a) s h = inr h
open_step now (Answer a) s h = inr h
open_step now (Bar b) s h = inr h
open_step now (Clear b) s h = inr h

pub open_left : (now : State) (es : List Event) (s : SectionId) → In now.sections s → In es (Close s) ⊎ In (after_all now es).sections s
open_left now [] s h = inr h
open_left now (e ∷ es) s h =
    ⊎_elim
    (λ (c : e ≡ Close s). inl (inl c))
    (λ (g : In (after now e).sections s). ⊎_elim (λ (l : In es (Close s)). inl (inr l)) (λ (r : In (after_all (after now e) es).sections s). inr r) (open_left (after now e) es s g))
    (open_step now e s h)

pub opened_left : (now : State) (es : List Event) (s : SectionId) → In es (Open s) → ¬ In es (Close s) → In (after_all now es).sections s
opened_left now [] s h none = absurd h
opened_left now (e ∷ es) s (inl is) none =
    ⊎_elim (λ (c : In es (Close s)). absurd (none (inr c))) (λ (r : In (after_all (after now e) es).sections s). r)
    (open_left (after now e) es s (subst (λ (f : Event). In (after now f).sections s) (sym is) (in_last now.sections s)))
opened_left now (e ∷ es) s (inr h) none = opened_left (after now e) es s h (λ c. none (inr c))

-- what was retired and reclaimed stays so, and comes by its event alone
pub retired_step : (now : State) (e : Event) (o : ObjectId) → (In now.retired o → In (after now e).retired o) × (In (after now e).retired o → In now.retired o ⊎ (e ≡ Retire o)) × (In now.reclaimed o → In (after now e).reclaimed o)
retired_step now (Open t) o = ((λ h. h), (λ h. inl h), (λ h. h))
retired_step now (Close t) o = ((λ h. h), (λ h. inl h), (λ h. h))
retired_step now (First t c None) o = ((λ h. h), (λ h. inl h), (λ h. h))
retired_step now (First t c (Some p)) o = ((λ h. h), (λ h. inl h), (λ h. h))
retired_step now (Next t p None) o = ((λ h. h), (λ h. inl h), (λ h. h))
retired_step now (Next t p (Some q)) o = ((λ h. h), (λ h. inl h), (λ h. h))
retired_step now (Touch t p) o = ((λ h. h), (λ h. inl h), (λ h. h))
retired_step now (Push c p) o = ((λ h. h), (λ h. inl h), (λ h. h))
retired_step now (Replace c p q) o = ((λ h. h), (λ h. inl h), (λ h. h))
retired_step now (Cut c p) o = ((λ h. h), (λ h. inl h), (λ h. h))
retired_step now (Retire p) o = ((λ h. inr h), (λ h. ⊎_elim (λ (e : p ≡ o). inr (ap Retire e)) (λ (r : In now.retired o). inl r) h), (λ h. h))
retired_step now (Queue p q) o = ((λ h. h), (λ h. inl h), (λ h. h))
retired_step now (Run p) o = ((λ h. h), (λ h. inl h), (λ h. inr h))
retired_step now (Ask a) o = ((λ h. h), (λ h. inl h), (λ h. h))
retired_step now (Answer a) o = ((λ h. h), (λ h. inl h), (λ h. h))
retired_step now (Bar b) o = ((λ h. h), (λ h. inl h), (λ h. h))
retired_step now (Clear b) o = ((λ h. h), (λ h. inl h), (λ h. h))

reclaimed_left : (now : State) (es : List Event) (o : ObjectId) → In now.reclaimed o → In (after_all now es).reclaimed o
reclaimed_left now [] o h = h
reclaimed_left now (e ∷ es) o h = reclaimed_left (after now e) es o ((retired_step now e o).2 h)

ran : (now : State) (es : List Event) (o : ObjectId) → In es (Run o) → In (after_all now es).reclaimed o
ran now [] o h = absurd h
ran now (e ∷ es) o (inl is) = reclaimed_left (after now e) es o (subst (λ (f : Event). In (after now f).reclaimed o) (sym is) (inl refl))
ran now (e ∷ es) o (inr h) = ran (after now e) es o h

retired_or : (now : State) (es : List Event) (o : ObjectId) → In (after_all now es).retired o → In now.retired o ⊎ In es (Retire o)
retired_or now [] o h = inl h
retired_or now (e ∷ es) o h =
    ⊎_elim
    (λ (g : In (after now e).retired o). ⊎_elim (λ (l : In now.retired o). inl l) (λ (r : e ≡ Retire o). inr (inl r)) ((retired_step now e o).1 g))
    (λ (r : In es (Retire o)). inr (inr r))
    (retired_or (after now e) es o h)

-- who is retired was not before, and was retired by these events
pub retired_told : (now : State) (es : List Event) (o : ObjectId) → (¬ In now.retired o) → In (after_all now es).retired o → In es (Retire o)
retired_told now es o none h = ⊎_elim (λ (l : In now.retired o). absurd (none l)) (λ (r : In es (Retire o)). r) (retired_or now es o h)

-- a section that a retired object awaits is closed, or still awaited
awaited_step : (now : State) (e : Event) (o : ObjectId) (s : SectionId) → IsAllowed now e → In now.retired o → In (now.awaited o) s → (e ≡ Close s) ⊎ In ((after now e).awaited o) s
awaited_step now (Open t) o s a r h = inr h
awaited_step now (Close t) o s a r h = ⊎_elim (λ (e : s ≡ t). inl (ap Close (sym e))) (λ (n : s ≢ t). inr (has_without_section t (now.awaited o) s h n)) (decide_section s t)
awaited_step now (First t c None) o s a r h = inr h
awaited_step now (First t c (Some p)) o s a r h = inr h
awaited_step now (Next t p None) o s a r h = inr h
awaited_step now (Next t p (Some q)) o s a r h = inr h
awaited_step now (Touch t p) o s a r h = inr h
awaited_step now (Push c p) o s a r h = inr h
awaited_step now (Replace c p q) o s a r h = inr h
awaited_step now (Cut c p) o s a r h = inr h
awaited_step now (Retire p) o s a r h = inr (subst (λ (l : List SectionId). In l s) (sym (at_object_other p o now.sections now.awaited (λ e. a.1 (has_object_in now.retired p (subst (In now.retired) e r))))) h)
awaited_step now (Queue p q) o s a r h = inr h
awaited_step now (Run p) o s a r h = inr h
awaited_step now (Ask b) o s a r h = inr h
awaited_step now (Answer b) o s a r h = inr h
awaited_step now (Bar b) o s a r h = inr h
awaited_step now (Clear b) o s a r h = inr h

awaited_left : (now : State) (es : List Event) (o : ObjectId) (s : SectionId) → AreAllowed now es → In now.retired o → In (now.awaited o) s → In es (Close s) ⊎ In ((after_all now es).awaited o) s
awaited_left now [] o s a r h = inr h
awaited_left now (e ∷ es) o s a r h =
    ⊎_elim
    (λ (c : e ≡ Close s). inl (inl c))
    (λ (g : In ((after now e).awaited o) s). ⊎_elim (λ (l : In es (Close s)). inl (inr l)) (λ (x : In ((after_all (after now e) es).awaited o) s). inr x) (awaited_left (after now e) es o s a.1 ((retired_step now e o).0 r) g))
    (awaited_step now e o s a.0 r h)

-- a run in two parts
pub run_parts : (log earlier since : List Event) → IsRun log → log ≡ earlier ++ since → IsRun earlier × AreAllowed (state_after earlier) since × (after_all (state_after earlier) since ≡ state_after log)
run_parts log earlier since run is =
    let parts = allowed_split start earlier since (subst (λ (l : List Event). IsRun l) is run) in
    (parts.0, parts.1, sym (ap (after_all start) is ∙ after_append start earlier since))

-- a run at its event
pub at_event : (log before later : List Event) (e : Event) → IsRun log → log ≡ before ++ e ∷ later → IsRun before × IsAllowed (state_after before) e
at_event log before later e run is = let parts = allowed_split start before (e ∷ later) (subst (λ (l : List Event). IsRun l) is run) in (parts.0, parts.1.0)

pub runs_once : (log : List Event) → IsRun log → RunsOnceAfterItsSections log
runs_once log run before later o is = record {
  retired = in_contains before (Retire o) (retired_told start before o (λ h. h) (kept.queued_retired o (in_objects now.queued o may.0)));
  closed = λ earlier since s split was. in_contains since (Close s)
      (closes earlier since s split (opened_left start earlier s (contains_in earlier (Open s) was.opened) (λ c. was.not_closed (in_contains earlier (Close s) c))));
  not_yet_run = λ c. may.1 (has_object_in now.reclaimed o (ran start before o (contains_in before (Run o) c)));
}
  where
    parts : IsRun before × IsAllowed (state_after before) (Run o)
    parts = at_event log before later (Run o) run is

    now : State
    now = state_after before

    may : IsAllowed now (Run o)
    may = parts.1

    kept : Kept now
    kept = kept_log before parts.0

    closes : (earlier since : List Event) (s : SectionId) → before ≡ earlier ++ Retire o ∷ since → In (state_after earlier).sections s → In since (Close s)
    closes earlier since s split h =
        let then = state_after earlier in
        let cut : IsRun (earlier ++ Retire o ∷ since) = subst (λ (l : List Event). IsRun l) split parts.0 in
        let rest = (allowed_split start earlier (Retire o ∷ since) cut).1.1 in
        let ends : state_after before ≡ after_all (after then (Retire o)) since = ap (after_all start) split ∙ after_append start earlier (Retire o ∷ since) in
        ⊎_elim
        (λ (c : In since (Close s)). c)
        (λ (w : In ((after_all (after then (Retire o)) since).awaited o) s). absurd (subst (λ (l : List SectionId). In l s) (ap (λ (m : State). m.awaited o) (sym ends) ∙ may.2) w))
        (awaited_left (after then (Retire o)) since o s rest (inl refl) (subst (λ (l : List SectionId). In l s) (sym (at_object_same o then.sections then.awaited)) h))

-- what an event uses is held after it, by its section
used_held : (now : State) (e : Event) (o : ObjectId) → IsAllowed now e → Uses e o → (s : SectionId) × In ((after now e).held s) o
used_held now (First s c None) o a u = absurd (none_some u)
  where
    none_some : None ≡ Some o → ⊥
    none_some e = cc
used_held now (First s c (Some p)) o a u = (s, subst (λ (l : List ObjectId). In l o) (sym (at_section_same s (p ∷ now.held s) now.held)) (inl (same u)))
  where
    same : Some p ≡ Some o → p ≡ o
    same e = cc
used_held now (Next s from None) o a (inl e) = (s, subst (In (now.held s)) e (in_objects (now.held s) from a.1))
used_held now (Next s from None) o a (inr u) = absurd (none_some u)
  where
    none_some : None ≡ Some o → ⊥
    none_some e = cc
used_held now (Next s from (Some p)) o a (inl e) = (s, subst (λ (l : List ObjectId). In l o) (sym (at_section_same s (p ∷ now.held s) now.held)) (inr (subst (In (now.held s)) e (in_objects (now.held s) from a.1))))
used_held now (Next s from (Some p)) o a (inr u) = (s, subst (λ (l : List ObjectId). In l o) (sym (at_section_same s (p ∷ now.held s) now.held)) (inl (same u)))
  where
    same : Some p ≡ Some o → p ≡ o
    same e = cc
used_held now (Touch s read) o a e = (s, subst (In (now.held s)) e (in_objects (now.held s) read a.1))
used_held now (Open s) o a u = absurd u
used_held now (Close s) o a u = absurd u
used_held now (Push c p) o a u = absurd u
used_held now (Replace c p q) o a u = absurd u
used_held now (Cut c p) o a u = absurd u
used_held now (Retire p) o a u = absurd u
used_held now (Queue p q) o a u = absurd u
used_held now (Run p) o a u = absurd u
used_held now (Ask n) o a u = absurd u
used_held now (Answer n) o a u = absurd u
used_held now (Bar n) o a u = absurd u
used_held now (Clear n) o a u = absurd u

pub uses_none : (log : List Event) → IsRun log → UsesNoReclaimed log
uses_none log run before later e o is uses ran_before =
    let parts = at_event log before later e run is in
    let held = used_held (state_after before) e o parts.1 uses in
    let kept = kept_step (state_after before) e (kept_log before parts.0) parts.1 in
    not_reclaimed (after (state_after before) e) held.0 o kept (kept.safe held.0 o held.1) ((retired_step (state_after before) e o).2 (ran start before o (contains_in before (Run o) ran_before)))

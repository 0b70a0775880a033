-- What a retired object awaits, as a log goes on.
use Rattle.std.proofs.Common.{◌≡◌, ◌≢◌, ◌⊎◌, inl, inr, ⊎_elim, List, [], ◌∷◌, ◌++◌, Some, None, refl, sym, ap, ◌∙◌, subst}
use Rattle.rcu_model.specs.declared.event.Event.{Event}
use Rattle.rcu_model.specs.declared.event.Event.TheVariants.{Open, Close, First, Next, Touch, Push, Replace, Cut, Retire, Queue, Run, Ask, Answer, Bar, Clear}
use Rattle.rcu_model.specs.declared.event.ObjectId.{ObjectId}
use Rattle.rcu_model.specs.declared.event.SectionId.{SectionId}
use Rattle.rcu_model.specs.Sets.{at_object}
use Rattle.rcu_model.specs.Machine.{State, start, IsAllowed, AreAllowed, IsRun, after, after_all, state_after}
use Rattle.rcu_model.proofs.SetLemmas.{at_object_same, at_object_other, without_section_has, has_without_section}
use Rattle.rcu_model.proofs.Members.{In, has_object_in, in_left, empty_from}
use Rattle.rcu_model.proofs.Follows.{decide}
use Rattle.rcu_model.proofs.Headline.{retired_step, run_parts}

-- what an object awaits is open
abbrev pub AwaitsOpen : State → Type 0
AwaitsOpen now = (o : ObjectId) (s : SectionId) → In (now.awaited o) s → In now.sections s

awaits_open_step : (now : State) (e : Event) → AwaitsOpen now → AwaitsOpen (after now e)
awaits_open_step now (Open s) k o t h = in_left now.sections (s ∷ []) t (k o t h)
awaits_open_step now (Close s) k o t h = let w = without_section_has s (now.awaited o) t h in has_without_section s now.sections t (k o t w.0) w.1
awaits_open_step now (First s d None) k o t h = k o t h
awaits_open_step now (First s d (Some f)) k o t h = k o t h
awaits_open_step now (Next s p None) k o t h = k o t h
awaits_open_step now (Next s p (Some f)) k o t h = k o t h
awaits_open_step now (Touch s p) k o t h = k o t h
awaits_open_step now (Push d p) k o t h = k o t h
awaits_open_step now (Replace d p q) k o t h = k o t h
awaits_open_step now (Cut d p) k o t h = k o t h
awaits_open_step now (Retire p) k o t h = by (decide o p)
  where
    by : (o ≡ p) ⊎ (o ≢ p) → In now.sections t
    by (inl e) = subst (λ (ss : List SectionId). In ss t) (ap (at_object p now.sections now.awaited) e ∙ at_object_same p now.sections now.awaited) h
    by (inr n) = k o t (subst (λ (ss : List SectionId). In ss t) (at_object_other p o now.sections now.awaited n) h)
awaits_open_step now (Queue p q) k o t h = k o t h
awaits_open_step now (Run p) k o t h = k o t h
awaits_open_step now (Ask b) k o t h = k o t h
awaits_open_step now (Answer b) k o t h = k o t h
awaits_open_step now (Bar b) k o t h = k o t h
awaits_open_step now (Clear b) k o t h = k o t h

awaits_open_run : (now : State) (es : List Event) → AwaitsOpen now → AwaitsOpen (after_all now es)
awaits_open_run now [] k = k
awaits_open_run now (e ∷ es) k = awaits_open_run (after now e) es (awaits_open_step now e k)

pub awaits_open : (log : List Event) → AwaitsOpen (state_after log)
awaits_open log = awaits_open_run start log (λ o s h. absurd h)

-- what a retired object awaits after an event it awaited before, and the event does not close it
awaited_back : (now : State) (e : Event) (o : ObjectId) (s : SectionId) → IsAllowed now e → In now.retired o → In ((after now e).awaited o) s → In (now.awaited o) s × (e ≢ Close s)
awaited_back now (Open t) o s a r h = (h, λ e. cc)
awaited_back now (Close t) o s a r h = let w = without_section_has t (now.awaited o) s h in (w.0, λ e. w.1 (same e))
  where
    same : Close t ≡ Close s → s ≡ t
    same e = cc
awaited_back now (First t c None) o s a r h = (h, λ e. cc)
awaited_back now (First t c (Some p)) o s a r h = (h, λ e. cc)
awaited_back now (Next t p None) o s a r h = (h, λ e. cc)
awaited_back now (Next t p (Some q)) o s a r h = (h, λ e. cc)
awaited_back now (Touch t p) o s a r h = (h, λ e. cc)
awaited_back now (Push c p) o s a r h = (h, λ e. cc)
awaited_back now (Replace c p q) o s a r h = (h, λ e. cc)
awaited_back now (Cut c p) o s a r h = (h, λ e. cc)
awaited_back now (Retire p) o s a r h =
    (subst (λ (ss : List SectionId). In ss s) (at_object_other p o now.sections now.awaited (λ e. a.1 (has_object_in now.retired p (subst (In now.retired) e r)))) h, λ e. cc)
awaited_back now (Queue p q) o s a r h = (h, λ e. cc)
awaited_back now (Run p) o s a r h = (h, λ e. cc)
awaited_back now (Ask b) o s a r h = (h, λ e. cc)
awaited_back now (Answer b) o s a r h = (h, λ e. cc)
awaited_back now (Bar b) o s a r h = (h, λ e. cc)
awaited_back now (Clear b) o s a r h = (h, λ e. cc)

-- what a retired object awaits it awaited before these events, and they do not close it
pub awaited_since : (now : State) (es : List Event) (o : ObjectId) (s : SectionId) → AreAllowed now es → In now.retired o → In ((after_all now es).awaited o) s → In (now.awaited o) s × ¬ In es (Close s)
awaited_since now [] o s a r h = (h, λ c. c)
awaited_since now (e ∷ es) o s a r h =
    let later = awaited_since (after now e) es o s a.1 ((retired_step now e o).0 r) h in
    let one = awaited_back now e o s a.0 r later.0 in
    (one.0, λ c. ⊎_elim (λ (is : e ≡ Close s). one.1 is) later.1 c)

-- so a section that an object awaits at the end of a run was open when the object had been retired, and was not closed
-- since
pub awaited_was_open : (earlier since : List Event) (o : ObjectId) (s : SectionId) → IsRun (earlier ++ since) → In (state_after earlier).retired o → In ((state_after (earlier ++ since)).awaited o) s → In (state_after earlier).sections s × (¬ In since (Close s))
awaited_was_open earlier since o s run r h =
    let parts = run_parts (earlier ++ since) earlier since run refl in
    let was = awaited_since (state_after earlier) since o s parts.1 r (subst (λ (now : State). In (now.awaited o) s) (sym parts.2) h) in
    (awaits_open earlier o s was.0, was.1)

-- once each section that was open when an object had been retired is closed, the object awaits none
pub awaits_none : (now : State) (es : List Event) (o : ObjectId) → AreAllowed now es → AwaitsOpen now → In now.retired o → ((s : SectionId) → In now.sections s → In es (Close s)) → (after_all now es).awaited o ≡ []
awaits_none now es o a k r closed = empty_from ((after_all now es).awaited o) (λ s h. let w = awaited_since now es o s a r h in w.1 (closed s (k o s w.0)))

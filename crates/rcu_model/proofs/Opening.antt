-- Which sections are open, by the events of a log and by the state that it leaves.
use Rattle.std.proofs.Common.{◌≡◌, ◌≢◌, ◌⊎◌, ◌↔◌, inl, inr, ⊎_elim, List, [], ◌∷◌, Some, None, refl, sym, ap, subst}
use Rattle.rcu_model.specs.declared.event.Event.{Event}
use Rattle.rcu_model.specs.declared.event.Event.TheVariants.{Open, Close, First, Next, Touch, Push, Replace, Cut, Retire, Queue, Run, Ask, Answer, Bar, Clear}
use Rattle.rcu_model.specs.declared.event.SectionId.{SectionId}
use Rattle.rcu_model.specs.Machine.{State, start, IsOpen, IsAllowed, AreAllowed, IsRun, after, after_all, state_after}
use Rattle.rcu_model.specs.Headline.{IsOpenAfter}
use Rattle.rcu_model.proofs.Members.{In, in_sections, has_section_in, in_more}
use Rattle.rcu_model.proofs.SetLemmas.{without_section_has}
use Rattle.rcu_model.proofs.Headline.{contains_in, in_contains, opened_left, open_left}

-- what an event does to the open sections, and to those that were ever opened
pub record Opens (now later : State) (e : Event) (s : SectionId) : Type 0 where
  pub was_seen : In now.seen s → In later.seen s
  pub was_open : In later.sections s → In now.sections s ⊎ (e ≡ Open s)
  pub still_open : In later.sections s → e ≢ Close s
  pub not_again : In now.seen s → In later.sections s → In now.sections s

opens_none : (now later : State) (e : Event) (s : SectionId) → later.seen ≡ now.seen → later.sections ≡ now.sections → e ≢ Close s → Opens now later e s
opens_none now later e s seen sections ne = record {
  was_seen = λ h. rw seen h;
  was_open = λ h. inl (rw sections at h);
  still_open = λ h. ne;
  not_again = λ h x. rw sections at x;
}

opens : (now : State) (e : Event) (s : SectionId) → IsAllowed now e → Opens now (after now e) e s
opens now (Open t) s a = record {
  was_seen = λ h. inr h;
  was_open = λ h. ⊎_elim (λ (x : In now.sections s). inl x) (λ (e : t ≡ s). inr (ap Open e)) (in_more now.sections t s h);
  still_open = λ h e. cc;
  not_again = λ seen h. ⊎_elim (λ (x : In now.sections s). x) (λ (e : t ≡ s). absurd (a (has_section_in now.seen t (subst (In now.seen) (sym e) seen)))) (in_more now.sections t s h);
}
opens now (Close t) s a = record {
  was_seen = λ h. h;
  was_open = λ h. inl (without_section_has t now.sections s h).0;
  still_open = λ h e. (without_section_has t now.sections s h).1 (same e);
  not_again = λ seen h. (without_section_has t now.sections s h).0;
}
  where
    same : Close t ≡ Close s → s ≡ t
    same e = cc
opens now (First t c None) s a = opens_none now (after now (First t c None)) (First t c None) s refl refl (λ e. cc)
opens now (First t c (Some o)) s a = opens_none now (after now (First t c (Some o))) (First t c (Some o)) s refl refl (λ e. cc)
opens now (Next t o None) s a = opens_none now (after now (Next t o None)) (Next t o None) s refl refl (λ e. cc)
opens now (Next t o (Some p)) s a = opens_none now (after now (Next t o (Some p))) (Next t o (Some p)) s refl refl (λ e. cc)
opens now (Touch t o) s a = opens_none now (after now (Touch t o)) (Touch t o) s refl refl (λ e. cc)
opens now (Push c o) s a = opens_none now (after now (Push c o)) (Push c o) s refl refl (λ e. cc)
opens now (Replace c o p) s a = opens_none now (after now (Replace c o p)) (Replace c o p) s refl refl (λ e. cc)
opens now (Cut c o) s a = opens_none now (after now (Cut c o)) (Cut c o) s refl refl (λ e. cc)
opens now (Retire o) s a = opens_none now (after now (Retire o)) (Retire o) s refl refl (λ e. cc)
opens now (Queue o q) s a = opens_none now (after now (Queue o q)) (Queue o q) s refl refl (λ e. cc)
opens now (Run o) s a = opens_none now (after now (Run o)) (Run o) s refl refl (λ e. cc)
opens now (Ask n) s a = opens_none now (after now (Ask n)) (Ask n) s refl refl (λ e. cc)
opens now (Answer n) s a = opens_none now (after now (Answer n)) (Answer n) s refl refl (λ e. cc)
opens now (Bar n) s a = opens_none now (after now (Bar n)) (Bar n) s refl refl (λ e. cc)
opens now (Clear n) s a = opens_none now (after now (Clear n)) (Clear n) s refl refl (λ e. cc)

-- an open section was opened once
abbrev pub OpenSeen : State → Type 0
OpenSeen now = (s : SectionId) → In now.sections s → In now.seen s

pub open_seen_step : (now : State) (e : Event) → OpenSeen now → IsAllowed now e → OpenSeen (after now e)
open_seen_step now e k a s h =
    ⊎_elim
    (λ (was : In now.sections s). (opens now e s a).was_seen (k s was))
    (λ (is : e ≡ Open s). subst (λ (f : Event). In (after now f).seen s) (sym is) (inl refl))
    ((opens now e s a).was_open h)

open_seen_run : (now : State) (es : List Event) → OpenSeen now → AreAllowed now es → OpenSeen (after_all now es)
open_seen_run now [] k a = k
open_seen_run now (e ∷ es) k a = open_seen_run (after now e) es (open_seen_step now e k a.0) a.1

pub open_seen : (log : List Event) → IsRun log → OpenSeen (state_after log)
open_seen log run = open_seen_run start log (λ s h. absurd h) run

pub seen_since : (now : State) (es : List Event) (s : SectionId) → AreAllowed now es → In now.seen s → In (after_all now es).seen s
seen_since now [] s a h = h
seen_since now (e ∷ es) s a h = seen_since (after now e) es s a.1 ((opens now e s a.0).was_seen h)

-- a section that was opened before and is open at the end was open all the time
pub open_between : (now : State) (es : List Event) (s : SectionId) → AreAllowed now es → In now.seen s → In (after_all now es).sections s → In now.sections s
open_between now [] s a seen h = h
open_between now (e ∷ es) s a seen h =
    let o = opens now e s a.0 in
    o.not_again seen (open_between (after now e) es s a.1 (o.was_seen seen) h)

-- and was not closed
pub not_closed : (now : State) (es : List Event) (s : SectionId) → AreAllowed now es → OpenSeen now → In (after_all now es).sections s → ¬ In es (Close s)
not_closed now [] s a k h c = c
not_closed now (e ∷ es) s a k h (inl is) =
    let seen : In (after now e).seen s = (opens now e s a.0).was_seen (k s (closes (subst (IsAllowed now) is a.0))) in
    (opens now e s a.0).still_open (open_between (after now e) es s a.1 seen h) is
  where
    closes : IsAllowed now (Close s) → In now.sections s
    closes may = in_sections now.sections s may
not_closed now (e ∷ es) s a k h (inr c) = not_closed (after now e) es s a.1 (open_seen_step now e k a.0) h c

opened : (now : State) (es : List Event) (s : SectionId) → AreAllowed now es → In (after_all now es).sections s → In now.sections s ⊎ In es (Open s)
opened now [] s a h = inl h
opened now (e ∷ es) s a h =
    ⊎_elim
    (λ (x : In (after now e).sections s). ⊎_elim (λ (was : In now.sections s). inl was) (λ (is : e ≡ Open s). inr (inl is)) ((opens now e s a.0).was_open x))
    (λ (o : In es (Open s)). inr (inr o))
    (opened (after now e) es s a.1 h)

-- a section is open in the state that a run leaves just where the run opened it and did not close it
pub open_by_events : (log : List Event) (s : SectionId) → IsRun log → IsOpenAfter log s ↔ IsOpen (state_after log) s
open_by_events log s run = (
  (λ h. has_section_in (state_after log).sections s (opened_left start log s (contains_in log (Open s) h.opened) (λ c. h.not_closed (in_contains log (Close s) c)))),
  (λ h. let there = in_sections (state_after log).sections s h in record {
    opened = in_contains log (Open s) (⊎_elim (λ (x : In start.sections s). absurd x) (λ (o : In log (Open s)). o) (opened start log s run there));
    not_closed = λ c. not_closed start log s run (λ t x. absurd x) there (contains_in log (Close s) c);
  }),
)

-- a section that was open has been closed since, just where it is no longer open
pub closed_by_events : (now : State) (es : List Event) (s : SectionId) → AreAllowed now es → OpenSeen now → In now.sections s → In es (Close s) ↔ (¬ In (after_all now es).sections s)
closed_by_events now es s a k was = (
  (λ c h. not_closed now es s a k h c),
  (λ gone. ⊎_elim (λ (c : In es (Close s)). c) (λ (h : In (after_all now es).sections s). absurd (gone h)) (open_left now es s was)),
)

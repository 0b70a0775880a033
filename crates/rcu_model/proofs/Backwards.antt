-- Logs with the newest event first, against those with the oldest first.
use Rattle.std.proofs.Common.{◌≡◌, ◌⊎◌, ◌↔◌, inl, inr, ⊎_elim, ℕ, List, [], ◌∷◌, ◌++◌, Some, reverse, refl, sym, ap, ◌∙◌, subst, append-nil}
use Rattle.std.specs.Coded.{×_prop}
use Rattle.std.proofs.Props.{props}
use Rattle.std.proofs.lemmas.List.{reverse-append, reverse-reverse}
use Rattle.rcu_model.specs.declared.event.Event.{Event}
use Rattle.rcu_model.specs.declared.event.Event.TheVariants.{Open, Close}
use Rattle.rcu_model.specs.declared.event.SectionId.{SectionId}
use Rattle.rcu_model.specs.declared.event.ObjectId.{ObjectId}
use Rattle.rcu_model.specs.Machine.{State, IsAllowed, AreAllowed, IsRun, after, after_all, state_after}
use Rattle.rcu_model.specs.Backwards.{state_back, IsRunBack}
use Rattle.rcu_model.proofs.Members.{In, in_append, in_left, in_last, has_section_in, in_sections}
use Rattle.rcu_model.proofs.Runs.{after_append, allowed_append, allowed_prop}
use Rattle.rcu_model.proofs.Headline.{allowed_split, in_contains, contains_in}
use Rattle.rcu_model.proofs.Safety.{Kept, SafeIn, linked, kept_log, not_reclaimed}
use Rattle.rcu_model.proofs.Opening.{OpenSeen, open_seen, open_by_events, closed_by_events, open_between}
use Rattle.rcu_model.proofs.Awaiting.{AwaitsOpen, awaits_open, awaits_none}
use Rattle.rcu_model.proofs.Lifetimes.{LinkedWithin, CutWithin, linked_or_cut, IsPlaced, successor_placed}
use Rattle.rcu_model.proofs.Protection.{safe_since}

pub reverse_more : {X : Type 0} (x : X) (xs : List X) → reverse (x ∷ xs) ≡ reverse xs ++ x ∷ []
reverse_more x xs = reverse-append (x ∷ []) xs

-- the same is in the log that is turned round
pub in_reverse : {X : Type 0} (xs : List X) (x : X) → In (reverse xs) x ↔ In xs x
in_reverse [] x = ((λ h. h), (λ h. h))
in_reverse (y ∷ xs) x =
    let rest = in_reverse xs x in (
      (λ h. ⊎_elim (λ (l : In (reverse xs) x). inr (rest.0 l)) (λ (r : In (y ∷ []) x). one r) (in_append (reverse xs) (y ∷ []) x (subst (λ (l : List _). In l x) (reverse_more y xs) h))),
      (λ h. subst (λ (l : List _). In l x) (sym (reverse_more y xs)) (⊎_elim (λ (e : y ≡ x). subst (In (reverse xs ++ y ∷ [])) e (in_last (reverse xs) y)) (λ (r : In xs x). in_left (reverse xs) (y ∷ []) x (rest.1 r)) h)),
    )
  where
    one : In (y ∷ []) x → In (y ∷ xs) x
    one (inl e) = inl e
    one (inr n) = absurd n

-- a run that goes on, at its newer end
pub state_goes_on : (since old : List Event) → state_back (since ++ old) ≡ after_all (state_back old) (reverse since)
state_goes_on [] old = refl
state_goes_on (e ∷ since) old =
    ap (λ (now : State). after now e) (state_goes_on since old)
    ∙ sym (after_append (state_back old) (reverse since) (e ∷ []))
    ∙ ap (after_all (state_back old)) (sym (reverse_more e since))

pub run_went_on : (since old : List Event) → IsRunBack (since ++ old) → IsRunBack old × AreAllowed (state_back old) (reverse since)
run_went_on [] old run = (run, tt)
run_went_on (e ∷ since) old run =
    let rest = run_went_on since old run.0 in
    let newest : IsAllowed (after_all (state_back old) (reverse since)) e = subst (λ (now : State). IsAllowed now e) (state_goes_on since old) run.1 in
    (rest.0, subst (AreAllowed (state_back old)) (sym (reverse_more e since)) (allowed_append (state_back old) (reverse since) (e ∷ []) rest.1 (newest, tt)))

pub run_goes_on : (since old : List Event) → IsRunBack old → AreAllowed (state_back old) (reverse since) → IsRunBack (since ++ old)
run_goes_on [] old run a = run
run_goes_on (e ∷ since) old run a =
    let parts = allowed_split (state_back old) (reverse since) (e ∷ []) (subst (AreAllowed (state_back old)) (reverse_more e since) a) in
    (run_goes_on since old run parts.0, subst (λ (now : State). IsAllowed now e) (sym (state_goes_on since old)) parts.1.0)

-- at some moment since then, both ends among them, the object was linked
pub record LinkedSince (since old : List Event) (o : ObjectId) : Type 0 where
  pub later : List Event
  pub until : List Event
  pub split : since ≡ later ++ until
  pub chain : ℕ
  pub linked : In ((state_back (until ++ old)).chain chain) o

linked_since : (since old : List Event) (o : ObjectId) → LinkedWithin (state_back old) (reverse since) o → LinkedSince since old o
linked_since since old o w = record {
  later = reverse w.rest;
  until = reverse w.first;
  split = sym (reverse-reverse since) ∙ ap reverse w.split ∙ reverse-append w.first w.rest;
  chain = w.chain;
  linked = subst (λ (now : State). In (now.chain w.chain) o) (sym (state_goes_on (reverse w.first) old ∙ ap (after_all (state_back old)) (reverse-reverse w.first))) w.linked;
}

-- it is a run with the oldest event first
pub state_is : (log : List Event) → state_back log ≡ state_after (reverse log)
state_is log = ap state_back (sym (append-nil log)) ∙ state_goes_on log []

pub run_is : (log : List Event) → IsRunBack log ↔ IsRun (reverse log)
run_is log = (
  (λ run. (run_went_on log [] (subst IsRunBack (sym (append-nil log)) run)).1),
  (λ run. subst IsRunBack (append-nil log) (run_goes_on log [] tt run)),
)

pub run_back_prop : (log : List Event) → IsProp (IsRunBack log)
run_back_prop [] = hlevel props
run_back_prop (e ∷ log) = ×_prop (run_back_prop log) (allowed_prop (state_back log) e)

-- what holds of the state of each run
pub kept_back : (log : List Event) → IsRunBack log → Kept (state_back log)
kept_back log run = subst Kept (sym (state_is log)) (kept_log (reverse log) ((run_is log).0 run))

pub open_seen_back : (log : List Event) → IsRunBack log → OpenSeen (state_back log)
open_seen_back log run = subst OpenSeen (sym (state_is log)) (open_seen (reverse log) ((run_is log).0 run))

pub awaits_open_back : (log : List Event) → AwaitsOpen (state_back log)
awaits_open_back log = subst AwaitsOpen (sym (state_is log)) (awaits_open (reverse log))

pub successor_placed_back : (log : List Event) (o m : ObjectId) → IsRunBack log → In (state_back log).cut o → (state_back log).successor o ≡ Some m → In (state_back log).used m × IsPlaced (state_back log) m
successor_placed_back log o m run cut next =
    subst (λ (now : State). In now.used m × IsPlaced now m) (sym (state_is log))
    (successor_placed (reverse log) o m ((run_is log).0 run) (subst (λ (now : State). In now.cut o) (state_is log) cut) (ap (λ (now : State). now.successor o) (sym (state_is log)) ∙ next))

-- a section is open just where the run opened it and did not close it
pub open_back : (log : List Event) (s : SectionId) → IsRunBack log → In (state_back log).sections s ↔ (In log (Open s) × (¬ In log (Close s)))
open_back log s run =
    let by = open_by_events (reverse log) s ((run_is log).0 run) in (
      (λ h.
          let events = by.1 (has_section_in (state_after (reverse log)).sections s (subst (λ (now : State). In now.sections s) (state_is log) h)) in
          ((in_reverse log (Open s)).0 (contains_in (reverse log) (Open s) events.opened), λ c. events.not_closed (in_contains (reverse log) (Close s) ((in_reverse log (Close s)).1 c)))),
      (λ h. subst (λ (now : State). In now.sections s) (sym (state_is log)) (in_sections (state_after (reverse log)).sections s (by.0 (record {
        opened = in_contains (reverse log) (Open s) ((in_reverse log (Open s)).1 h.0);
        not_closed = λ c. h.1 ((in_reverse log (Close s)).0 (contains_in (reverse log) (Close s) c));
      })))),
    )

-- what a run that went on keeps of what was before
module _ (since old : List Event) (run : IsRunBack (since ++ old)) where
  was_run : IsRunBack old
  was_run = (run_went_on since old run).0

  went_on : AreAllowed (state_back old) (reverse since)
  went_on = (run_went_on since old run).1

  to_end : (P : State → Type 0) → P (after_all (state_back old) (reverse since)) → P (state_back (since ++ old))
  to_end P h = subst P (sym (state_goes_on since old)) h

  of_end : (P : State → Type 0) → P (state_back (since ++ old)) → P (after_all (state_back old) (reverse since))
  of_end P h = subst P (state_goes_on since old) h

  -- a section that was open is closed just where its Close has come since
  pub closed_back : (s : SectionId) → In (state_back old).sections s → In since (Close s) ↔ (¬ In (state_back (since ++ old)).sections s)
  closed_back s was =
      let by = closed_by_events (state_back old) (reverse since) s went_on (open_seen_back old was_run) was in (
        (λ c h. by.0 ((in_reverse since (Close s)).1 c) (of_end (λ (now : State). In now.sections s) h)),
        (λ gone. (in_reverse since (Close s)).0 (by.1 (λ h. gone (to_end (λ (now : State). In now.sections s) h)))),
      )

  -- a section that was opened before and is open was open all the time
  pub open_between_back : (s : SectionId) → In (state_back old).seen s → In (state_back (since ++ old)).sections s → In (state_back old).sections s
  open_between_back s seen h = open_between (state_back old) (reverse since) s went_on seen (of_end (λ (now : State). In now.sections s) h)

  -- what is safe for a section stays so as long as the section is open
  pub safe_back : (s : SectionId) (o : ObjectId) → In (state_back old).sections s → In (state_back (since ++ old)).sections s → SafeIn (state_back old) s o → SafeIn (state_back (since ++ old)) s o
  safe_back s o was is safe =
      to_end (λ (now : State). SafeIn now s o)
      (safe_since (state_back old) (reverse since) s o (kept_back old was_run) went_on (open_seen_back old was_run) was (of_end (λ (now : State). In now.sections s) is) safe)

  -- so what was linked then is not reclaimed
  pub protected_back : (s : SectionId) (c : ℕ) (o : ObjectId) → In (state_back old).sections s → In ((state_back old).chain c) o → In (state_back (since ++ old)).sections s → ¬ In (state_back (since ++ old)).reclaimed o
  protected_back s c o was at is = not_reclaimed (state_back (since ++ old)) s o (kept_back (since ++ old) run) (safe_back s o was is (linked c at))

  -- what was linked then is linked, or it is cut, and what followed it then was linked since
  pub linked_or_cut_back : (c : ℕ) (o : ObjectId) → In ((state_back old).chain c) o → In ((state_back (since ++ old)).chain c) o ⊎ In (state_back (since ++ old)).cut o
  linked_or_cut_back c o at =
      ⊎_elim
      (λ (l : In ((after_all (state_back old) (reverse since)).chain c) o). inl (to_end (λ (now : State). In (now.chain c) o) l))
      (λ (w : CutWithin (state_back old) (reverse since) o). inr (to_end (λ (now : State). In now.cut o) w.cut))
      (linked_or_cut (state_back old) (reverse since) c o (kept_back old was_run) went_on at)

  pub successor_since_back : (c : ℕ) (o m : ObjectId) → In ((state_back old).chain c) o → In (state_back (since ++ old)).cut o → (state_back (since ++ old)).successor o ≡ Some m → LinkedSince since old m
  successor_since_back c o m at cut next =
      ⊎_elim
      (λ (l : In ((after_all (state_back old) (reverse since)).chain c) o). absurd ((kept_back (since ++ old) run).linking.linked_not_cut c o (to_end (λ (now : State). In (now.chain c) o) l) cut))
      (λ (w : CutWithin (state_back old) (reverse since) o). linked_since since old m (w.successor m (ap (λ (now : State). now.successor o) (sym (state_goes_on since old)) ∙ next)))
      (linked_or_cut (state_back old) (reverse since) c o (kept_back old was_run) went_on at)

  -- an object that had been retired awaits nobody once each section that was open then is closed
  pub awaits_none_back : (o : ObjectId) → In (state_back old).retired o → ((s : SectionId) → In (state_back old).sections s → In since (Close s)) → (state_back (since ++ old)).awaited o ≡ []
  awaits_none_back o retired closed =
      to_end (λ (now : State). now.awaited o ≡ [])
      (awaits_none (state_back old) (reverse since) o went_on (awaits_open_back old) retired (λ s is. (in_reverse since (Close s)).1 (closed s is)))

-- What was linked while a section was open is not reclaimed as long as it stays open, whether the section holds it or
-- not.
use Rattle.std.proofs.Common.{◌≡◌, inl, ⊎_elim, List, [], ◌∷◌, ◌++◌, Some, sym, ap, ◌∙◌, subst, append_assoc, append-nil}
use Rattle.rcu_model.specs.declared.event.Event.{Event}
use Rattle.rcu_model.specs.declared.event.SectionId.{SectionId}
use Rattle.rcu_model.specs.declared.event.ObjectId.{ObjectId}
use Rattle.rcu_model.specs.Machine.{State, start, IsOpen, IsSuccessor, AreAllowed, IsRun, after, after_all, state_after}
use Rattle.rcu_model.specs.Sets.{HasObject}
use Rattle.rcu_model.specs.Protection.{WasLinkedIn}
use Rattle.rcu_model.proofs.Members.{In, in_sections, has_section_in, in_objects, has_object_in}
use Rattle.rcu_model.proofs.SetLemmas.{next_of_has}
use Rattle.rcu_model.proofs.Runs.{after_append}
use Rattle.rcu_model.proofs.Headline.{allowed_split, run_parts}
use Rattle.rcu_model.proofs.Safety.{Kept, SafeIn, linked, kept_step, kept_log, safe_step, not_reclaimed}
use Rattle.rcu_model.proofs.Opening.{OpenSeen, open_seen, open_seen_step, seen_since, open_between, not_closed}
use Rattle.rcu_model.proofs.Lifetimes.{LinkedWithin, CutWithin, linked_or_cut}

-- what is safe for an open section stays so as long as the section does
pub safe_since : (now : State) (es : List Event) (s : SectionId) (o : ObjectId) → Kept now → AreAllowed now es → OpenSeen now → In now.sections s → In (after_all now es).sections s → SafeIn now s o → SafeIn (after_all now es) s o
safe_since now [] s o k a seen was is safe = safe
safe_since now (e ∷ es) s o k a seen was is safe =
    safe_since (after now e) es s o (kept_step now e k a.0) a.1 (open_seen_step now e seen a.0)
    (open_between (after now e) es s a.1 (seen_since now (e ∷ []) s (a.0, tt) (seen s was)) is) is
    (safe_step now e s o k a.0 was (λ c. not_closed now (e ∷ es) s a seen is (inl c)) safe)

-- what was linked while the section was open is safe
pub was_linked_safe : (log : List Event) (s : SectionId) (o : ObjectId) → IsRun log → WasLinkedIn log s o → IsOpen (state_after log) s → SafeIn (state_after log) s o
was_linked_safe log s o run was is =
    let then : State = state_after was.earlier in
    let parts = run_parts log was.earlier was.since run was.split in
    let is_open = in_sections (state_after log).sections s is in
    subst (λ (now : State). SafeIn now s o) parts.2
    (safe_since then was.since s o (kept_log was.earlier parts.0) parts.1 (open_seen was.earlier parts.0) (in_sections then.sections s was.was_open)
    (subst (λ (now : State). In now.sections s) (sym parts.2) is_open) (linked was.chain (in_objects (then.chain was.chain) o was.linked)))

pub was_linked_not_reclaimed : (log : List Event) (s : SectionId) (o : ObjectId) → IsRun log → WasLinkedIn log s o → IsOpen (state_after log) s → ¬ HasObject (state_after log).reclaimed o
was_linked_not_reclaimed log s o run was is back =
    not_reclaimed (state_after log) s o (kept_log log run) (was_linked_safe log s o run was is) (in_objects (state_after log).reclaimed o back)

-- what follows it was linked too while the section was open
pub successor_was_linked : (log : List Event) (s : SectionId) (o m : ObjectId) → IsRun log → WasLinkedIn log s o → IsOpen (state_after log) s → IsSuccessor (state_after log) o (Some m) → WasLinkedIn log s m
successor_was_linked log s o m run was is next =
    ⊎_elim
    (λ (l : In ((after_all then was.since).chain was.chain) o). still_linked (subst (λ (now : State). In (now.chain was.chain) o) parts.2 l))
    (λ (c : CutWithin then was.since o). since_cut c)
    (linked_or_cut then was.since was.chain o (kept_log was.earlier parts.0) parts.1 (in_objects (then.chain was.chain) o was.linked))
  where
    then : State
    then = state_after was.earlier

    parts : IsRun was.earlier × AreAllowed then was.since × (after_all then was.since ≡ state_after log)
    parts = run_parts log was.earlier was.since run was.split

    now : State
    now = state_after log

    still_linked : In (now.chain was.chain) o → WasLinkedIn log s m
    still_linked h = record {
      earlier = log;
      since = [];
      split = sym (append-nil log);
      was_open = is;
      chain = was.chain;
      linked = has_object_in (now.chain was.chain) m ((next_of_has (now.chain was.chain) o m ((kept_log log run).linking.once was.chain) h (next.while_linked was.chain (has_object_in (now.chain was.chain) o h))).0);
    }

    since_cut : CutWithin then was.since o → WasLinkedIn log s m
    since_cut c =
        let w : LinkedWithin then was.since m = c.successor m (ap (λ (x : State). x.successor o) parts.2 ∙ next.once_cut (has_object_in now.cut o (subst (λ (x : State). In x.cut o) parts.2 c.cut))) in
        let halves = allowed_split then w.first w.rest (subst (AreAllowed then) w.split parts.1) in
        let mid : State = after_all then w.first in
        let ends : after_all mid w.rest ≡ now = sym (after_append then w.first w.rest) ∙ ap (after_all then) (sym w.split) ∙ parts.2 in
        let seen_then = open_seen was.earlier parts.0 s (in_sections then.sections s was.was_open) in
        let is_open = open_between mid w.rest s halves.1 (seen_since then w.first s halves.0 seen_then) (subst (λ (x : State). In x.sections s) (sym ends) (in_sections now.sections s is)) in
        let there : after_all then w.first ≡ state_after (was.earlier ++ w.first) = sym (after_append start was.earlier w.first) in
        record {
          earlier = was.earlier ++ w.first;
          since = w.rest;
          split = was.split ∙ ap (λ (l : List Event). was.earlier ++ l) w.split ∙ sym (append_assoc was.earlier w.first w.rest);
          was_open = has_section_in (state_after (was.earlier ++ w.first)).sections s (subst (λ (x : State). In x.sections s) there is_open);
          chain = w.chain;
          linked = has_object_in ((state_after (was.earlier ++ w.first)).chain w.chain) m (subst (λ (x : State). In (x.chain w.chain) m) there w.linked);
        }

-- What the one store of a push, a replacement or a cut makes of the words that lead to objects.
use Rattle.live_log.proofs.Cited.{Bool, ◌≡◌, ◌≢◌, ◌⊎◌, ℕ, List, ◌∷◌, sym, refl, ap, ◌∙◌, subst, inl, inr, ⊎_elim, Option, Some, None, option_or, dite, ℕ_discrete, ObjectId, IsPlace, follows, at_object, without_object, next_of, first_of, replaced, in_objects, at_object_same, at_object_other, at_number_same, at_number_other, Spliced, push_splices, cut_splices, replace_splices, decide_place, some_is, none_some}
use Rattle.rcu_model.proofs.Lemmas.{In}
use Rattle.live_log.specs.declared.event.ObjectEvent.TheVariants.{Push, Replace, Cut}
use Rattle.live_log.specs.declared.event.LiveEvent.{LiveEvent}
use Rattle.live_log.specs.declared.event.LiveEvent.TheVariants.{Object}
use Rattle.live_log.specs.Log.{Log, state_of, objects_of, Objects, Spot, head, link, spot_of, Leads, IsLiveRun}
use Rattle.live_log.proofs.Machine.{kept_log, not_has}

abbrev is_link : Spot → Option ObjectId
is_link (head c) = None
is_link (link o) = Some o

abbrev head_or : Spot → ℕ
head_or (head c) = c
head_or (link o) = 0

pub link_is : (o p : ObjectId) → link o ≡ link p → o ≡ p
link_is o p e = some_is o p (ap is_link e)

pub head_is : (c d : ℕ) → head c ≡ head d → c ≡ d
head_is c d e = ap head_or e

pub head_no_link : (c : ℕ) (o : ObjectId) → head c ≡ link o → ⊥
head_no_link c o e = none_some o (ap is_link e)

-- in the chain c the place p, which led to `leaves` or else to `next`, now leads to `enters` or else to `next`
pub record Moved (was now : Objects) (c : ℕ) (p next leaves enters : Option ObjectId) : Type 0 where
  pub here : Spliced (was.chain c) (now.chain c) p next leaves enters
  pub else : (d : ℕ) → d ≢ c → now.chain d ≡ was.chain d
  pub left : (o : ObjectId) → leaves ≡ Some o → In now.cut o × (now.successor o ≡ next)
  pub cut_before : (o : ObjectId) → In now.cut o → (leaves ≡ Some o) ⊎ (In was.cut o × (now.successor o ≡ was.successor o))
  pub cut_still : (o : ObjectId) → In was.cut o → In now.cut o
  pub used_before : (o : ObjectId) → In now.used o → (enters ≡ Some o) ⊎ In was.used o
  pub used_still : (o : ObjectId) → In was.used o → In now.used o
  pub enters_fresh : (o : ObjectId) → enters ≡ Some o → ¬ In was.used o
  pub leaves_linked : (o : ObjectId) → leaves ≡ Some o → In (was.chain c) o
  pub retired : now.retired ≡ was.retired
  pub reclaimed : now.reclaimed ≡ was.reclaimed
  pub queued : now.queued ≡ was.queued
  pub line : now.line ≡ was.line
  pub note : (o : ObjectId) → enters ≢ Some o → now.note o ≡ was.note o

module _ (qsbr : Bool) (allows : Log → LiveEvent → Type 0) where
  pub push_moves : (log : Log) (c : ℕ) (o : ObjectId) (i : ℕ) (w : List ℕ) → IsLiveRun qsbr allows (Object (Push c o i w) ∷ log)
      → Moved (objects_of log) (objects_of (Object (Push c o i w) ∷ log)) c None (first_of ((state_of log).chain c)) None (Some o)
  push_moves log c o i w run = let now = state_of log in let k = (kept_log qsbr allows log run.1).linking in let fresh = not_has now.used o run.0.0 in record {
    here = subst (λ (l : List ObjectId). Spliced (now.chain c) l None (first_of (now.chain c)) None (Some o)) (sym (at_number_same c (o ∷ now.chain c) now.chain))
        (push_splices (now.chain c) o (k.once c) (λ h. fresh (k.linked_used c o h)));
    else = λ d other. at_number_other c d (o ∷ now.chain c) now.chain other;
    left = λ p e. absurd (none_some p e);
    cut_before = λ p h. inr (h, refl);
    cut_still = λ p h. h;
    used_before = λ p h. ⊎_elim (λ (e : o ≡ p). inl (ap Some e)) inr h;
    used_still = λ p h. inr h;
    enters_fresh = λ p e h. fresh (subst (In now.used) (sym (some_is o p e)) h);
    leaves_linked = λ p e. absurd (none_some p e);
    retired = refl;
    reclaimed = refl;
    queued = refl;
    line = refl;
    note = λ p ne. at_object_other o p (i, w) (objects_of log).note (λ e. ne (ap Some (sym e)));
  }

  pub cut_moves : (log : Log) (c : ℕ) (p : Option ObjectId) (o : ObjectId) → IsLiveRun qsbr allows (Object (Cut c o) ∷ log) → IsPlace ((state_of log).chain c) p → follows ((state_of log).chain c) p ≡ Some o
      → Moved (objects_of log) (objects_of (Object (Cut c o) ∷ log)) c p (next_of ((state_of log).chain c) o) (Some o) None
  cut_moves log c p o run at f = let now = state_of log in let k = (kept_log qsbr allows log run.1).linking in let has = in_objects (now.chain c) o run.0.0 in record {
    here = subst (λ (l : List ObjectId). Spliced (now.chain c) l p (next_of (now.chain c) o) (Some o) None) (sym (at_number_same c (without_object o (now.chain c)) now.chain))
        (cut_splices (now.chain c) o p (k.once c) has at f);
    else = λ d other. at_number_other c d (without_object o (now.chain c)) now.chain other;
    left = λ q e. subst (λ (z : ObjectId). In (o ∷ now.cut) z × (at_object o (next_of (now.chain c) o) now.successor z ≡ next_of (now.chain c) o)) (some_is o q e) (inl refl, at_object_same o (next_of (now.chain c) o) now.successor);
    cut_before = λ q h. cut_one log c o (k.linked_not_cut c o has) q h;
    cut_still = λ q h. inr h;
    used_before = λ q h. inr h;
    used_still = λ q h. h;
    enters_fresh = λ q e. absurd (none_some q e);
    leaves_linked = λ q e. subst (In (now.chain c)) (some_is o q e) has;
    retired = refl;
    reclaimed = refl;
    queued = refl;
    line = refl;
    note = λ q ne. refl;
  }
    where
      cut_one : (log : Log) (c : ℕ) (o : ObjectId) → ¬ In (state_of log).cut o → (q : ObjectId) → In (o ∷ (state_of log).cut) q → (Some o ≡ Some q) ⊎ (In (state_of log).cut q × (at_object o (next_of ((state_of log).chain c) o) (state_of log).successor q ≡ (state_of log).successor q))
      cut_one log c o fresh q (inl e) = inl (ap Some e)
      cut_one log c o fresh q (inr h) = inr (h, at_object_other o q (next_of ((state_of log).chain c) o) (state_of log).successor (λ e. fresh (subst (In (state_of log).cut) e h)))

  pub replace_moves : (log : Log) (c : ℕ) (p : Option ObjectId) (o m : ObjectId) (i : ℕ) (w : List ℕ) → IsLiveRun qsbr allows (Object (Replace c o m i w) ∷ log) → IsPlace ((state_of log).chain c) p → follows ((state_of log).chain c) p ≡ Some o
      → Moved (objects_of log) (objects_of (Object (Replace c o m i w) ∷ log)) c p (next_of ((state_of log).chain c) o) (Some o) (Some m)
  replace_moves log c p o m i w run at f = let now = state_of log in let k = (kept_log qsbr allows log run.1).linking in let has = in_objects (now.chain c) o run.0.0.0 in let fresh = not_has now.used m run.0.0.1 in record {
    here = subst (λ (l : List ObjectId). Spliced (now.chain c) l p (next_of (now.chain c) o) (Some o) (Some m)) (sym (at_number_same c (replaced o m (now.chain c)) now.chain))
        (replace_splices (now.chain c) o m p (k.once c) (λ h. fresh (k.linked_used c m h)) has at f);
    else = λ d other. at_number_other c d (replaced o m (now.chain c)) now.chain other;
    left = λ q e. subst (λ (z : ObjectId). In (o ∷ now.cut) z × (at_object o (next_of (now.chain c) o) now.successor z ≡ next_of (now.chain c) o)) (some_is o q e) (inl refl, at_object_same o (next_of (now.chain c) o) now.successor);
    cut_before = λ q h. cut_one log c o (k.linked_not_cut c o has) q h;
    cut_still = λ q h. inr h;
    used_before = λ q h. ⊎_elim (λ (e : m ≡ q). inl (ap Some e)) inr h;
    used_still = λ q h. inr h;
    enters_fresh = λ q e h. fresh (subst (In now.used) (sym (some_is m q e)) h);
    leaves_linked = λ q e. subst (In (now.chain c)) (some_is o q e) has;
    retired = refl;
    reclaimed = refl;
    queued = refl;
    line = refl;
    note = λ q ne. at_object_other m q (i, w) (objects_of log).note (λ e. ne (ap Some (sym e)));
  }
    where
      cut_one : (log : Log) (c : ℕ) (o : ObjectId) → ¬ In (state_of log).cut o → (q : ObjectId) → In (o ∷ (state_of log).cut) q → (Some o ≡ Some q) ⊎ (In (state_of log).cut q × (at_object o (next_of ((state_of log).chain c) o) (state_of log).successor q ≡ (state_of log).successor q))
      cut_one log c o fresh q (inl e) = inl (ap Some e)
      cut_one log c o fresh q (inr h) = inr (h, at_object_other o q (next_of ((state_of log).chain c) o) (state_of log).successor (λ e. fresh (subst (In (state_of log).cut) e h)))

-- what a word leads to: what it did before, unless it is the one that was stored, or the link of the object that came
abbrev pub Still : Objects → ℕ → Option ObjectId → Option ObjectId → Option ObjectId → Spot → Option ObjectId → Type 0
Still was c p next enters t found = ((t ≡ spot_of c p) × (found ≡ option_or enters next)) ⊎ ((t ≢ spot_of c p) × Leads was t found) ⊎ ((m : ObjectId) × (enters ≡ Some m) × (t ≡ link m) × (found ≡ next))

module _ (was now : Objects) (c : ℕ) (p next leaves enters : Option ObjectId)
    (one_chain : (d e : ℕ) (o : ObjectId) → In (was.chain d) o → In (was.chain e) o → d ≡ e) (apart : (d : ℕ) (o : ObjectId) → In (was.chain d) o → ¬ In was.cut o) (apart_now : (d : ℕ) (o : ObjectId) → In (now.chain d) o → ¬ In now.cut o)
    (m : Moved was now c p next leaves enters) where
  not_cut_place : (q : Option ObjectId) (o : ObjectId) → q ≡ p → In now.cut o → link o ≢ spot_of c q
  not_cut_place None o e h f = head_no_link c o (sym f)
  not_cut_place (Some q) o e h f = apart_now c o (subst (In (now.chain c)) (sym (link_is o q f)) (subst (IsPlace (now.chain c)) (sym e) m.here.place_after)) h

  else_place : (q : Option ObjectId) (d : ℕ) (o : ObjectId) → q ≡ p → d ≢ c → In (was.chain d) o → link o ≢ spot_of c q
  else_place None d o e other h f = head_no_link c o (sym f)
  else_place (Some q) d o e other h f = other (one_chain d c o h (subst (In (was.chain c)) (sym (link_is o q f)) (subst (IsPlace (was.chain c)) (sym e) m.here.place)))

  no_head : (q : Option ObjectId) (d : ℕ) → (d ≡ c → q ≢ None) → head d ≢ spot_of c q
  no_head None d ne f = ne (head_is d c f) refl
  no_head (Some q) d ne f = head_no_link d q f

  not_spot : (q : Option ObjectId) (o : ObjectId) → Some o ≢ q → link o ≢ spot_of c q
  not_spot None o ne f = head_no_link c o (sym f)
  not_spot (Some q) o ne f = ne (ap Some (link_is o q f))

  pub leads_still : (t : Spot) (found : Option ObjectId) → Leads now t found → Still was c p next enters t found
  leads_still (head d) found f = dite (ℕ_discrete d c)
      (λ same. let f' : first_of (now.chain c) ≡ found = subst (λ (n : ℕ). first_of (now.chain n) ≡ found) same f in ⊎_elim
      (λ (e : None ≡ p). inl (ap head same ∙ ap (spot_of c) e, sym f' ∙ (ap (follows (now.chain c)) e ∙ m.here.becomes)))
      (λ (ne : None ≢ p). inr (inl (no_head p d (λ _ e. ne (sym e)), subst (λ (n : ℕ). first_of (was.chain n) ≡ found) (sym same) (sym (m.here.other None tt ne (λ o _. none_some o)).1 ∙ f'))))
      (decide_place None p))
      (λ other. inr (inl (no_head p d (λ same _. other same), ap first_of (sym (m.else d other)) ∙ f)))
  leads_still (link o) found (inr k) = ⊎_elim
      (λ (e : leaves ≡ Some o). let x = m.here.left o e in inr (inl (not_cut_place p o refl k.0, inl (c, x.0, x.1 ∙ (sym (m.left o e).1 ∙ k.1)))))
      (λ (b : In was.cut o × (now.successor o ≡ was.successor o)). inr (inl (not_cut_place p o refl k.0, inr (b.0, sym b.1 ∙ k.1))))
      (m.cut_before o k.0)
  leads_still (link o) found (inl l) = dite (ℕ_discrete l.0 c)
      (λ same. linked o found (subst (λ (n : ℕ). In (now.chain n) o) same l.1) (subst (λ (n : ℕ). next_of (now.chain n) o ≡ found) same l.2))
      (λ other. let e = m.else l.0 other in let h = subst (λ (z : List ObjectId). In z o) e l.1 in
      inr (inl (else_place p l.0 o refl other h, inl (l.0, h, subst (λ (z : List ObjectId). next_of z o ≡ found) e l.2))))
    where
      linked : (o : ObjectId) (found : Option ObjectId) → In (now.chain c) o → next_of (now.chain c) o ≡ found → Still was c p next enters (link o) found
      linked o found h n = ⊎_elim
          (λ (e : enters ≡ Some o). let x = m.here.entered o e in inr (inr (o, e, refl, sym n ∙ x.2)))
          (λ (b : In (was.chain c) o × (leaves ≢ Some o)). ⊎_elim
          (λ (e : Some o ≡ p). inl (ap (spot_of c) e, sym n ∙ (ap (follows (now.chain c)) e ∙ m.here.becomes)))
          (λ (ne : Some o ≢ p). inr (inl (not_spot p o ne, inl (c, b.0, sym (m.here.other (Some o) b.0 ne (λ q e g. b.1 (e ∙ sym g))).1 ∙ n))))
          (decide_place (Some o) p))
          (m.here.back o h)

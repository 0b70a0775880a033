-- Where an object that was linked is later: it is linked, or it is cut and what follows it was linked since.
use Rattle.std.proofs.Common.{◌≡◌, ◌≢◌, ◌⊎◌, inl, inr, ⊎_elim, ℕ, ◌==◌, true, false, List, [], ◌∷◌, ◌++◌, Some, None, refl, sym, ap, ◌∙◌, subst}
use Rattle.std.proofs.lemmas.Bool.Decides.{eqb_tells}
use Rattle.rcu_model.specs.declared.event.Event.{Event}
use Rattle.rcu_model.specs.declared.event.Event.TheVariants.{Open, Close, First, Next, Touch, Push, Replace, Cut, Retire, Queue, Run, Ask, Answer, Bar, Clear}
use Rattle.rcu_model.specs.declared.event.ObjectId.{ObjectId}
use Rattle.rcu_model.specs.Machine.{State, start, IsAllowed, AreAllowed, IsRun, after, after_all, state_after}
use Rattle.rcu_model.specs.Sets.{same_object, at_number, without_object, at_object, next_of, replaced}
use Rattle.rcu_model.proofs.Members.{In, Tells, object_tells, in_objects}
use Rattle.rcu_model.proofs.SetLemmas.{has_without_object, at_number_same, at_object_same, at_object_other, next_of_has, has_replaced}
use Rattle.rcu_model.proofs.Follows.{decide}
use Rattle.rcu_model.proofs.Runs.{after_append}
use Rattle.rcu_model.proofs.Headline.{allowed_split, run_parts}
use Rattle.rcu_model.proofs.Safety.{Kept, at_linked, kept_step, kept_run, kept_start, kept_log}

-- a linked object is linked where it was, or is cut, and keeps the successor that it had
abbrev pub StaysOrLeaves : State → State → ℕ → ObjectId → Type 0
StaysOrLeaves now later c o = In (later.chain c) o ⊎ (In later.cut o × (later.successor o ≡ next_of (now.chain c) o))

-- where one chain is set, what it keeps is linked as before
chain_set : (f : ℕ → List ObjectId) (d c : ℕ) (xs : List ObjectId) (o : ObjectId) → (c ≡ d → In xs o) → In (f c) o → In (at_number d xs f c) o
chain_set f d c xs o stays h = at_linked d c xs f o (by (eqb_tells c d))
  where
    by : (((c == d) ≡ true) × (c ≡ d)) ⊎ (((c == d) ≡ false) × (c ≢ d)) → ((c ≡ d) × In xs o) ⊎ ((c ≢ d) × In (f c) o)
    by (inl y) = inl (y.1, stays y.1)
    by (inr n) = inr (n.1, h)

-- an object leaves chain d, which is then xs
leaves : (now : State) (d c : ℕ) (p o : ObjectId) (xs : List ObjectId) → Kept now → In (now.chain d) p → ((x : ObjectId) → In (now.chain d) x → x ≢ p → In xs x) → In (now.chain c) o →
    In (at_number d xs now.chain c) o ⊎ (In (p ∷ now.cut) o × (at_object p (next_of (now.chain d) p) now.successor o ≡ next_of (now.chain c) o))
leaves now d c p o xs k at rest h = by (decide o p)
  where
    by : (o ≡ p) ⊎ (o ≢ p) → In (at_number d xs now.chain c) o ⊎ (In (p ∷ now.cut) o × (at_object p (next_of (now.chain d) p) now.successor o ≡ next_of (now.chain c) o))
    by (inl e) =
        let same : c ≡ d = k.linking.one_chain c d o h (subst (In (now.chain d)) (sym e) at) in
        inr (inl (sym e), ap (at_object p (next_of (now.chain d) p) now.successor) e ∙ at_object_same p (next_of (now.chain d) p) now.successor ∙ (λ i. next_of (now.chain (sym same i)) (sym e i)))
    by (inr n) = inl (chain_set now.chain d c xs o (λ e. rest o (subst (λ (m : ℕ). In (now.chain m) o) e h) n) h)

pub stays_or_leaves : (now : State) (e : Event) (c : ℕ) (o : ObjectId) → Kept now → IsAllowed now e → In (now.chain c) o → StaysOrLeaves now (after now e) c o
stays_or_leaves now (Open s) c o k a h = inl h
stays_or_leaves now (Close s) c o k a h = inl h
stays_or_leaves now (First s d None) c o k a h = inl h
stays_or_leaves now (First s d (Some p)) c o k a h = inl h
stays_or_leaves now (Next s p None) c o k a h = inl h
stays_or_leaves now (Next s p (Some q)) c o k a h = inl h
stays_or_leaves now (Touch s p) c o k a h = inl h
stays_or_leaves now (Push d p) c o k a h = inl (chain_set now.chain d c (p ∷ now.chain d) o (λ e. inr (subst (λ (m : ℕ). In (now.chain m) o) e h)) h)
stays_or_leaves now (Replace d p q) c o k a h =
    leaves now d c p o (replaced p q (now.chain d)) k (in_objects (now.chain d) p a.0) (λ x at ne. has_replaced p q (now.chain d) x at ne) h
stays_or_leaves now (Cut d p) c o k a h =
    leaves now d c p o (without_object p (now.chain d)) k (in_objects (now.chain d) p a) (λ x at ne. has_without_object p (now.chain d) x at ne) h
stays_or_leaves now (Retire p) c o k a h = inl h
stays_or_leaves now (Queue p q) c o k a h = inl h
stays_or_leaves now (Run p) c o k a h = inl h
stays_or_leaves now (Ask n) c o k a h = inl h
stays_or_leaves now (Answer n) c o k a h = inl h
stays_or_leaves now (Bar n) c o k a h = inl h
stays_or_leaves now (Clear n) c o k a h = inl h

-- a cut object stays cut, with the successor that it had
abbrev pub StaysCut : State → State → ObjectId → Type 0
StaysCut now later o = In later.cut o × (later.successor o ≡ now.successor o)

pub stays_cut : (now : State) (e : Event) (o : ObjectId) → Kept now → IsAllowed now e → In now.cut o → StaysCut now (after now e) o
stays_cut now (Open s) o k a h = (h, refl)
stays_cut now (Close s) o k a h = (h, refl)
stays_cut now (First s d None) o k a h = (h, refl)
stays_cut now (First s d (Some p)) o k a h = (h, refl)
stays_cut now (Next s p None) o k a h = (h, refl)
stays_cut now (Next s p (Some q)) o k a h = (h, refl)
stays_cut now (Touch s p) o k a h = (h, refl)
stays_cut now (Push d p) o k a h = (h, refl)
stays_cut now (Replace d p q) o k a h =
    (inr h, at_object_other p o (next_of (now.chain d) p) now.successor (λ e. k.linking.linked_not_cut d p (in_objects (now.chain d) p a.0) (subst (In now.cut) e h)))
stays_cut now (Cut d p) o k a h =
    (inr h, at_object_other p o (next_of (now.chain d) p) now.successor (λ e. k.linking.linked_not_cut d p (in_objects (now.chain d) p a) (subst (In now.cut) e h)))
stays_cut now (Retire p) o k a h = (h, refl)
stays_cut now (Queue p q) o k a h = (h, refl)
stays_cut now (Run p) o k a h = (h, refl)
stays_cut now (Ask n) o k a h = (h, refl)
stays_cut now (Answer n) o k a h = (h, refl)
stays_cut now (Bar n) o k a h = (h, refl)
stays_cut now (Clear n) o k a h = (h, refl)

pub stays_cut_run : (now : State) (es : List Event) (o : ObjectId) → Kept now → AreAllowed now es → In now.cut o → StaysCut now (after_all now es) o
stays_cut_run now [] o k a h = (h, refl)
stays_cut_run now (e ∷ es) o k a h =
    let one = stays_cut now e o k a.0 h in
    let rest = stays_cut_run (after now e) es o (kept_step now e k a.0) a.1 one.0 in
    (rest.0, rest.1 ∙ one.1)

pub replaced_there : (old new : ObjectId) (xs : List ObjectId) → In xs old → In (replaced old new xs) new
replaced_there old new [] h = absurd h
replaced_there old new (x ∷ xs) (inl e) = by (object_tells x old)
  where
    by : Tells (same_object x old) x old → In (replaced old new (x ∷ xs)) new
    by (inl y) = rw y.0 (inl refl)
    by (inr n) = absurd (n.1 e)
replaced_there old new (x ∷ xs) (inr h) = inr (replaced_there old new xs h)

chain_there : (f : ℕ → List ObjectId) (d : ℕ) (xs : List ObjectId) (o : ObjectId) → In xs o → (c : ℕ) × In (at_number d xs f c) o
chain_there f d xs o h = (d, subst (λ (l : List ObjectId). In l o) (sym (at_number_same d xs f)) h)

-- an object that is used after an event was used before, or is linked then
used_step : (now : State) (e : Event) (o : ObjectId) → IsAllowed now e → In (after now e).used o → In now.used o ⊎ ((c : ℕ) × In ((after now e).chain c) o)
used_step now (Open s) o a h = inl h
used_step now (Close s) o a h = inl h
used_step now (First s d None) o a h = inl h
used_step now (First s d (Some p)) o a h = inl h
used_step now (Next s p None) o a h = inl h
used_step now (Next s p (Some q)) o a h = inl h
used_step now (Touch s p) o a h = inl h
used_step now (Push d p) o a (inl e) = inr (chain_there now.chain d (p ∷ now.chain d) o (inl e))
used_step now (Push d p) o a (inr h) = inl h
used_step now (Replace d p q) o a (inl e) = inr (chain_there now.chain d (replaced p q (now.chain d)) o (subst (In (replaced p q (now.chain d))) e (replaced_there p q (now.chain d) (in_objects (now.chain d) p a.0))))
used_step now (Replace d p q) o a (inr h) = inl h
used_step now (Cut d p) o a h = inl h
used_step now (Retire p) o a h = inl h
used_step now (Queue p q) o a h = inl h
used_step now (Run p) o a h = inl h
used_step now (Ask n) o a h = inl h
used_step now (Answer n) o a h = inl h
used_step now (Bar n) o a h = inl h
used_step now (Clear n) o a h = inl h

-- at some moment of these events, both ends among them, the object was linked
pub record LinkedWithin (now : State) (es : List Event) (o : ObjectId) : Type 0 where
  pub first : List Event
  pub rest : List Event
  pub split : es ≡ first ++ rest
  pub chain : ℕ
  pub linked : In ((after_all now first).chain chain) o

linked_later : (now : State) (e : Event) (es : List Event) (o : ObjectId) → LinkedWithin (after now e) es o → LinkedWithin now (e ∷ es) o
linked_later now e es o w = record { first = e ∷ w.first; rest = w.rest; split = ap (λ (l : List Event). e ∷ l) w.split; chain = w.chain; linked = w.linked }

-- the object is cut, and what followed it then was linked at some moment of these events
pub record CutWithin (now : State) (es : List Event) (o : ObjectId) : Type 0 where
  pub cut : In (after_all now es).cut o
  pub successor : (m : ObjectId) → (after_all now es).successor o ≡ Some m → LinkedWithin now es m

cut_now : (now : State) (e : Event) (es : List Event) (c : ℕ) (o : ObjectId) → Kept now → AreAllowed now (e ∷ es) → In (now.chain c) o → In (after now e).cut o × ((after now e).successor o ≡ next_of (now.chain c) o) → CutWithin now (e ∷ es) o
cut_now now e es c o k a h gone =
    let stays = stays_cut_run (after now e) es o (kept_step now e k a.0) a.1 gone.0 in
    record {
      cut = stays.0;
      successor = λ m next. record { first = []; rest = e ∷ es; split = refl; chain = c; linked = (next_of_has (now.chain c) o m (k.linking.once c) h (sym (stays.1 ∙ gone.1) ∙ next)).0 };
    }

cut_later : (now : State) (e : Event) (es : List Event) (o : ObjectId) → CutWithin (after now e) es o → CutWithin now (e ∷ es) o
cut_later now e es o w = record { cut = w.cut; successor = λ m next. linked_later now e es m (w.successor m next) }

pub linked_or_cut : (now : State) (es : List Event) (c : ℕ) (o : ObjectId) → Kept now → AreAllowed now es → In (now.chain c) o → In ((after_all now es).chain c) o ⊎ CutWithin now es o
linked_or_cut now [] c o k a h = inl h
linked_or_cut now (e ∷ es) c o k a h =
    ⊎_elim
    (λ (there : In ((after now e).chain c) o). ⊎_elim
    (λ (l : In ((after_all (after now e) es).chain c) o). inl l)
    (λ (w : CutWithin (after now e) es o). inr (cut_later now e es o w))
    (linked_or_cut (after now e) es c o (kept_step now e k a.0) a.1 there))
    (λ (gone : In (after now e).cut o × ((after now e).successor o ≡ next_of (now.chain c) o)). inr (cut_now now e es c o k a h gone))
    (stays_or_leaves now e c o k a.0 h)

-- what was used was linked then
used_linked : (now : State) (es : List Event) (o : ObjectId) → AreAllowed now es → In (after_all now es).used o → In now.used o ⊎ LinkedWithin now es o
used_linked now [] o a h = inl h
used_linked now (e ∷ es) o a h =
    ⊎_elim
    (λ (u : In (after now e).used o). ⊎_elim
    (λ (was : In now.used o). inl was)
    (λ (l : (c : ℕ) × In ((after now e).chain c) o). inr (record { first = e ∷ []; rest = es; split = refl; chain = l.0; linked = l.1 }))
    (used_step now e o a.0 u))
    (λ (w : LinkedWithin (after now e) es o). inr (linked_later now e es o w))
    (used_linked (after now e) es o a.1 h)

-- linked, or cut
abbrev pub IsPlaced : State → ObjectId → Type 0
IsPlaced now o = ((c : ℕ) × In (now.chain c) o) ⊎ In now.cut o

placed_used : (now : State) (o : ObjectId) → Kept now → IsPlaced now o → In now.used o
placed_used now o k (inl l) = k.linking.linked_used l.0 o l.1
placed_used now o k (inr c) = k.linking.cut_used o c

-- what was linked at some moment is linked or cut at the end
pub within_placed : (now : State) (es : List Event) (o : ObjectId) → Kept now → AreAllowed now es → LinkedWithin now es o → IsPlaced (after_all now es) o
within_placed now es o k a w =
    let parts = allowed_split now w.first w.rest (subst (AreAllowed now) w.split a) in
    let mid : State = after_all now w.first in
    let ends : after_all mid w.rest ≡ after_all now es = sym (ap (after_all now) w.split ∙ after_append now w.first w.rest) in
    subst (λ (s : State). IsPlaced s o) ends (⊎_elim
    (λ (l : In ((after_all mid w.rest).chain w.chain) o). inl (w.chain, l))
    (λ (c : CutWithin mid w.rest o). inr c.cut)
    (linked_or_cut mid w.rest w.chain o (kept_run now w.first k parts.0) parts.1 w.linked))

-- what was put into a chain is linked or cut
pub used_placed : (log : List Event) (o : ObjectId) → IsRun log → In (state_after log).used o → IsPlaced (state_after log) o
used_placed log o run h =
    ⊎_elim
    (λ (none : In start.used o). absurd none)
    (λ (w : LinkedWithin start log o). within_placed start log o kept_start run w)
    (used_linked start log o run h)

-- the kept successor of a cut object was put into a chain, and is linked or cut
pub successor_placed : (log : List Event) (o m : ObjectId) → IsRun log → In (state_after log).cut o → (state_after log).successor o ≡ Some m → In (state_after log).used m × IsPlaced (state_after log) m
successor_placed log o m run cut next =
    ⊎_elim
    (λ (none : In start.used o). absurd none)
    (λ (w : LinkedWithin start log o). at w)
    (used_linked start log o run ((kept_log log run).linking.cut_used o cut))
  where
    at : LinkedWithin start log o → In (state_after log).used m × IsPlaced (state_after log) m
    at w =
        let parts = run_parts log w.first w.rest run w.split in
        let mid : State = state_after w.first in
        let kept_mid = kept_log w.first parts.0 in
        let placed : IsPlaced (state_after log) m = subst (λ (s : State). IsPlaced s m) parts.2 (⊎_elim
        (λ (l : In ((after_all mid w.rest).chain w.chain) o). absurd ((kept_log log run).linking.linked_not_cut w.chain o (subst (λ (s : State). In (s.chain w.chain) o) parts.2 l) cut))
        (λ (c : CutWithin mid w.rest o). within_placed mid w.rest m kept_mid parts.1 (c.successor m (ap (λ (s : State). s.successor o) parts.2 ∙ next)))
        (linked_or_cut mid w.rest w.chain o kept_mid parts.1 w.linked)) in
        (placed_used (state_after log) m (kept_log log run) placed, placed)

-- What a push, a replacement and a cut make of what is known of objects.
use Rattle.rcu_judge.proofs.Cited.{arith, ◌≡◌, ◌≢◌, ℕ, true, false, ◌↔◌, IsTrue, List, ◌∷◌, is_some, Option, Some, None, refl, sym, ap, ◌∙◌, subst, true≢false, ObjectId, Push, Replace, Cut, State, after, has_object, HasObject, without_object, at_number, at_object, next_of, replaced, In, object_tells, in_objects, has_object_in, at_number_same, at_number_other, at_object_same, at_object_other, Kept, kept_log, IsPlace, follows, some_is, none_some, Spliced, push_splices, replace_splices, cut_splices}
use Rattle.rcu_judge.specs.declared.object.ObjectState.{ObjectState}
use Rattle.rcu_judge.specs.declared.object.Splice.{Splice}
use Rattle.rcu_judge.specs.Objects.{says_linked, linked_state, after_of, before_of, Shows, IsReached, spliced_heads, spliced_states}
use Rattle.rcu_judge.proofs.Members.{has_more}
use Rattle.rcu_judge.proofs.ObjectsLinking.{leads, shows_spliced}

pub kept_reached : (now : State) → IsReached now → Kept now
kept_reached now r = subst Kept r.leads (kept_log r.log r.run)

-- the answers of a call that was refused, and of one that was done
pub refused : {A B : Type 0} → ¬ A → (IsTrue false ↔ A) × (IsTrue false → B)
refused no_way = ((λ e. absurd (true≢false (sym e)), λ a. absurd (no_way a)), λ e. absurd (true≢false (sym e)))

pub done : {A B : Type 0} → A → B → (IsTrue true ↔ A) × (IsTrue true → B)
done a b = ((λ e. a, λ a. refl), λ e. b)

-- a list with one object more
pub has_past : (xs : List ObjectId) (o p : ObjectId) → o ≢ p → has_object (o ∷ xs) p ≡ has_object xs p
has_past xs o p apart = grind (arith, object_tells)

-- the state of a linked object
pub linked_state_is : (c : ℕ) (x : Option ObjectState) (t : ObjectState) → linked_state c x ≡ Some t → (x ≡ Some t) × (says_linked c x ≡ true)
linked_state_is c x t e = grind (arith, none_some)

pub not_there : (x : Option ObjectState) → is_some x ≡ false → x ≡ None
not_there x e = grind arith

module _ (head : ℕ → Option ObjectId) (state : ObjectId → Option ObjectState) (now : State) (moments tickets : ObjectId → ℕ) (kept : Kept now) (k : Shows head state now.chain now.used now.cut now.successor now.retired now.queued now.reclaimed moments tickets) where
  abbrev ShowsNow : (ℕ → Option ObjectId) → (ObjectId → Option ObjectState) → State → Type 0
  ShowsNow head' state' later = Shows head' state' later.chain later.used later.cut later.successor later.retired later.queued later.reclaimed moments tickets

  -- an object of which nothing is known is new
  pub unused : (o : ObjectId) → state o ≡ None → ¬ HasObject now.used o
  unused o e h = true≢false (sym h ∙ sym (k.known o) ∙ ap is_some e)

  out : (c : ℕ) (o : ObjectId) → state o ≡ None → ¬ In (now.chain c) o
  out c o e h = unused o e (has_object_in now.used o (kept.linking.linked_used c o h))

  pub shows_pushed : (c : ℕ) (o : ObjectId) (first : Option ObjectId) → first ≡ head c → state o ≡ None →
      let s : Splice = record { chain = c; before = None; after = first; leaves = None; enters = Some o } in ShowsNow (spliced_heads head s) (spliced_states state s) (after now (Push c o))
  shows_pushed c o first e new =
      shows_spliced head state now.chain now.used now.cut now.successor now.retired now.queued now.reclaimed moments tickets k kept.linking
      (record { chain = c; before = None; after = first; leaves = None; enters = Some o }) (o ∷ now.chain c)
      (subst (λ (x : Option ObjectId). Spliced (now.chain c) (o ∷ now.chain c) None x None (Some o)) (sym (e ∙ k.firsts c)) (push_splices (now.chain c) o (kept.linking.once c) (out c o new)))
      (λ m f. ap state (sym (some_is o m f)) ∙ new)
      (at_number c (o ∷ now.chain c) now.chain) (o ∷ now.used) now.cut now.successor
      (grind (arith, at_number_same, at_number_other, has_more, has_past))

  module _ (c : ℕ) (old : ObjectId) (t : ObjectState) (is : linked_state c (state old) ≡ Some t) where
    was : state old ≡ Some t
    was = (linked_state_is c (state old) t is).0

    pub has_old : HasObject (now.chain c) old
    has_old = sym (k.linked c old) ∙ (linked_state_is c (state old) t is).1

    next_is : next_of (now.chain c) old ≡ t.after
    next_is = sym (k.nexts c old has_old) ∙ ap after_of was

    place : IsPlace (now.chain c) t.before × (follows (now.chain c) t.before ≡ Some old)
    place = subst (λ (p : Option ObjectId). IsPlace (now.chain c) p × (follows (now.chain c) p ≡ Some old)) (ap before_of was) (leads (now.chain c) (before_of (state old)) old (k.befores c old has_old))

    pub shows_replaced : (new : ObjectId) → state new ≡ None →
        let s : Splice = record { chain = c; before = t.before; after = t.after; leaves = Some old; enters = Some new } in ShowsNow (spliced_heads head s) (spliced_states state s) (after now (Replace c old new))
    shows_replaced new none =
        shows_spliced head state now.chain now.used now.cut now.successor now.retired now.queued now.reclaimed moments tickets k kept.linking
        (record { chain = c; before = t.before; after = t.after; leaves = Some old; enters = Some new }) (replaced old new (now.chain c))
        (subst (λ (x : Option ObjectId). Spliced (now.chain c) (replaced old new (now.chain c)) t.before x (Some old) (Some new)) next_is
        (replace_splices (now.chain c) old new t.before (kept.linking.once c) (out c new none) (in_objects (now.chain c) old has_old) place.0 place.1))
        (λ m f. ap state (sym (some_is new m f)) ∙ none)
        (at_number c (replaced old new (now.chain c)) now.chain) (new ∷ now.used) (old ∷ now.cut) (at_object old (next_of (now.chain c) old) now.successor)
        (grind (arith, at_number_same, at_number_other, at_object_same, at_object_other, has_more, has_past, next_is))

    pub shows_cut : let s : Splice = record { chain = c; before = t.before; after = t.after; leaves = Some old; enters = None } in ShowsNow (spliced_heads head s) (spliced_states state s) (after now (Cut c old))
    shows_cut =
        shows_spliced head state now.chain now.used now.cut now.successor now.retired now.queued now.reclaimed moments tickets k kept.linking
        (record { chain = c; before = t.before; after = t.after; leaves = Some old; enters = None }) (without_object old (now.chain c))
        (subst (λ (x : Option ObjectId). Spliced (now.chain c) (without_object old (now.chain c)) t.before x (Some old) None) next_is
        (cut_splices (now.chain c) old t.before (kept.linking.once c) (in_objects (now.chain c) old has_old) place.0 place.1))
        (λ m f. absurd (none_some m f))
        (at_number c (without_object old (now.chain c)) now.chain) now.used (old ∷ now.cut) (at_object old (next_of (now.chain c) old) now.successor)
        (grind (arith, at_number_same, at_number_other, at_object_same, at_object_other, has_more, has_past, next_is))

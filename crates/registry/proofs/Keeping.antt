-- Claims and the free numbers, as a slot is claimed and given back.
use Rattle.std.proofs.Common.{◌≡◌, ◌≢◌, ◌⊎◌, ◌↔◌, inl, inr, ⊎_elim, ℕ, ◌+◌, ◌<◌, ◌≤◌, ◌==◌, true, false, List, [], ◌∷◌, ◌++◌, length, map, Option, Some, None, is_some, count_by, get_or, refl, sym, ap, ◌∙◌, subst, arith, rules, length-append}
use Rattle.std.specs.List.{Contains}
use Rattle.std.proofs.lemmas.Bool.Decides.{eqb_tells}
use Rattle.std.proofs.lemmas.List.Elements.{Contains-append_left}
use Rattle.slab.specs.Slab.{Slab, get, slab_len, entries, ContainsKey, Updates}
use Rattle.slab.proofs.SlabLemmas.{Contains-cons, Contains-cons_cases, Contains-entries}
use Rattle.registry.specs.declared.slot.Slot.{Slot}
use Rattle.registry.specs.Layout.{slot_of, slots_of, AreNumbersBelow, IsKept}
use Rattle.registry.specs.Registry.{Registry, AllAreClaimed, Claims, GivesBack}
use Rattle.registry.proofs.Numbers.{none_in_nil, last_is_there, there_or_last, once_front, last_not_before, once_more}

-- a slot is claimed where its claim has its number
entry_of : (slot : Slot) (es : List (ℕ × ℕ)) → Contains (map slot_of es) slot → Contains es (slot.claim, slot.number)
entry_of slot [] h = absurd (none_in_nil slot h)
entry_of slot (e ∷ es) h =
    ⊎_elim
    (λ (is : slot_of e ≡ slot). subst (λ (s : Slot). Contains (e ∷ es) (s.claim, s.number)) is (0, omega arith, refl))
    (λ (r : Contains (map slot_of es) slot). Contains-cons e _ es (entry_of slot es r))
    (Contains-cons_cases (slot_of e) slot (map slot_of es) h)

of_entry : (slot : Slot) (es : List (ℕ × ℕ)) → Contains es (slot.claim, slot.number) → Contains (map slot_of es) slot
of_entry slot [] h = absurd (none_in_nil (slot.claim, slot.number) h)
of_entry slot (e ∷ es) h =
    ⊎_elim
    (λ (is : e ≡ (slot.claim, slot.number)). (0, omega arith, ap slot_of is))
    (λ (r : Contains es (slot.claim, slot.number)). Contains-cons (slot_of e) slot (map slot_of es) (of_entry slot es r))
    (Contains-cons_cases e (slot.claim, slot.number) es h)

pub claimed_is : (claims : Slab ℕ) (slot : Slot) → Contains (slots_of claims) slot ↔ (get claims slot.claim ≡ Some slot.number)
claimed_is claims slot = (
  (λ h. (Contains-entries claims slot.claim slot.number).0 (entry_of slot (entries claims) h)),
  (λ e. of_entry slot (entries claims) ((Contains-entries claims slot.claim slot.number).1 e)),
)

same_some : (m n : ℕ) → Some m ≡ Some n → m ≡ n
same_some m n e = cc

none_is_not_some : (n : ℕ) (o : Option ℕ) → o ≡ None → o ≢ Some n
none_is_not_some n o e f = cc

module _ (slots : ℕ) (old new : Slab ℕ) (free : List ℕ) (number key : ℕ) where
  module _ (kept : IsKept slots old (free ++ number ∷ [])) (vacant : get old key ≡ None) (updates : Updates old new key (Some number)) where
    -- a claim of the new ones is the new one or was there
    new_or_old : (k n : ℕ) → get new k ≡ Some n → ((k ≡ key) × (n ≡ number)) ⊎ ((k ≢ key) × (get old k ≡ Some n))
    new_or_old k n e =
        ⊎_elim
        (λ (y : ((k == key) ≡ true) × (k ≡ key)). inl (y.1, same_some n number (sym e ∙ ap (get new) y.1 ∙ updates.changed)))
        (λ (f : ((k == key) ≡ false) × (k ≢ key)). inr (f.1, sym (updates.others k f.1) ∙ e))
        (eqb_tells k key)

    still_claimed : (k n : ℕ) → get old k ≡ Some n → get new k ≡ Some n
    still_claimed k n e = updates.others k (λ same. none_is_not_some n (get old key) vacant (ap (get old) (sym same) ∙ e)) ∙ e

    number_free : Contains (free ++ number ∷ []) number
    number_free = last_is_there free number

    pub kept_claim : slab_len new ≡ slab_len old + 1 → new.capacity ≡ old.capacity → IsKept slots new free
    kept_claim len capacity = record {
      counted = let all = kept.counted in let parts = length-append free (number ∷ []) in omega (arith, all, parts, len);
      room = rw capacity kept.room;
      free_once = once_front free number kept.free_once;
      free_within = λ n h. kept.free_within n (Contains-append_left free (number ∷ []) n h);
      claimed_within = λ k n e. ⊎_elim
          (λ (y : (k ≡ key) × (n ≡ number)). subst (λ (m : ℕ). m < slots) (sym y.1) (kept.free_within number number_free))
          (λ (o : (k ≢ key) × (get old k ≡ Some n)). kept.claimed_within k n o.1) (new_or_old k n e);
      claimed_once = λ a b n e f. once a b n (new_or_old a n e) (new_or_old b n f);
      claimed_not_free = λ k n e h. ⊎_elim
          (λ (y : (k ≡ key) × (n ≡ number)). last_not_before free number kept.free_once (subst (Contains free) y.1 h))
          (λ (o : (k ≢ key) × (get old k ≡ Some n)). kept.claimed_not_free k n o.1 (Contains-append_left free (number ∷ []) n h)) (new_or_old k n e);
      each = λ n low. ⊎_elim
          (λ (h : Contains (free ++ number ∷ []) n). ⊎_elim (λ (l : Contains free n). inl l) (λ (e : number ≡ n). inr (key, updates.changed ∙ ap Some e)) (there_or_last free number n h))
          (λ (o : (k : ℕ) × (get old k ≡ Some n)). inr (o.0, still_claimed o.0 n o.1)) (kept.each n low);
    }
      where
        not_both : (k n : ℕ) → n ≡ number → ¬ (get old k ≡ Some n)
        not_both k n is e = kept.claimed_not_free k n e (subst (Contains (free ++ number ∷ [])) (sym is) number_free)

        once : (a b n : ℕ) → ((a ≡ key) × (n ≡ number)) ⊎ ((a ≢ key) × (get old a ≡ Some n)) → ((b ≡ key) × (n ≡ number)) ⊎ ((b ≢ key) × (get old b ≡ Some n)) → a ≡ b
        once a b n (inl x) (inl y) = x.0 ∙ sym y.0
        once a b n (inl x) (inr y) = absurd (not_both b n x.1 y.1)
        once a b n (inr x) (inl y) = absurd (not_both a n y.1 x.1)
        once a b n (inr x) (inr y) = kept.claimed_once a b n x.1 y.1

    pub claims : (before : Registry) → record { slots = slots; claimed = slots_of old } ≡ before → Claims before (record { slots = slots; claimed = slots_of new }) (record { claim = key; number = number })
    claims before is = subst (λ (r : Registry). Claims r (record { slots = slots; claimed = slots_of new }) (record { claim = key; number = number })) is (record {
      within = kept.free_within number number_free;
      was_free = λ slot h e. kept.claimed_not_free slot.claim slot.number ((claimed_is old slot).0 h) (subst (Contains (free ++ number ∷ [])) (sym e) number_free);
      claimed = (claimed_is new (record { claim = key; number = number })).1 updates.changed;
      others = λ other ne. (
        (λ h. ⊎_elim
            (λ (y : (other.claim ≡ key) × (other.number ≡ number)). absurd (ne (λ i. record { claim = y.0 i; number = y.1 i })))
            (λ (o : (other.claim ≢ key) × (get old other.claim ≡ Some other.number)). (claimed_is old other).1 o.1)
            (new_or_old other.claim other.number ((claimed_is new other).0 h))),
        (λ h. (claimed_is new other).1 (still_claimed other.claim other.number ((claimed_is old other).0 h))),
      );
      same_slots = refl;
    })

  module _ (kept : IsKept slots old free) (was : get old key ≡ Some number) (updates : Updates old new key None) where
    left : (k n : ℕ) → get new k ≡ Some n → (k ≢ key) × (get old k ≡ Some n)
    left k n e = let ne : k ≢ key = λ same. none_is_not_some n (get new key) updates.changed (ap (get new) (sym same) ∙ e) in (ne, sym (updates.others k ne) ∙ e)

    not_free : ¬ Contains free number
    not_free = kept.claimed_not_free key number was

    pub kept_give_back : slab_len new + 1 ≡ slab_len old → new.capacity ≡ old.capacity → IsKept slots new (free ++ number ∷ [])
    kept_give_back len capacity = record {
      counted = let all = kept.counted in let parts = length-append free (number ∷ []) in omega (arith, all, parts, len);
      room = rw capacity kept.room;
      free_once = once_more free number kept.free_once not_free;
      free_within = λ n h. ⊎_elim (λ (l : Contains free n). kept.free_within n l) (λ (e : number ≡ n). subst (λ (m : ℕ). m < slots) e (kept.claimed_within key number was)) (there_or_last free number n h);
      claimed_within = λ k n e. kept.claimed_within k n (left k n e).1;
      claimed_once = λ a b n e f. kept.claimed_once a b n (left a n e).1 (left b n f).1;
      claimed_not_free = λ k n e h. ⊎_elim
          (λ (l : Contains free n). kept.claimed_not_free k n (left k n e).1 l)
          (λ (same : number ≡ n). (left k n e).0 (kept.claimed_once k key n (left k n e).1 (was ∙ ap Some same))) (there_or_last free number n h);
      each = λ n low. ⊎_elim
          (λ (l : Contains free n). inl (Contains-append_left free (number ∷ []) n l))
          (λ (o : (k : ℕ) × (get old k ≡ Some n)). by n o.0 o.1 (eqb_tells o.0 key)) (kept.each n low);
    }
      where
        by : (n k : ℕ) → get old k ≡ Some n → (((k == key) ≡ true) × (k ≡ key)) ⊎ (((k == key) ≡ false) × (k ≢ key)) → Contains (free ++ number ∷ []) n ⊎ ((k : ℕ) × (get new k ≡ Some n))
        by n k e (inl y) = inl (subst (Contains (free ++ number ∷ [])) (same_some number n (sym was ∙ ap (get old) (sym y.1) ∙ e)) (last_is_there free number))
        by n k e (inr f) = inr (k, updates.others k f.1 ∙ e)

    pub gives_back : (before : Registry) → record { slots = slots; claimed = slots_of old } ≡ before → GivesBack before (record { slots = slots; claimed = slots_of new }) (record { claim = key; number = number })
    gives_back before is = subst (λ (r : Registry). GivesBack r (record { slots = slots; claimed = slots_of new }) (record { claim = key; number = number })) is (record {
      was_claimed = (claimed_is old (record { claim = key; number = number })).1 was;
      not_claimed = λ h. none_is_not_some number (get new key) updates.changed ((claimed_is new (record { claim = key; number = number })).0 h);
      others = λ other ne. (
        (λ h. (claimed_is old other).1 (left other.claim other.number ((claimed_is new other).0 h)).1),
        (λ h. (claimed_is new other).1 (by other ((claimed_is old other).0 h) ne (eqb_tells other.claim key))),
      );
      same_slots = refl;
    })
      where
        by : (other : Slot) → get old other.claim ≡ Some other.number → other ≢ record { claim = key; number = number } →
            (((other.claim == key) ≡ true) × (other.claim ≡ key)) ⊎ (((other.claim == key) ≡ false) × (other.claim ≢ key)) → get new other.claim ≡ Some other.number
        by other e ne (inl y) =
            let same : other.number ≡ number = same_some other.number number (sym e ∙ ap (get old) y.1 ∙ was) in
            absurd (ne (λ i. record { claim = y.1 i; number = same i }))
        by other e ne (inr f) = updates.others other.claim f.1 ∙ e

-- with no free number each slot is claimed
pub all_claimed : (slots : ℕ) (claims : Slab ℕ) (free : List ℕ) → IsKept slots claims free → length free ≡ 0 → AllAreClaimed (record { slots = slots; claimed = slots_of claims })
all_claimed slots claims free kept empty number low =
    ⊎_elim
    (λ (h : Contains free number). let k : h.0 < length free = h.1 in absurd (omega (arith, empty, k)))
    (λ (o : (key : ℕ) × (get claims key ≡ Some number)). (record { claim = o.0; number = number }, refl, (claimed_is claims (record { claim = o.0; number = number })).1 o.1))
    (kept.each number low)

pub claim_there : (claims : Slab ℕ) (slot : Slot) → Contains (slots_of claims) slot → ContainsKey claims slot.claim
claim_there claims slot h = rw ((claimed_is claims slot).0 h) (search rules)

pub none_kept : (slots : ℕ) (claims : Slab ℕ) (free : List ℕ) → claims.slots ≡ [] → slots ≤ claims.capacity → AreNumbersBelow slots free → IsKept slots claims free
none_kept slots claims free empty room numbers = record {
  counted = let none : slab_len claims ≡ 0 = ap (count_by is_some) empty in let all = numbers.counted in omega (arith, none, all);
  room = room;
  free_once = numbers.once;
  free_within = λ n. (numbers.all n).0;
  claimed_within = λ key n e. absurd (none_there key n e);
  claimed_once = λ a b n e f. absurd (none_there a n e);
  claimed_not_free = λ key n e. absurd (none_there key n e);
  each = λ n low. inl ((numbers.all n).1 low);
}
  where
    none_there : (key n : ℕ) → ¬ (get claims key ≡ Some n)
    none_there key n e = none_is_not_some n (get claims key) (ap (λ (xs : List (Option ℕ)). get_or xs key None) empty) e

-- Membership as the tests tell it.
use Rattle.rcu_judge.proofs.Cited.{arith, ◌≡◌, ◌≢◌, ◌⊎◌, ◌↔◌, ℕ, Bool, true, false, not, List, [], ◌∷◌, ◌++◌, refl, sym, subst, true≢false, SectionId, ObjectId, has_object, HasSection, HasObject, HasNumber, without_section, without_object, In, in_sections, has_section_in, in_objects, has_object_in, in_numbers, has_number_in, in_more, in_left, in_last, empty_from, filter_has, has_filter, without_section_has, has_without_section, without_object_has, has_without_object}
use Rattle.std.proofs.Common.{filter}

module _ {T : Type 0} (Has : List T → T → Type 0) (of_test : (xs : List T) (x : T) → Has xs x → In xs x) (to_test : (xs : List T) (x : T) → In xs x → Has xs x) where
  first_is : (x : T) (xs : List T) (y : T) → Has (x ∷ xs) y ↔ ((x ≡ y) ⊎ Has xs y)
  first_is x xs y = grind arith

  none_is : (xs : List T) → ((x : T) → ¬ Has xs x) ↔ (xs ≡ [])
  none_is xs = ((λ none. empty_from xs (λ x h. none x (to_test xs x h))), (λ e x h. subst (λ (l : List T). In l x) e (of_test xs x h)))

pub has_first : (s : SectionId) (ss : List SectionId) (t : SectionId) → HasSection (s ∷ ss) t ↔ ((s ≡ t) ⊎ HasSection ss t)
has_first = first_is HasSection in_sections has_section_in

pub has_more : (o : ObjectId) (os : List ObjectId) (p : ObjectId) → HasObject (o ∷ os) p ↔ ((o ≡ p) ⊎ HasObject os p)
has_more = first_is HasObject in_objects has_object_in

pub has_number_first : (n : ℕ) (ns : List ℕ) (k : ℕ) → HasNumber (n ∷ ns) k ↔ ((n ≡ k) ⊎ HasNumber ns k)
has_number_first = first_is HasNumber in_numbers has_number_in

pub no_section : (ss : List SectionId) → ((s : SectionId) → ¬ HasSection ss s) ↔ (ss ≡ [])
no_section = none_is HasSection in_sections has_section_in

pub no_object : (os : List ObjectId) → ((o : ObjectId) → ¬ HasObject os o) ↔ (os ≡ [])
no_object = none_is HasObject in_objects has_object_in

pub has_last : (s : SectionId) (ss : List SectionId) (t : SectionId) → HasSection (ss ++ s ∷ []) t ↔ ((s ≡ t) ⊎ HasSection ss t)
has_last s ss t = grind (arith, has_section_in, in_more, in_sections, in_last, in_left)

pub has_without : (s : SectionId) (ss : List SectionId) (t : SectionId) → HasSection (without_section s ss) t ↔ (HasSection ss t × (t ≢ s))
has_without s ss t = grind (arith, without_section_has, in_sections, has_section_in, has_without_section)

pub has_without_object_is : (o : ObjectId) (os : List ObjectId) (p : ObjectId) → HasObject (without_object o os) p ↔ (HasObject os p × (p ≢ o))
has_without_object_is o os p = grind (arith, without_object_has, in_objects, has_object_in, has_without_object)

-- what is queued and was not run, by the tests
not_of : (b : Bool) → not b ≡ true ↔ ¬ (b ≡ true)
not_of true = ((λ e. absurd (true≢false (sym e))), (λ n. absurd (n refl)))
not_of false = ((λ _ e. true≢false (sym e)), (λ _. refl))

pub not_run_has : (queued reclaimed : List ObjectId) (o : ObjectId) → HasObject (filter (λ p. not (has_object reclaimed p)) queued) o ↔ (HasObject queued o × ¬ HasObject reclaimed o)
not_run_has queued reclaimed o = grind (arith, filter_has, in_objects, has_object_in, not_of, has_filter)

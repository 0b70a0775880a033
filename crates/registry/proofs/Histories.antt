-- The histories of a registry.
use Rattle.std.proofs.Common.{◌≡◌, ◌≢◌, ◌⊎◌, inl, inr, ⊎_elim, ℕ, ◌<◌, ◌==◌, true, false, List, [], ◌∷◌, ◌++◌, refl, sym, ap, ◌∙◌, subst}
use Rattle.std.specs.List.{Contains}
use Rattle.std.proofs.lemmas.Bool.Decides.{eqb_tells}
use Rattle.slab.proofs.SlabLemmas.{Contains-cons, Contains-cons_cases}
use Rattle.registry.specs.declared.slot.Slot.{Slot}
use Rattle.registry.specs.Registry.{Registry, unclaimed, IsClaimed}
use Rattle.registry.specs.History.{Call, Claimed, Refused, GivenBack, Does, LeadsTo, IsClaimedAfter, ClaimsOnce, IsHistory}
use Rattle.registry.proofs.Numbers.{none_in_nil, first_is_there}

-- a history in two parts
leads_split : (old new : Registry) (calls more : List Call) → LeadsTo old (calls ++ more) new → (next : Registry) × LeadsTo old calls next × LeadsTo next more new
leads_split old new [] more h = (old, refl, h)
leads_split old new (call ∷ calls) more (next, does, h) = let rest = leads_split next new calls more h in (rest.0, (next, does, rest.1), rest.2)

same_slots : (old new : Registry) (call : Call) → Does old new call → new.slots ≡ old.slots
same_slots old new (Claimed slot) does = does.same_slots
same_slots old new Refused does = ap (λ (r : Registry). r.slots) does.1
same_slots old new (GivenBack slot) does = does.same_slots

all_same_slots : (old new : Registry) (calls : List Call) → LeadsTo old calls new → new.slots ≡ old.slots
all_same_slots old new [] h = ap (λ (r : Registry). r.slots) h
all_same_slots old new (call ∷ calls) (next, does, h) = all_same_slots next new calls h ∙ same_slots old next call does

decide_slot : (s t : Slot) → (s ≡ t) ⊎ (s ≢ t)
decide_slot s t = by (eqb_tells s.claim t.claim) (eqb_tells s.number t.number)
  where
    by : (((s.claim == t.claim) ≡ true) × (s.claim ≡ t.claim)) ⊎ (((s.claim == t.claim) ≡ false) × (s.claim ≢ t.claim)) →
        (((s.number == t.number) ≡ true) × (s.number ≡ t.number)) ⊎ (((s.number == t.number) ≡ false) × (s.number ≢ t.number)) → (s ≡ t) ⊎ (s ≢ t)
    by (inl x) (inl y) = inl (λ i. record { claim = x.1 i; number = y.1 i })
    by (inl x) (inr y) = inr (λ e. y.1 (ap (λ (r : Slot). r.number) e))
    by (inr x) y = inr (λ e. x.1 (ap (λ (r : Slot). r.claim) e))

-- a claimed slot stays claimed until it is given back
stays_claimed : (old new : Registry) (call : Call) (slot : Slot) → Does old new call → IsClaimed old slot → call ≢ GivenBack slot → IsClaimed new slot
stays_claimed old new (Claimed other) slot does h ne =
    ⊎_elim (λ (e : slot ≡ other). subst (IsClaimed new) (sym e) does.claimed) (λ (n : slot ≢ other). (does.others slot n).1 h) (decide_slot slot other)
stays_claimed old new Refused slot does h ne = subst (λ (r : Registry). IsClaimed r slot) (sym does.1) h
stays_claimed old new (GivenBack other) slot does h ne = (does.others slot (λ e. ne (ap GivenBack (sym e)))).1 h

claimed_since : (old new : Registry) (calls : List Call) (slot : Slot) → LeadsTo old calls new → IsClaimed old slot → ¬ Contains calls (GivenBack slot) → IsClaimed new slot
claimed_since old new [] slot h is none = subst (λ (r : Registry). IsClaimed r slot) (sym h) is
claimed_since old new (call ∷ calls) slot (next, does, h) is none =
    claimed_since next new calls slot h
    (stays_claimed old next call slot does is (λ e. none (subst (Contains (call ∷ calls)) e (first_is_there call calls))))
    (λ c. none (Contains-cons call _ calls c))

-- who is claimed was claimed before, or is by this call
was_claimed : (old new : Registry) (call : Call) (slot : Slot) → Does old new call → IsClaimed new slot → (call ≡ Claimed slot) ⊎ (IsClaimed old slot × (call ≢ GivenBack slot))
was_claimed old new (Claimed other) slot does h =
    ⊎_elim (λ (e : slot ≡ other). inl (ap Claimed (sym e))) (λ (n : slot ≢ other). inr ((does.others slot n).0 h, λ e. not_both other slot e)) (decide_slot slot other)
  where
    not_both : (s t : Slot) → Claimed s ≢ GivenBack t
    not_both s t e = cc
was_claimed old new Refused slot does h = inr (subst (λ (r : Registry). IsClaimed r slot) does.1 h, λ e. not_both slot e)
  where
    not_both : (t : Slot) → Refused ≢ GivenBack t
    not_both t e = cc
was_claimed old new (GivenBack other) slot does h =
    ⊎_elim
    (λ (e : slot ≡ other). absurd (does.not_claimed (subst (IsClaimed new) e h)))
    (λ (n : slot ≢ other). inr ((does.others slot n).0 h, λ e. n (same other slot e)))
    (decide_slot slot other)
  where
    same : (s t : Slot) → GivenBack s ≡ GivenBack t → t ≡ s
    same s t e = cc

claimed_by : (old new : Registry) (calls : List Call) (slot : Slot) → LeadsTo old calls new → IsClaimed new slot → IsClaimedAfter calls slot ⊎ (IsClaimed old slot × ¬ Contains calls (GivenBack slot))
claimed_by old new [] slot h is = inr (subst (λ (r : Registry). IsClaimed r slot) h is, none_in_nil (GivenBack slot))
claimed_by old new (call ∷ calls) slot (next, does, h) is =
    ⊎_elim
    (λ (a : IsClaimedAfter calls slot). inl (record { before = call ∷ a.before; since = a.since; split = ap (λ (cs : List Call). call ∷ cs) a.split; not_given_back = a.not_given_back }))
    (λ (o : IsClaimed next slot × ¬ Contains calls (GivenBack slot)). ⊎_elim
    (λ (e : call ≡ Claimed slot). inl (record { before = []; since = calls; split = ap (λ (c : Call). c ∷ calls) e; not_given_back = o.1 }))
    (λ (w : IsClaimed old slot × (call ≢ GivenBack slot)). inr (w.0, λ c. ⊎_elim (λ (e : call ≡ GivenBack slot). w.1 e) o.1 (Contains-cons_cases call _ calls c)))
    (was_claimed old next call slot does o.0))
    (claimed_by next new calls slot h is)

-- what was claimed by a new registry's calls, and not given back, is claimed; and nothing else is
claimed_after : (slots : ℕ) (end : Registry) (calls : List Call) (slot : Slot) → LeadsTo (unclaimed slots) calls end → IsClaimed end slot → IsClaimedAfter calls slot
claimed_after slots end calls slot h is =
    ⊎_elim
    (λ (a : IsClaimedAfter calls slot). a)
    (λ (o : IsClaimed (unclaimed slots) slot × ¬ Contains calls (GivenBack slot)). absurd (none_in_nil slot o.0))
    (claimed_by (unclaimed slots) end calls slot h is)

is_claimed : (slots : ℕ) (end : Registry) (calls : List Call) (slot : Slot) → LeadsTo (unclaimed slots) calls end → IsClaimedAfter calls slot → IsClaimed end slot
is_claimed slots end calls slot h a =
    let parts = leads_split (unclaimed slots) end a.before (Claimed slot ∷ a.since) (subst (λ (cs : List Call). LeadsTo (unclaimed slots) cs end) a.split h) in
    let next = parts.2.0 in
    claimed_since next end a.since slot parts.2.2 parts.2.1.claimed a.not_given_back

within : (old new : Registry) (calls : List Call) (slot : Slot) → LeadsTo old calls new → Contains calls (Claimed slot) → slot.number < old.slots
within old new [] slot h c = absurd (none_in_nil (Claimed slot) c)
within old new (call ∷ calls) slot (next, does, h) c =
    ⊎_elim
    (λ (e : call ≡ Claimed slot). here (subst (Does old next) e does))
    (λ (r : Contains calls (Claimed slot)). subst (λ (n : ℕ). slot.number < n) (same_slots old next call does) (within next new calls slot h r))
    (Contains-cons_cases call _ calls c)
  where
    here : Does old next (Claimed slot) → slot.number < old.slots
    here does = does.within

pub claims_once : (slots : ℕ) (calls : List Call) → IsHistory slots calls → ClaimsOnce slots calls
claims_once slots calls (end, h) = record {
  within = λ slot c. within (unclaimed slots) end calls slot h c;
  once = λ before later slot other e a.
      let parts = leads_split (unclaimed slots) end before (Claimed slot ∷ later) (subst (λ (cs : List Call). LeadsTo (unclaimed slots) cs end) e h) in
      parts.2.1.was_free other (is_claimed slots parts.0 before other parts.1 a);
  refused = λ before later number e low.
      let parts = leads_split (unclaimed slots) end before (Refused ∷ later) (subst (λ (cs : List Call). LeadsTo (unclaimed slots) cs end) e h) in
      let at = parts.0 in
      let full = parts.2.1.0 number (subst (λ (n : ℕ). number < n) (sym (all_same_slots (unclaimed slots) at before parts.1)) low) in
      (full.0, full.1, claimed_after slots at before full.0 parts.1 full.2);
}

-- What a scan of these slots does, of all or grouped: which slot it does not pass, which it loads, how many turns it
-- takes.
use Rattle.std.specs.Prelude.{◌≡◌, ◌≢◌, ◌≤◌, ◌<◌, ℕ, zero, suc, ◌+◌, ◌-◌, ◌*◌, ◌/◌, ◌%◌, ◌==◌, nat_lt, Bool, true, false, if◌then◌else◌, Option, Some, None}
use Rattle.std.proofs.Common.{true≢false, sym, refl, ap, ◌∙◌, subst, arith, ⊎_elim}
use Rattle.std.proofs.lemmas.Bool.Decides.{Decides-ltb, eqb_tells}
use Rattle.gp_memb.specs.declared.plan.Action.{Action}
use Rattle.gp_memb.specs.declared.plan.Action.TheVariants.{Load, LoadGroup, StorePhase, StoreSeq, Finished}
use Rattle.gp_memb.specs.declared.scan.Scan.{Scan}
use Rattle.gp_memb.specs.declared.scan.Look.{Look}
use Rattle.gp_memb.specs.declared.scan.Look.TheVariants.{Group, Slot}
use Rattle.gp_memb.specs.Plan.{bit_of, each_turn, but_slots}
use Rattle.gp_memb.specs.Groups.{groups_of, group_end, first_claimed}
use Rattle.gp_memb.specs.Scan.{scan_of, length_of, look_action, first_look, found_in, in_group, look_behind, scans_on}
use Rattle.gp_memb.specs.lemmas.PlanLemmas.{cost}

-- a claimed slot that is found is one of those that were looked through
claimed_within : (bits from count k : ℕ) → first_claimed bits from count ≡ Some k → (from ≤ k) × (k < from + count)
claimed_within bits from zero k e = absurd (cc)
claimed_within bits from (suc count) k e = by_test (bit_of bits (from % 64)) (claimed_within bits (from + 1) count k) e
  where
    by_test : (b : Bool) → (first_claimed bits (from + 1) count ≡ Some k → (from + 1 ≤ k) × (k < from + 1 + count)) → (if b then Some from else first_claimed bits (from + 1) count) ≡ Some k → (from ≤ k) × (k < from + suc count)
    by_test true rest f = let same : from ≡ k = cc in ((omega arith), (omega arith))
    by_test false rest f = let h = rest f in let h0 = h.0 in let h1 = h.1 in ((omega arith), (omega arith))

-- a slot whose bit is set is not passed
claimed_low : (bits from count slot : ℕ) → from ≤ slot → slot < from + count → bit_of bits (slot % 64) ≡ true → (k : ℕ) × (first_claimed bits from count ≡ Some k) × (k ≤ slot)
claimed_low bits from zero slot low high set = absurd (omega arith)
claimed_low bits from (suc count) slot low high set = by_test (bit_of bits (from % 64)) refl (λ far. claimed_low bits (from + 1) count slot (omega arith) (omega arith) set)
  where
    by_test : (b : Bool) → bit_of bits (from % 64) ≡ b → (from ≢ slot → (k : ℕ) × (first_claimed bits (from + 1) count ≡ Some k) × (k ≤ slot)) → (k : ℕ) × ((if b then Some from else first_claimed bits (from + 1) count) ≡ Some k) × (k ≤ slot)
    by_test true f rest = (from, refl, low)
    by_test false f rest = rest (λ e. true≢false (sym set ∙ (ap (λ n. bit_of bits (n % 64)) (sym e) ∙ f)))

-- a fact of what a test chooses
by_less : {A : Type 0} (Fact : A → Type 0) (a b : ℕ) (x y : A) → (a < b → Fact x) → (¬ (a < b) → Fact y) → Fact (if nat_lt a b then x else y)
by_less {A} Fact a b x y then_x else_y = by_test (nat_lt a b) (Decides-ltb a b)
  where
    by_test : (t : Bool) → ((t ≡ true → a < b) × (a < b → t ≡ true)) → Fact (if t then x else y)
    by_test true tells = then_x (tells.0 refl)
    by_test false tells = else_y (λ less. true≢false (sym (tells.1 less)))

-- a fact of what a scan finds in a group from one of its slots on, from one of each claimed slot there, one of the next
-- group, and one of the scan's end
found_is : (Fact : Option Look → Type 0) (slots group bits from : ℕ) → 64 * group ≤ from →
    ((k : ℕ) → first_claimed bits from (group_end slots group - from) ≡ Some k → from ≤ k → k < slots → k / 64 ≡ group → Fact (Some (Slot k bits))) →
    (first_claimed bits from (group_end slots group - from) ≡ None → 64 * group + 64 < slots → Fact (Some (Group (group + 1)))) →
    (first_claimed bits from (group_end slots group - from) ≡ None → slots ≤ 64 * group + 64 → Fact None) → Fact (in_group slots group bits from)
found_is Fact slots group bits from up to_slot to_group to_end = by_found (first_claimed bits from (group_end slots group - from)) refl
  where
    by_found : (found : Option ℕ) → first_claimed bits from (group_end slots group - from) ≡ found → Fact (found_in slots group bits found)
    by_found None e = by_less Fact (64 * group + 64) slots (Some (Group (group + 1))) None (λ less. to_group e less) (λ none. to_end e (omega arith))
    by_found (Some k) e =
        let w = claimed_within bits from (group_end slots group - from) k e in
        let w0 = w.0 in
        let w1 = w.1 in to_slot k e (omega arith) (omega arith) (omega arith)

-- a fact of where a scan begins
first_is : (Fact : Option Look → Type 0) (slots : ℕ) (look : Look) → (slots ≡ 0 → Fact None) → (slots ≢ 0 → Fact (Some look)) → Fact (if slots == 0 then None else Some look)
first_is Fact slots look none some =
    ⊎_elim
    (λ (y : ((slots == 0) ≡ true) × (slots ≡ 0)). subst (λ b. Fact (if b then None else Some look)) (sym y.0) (none y.1))
    (λ (n : ((slots == 0) ≡ false) × (slots ≢ 0)). subst (λ b. Fact (if b then None else Some look)) (sym n.0) (some n.1))
    (eqb_tells slots 0)

-- the scan has not passed this slot, and the bits of the slot's group, where they were loaded, have its bit set
abbrev pub IsAhead : Bool → ℕ → Look → Type 0
IsAhead grouped slot (Group g) = (grouped ≡ true) × (64 * g ≤ slot)
IsAhead grouped slot (Slot k bits) = (k ≤ slot) × (grouped ≡ true → slot / 64 ≡ k / 64 → bit_of bits (slot % 64) ≡ true)

abbrev pub AreAhead : Bool → ℕ → Option Look → Type 0
AreAhead grouped slot None = ⊥
AreAhead grouped slot (Some look) = IsAhead grouped slot look

-- a look that leads on to the slot: its group's word had the slot's bit, or it was of another slot
abbrev pub LeadsOn : ℕ → Look → ℕ → Type 0
LeadsOn slot (Group g) word = g ≡ slot / 64 → bit_of word (slot % 64) ≡ true
LeadsOn slot (Slot k bits) word = k ≢ slot

pub ahead_first : (slots : ℕ) (grouped : Bool) (slot : ℕ) → slot < slots → AreAhead grouped slot (first_look (scan_of slots grouped))
ahead_first slots true slot within = first_is (AreAhead true slot) slots (Group 0) (λ none. absurd (omega arith)) (λ some. (refl, omega arith))
ahead_first slots false slot within =
    first_is (AreAhead false slot) slots (Slot 0 0) (λ none. absurd (omega arith)) (λ some. ((omega arith), λ never. absurd (true≢false (sym never))))

ahead_in : (slots group bits from slot : ℕ) → 64 * group ≤ from → from ≤ slot → slot < slots → (slot / 64 ≡ group → bit_of bits (slot % 64) ≡ true) →
    AreAhead true slot (in_group slots group bits from)
ahead_in slots group bits from slot up low within set =
    ⊎_elim
    (λ (y : ((slot / 64 == group) ≡ true) × (slot / 64 ≡ group)).
    let here = y.1 in
    let h = claimed_low bits from (group_end slots group - from) slot low (omega arith) (set y.1) in
    subst (λ found. AreAhead true slot (found_in slots group bits found)) (sym h.1) (h.2, λ _ _. set y.1))
    (λ (n : ((slot / 64 == group) ≡ false) × (slot / 64 ≢ group)).
    let other = n.1 in
    found_is (AreAhead true slot) slots group bits from up
    (λ k e from_on there in_it. ((omega arith), λ _ same. absurd (other (same ∙ in_it))))
    (λ _ more. (refl, omega arith))
    (λ _ last. absurd (omega arith)))
    (eqb_tells (slot / 64) group)

pub ahead_behind : (slots : ℕ) (grouped : Bool) (slot : ℕ) (look : Look) (word : ℕ) → slot < slots → IsAhead grouped slot look → LeadsOn slot look word →
    AreAhead grouped slot (look_behind (scan_of slots grouped) look word)
ahead_behind slots true slot (Group g) word within ahead leads = ahead_in slots g word (64 * g) slot (omega arith) ahead.1 within (λ same. leads (sym same))
ahead_behind slots true slot (Slot k bits) word within ahead leads =
    let low = ahead.0 in ahead_in slots (k / 64) bits (k + 1) slot (omega arith) (omega arith) within (ahead.1 refl)
ahead_behind slots false slot (Group g) word within ahead leads = absurd (true≢false (sym ahead.0))
ahead_behind slots false slot (Slot k bits) word within ahead leads =
    let low = ahead.0 in
    by_less (AreAhead false slot) (k + 1) slots (Some (Slot (k + 1) 0)) None
    (λ less. ((omega arith), λ never. absurd (true≢false (sym never))))
    (λ last. absurd (omega arith))

-- what is loaded is there
abbrev pub IsThere : ℕ → Bool → Look → Type 0
IsThere slots grouped (Group g) = (grouped ≡ true) × (64 * g < slots)
IsThere slots grouped (Slot k bits) = k < slots

abbrev pub AreThere : ℕ → Bool → Option Look → Type 0
AreThere slots grouped None = Unit {0}
AreThere slots grouped (Some look) = IsThere slots grouped look

pub there_first : (slots : ℕ) (grouped : Bool) → AreThere slots grouped (first_look (scan_of slots grouped))
there_first slots true = first_is (AreThere slots true) slots (Group 0) (λ none. tt) (λ some. (refl, omega arith))
there_first slots false = first_is (AreThere slots false) slots (Slot 0 0) (λ none. tt) (λ some. omega arith)

there_in : (slots group bits from : ℕ) → 64 * group ≤ from → AreThere slots true (in_group slots group bits from)
there_in slots group bits from up = found_is (AreThere slots true) slots group bits from up (λ k e from_on there in_it. there) (λ _ more. (refl, omega arith)) (λ _ last. tt)

pub there_behind : (slots : ℕ) (grouped : Bool) (look : Look) (word : ℕ) → IsThere slots grouped look → AreThere slots grouped (look_behind (scan_of slots grouped) look word)
there_behind slots true (Group g) word there = there_in slots g word (64 * g) (omega arith)
there_behind slots true (Slot k bits) word there = there_in slots (k / 64) bits (k + 1) (omega arith)
there_behind slots false (Group g) word there = absurd (true≢false (sym there.0))
there_behind slots false (Slot k bits) word there = by_less (AreThere slots false) (k + 1) slots (Some (Slot (k + 1) 0)) None (λ less. less) (λ last. tt)

-- which turns of a scan count: each, or, where it is grouped, each but the loads of slots
abbrev pub counted : Bool → Action → Bool
counted false = each_turn
counted true = but_slots

-- how many turns that count are left of a scan
abbrev pub left_of : ℕ → Bool → Option Look → ℕ
left_of slots grouped None = 0
left_of slots grouped (Some (Group g)) = groups_of slots - g
left_of slots false (Some (Slot k bits)) = slots - k
left_of slots true (Some (Slot k bits)) = groups_of slots - (k / 64 + 1)

pub left_first : (slots : ℕ) (grouped : Bool) → left_of slots grouped (first_look (scan_of slots grouped)) ≡ length_of (scan_of slots grouped)
left_first slots true = first_is (λ found. left_of slots true found ≡ groups_of slots) slots (Group 0) (λ none. omega arith) (λ some. omega arith)
left_first slots false = first_is (λ found. left_of slots false found ≡ slots) slots (Slot 0 0) (λ none. omega arith) (λ some. omega arith)

left_in : (slots group bits from : ℕ) → 64 * group ≤ from → 64 * group < slots → left_of slots true (in_group slots group bits from) + 1 ≡ groups_of slots - group
left_in slots group bits from up there =
    found_is (λ found. left_of slots true found + 1 ≡ groups_of slots - group) slots group bits from up
    (λ k e from_on within in_it. omega arith) (λ _ more. omega arith) (λ _ last. omega arith)

pub left_behind : (slots : ℕ) (grouped : Bool) (look : Look) (word : ℕ) → IsThere slots grouped look →
    left_of slots grouped (look_behind (scan_of slots grouped) look word) + cost (counted grouped) (look_action look) ≡ left_of slots grouped (Some look)
left_behind slots true (Group g) word there = left_in slots g word (64 * g) (omega arith) there.1
left_behind slots true (Slot k bits) word there = let one = left_in slots (k / 64) bits (k + 1) (omega arith) (omega arith) in omega arith
left_behind slots false (Group g) word there = absurd (true≢false (sym there.0))
left_behind slots false (Slot k bits) word there =
    by_less (λ found. left_of slots false found + 1 ≡ slots - k) (k + 1) slots (Some (Slot (k + 1) 0)) None (λ less. omega arith) (λ last. omega arith)

-- a fact of where a plan goes on to in a scan, or behind it
pub scans_on_is : {Place : Type 0} (Fact : Place → Type 0) (scan : Look → Place) (last : Place) (found : Option Look) → ((look : Look) → Fact (scan look)) → Fact last → Fact (scans_on scan last found)
scans_on_is Fact scan last None each ends = ends
scans_on_is Fact scan last (Some look) each ends = each look

-- a look is no store, and not the end
pub look_not_store : (look : Look) (value : ℕ) → look_action look ≢ StoreSeq value
look_not_store (Group g) value e = cc
look_not_store (Slot k bits) value e = cc

pub look_not_end : (look : Look) → look_action look ≢ Finished
look_not_end (Group g) e = cc
look_not_end (Slot k bits) e = cc

-- each store counts
pub store_cost : (grouped : Bool) (value : ℕ) → (cost (counted grouped) (StoreSeq value) ≡ 1) × (cost (counted grouped) (StorePhase value) ≡ 1)
store_cost true value = (refl, refl)
store_cost false value = (refl, refl)

-- a look that is there loads a slot or a group that is there, and a group word only where the scan is grouped
pub look_within : (scan : Scan) (look : Look) → IsThere scan.slots scan.grouped look → ((slot : ℕ) → look_action look ≡ Load slot → slot < scan.slots) × ((group : ℕ) → look_action look ≡ LoadGroup group → (scan.grouped ≡ true) × (64 * group < scan.slots))
look_within scan (Group g) there = ((λ slot e. absurd (cc)), (λ group e. let same : g ≡ group = cc in (there.0, subst (λ n. 64 * n < scan.slots) same there.1)))
look_within scan (Slot k bits) there = ((λ slot e. let same : k ≡ slot = cc in subst (λ n. n < scan.slots) same there), (λ group e. absurd (cc)))

-- What the plan of two flips stores, which words it loads, and when it is finished.
use Rattle.std.specs.Prelude.{◌≡◌, ◌≢◌, ◌↔◌, ℕ, ◌+◌, ◌-◌, ◌*◌, ◌==◌, ◌<◌, ◌≤◌, Bool, true, false, not, ◌&&◌, if◌then◌else◌, List, ◌∷◌, Option, Some, None, refl}
use Rattle.std.proofs.Common.{sym, ap, ◌∙◌, subst, arith, true≢false}
use Rattle.reader_word.specs.declared.layout.Layout.{Layout}
use Rattle.reader_word.specs.Word.{number, stands}
use Rattle.gp_memb.specs.declared.plan.Action.{Action}
use Rattle.gp_memb.specs.declared.plan.Action.TheVariants.{Load, LoadGroup, StorePhase, StoreSeq, Finished}
use Rattle.gp_memb.specs.declared.plan.Turn.TheVariants.{Step, Wait}
use Rattle.gp_memb.specs.declared.scan.Scan.{Scan}
use Rattle.gp_memb.specs.declared.scan.Look.{Look}
use Rattle.gp_memb.specs.declared.scan.Look.TheVariants.{Group, Slot}
use Rattle.gp_memb.specs.declared.memb.MembPlan.{MembPlan}
use Rattle.gp_memb.specs.declared.memb.Place.{Place}
use Rattle.gp_memb.specs.declared.memb.Place.TheVariants.{StoreOdd, Flip, FirstScan, FlipBack, SecondScan, StoreEven, Done}
use Rattle.gp_memb.specs.Plan.{after_loads, StoresInOrder, IsPresent, MayStore, after_turn, FinishesAfter, turn_count}
use Rattle.gp_memb.specs.Scan.{scan_of, length_of, is_slot_of, look_action, first_look, look_behind, scans_on}
use Rattle.gp_memb.specs.Memb.{memb_begun, memb_action, action_at, memb_moved, moved_at, memb_taken, memb_turn, memb_turn_at, memb_present, scan_turn}
use Rattle.gp_memb.specs.lemmas.PlanLemmas.{lasts_by, finishes_by, cost}
use Rattle.gp_memb.specs.lemmas.ScanLemmas.{AreThere, IsThere, there_first, there_behind, look_within, counted, left_of, left_first, left_behind, scans_on_is, look_not_store, look_not_end, store_cost}

-- a phase as a number, and back
pub number-back : (b : Bool) → (number b == 1) ≡ b
number-back true = refl
number-back false = refl

number-bound : (b : Bool) → number b ≤ 1
number-bound true = omega arith
number-bound false = omega arith

-- what stays as it was at the start
record Keeps (slots : ℕ) (grouped : Bool) (seq : ℕ) (plan : MembPlan) : Type 0 where
  scan : plan.scan ≡ scan_of slots grouped
  odd : plan.odd ≡ seq + 1
  even : plan.even ≡ seq + 2

keeps_at : (slots : ℕ) (grouped : Bool) (seq : ℕ) (plan : MembPlan) (place : Place) (word : ℕ) → Keeps slots grouped seq plan → Keeps slots grouped seq (moved_at plan place word)
keeps_at slots grouped seq plan StoreOdd word k = record { scan = k.scan; odd = k.odd; even = k.even }
keeps_at slots grouped seq plan Flip word k = record { scan = k.scan; odd = k.odd; even = k.even }
keeps_at slots grouped seq plan (FirstScan look) word k = record { scan = k.scan; odd = k.odd; even = k.even }
keeps_at slots grouped seq plan FlipBack word k = record { scan = k.scan; odd = k.odd; even = k.even }
keeps_at slots grouped seq plan (SecondScan look) word k = record { scan = k.scan; odd = k.odd; even = k.even }
keeps_at slots grouped seq plan StoreEven word k = record { scan = k.scan; odd = k.odd; even = k.even }
keeps_at slots grouped seq plan Done word k = k

keeps : (layout : Layout) (grouped : Bool) (slots seq : ℕ) (phase : Bool) (words : List ℕ) → Keeps slots grouped seq (after_loads memb_taken (memb_begun layout grouped slots seq phase) words)
keeps layout grouped slots seq phase words =
    lasts_by memb_turn memb_moved (Keeps slots grouped seq) (λ p w k. keeps_at slots grouped seq p p.place w k)
    (memb_begun layout grouped slots seq phase) words (record { scan = refl; odd = refl; even = refl })

-- where a plan is that has taken its first turn
abbrev IsUnderWay : Place → Type 0
IsUnderWay StoreOdd = ⊥
IsUnderWay Flip = Unit {0}
IsUnderWay (FirstScan look) = Unit {0}
IsUnderWay FlipBack = Unit {0}
IsUnderWay (SecondScan look) = Unit {0}
IsUnderWay StoreEven = Unit {0}
IsUnderWay Done = Unit {0}

under_way_at : (plan : MembPlan) (place : Place) (word : ℕ) → plan.place ≡ place → IsUnderWay ((moved_at plan place word).place)
under_way_at plan StoreOdd word is = tt
under_way_at plan Flip word is = scans_on_is IsUnderWay FirstScan FlipBack (first_look plan.scan) (λ _. tt) tt
under_way_at plan (FirstScan look) word is = scans_on_is IsUnderWay FirstScan FlipBack (look_behind plan.scan look word) (λ _. tt) tt
under_way_at plan FlipBack word is = scans_on_is IsUnderWay SecondScan StoreEven (first_look plan.scan) (λ _. tt) tt
under_way_at plan (SecondScan look) word is = scans_on_is IsUnderWay SecondScan StoreEven (look_behind plan.scan look word) (λ _. tt) tt
under_way_at plan StoreEven word is = tt
under_way_at plan Done word is = subst IsUnderWay (sym is) tt

second_at : (slots : ℕ) (grouped : Bool) (seq : ℕ) (plan : MembPlan) (place : Place) (value : ℕ) → IsUnderWay place → Keeps slots grouped seq plan → action_at plan place ≡ StoreSeq value → value ≡ seq + 2
second_at slots grouped seq plan StoreOdd value u k e = absurd u
second_at slots grouped seq plan Flip value u k e = absurd (cc)
second_at slots grouped seq plan (FirstScan look) value u k e = absurd (look_not_store look value e)
second_at slots grouped seq plan FlipBack value u k e = absurd (cc)
second_at slots grouped seq plan (SecondScan look) value u k e = absurd (look_not_store look value e)
second_at slots grouped seq plan StoreEven value u k e = cc (k.even)
second_at slots grouped seq plan Done value u k e = absurd (cc)

abbrev IsLast : ℕ → MembPlan → Action → Type 0
IsLast seq next action = (memb_action next ≡ Finished) ↔ (action ≡ StoreSeq (seq + 2))

-- a scan does not end the plan
scan_goes_on : (seq : ℕ) (plan next : MembPlan) (look : Look) (word : ℕ) → memb_action plan ≡ look_action look → memb_action next ≢ Finished → IsLast seq (after_turn next plan (scan_turn plan look word)) (look_action look)
scan_goes_on seq plan next look word does open' = by_test (is_slot_of look && stands plan.layout word plan.phase)
  where
    by_test : (b : Bool) → IsLast seq (after_turn next plan (if b then Wait else Step)) (look_action look)
    by_test true = ((λ e. absurd (look_not_end look (sym does ∙ e))), (λ e. absurd (look_not_store look (seq + 2) e)))
    by_test false = ((λ e. absurd (open' e)), (λ e. absurd (look_not_store look (seq + 2) e)))

-- nor does the flip before it
first_open : (plan : MembPlan) (found : Option Look) → action_at plan (scans_on FirstScan FlipBack found) ≢ Finished
first_open plan found = scans_on_is (λ place. action_at plan place ≢ Finished) FirstScan FlipBack found look_not_end (λ e. cc)

second_open : (plan : MembPlan) (found : Option Look) → action_at plan (scans_on SecondScan StoreEven found) ≢ Finished
second_open plan found = scans_on_is (λ place. action_at plan place ≢ Finished) SecondScan StoreEven found look_not_end (λ e. cc)

last_at : (slots : ℕ) (grouped : Bool) (seq : ℕ) (plan : MembPlan) (place : Place) (word : ℕ) → plan.place ≡ place → Keeps slots grouped seq plan → action_at plan place ≢ Finished → IsLast seq (after_turn (moved_at plan place word) plan (memb_turn_at plan place word)) (action_at plan place)
last_at slots grouped seq plan StoreOdd word is k open' = ((λ e. absurd (cc)), (λ e. absurd (odd_again e)))
  where
    odd_again : StoreSeq plan.odd ≡ StoreSeq (seq + 2) → ⊥
    odd_again e = let same : plan.odd ≡ seq + 2 = cc in omega (arith, k.odd, same)
last_at slots grouped seq plan Flip word is k open' = ((λ e. absurd (first_open (record plan { phase = not plan.phase }) (first_look plan.scan) e)), (λ e. absurd (cc)))
last_at slots grouped seq plan (FirstScan look) word is k open' =
    scan_goes_on seq plan (moved_at plan (FirstScan look) word) look word (ap (action_at plan) is) (first_open plan (look_behind plan.scan look word))
last_at slots grouped seq plan FlipBack word is k open' = ((λ e. absurd (second_open (record plan { phase = not plan.phase }) (first_look plan.scan) e)), (λ e. absurd (cc)))
last_at slots grouped seq plan (SecondScan look) word is k open' =
    scan_goes_on seq plan (moved_at plan (SecondScan look) word) look word (ap (action_at plan) is) (second_open plan (look_behind plan.scan look word))
last_at slots grouped seq plan StoreEven word is k open' = ((λ e. ap StoreSeq k.even), (λ e. refl))
last_at slots grouped seq plan Done word is k open' = absurd (open' refl)

order_of_begun : (layout : Layout) (grouped : Bool) (slots seq : ℕ) (phase : Bool) → StoresInOrder memb_action memb_taken seq (memb_begun layout grouped slots seq phase)
order_of_begun layout grouped slots seq phase = record {
  first = refl;
  second = λ word value words e.
      let p = after_loads memb_taken (memb_begun layout grouped slots seq phase) (word ∷ words) in
      second_at slots grouped seq p p.place value
      (lasts_by memb_turn memb_moved (λ q. IsUnderWay q.place) (λ q w u. under_way_at q q.place w refl) (memb_taken (memb_begun layout grouped slots seq phase) word) words tt)
      (keeps layout grouped slots seq phase (word ∷ words)) e;
  last = λ words word not_done.
      let p = after_loads memb_taken (memb_begun layout grouped slots seq phase) words in
      last_at slots grouped seq p p.place word refl (keeps layout grouped slots seq phase words) not_done;
}

pub memb_order : (layout : Layout) (grouped : Bool) (slots seq word : ℕ) (plan : MembPlan) → plan ≡ memb_begun layout grouped slots seq (word == 1) → StoresInOrder memb_action memb_taken seq plan
memb_order layout grouped slots seq word plan begun =
    subst (λ p. StoresInOrder memb_action memb_taken seq p) (sym begun) (order_of_begun layout grouped slots seq (word == 1))

-- a scan is at a slot or a group that is there
abbrev IsWithin : Scan → Place → Type 0
IsWithin scan StoreOdd = Unit {0}
IsWithin scan Flip = Unit {0}
IsWithin scan (FirstScan look) = IsThere scan.slots scan.grouped look
IsWithin scan FlipBack = Unit {0}
IsWithin scan (SecondScan look) = IsThere scan.slots scan.grouped look
IsWithin scan StoreEven = Unit {0}
IsWithin scan Done = Unit {0}

first_within : (scan : Scan) (found : Option Look) → AreThere scan.slots scan.grouped found → IsWithin scan (scans_on FirstScan FlipBack found)
first_within scan None there = tt
first_within scan (Some look) there = there

second_within : (scan : Scan) (found : Option Look) → AreThere scan.slots scan.grouped found → IsWithin scan (scans_on SecondScan StoreEven found)
second_within scan None there = tt
second_within scan (Some look) there = there

record Scans (scan : Scan) (plan : MembPlan) : Type 0 where
  same : plan.scan ≡ scan
  within : IsWithin plan.scan plan.place

scans_at : (scan : Scan) (plan : MembPlan) (place : Place) (word : ℕ) → plan.scan ≡ scan → plan.place ≡ place → IsWithin plan.scan place → Scans scan (moved_at plan place word)
scans_at scan plan StoreOdd word same is w = record { same = same; within = tt }
scans_at scan plan Flip word same is w = record { same = same; within = first_within plan.scan (first_look plan.scan) (there_first plan.scan.slots plan.scan.grouped) }
scans_at scan plan (FirstScan look) word same is w =
    record { same = same; within = first_within plan.scan (look_behind plan.scan look word) (there_behind plan.scan.slots plan.scan.grouped look word w) }
scans_at scan plan FlipBack word same is w = record { same = same; within = second_within plan.scan (first_look plan.scan) (there_first plan.scan.slots plan.scan.grouped) }
scans_at scan plan (SecondScan look) word same is w =
    record { same = same; within = second_within plan.scan (look_behind plan.scan look word) (there_behind plan.scan.slots plan.scan.grouped look word w) }
scans_at scan plan StoreEven word same is w = record { same = same; within = tt }
scans_at scan plan Done word same is w = record { same = same; within = subst (IsWithin plan.scan) (sym is) tt }

scans : (layout : Layout) (grouped : Bool) (slots seq word : ℕ) (plan : MembPlan) → plan ≡ memb_begun layout grouped slots seq (word == 1) → (loads : List ℕ) → Scans (scan_of slots grouped) (after_loads memb_taken plan loads)
scans layout grouped slots seq word plan begun loads =
    lasts_by memb_turn memb_moved (Scans (scan_of slots grouped)) (λ p w s. scans_at (scan_of slots grouped) p p.place w s.same refl s.within) plan loads
    (subst (Scans (scan_of slots grouped)) (sym begun) (record { same = refl; within = tt }))

within_at : (plan : MembPlan) (place : Place) → IsWithin plan.scan place → ((slot : ℕ) → action_at plan place ≡ Load slot → slot < plan.scan.slots) × ((group : ℕ) → action_at plan place ≡ LoadGroup group → (plan.scan.grouped ≡ true) × (64 * group < plan.scan.slots))
within_at plan StoreOdd w = ((λ slot e. absurd (cc)), (λ group e. absurd (cc)))
within_at plan Flip w = ((λ slot e. absurd (cc)), (λ group e. absurd (cc)))
within_at plan (FirstScan look) w = look_within plan.scan look w
within_at plan FlipBack w = ((λ slot e. absurd (cc)), (λ group e. absurd (cc)))
within_at plan (SecondScan look) w = look_within plan.scan look w
within_at plan StoreEven w = ((λ slot e. absurd (cc)), (λ group e. absurd (cc)))
within_at plan Done w = ((λ slot e. absurd (cc)), (λ group e. absurd (cc)))

pub memb_in_range : (layout : Layout) (grouped : Bool) (slots seq word : ℕ) (plan : MembPlan) → plan ≡ memb_begun layout grouped slots seq (word == 1) →
    (loads : List ℕ) (slot : ℕ) → memb_action (after_loads memb_taken plan loads) ≡ Load slot → slot < slots
memb_in_range layout grouped slots seq word plan begun loads slot e =
    let p = after_loads memb_taken plan loads in
    let s = scans layout grouped slots seq word plan begun loads in
    subst (λ (scan : Scan). slot < scan.slots) s.same ((within_at p p.place s.within).0 slot e)

pub memb_in_groups : (layout : Layout) (grouped : Bool) (slots seq word : ℕ) (plan : MembPlan) → plan ≡ memb_begun layout grouped slots seq (word == 1) →
    (loads : List ℕ) (group : ℕ) → memb_action (after_loads memb_taken plan loads) ≡ LoadGroup group → 64 * group < slots
memb_in_groups layout grouped slots seq word plan begun loads group e =
    let p = after_loads memb_taken plan loads in
    let s = scans layout grouped slots seq word plan begun loads in
    subst (λ (scan : Scan). 64 * group < scan.slots) s.same ((within_at p p.place s.within).1 group e).1

-- a plan that is not grouped loads no group word
pub memb_loads_no_group : (layout : Layout) (slots seq word : ℕ) (plan : MembPlan) → plan ≡ memb_begun layout false slots seq (word == 1) →
    (loads : List ℕ) (group : ℕ) → memb_action (after_loads memb_taken plan loads) ≢ LoadGroup group
memb_loads_no_group layout slots seq word plan begun loads group e =
    let p = after_loads memb_taken plan loads in
    let s = scans layout false slots seq word plan begun loads in
    true≢false (sym ((within_at p p.place s.within).1 group e).0 ∙ ap (λ (scan : Scan). scan.grouped) s.same)

stored_at : (plan : MembPlan) (place : Place) (value : ℕ) → action_at plan place ≡ StorePhase value → value ≤ 1
stored_at plan StoreOdd value e = absurd (cc)
stored_at plan Flip value e = let same : number (not plan.phase) ≡ value = cc in subst (λ n. n ≤ 1) same (number-bound (not plan.phase))
stored_at plan (FirstScan (Group g)) value e = absurd (cc)
stored_at plan (FirstScan (Slot k bits)) value e = absurd (cc)
stored_at plan FlipBack value e = let same : number (not plan.phase) ≡ value = cc in subst (λ n. n ≤ 1) same (number-bound (not plan.phase))
stored_at plan (SecondScan (Group g)) value e = absurd (cc)
stored_at plan (SecondScan (Slot k bits)) value e = absurd (cc)
stored_at plan StoreEven value e = absurd (cc)
stored_at plan Done value e = absurd (cc)

pub memb_stores : (layout : Layout) (grouped : Bool) (slots seq word : ℕ) (plan : MembPlan) → plan ≡ memb_begun layout grouped slots seq (word == 1) →
    (loads : List ℕ) (value : ℕ) → memb_action (after_loads memb_taken plan loads) ≡ StorePhase value → MayStore false word value
memb_stores layout grouped slots seq word plan begun loads value e = let p = after_loads memb_taken plan loads in stored_at p p.place value e

-- 0 and 1 are the numbers of phases
number-of-present : (word : ℕ) → word ≤ 1 → number (word == 1) ≡ word
number-of-present word low = grind arith

pub memb_begins : (layout : Layout) (grouped : Bool) (slots seq word : ℕ) (plan : MembPlan) → plan ≡ memb_begun layout grouped slots seq (word == 1) → IsPresent false word → memb_present plan ≡ word
memb_begins layout grouped slots seq word plan begun low = ap memb_present begun ∙ number-of-present word low

pub memb_begins_layout : (layout : Layout) (grouped : Bool) (slots seq word : ℕ) (plan : MembPlan) → plan ≡ memb_begun layout grouped slots seq (word == 1) → false ≡ false → plan.layout ≡ layout
memb_begins_layout layout grouped slots seq word plan begun _ = ap (λ p. p.layout) begun

-- the turns that are left
abbrev rest_at : Scan → Place → ℕ
rest_at scan StoreOdd = 2 * length_of scan + 4
rest_at scan Flip = 2 * length_of scan + 3
rest_at scan (FirstScan look) = left_of scan.slots scan.grouped (Some look) + length_of scan + 2
rest_at scan FlipBack = length_of scan + 2
rest_at scan (SecondScan look) = left_of scan.slots scan.grouped (Some look) + 1
rest_at scan StoreEven = 1
rest_at scan Done = 0

rest_first : (scan : Scan) (found : Option Look) → rest_at scan (scans_on FirstScan FlipBack found) ≡ left_of scan.slots scan.grouped found + length_of scan + 2
rest_first scan None = omega arith
rest_first scan (Some look) = refl

rest_second : (scan : Scan) (found : Option Look) → rest_at scan (scans_on SecondScan StoreEven found) ≡ left_of scan.slots scan.grouped found + 1
rest_second scan None = omega arith
rest_second scan (Some look) = refl

falls_at : (plan : MembPlan) (place : Place) (word : ℕ) → plan.place ≡ place → IsWithin plan.scan place →
    rest_at ((moved_at plan place word).scan) ((moved_at plan place word).place) ≡ rest_at plan.scan place - cost (counted plan.scan.grouped) (action_at plan place)
falls_at plan StoreOdd word is w = let one = (store_cost plan.scan.grouped plan.odd).0 in omega arith
falls_at plan Flip word is w =
    let one = (store_cost plan.scan.grouped (number (not plan.phase))).1 in
    let rest = rest_first plan.scan (first_look plan.scan) in
    let all = left_first plan.scan.slots plan.scan.grouped in omega arith
falls_at plan (FirstScan look) word is w =
    let rest = rest_first plan.scan (look_behind plan.scan look word) in
    let less = left_behind plan.scan.slots plan.scan.grouped look word w in omega arith
falls_at plan FlipBack word is w =
    let one = (store_cost plan.scan.grouped (number (not plan.phase))).1 in
    let rest = rest_second plan.scan (first_look plan.scan) in
    let all = left_first plan.scan.slots plan.scan.grouped in omega arith
falls_at plan (SecondScan look) word is w =
    let rest = rest_second plan.scan (look_behind plan.scan look word) in
    let less = left_behind plan.scan.slots plan.scan.grouped look word w in omega arith
falls_at plan StoreEven word is w = let one = (store_cost plan.scan.grouped plan.even).0 in omega arith
falls_at plan Done word is w = let none : rest_at plan.scan plan.place ≡ 0 = ap (rest_at plan.scan) is in omega arith

ends_at : (plan : MembPlan) (place : Place) → (action_at plan place ≡ Finished) ↔ (rest_at plan.scan place ≡ 0)
ends_at plan StoreOdd = ((λ e. absurd (cc)), (λ e. absurd (omega arith)))
ends_at plan Flip = ((λ e. absurd (cc)), (λ e. absurd (omega arith)))
ends_at plan (FirstScan look) = ((λ e. absurd (look_not_end look e)), (λ e. absurd (omega arith)))
ends_at plan FlipBack = ((λ e. absurd (cc)), (λ e. absurd (omega arith)))
ends_at plan (SecondScan look) = ((λ e. absurd (look_not_end look e)), (λ e. absurd (omega arith)))
ends_at plan StoreEven = ((λ e. absurd (cc)), (λ e. absurd (omega arith)))
ends_at plan Done = ((λ e. refl), (λ e. refl))

pub memb_finishes : (layout : Layout) (grouped : Bool) (slots seq : ℕ) (phase : Bool) →
    FinishesAfter memb_action memb_turn memb_taken (counted grouped) (memb_begun layout grouped slots seq phase) (turn_count false (length_of (scan_of slots grouped)))
memb_finishes layout grouped slots seq phase words =
    finishes_by memb_action memb_turn memb_moved (counted grouped) (Scans (scan_of slots grouped)) (λ p. rest_at p.scan p.place)
    (λ p w s. scans_at (scan_of slots grouped) p p.place w s.same refl s.within)
    (λ p w s. subst (λ (scan : Scan). rest_at ((memb_moved p w).scan) ((memb_moved p w).place) ≡ rest_at p.scan p.place - cost (counted scan.grouped) (memb_action p)) s.same (falls_at p p.place w refl s.within))
    (λ p s. ends_at p p.place)
    (memb_begun layout grouped slots seq phase) words (record { same = refl; within = tt })

-- What the plan of the quiescent-state flavour stores, which words it loads, and when it is finished.
use Rattle.std.specs.Prelude.{◌≡◌, ◌≢◌, ◌↔◌, ℕ, ◌+◌, ◌-◌, ◌*◌, ◌<◌, Bool, true, false, ◌&&◌, if◌then◌else◌, List, ◌∷◌, Option, Some, None, refl}
use Rattle.std.proofs.Common.{sym, ap, ◌∙◌, subst, arith, true≢false}
use Rattle.reader_word.specs.declared.layout.Layout.{Layout}
use Rattle.reader_word.specs.Quiescent.{qs_stands}
use Rattle.gp_memb.specs.declared.plan.Action.{Action}
use Rattle.gp_memb.specs.declared.plan.Action.TheVariants.{Load, LoadGroup, StoreSeq, Finished}
use Rattle.gp_memb.specs.declared.plan.Turn.TheVariants.{Step, Wait}
use Rattle.gp_memb.specs.declared.scan.Scan.{Scan}
use Rattle.gp_memb.specs.declared.scan.Look.{Look}
use Rattle.gp_memb.specs.Plan.{after_loads, StoresInOrder, after_turn, FinishesAfter, turn_count}
use Rattle.gp_memb.specs.Scan.{scan_of, length_of, is_slot_of, look_action, first_look, look_behind, scans_on}
use Rattle.gp_memb.specs.lemmas.PlanLemmas.{lasts_by, finishes_by, cost}
use Rattle.gp_memb.specs.lemmas.ScanLemmas.{AreThere, IsThere, there_first, there_behind, look_within, counted, left_of, left_first, left_behind, scans_on_is, look_not_store, look_not_end, store_cost}
use Rattle.gp_qsbr.specs.declared.qsbr.QsbrPlan.{QsbrPlan}
use Rattle.gp_qsbr.specs.declared.qsbr.Place.{Place}
use Rattle.gp_qsbr.specs.declared.qsbr.Place.TheVariants.{StoreOdd, Raise, Scans, StoreEven, Done}
use Rattle.gp_qsbr.specs.Qsbr.{qsbr_begun, qsbr_action, action_at, qsbr_moved, moved_at, qsbr_taken, qsbr_turn, turn_of}

-- what stays as it was at the start
pub record Keeps (scan : Scan) (seq num : ℕ) (plan : QsbrPlan) : Type 0 where
  pub same : plan.scan ≡ scan
  pub odd : plan.odd ≡ seq + 1
  pub even : plan.even ≡ seq + 2
  pub raised : plan.raised ≡ num + 1

keeps_at : (scan : Scan) (seq num : ℕ) (plan : QsbrPlan) (place : Place) (word : ℕ) → Keeps scan seq num plan → Keeps scan seq num (moved_at plan place word)
keeps_at scan seq num plan StoreOdd word k = record { same = k.same; odd = k.odd; even = k.even; raised = k.raised }
keeps_at scan seq num plan Raise word k = record { same = k.same; odd = k.odd; even = k.even; raised = k.raised }
keeps_at scan seq num plan (Scans look) word k = record { same = k.same; odd = k.odd; even = k.even; raised = k.raised }
keeps_at scan seq num plan StoreEven word k = record { same = k.same; odd = k.odd; even = k.even; raised = k.raised }
keeps_at scan seq num plan Done word k = k

pub keeps : (grouped : Bool) (slots seq num : ℕ) (plan : QsbrPlan) (words : List ℕ) → plan ≡ qsbr_begun grouped slots seq num → Keeps (scan_of slots grouped) seq num (after_loads qsbr_taken plan words)
keeps grouped slots seq num plan words begun =
    lasts_by qsbr_turn qsbr_moved (Keeps (scan_of slots grouped) seq num) (λ p w k. keeps_at (scan_of slots grouped) seq num p p.place w k) plan words
    (subst (Keeps (scan_of slots grouped) seq num) (sym begun) (record { same = refl; odd = refl; even = refl; raised = refl }))

-- where a plan is that has taken its first turn
abbrev IsUnderWay : Place → Type 0
IsUnderWay StoreOdd = ⊥
IsUnderWay Raise = Unit {0}
IsUnderWay (Scans look) = Unit {0}
IsUnderWay StoreEven = Unit {0}
IsUnderWay Done = Unit {0}

under_way_at : (plan : QsbrPlan) (place : Place) (word : ℕ) → plan.place ≡ place → IsUnderWay ((moved_at plan place word).place)
under_way_at plan StoreOdd word is = tt
under_way_at plan Raise word is = scans_on_is IsUnderWay Scans StoreEven (first_look plan.scan) (λ _. tt) tt
under_way_at plan (Scans look) word is = scans_on_is IsUnderWay Scans StoreEven (look_behind plan.scan look word) (λ _. tt) tt
under_way_at plan StoreEven word is = tt
under_way_at plan Done word is = subst IsUnderWay (sym is) tt

second_at : (scan : Scan) (seq num : ℕ) (plan : QsbrPlan) (place : Place) (value : ℕ) → IsUnderWay place → Keeps scan seq num plan → action_at plan place ≡ StoreSeq value → value ≡ seq + 2
second_at scan seq num plan StoreOdd value u k e = absurd u
second_at scan seq num plan Raise value u k e = absurd (cc)
second_at scan seq num plan (Scans look) value u k e = absurd (look_not_store look value e)
second_at scan seq num plan StoreEven value u k e = cc (k.even)
second_at scan seq num plan Done value u k e = absurd (cc)

abbrev IsLast : ℕ → QsbrPlan → Action → Type 0
IsLast seq next action = (qsbr_action next ≡ Finished) ↔ (action ≡ StoreSeq (seq + 2))

-- a scan does not end the plan
still_open : (plan : QsbrPlan) (found : Option Look) → action_at plan (scans_on Scans StoreEven found) ≢ Finished
still_open plan found = scans_on_is (λ place. action_at plan place ≢ Finished) Scans StoreEven found look_not_end (λ e. cc)

last_at : (scan : Scan) (seq num : ℕ) (plan : QsbrPlan) (place : Place) (word : ℕ) → plan.place ≡ place → Keeps scan seq num plan → action_at plan place ≢ Finished → IsLast seq (after_turn (moved_at plan place word) plan (turn_of plan place word)) (action_at plan place)
last_at scan seq num plan StoreOdd word is k open' = ((λ e. absurd (cc)), (λ e. absurd (odd_again e)))
  where
    odd_again : StoreSeq plan.odd ≡ StoreSeq (seq + 2) → ⊥
    odd_again e = let same : plan.odd ≡ seq + 2 = cc in omega (arith, k.odd, same)
last_at scan seq num plan Raise word is k open' = ((λ e. absurd (still_open plan (first_look plan.scan) e)), (λ e. absurd (cc)))
last_at scan seq num plan (Scans look) word is k open' = by_test (is_slot_of look && qs_stands word plan.raised)
  where
    by_test : (b : Bool) → IsLast seq (after_turn (moved_at plan (Scans look) word) plan (if b then Wait else Step)) (look_action look)
    by_test true = ((λ e. absurd (look_not_end look (sym (ap (action_at plan) is) ∙ e))), (λ e. absurd (look_not_store look (seq + 2) e)))
    by_test false = ((λ e. absurd (still_open plan (look_behind plan.scan look word) e)), (λ e. absurd (look_not_store look (seq + 2) e)))
last_at scan seq num plan StoreEven word is k open' = ((λ e. ap StoreSeq k.even), (λ e. refl))
last_at scan seq num plan Done word is k open' = absurd (open' refl)

pub qsbr_order : (layout : Layout) (grouped : Bool) (slots seq word : ℕ) (plan : QsbrPlan) → plan ≡ qsbr_begun grouped slots seq word → StoresInOrder qsbr_action qsbr_taken seq plan
qsbr_order layout grouped slots seq word plan begun = subst (λ p. StoresInOrder qsbr_action qsbr_taken seq p) (sym begun) of_begun
  where
    of_begun : StoresInOrder qsbr_action qsbr_taken seq (qsbr_begun grouped slots seq word)
    of_begun = record {
      first = refl;
      second = λ load value words e.
          let p = after_loads qsbr_taken (qsbr_begun grouped slots seq word) (load ∷ words) in
          second_at (scan_of slots grouped) seq word p p.place value
          (lasts_by qsbr_turn qsbr_moved (λ q. IsUnderWay q.place) (λ q w u. under_way_at q q.place w refl) (qsbr_taken (qsbr_begun grouped slots seq word) load) words tt)
          (keeps grouped slots seq word (qsbr_begun grouped slots seq word) (load ∷ words) refl) e;
      last = λ words load not_done.
          let p = after_loads qsbr_taken (qsbr_begun grouped slots seq word) words in
          last_at (scan_of slots grouped) seq word p p.place load refl (keeps grouped slots seq word (qsbr_begun grouped slots seq word) words refl) not_done;
    }

-- a scan is at a slot or a group that is there
abbrev IsWithin : Scan → Place → Type 0
IsWithin scan StoreOdd = Unit {0}
IsWithin scan Raise = Unit {0}
IsWithin scan (Scans look) = IsThere scan.slots scan.grouped look
IsWithin scan StoreEven = Unit {0}
IsWithin scan Done = Unit {0}

goes_within : (scan : Scan) (found : Option Look) → AreThere scan.slots scan.grouped found → IsWithin scan (scans_on Scans StoreEven found)
goes_within scan None there = tt
goes_within scan (Some look) there = there

record ScansThere (scan : Scan) (plan : QsbrPlan) : Type 0 where
  pub same : plan.scan ≡ scan
  within : IsWithin plan.scan plan.place

scans_at : (scan : Scan) (plan : QsbrPlan) (place : Place) (word : ℕ) → plan.scan ≡ scan → plan.place ≡ place → IsWithin plan.scan place → ScansThere scan (moved_at plan place word)
scans_at scan plan StoreOdd word same is w = record { same = same; within = tt }
scans_at scan plan Raise word same is w = record { same = same; within = goes_within plan.scan (first_look plan.scan) (there_first plan.scan.slots plan.scan.grouped) }
scans_at scan plan (Scans look) word same is w =
    record { same = same; within = goes_within plan.scan (look_behind plan.scan look word) (there_behind plan.scan.slots plan.scan.grouped look word w) }
scans_at scan plan StoreEven word same is w = record { same = same; within = tt }
scans_at scan plan Done word same is w = record { same = same; within = subst (IsWithin plan.scan) (sym is) tt }

scans : (grouped : Bool) (slots seq word : ℕ) (plan : QsbrPlan) → plan ≡ qsbr_begun grouped slots seq word → (loads : List ℕ) → ScansThere (scan_of slots grouped) (after_loads qsbr_taken plan loads)
scans grouped slots seq word plan begun loads =
    lasts_by qsbr_turn qsbr_moved (ScansThere (scan_of slots grouped)) (λ p w s. scans_at (scan_of slots grouped) p p.place w s.same refl s.within) plan loads
    (subst (ScansThere (scan_of slots grouped)) (sym begun) (record { same = refl; within = tt }))

within_at : (plan : QsbrPlan) (place : Place) → IsWithin plan.scan place → ((slot : ℕ) → action_at plan place ≡ Load slot → slot < plan.scan.slots) × ((group : ℕ) → action_at plan place ≡ LoadGroup group → (plan.scan.grouped ≡ true) × (64 * group < plan.scan.slots))
within_at plan StoreOdd w = ((λ slot e. absurd (cc)), (λ group e. absurd (cc)))
within_at plan Raise w = ((λ slot e. absurd (cc)), (λ group e. absurd (cc)))
within_at plan (Scans look) w = look_within plan.scan look w
within_at plan StoreEven w = ((λ slot e. absurd (cc)), (λ group e. absurd (cc)))
within_at plan Done w = ((λ slot e. absurd (cc)), (λ group e. absurd (cc)))

pub qsbr_in_range : (layout : Layout) (grouped : Bool) (slots seq word : ℕ) (plan : QsbrPlan) → plan ≡ qsbr_begun grouped slots seq word →
    (loads : List ℕ) (slot : ℕ) → qsbr_action (after_loads qsbr_taken plan loads) ≡ Load slot → slot < slots
qsbr_in_range layout grouped slots seq word plan begun loads slot e =
    let p = after_loads qsbr_taken plan loads in
    let s = scans grouped slots seq word plan begun loads in
    subst (λ (scan : Scan). slot < scan.slots) s.same ((within_at p p.place s.within).0 slot e)

pub qsbr_in_groups : (layout : Layout) (grouped : Bool) (slots seq word : ℕ) (plan : QsbrPlan) → plan ≡ qsbr_begun grouped slots seq word →
    (loads : List ℕ) (group : ℕ) → qsbr_action (after_loads qsbr_taken plan loads) ≡ LoadGroup group → 64 * group < slots
qsbr_in_groups layout grouped slots seq word plan begun loads group e =
    let p = after_loads qsbr_taken plan loads in
    let s = scans grouped slots seq word plan begun loads in
    subst (λ (scan : Scan). 64 * group < scan.slots) s.same ((within_at p p.place s.within).1 group e).1

-- a plan that is not grouped loads no group word
pub qsbr_loads_no_group : (slots seq word : ℕ) (plan : QsbrPlan) → plan ≡ qsbr_begun false slots seq word →
    (loads : List ℕ) (group : ℕ) → qsbr_action (after_loads qsbr_taken plan loads) ≢ LoadGroup group
qsbr_loads_no_group slots seq word plan begun loads group e =
    let p = after_loads qsbr_taken plan loads in
    let s = scans false slots seq word plan begun loads in
    true≢false (sym ((within_at p p.place s.within).1 group e).0 ∙ ap (λ (scan : Scan). scan.grouped) s.same)

-- the turns that are left
abbrev rest_at : Scan → Place → ℕ
rest_at scan StoreOdd = length_of scan + 3
rest_at scan Raise = length_of scan + 2
rest_at scan (Scans look) = left_of scan.slots scan.grouped (Some look) + 1
rest_at scan StoreEven = 1
rest_at scan Done = 0

rest_goes : (scan : Scan) (found : Option Look) → rest_at scan (scans_on Scans StoreEven found) ≡ left_of scan.slots scan.grouped found + 1
rest_goes scan None = omega arith
rest_goes scan (Some look) = refl

falls_at : (plan : QsbrPlan) (place : Place) (word : ℕ) → plan.place ≡ place → IsWithin plan.scan place →
    rest_at ((moved_at plan place word).scan) ((moved_at plan place word).place) ≡ rest_at plan.scan place - cost (counted plan.scan.grouped) (action_at plan place)
falls_at plan StoreOdd word is w = let one = (store_cost plan.scan.grouped plan.odd).0 in omega arith
falls_at plan Raise word is w =
    let one = (store_cost plan.scan.grouped plan.raised).1 in
    let rest = rest_goes plan.scan (first_look plan.scan) in
    let all = left_first plan.scan.slots plan.scan.grouped in omega arith
falls_at plan (Scans look) word is w =
    let rest = rest_goes plan.scan (look_behind plan.scan look word) in
    let less = left_behind plan.scan.slots plan.scan.grouped look word w in omega arith
falls_at plan StoreEven word is w = let one = (store_cost plan.scan.grouped plan.even).0 in omega arith
falls_at plan Done word is w = let none : rest_at plan.scan plan.place ≡ 0 = ap (rest_at plan.scan) is in omega arith

ends_at : (plan : QsbrPlan) (place : Place) → (action_at plan place ≡ Finished) ↔ (rest_at plan.scan place ≡ 0)
ends_at plan StoreOdd = ((λ e. absurd (cc)), (λ e. absurd (omega arith)))
ends_at plan Raise = ((λ e. absurd (cc)), (λ e. absurd (omega arith)))
ends_at plan (Scans look) = ((λ e. absurd (look_not_end look e)), (λ e. absurd (omega arith)))
ends_at plan StoreEven = ((λ e. absurd (cc)), (λ e. absurd (omega arith)))
ends_at plan Done = ((λ e. refl), (λ e. refl))

pub qsbr_finishes : (grouped : Bool) (slots seq num : ℕ) →
    FinishesAfter qsbr_action qsbr_turn qsbr_taken (counted grouped) (qsbr_begun grouped slots seq num) (turn_count true (length_of (scan_of slots grouped)))
qsbr_finishes grouped slots seq num words =
    finishes_by qsbr_action qsbr_turn qsbr_moved (counted grouped) (ScansThere (scan_of slots grouped)) (λ p. rest_at p.scan p.place)
    (λ p w s. scans_at (scan_of slots grouped) p p.place w s.same refl s.within)
    (λ p w s. subst (λ (scan : Scan). rest_at ((qsbr_moved p w).scan) ((qsbr_moved p w).place) ≡ rest_at p.scan p.place - cost (counted scan.grouped) (qsbr_action p)) s.same (falls_at p p.place w refl s.within))
    (λ p s. ends_at p p.place)
    (qsbr_begun grouped slots seq num) words (record { same = refl; within = tt })

-- Each turn of the plan of the quiescent-state flavour: what it stores, when it waits, and what it leaves as it was.
use Rattle.std.specs.Prelude.{◌≡◌, ◌≢◌, ℕ, ◌+◌, ◌-◌, ◌≤◌, Bool, true, List, Option, refl}
use Rattle.std.proofs.Common.{sym, ap, ◌∙◌, arith}
use Rattle.reader_word.specs.declared.layout.Layout.{Layout}
use Rattle.reader_word.specs.declared.layout.Layout.TheVariants.{Wide}
use Rattle.gp_memb.specs.declared.plan.Action.TheVariants.{Load, LoadGroup, StorePhase}
use Rattle.gp_memb.specs.declared.plan.Turn.{Turn}
use Rattle.gp_memb.specs.declared.plan.Turn.TheVariants.{Step, Wait}
use Rattle.gp_memb.specs.declared.scan.Look.{Look}
use Rattle.gp_memb.specs.declared.scan.Look.TheVariants.{Group, Slot}
use Rattle.gp_memb.specs.Plan.{after_loads, IsPresent, MayStore, turn_at, present_after, after_turn}
use Rattle.gp_memb.specs.Scan.{look_action, first_look, look_behind, scans_on}
use Rattle.gp_memb.specs.lemmas.ScanLemmas.{scans_on_is}
use Rattle.gp_qsbr.specs.declared.qsbr.QsbrPlan.{QsbrPlan}
use Rattle.gp_qsbr.specs.declared.qsbr.Place.{Place}
use Rattle.gp_qsbr.specs.declared.qsbr.Place.TheVariants.{StoreOdd, Raise, Scans, StoreEven, Done}
use Rattle.gp_qsbr.specs.Qsbr.{qsbr_begun, qsbr_action, action_at, qsbr_moved, moved_at, qsbr_taken, qsbr_turn, turn_of, qsbr_present, present_at, scan_turn}
use Rattle.gp_qsbr.specs.lemmas.QsbrOrder.{keeps}

stored_at : (plan : QsbrPlan) (place : Place) (value : ℕ) → action_at plan place ≡ StorePhase value → (value ≡ plan.raised) × (present_at plan place ≤ value)
stored_at plan StoreOdd value e = absurd (cc)
stored_at plan Raise value e = let same : plan.raised ≡ value = cc in (sym same, omega arith)
stored_at plan (Scans (Group g)) value e = absurd (cc)
stored_at plan (Scans (Slot k bits)) value e = absurd (cc)
stored_at plan StoreEven value e = absurd (cc)
stored_at plan Done value e = absurd (cc)

pub qsbr_stores : (layout : Layout) (grouped : Bool) (slots seq word : ℕ) (plan : QsbrPlan) → plan ≡ qsbr_begun grouped slots seq word →
    (loads : List ℕ) (value : ℕ) → qsbr_action (after_loads qsbr_taken plan loads) ≡ StorePhase value → MayStore true word value
qsbr_stores layout grouped slots seq word plan begun loads value e =
    let p = after_loads qsbr_taken plan loads in
    let k = keeps grouped slots seq word plan loads begun in
    (stored_at p p.place value e).0 ∙ k.raised

pub qsbr_rises : (plan : QsbrPlan) (value : ℕ) → true ≡ true → qsbr_action plan ≡ StorePhase value → qsbr_present plan ≤ value
qsbr_rises plan value _ e = (stored_at plan plan.place value e).1

pub qsbr_begins : (layout : Layout) (grouped : Bool) (slots seq word : ℕ) (plan : QsbrPlan) → plan ≡ qsbr_begun grouped slots seq word → IsPresent true word → qsbr_present plan ≡ word
qsbr_begins layout grouped slots seq word plan begun _ = let less : word + 1 - 1 ≡ word = omega arith in ap qsbr_present begun ∙ less

exact_at : (plan : QsbrPlan) (place : Place) (word : ℕ) → turn_of plan place word ≡ turn_at true Wide (present_at plan place) (action_at plan place) word
exact_at plan StoreOdd word = refl
exact_at plan Raise word = refl
exact_at plan (Scans (Group g)) word = refl
exact_at plan (Scans (Slot k bits)) word = refl
exact_at plan StoreEven word = refl
exact_at plan Done word = refl

pub qsbr_exact : (plan : QsbrPlan) (word : ℕ) → qsbr_turn plan word ≡ turn_at true Wide (qsbr_present plan) (qsbr_action plan) word
qsbr_exact plan word = exact_at plan plan.place word

pub qsbr_still : (plan : QsbrPlan) (word : ℕ) → qsbr_turn plan word ≡ Wait → qsbr_taken plan word ≡ plan
qsbr_still plan word waits = ap (after_turn (qsbr_moved plan word) plan) waits

-- a scan is of the raised number, and no look stores one
scan_present : (plan : QsbrPlan) (found : Option Look) → present_at plan (scans_on Scans StoreEven found) ≡ plan.raised
scan_present plan found = scans_on_is (λ place. present_at plan place ≡ plan.raised) Scans StoreEven found (λ _. refl) refl

look_presents : (plan : QsbrPlan) (look : Look) → plan.raised ≡ present_after plan.raised (look_action look)
look_presents plan (Group g) = refl
look_presents plan (Slot k bits) = refl

presents_at : (plan : QsbrPlan) (place : Place) (word : ℕ) → plan.place ≡ place → qsbr_present (after_turn (moved_at plan place word) plan (turn_of plan place word)) ≡ present_after (present_at plan place) (action_at plan place)
presents_at plan StoreOdd word is = refl
presents_at plan Raise word is = scan_present plan (first_look plan.scan)
presents_at plan (Scans look) word is = by_turn (scan_turn plan look word) ∙ look_presents plan look
  where
    by_turn : (t : Turn) → qsbr_present (after_turn (moved_at plan (Scans look) word) plan t) ≡ plan.raised
    by_turn Step = scan_present plan (look_behind plan.scan look word)
    by_turn Wait = ap (present_at plan) is
presents_at plan StoreEven word is = refl
presents_at plan Done word is = ap (present_at plan) is

pub qsbr_presents : (plan : QsbrPlan) (word : ℕ) → qsbr_present (qsbr_taken plan word) ≡ present_after (qsbr_present plan) (qsbr_action plan)
qsbr_presents plan word = presents_at plan plan.place word refl

-- an action that is no load leads on whatever was loaded
ignores_at : (plan : QsbrPlan) (place : Place) (a b : ℕ) → ((slot : ℕ) → action_at plan place ≢ Load slot) → ((group : ℕ) → action_at plan place ≢ LoadGroup group) →
    after_turn (moved_at plan place a) plan (turn_of plan place a) ≡ after_turn (moved_at plan place b) plan (turn_of plan place b)
ignores_at plan StoreOdd a b no_load no_group = refl
ignores_at plan Raise a b no_load no_group = refl
ignores_at plan (Scans (Group g)) a b no_load no_group = absurd (no_group g refl)
ignores_at plan (Scans (Slot k bits)) a b no_load no_group = absurd (no_load k refl)
ignores_at plan StoreEven a b no_load no_group = refl
ignores_at plan Done a b no_load no_group = refl

pub qsbr_ignores : (plan : QsbrPlan) (a b : ℕ) → ((slot : ℕ) → qsbr_action plan ≢ Load slot) → ((group : ℕ) → qsbr_action plan ≢ LoadGroup group) → qsbr_taken plan a ≡ qsbr_taken plan b
qsbr_ignores plan a b no_load no_group = ignores_at plan plan.place a b no_load no_group

-- Each turn of the plan of two flips: when it waits, and what it leaves as it was.
use Rattle.std.specs.Prelude.{◌≡◌, ◌≢◌, ℕ, if◌then◌else◌, refl, false}
use Rattle.std.proofs.Common.{sym, ap}
use Rattle.reader_word.specs.Word.{stands}
use Rattle.gp_memb.specs.declared.plan.Action.TheVariants.{Load, LoadGroup}
use Rattle.gp_memb.specs.declared.plan.Turn.{Turn}
use Rattle.gp_memb.specs.declared.plan.Turn.TheVariants.{Step, Wait}
use Rattle.gp_memb.specs.declared.scan.Look.{Look}
use Rattle.gp_memb.specs.declared.scan.Look.TheVariants.{Group, Slot}
use Rattle.gp_memb.specs.declared.memb.MembPlan.{MembPlan}
use Rattle.gp_memb.specs.declared.memb.Place.{Place}
use Rattle.gp_memb.specs.declared.memb.Place.TheVariants.{StoreOdd, Flip, FirstScan, FlipBack, SecondScan, StoreEven, Done}
use Rattle.gp_memb.specs.Plan.{turn_at, present_after, after_turn}
use Rattle.gp_memb.specs.Scan.{look_action}
use Rattle.gp_memb.specs.Memb.{memb_action, action_at, memb_moved, moved_at, memb_taken, memb_turn, memb_turn_at, memb_present, scan_turn}
use Rattle.gp_memb.specs.lemmas.MembOrder.{number-back}

scan_exact : (plan : MembPlan) (look : Look) (word : ℕ) → scan_turn plan look word ≡ turn_at false plan.layout (memb_present plan) (look_action look) word
scan_exact plan (Group g) word = refl
scan_exact plan (Slot k bits) word = ap (λ p. if stands plan.layout word p then Wait else Step) (sym (number-back plan.phase))

exact_at : (plan : MembPlan) (place : Place) (word : ℕ) → memb_turn_at plan place word ≡ turn_at false plan.layout (memb_present plan) (action_at plan place) word
exact_at plan StoreOdd word = refl
exact_at plan Flip word = refl
exact_at plan (FirstScan look) word = scan_exact plan look word
exact_at plan FlipBack word = refl
exact_at plan (SecondScan look) word = scan_exact plan look word
exact_at plan StoreEven word = refl
exact_at plan Done word = refl

pub memb_exact : (plan : MembPlan) (word : ℕ) → memb_turn plan word ≡ turn_at false plan.layout (memb_present plan) (memb_action plan) word
memb_exact plan word = exact_at plan plan.place word

pub memb_still : (plan : MembPlan) (word : ℕ) → memb_turn plan word ≡ Wait → memb_taken plan word ≡ plan
memb_still plan word waits = ap (after_turn (memb_moved plan word) plan) waits

-- no look stores a phase
look_presents : (plan next : MembPlan) (look : Look) (turn : Turn) → memb_present next ≡ memb_present plan → memb_present (after_turn next plan turn) ≡ present_after (memb_present plan) (look_action look)
look_presents plan next (Group g) Step same = same
look_presents plan next (Group g) Wait same = refl
look_presents plan next (Slot k bits) Step same = same
look_presents plan next (Slot k bits) Wait same = refl

presents_at : (plan : MembPlan) (place : Place) (word : ℕ) → memb_present (after_turn (moved_at plan place word) plan (memb_turn_at plan place word)) ≡ present_after (memb_present plan) (action_at plan place)
presents_at plan StoreOdd word = refl
presents_at plan Flip word = refl
presents_at plan (FirstScan look) word = look_presents plan (moved_at plan (FirstScan look) word) look (scan_turn plan look word) refl
presents_at plan FlipBack word = refl
presents_at plan (SecondScan look) word = look_presents plan (moved_at plan (SecondScan look) word) look (scan_turn plan look word) refl
presents_at plan StoreEven word = refl
presents_at plan Done word = refl

pub memb_presents : (plan : MembPlan) (word : ℕ) → memb_present (memb_taken plan word) ≡ present_after (memb_present plan) (memb_action plan)
memb_presents plan word = presents_at plan plan.place word

layout_at : (plan : MembPlan) (place : Place) (word : ℕ) → (moved_at plan place word).layout ≡ plan.layout
layout_at plan StoreOdd word = refl
layout_at plan Flip word = refl
layout_at plan (FirstScan look) word = refl
layout_at plan FlipBack word = refl
layout_at plan (SecondScan look) word = refl
layout_at plan StoreEven word = refl
layout_at plan Done word = refl

pub memb_keeps_layout : (plan : MembPlan) (word : ℕ) → (memb_taken plan word).layout ≡ plan.layout
memb_keeps_layout plan word = by_turn (memb_turn plan word)
  where
    by_turn : (t : Turn) → (after_turn (memb_moved plan word) plan t).layout ≡ plan.layout
    by_turn Step = layout_at plan plan.place word
    by_turn Wait = refl

-- an action that is no load leads on whatever was loaded
ignores_at : (plan : MembPlan) (place : Place) (a b : ℕ) → ((slot : ℕ) → action_at plan place ≢ Load slot) → ((group : ℕ) → action_at plan place ≢ LoadGroup group) →
    after_turn (moved_at plan place a) plan (memb_turn_at plan place a) ≡ after_turn (moved_at plan place b) plan (memb_turn_at plan place b)
ignores_at plan StoreOdd a b no_load no_group = refl
ignores_at plan Flip a b no_load no_group = refl
ignores_at plan (FirstScan (Group g)) a b no_load no_group = absurd (no_group g refl)
ignores_at plan (FirstScan (Slot k bits)) a b no_load no_group = absurd (no_load k refl)
ignores_at plan FlipBack a b no_load no_group = refl
ignores_at plan (SecondScan (Group g)) a b no_load no_group = absurd (no_group g refl)
ignores_at plan (SecondScan (Slot k bits)) a b no_load no_group = absurd (no_load k refl)
ignores_at plan StoreEven a b no_load no_group = refl
ignores_at plan Done a b no_load no_group = refl

pub memb_ignores : (plan : MembPlan) (a b : ℕ) → ((slot : ℕ) → memb_action plan ≢ Load slot) → ((group : ℕ) → memb_action plan ≢ LoadGroup group) → memb_taken plan a ≡ memb_taken plan b
memb_ignores plan a b no_load no_group = ignores_at plan plan.place a b no_load no_group

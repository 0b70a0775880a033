-- The plan of the quiescent-state flavour waits for every section that is open when it begins.
use Rattle.std.specs.Prelude.{◌≡◌, ◌≢◌, ◌⊎◌, ℕ, ◌+◌, ◌==◌, ◌<◌, ◌≤◌, Bool, true, false, not, ◌&&◌, if◌then◌else◌, Option, Some, None, refl}
use Rattle.std.proofs.Common.{sym, subst, inl, inr, arith, true≢false}
use Rattle.std.proofs.lemmas.Bool.Decides.{eqb_tells}
use Rattle.reader_word.specs.declared.layout.Layout.{Layout}
use Rattle.reader_word.specs.Quiescent.{qs_stands}
use Rattle.gp_memb.specs.declared.plan.Action.TheVariants.{Finished}
use Rattle.gp_memb.specs.declared.plan.Turn.TheVariants.{Step, Wait}
use Rattle.gp_memb.specs.declared.scan.Look.{Look}
use Rattle.gp_memb.specs.declared.scan.Look.TheVariants.{Group, Slot}
use Rattle.gp_memb.specs.Plan.{ShowsOpen, WaitsForOpen, after_turn}
use Rattle.gp_memb.specs.Scan.{look_action, first_look, look_behind, scans_on}
use Rattle.gp_memb.specs.lemmas.PlanLemmas.{waits_since}
use Rattle.gp_memb.specs.lemmas.ScanLemmas.{IsAhead, AreAhead, LeadsOn, ahead_first, ahead_behind, look_not_end}
use Rattle.gp_qsbr.specs.declared.qsbr.QsbrPlan.{QsbrPlan}
use Rattle.gp_qsbr.specs.declared.qsbr.Place.{Place}
use Rattle.gp_qsbr.specs.declared.qsbr.Place.TheVariants.{StoreOdd, Raise, Scans, StoreEven, Done}
use Rattle.gp_qsbr.specs.Qsbr.{qsbr_begun, qsbr_action, action_at, qsbr_taken, turn_of, moved_at, scan_turn}

-- a number that is older than the raised one stands in the way
old_stands : (mark word num : ℕ) → word ≡ mark + 1 → mark < num → qs_stands word num ≢ false
old_stands mark word num shown old passed = by_test (word == 0) (word == num + 1) (eqb_tells word 0) (eqb_tells word (num + 1)) passed
  where
    by_test : (b c : Bool) → ((b ≡ true) × (word ≡ 0)) ⊎ ((b ≡ false) × (word ≢ 0)) → ((c ≡ true) × (word ≡ num + 1)) ⊎ ((c ≡ false) × (word ≢ num + 1)) → (not b && not c) ≡ false → ⊥
    by_test b c (inl y) t e = omega arith
    by_test b c (inr n) (inl y) e = omega arith
    by_test true c (inr n) (inr m) e = true≢false n.0
    by_test false true (inr n) (inr m) e = true≢false m.0
    by_test false false (inr n) (inr m) e = true≢false e

module _ (layout : Layout) (slot mark num : ℕ) (low : mark ≤ num) where
  -- where the plan may stand while the section stays open
  abbrev MayStand : QsbrPlan → Place → Type 0
  MayStand plan StoreOdd = Unit {0}
  MayStand plan Raise = Unit {0}
  MayStand plan (Scans look) = IsAhead plan.scan.grouped slot look
  MayStand plan StoreEven = ⊥
  MayStand plan Done = ⊥

  record Awaits (plan : QsbrPlan) : Type 0 where
    there : slot < plan.scan.slots
    raised : plan.raised ≡ num + 1
    stands_where : MayStand plan plan.place

  goes_to : (plan : QsbrPlan) (found : Option Look) → AreAhead plan.scan.grouped slot found → MayStand plan (scans_on Scans StoreEven found)
  goes_to plan None never = absurd never
  goes_to plan (Some look) ahead = ahead

  -- a scan's turn waits, or its look leads on to the section's slot
  by_scan : (plan : QsbrPlan) (look : Look) (word : ℕ) → Awaits plan → IsAhead plan.scan.grouped slot look → ShowsOpen true layout slot mark (look_action look) word →
      Awaits (after_turn (moved_at plan (Scans look) word) plan (scan_turn plan look word))
  by_scan plan look word now ahead shown = by_look look ahead shown
    where
      moves : (l : Look) → IsAhead plan.scan.grouped slot l → LeadsOn slot l word → Awaits (moved_at plan (Scans l) word)
      moves l may leads = record {
        there = now.there;
        raised = now.raised;
        stands_where = goes_to plan (look_behind plan.scan l word) (ahead_behind plan.scan.slots plan.scan.grouped slot l word now.there may leads);
      }

      by_look : (l : Look) → IsAhead plan.scan.grouped slot l → ShowsOpen true layout slot mark (look_action l) word → Awaits (after_turn (moved_at plan (Scans l) word) plan (scan_turn plan l word))
      by_look (Group g) may has = moves (Group g) may has
      by_look (Slot k bits) may has = by_test (qs_stands word plan.raised) refl
        where
          above : mark < plan.raised
          above = omega (arith, now.raised, low)

          by_test : (b : Bool) → qs_stands word plan.raised ≡ b → Awaits (after_turn (moved_at plan (Scans (Slot k bits)) word) plan (if b then Wait else Step))
          by_test true t = now
          by_test false t = moves (Slot k bits) may (λ here. old_stands mark word plan.raised (has here) above t)

  lasts_at : (plan : QsbrPlan) (place : Place) (word : ℕ) → Awaits plan → MayStand plan place → ShowsOpen true layout slot mark (action_at plan place) word → Awaits (after_turn (moved_at plan place word) plan (turn_of plan place word))
  lasts_at plan StoreOdd word now may shown = record { there = now.there; raised = now.raised; stands_where = tt }
  lasts_at plan Raise word now may shown = record {
    there = now.there;
    raised = now.raised;
    stands_where = goes_to plan (first_look plan.scan) (ahead_first plan.scan.slots plan.scan.grouped slot now.there);
  }
  lasts_at plan (Scans look) word now may shown = by_scan plan look word now may shown
  lasts_at plan StoreEven word now may shown = absurd may
  lasts_at plan Done word now may shown = absurd may

  ends_at : (plan : QsbrPlan) (place : Place) → MayStand plan place → action_at plan place ≢ Finished
  ends_at plan StoreOdd may e = cc
  ends_at plan Raise may e = cc
  ends_at plan (Scans look) may e = look_not_end look e
  ends_at plan StoreEven may e = absurd may
  ends_at plan Done may e = absurd may

begun_waits : (layout : Layout) (grouped : Bool) (slots seq word : ℕ) → WaitsForOpen true qsbr_action qsbr_taken layout slots word (qsbr_begun grouped slots seq word)
begun_waits layout grouped slots seq word slot mark loads within low since =
    waits_since qsbr_action qsbr_taken (ShowsOpen true layout slot mark) (Awaits layout slot mark word (low refl))
    (λ p w now shown. lasts_at layout slot mark word (low refl) p p.place w now now.stands_where shown)
    (λ p now. ends_at layout slot mark word (low refl) p p.place now.stands_where)
    (λ value w. tt)
    (qsbr_begun grouped slots seq word) _ refl loads (record { there = within; raised = refl; stands_where = tt }) since

pub qsbr_waits : (layout : Layout) (grouped : Bool) (slots seq word : ℕ) (plan : QsbrPlan) → plan ≡ qsbr_begun grouped slots seq word → WaitsForOpen true qsbr_action qsbr_taken layout slots word plan
qsbr_waits layout grouped slots seq word plan begun =
    subst (λ p. WaitsForOpen true qsbr_action qsbr_taken layout slots word p) (sym begun) (begun_waits layout grouped slots seq word)

-- The plan of two flips waits for every section that is open when it begins.
use Rattle.std.specs.Prelude.{◌≡◌, ◌≢◌, ◌⊎◌, ℕ, ◌/◌, ◌%◌, ◌==◌, ◌<◌, Bool, true, false, not, ◌&&◌, if◌then◌else◌, Option, Some, None, refl}
use Rattle.std.proofs.Common.{sym, ap, ◌∙◌, subst, inl, inr, ⊎_elim, true≢false}
use Rattle.std.proofs.lemmas.Bool.Decides.{eqb_tells}
use Rattle.reader_word.specs.declared.layout.Layout.{Layout}
use Rattle.reader_word.specs.Word.{count_of, phase_in, differ, stands}
use Rattle.gp_memb.specs.declared.plan.Action.TheVariants.{Finished}
use Rattle.gp_memb.specs.declared.plan.Turn.TheVariants.{Step, Wait}
use Rattle.gp_memb.specs.declared.scan.Look.{Look}
use Rattle.gp_memb.specs.declared.scan.Look.TheVariants.{Group, Slot}
use Rattle.gp_memb.specs.declared.memb.MembPlan.{MembPlan}
use Rattle.gp_memb.specs.declared.memb.Place.{Place}
use Rattle.gp_memb.specs.declared.memb.Place.TheVariants.{StoreOdd, Flip, FirstScan, FlipBack, SecondScan, StoreEven, Done}
use Rattle.gp_memb.specs.Plan.{ShowsOpen, WaitsForOpen, after_turn, bit_of}
use Rattle.gp_memb.specs.Scan.{look_action, first_look, look_behind, scans_on}
use Rattle.gp_memb.specs.Memb.{memb_begun, memb_action, action_at, memb_taken, memb_turn_at, moved_at, scan_turn}
use Rattle.gp_memb.specs.lemmas.PlanLemmas.{waits_since}
use Rattle.gp_memb.specs.lemmas.ScanLemmas.{IsAhead, AreAhead, ahead_first, ahead_behind, look_not_end}

-- a word that passes a scan, though its section is open, is of the present phase
passes : (layout : Layout) (word : ℕ) (present mark : Bool) → count_of layout word ≢ 0 → phase_in layout word ≡ mark → stands layout word present ≡ false → mark ≡ present
passes layout word present mark is_open shown passed = by_test (count_of layout word == 0) (phase_in layout word) present (eqb_tells (count_of layout word) 0) shown passed
  where
    by_test : (b q p : Bool) → ((b ≡ true) × (count_of layout word ≡ 0)) ⊎ ((b ≡ false) × (count_of layout word ≢ 0)) → q ≡ mark → (not b && differ q p) ≡ false → mark ≡ p
    by_test b q p (inl y) e t = absurd (is_open y.1)
    by_test true q p (inr n) e t = absurd (true≢false n.0)
    by_test false true true n e t = sym e
    by_test false true false n e t = absurd (true≢false t)
    by_test false false true n e t = absurd (true≢false t)
    by_test false false false n e t = sym e

not_not : (b : Bool) → not (not b) ≡ b
not_not true = refl
not_not false = refl

not_own : (b : Bool) → not b ≡ b → ⊥
not_own true e = true≢false (sym e)
not_own false e = true≢false e

module _ (layout : Layout) (slot mark : ℕ) where
  -- where the plan may stand while the section stays open
  abbrev MayStand : MembPlan → Place → Type 0
  MayStand plan StoreOdd = Unit {0}
  MayStand plan Flip = Unit {0}
  MayStand plan (FirstScan look) = IsAhead plan.scan.grouped slot look ⊎ ((mark == 1) ≡ plan.phase)
  MayStand plan FlipBack = (mark == 1) ≡ plan.phase
  MayStand plan (SecondScan look) = IsAhead plan.scan.grouped slot look × ((mark == 1) ≡ not plan.phase)
  MayStand plan StoreEven = ⊥
  MayStand plan Done = ⊥

  record Awaits (plan : MembPlan) : Type 0 where
    words : plan.layout ≡ layout
    there : slot < plan.scan.slots
    stands_where : MayStand plan plan.place

  -- where a scan goes on to
  on_first : (plan : MembPlan) (found : Option Look) → AreAhead plan.scan.grouped slot found ⊎ ((mark == 1) ≡ plan.phase) → MayStand plan (scans_on FirstScan FlipBack found)
  on_first plan None (inl never) = absurd never
  on_first plan None (inr same) = same
  on_first plan (Some look) may = may

  on_second : (plan : MembPlan) (found : Option Look) → AreAhead plan.scan.grouped slot found → (mark == 1) ≡ not plan.phase → MayStand plan (scans_on SecondScan StoreEven found)
  on_second plan None never other = absurd never
  on_second plan (Some look) ahead other = (ahead, other)

  -- what a look that was passed tells of the section
  abbrev Passed : MembPlan → Look → ℕ → Type 0
  Passed plan (Group g) word = g ≡ slot / 64 → bit_of word (slot % 64) ≡ true
  Passed plan (Slot k bits) word = k ≡ slot → (mark == 1) ≡ plan.phase

  behind_first : (plan : MembPlan) (look : Look) (word : ℕ) → slot < plan.scan.slots → MayStand plan (FirstScan look) → Passed plan look word → MayStand plan (scans_on FirstScan FlipBack (look_behind plan.scan look word))
  behind_first plan look word there (inr same) passed = on_first plan (look_behind plan.scan look word) (inr same)
  behind_first plan (Group g) word there (inl ahead) passed =
      on_first plan (look_behind plan.scan (Group g) word) (inl (ahead_behind plan.scan.slots plan.scan.grouped slot (Group g) word there ahead passed))
  behind_first plan (Slot k bits) word there (inl ahead) passed =
      ⊎_elim
      (λ (y : ((k == slot) ≡ true) × (k ≡ slot)). on_first plan (look_behind plan.scan (Slot k bits) word) (inr (passed y.1)))
      (λ (n : ((k == slot) ≡ false) × (k ≢ slot)).
      on_first plan (look_behind plan.scan (Slot k bits) word) (inl (ahead_behind plan.scan.slots plan.scan.grouped slot (Slot k bits) word there ahead n.1)))
      (eqb_tells k slot)

  behind_second : (plan : MembPlan) (look : Look) (word : ℕ) → slot < plan.scan.slots → MayStand plan (SecondScan look) → Passed plan look word → MayStand plan (scans_on SecondScan StoreEven (look_behind plan.scan look word))
  behind_second plan (Group g) word there may passed =
      on_second plan (look_behind plan.scan (Group g) word) (ahead_behind plan.scan.slots plan.scan.grouped slot (Group g) word there may.0 passed) may.1
  behind_second plan (Slot k bits) word there may passed =
      on_second plan (look_behind plan.scan (Slot k bits) word)
      (ahead_behind plan.scan.slots plan.scan.grouped slot (Slot k bits) word there may.0 (λ same. not_own plan.phase (sym may.1 ∙ passed same))) may.1

  -- a scan's turn waits, or its look was passed
  by_scan : (plan next : MembPlan) (look : Look) (word : ℕ) → Awaits plan → ShowsOpen false layout slot mark (look_action look) word → (Passed plan look word → Awaits next) → Awaits (after_turn next plan (scan_turn plan look word))
  by_scan plan next (Group g) word now shown goes_on = goes_on shown
  by_scan plan next (Slot k bits) word now shown goes_on = by_test (stands plan.layout word plan.phase) refl
    where
      by_test : (b : Bool) → stands plan.layout word plan.phase ≡ b → Awaits (after_turn next plan (if b then Wait else Step))
      by_test true t = now
      by_test false t =
          goes_on (λ here. let w = shown here in passes layout word plan.phase (mark == 1) w.0 w.1 (ap (λ l. stands l word plan.phase) (sym now.words) ∙ t))

  lasts_at : (plan : MembPlan) (place : Place) (word : ℕ) → Awaits plan → MayStand plan place → ShowsOpen false layout slot mark (action_at plan place) word → Awaits (after_turn (moved_at plan place word) plan (memb_turn_at plan place word))
  lasts_at plan StoreOdd word now may shown = record { words = now.words; there = now.there; stands_where = tt }
  lasts_at plan Flip word now may shown = record {
    words = now.words;
    there = now.there;
    stands_where = on_first (record plan { phase = not plan.phase }) (first_look plan.scan) (inl (ahead_first plan.scan.slots plan.scan.grouped slot now.there));
  }
  lasts_at plan (FirstScan look) word now may shown =
      by_scan plan (moved_at plan (FirstScan look) word) look word now shown
      (λ passed. record { words = now.words; there = now.there; stands_where = behind_first plan look word now.there may passed })
  lasts_at plan FlipBack word now may shown = record {
    words = now.words;
    there = now.there;
    stands_where = on_second (record plan { phase = not plan.phase }) (first_look plan.scan) (ahead_first plan.scan.slots plan.scan.grouped slot now.there) (may ∙ sym (not_not plan.phase));
  }
  lasts_at plan (SecondScan look) word now may shown =
      by_scan plan (moved_at plan (SecondScan look) word) look word now shown
      (λ passed. record { words = now.words; there = now.there; stands_where = behind_second plan look word now.there may passed })
  lasts_at plan StoreEven word now may shown = absurd may
  lasts_at plan Done word now may shown = absurd may

  ends_at : (plan : MembPlan) (place : Place) → MayStand plan place → action_at plan place ≢ Finished
  ends_at plan StoreOdd may e = cc
  ends_at plan Flip may e = cc
  ends_at plan (FirstScan look) may e = look_not_end look e
  ends_at plan FlipBack may e = cc
  ends_at plan (SecondScan look) may e = look_not_end look e
  ends_at plan StoreEven may e = absurd may
  ends_at plan Done may e = absurd may

begun_waits : (layout : Layout) (grouped : Bool) (slots seq word : ℕ) (phase : Bool) → WaitsForOpen false memb_action memb_taken layout slots word (memb_begun layout grouped slots seq phase)
begun_waits layout grouped slots seq word phase slot mark loads within low since =
    waits_since memb_action memb_taken (ShowsOpen false layout slot mark) (Awaits layout slot mark)
    (λ p w now shown. lasts_at layout slot mark p p.place w now now.stands_where shown)
    (λ p now. ends_at layout slot mark p p.place now.stands_where)
    (λ value w. tt)
    (memb_begun layout grouped slots seq phase) _ refl loads (record { words = refl; there = within; stands_where = tt }) since

pub memb_waits : (layout : Layout) (grouped : Bool) (slots seq word : ℕ) (plan : MembPlan) → plan ≡ memb_begun layout grouped slots seq (word == 1) → WaitsForOpen false memb_action memb_taken layout slots word plan
memb_waits layout grouped slots seq word plan begun =
    subst (λ p. WaitsForOpen false memb_action memb_taken layout slots word p) (sym begun) (begun_waits layout grouped slots seq word (word == 1))

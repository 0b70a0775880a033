-- The loads after which a shorter plan is finished though a section is open.
use Rattle.std.specs.Prelude.{◌≡◌, ℕ, true, false, [], ◌∷◌, None, refl}
use Rattle.std.proofs.Common.{sym, arith, true≢false, ◌≤◌}
use Rattle.reader_word.specs.declared.layout.Layout.{Layout}
use Rattle.reader_word.specs.declared.layout.Layout.TheVariants.{Narrow, Wide}
use Rattle.reader_word.specs.Word.{fresh}
use Rattle.gp_memb.specs.Plan.{Shows, WaitsForOpen}
use Rattle.gp_memb.specs.Memb.{memb_begun, memb_action}
use Rattle.gp_memb.specs.Early.{early_action, early_taken}
use Rattle.gp_memb.specs.Shorter.{one_flip, one_scan, stops_at_empty}

-- a fresh word shows a section with its phase
shows_one : (layout : Layout) → Shows false layout 1 (fresh layout true)
shows_one Narrow = ((λ e. omega arith), refl)
shows_one Wide = ((λ e. omega arith), refl)

shows_zero : (layout : Layout) → Shows false layout 0 (fresh layout false)
shows_zero Narrow = ((λ e. omega arith), refl)
shows_zero Wide = ((λ e. omega arith), refl)

apart : ◌≡◌ {A = ℕ} 0 1 → ⊥
apart e = omega arith

-- of the other flavour nothing is asked
not_qsbr : (mark word : ℕ) → false ≡ true → mark ≤ word
not_qsbr mark word never = absurd (true≢false (sym never))

-- a reader that loaded phase 1 before the plan began stores its word after the flip
pub one_flip_breaks : (layout : Layout) → ¬ WaitsForOpen false memb_action one_flip layout 1 0 (memb_begun layout false 1 0 false)
one_flip_breaks Narrow waits =
    waits 0 1 (0 ∷ 0 ∷ fresh Narrow true ∷ 0 ∷ []) (omega arith) (not_qsbr 1 0)
    (tt, ((λ e. shows_one Narrow), (tt, tt))) refl
one_flip_breaks Wide waits =
    waits 0 1 (0 ∷ 0 ∷ fresh Wide true ∷ 0 ∷ []) (omega arith) (not_qsbr 1 0)
    (tt, ((λ e. shows_one Wide), (tt, tt))) refl

-- the phase is flipped back before the one scan, so a section of the old phase passes it
pub one_scan_breaks : (layout : Layout) → ¬ WaitsForOpen false memb_action one_scan layout 1 0 (memb_begun layout false 1 0 false)
one_scan_breaks Narrow waits =
    waits 0 0 (0 ∷ 0 ∷ 0 ∷ fresh Narrow false ∷ 0 ∷ []) (omega arith) (not_qsbr 0 0)
    (tt, (tt, ((λ e. shows_zero Narrow), (tt, tt)))) refl
one_scan_breaks Wide waits =
    waits 0 0 (0 ∷ 0 ∷ 0 ∷ fresh Wide false ∷ 0 ∷ []) (omega arith) (not_qsbr 0 0)
    (tt, (tt, ((λ e. shows_zero Wide), (tt, tt)))) refl

-- each scan stops at the empty slot 0, and the section is in slot 1
pub stopping_breaks : (layout : Layout) → ¬ WaitsForOpen false memb_action stops_at_empty layout 2 0 (memb_begun layout false 2 0 false)
stopping_breaks Narrow waits =
    waits 1 0 (0 ∷ 0 ∷ 0 ∷ 0 ∷ 0 ∷ 0 ∷ []) (omega arith) (not_qsbr 0 0)
    (tt, ((λ e. absurd (apart e)), (tt, ((λ e. absurd (apart e)), (tt, tt))))) refl
stopping_breaks Wide waits =
    waits 1 0 (0 ∷ 0 ∷ 0 ∷ 0 ∷ 0 ∷ 0 ∷ []) (omega arith) (not_qsbr 0 0)
    (tt, ((λ e. absurd (apart e)), (tt, ((λ e. absurd (apart e)), (tt, tt))))) refl

-- the group word is loaded while the slot is free; the slot is claimed, and the section opens, before the first store
pub early_breaks : (layout : Layout) → ¬ WaitsForOpen false early_action early_taken layout 1 0 (record { early = None; plan = memb_begun layout true 1 0 false })
early_breaks layout waits =
    waits 0 0 (0 ∷ 0 ∷ 0 ∷ 1 ∷ 0 ∷ 1 ∷ 0 ∷ []) (omega arith) (not_qsbr 0 0) (tt, ((λ _. refl), (tt, ((λ _. refl), (tt, tt))))) refl

-- A word of a fresh record that was looked at, and then stored.
use Rattle.step_records.proofs.Cited.{◌≡◌, Bool, ℕ, sym, ap, ◌∙◌, subst, begins_trans, Me, LiveEvent, Log, Sizes, View, RecordRight, IsFresh, KnowsChains, Went, cell_in}

module _ {S : Type 0} (qsbr : Bool) (allows : Log → LiveEvent → Type 0) (m n : Me S View) (looked : Went qsbr allows m.0 m n) where
  -- the record is the seat's still
  pub still_fresh : (key : Sizes) (i : ℕ) → m.0.sizes ≡ key → IsFresh m.0 × (cell_in m.0.object ≡ i) → (n.0.sizes ≡ key) × IsFresh n.0 × (cell_in n.0.object ≡ i)
  still_fresh key i sizes fresh = subst (λ (v : View). (v.sizes ≡ key) × IsFresh v × (cell_in v.object ≡ i)) (sym looked.1) (sizes, fresh.0, fresh.1)

  -- the store alone changed the right
  pub stored_then : (f : RecordRight → RecordRight) (p : Me S View) → Went qsbr allows (record n.0 { object = f n.0.object }) n p × KnowsChains n.0 p.0 → Went qsbr allows (record m.0 { object = f m.0.object }) m p × KnowsChains m.0 p.0
  stored_then f p (went, knows) = (
    (
      went.0 ∙ looked.0,
      went.1 ∙ ap (λ (v : View). record v { object = f v.object; seen = p.0.seen }) looked.1,
      (begins_trans m.0.seen n.0.seen p.0.seen looked.2.0 went.2.0, begins_trans m.0.heard n.0.seen p.0.seen looked.2.1 went.2.0, went.2.2),
    ),
    subst (λ (v : View). KnowsChains v p.0) looked.1 knows,
  )

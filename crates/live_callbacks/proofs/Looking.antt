-- What two loads tell, one after the other.
use Rattle.live_callbacks.proofs.Cited.{Bool, ◌≡◌, ℕ, ◌∷◌, sym, ap, ◌∙◌, Me, LiveEvent, Log, begins_trans, Loaded, View, IsLater, Went, looked_view}
use Rattle.live_callbacks.specs.Working.{HasLooked, Looks}

looks_as : (v w : View) (l : Looks) → w ≡ record v { seen = w.seen; looks = l } → w ≡ record v { seen = w.seen; looks = w.looks }
looks_as v w l e = e ∙ ap (λ (k : Looks). record v { seen = w.seen; looks = k }) (sym (ap (λ (z : View). z.looks) e))

module _ {S : Type 0} (qsbr : Bool) (allows : Log → LiveEvent → Type 0) (m u w : Me S View) (a n b k : ℕ) (x : Went qsbr allows (looked_view a n m.0) m u) (y : Went qsbr allows (looked_view b k u.0) u w) where
  pub later_twice : IsLater qsbr allows m.0 w.0
  later_twice = (begins_trans m.0.seen u.0.seen w.0.seen x.2.0 y.2.0, begins_trans m.0.heard u.0.seen w.0.seen x.2.1 y.2.0, y.2.2)

  pub looked_twice : HasLooked m.0 w.0
  looked_twice = (
    looks_as m.0 w.0 (Loaded b k ∷ Loaded a n ∷ m.0.looks) (y.1 ∙ ap (λ (z : View). record (looked_view b k z) { seen = w.0.seen }) x.1),
    begins_trans m.0.seen u.0.seen w.0.seen x.2.0 y.2.0,
  )

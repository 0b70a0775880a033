-- How a worker stopped.
use Rattle.rcu.proofs.Cited.{Gv, ◌≡◌, ℕ, Bool, subst, LiveEvent, Log, Sizes, Ghosts, Ripe, Stop, HasWorkedFor}
use Rattle.rcu.specs.Serving.{Works}

-- it is told by the one name or the other
pub works_so : {W S D : Type 0} (w : Ghosts W S) (code : D → Gv) (answers : D → Ripe → ℕ → Type 0) (qsbr : Bool) (allows : Log → LiveEvent → Type 0) (sizes : Sizes) (q : ℕ) (old new : W) {entries : _} {items : _} {s t : Stop} → s ≡ t → HasWorkedFor w code answers qsbr allows sizes q old new entries items s → Works w code answers qsbr allows sizes q old new t
works_so w code answers qsbr allows sizes q old new is h = (_, _, subst (HasWorkedFor w code answers qsbr allows sizes q old new _ _) is h)

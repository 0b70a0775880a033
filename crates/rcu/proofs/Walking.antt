-- What is so of each call with an entry is so of all that a walk makes.
use Rattle.rcu.proofs.Cited.{◌≡◌, ◌∙◌, List, [], ◌∷◌, sym, ap, subst, FoldsTo}

-- by what is called, and by a name that each call leaves as it was
pub folds_through : {F V X N : Type 0} (step : F → X → F → Type 0) (called : V → X → V → Type 0) (of : F → V) (name : F → N)
    → ((f : F) (x : X) (g : F) → step f x g → called (of f) x (of g) × (name g ≡ name f))
    → (xs : List X) (f g : F) → FoldsTo step f xs g → FoldsTo called (of f) xs (of g) × (name g ≡ name f)
folds_through step called of name each [] f g e = (ap of e, ap name (sym e))
folds_through step called of name each (x ∷ xs) f g e =
    let now = each f x e.0 e.1 in
    let rest = folds_through step called of name each xs e.0 g e.2 in
    ((of e.0, now.0, rest.0), rest.1 ∙ now.1)

-- and in another form of the end
pub folds_at : {V X : Type 0} (called : V → X → V → Type 0) (start : V) (xs : List X) (now v : V) → v ≡ now → FoldsTo called start xs now → FoldsTo called start xs v
folds_at called start xs now v e = subst (FoldsTo called start xs) (sym e)

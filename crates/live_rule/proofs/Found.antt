-- What was found earlier, or later, was found.
use Rattle.live_rule.proofs.Cited.{◌≡◌, ℕ, List, [], ◌∷◌, ◌++◌, ◌∙◌, refl, ap, inr, in_left}
use Rattle.live_rule.specs.declared.view.Look.{Look}
use Rattle.live_rule.specs.declared.view.Look.TheVariants.{Loaded, Stored}
use Rattle.live_rule.specs.Steps.{FoundIn, stores_in}

pub found_left : (found more : List Look) (place : ℕ) (so : ℕ → Type 0) → FoundIn found place so → FoundIn (found ++ more) place so
found_left found more place so f = (f.0, in_left found more (Loaded place f.0) f.1, f.2)

pub found_right : (more found : List Look) (place : ℕ) (so : ℕ → Type 0) → FoundIn found place so → FoundIn (more ++ found) place so
found_right [] found place so f = f
found_right (x ∷ more) found place so f = let g = found_right more found place so f in (g.0, inr g.1, g.2)

stores_append : (more found : List Look) → stores_in (more ++ found) ≡ stores_in more ++ stores_in found
stores_append [] found = refl
stores_append (Loaded a n ∷ more) found = stores_append more found
stores_append (Stored a n ∷ more) found = ap (λ (l : List (ℕ × ℕ)). (a, n) ∷ l) (stores_append more found)

-- what was stored, and what more was
pub stores_then : (found more : List Look) (old new : List (ℕ × ℕ)) → stores_in found ≡ old → stores_in more ≡ new → stores_in (more ++ found) ≡ new ++ old
stores_then found more old new first then = stores_append more found ∙ (λ i. then i ++ first i)

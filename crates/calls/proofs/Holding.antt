-- What a reader holds, from one line to the next.
use Rattle.gp_memb.specs.declared.plan.GracePlan as plan
use Rattle.calls.proofs.Cited.{◌≡◌, ◌<◌, refl, subst, Option, Some, None, Result, Ok, Err, IfSome, IfOk, IfErr, Bool, true, false, MatchBool, Held, ReaderCore, KeepsHeld, held_in}
use Rattle.calls.specs.Standing.{Stands}

-- what follows from either outcome
pub either_on : {X Y : Type 0} (m : Result X Y) (P : X → Type 0) (Q : Y → Type 0) (G : Type 0) → IfOk m P → IfErr m Q → ((x : X) → P x → G) → ((y : Y) → Q y → G) → G
either_on (Ok x) P Q G a b f h = f x a
either_on (Err y) P Q G a b f h = h y b

-- what follows from either answer
pub either_way : (b : Bool) (P Q G : Type 0) → MatchBool b P Q → (P → G) → (Q → G) → G
either_way true P Q G a f h = f a
either_way false P Q G a f h = h a

module _ {P K : Type 0} {g : plan.Ghosts P} where
  -- what stood stands on, where a lock stays open and what was held is kept
  pub stand_on : (r s : ReaderCore P K g) (held : Option Held) → (0 < r.depth → (0 < s.depth) × KeepsHeld r s) → Stands r held → Stands s held
  stand_on r s (Some h) on x = let y = on x.0 in (y.0, held_in r s h.cell y.1 x.1)
  stand_on r s None on x = tt

  -- what is kept at the new depth stands on
  pub stand_kept : (r s : ReaderCore P K g) (old new : Option Held) → IfSome new (λ h. (0 < s.depth) × (old ≡ Some h)) → (0 < s.depth → KeepsHeld r s) → Stands r old → Stands s new
  stand_kept r s old (Some h) x on stands = let y : Stands r (Some h) = subst (λ (o : Option Held). Stands r o) x.1 stands in (x.0, held_in r s h.cell (on x.0) y.1)
  stand_kept r s old None x on stands = tt

  pub keeps_same : (r : ReaderCore P K g) → KeepsHeld r r
  keeps_same r = record { held = λ o cell x. x; notes = λ o cell x. refl }

use Rattle.std.proofs.Common.{◌≡◌, ◌↔◌, ◌∷◌, ◌≤◌, ◌<◌, ◌^◌, ℕ, List, Option, Some, IsTrue, Bool, ap, sym, subst, ◌∙◌}
use Rattle.std.proofs.Math.Dec.{leb}
use Rattle.std.proofs.lemmas.Bool.{le-leb, leb-true}
use Rattle.number_runs.specs.Runs.{Has, AreRuns, AreBelow, FindsRunBefore, Reaches, all_runs}
use Rattle.number_runs.proofs.Greatest.{there, has_within, there_below, reached_below}
use Rattle.number_runs.proofs.runs.NumberRuns.contains.Goals as goal

-- the run of the greatest numbers is there
module _ (found : Option (ℕ × ℕ)) (lower now : List (ℕ × ℕ)) (run : ℕ × ℕ) (is : found ≡ Some run) (view_is : all_runs found lower ≡ now) (kept : AreRuns (all_runs found lower) × AreBelow found lower) (number : ℕ) where
  inside : AreRuns (run ∷ lower) × AreBelow (Some run) lower
  inside = subst (λ g. AreRuns (all_runs g lower) × AreBelow g lower) is kept

  are_runs : run ∷ lower ≡ now
  are_runs = ap (λ g. all_runs g lower) (sym is) ∙ view_is

  has_greatest : run.0 ≤ number → IsTrue (leb number run.1) ↔ Has now number
  has_greatest from = (
    (λ t. subst (λ r. Has r number) are_runs (there run lower inside.0 inside.1 number from (leb-true number run.1 t))),
    (λ h. le-leb number run.1 (has_within run lower inside.0 inside.1 number from (subst (λ r. Has r number) (sym are_runs) h))),
  )

  has_other : number < 2 ^ 64 → number < run.0 → (before : Option (ℕ × ℕ)) → FindsRunBefore lower number before → (reached : Bool) → (IsTrue reached ↔ Reaches before number) → IsTrue reached ↔ Has now number
  has_other fits less before finds reached told = (
    (λ t. subst (λ r. Has r number) are_runs (there_below run lower inside.0 inside.1 number fits less before finds (told.0 t))),
    (λ h. told.1 (reached_below run lower inside.0 inside.1 number fits less before finds (subst (λ r. Has r number) (sym are_runs) h))),
  )

pub returns-then-number-least : goal.returns-then-number-least
returns-then-number-least c = has_greatest c.self.inside.greatest c.self.inside.lower.entries c.args.self.now (c.in-Some.least, c.in-Some.most) c.in-Some.is c.self.view_is c.self.invariant c.args.number c.if-number-least.true

pub returns : goal.returns
returns c = has_other c.self.inside.greatest c.self.inside.lower.entries c.args.self.now (c.in-Some.least, c.in-Some.most) c.in-Some.is c.self.view_is c.self.invariant c.args.number c.ranges.number.fits c.if-number-least.false
    c.run_before.result c.run_before.ensures c.reaches.result c.reaches.ensures

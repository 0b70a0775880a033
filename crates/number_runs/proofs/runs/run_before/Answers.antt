use Rattle.std.proofs.Common.{arith, is_some, ap}
use Rattle.std.proofs.lemmas.Grind.{common_steps}
use Rattle.number_runs.proofs.runs.run_before.Goals as goal

pub returns-in-Some : goal.returns-in-Some
returns-in-Some c =
    let r = c.range.ensures.in_range tt in
    let e = r.3 _ _ c.in-Some.ensures.steps in
    let most = r.4 _ _ c.in-Some.ensures.steps in
    (e.1, grind (arith, common_steps, e.0.1), (λ first last run within. let h = most first (tt, grind (arith, common_steps, within)) (ap (λ o. is_some o) run) in grind (arith, common_steps, h)))

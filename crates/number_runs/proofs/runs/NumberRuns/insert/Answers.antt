use Rattle.std.proofs.Common.{◌≡◌, ◌⊎◌, ◌↔◌, ◌∷◌, ℕ, ap, sym, subst, ◌∙◌}
use Rattle.number_runs.specs.Runs.{Has, Joins, JoinsUnlessThere, all_runs}
use Rattle.number_runs.proofs.runs.NumberRuns.insert.Goals as goal

pub returns-then-number-greatest-clause-put : goal.returns-then-number-greatest-clause-put
returns-then-number-greatest-clause-put c =
    let joined : Joins c.in-Some.greatest c.self.inside.lower.entries c.in_ok-join_above.field-0 c.join_above.new.lower.entries c.args.number = c.in_ok-join_above.ensures.joined in
    subst (λ r. (n : ℕ) → Has (c.in_ok-join_above.field-0 ∷ c.join_above.new.lower.entries) n ↔ ((c.args.number ≡ n) ⊎ Has r n))
    (ap (λ g. all_runs g c.self.inside.lower.entries) (sym c.in-Some.is) ∙ c.self.view_is) joined.inserts.has

pub returns-clause-put : goal.returns-clause-put
returns-clause-put c =
    let joined : Joins c.in-Some.greatest c.self.inside.lower.entries c.in-Some-2.joined c.join_below.new.lower.entries c.args.number = subst (λ o. JoinsUnlessThere c.in-Some.greatest c.self.inside.lower.entries c.join_below.new.lower.entries c.args.number o) c.in-Some-2.is c.in_ok-joined.ensures.joined in
    subst (λ r. (n : ℕ) → Has (c.in-Some-2.joined ∷ c.join_below.new.lower.entries) n ↔ ((c.args.number ≡ n) ⊎ Has r n))
    (ap (λ g. all_runs g c.self.inside.lower.entries) (sym c.in-Some.is) ∙ c.self.view_is) joined.inserts.has

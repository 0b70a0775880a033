use Rattle.std.proofs.Common.{◌≡◌, ◌≤◌, ℕ, List, Option, refl, sym, ◌∙◌, subst}
use Rattle.number_runs.specs.Runs.{AreRuns, FindsRunBefore, begins_at}
use Rattle.number_runs.proofs.RunLemmas.{begun_of, none_above, not_reached, stores_alone, stores_joined}
use Rattle.number_runs.proofs.Greatest.{lower_are, there, there_below, joins_greatest, joins_others}
use Rattle.number_runs.proofs.runs.join_below.Goals as goal

pub returns-then-number-greatest-clause-joined : goal.returns-then-number-greatest-clause-joined
returns-then-number-greatest-clause-joined c = (there c.args.greatest c.args.lower.now.entries c.requires.runs.0 c.requires.runs.1 c.args.number c.if-number-greatest.true c.requires.not_above, refl)

pub returns-then-reaches-clause-joined : goal.returns-then-reaches-clause-joined
returns-then-reaches-clause-joined c = (
  there_below c.args.greatest c.args.lower.now.entries c.requires.runs.0 c.requires.runs.1 c.args.number c.ranges.number.fits c.if-number-greatest.false
      c.run_before-before.result c.run_before-before.ensures (c.reaches.ensures.0 c.if-reaches.true),
  refl,
)

pub returns-then-number-greatest-2-clause-joined : goal.returns-then-number-greatest-2-clause-joined
returns-then-number-greatest-2-clause-joined c = joins_greatest c.args.greatest c.args.lower.now.entries c.requires.runs.0 c.requires.runs.1 c.args.number c.ranges.number.fits c.if-number-greatest.false
    c.run_before-before.result c.run_before-before.ensures (not_reached c.reaches.result c.run_before-before.result c.args.number c.reaches.ensures c.if-reaches.false)
    c.first_joined-first.result c.first_joined-first.ensures c.remove.new.self.entries c.if-number-greatest-2.true (λ s. c.remove.ensures.updates.0 s)

pub last_joined-last-requires : goal.last_joined-last-requires
last_joined-last-requires c = lower_are c.args.greatest c.args.lower.now.entries c.requires.runs.0 c.requires.runs.1

-- where the number's run begins
begun : (lower : List (ℕ × ℕ)) (number first : ℕ) (before : Option (ℕ × ℕ)) → AreRuns lower → FindsRunBefore lower number before → first ≡ begins_at before number → first ≤ number
begun lower number first before are found is = subst (λ f. f ≤ number) (sym is) (begun_of lower are number before found)

pub returns-then-last-number-clause-joined : goal.returns-then-last-number-clause-joined
returns-then-last-number-clause-joined c = joins_others c.args.greatest c.args.lower.now.entries c.requires.runs.0 c.requires.runs.1 c.args.number c.ranges.number.fits c.if-number-greatest.false
    c.run_before-before.result c.run_before-before.ensures (not_reached c.reaches.result c.run_before-before.result c.args.number c.reaches.ensures c.if-reaches.false)
    c.first_joined-first.result c.first_joined-first.ensures c.insert.new.self.entries c.last_joined-last.result c.if-number-greatest-2.false c.last_joined-last.ensures
    (stores_alone c.args.lower.now.entries c.insert.new.self.entries c.args.number c.first_joined-first.result c.last_joined-last.result (begun c.args.lower.now.entries c.args.number c.first_joined-first.result c.run_before-before.result (lower_are c.args.greatest c.args.lower.now.entries c.requires.runs.0 c.requires.runs.1) c.run_before-before.ensures c.first_joined-first.ensures) (λ s. c.in_ok-insert.ensures.updates.0 s)
    (none_above c.args.lower.now.entries c.args.number (lower_are c.args.greatest c.args.lower.now.entries c.requires.runs.0 c.requires.runs.1) (sym c.last_joined-last.ensures ∙ c.if-last-number.true)))

pub returns-clause-joined : goal.returns-clause-joined
returns-clause-joined c = joins_others c.args.greatest c.args.lower.now.entries c.requires.runs.0 c.requires.runs.1 c.args.number c.ranges.number.fits c.if-number-greatest.false
    c.run_before-before.result c.run_before-before.ensures (not_reached c.reaches.result c.run_before-before.result c.args.number c.reaches.ensures c.if-reaches.false)
    c.first_joined-first.result c.first_joined-first.ensures c.remove-2.new.self.entries c.last_joined-last.result c.if-number-greatest-2.false c.last_joined-last.ensures
    (stores_joined c.args.lower.now.entries c.insert.new.self.entries c.args.number c.first_joined-first.result c.last_joined-last.result (begun c.args.lower.now.entries c.args.number c.first_joined-first.result c.run_before-before.result (lower_are c.args.greatest c.args.lower.now.entries c.requires.runs.0 c.requires.runs.1) c.run_before-before.ensures c.first_joined-first.ensures) (λ s. c.in_ok-insert.ensures.updates.0 s)
    c.remove-2.new.self.entries (λ s. c.remove-2.ensures.updates.0 s))

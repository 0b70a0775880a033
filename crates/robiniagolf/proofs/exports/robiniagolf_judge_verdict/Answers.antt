use Rattle.std.proofs.Common.{sym, ap, ◌∙◌}
use Rattle.robiniagolf.specs.Verdicts.{verdict_by}
use Rattle.robiniagolf.proofs.Handles.{kept_was_fed, none_was_fed, told_verdict}
use Rattle.robiniagolf.proofs.exports.robiniagolf_judge_verdict.Goals as goal

pub returns-in-Some-clause-so_far : goal.returns-in-Some-clause-so_far
returns-in-Some-clause-so_far c = λ fed k.
    let was = kept_was_fed c.args.judge.now.kept.value c.in-Some.held.value c.deref.result.now fed c.in-Some.ensures.gives c.deref.ensures k in
    (c.found.result, c.found.ensures.found fed was, c.of-verdict.ensures)

pub returns-in-None-clause-so_far : goal.returns-in-None-clause-so_far
returns-in-None-clause-so_far c = λ fed k. absurd (none_was_fed c.args.judge.now.kept.value fed c.in-None.ensures.nothing k)

pub returns-in-Some-clause-told : goal.returns-in-Some-clause-told
returns-in-Some-clause-told c = told_verdict c.args.judge.now.kept.value c.in-Some.held.value c.deref.result.now c.found.result c.of-verdict.result c.in-Some.ensures.gives c.deref.ensures c.found.ensures.same c.of-verdict.ensures

pub returns-in-None-clause-told : goal.returns-in-None-clause-told
returns-in-None-clause-told c = c.no_judge.ensures ∙ sym (ap verdict_by c.in-None.ensures.nothing)

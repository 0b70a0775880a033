use Rattle.std.proofs.Common.{sym, ap, ◌∙◌}
use Rattle.robiniagolf.specs.Verdicts.{verdict_by}
use Rattle.robiniagolf.proofs.Handles.{kept_was_fed, none_was_fed, told_done, told_memory}
use Rattle.robiniagolf.proofs.exports.robiniagolf_judge_finish.Goals as goal

pub returns-in-Some-clause-whole : goal.returns-in-Some-clause-whole
returns-in-Some-clause-whole c = λ fed k.
    let was = kept_was_fed c.args.judge.now.kept.value c.in-Some.held.value c.deref.result.now fed c.in-Some.ensures.gives c.deref.ensures k in
    (c.found_at_end.result, c.found_at_end.ensures.found fed was, c.of-verdict.ensures)

pub returns-in-None-clause-whole : goal.returns-in-None-clause-whole
returns-in-None-clause-whole c = λ fed k. absurd (none_was_fed c.args.judge.now.kept.value fed c.in-None.ensures.nothing k)

pub returns-in-Some-clause-done : goal.returns-in-Some-clause-done
returns-in-Some-clause-done c = told_done c.args.judge.now.kept.value c.in-Some.held.value c.deref.result.now c.found_at_end.result c.of-verdict.result c.in-Some.ensures.gives c.deref.ensures c.found_at_end.ensures.stands c.of-verdict.ensures

pub returns-in-Some-clause-memory : goal.returns-in-Some-clause-memory
returns-in-Some-clause-memory c = λ fed k wanted.
    told_memory c.args.judge.now.kept.value c.in-Some.held.value c.deref.result.now c.found_at_end.result c.of-verdict.result fed c.in-Some.ensures.gives c.deref.ensures c.found_at_end.ensures.memory c.of-verdict.ensures k wanted

pub returns-in-None-clause-done : goal.returns-in-None-clause-done
returns-in-None-clause-done c = λ done. c.no_judge.ensures ∙ sym (ap verdict_by c.in-None.ensures.nothing)

pub returns-in-None-clause-memory : goal.returns-in-None-clause-memory
returns-in-None-clause-memory c = λ fed k wanted. absurd (none_was_fed c.args.judge.now.kept.value fed c.in-None.ensures.nothing k)

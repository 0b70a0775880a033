use Rattle.robiniagolf.proofs.Cited.{◌++◌, sym, ap, subst, TextJudge, WasFed}
use Rattle.robiniagolf.specs.Verdicts.{answer_by}
use Rattle.robiniagolf.proofs.Handles.{kept_was_fed, keeps_fed, none_was_fed, told_answer}
use Rattle.robiniagolf.proofs.exports.robiniagolf_judge_feed.Goals as goal

pub returns-in-Some-clause-fed : goal.returns-in-Some-clause-fed
returns-in-Some-clause-fed c = λ fed k.
    let text = fed ++ c.args.piece.now in
    let was = c.feed.ensures.fed fed (kept_was_fed c.args.judge.now.kept.value c.in-Some.held.value c.deref_mut.result.now fed c.in-Some.ensures.gives c.deref_mut.ensures.value k) in
    let seen = subst (λ (j : TextJudge). WasFed j text) (sym c.deref.ensures) was in
    (keeps_fed c.put_judge.new.handle.kept.value c.feed.new.self text c.put_judge.ensures was, (c.found.result, c.found.ensures.found text seen, c.answer_of-answer.ensures))

pub returns-in-None-clause-fed : goal.returns-in-None-clause-fed
returns-in-None-clause-fed c = λ fed k. absurd (none_was_fed c.args.judge.now.kept.value fed c.in-None.ensures.nothing k)

pub returns-in-Some-clause-told : goal.returns-in-Some-clause-told
returns-in-Some-clause-told c = told_answer c.put_judge.new.handle.kept.value c.feed.new.self c.deref.result.now c.found.result c.answer_of-answer.result c.put_judge.ensures c.deref.ensures c.found.ensures.same c.answer_of-answer.ensures

pub returns-in-None-clause-told : goal.returns-in-None-clause-told
returns-in-None-clause-told c = sym (ap answer_by c.in-None.ensures.empty)

use Rattle.judging.proofs.Cited.{List, length, sym, ap, subst, Event, IsRun}
use Rattle.judging.proofs.text_judge.TextJudge.new.Goals as goal

pub returns-clause-fed : goal.returns-clause-fed
returns-clause-fed c = record {
  judged = c.new.ensures.judged;
  run = subst IsRun (sym c.new.ensures.none) tt;
  counted = ap (λ (es : List Event). length es) (sym c.new.ensures.none);
}

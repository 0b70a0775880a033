use Rattle.std.proofs.Common.{sym, ◌∙◌}
use Rattle.judging.proofs.Findings.{found_final, found_whole, found_unended, unended_told}
use Rattle.judging.proofs.text_judge.TextJudge.found_at_end.Goals as goal

pub returns-then-is_final-clause-found : goal.returns-then-is_final-clause-found
returns-then-is_final-clause-found c = λ fed w. let judge = c.args.self.now in found_final judge.judging fed judge.found (sym c.is_final.ensures ∙ c.if-is_final.true) w

pub returns-in-Ok-clause-found : goal.returns-in-Ok-clause-found
returns-in-Ok-clause-found c = λ fed w. let judge = c.args.self.now in found_whole judge.judging fed judge.found c.in-Ok.field-0 (sym c.is_final.ensures ∙ c.if-is_final.false) w c.in-Ok.ensures

pub returns-in-Err-clause-found : goal.returns-in-Err-clause-found
returns-in-Err-clause-found c = λ fed w. let judge = c.args.self.now in
    rw c.finding_of.ensures (found_unended judge.judging fed judge.found c.in-Err.unended (sym c.is_final.ensures ∙ c.if-is_final.false) w c.in-Err.ensures)

pub returns-in-Err-clause-memory : goal.returns-in-Err-clause-memory
returns-in-Err-clause-memory c = λ fed w is. let judge = c.args.self.now in
    unended_told judge.judging fed judge.found c.in-Err.unended (sym c.is_final.ensures ∙ c.if-is_final.false) w c.in-Err.ensures (sym c.finding_of.ensures ∙ is)

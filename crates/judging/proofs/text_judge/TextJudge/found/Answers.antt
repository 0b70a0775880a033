use Rattle.judging.proofs.Findings.{found_so_far}
use Rattle.judging.proofs.text_judge.TextJudge.found.Goals as goal

pub returns-clause-found : goal.returns-clause-found
returns-clause-found c = λ fed w. found_so_far c.args.self.now.judging fed c.args.self.now.found w

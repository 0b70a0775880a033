use Rattle.rcu_judge.proofs.SectionLemmas.{awaits_all}
use Rattle.rcu_judge.proofs.sections.Sections.moment.Goals as goal

pub returns : goal.returns
returns c = λ seen still a. awaits_all c.args.self.now seen still a

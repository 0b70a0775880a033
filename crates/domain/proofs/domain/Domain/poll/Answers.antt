use Rattle.domain.proofs.Cited.{subst, Log, Begins}
use Rattle.domain.proofs.domain.Domain.poll.Goals as goal

pub returns-clause-later : goal.returns-clause-later
returns-clause-later g c past log run after beside = c.poll-past.ensures.later past log run after (subst (λ (l : Log). Begins l log) c.learn.ensures.heard beside)

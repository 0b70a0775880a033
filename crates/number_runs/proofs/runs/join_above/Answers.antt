use Rattle.number_runs.proofs.Greatest.{extends, begins_anew}
use Rattle.number_runs.proofs.runs.join_above.Goals as goal

pub returns-in_ok-insert-clause-joined : goal.returns-in_ok-insert-clause-joined
returns-in_ok-insert-clause-joined c = begins_anew c.args.greatest c.args.lower.now.entries c.requires.runs.0 c.requires.runs.1 c.args.number c.ranges.number.fits c.requires.above
    c.first_joined-first.result c.insert.new.self.entries c.first_joined-first.ensures c.if-first-number.true (λ s. c.in_ok-insert.ensures.updates.0 s)

pub returns-else-first-number-clause-joined : goal.returns-else-first-number-clause-joined
returns-else-first-number-clause-joined c = extends c.args.greatest c.args.lower.now.entries c.requires.runs.0 c.requires.runs.1 c.args.number c.ranges.number.fits c.requires.above
    c.first_joined-first.result c.first_joined-first.ensures c.if-first-number.false

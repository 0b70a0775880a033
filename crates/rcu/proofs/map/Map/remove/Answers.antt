use Rattle.rcu.proofs.map.Map.remove.Goals as goal

pub returns-in-Ok-clause-removed : goal.returns-in-Ok-clause-removed
returns-in-Ok-clause-removed g c = (_, c.in-Ok.ensures.removed)

use Rattle.rcu.proofs.Cited.{rules, looks_twice}
use Rattle.rcu.specs.Slots.{any_change}
use Rattle.rcu.proofs.slot.Slot.read.Goals as goal

pub returns-in-Ok-Some-clause-looked : goal.returns-in-Ok-Some-clause-looked
returns-in-Ok-Some-clause-looked g c = looks_twice g.P.GracePlan.QSBR any_change c.args.section.now.reader.now.core c.first.new.self.reader.now.core c.read.new.self.reader.now.core (search rules) (search rules)

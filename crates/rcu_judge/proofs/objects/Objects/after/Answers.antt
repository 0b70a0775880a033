use Rattle.std.proofs.Common.{◌∙◌, sym}
use Rattle.rcu_judge.proofs.ObjectsKept.{successor}
use Rattle.rcu_judge.proofs.objects.Objects.after.Goals as goal

pub returns : goal.returns
returns c now moments tickets k = successor c.args.self.now now moments tickets k c.args.object c.in_ok-state_of.field-0 (sym c.state_of.ensures ∙ c.in_ok-state_of.was)

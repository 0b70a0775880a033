use Rattle.std.proofs.Common.{◌∙◌, sym, ap, length}
use Rattle.rcu_judge.proofs.Places.{count_places}
use Rattle.rcu_judge.proofs.roster.Roster.moment.Goals as goal

pub returns : goal.returns
returns c = sym (count_places c.self.inside.came c.self.inside.kept.items) ∙ ap length c.self.view_is

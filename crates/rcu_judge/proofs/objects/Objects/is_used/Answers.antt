use Rattle.std.proofs.Common.{sym}
use Rattle.rcu_judge.proofs.ObjectsKept.{used_found, used_run}
use Rattle.rcu_judge.proofs.objects.Objects.is_used.Goals as goal

pub returns-in-Some : goal.returns-in-Some
returns-in-Some c = λ now moments tickets k. used_found c.args.self.now now moments tickets k c.args.object _ (sym c.in-Some.ensures)

pub returns-in-None : goal.returns-in-None
returns-in-None c = λ now moments tickets k. used_run c.args.self.now now moments tickets k c.args.object c.contains.result c.contains.ensures (sym c.in-None.ensures)

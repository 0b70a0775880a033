use Rattle.std.proofs.Common.{◌∙◌, sym}
use Rattle.rcu_judge.proofs.ObjectsKept.{waits}
use Rattle.rcu_judge.proofs.objects.Objects.queued.Goals as goal

pub returns-in-Queued : goal.returns-in-Queued
returns-in-Queued c now moments tickets k =
    waits c.args.self.now now moments tickets k c.args.object c.in_ok-moment.field-0 c.in-Queued.moment c.in-Queued.ticket
    (sym c.state_of.ensures ∙ c.in_ok-moment.was) c.in-Queued.is

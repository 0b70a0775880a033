use Rattle.rcu_judge.proofs.Cited.{Some, sym, refl, Queue, after, at_object}
use Rattle.rcu_judge.specs.declared.object.ObjectState.{ObjectState}
use Rattle.rcu_judge.specs.declared.object.Stage.TheVariants.{Queued}
use Rattle.rcu_judge.specs.Objects.{heads_of, states_of, written}
use Rattle.rcu_judge.proofs.ObjectsStores.{done}
use Rattle.rcu_judge.proofs.ObjectsStages.{may_queue, shows_queued}
use Rattle.rcu_judge.proofs.ObjectsKept.{found, kept_at, knows_at}
use Rattle.rcu_judge.proofs.objects.Objects.queue.Goals as goal

pub returns : goal.returns
returns c now moments tickets queue k =
    let old = c.args.self.now in
    let o = c.args.object in
    let t = c.in-Some.state in
    let moment = c.in-Retired.moment in
    let is = found old now moments tickets k o t (sym c.in-Some.ensures) in
    let f : ObjectState → ObjectState = λ x. record x { stage = Queued moment c.args.ticket } in
    done (may_queue (heads_of old.heads) k.state now moments tickets k.shows o t is moment c.in-Retired.is)
    (knows_at (record old { known = c.put_stage.new.states }) (after now (Queue o queue)) moments (at_object o c.args.ticket tickets)
    (heads_of old.heads) (at_object o (Some (f t)) k.state) (written (states_of old.known) (Some o) f) old.reclaimed
    refl c.put_stage.ensures.wrote refl (kept_at now.reclaimed k.state (states_of old.known) o t f is k.kept) k.past
    (shows_queued (heads_of old.heads) k.state now moments tickets k.shows o t is moment c.args.ticket queue c.in-Retired.is))

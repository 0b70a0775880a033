use Rattle.rcu_judge.proofs.Cited.{Some, sym, refl, Retire, after, at_object}
use Rattle.rcu_judge.specs.declared.object.ObjectState.{ObjectState}
use Rattle.rcu_judge.specs.declared.object.Stage.TheVariants.{Retired}
use Rattle.rcu_judge.specs.Objects.{heads_of, states_of, written}
use Rattle.rcu_judge.proofs.ObjectsStores.{done}
use Rattle.rcu_judge.proofs.ObjectsStages.{may_retire, shows_retired}
use Rattle.rcu_judge.proofs.ObjectsKept.{found, kept_at, knows_at}
use Rattle.rcu_judge.proofs.objects.Objects.retire.Goals as goal

pub returns : goal.returns
returns c now moments tickets k =
    let old = c.args.self.now in
    let o = c.args.object in
    let t = c.in-Some.state in
    let is = found old now moments tickets k o t (sym c.in-Some.ensures) in
    let f : ObjectState → ObjectState = λ x. record x { stage = Retired c.args.moment } in
    done (may_retire (heads_of old.heads) k.state now moments tickets k.shows o t is c.in-Cut.is)
    (knows_at (record old { known = c.put_stage.new.states }) (after now (Retire o)) (at_object o c.args.moment moments) tickets
    (heads_of old.heads) (at_object o (Some (f t)) k.state) (written (states_of old.known) (Some o) f) old.reclaimed
    refl c.put_stage.ensures.wrote refl (kept_at now.reclaimed k.state (states_of old.known) o t f is k.kept) k.past
    (shows_retired (heads_of old.heads) k.state now moments tickets k.shows o t is c.args.moment c.in-Cut.is))

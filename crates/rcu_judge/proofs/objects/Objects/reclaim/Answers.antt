use Rattle.rcu_judge.proofs.Cited.{None, refl, Run, after, at_object}
use Rattle.rcu_judge.specs.Objects.{heads_of, states_of}
use Rattle.rcu_judge.proofs.ObjectsTables.{states_put}
use Rattle.rcu_judge.proofs.ObjectsStages.{shows_run}
use Rattle.rcu_judge.proofs.ObjectsKept.{knows_at, kept_run, past_run}
use Rattle.rcu_judge.proofs.objects.Objects.reclaim.Goals as goal

pub returns-clause-run : goal.returns-clause-run
returns-clause-run c now moments tickets k queued =
    let old = c.args.self.now in
    let o = c.args.object in
    knows_at (record { known = c.remove.new.self; heads = old.heads; reclaimed = c.insert.new.self }) (after now (Run o)) moments tickets
    (heads_of old.heads) k.state (at_object o None (states_of old.known)) c.insert.new.self
    refl (states_put old.known c.remove.new.self o None (λ q. c.remove.ensures.updates.0 q)) refl
    (kept_run now.reclaimed k.state (states_of old.known) o k.kept)
    (past_run now.reclaimed old.reclaimed c.insert.new.self o k.past c.in_ok-insert.ensures.put)
    (shows_run (heads_of old.heads) k.state now moments tickets o queued k.shows)

use Rattle.rcu_judge.proofs.Cited.{Some, None, sym, Cut, after, none_some}
use Rattle.rcu_judge.specs.declared.object.Splice.{Splice}
use Rattle.rcu_judge.specs.Objects.{heads_of}
use Rattle.rcu_judge.proofs.ObjectsStores.{kept_reached, done, has_old, shows_cut}
use Rattle.rcu_judge.proofs.ObjectsKept.{linked_found, knows_spliced}
use Rattle.rcu_judge.proofs.objects.Objects.cut.Goals as goal

pub returns-clause-done : goal.returns-clause-done
returns-clause-done c now moments tickets reached k =
    let old = c.args.self.now in
    let t = c.in-Some.state in
    let linked = linked_found old now moments tickets k c.args.object c.args.chain t (sym c.in-Some.ensures) in
    let s : Splice = record { chain = c.args.chain; before = t.before; after = t.after; leaves = Some c.args.object; enters = None } in
    done (has_old (heads_of old.heads) k.state now moments tickets (kept_reached now reached) k.shows c.args.chain c.args.object t linked)
    (knows_spliced old c.splice.new.self now (after now (Cut c.args.chain c.args.object)) moments tickets k s c.in_ok-splice.ensures.heads c.in_ok-splice.ensures.states c.splice.ensures.rest (λ p e. absurd (none_some p e))
    (shows_cut (heads_of old.heads) k.state now moments tickets (kept_reached now reached) k.shows c.args.chain c.args.object t linked))

use Rattle.rcu_judge.proofs.Cited.{Some, None, sym, true≢false, subst, ◌∙◌, Push, after, HasObject, some_is}
use Rattle.rcu_judge.specs.declared.object.Splice.{Splice}
use Rattle.rcu_judge.specs.Objects.{heads_of}
use Rattle.rcu_judge.proofs.ObjectsStores.{kept_reached, refused, done, shows_pushed}
use Rattle.rcu_judge.proofs.ObjectsKept.{new_is, knows_spliced}
use Rattle.rcu_judge.proofs.objects.Objects.push.Goals as goal

pub returns-then-is_used-clause-done : goal.returns-then-is_used-clause-done
returns-then-is_used-clause-done c now moments tickets reached k = refused (λ new. new ((c.is_used.ensures now moments tickets k).0 c.if-is_used.true))

pub returns-clause-done : goal.returns-clause-done
returns-clause-done c now moments tickets reached k =
    let old = c.args.self.now in
    let o = c.args.object in
    let unused : ¬ HasObject now.used o = λ u. true≢false (sym ((c.is_used.ensures now moments tickets k).1 u) ∙ c.if-is_used.false) in
    let new = new_is old now moments tickets k o unused in
    let s : Splice = record { chain = c.args.chain; before = None; after = c.first-after.result; leaves = None; enters = Some o } in
    done unused
    (knows_spliced old c.splice.new.self now (after now (Push c.args.chain o)) moments tickets k s c.in_ok-splice.ensures.heads c.in_ok-splice.ensures.states c.splice.ensures.rest (λ p e. subst (λ q. ¬ HasObject now.reclaimed q) (some_is o p e) new.1)
    (shows_pushed (heads_of old.heads) k.state now moments tickets (kept_reached now reached) k.shows c.args.chain o c.first-after.result c.first-after.ensures.head new.0))

use Rattle.rcu_judge.proofs.Cited.{Some, sym, true≢false, subst, ◌∙◌, Replace, after, HasObject, some_is}
use Rattle.rcu_judge.specs.declared.object.Splice.{Splice}
use Rattle.rcu_judge.specs.Objects.{heads_of}
use Rattle.rcu_judge.proofs.ObjectsStores.{kept_reached, refused, done, has_old, shows_replaced}
use Rattle.rcu_judge.proofs.ObjectsKept.{new_is, linked_found, knows_spliced}
use Rattle.rcu_judge.proofs.objects.Objects.replace.Goals as goal

pub returns-then-is_used-clause-done : goal.returns-then-is_used-clause-done
returns-then-is_used-clause-done c now moments tickets reached k = refused (λ a. a.1 ((c.is_used.ensures now moments tickets k).0 c.if-is_used.true))

pub returns-clause-done : goal.returns-clause-done
returns-clause-done c now moments tickets reached k =
    let old = c.args.self.now in
    let o = c.args.new in
    let t = c.in-Some.state in
    let linked = linked_found old now moments tickets k c.args.old c.args.chain t (sym c.in-Some.ensures) in
    let unused : ¬ HasObject now.used o = λ u. true≢false (sym ((c.is_used.ensures now moments tickets k).1 u) ∙ c.if-is_used.false) in
    let new = new_is old now moments tickets k o unused in
    let s : Splice = record { chain = c.args.chain; before = t.before; after = t.after; leaves = Some c.args.old; enters = Some o } in
    done (has_old (heads_of old.heads) k.state now moments tickets (kept_reached now reached) k.shows c.args.chain c.args.old t linked, unused)
    (knows_spliced old c.splice.new.self now (after now (Replace c.args.chain c.args.old o)) moments tickets k s c.in_ok-splice.ensures.heads c.in_ok-splice.ensures.states c.splice.ensures.rest (λ p e. subst (λ q. ¬ HasObject now.reclaimed q) (some_is o p e) new.1)
    (shows_replaced (heads_of old.heads) k.state now moments tickets (kept_reached now reached) k.shows c.args.chain c.args.old t linked o new.0))

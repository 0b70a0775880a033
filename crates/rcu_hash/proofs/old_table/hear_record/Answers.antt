use Rattle.rcu_hash.proofs.Cited.{IsRecord, ap, replaced_later, object_in, ObjectId, Log, WasReplaced, IfSome, ◌∙◌, sym, subst}
use Rattle.rcu_hash.proofs.old_table.hear_record.Goals as goal

pub returns-clause-its : goal.returns-clause-its
returns-clause-its g c d is =
    let u = c.in_ok-unlinked.unlinked in let now = c.hear_unlinked.new.unlinked in let right = c.hear_unlinked.ensures.right in let old : Log = u.seat.me.0.seen in let log : Log = now.seat.me.0.seen in
    let was = subst (λ o. IfSome o (λ x. IsRecord d x.chain x.seat.me.0)) c.in_ok-unlinked.was is in
    (right.1 ∙ was.0, subst (λ (o : ObjectId). WasReplaced d o log) (sym (ap object_in right.0.0)) (replaced_later d (object_in u.seat.me.0.object) old log right.0.1 was.1))

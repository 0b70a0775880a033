use Rattle.rcu_hash.proofs.Cited.{Log, tabled, AnswersThrough, value_through, looks_twice, log_of, ObjectId, ℕ, [], refl, ap, subst, Option, through_from}
use Rattle.rcu_hash.proofs.view.TableView.get.Goals as goal

pub returns-in-Ok-Some-clause-looked : goal.returns-in-Ok-Some-clause-looked
returns-in-Ok-Some-clause-looked g c = looks_twice g.P.GracePlan.QSBR tabled c.args.section.now.reader.now.core c.first.new.self.reader.now.core c.look.new.section.reader.now.core c.in-Ok-Some.ensures.looked.1 c.look.ensures.looked

pub returns-in-Ok-Some-clause-window : goal.returns-in-Ok-Some-clause-window
returns-in-Ok-Some-clause-window g c =
    let l = c.in-Ok-Some.ensures.looked.1.later in let old = c.args.section.now.reader.now.core in
    subst (λ (n : ℕ). AnswersThrough (log_of old) old.seat.me.0.heard (log_of c.look.new.section.reader.now.core) n c.args.self.directory c.args.key c.look.result) c.args.self.low.1
    (through_from (log_of old) old.seat.me.0.heard (log_of c.first.new.self.reader.now.core) (log_of c.look.new.section.reader.now.core) c.args.self.chains c.args.self.directory c.args.key c.look.result l.after_seen l.after_heard c.look.ensures.window)

pub returns-in-Ok-None-clause-window : goal.returns-in-Ok-None-clause-window
returns-in-Ok-None-clause-window g c =
    let l = c.in-Ok-None.ensures.looked.1.later in let at : Log = log_of c.first.new.self.reader.now.core in let e = rw c.in-Ok-None.field-0-is at c.in-Ok-None.ensures in
    record { at = at; after_seen = l.after_seen; after_heard = l.after_heard; before = ([], refl); is = ap (λ (f : Option ObjectId). value_through g.B.Site.sizes.chains at f c.args.key) e.none }

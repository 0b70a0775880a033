use Rattle.rcu_hash.proofs.Cited.{Log, tabled, value_through, WalksThrough, looks_twice, log_of, ObjectId, ℕ, [], refl, ap, subst, Option, walks_from}
use Rattle.rcu_hash.proofs.view.TableView.for_each.Goals as goal

pub returns-in-Ok-Some-clause-looked : goal.returns-in-Ok-Some-clause-looked
returns-in-Ok-Some-clause-looked g c = looks_twice g.P.GracePlan.QSBR tabled c.args.section.now.reader.now.core c.first.new.self.reader.now.core c.walk.new.section.reader.now.core c.in-Ok-Some.ensures.looked.1 c.walk.ensures.looked

pub returns-in-Ok-Some-clause-met : goal.returns-in-Ok-Some-clause-met
returns-in-Ok-Some-clause-met g c =
    let l = c.in-Ok-Some.ensures.looked.1.later in let m = c.walk.ensures.met in let old = c.args.section.now.reader.now.core in (
      m.0,
      subst (λ (n : ℕ). WalksThrough (log_of old) old.seat.me.0.heard (log_of c.walk.new.section.reader.now.core) n c.args.self.directory m.0) c.args.self.low.1
          (walks_from (log_of old) old.seat.me.0.heard (log_of c.first.new.self.reader.now.core) (log_of c.walk.new.section.reader.now.core) c.args.self.chains c.args.self.directory m.0 l.after_seen l.after_heard m.1),
      m.2,
    )

pub returns-in-Ok-None-clause-met : goal.returns-in-Ok-None-clause-met
returns-in-Ok-None-clause-met g c =
    let l = c.in-Ok-None.ensures.looked.1.later in let at : Log = log_of c.first.new.self.reader.now.core in let e = rw c.in-Ok-None.field-0-is at c.in-Ok-None.ensures in (
      [],
      record {
        had = λ key value h. absurd h;
        lacked = λ key n. record { at = at; after_seen = l.after_seen; after_heard = l.after_heard; before = ([], refl); is = ap (λ (f : Option ObjectId). value_through g.B.Site.sizes.chains at f key) e.none };
      },
      refl,
    )

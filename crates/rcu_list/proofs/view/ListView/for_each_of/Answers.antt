use Rattle.rcu_list.proofs.Cited.{◌≡◌, ◌%◌, [], refl, Log, log_of, looks_twice}
use Rattle.rcu_list.proofs.Going.{began_before, nothing_there}
use Rattle.rcu_list.proofs.view.ListView.for_each_of.Goals as goal

pub returns-in-Ok-Some-clause-looked : goal.returns-in-Ok-Some-clause-looked
returns-in-Ok-Some-clause-looked g c = looks_twice g.P.GracePlan.QSBR g.K.ChainRule.allows c.args.section.now.reader.now.core c.first.new.self.reader.now.core c.walk.new.section.reader.now.core c.in-Ok-Some.ensures.looked.1 c.walk.ensures.looked

pub returns-in-Ok-Some-clause-met : goal.returns-in-Ok-Some-clause-met
returns-in-Ok-Some-clause-met g c =
    let l = c.in-Ok-Some.ensures.looked.1.later in let m = c.walk.ensures.met in let old = c.args.section.now.reader.now.core in
    (m.0, began_before (λ key. key % c.args.buckets ≡ c.args.bucket) (log_of old) old.seat.me.0.heard (log_of c.first.new.self.reader.now.core) (log_of c.walk.new.section.reader.now.core) c.args.self.chain m.0 l.after_seen l.after_heard m.1, m.2)

pub returns-in-Ok-None-clause-met : goal.returns-in-Ok-None-clause-met
returns-in-Ok-None-clause-met g c =
    let l = c.in-Ok-None.ensures.looked.1.later in let at : Log = log_of c.first.new.self.reader.now.core in let e = rw c.in-Ok-None.field-0-is at c.in-Ok-None.ensures in let old = c.args.section.now.reader.now.core in
    ([], nothing_there (λ key. key % c.args.buckets ≡ c.args.bucket) (log_of old) old.seat.me.0.heard at c.args.self.chain l.after_seen l.after_heard e.none, refl)

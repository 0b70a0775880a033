use Rattle.rcu_list.proofs.Cited.{[], refl, Log, record_of, state_of, begins_trans, log_of, looks_twice}
use Rattle.rcu_list.proofs.Values.{empty_map}
use Rattle.rcu_list.proofs.view.ListView.get.Goals as goal

pub returns-in-Ok-Some-clause-looked : goal.returns-in-Ok-Some-clause-looked
returns-in-Ok-Some-clause-looked g c = looks_twice g.P.GracePlan.QSBR g.K.ChainRule.allows c.args.section.now.reader.now.core c.first.new.self.reader.now.core c.search.new.section.reader.now.core c.in-Ok-Some.ensures.looked.1 c.search.ensures.looked

pub returns-in-Ok-Some-clause-window : goal.returns-in-Ok-Some-clause-window
returns-in-Ok-Some-clause-window g c =
    let l = c.in-Ok-Some.ensures.looked.1.later in let a = c.search.ensures.window in let old = c.args.section.now.reader.now.core in let start : Log = log_of c.first.new.self.reader.now.core in
    record { at = a.at; after_seen = begins_trans (log_of old) start a.at l.after_seen a.after_seen; after_heard = begins_trans old.seat.me.0.heard start a.at l.after_heard a.after_seen; before = a.before; is = a.is }

pub returns-in-Ok-None-clause-window : goal.returns-in-Ok-None-clause-window
returns-in-Ok-None-clause-window g c =
    let l = c.in-Ok-None.ensures.looked.1.later in let at : Log = log_of c.first.new.self.reader.now.core in let e = rw c.in-Ok-None.field-0-is at c.in-Ok-None.ensures in
    record { at = at; after_seen = l.after_seen; after_heard = l.after_heard; before = ([], refl); is = empty_map (record_of at) ((state_of at).chain c.args.self.chain) c.args.key e.none }

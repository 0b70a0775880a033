use Rattle.rcu_list.proofs.Cited.{List, ap, ◌∙◌, ChainRight, own_in}
use Rattle.rcu_list.proofs.Writing.{keys_on}
use Rattle.rcu_list.proofs.Refused.{map_learned}
use Rattle.rcu_list.proofs.list.RcuList.hear.Goals as goal

pub invariant_of-self : goal.invariant_of-self
invariant_of-self g c =
    let e = c.hear.ensures in let old = c.args.self.now.chain in record {
      unnoted = ap (λ (x : List ChainRight). (own_in x).note) e.chains.0 ∙ c.args.self.now.unnoted;
      keys = keys_on g.P.GracePlan.QSBR g.K.ChainRule.allows (g.met.K.MapRule.maps g.P.GracePlan.QSBR) old.seat.me.0 c.hear.new.self.seat.me.0 old.owns.1 e.told.1 e.told.0.run
          (ap (λ (x : List ChainRight). (own_in x).objects) e.chains.0) c.args.self.now.keys;
    }

pub returns-clause-map : goal.returns-clause-map
returns-clause-map g c =
    let e = c.hear.ensures in let l = e.learned in let old = c.args.self.now.chain in let new = c.hear.new.self in
    map_learned g.P.GracePlan.QSBR g.K.ChainRule.allows (g.met.K.MapRule.maps g.P.GracePlan.QSBR) old.number old.seat.me.0 new.seat.me.0 l.2 l.3 old.owns.2 old.owns.1 new.owns.1

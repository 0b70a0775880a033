use Rattle.rcu_hash.proofs.Cited.{IsLeft, sym, arith, rest_rights, rights_ended, each_popped, each_pushed}
use Rattle.rcu_hash.proofs.old_table.OldTable.hear.Goals as goal

pub returns-clause-left : goal.returns-clause-left
returns-clause-left g c = c.hear_left.ensures.left.0

pub hear_left-requires : goal.hear_left-requires
hear_left-requires g c = record {
  chain =
      let l = c.args.self in let n = l.naming in
      (each_popped c.pop.new.self.items l.chains.items c.in-Some.chain (λ x. x.seat.me.0) (IsLeft n.directory n.first n.buckets) c.in-Some.ensures.items l.left).1;
}

pub invariant_of-result : goal.invariant_of-result
invariant_of-result g c =
    let l = c.args.self in let n = l.naming in record {
      some = λ one. omega (arith, c.push_reserved.ensures.len);
      left = each_pushed c.pop.new.self.items c.push_reserved.new.self.items c.hear_left.new.chain (λ x. x.seat.me.0) (IsLeft n.directory n.first n.buckets) c.push_reserved.ensures.items
          (each_popped c.pop.new.self.items l.chains.items c.in-Some.chain (λ x. x.seat.me.0) (IsLeft n.directory n.first n.buckets) c.in-Some.ensures.items l.left).0 c.hear_left.ensures.chain;
      replaced = l.replaced;
      rest = rest_rights n.directory n.object _ _ _ _ (rights_ended (λ x. x.seat.me.0) c.pop.new.self.items l.chains.items c.push_reserved.new.self.items c.in-Some.chain c.hear_left.new.chain c.in-Some.ensures.items c.push_reserved.ensures.items (sym c.hear_left.ensures.right)) l.rest;
    }

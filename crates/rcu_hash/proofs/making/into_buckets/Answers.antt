use Rattle.rcu_hash.proofs.Cited.{length, ap, arith}
use Rattle.rcu_hash.proofs.making.into_buckets.Goals as goal

pub loop-init : goal.loop-init
loop-init g c =
    let len = c.into_iter-rest.ensures.len in let many = c.len-many.ensures in let same = c.into_iter-rest.ensures.rest in let none = c.requires.room.0 in record {
      left = omega arith;
      room = (omega (arith, ap length none, c.args.buckets.ok), let fits = c.requires.room.1 in omega arith);
      wait = rw same c.requires.chains;
    }

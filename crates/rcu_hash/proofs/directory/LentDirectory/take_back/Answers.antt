use Rattle.rcu_hash.proofs.Cited.{lent_chains, ChainRight, own_in, ◌∙◌, List, ap, words_later}
use Rattle.rcu_hash.proofs.directory.LentDirectory.take_back.Goals as goal

pub invariant_of-result : goal.invariant_of-result
invariant_of-result g c =
    let d = c.args.self in let e = c.take_back.ensures in let n = d.naming in let r = c.requires in record {
      own = (e.chain.1 ∙ d.own.0, ap lent_chains e.chain.0, ap (λ (xs : List ChainRight). (own_in xs).note) e.chain.0 ∙ r.3);
      alone = ap (λ (xs : List ChainRight). (own_in xs).objects) e.chain.0 ∙ r.2;
      words = words_later g.P.GracePlan.QSBR c.args.from.now.seat.me.0.seen c.take_back.result.seat.me.0.seen n.object e.later.0 e.later.1 n.first n.buckets r.5 r.4;
      fits = d.fits;
    }

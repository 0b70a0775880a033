use Rattle.rcu_hash.proofs.Cited.{value_among, value_in_bucket, AreFrom, Each, Naming, View, ◌≡◌, ℕ, ◌+◌, [], ◌∷◌, ◌∙◌, ◌++◌, List, length, sym, ap, subst, arith, map, map-append, length-map, err_from_is_err_and, each_last, from_last, bucket_copied, value_at, looked_on, gives_up_on}
use Rattle.rcu_hash.proofs.growth.copy_all.Goals as goal

pub loop-number-preserved : goal.loop-number-preserved
loop-number-preserved g c =
    let i = c.loop-number.invariant in let e = c.copy-answer.ensures in let ok = c.in_ok-answer.ensures in let t = c.take-place.ensures in let p = c.push_reserved.ensures in
    let had = c.loop-number.taken.items in let one = c.copy-answer.new.self in let array = c.args.array.now in let number = c.loop-number.number in
    let vs = map (λ b. b.chain.seat.me.0) had in let v : View = one.chain.seat.me.0 in
    let views : map (λ b. b.chain.seat.me.0) c.push_reserved.new.self.items ≡ vs ++ v ∷ [] = ap (map (λ b. b.chain.seat.me.0)) p.items ∙ map-append (λ b. b.chain.seat.me.0) had (one ∷ []) in
    let many : length vs ≡ number = length-map had (λ b. b.chain.seat.me.0) ∙ (sym c.loop-number.taken.ok.0 ∙ i.room.0) in
    let own : c.take-place.result.1.naming.buckets ≡ array.naming.buckets = ap (λ (n : Naming). n.buckets) t.0 in record {
      room = (let len = p.len in let was = i.room.0 in omega arith, let same = p.capacity in let was = i.room.1 in omega arith);
      from = subst (AreFrom array.naming.first) (sym views) (from_last array.naming.first vs v i.from (one.chain.owns.2 ∙ (e.walked.3 ∙ (t.1 ∙ ap (λ (n : ℕ). array.naming.first + n) (sym many)))));
      named = subst (Each (λ b. b.naming ≡ array.naming)) (sym p.items) (each_last (λ b. b.naming ≡ array.naming) had one i.named (e.walked.0 ∙ t.0));
      copied = subst (λ (us : List View). (key : ℕ) → value_among (map (λ x. (x.key, x.value)) c.copy-answer.new.copied.items) key ≡ value_in_bucket array.naming.buckets us key) (sym views)
          (bucket_copied value_at array.naming.buckets number vs (map (λ x. (x.key, x.value)) c.loop-number.copied.items) many i.copied c.take-place.result.1.naming.buckets own v (map (λ x. (x.key, x.value)) c.copy-answer.new.copied.items) ok.copied);
      apart = ok.apart;
      looked = looked_on e.cells i.looked e.same.0;
    }

pub returns-in_err-answer-clause-same : goal.returns-in_err-answer-clause-same
returns-in_err-answer-clause-same g c =
    let e = c.in_err-answer.ensures.same in let p = err_from_is_err_and c.from_residual.result c.from_residual.ensures.1 in
    rw p.1 (gives_up_on c.copy-answer.ensures.cells c.loop-number.invariant.looked (e.0, λ is. e.1 (sym p.2 ∙ is)))

pub returns-clause-same : goal.returns-clause-same
returns-clause-same g c = (c.loop-number.invariant.looked, tt)

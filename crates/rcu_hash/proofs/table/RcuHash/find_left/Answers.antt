use Rattle.rcu_hash.proofs.Cited.{IsTidied, ◌≡◌, length, ap, subst, arith, map, vec_len, nil_from_length, rest_none, some_there}
use Rattle.rcu_hash.proofs.table.RcuHash.find_left.Goals as goal

pub returns-then-none-clause-none : goal.returns-then-none-clause-none
returns-then-none-clause-none g c =
    let l = c.take-place.result.1 in let n = l.naming in let now = c.tell-left.result in
    let many : vec_len now.chains ≡ vec_len l.chains = ap (λ v. vec_len v) c.tell-left.ensures.left.1 in
    let items : length now.chains.items ≡ length l.chains.items = ap (λ v. length v.items) c.tell-left.ensures.left.1 in
    subst (λ d. IsTidied d (g.W.Caller.heard c.tell-left.new.caller)) c.take-place.ensures
    (rest_none n.directory n.object _ _ (g.W.Caller.heard c.tell-left.new.caller) (ap (map (λ x. x.seat.me.0)) (nil_from_length l.chains.items (omega arith))) (λ p is. let some = l.some (some_there _ l.unlinked p is) in absurd (omega (arith, some))) c.tell-left.ensures.rest)

use Rattle.rcu_list.proofs.Cited.{◌≡◌, ◌<◌, ℕ, ◌+◌, List, Some, slice_get, slice_index_or, ⊎_elim, arith, ap, sym, ◌∙◌, subst, ObjectId, In, Falls, rank_of, Log, record_of, list_in}
use Rattle.rcu_list.specs.Maps.{next_rank}
use Rattle.rcu_list.proofs.Values.{first_above, first_at, rank_first, rank_none}
use Rattle.rcu_list.proofs.Writing.{chain_known, same_own}
use Rattle.rcu_list.proofs.preparing.fresh_rank.Goals as goal

-- no object has a rank above that of the first one
below : (note : ObjectId → ℕ × List ℕ) (os : List ObjectId) (first : ObjectId) (rank : ℕ) → Falls note os → slice_get os 0 ≡ Some first → rank ≡ rank_of (note first) → (o : ObjectId) → In os o → rank_of (note o) < rank + 1
below note os first rank falls at is o h = ⊎_elim
    (λ (e : first ≡ o). let same : rank_of (note first) ≡ rank_of (note o) = ap (λ (p : ObjectId). rank_of (note p)) e in omega arith)
    (λ (l : rank_of (note o) < rank_of (note first)). omega arith)
    (first_above note os first o falls (first_at os first at) h)

pub returns-clause-above : goal.returns-clause-above
returns-clause-above g c =
    let s = c.in-Some.ensures.some in let w = c.in-Some.ensures.walked in let low = c.if-first-ge-LAST_RANK.false in
    let old = c.args.chain.now in let new = c.get.new.self in
    let seen : Log = new.seat.me.0.seen in
    let list = chain_known new.seat.me.0 new.number new.owns.1 new.owns.2 in
    let same : list_in new.seat.me.0 ≡ list_in old.seat.me.0 = ap (λ x. x.objects) (same_own g.P.GracePlan.QSBR g.K.ChainRule.allows (g.met.K.MapRule.maps g.P.GracePlan.QSBR) old.number old.seat.me new.seat.me w.1 old.owns.1 old.owns.2) in
    let falls : Falls (record_of seen) (list_in old.seat.me.0) = subst (Falls (record_of seen)) (list ∙ same) ((g.met.K.MapRule.maps g.P.GracePlan.QSBR).falls seen new.number w.1.2.2) in
    (omega arith, below (record_of seen) (list_in old.seat.me.0) s.0 (slice_index_or c.in-Some.first 2 0) falls s.1 (ap (λ (l : List ℕ). slice_index_or l 2 0) s.2))

pub returns-in_default-clause-next : goal.returns-in_default-clause-next
returns-in_default-clause-next g c =
    let none = c.in_default.ensures.none in let old = c.args.chain.now in
    sym (ap (λ x. next_rank (record_of x.seat.me.0.seen) (list_in x.seat.me.0)) none.1 ∙ rank_none (record_of old.seat.me.0.seen) (list_in old.seat.me.0) none.0)

pub returns-clause-next : goal.returns-clause-next
returns-clause-next g c =
    let s = c.in-Some.ensures.some in let w = c.in-Some.ensures.walked in let old = c.args.chain.now in let new = c.get.new.self in let seen : Log = new.seat.me.0.seen in
    let same : list_in new.seat.me.0 ≡ list_in old.seat.me.0 = ap (λ x. x.objects) (same_own g.P.GracePlan.QSBR g.K.ChainRule.allows (g.met.K.MapRule.maps g.P.GracePlan.QSBR) old.number old.seat.me new.seat.me w.1 old.owns.1 old.owns.2) in
    ap (λ (l : List ℕ). slice_index_or l 2 0 + 1) s.2 ∙ sym (ap (next_rank (record_of seen)) same ∙ rank_first (record_of seen) (list_in old.seat.me.0) s.0 s.1)

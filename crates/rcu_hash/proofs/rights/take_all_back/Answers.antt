use Rattle.rcu_hash.proofs.Cited.{Log, Begins, HasSeen, IsAlone, IsRunIn, lent_chains, ChainRight, own_in, ◌≡◌, ℕ, [], ◌∷◌, ◌∙◌, List, length, refl, sym, ap, subst, arith, take, drop, nil_from_length, into_iter_items, each_pushed, all_done, first_lent, dropped_one, right_back}
use Rattle.rcu_hash.proofs.rights.take_all_back.Goals as goal

pub loop-init : goal.loop-init
loop-init g c =
    let len = c.into_iter-rest.ensures.len in let many = c.len-many.ensures in let same = c.into_iter-rest.ensures.rest in let none = c.requires.room.0 in record {
      left = omega arith;
      room = (omega (arith, ap length none, c.args.chains.ok), let fits = c.requires.room.1 in omega arith);
      lents = rw same c.requires.lents;
      chains = rw (same, none) refl;
      others = rw same refl;
      own = refl;
      alone = rw none tt;
      seen = rw none tt;
      runs = rw none tt;
      same = (refl, refl, refl);
    }

pub take_back-requires : goal.take_back-requires
take_back-requires g c =
    let f = first_lent (into_iter_items c.loop.rest) (into_iter_items c.next.new.self) c.in-Some.lent (lent_chains c.loop.from.seat.me.0.chains) (λ t. (t.number, t.linked)) c.in-Some.ensures.cases.0 c.loop.invariant.lents in record {
      right = f.0;
      its = (sym (ap (λ (p : ℕ × ℕ). p.0) f.1), sym (ap (λ (p : ℕ × ℕ). p.1) f.1));
    }

pub loop-preserved : goal.loop-preserved
loop-preserved g c =
    let i = c.loop.invariant in let first = c.in-Some.ensures.cases.0 in let left = into_iter_items c.loop.rest in let rest = into_iter_items c.next.new.self in
    let lent = c.in-Some.lent in let chain = c.take_back.result in let rights = lent_chains c.loop.from.seat.me.0.chains in let old = c.args.from.now.seat.me.0 in
    let e = c.take_back.ensures in let more = c.push_reserved.ensures.items in
    let f = first_lent left rest lent rights (λ t. (t.number, t.linked)) first i.lents in
    let now : lent_chains c.take_back.new.from.seat.me.0.chains ≡ lent_chains rights = ap lent_chains e.from.0 in record {
      left = let shorter = c.in-Some.ensures.cases.1 in let was = i.left in omega arith;
      room = let len = c.push_reserved.ensures.len in let same = c.push_reserved.ensures.capacity in let was = i.room in (omega arith, omega arith);
      lents = rw now f.2;
      chains = rw (more, now) (right_back left rest lent c.loop.chains.items chain rights (take (length c.args.lents.items) (lent_chains old.chains)) (λ x. x.seat.me.0) first f.0 e.chain.0 i.chains);
      others = rw now (sym (dropped_one left rest lent rights first f.0) ∙ i.others);
      own = ap own_in e.from.0 ∙ i.own;
      alone = each_pushed c.loop.chains.items c.push_reserved.new.self.items chain (λ x. x.seat.me.0) IsAlone more i.alone (ap lent_chains e.chain.0);
      seen = each_pushed c.loop.chains.items c.push_reserved.new.self.items chain (λ x. x.seat.me.0) (HasSeen old.seen) more i.seen (subst (λ (l : Log). Begins l chain.seat.me.0.seen) i.same.0 e.later.0);
      runs = each_pushed c.loop.chains.items c.push_reserved.new.self.items chain (λ x. x.seat.me.0) (IsRunIn g.P.GracePlan.QSBR) more i.runs e.later.1;
      same = (e.from.1 ∙ i.same.0, e.from.2 ∙ i.same.1, e.from.3 ∙ i.same.2);
    }

pub returns : goal.returns
returns g c =
    let left = into_iter_items c.loop.rest in let i = c.loop.invariant in let none : left ≡ [] = nil_from_length left (omega (arith, c.loop.rest.rest.ok, i.left)) in
    let now = c.loop.from.seat.me.0.chains in let old = c.args.from.now.seat.me.0.chains in let others : lent_chains now ≡ drop (length c.args.lents.items) (lent_chains old) = rw none at i.others in record {
      chains = all_done left _ (take (length c.args.lents.items) (lent_chains old)) (λ l. take (length l) (lent_chains now)) none refl i.chains;
      alone = (i.alone, i.seen);
      runs = i.runs;
      from = (c.loop.from.owns.0 ∙ ap (λ (x : ChainRight). x ∷ lent_chains now) i.own ∙ ap (λ (l : List ChainRight). own_in old ∷ l) others, i.same.0);
      same = (i.same.1, i.same.2);
    }

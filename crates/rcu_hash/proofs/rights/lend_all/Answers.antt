use Rattle.rcu_hash.proofs.Cited.{begins_trans, IsAlone, lengths_of, rights_of, ◌≡◌, [], ◌∙◌, ◌++◌, length, refl, sym, ap, arith, map, nil_from_length, into_iter_items, each_head, paired, all_done, lent_one, right_lent, reaches_on, all_reached}
use Rattle.rcu_hash.proofs.rights.lend_all.Goals as goal

pub loop-init : goal.loop-init
loop-init g c =
    let len = c.into_iter-rest.ensures.len in let many = c.len-many.ensures in let same = c.into_iter-rest.ensures.rest in let none = c.requires.room.0 in record {
      left = omega arith;
      room = (omega (arith, ap length none, c.args.lents.ok), let fits = c.requires.room.1 in omega arith);
      alone = rw same c.requires.alone;
      lents = rw (same, none) refl;
      chains = rw same refl;
      known = c.requires.known;
      later = ([], refl);
      reaches = λ log went each. rw same at each;
      same = (refl, refl);
    }

pub lend-requires : goal.lend-requires
lend-requires g c =
    (each_head IsAlone (λ x. x.seat.me.0) (into_iter_items c.loop.rest) (into_iter_items c.next.new.self) c.in-Some.chain c.in-Some.ensures.cases.0 c.loop.invariant.alone).0

pub loop-preserved : goal.loop-preserved
loop-preserved g c =
    let i = c.loop.invariant in let first = c.in-Some.ensures.cases.0 in let left = into_iter_items c.loop.rest in let rest = into_iter_items c.next.new.self in
    let chain = c.in-Some.chain in let lent = c.lend.result in let all = c.args.chains.items in let before = c.loop.to.seat.me.0 in let after = c.lend.new.to.seat.me.0 in
    let e = c.lend.ensures in record {
      left = let shorter = c.in-Some.ensures.cases.1 in let was = i.left in omega arith;
      room = let len = c.push_reserved.ensures.len in let same = c.push_reserved.ensures.capacity in let was = i.room in (omega arith, omega arith);
      alone = (each_head IsAlone (λ x. x.seat.me.0) left rest chain first i.alone).1;
      lents = rw c.push_reserved.ensures.items
          (lent_one left rest chain c.loop.lents.items lent (lengths_of (rights_of (map (λ x. x.seat.me.0) all))) (λ x. x.seat.me.0) (λ t. (t.number, t.linked))
          first (paired _ _ (e.lent.0 ∙ sym chain.owns.2) e.lent.1) i.lents);
      chains = right_lent left rest chain before.chains after.chains (c.args.to.now.seat.me.0.chains ++ rights_of (map (λ x. x.seat.me.0) all)) (λ x. x.seat.me.0) first e.chains.0 i.chains;
      known = (e.known, e.later.2);
      later = begins_trans c.args.to.now.seat.me.0.seen before.seen after.seen i.later e.later.0;
      reaches = reaches_on left rest all chain before.seen after.seen (λ x. x.seat.me.0) first e.later.0 e.later.1 i.reaches;
      same = (e.chains.1 ∙ i.same.0, e.chains.2 ∙ i.same.1);
    }

pub returns : goal.returns
returns g c =
    let left = into_iter_items c.loop.rest in let i = c.loop.invariant in let all = c.args.chains.items in let none : left ≡ [] = nil_from_length left (omega (arith, c.loop.rest.rest.ok, i.left)) in record {
      many = let room = i.room in let was = i.left in let end = c.loop-test.false in let most = c.loop.auto.counter-end in let len = c.len-many.ensures in omega arith;
      lents = all_done left (map (λ t. (t.number, t.linked)) c.loop.lents.items) (lengths_of (rights_of (map (λ x. x.seat.me.0) all))) (λ l. lengths_of (rights_of (map (λ x. x.seat.me.0) l))) none refl i.lents;
      chains = all_done left c.loop.to.seat.me.0.chains (c.args.to.now.seat.me.0.chains ++ rights_of (map (λ x. x.seat.me.0) all)) (λ l. rights_of (map (λ x. x.seat.me.0) l)) none refl i.chains;
      known = i.known;
      later = (i.later, all_reached left all c.loop.to.seat.me.0.seen (λ x. x.seat.me.0) none i.reaches);
      same = i.same;
    }

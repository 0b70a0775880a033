use Rattle.rcu_hash.proofs.Cited.{chain_note, reserved, tabled, NotesAll, Writes, IsAlone, HasNoNote, OnlyMakesMany, View, object_in, AreAsKnown, ◌≡◌, ℕ, ◌+◌, [], ◌∷◌, ◌∙◌, ◌++◌, List, length, refl, sym, ap, subst, inl, inr, arith, map, vec_len, map-append, length-map, nil_from_length, into_iter_items, AreNoted, none_noted, one_noted, all_noted, each_head}
use Rattle.rcu_hash.proofs.making.reserve_all.Goals as goal

pub loop-init : goal.loop-init
loop-init g c =
    let len = c.into_iter-rest.ensures.len in let many = c.len-many.ensures in let same = c.into_iter-rest.ensures.rest in let none = c.requires.room.0 in record {
      left = omega arith;
      room = (omega (arith, ap length none, c.args.kept.ok), let fits = c.requires.room.1 in omega arith);
      wait = rw same c.requires.chains;
      noted = rw (same, none) (none_noted g.W.Caller g.P.GracePlan.QSBR (reserved (object_in c.args.owned.seat.me.0.object)) c.args.caller.now (map (λ x. x.seat.me.0) c.args.chains.items));
      owned = refl;
    }

pub reserve-owned-requires : goal.reserve-owned-requires
reserve-owned-requires g c = record {
  rule = λ log goes run known unused.
      let chain = c.in-Some.chain in
      let none = (each_head HasNoNote (λ x. x.seat.me.0) (into_iter_items c.loop.rest) (into_iter_items c.next.new.self) chain c.in-Some.ensures.cases.0 c.loop.invariant.wait.0).0 in
      inl (ap (λ (n : ℕ). chain_note n log) (sym chain.owns.2) ∙ ((subst (AreAsKnown log) chain.owns.0 known).0.1 ∙ none), inr (object_in c.loop.owned.seat.me.0.object, refl, unused));
}

pub loop-preserved : goal.loop-preserved
loop-preserved g c =
    let q = g.P.GracePlan.QSBR in let w = g.W.Caller in let w0 = c.args.caller.now in let w1 = c.loop.caller in let w2 = c.reserve-owned.new.caller in let note : ℕ = reserved (object_in c.args.owned.seat.me.0.object) in
    let i = c.loop.invariant in let first = c.in-Some.ensures.cases.0 in let left = into_iter_items c.loop.rest in let rest = into_iter_items c.next.new.self in let all = map (λ x. x.seat.me.0) c.args.chains.items in
    let chain = c.in-Some.chain in let one = c.reserve-owned.new.self in let e = c.reserve-owned.ensures in let p = c.push_reserved.ensures in let had = c.loop.kept.items in
    let views : map (λ x. x.seat.me.0) c.push_reserved.new.self.items ≡ map (λ x. x.seat.me.0) had ++ one.seat.me.0 ∷ [] = ap (map (λ x. x.seat.me.0)) p.items ∙ map-append (λ x. x.seat.me.0) had (one ∷ []) in
    let object : reserved (object_in c.loop.owned.seat.me.0.object) ≡ note = ap (λ r. reserved (object_in r)) i.owned in let alone = each_head IsAlone (λ x. x.seat.me.0) left rest chain first i.wait.1 in record {
      left = let shorter = c.in-Some.ensures.cases.1 in let was = i.left in omega arith;
      room = let len = p.len in let same = p.capacity in let was = i.room in (omega arith, omega arith);
      wait = ((each_head HasNoNote (λ x. x.seat.me.0) left rest chain first i.wait.0).1, alone.1);
      noted = subst (λ (vs : List View). AreNoted w q note w0 all w2 (c.loop.counter + 1) vs (map (λ x. x.seat.me.0) rest)) (sym views)
          (one_noted w q note w0 all w1 w2 c.loop.counter (map (λ x. x.seat.me.0) had) (map (λ x. x.seat.me.0) rest) chain.seat.me.0 one.seat.me.0 chain.number (reserved (object_in c.loop.owned.seat.me.0.object)) c.loop.owned.seat.me.0.seen
          (subst (λ xs. AreNoted w q note w0 all w1 c.loop.counter (map (λ x. x.seat.me.0) had) (map (λ x. x.seat.me.0) xs)) first i.noted)
          (length-map had (λ x. x.seat.me.0) ∙ (sym c.loop.kept.ok.0 ∙ i.room.0)) chain.owns.2 object chain.owns.1 e.noted (one.owns.2 ∙ (e.note.3 ∙ sym chain.owns.2), e.note.1) (e.note.0 ∙ object) (e.note.2 ∙ alone.0) e.heard e.same);
      owned = e.owned.0 ∙ i.owned;
    }

pub returns : goal.returns
returns g c =
    let w = g.W.Caller in let w0 = c.args.caller.now in let left = into_iter_items c.loop.rest in let i = c.loop.invariant in let n = i.noted in let note : ℕ = reserved (object_in c.args.owned.seat.me.0.object) in
    let none : left ≡ [] = nil_from_length left (omega (arith, c.loop.rest.rest.ok, i.left)) in
    let many : c.loop.counter ≡ vec_len c.args.chains = let was = i.left in let end = c.loop-test.false in let most = c.loop.auto.counter-end in let many = c.len-many.ensures in omega arith in record {
      owned = i.owned;
      kept = (let room = i.room in omega arith, all_noted w g.P.GracePlan.QSBR note w0 (map (λ x. x.seat.me.0) c.args.chains.items) c.loop.caller c.loop.counter (map (λ x. x.seat.me.0) c.loop.kept.items) (map (λ x. x.seat.me.0) left) n (ap (map (λ x. x.seat.me.0)) none), n.noted, n.alone);
      told = λ start from. subst (λ (k : ℕ). NotesAll (Writes g.P.GracePlan.QSBR tabled (w.seen w0)) note start k (w.heard w0) (w.heard c.loop.caller)) many (n.notes start from);
      heard = n.heard;
      same = subst (OnlyMakesMany w w0 c.loop.caller) many n.told;
    }

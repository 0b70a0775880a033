use Rattle.rcu_hash.proofs.Cited.{tabled, ChainNote, NotesAll, Writes, Each, Naming, OnlyMakesMany, View, AreAsKnown, ◌≡◌, ℕ, ◌+◌, [], ◌∷◌, ◌∙◌, ◌++◌, List, length, refl, sym, ap, subst, inr, arith, map, vec_len, map-append, length-map, nil_from_length, into_iter_items, AreNoted, none_noted, one_noted, all_noted, may_leave}
use Rattle.rcu_hash.proofs.grow.leave_all.Goals as goal

pub loop-init : goal.loop-init
loop-init g c =
    let len = c.into_iter-rest.ensures.len in let many = c.len-many.ensures in let same = c.into_iter-rest.ensures.rest in let none = c.requires.room.0 in record {
      left = omega arith;
      room = (omega (arith, ap length none, c.args.chains.ok), let fits = c.requires.room.1 in omega arith);
      wait = rw same c.requires.taken;
      noted = rw (same, none) (none_noted g.W.Caller g.P.GracePlan.QSBR (c.args.naming.directory + 1) c.args.caller.now (map (λ b. b.chain.seat.me.0) c.args.taken.items));
    }

pub set_note-requires : goal.set_note-requires
set_note-requires g c = record {
  rule = λ log goes run known may.
      let bucket = c.in-Some.bucket in let chain = bucket.chain in
      let wait : (bucket.naming ≡ c.args.naming) × Each (λ b. b.naming ≡ c.args.naming) (into_iter_items c.next.new.self) = subst (Each (λ b. b.naming ≡ c.args.naming)) c.in-Some.ensures.cases.0 c.loop.invariant.wait in
      subst (λ (n : Naming). tabled log (ChainNote chain.number (n.directory + 1))) wait.0
      (subst (λ (k : ℕ). tabled log (ChainNote k (bucket.naming.directory + 1))) chain.owns.2
      (inr (may_leave g.P.GracePlan.QSBR bucket.naming chain.seat.me.0 log goes.after_writer.0 run bucket.is (subst (AreAsKnown log) chain.owns.0 known).0.1)));
}

pub loop-preserved : goal.loop-preserved
loop-preserved g c =
    let q = g.P.GracePlan.QSBR in let w = g.W.Caller in let w0 = c.args.caller.now in let w1 = c.loop.caller in let w2 = c.set_note.new.caller in let note : ℕ = c.args.naming.directory + 1 in
    let i = c.loop.invariant in let first = c.in-Some.ensures.cases.0 in let rest = into_iter_items c.next.new.self in let all = map (λ b. b.chain.seat.me.0) c.args.taken.items in
    let bucket = c.in-Some.bucket in let chain = bucket.chain in let one = c.set_note.new.self in let e = c.set_note.ensures in let p = c.push_reserved.ensures in let had = c.loop.chains.items in
    let views : map (λ x. x.seat.me.0) c.push_reserved.new.self.items ≡ map (λ x. x.seat.me.0) had ++ one.seat.me.0 ∷ [] = ap (map (λ x. x.seat.me.0)) p.items ∙ map-append (λ x. x.seat.me.0) had (one ∷ []) in
    let wait : (bucket.naming ≡ c.args.naming) × Each (λ b. b.naming ≡ c.args.naming) rest = subst (Each (λ b. b.naming ≡ c.args.naming)) first i.wait in record {
      left = let shorter = c.in-Some.ensures.cases.1 in let was = i.left in omega arith;
      room = let len = p.len in let same = p.capacity in let was = i.room in (omega arith, omega arith);
      wait = wait.1;
      noted = subst (λ (vs : List View). AreNoted w q note w0 all w2 (c.loop.counter + 1) vs (map (λ b. b.chain.seat.me.0) rest)) (sym views)
          (one_noted w q note w0 all w1 w2 c.loop.counter (map (λ x. x.seat.me.0) had) (map (λ b. b.chain.seat.me.0) rest) chain.seat.me.0 one.seat.me.0 chain.number note []
          (subst (λ bs. AreNoted w q note w0 all w1 c.loop.counter (map (λ x. x.seat.me.0) had) (map (λ b. b.chain.seat.me.0) bs)) first i.noted)
          (length-map had (λ x. x.seat.me.0) ∙ (sym c.loop.chains.ok.0 ∙ i.room.0)) chain.owns.2 refl chain.owns.1 e.noted (one.owns.2 ∙ (e.note.3 ∙ sym chain.owns.2), e.note.1) e.note.0 (e.note.2 ∙ bucket.is.0) e.heard e.same);
    }

pub returns : goal.returns
returns g c =
    let w = g.W.Caller in let w0 = c.args.caller.now in let left = into_iter_items c.loop.rest in let i = c.loop.invariant in let n = i.noted in let all = map (λ b. b.chain.seat.me.0) c.args.taken.items in
    let none : left ≡ [] = nil_from_length left (omega (arith, c.loop.rest.rest.ok, i.left)) in
    let many : c.loop.counter ≡ vec_len c.args.taken = let was = i.left in let end = c.loop-test.false in let most = c.loop.auto.counter-end in let many = c.len-many.ensures in omega arith in record {
      left = (let room = i.room in omega arith, all_noted w g.P.GracePlan.QSBR (c.args.naming.directory + 1) w0 all c.loop.caller c.loop.counter (map (λ x. x.seat.me.0) c.loop.chains.items) (map (λ b. b.chain.seat.me.0) left) n (ap (map (λ b. b.chain.seat.me.0)) none), n.noted, n.alone);
      told = λ start from. subst (λ (k : ℕ). NotesAll (Writes g.P.GracePlan.QSBR tabled (w.seen w0)) (c.args.naming.directory + 1) start k (w.heard w0) (w.heard c.loop.caller)) many (n.notes start from);
      heard = n.heard;
      same = subst (OnlyMakesMany w w0 c.loop.caller) many n.told;
    }

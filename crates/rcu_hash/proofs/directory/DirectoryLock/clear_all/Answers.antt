use Rattle.rcu_hash.proofs.Cited.{begins_trans, IsLeft, WasCleared, own_in, ◌≡◌, ℕ, [], ◌∷◌, ◌∙◌, ◌%◌, ◌<◌, rules, refl, sym, ap, subst, inl, inr, arith, ⊎_elim, from_popped, from_pushed, stopped_for, waited_later, frees_chain, each_popped, each_pushed, objects_pushed, cleared_since, chains_popped, chains_pushed, Clears, hold_at, Stored, append-nil, uses_up_heard, uses_up_on, uses_up_same, uses_up_once}
use Rattle.rcu_hash.proofs.directory.DirectoryLock.clear_all.Goals as goal

pub loop-init : goal.loop-init
loop-init g c = record { left = omega (arith, c.len-many.ensures); uses = uses_up_same c.args.caller.now c.args.jobs.now.items; chains = c.requires.chains; cleared = λ k h. inr h; row = λ first from. from }

pub retire_all-requires-clause-waited : goal.retire_all-requires-clause-waited
retire_all-requires-clause-waited g c =
    let w = g.W.Caller in let n = c.args.naming in waited_later n.directory n.object (w.heard c.args.caller.now) (w.heard c.loop.caller) (uses_up_heard c.loop.invariant.uses) c.requires.waited

pub give_back-requires-clause-waited : goal.give_back-requires-clause-waited
give_back-requires-clause-waited g c =
    let w = g.W.Caller in let n = c.args.naming in waited_later n.directory n.object (w.heard c.args.caller.now) (w.heard c.retire_all.new.caller) (uses_up_heard (uses_up_on c.loop.invariant.uses c.retire_all.ensures.uses)) c.requires.waited

pub retire_all-requires-clause-chain : goal.retire_all-requires-clause-chain
retire_all-requires-clause-chain g c =
    let n = c.args.naming in
    (each_popped c.pop.new.self.items c.loop.chains.items c.in-Some.chain (λ x. x.seat.me.0) (IsLeft n.directory n.first n.buckets) c.in-Some.ensures.items c.loop.invariant.chains).1

pub loop-preserved : goal.loop-preserved
loop-preserved g c =
    let w = g.W.Caller in let sizes = g.B.Site.sizes in let n = c.args.naming in
    let w0 = c.args.caller.now in let w1 = c.loop.caller in let w2 = c.retire_all.new.caller in let w3 = c.give_back.new.caller in let i = c.loop.invariant in let e = c.retire_all.ensures in let b = c.give_back.ensures in
    let left = c.retire_all.new.jobs.items in let n1 = c.retire_all.new.chain.number in let low : n1 < sizes.chains = search rules in
    let clears = uses_up_once w2 w3 left left [] (Clears n1) b.cleared.0 (sym (append-nil left)) refl b.same.0 (b.same.1, (Stored (hold_at sizes n1) 0 ∷ [], b.freed, frees_chain sizes n1 low)) (λ k h. ⊎_elim (λ is. inl (ap (λ (j : ℕ). Stored (hold_at sizes j) 0) is)) (λ none. absurd none) h) b.cleared.1 b.cleared.2 in
    let until = uses_up_on i.uses e.uses in let all = uses_up_heard (uses_up_on e.uses clears) in
    let own : (k : ℕ) → (own_in c.in-Some.chain.seat.me.0.chains).chain ≡ k → WasCleared (w.heard w0) k (w.heard w3) = λ k is.
    let z = subst (λ (j : ℕ). WasCleared (w.heard w2) j (w.heard w3)) (e.number ∙ (sym c.in-Some.chain.owns.2 ∙ is)) b.own in
    record { at = z.at; after = begins_trans (w.heard w0) (w.heard w2) z.at (uses_up_heard until) z.after; before = z.before } in record {
      left = let fewer = c.in-Some.ensures.len in let was = i.left in omega arith;
      uses = uses_up_on until clears;
      chains = (each_popped c.pop.new.self.items c.loop.chains.items c.in-Some.chain (λ x. x.seat.me.0) (IsLeft n.directory n.first n.buckets) c.in-Some.ensures.items i.chains).0;
      cleared = λ k h. ⊎_elim
          (λ (z : WasCleared (w.heard w0) k (w.heard w1)). inl (cleared_since (w.heard w0) (w.heard w1) (w.heard w3) k all z))
          (λ more. ⊎_elim (λ kept. inr kept) (λ is. inl (own k is)) (chains_popped c.pop.new.self.items c.loop.chains.items c.in-Some.chain (λ x. x.seat.me.0) k c.in-Some.ensures.items more))
          (i.cleared k h);
      row = λ start from. (from_popped (λ x. x.seat.me.0) c.pop.new.self.items c.loop.chains.items c.in-Some.chain start c.in-Some.ensures.items (i.row start from)).0;
    }

pub returns-in-Err : goal.returns-in-Err
returns-in-Err g c =
    let w = g.W.Caller in let sizes = g.B.Site.sizes in let n = c.args.naming in let d = n.directory in
    let w0 = c.args.caller.now in let w1 = c.loop.caller in let w2 = c.retire_all.new.caller in let i = c.loop.invariant in let e = c.in-Err.ensures in
    let left = c.retire_all.new.jobs.items in
    let one = c.in-Some.chain in let two = c.retire_all.new.chain in let rest = c.pop.new.self.items in let had = c.loop.chains.items in let now = c.push_reserved.new.self.items in
    let popped = c.in-Some.ensures.items in let pushed = c.push_reserved.ensures.items in let own = (own_in two.seat.me.0.chains).chain in let number = two.owns.2 ∙ e.number in
    let on = uses_up_heard e.uses in record {
      uses = uses_up_on i.uses e.uses;
      chains = each_pushed rest now two (λ x. x.seat.me.0) (IsLeft d n.first n.buckets) pushed (each_popped rest had one (λ x. x.seat.me.0) (IsLeft d n.first n.buckets) popped i.chains).0 e.chain;
      emptied = tt;
      cleared = λ k h. ⊎_elim
          (λ (z : WasCleared (w.heard w0) k (w.heard w1)). inl (cleared_since (w.heard w0) (w.heard w1) (w.heard w2) k on z))
          (λ more. inr (chains_pushed rest now two (λ x. x.seat.me.0) k pushed (⊎_elim (λ kept. inl kept) (λ is. inr (number ∙ (sym one.owns.2 ∙ is))) (chains_popped rest had one (λ x. x.seat.me.0) k popped more))))
          (i.cleared k h);
      row = λ start from.
          let was = from_popped (λ x. x.seat.me.0) rest had one start popped (i.row start from) in
          from_pushed (λ x. x.seat.me.0) rest now two start pushed was.0 (number ∙ (sym one.owns.2 ∙ was.1));
      stopped = (
        objects_pushed rest now two (λ x. x.seat.me.0) pushed e.stopped.0,
        stopped_for w w2 _ _ left c.in-Err.refusal (λ k is. (own, chains_pushed rest now two (λ x. x.seat.me.0) own pushed (inr refl), is ∙ ap (λ (j : ℕ). j % sizes.queues) (sym number))) e.stopped.1,
      );
    }

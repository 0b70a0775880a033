use Rattle.rcu_hash.proofs.Cited.{tabled_maps, begins_trans, Log, Begins, IsLiveRun, chain_note, state_of, tabled, Object, Cut, HasRight, Writes, IsRefused, Naming, KnowsKeys, keys_on, by_result, by_second, if_err, if_ok, keys_cut, one_made, index_has, Queues, RefusesRetirement, lent_chains, ChainRight, own_in, list_in, at_number_other, without_object, ObjectId, ◌≡◌, ℕ, ◌+◌, ◌≤◌, [], ◌∷◌, ◌∙◌, ◌⊎◌, ◌%◌, ◌<◌, List, length, sym, ap, subst, arith, IfErr, one_fewer, listed_once, leaves_left, may_cut_left, refused_why, refused_frees, makes_frees, queued_later, IfErr-weaker, right_on}
use Rattle.rcu_hash.proofs.directory.DirectoryLock.retire_first.Given.{Over}
use Rattle.rcu_hash.proofs.directory.DirectoryLock.retire_first.Goals.{After-cut_retire-answer}
use Rattle.rcu_hash.proofs.directory.DirectoryLock.retire_first.Goals as goal

-- what the writer of the chain knows, to which the right of the directory is lent
module _ (g : Over) (c : After-cut_retire-answer g) where
  goes : Begins c.lend-place.new.to.seat.me.0.seen c.cut_retire-answer.new.chain.seat.me.0.seen × IsLiveRun g.P.GracePlan.QSBR tabled c.cut_retire-answer.new.chain.seat.me.0.seen
  goes =
      let r = c.cut_retire-answer.ensures in let s : Log = c.lend-place.new.to.seat.me.0.seen in let t : Log = c.cut_retire-answer.new.chain.seat.me.0.seen in
      by_result c.cut_retire-answer.result _ _ r.retired r.back
      (λ x k. (begins_trans s k.published.before t k.published.after.after_writer.0 (_ ∷ [], k.published.wrote), k.published.run))
      (λ x b. (([], ap (λ z. z.seat.me.0.seen) b.1), subst (IsLiveRun g.P.GracePlan.QSBR tabled) (sym (ap (λ z. z.seat.me.0.seen) b.1)) c.lend-place.ensures.later.1))

pub cut_retire-answer-requires : goal.cut_retire-answer-requires
cut_retire-answer-requires g c = record {
  rule = λ o at.
      let w = g.W.Caller in let w0 = c.args.caller.now in let three = c.lend-place.new.to in
      may_cut_left g.P.GracePlan.QSBR c.args.naming three.seat.me.0 c.lend-place.ensures.right three.owns.0 three.owns.1 c.lend-place.ensures.left.1 (w.seen w0) (w.heard w0) c.requires.waited c.lend-place.ensures.left.0 o (index_has (list_in three.seat.me.0) 0 o at);
}

pub take_back-requires : goal.take_back-requires
take_back-requires g c =
    let r = c.cut_retire-answer.ensures in let e = c.lend-place.ensures in let four = c.cut_retire-answer.new.chain.seat.me.0 in let on = goes g (goal.at.take_back-requires g c).After-cut_retire-answer in
    let lent = by_result c.cut_retire-answer.result _ _ r.retired r.back (λ x k. k.lent) (λ x y. ap (λ z. lent_chains z.seat.me.0.chains) y.1) in
    subst (λ (m : Naming). HasRight m four) (sym e.naming) (right_on g.P.GracePlan.QSBR c.args.naming c.lend-place.new.to.seat.me.0 four e.right lent on.0 on.1)

pub returns : goal.returns
returns g c =
    let b = (goal.at.returns g c).After-cut_retire-answer in let q = g.P.GracePlan.QSBR in let maps = tabled_maps q in let w = g.W.Caller in let sizes = g.B.Site.sizes in let n = c.args.naming in
    let w0 = c.args.caller.now in let w2 = c.cut_retire-answer.new.caller in let one = c.args.chain.now in let three = c.lend-place.new.to in let four = c.cut_retire-answer.new.chain in let five = c.take_back.new.from in
    let e = c.lend-place.ensures in let r = c.cut_retire-answer.ensures in let f = c.take_back.ensures.from in let log : Log = four.seat.me.0.seen in let c1 = one.number in let number = three.owns.2 ∙ e.own.1 in
    let same = ap (λ (x : ChainRight). x.objects) e.own.0 in let some = c.requires.some in let result = c.cut_retire-answer.result in
    let kept : four.number ≡ three.number = by_result result _ _ r.same r.back (λ x k. k.1) (λ x y. ap (λ z. z.number) y.1) in
    let keys' : KnowsKeys four.seat.me.0 = by_result result _ _ r.retired r.back
    (λ x k. keys_cut q tabled maps three.seat.me.0 four.seat.me.0 three.owns.1 e.left.0 (w.seen w0) (w.heard w0) [] k.object k.published k.left)
    (λ x y. subst (λ z. KnowsKeys z.seat.me.0) (sym y.1) e.left.0) in
    let note : (own_in four.seat.me.0.chains).note ≡ (own_in three.seat.me.0.chains).note = by_result result _ _ r.retired r.back (λ x k. k.note) (λ x y. ap (λ z. (own_in z.seat.me.0.chains).note) y.1) in
    -- it had an object
    let why : IfErr result (λ x. RefusesRetirement w q tabled sizes (three.number % sizes.queues) w0 w2 x.0) = IfErr-weaker result _ _ (λ x y. by_second y (λ none. let short = none.1 in absurd (omega (arith, short, some, ap length same))) (λ k. k.1)) r.refused in record {
      retired = if_ok result _ _ _ (λ t k z.
          let p = k.published in
          let writes : Writes q tabled (w.seen w0) (w.heard w0) (Object (Cut c1 k.object)) log = record { before = p.before; wrote = p.wrote ∙ ap (λ (j : ℕ). Object (Cut j k.object) ∷ p.before) number; after = p.after.after_caller; run = p.run } in
          let left = leaves_left q n three.seat.me.0 e.right three.owns.0 three.owns.1 e.left.1 (w.seen w0) (w.heard w0) (Object (Cut c1 k.object)) log writes p.after.after_writer.0 p.known
          (λ j other. at_number_other c1 j (without_object k.object ((state_of p.before).chain c1)) (state_of p.before).chain (λ is. other (is ∙ sym number))) sizes.chains e.fits.0 e.fits.1 e.left.2 in (
            record {
              chain = c1;
              object = k.object;
              ticket = t.0;
              published = log;
              leaves = record { writes = writes; map = left.0 };
              noted = ap (λ (j : ℕ). chain_note j p.before) (sym number) ∙ left.1;
              hands = record { given = k.given; turn = k.turn; queued = subst (λ (x : ℕ). Queues q tabled (Begins log) k.object (x % sizes.queues) k.given (g.row.D.coded.code c.args.job) (w.heard w2)) e.own.1 k.queued };
            },
            ap length (sym same) ∙ (one_fewer (list_in three.seat.me.0) k.object (listed_once q three.seat.me.0 three.owns.1 e.later.1) k.was ∙ ap (λ (l : List ObjectId). length l + 1) (sym (ap (λ (x : List ChainRight). (own_in x).objects) f.0 ∙ k.left))),
          )) r.retired r.same;
      refused = if_err result _ _ _ (λ x y z. (
        z.0,
        subst (λ (k : ℕ). IsRefused w w2 (λ j. j ≡ k % sizes.queues) x.0) e.own.1 (refused_why w q tabled sizes (three.number % sizes.queues) w0 w2 x.0 y),
        ap (λ (l : List ChainRight). (own_in l).objects) f.0 ∙ (ap (λ k. list_in k.seat.me.0) z.1 ∙ same),
      )) why r.back;
      chain = (
        ap lent_chains f.0,
        keys_on q tabled maps four.seat.me.0 five.seat.me.0 four.owns.1 ([], f.1) (subst (IsLiveRun q tabled) (sym f.1) (goes g b).1) (ap (λ (x : List ChainRight). (own_in x).objects) f.0) keys',
        ap (λ (x : List ChainRight). (own_in x).note) f.0 ∙ (note ∙ e.left.1),
        subst (λ (k : ℕ). ∥ (k < n.first) ⊎ (n.first + n.buckets ≤ k) ∥₁) (one.owns.2 ∙ sym (five.owns.2 ∙ (f.2 ∙ (kept ∙ e.own.1)))) c.requires.chain.3,
      );
      number = f.2 ∙ (kept ∙ e.own.1);
      heard = by_result result _ _ r.retired why
          (λ x k. queued_later q tabled (Begins log) k.object _ k.given _ (w.heard w0) (w.heard w2) k.queued (begins_trans (w.heard w0) log k.queued.before (begins_trans (w.heard w0) k.published.before log k.published.after.after_caller.1 (_ ∷ [], k.published.wrote)) k.queued.at))
          (λ x y. y.after.after_heard);
      changes = (if_ok result _ _ _ (λ x k z. one_made w w0 w2 log k.0.0) r.same r.retired, IfErr-weaker result _ _ (λ x y. y.same.0) why);
      same = by_result result _ _ r.same why (λ x k. makes_frees w sizes w0 w2 log k.0) (λ x y. refused_frees w q tabled sizes (three.number % sizes.queues) w0 w2 x.0 y);
    }

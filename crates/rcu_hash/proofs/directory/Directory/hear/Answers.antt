use Rattle.rcu_hash.proofs.Cited.{run_of, is_noted, Log, Begins, chain_note, record_of, Names, reserved, tabled, IsLinked, chain_known, IsAfter, lent_chains, ChainRight, own_in, In, ObjectId, ◌≡◌, ℕ, ◌+◌, ◌≤◌, ◌∙◌, ◌<◌, List, refl, sym, ap, subst, inl, arith, slice_index_or, ⊎_elim, by_words, words_later, own_used}
use Rattle.rcu_hash.proofs.directory.Directory.hear.Goals as goal

pub invariant_of-self : goal.invariant_of-self
invariant_of-self g c =
    let q = g.P.GracePlan.QSBR in let d = c.args.self.now in let n = d.naming in let v = d.chain.seat.me.0 in let h = c.hear.ensures in let later : Log = c.hear.new.self.seat.me.0.seen in record {
      own = (h.chains.1 ∙ d.own.0, ap lent_chains h.chains.0 ∙ d.own.1, ap (λ (x : List ChainRight). (own_in x).note) h.chains.0 ∙ d.own.2);
      alone = ap (λ (x : List ChainRight). (own_in x).objects) h.chains.0 ∙ d.alone;
      words = words_later q v.seen later n.object h.told.1 h.told.0.run n.first n.buckets (own_used q v n.object (run_of q tabled v.seen later h.told.1 h.told.0.run) d.chain.owns.1 d.alone) d.words;
      fits = d.fits;
    }

pub returns : goal.returns
returns g c =
    let q = g.P.GracePlan.QSBR in let w = g.W.Caller in let w0 = c.args.caller.now in let d = c.args.self.now in let n = d.naming in let v = d.chain.seat.me.0 in let h = c.hear.ensures in let one = c.hear.new.self in let t : Log = one.seat.me.0.seen in
    let words = words_later q v.seen t n.object h.told.1 h.told.0.run n.first n.buckets (own_used q v n.object (run_of q tabled v.seen t h.told.1 h.told.0.run) d.chain.owns.1 d.alone) d.words in
    let is = chain_known one.seat.me.0 n.directory one.owns.1 (one.owns.2 ∙ (h.chains.1 ∙ d.own.0)) ∙ (ap (λ (x : List ChainRight). (own_in x).objects) h.chains.0 ∙ d.alone) in
    let linked : IsLinked n.directory n.object t = (subst (λ (l : List ObjectId). In l n.object) (sym is) (inl refl), by_words (record_of t n.object) n.first n.buckets words) in record {
      linked = subst (IsLinked n.directory n.object) (sym h.heard) linked;
      -- a linked directory's chains have notes
      noted = λ k among none.
          let names : Names (record_of t n.object) k = (
            subst (λ (z : List ℕ). slice_index_or z 0 0 ≤ k) (sym words) among.0,
            subst (λ (z : List ℕ). k < slice_index_or z 0 0 + slice_index_or z 1 0) (sym words) among.1,
          ) in
          let zero : chain_note k t ≡ 0 = ap (chain_note k) (sym h.heard) ∙ none in ⊎_elim
          (λ (left : chain_note k t ≡ n.directory + 1). absurd (omega (arith, zero, left)))
          (λ (held : chain_note k t ≡ reserved n.object). absurd (omega (arith, zero, held)))
          (is_noted q t k n.directory n.object h.told.0.run linked.0 linked.1 names).2;
      heard = subst (IsAfter q tabled (w.seen w0) (w.heard w0)) (sym h.heard) h.told.0;
      told = (subst (Begins v.seen) (sym h.heard) h.told.1, h.heard);
      same = (h.same, refl);
    }

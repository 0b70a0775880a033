use Rattle.rcu_hash.proofs.Cited.{run_of, tabled, HasRight, Naming, ChainRight, own_in, ◌≡◌, ◌+◌, ◌≤◌, [], ◌∷◌, ◌∙◌, ◌<◌, ◌++◌, ◌^◌, List, ap, subst, used_later, words_later, right_by, own_used, tabled_maps, keys_on, sym, ◌⊎◌}
use Rattle.rcu_hash.proofs.directory.DirectoryLock.lend.Goals as goal

pub returns : goal.returns
returns g c =
    let q = g.P.GracePlan.QSBR in let d = c.take-place.result.1 in let n = d.naming in let v = d.chain.seat.me.0 in let to = c.args.to.now in let w = c.lend-lent.new.to.seat.me.0 in let e = c.lend-lent.ensures in let named = c.take-place.ensures in
    let run = run_of q tabled v.seen w.seen e.later.1 e.later.2 in let used = own_used q v n.object run d.chain.owns.1 d.alone in
    let is : w.chains ≡ own_in to.seat.me.0.chains ∷ own_in v.chains ∷ [] = e.chains.0 ∙ ap (λ (xs : List ChainRight). xs ++ own_in v.chains ∷ []) (to.owns.0 ∙ ap (λ (xs : List ChainRight). own_in to.seat.me.0.chains ∷ xs) c.requires.0) in let own : own_in w.chains ≡ own_in to.seat.me.0.chains = ap own_in is in record {
      naming = named;
      fits = subst (λ (m : Naming). (0 < m.buckets) × (m.first + m.buckets ≤ g.B.Site.sizes.chains) × (m.directory + 1 < 2 ^ 63)) named d.fits;
      right = subst (λ (m : Naming). HasRight m w) named
          (right_by n w (own_in to.seat.me.0.chains) (own_in v.chains) is (d.chain.owns.2 ∙ d.own.0) d.alone d.own.2 (words_later q v.seen w.seen n.object e.later.1 e.later.2 n.first n.buckets used d.words) (used_later q v.seen w.seen n.object e.later.1 e.later.2 used));
      left = (
        keys_on q tabled (tabled_maps q) to.seat.me.0 w to.owns.1 e.later.0 e.later.2 (ap (λ (x : ChainRight). x.objects) own) c.requires.1,
        ap (λ (x : ChainRight). x.note) own ∙ c.requires.2,
        subst (λ (x : ChainRight). ∥ (x.chain < c.args.naming.first) ⊎ (c.args.naming.first + c.args.naming.buckets ≤ x.chain) ∥₁) (sym own) c.requires.3,
      );
      own = (own, e.chains.1, e.chains.2);
      later = (e.later.0, e.later.2);
    }

use Rattle.rcu_hash.proofs.Cited.{tabled_maps, begins_trans, Begins, IsLiveRun, tabled, HasRight, LinksStill, length_of, Naming, keys_on, IsAfter, lent_chains, ChainRight, own_in, ◌≡◌, ℕ, ◌+◌, ◌≤◌, ◌∙◌, ◌⊎◌, ◌<◌, sym, ap, subst, links_still, right_on}
use Rattle.rcu_hash.proofs.directory.DirectoryLock.hear_left.Given.{Over}
use Rattle.rcu_hash.proofs.directory.DirectoryLock.hear_left.Goals.{After-hear}
use Rattle.rcu_hash.proofs.directory.DirectoryLock.hear_left.Goals as goal

-- the writer of the chain has the directory's right still, once it has heard more
module _ (g : Over) (c : After-hear g) where
  still : HasRight c.args.naming c.hear.new.self.seat.me.0
  still = let h = c.hear.ensures in right_on g.P.GracePlan.QSBR c.args.naming c.lend-place.new.to.seat.me.0 c.hear.new.self.seat.me.0 c.lend-place.ensures.right (ap lent_chains h.chains.0) h.told.1 h.told.0.run

  own : own_in c.hear.new.self.seat.me.0.chains ≡ own_in c.args.chain.now.seat.me.0.chains
  own = ap own_in c.hear.ensures.chains.0 ∙ c.lend-place.ensures.own.0

pub take_back-requires : goal.take_back-requires
take_back-requires g c = subst (λ (m : Naming). HasRight m c.hear.new.self.seat.me.0) (sym c.lend-place.ensures.naming) (still g (goal.at.take_back-requires g c).After-hear)

pub returns : goal.returns
returns g c =
    let a = (goal.at.returns g c).After-hear in let q = g.P.GracePlan.QSBR in let w = g.W.Caller in let w0 = c.args.caller.now in let n = c.args.naming in let e = c.lend-place.ensures in let h = c.hear.ensures in let b = c.take_back.ensures.from in
    let one = c.args.chain.now in let v = one.seat.me.0 in let now = c.hear.new.self in let u = c.take_back.new.from.seat.me.0 in let left = c.requires.chain in let same = ap own_in b.0 ∙ own g a in
    let later : Begins v.seen u.seen = subst (Begins v.seen) (sym b.1) (begins_trans v.seen c.lend-place.new.to.seat.me.0.seen now.seat.me.0.seen e.later.0 h.told.1) in
    let outside = λ (x : ChainRight) (is : x ≡ own_in v.chains). subst (λ (k : ℕ). ∥ (k < n.first) ⊎ (n.first + n.buckets ≤ k) ∥₁) (ap (λ (y : ChainRight). y.chain) (sym is)) left.3 in record {
      left = subst (λ (x : ChainRight). LinksStill n.directory (length_of x) (w.heard c.hear.new.caller)) (sym (ap own_in b.0)) (subst (LinksStill n.directory (length_of (own_in now.seat.me.0.chains))) (sym h.heard)
          (links_still q n now.seat.me.0 (still g a) now.owns.0 now.owns.1 (ap (λ (x : ChainRight). x.note) (own g a) ∙ left.2) h.known (outside (own_in now.seat.me.0.chains) (own g a))));
      heard = subst (IsAfter q tabled (w.seen w0) (w.heard w0)) (sym h.heard) h.told.0;
      chain = (
        ap lent_chains b.0,
        keys_on q tabled (tabled_maps q) v u one.owns.1 later (subst (IsLiveRun q tabled) (sym b.1) h.told.0.run) (ap (λ (x : ChainRight). x.objects) same) left.1,
        ap (λ (x : ChainRight). x.note) same ∙ left.2,
        outside (own_in u.chains) same,
      );
      right = same;
      number = b.2 ∙ (h.chains.1 ∙ e.own.1);
      same = h.same;
    }

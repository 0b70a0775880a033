use Rattle.rcu_hash.proofs.Cited.{tabled_maps, Log, Begins, tabled, directed_map, LeadsTo, bucket_of, keys_on, map_of, IsAfter, lent_chains, ChainRight, own_in, ◌≡◌, [], ◌∙◌, refl, sym, ap, subst, leads_there, directed_between, bucket_on}
use Rattle.rcu_hash.proofs.bucket.Bucket.hear.Goals as goal

pub invariant_of-self : goal.invariant_of-self
invariant_of-self g c =
    let q = g.P.GracePlan.QSBR in let old = c.args.self.now in let one = old.chain in let two = c.hear.new.self in let h = c.hear.ensures in let own = ap own_in h.chains.0 in record {
      is = bucket_on q old.naming one.seat.me.0 two.seat.me.0 h.told.1 h.told.0.run two.owns.1 (ap (λ (x : ChainRight). x.chain) own) (ap lent_chains h.chains.0 ∙ old.is.0)
          (keys_on q tabled (tabled_maps q) one.seat.me.0 two.seat.me.0 one.owns.1 h.told.1 h.told.0.run (ap (λ (x : ChainRight). x.objects) own) old.is.1)
          (ap (λ (x : ChainRight). x.note) own) old.is;
      fits = old.fits;
    }

pub returns : goal.returns
returns g c =
    let q = g.P.GracePlan.QSBR in let w = g.W.Caller in let w0 = c.args.caller.now in let old = c.args.self.now in let n = old.naming in let chains = g.B.Site.sizes.chains in let h = c.hear.ensures in let t : Log = c.hear.new.self.seat.me.0.seen in let d = (invariant_of-self g c.before).is.3 in record {
      told = (subst (IsAfter q tabled (w.seen w0) (w.heard w0)) (sym h.heard) h.told.0, subst (Begins old.chain.seat.me.0.seen) (sym h.heard) h.told.1, h.heard);
      map = λ key. subst (λ (l : Log). directed_map chains n.directory l key ≡ map_of l (bucket_of n.first n.buckets key) key) (sym h.heard)
          (directed_between chains n.first n.buckets old.fits.0 old.fits.1 q n.directory n.object t t t ([], refl) ([], refl) h.told.0.run d.0 d.0 d.1 key);
      leads = λ key. subst (λ (l : Log). LeadsTo n.directory l key (bucket_of n.first n.buckets key)) (sym h.heard) (leads_there t n.directory n.object n.first n.buckets key d.0 d.1);
      same = (h.same, refl, h.chains.1);
    }

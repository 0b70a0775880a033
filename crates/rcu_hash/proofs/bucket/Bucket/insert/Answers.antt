use Rattle.rcu_hash.proofs.Cited.{tabled_maps, begins_trans, free_takes, Log, Begins, IsFree, tabled, InsertsThrough, bucket_of, Naming, keys_pushed, same_own, chain_known, comes_in, pushed_map, rank_walked, stays_makes, MakesLast, ChainRight, Look, list_in, ObjectId, ◌≡◌, ℕ, [], ◌∷◌, ◌∙◌, ◌++◌, List, sym, ap, subst, slice_index_or, err_from_is_err_and, insertion_through, inserts_through, may_write_reserved, bucket_on, bucket_walked}
use Rattle.rcu_list.specs.Calls as list
use Rattle.rcu_list.specs.Refusing as refusing
use Rattle.rcu_hash.proofs.bucket.Bucket.insert.Goals as goal

pub invariant_of-self : goal.invariant_of-self
invariant_of-self g c =
    let b = c.hear.new.self in let one = b.chain in let two = c.prepare_insertion.new.chain in
    record { is = bucket_walked g.P.GracePlan.QSBR b.naming one.number one.seat.me two.seat.me c.prepare_insertion.ensures.looked.1 one.owns.1 one.owns.2 two.owns.1 b.is; fits = b.fits }

pub push-requires : goal.push-requires
push-requires g c = record {
  rule =
      let q = g.P.GracePlan.QSBR in let w = g.W.Caller in let w2 = c.prepare_insertion.new.caller in let b = c.hear.new.self in let one = b.chain in let two = c.prepare_insertion.new.chain in let p = c.in_ok-owned.ensures in let owned = c.in_ok-owned.owned in
      let is = bucket_walked q b.naming one.number one.seat.me two.seat.me p.looked.1 one.owns.1 one.owns.2 two.owns.1 b.is in
      comes_in q tabled (tabled_maps q) IsFree (free_takes q) two.seat.me.0 (w.seen w2) (w.heard w2) owned.seat.me.0.seen two.owns.0 two.owns.1 (may_write_reserved q two.seat.me.0 b.naming.object is.2) is.1
      owned.seat.me.0 c.args.key c.args.value p.ready.0;
}

pub invariant_of-self-2 : goal.invariant_of-self-2
invariant_of-self-2 g c =
    let q = g.P.GracePlan.QSBR in let maps = tabled_maps q in let w = g.W.Caller in let w2 = c.prepare_insertion.new.caller in let b = c.hear.new.self in let one = b.chain in let two = c.prepare_insertion.new.chain in let four = c.push.new.self in
    let r = c.in_ok-owned.ensures in let p = c.push.ensures in let owned = c.in_ok-owned.owned in
    let is = bucket_walked q b.naming one.number one.seat.me two.seat.me r.looked.1 one.owns.1 one.owns.2 two.owns.1 b.is in
    let keys = keys_pushed q tabled maps two.seat.me.0 four.seat.me.0 two.owns.1 is.1 (w.seen w2) (w.heard w2) owned.seat.me.0.seen owned.seat.me.0 p.pushed
    (ap (λ (x : List ℕ). slice_index_or x 3 0) r.ready.0.words) (p.list.0 ∙ ap (λ (o : ObjectId). o ∷ list_in two.seat.me.0) p.object) in record {
      is = bucket_on q b.naming two.seat.me.0 four.seat.me.0 (begins_trans two.seat.me.0.seen p.pushed.before four.seat.me.0.seen p.pushed.after.after_writer.0 (_ ∷ [], p.pushed.wrote)) p.pushed.run four.owns.1 (four.owns.2 ∙ (p.list.3 ∙ sym two.owns.2)) (p.list.2 ∙ is.0) keys p.list.1 is;
      fits = b.fits;
    }

pub returns : goal.returns
returns g c =
    let q = g.P.GracePlan.QSBR in let maps = tabled_maps q in let w = g.W.Caller in let w0 = c.args.caller.now in let w1 = c.hear.new.caller in let w2 = c.prepare_insertion.new.caller in let w3 = c.push.new.caller in
    let b = c.hear.new.self in let n = b.naming in let one = b.chain in let two = c.prepare_insertion.new.chain in let four = c.push.new.self in
    let r = c.in_ok-owned.ensures in let l = r.looked in let p = c.push.ensures in let owned = c.in_ok-owned.owned in let h = c.hear.ensures in
    let chains = g.B.Site.sizes.chains in let seen : Log = w.seen w0 in let heard : Log = w.heard w0 in let key = c.args.key in let value = c.args.value in
    let known : Log = one.seat.me.0.seen in let s : Log = two.seat.me.0.seen in let log : Log = four.seat.me.0.seen in let before : Log = p.pushed.before in
    let list_is : list_in two.seat.me.0 ≡ list_in one.seat.me.0 = ap (λ (x : ChainRight). x.objects) (same_own q tabled maps one.number one.seat.me two.seat.me l.1 one.owns.1 one.owns.2) in
    let since : Begins known before = begins_trans known s before l.1.2.0 p.pushed.after.after_writer.0 in
    let came = pushed_map q tabled maps one.number known seen heard two.seat.me.0 four.seat.me.0 (two.owns.2 ∙ l.2) two.owns.0
    (chain_known one.seat.me.0 one.number one.owns.1 one.owns.2 ∙ sym list_is)
    (w.seen w2) (w.heard w2) owned.seat.me.0.seen owned.seat.me.0 key value r.ready.0.rank r.ready.1
    (r.ready.0.next ∙ rank_walked q tabled maps one.number one.seat.me two.seat.me l.1 one.owns.1 one.owns.2) r.ready.0.words p.pushed (
      since,
      subst (λ (x : Log). Begins x before) (r.same.0.0 ∙ h.same.0.0.0.0) p.pushed.after.after_caller.0,
      begins_trans heard (w.heard w1) before h.told.0.after_heard (begins_trans (w.heard w1) (w.heard w2) before r.heard.after_heard p.pushed.after.after_caller.1),
    )
    r.ready.2 in
    let bucket = h.same.2 ∙ (sym c.requires.key ∙ ap (λ (m : Naming). bucket_of m.first m.buckets key) (sym h.same.1)) in
    let was = b.is.3 in let is = (invariant_of-self-2 g c.before).is.3 in
    let through = inserts_through chains n.first n.buckets b.fits.0 b.fits.1 q n.directory n.object known log p.pushed.run was.0 is.0 was.1 seen heard key value (subst (λ (x : ℕ). list.Inserts q tabled x known seen heard key value log) bucket came) in record {
      inserted = subst (λ (x : ℕ). InsertsThrough q tabled chains c.args.self.now.naming.directory seen heard key value x (w.heard c.push.new.caller)) c.requires.key
          (subst (λ (m : Naming). InsertsThrough q tabled chains m.directory seen heard key value (bucket_of m.first m.buckets key) (w.heard c.push.new.caller)) h.same.1
          (subst (InsertsThrough q tabled chains n.directory seen heard key value (bucket_of n.first n.buckets key)) (sym p.heard) through));
      changes = subst (MakesLast w w0 w3) (sym p.heard) (stays_makes w w0 w1 w3 log h.same.0.0.0 (stays_makes w w1 w2 w3 log r.same.0 p.same.0));
      heard = (p.same.2 ∙ (r.same.1.0 ∙ h.same.0.1), (owned.seat.me.0.object, (r.took.0, p.same.1 ∙ (r.took.1 ∙ ap (λ (l : List Look). r.took.0 ++ l) h.same.0.0.1), r.took.2)));
      refused = tt;
      same = (h.same.1, p.list.3 ∙ (l.2 ∙ h.same.2));
    }

pub returns-in_err-owned-clause-refused : goal.returns-in_err-owned-clause-refused
returns-in_err-owned-clause-refused g c =
    let q = g.P.GracePlan.QSBR in let w = g.W.Caller in let sizes = g.B.Site.sizes in let w0 = c.args.caller.now in let w1 = c.hear.new.caller in let w2 = c.prepare_insertion.new.caller in
    let old = c.args.self.now in let n = old.naming in let b = c.hear.new.self in let h = c.hear.ensures in let key = c.args.key in let known : Log = b.chain.seat.me.0.seen in
    let p = err_from_is_err_and c.from_residual.result c.from_residual.ensures.1 in
    rw p.1 (insertion_through w q tabled sizes w0 w1 w2 h.same.0 h.told.0 p.0 known h.told.2 n.first n.buckets key n.directory (h.map key) (h.leads key)
    (subst (λ (x : ℕ). refusing.RefusesInsertion w q tabled sizes w1 w2 p.0 known x key) (h.same.2 ∙ sym c.requires.key)
    (subst (λ e. refusing.RefusesInsertion w q tabled sizes w1 w2 e known b.chain.number key) (sym p.2) c.in_err-owned.ensures.refused)))

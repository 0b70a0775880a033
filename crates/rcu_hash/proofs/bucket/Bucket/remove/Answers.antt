use Rattle.rcu_hash.proofs.Cited.{tabled_maps, begins_trans, free_takes, key_of, Log, Begins, record_of, IsFree, tabled, IsBucket, RemovesThrough, bucket_of, Naming, note_walked, same_own, chain_known, by_result, by_second, found_there, if_err, walked_missing, cut_map, if_ok, keys_cut, may_remove, stays_makes, index_has, map_of, Queues, RefusesRetirement, ChainRight, list_in, some_is, ObjectId, Missing, ◌≡◌, ℕ, ◌≤◌, [], ◌∷◌, ◌∙◌, ◌%◌, List, length, refl, sym, ap, subst, arith, None, slice_get, IsSome, slice_get_within, removal_missing, removal_refused, removes_through, may_write_reserved, bucket_on, bucket_walked}
use Rattle.rcu_list.specs.Calls as list
use Rattle.rcu_hash.proofs.bucket.Bucket.remove.Goals as goal

pub invariant_of-self : goal.invariant_of-self
invariant_of-self g c =
    let b = c.hear.new.self in let one = b.chain in let two = c.index_of.new.self in
    record { is = bucket_walked g.P.GracePlan.QSBR b.naming one.number one.seat.me two.seat.me c.index_of.ensures.walked.1 one.owns.1 one.owns.2 two.owns.1 b.is; fits = b.fits }

pub cut_retire-answer-requires : goal.cut_retire-answer-requires
cut_retire-answer-requires g c = record {
  rule = λ o at.
      let q = g.P.GracePlan.QSBR in let w = g.W.Caller in let w1 = c.hear.new.caller in let b = c.hear.new.self in let one = b.chain in let two = c.index_of.new.self in
      let is = bucket_walked q b.naming one.number one.seat.me two.seat.me c.in-Some.ensures.walked.1 one.owns.1 one.owns.2 two.owns.1 b.is in
      may_remove q tabled (tabled_maps q) IsFree (free_takes q) two.seat.me.0 (w.seen w1) (w.heard w1) [] two.owns.0 two.owns.1 (may_write_reserved q two.seat.me.0 b.naming.object is.2) is.1 o (index_has (list_in two.seat.me.0) c.in-Some.index o at);
}

pub invariant_of-self-2 : goal.invariant_of-self-2
invariant_of-self-2 g c =
    let q = g.P.GracePlan.QSBR in let w = g.W.Caller in let w1 = c.hear.new.caller in let b = c.hear.new.self in let one = b.chain in let two = c.index_of.new.self in let four = c.cut_retire-answer.new.chain in let r = c.cut_retire-answer.ensures in
    let is = bucket_walked q b.naming one.number one.seat.me two.seat.me c.in-Some.ensures.walked.1 one.owns.1 one.owns.2 two.owns.1 b.is in
    let number : four.number ≡ two.number = by_result c.cut_retire-answer.result _ _ r.same r.back (λ x k. k.1) (λ x y. ap (λ z. z.number) y.1) in record {
      is = by_result c.cut_retire-answer.result _ _ r.retired r.back
          (λ x k. bucket_on q b.naming two.seat.me.0 four.seat.me.0 (begins_trans two.seat.me.0.seen k.published.before four.seat.me.0.seen k.published.after.after_writer.0 (_ ∷ [], k.published.wrote)) k.published.run four.owns.1 (four.owns.2 ∙ (number ∙ sym two.owns.2)) (k.lent ∙ is.0)
          (keys_cut q tabled (tabled_maps q) two.seat.me.0 four.seat.me.0 two.owns.1 is.1 (w.seen w1) (w.heard w1) [] k.object k.published k.left)
          k.note is)
          (λ x y. subst (λ z. IsBucket b.naming z.seat.me.0) (sym y.1) is);
      fits = b.fits;
    }

pub returns-clause-removed : goal.returns-clause-removed
returns-clause-removed g c =
    let q = g.P.GracePlan.QSBR in let maps = tabled_maps q in let w = g.W.Caller in let w0 = c.args.caller.now in let w1 = c.hear.new.caller in let w2 = c.cut_retire-answer.new.caller in
    let b = c.hear.new.self in let n = b.naming in let one = b.chain in let two = c.index_of.new.self in let four = c.cut_retire-answer.new.chain in
    let i = c.in-Some.ensures in let l = i.walked in let f = i.found in let h = c.hear.ensures in
    let chains = g.B.Site.sizes.chains in let queues = g.B.Site.sizes.queues in let seen : Log = w.seen w0 in let heard : Log = w.heard w0 in let key = c.args.key in let index = c.in-Some.index in
    let known : Log = one.seat.me.0.seen in let s : Log = two.seat.me.0.seen in let log : Log = four.seat.me.0.seen in
    let list_is : list_in two.seat.me.0 ≡ list_in one.seat.me.0 = ap (λ (x : ChainRight). x.objects) (same_own q tabled maps one.number one.seat.me two.seat.me l.1 one.owns.1 one.owns.2) in
    let bucket = h.same.2 ∙ (sym c.requires.key ∙ ap (λ (m : Naming). bucket_of m.first m.buckets key) (sym h.same.1)) in
    let was = b.is.3 in let is = (invariant_of-self-2 g c.before).is.3 in
    if_ok c.cut_retire-answer.result _ _ _ (λ t r z.
    let here : f.object ≡ r.object = some_is f.object r.object (sym f.at ∙ (ap (λ (x : List ObjectId). slice_get x index) (sym list_is) ∙ r.was)) in
    let key_is : key_of (record_of known r.object) ≡ key = ap (λ (o : ObjectId). key_of (record_of known o)) (sym here) ∙ (ap key_of (sym (note_walked q tabled maps one.number one.seat.me two.seat.me l.1 one.owns.1 one.owns.2 f.object (index_has (list_in one.seat.me.0) index f.object f.at))) ∙ f.begins) in
    let since : Begins known r.published.before = begins_trans known s r.published.before l.1.2.0 r.published.after.after_writer.0 in
    let came = cut_map q tabled maps one.number known seen heard two.seat.me.0 four.seat.me.0 (two.owns.2 ∙ l.2) two.owns.0
    (chain_known one.seat.me.0 one.number one.owns.1 one.owns.2 ∙ sym list_is) (w.seen w1) (w.heard w1) [] key r.object (index_has (list_in two.seat.me.0) index r.object r.was) key_is r.published (
      since,
      subst (λ (x : Log). Begins x r.published.before) h.same.0.0.0.0 r.published.after.after_caller.0,
      begins_trans heard (w.heard w1) r.published.before h.told.0.after_heard r.published.after.after_caller.1,
    ) in
    let through = removes_through chains n.first n.buckets b.fits.0 b.fits.1 q n.directory n.object known log r.published.run was.0 is.0 was.1 seen heard key r.object (subst (λ (x : ℕ). list.Removes q tabled x known seen heard key r.object log) bucket came) in (
      r.object,
      log,
      subst (λ (x : ℕ). RemovesThrough q tabled chains c.args.self.now.naming.directory seen heard key x r.object log) c.requires.key
          (subst (λ (m : Naming). RemovesThrough q tabled chains m.directory seen heard key (bucket_of m.first m.buckets key) r.object log) h.same.1 through),
      record { given = r.given; turn = r.turn; queued = subst (λ (x : ℕ). Queues q tabled (Begins log) r.object (x % queues) r.given (g.row.D.coded.code c.args.callback) (w.heard w2)) (l.2 ∙ h.same.2) r.queued },
      stays_makes w w0 w1 w2 log h.same.0.0.0 z.0.0,
    ))
    c.cut_retire-answer.ensures.retired c.cut_retire-answer.ensures.same

pub returns-in_default-clause-refused : goal.returns-in_default-clause-refused
returns-in_default-clause-refused g c =
    let q = g.P.GracePlan.QSBR in let w = g.W.Caller in let sizes = g.B.Site.sizes in let w0 = c.args.caller.now in let w1 = c.hear.new.caller in
    let n = c.args.self.now.naming in let one = c.hear.new.self.chain in let h = c.hear.ensures in let key = c.args.key in let known : Log = one.seat.me.0.seen in let i = c.in_default.ensures in
    let missing = walked_missing q tabled (tabled_maps q) one.number one.seat.me c.index_of.new.self.seat.me i.walked.1 one.owns.1 one.owns.2 key i.none in
    removal_missing w q tabled sizes w0 w1 w1 h.same.0 h.told.0 Missing known h.told.2 n.first n.buckets key n.directory (h.map key) (h.leads key) refl
    (subst (λ (x : ℕ). map_of known x key ≡ None) (h.same.2 ∙ sym c.requires.key) missing) refl

pub returns-clause-refused : goal.returns-clause-refused
returns-clause-refused g c =
    let q = g.P.GracePlan.QSBR in let maps = tabled_maps q in let w = g.W.Caller in let sizes = g.B.Site.sizes in let w0 = c.args.caller.now in let w1 = c.hear.new.caller in let w2 = c.cut_retire-answer.new.caller in
    let n = c.args.self.now.naming in let one = c.hear.new.self.chain in let two = c.index_of.new.self in let h = c.hear.ensures in let key = c.args.key in let known : Log = one.seat.me.0.seen in
    let i = c.in-Some.ensures in let l = i.walked in let f = i.found in
    let list_is : list_in two.seat.me.0 ≡ list_in one.seat.me.0 = ap (λ (x : ChainRight). x.objects) (same_own q tabled maps one.number one.seat.me two.seat.me l.1 one.owns.1 one.owns.2) in
    let bucket = h.same.2 ∙ sym c.requires.key in
    let there = subst (λ (x : ℕ). IsSome (map_of known x key)) bucket (found_there q tabled maps one.number one.seat.me two.seat.me l.1 one.owns.1 one.owns.2 key c.in-Some.index f) in
    let within = slice_get_within (list_in one.seat.me.0) c.in-Some.index f.object f.at in
    if_err c.cut_retire-answer.result _ _ _ (λ x r b.
    removal_refused w q tabled sizes w0 w1 w2 h.same.0 h.told.0 x.0 known h.told.2 n.first n.buckets key n.directory (h.map key) (h.leads key) there
    (subst (λ (y : ℕ). RefusesRetirement w q tabled sizes (y % sizes.queues) w1 w2 x.0) (l.2 ∙ bucket)
    (by_second r (λ m. let few : length (list_in two.seat.me.0) ≤ c.in-Some.index = m.1 in let same : length (list_in two.seat.me.0) ≡ length (list_in one.seat.me.0) = ap length list_is in omega arith) (λ k. k.1))))
    c.cut_retire-answer.ensures.refused c.cut_retire-answer.ensures.back

pub returns-clause-heard : goal.returns-clause-heard
returns-clause-heard g c =
    let h = c.hear.ensures.same.0 in
    if_ok c.cut_retire-answer.result _ _ _ (λ t z r. (z.0.1 ∙ h.0.1, z.0.2 ∙ h.1)) c.cut_retire-answer.ensures.same c.cut_retire-answer.ensures.retired

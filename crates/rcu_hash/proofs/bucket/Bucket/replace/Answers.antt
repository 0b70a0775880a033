use Rattle.rcu_hash.proofs.Cited.{tabled_maps, begins_trans, free_takes, key_of, Log, Begins, record_of, IsFree, tabled, IsBucket, ReplacesThrough, bucket_of, Naming, note_walked, same_own, chain_known, by_result, by_second, gives_back, keys_replaced, replaced_map, takes_over, stays_makes, index_has, map_of, RefusesSuccessor, Queues, RefusesRetirement, ChainRight, Look, list_in, some_is, In, ObjectId, ◌≡◌, ℕ, ◌≤◌, [], ◌∷◌, ◌∙◌, ◌%◌, ◌++◌, List, length, sym, ap, subst, arith, slice_get, slice_index_or, IsSome, slice_get_within, successor_through, exchange_through, replaces_through, may_write_reserved, bucket_on, bucket_walked}
use Rattle.rcu_list.specs.Calls as list
use Rattle.rcu_hash.proofs.bucket.Bucket.replace.Goals as goal

pub invariant_of-self : goal.invariant_of-self
invariant_of-self g c =
    let b = c.hear.new.self in let one = b.chain in let two = c.prepare_replacement.new.chain in
    record { is = bucket_walked g.P.GracePlan.QSBR b.naming one.number one.seat.me two.seat.me c.prepare_replacement.ensures.looked.1 one.owns.1 one.owns.2 two.owns.1 b.is; fits = b.fits }

pub replace_retire-answer-requires : goal.replace_retire-answer-requires
replace_retire-answer-requires g c = record {
  rule = λ o at.
      let q = g.P.GracePlan.QSBR in let w = g.W.Caller in let w2 = c.prepare_replacement.new.caller in let b = c.hear.new.self in let one = b.chain in let two = c.prepare_replacement.new.chain in let owned = c.in-Ok.ready.1 in
      let is = bucket_walked q b.naming one.number one.seat.me two.seat.me c.in-Ok.ensures.looked.1 one.owns.1 one.owns.2 two.owns.1 b.is in
      takes_over q tabled (tabled_maps q) IsFree (free_takes q) two.seat.me.0 (w.seen w2) (w.heard w2) owned.seat.me.0.seen two.owns.0 two.owns.1 (may_write_reserved q two.seat.me.0 b.naming.object is.2) is.1
      owned.seat.me.0 c.args.key c.args.value c.in-Ok.ready.0 c.in-Ok.ensures.ready.0 o at;
}

pub invariant_of-self-2 : goal.invariant_of-self-2
invariant_of-self-2 g c =
    let q = g.P.GracePlan.QSBR in let w = g.W.Caller in let w2 = c.prepare_replacement.new.caller in let b = c.hear.new.self in let one = b.chain in let two = c.prepare_replacement.new.chain in let four = c.replace_retire-answer.new.chain in
    let p = c.in-Ok.ensures in let owned = c.in-Ok.ready.1 in let r = c.replace_retire-answer.ensures in
    let is = bucket_walked q b.naming one.number one.seat.me two.seat.me p.looked.1 one.owns.1 one.owns.2 two.owns.1 b.is in
    let number : four.number ≡ two.number = by_result c.replace_retire-answer.result _ _ r.same r.back (λ x k. k.1) (λ x y. ap (λ z. z.number) y.2) in record {
      is = by_result c.replace_retire-answer.result _ _ r.retired r.back
          (λ x k. bucket_on q b.naming two.seat.me.0 four.seat.me.0 (begins_trans two.seat.me.0.seen k.published.before four.seat.me.0.seen k.published.after.after_writer.0 (_ ∷ [], k.published.wrote)) k.published.run four.owns.1 (four.owns.2 ∙ (number ∙ sym two.owns.2)) (k.lent ∙ is.0)
          (keys_replaced q tabled (tabled_maps q) two.seat.me.0 four.seat.me.0 two.owns.1 is.1 (w.seen w2) (w.heard w2) owned.seat.me.0.seen owned.seat.me.0 k.object k.published (ap (λ (v : List ℕ). slice_index_or v 3 0) p.ready.0.words) k.left)
          k.note is)
          (λ x y. subst (λ z. IsBucket b.naming z.seat.me.0) (sym y.2) is);
      fits = b.fits;
    }

pub returns-in-Ok-answer-clause-replaced : goal.returns-in-Ok-answer-clause-replaced
returns-in-Ok-answer-clause-replaced g c =
    let q = g.P.GracePlan.QSBR in let maps = tabled_maps q in let w = g.W.Caller in let w0 = c.args.caller.now in let w1 = c.hear.new.caller in let w2 = c.prepare_replacement.new.caller in let w3 = c.replace_retire-answer.new.caller in
    let b = c.hear.new.self in let n = b.naming in let one = b.chain in let two = c.prepare_replacement.new.chain in let four = c.replace_retire-answer.new.chain in
    let p = c.in-Ok.ensures in let l = p.looked in let ready = p.ready.0 in let f = ready.found in let owned = c.in-Ok.ready.1 in let h = c.hear.ensures in
    let r = c.in-Ok-answer.ensures.retired in let z = c.in-Ok-answer.ensures.same in
    let chains = g.B.Site.sizes.chains in let queues = g.B.Site.sizes.queues in let seen : Log = w.seen w0 in let heard : Log = w.heard w0 in let key = c.args.key in let value = c.args.value in let index = c.in-Ok.ready.0 in
    let known : Log = one.seat.me.0.seen in let s : Log = two.seat.me.0.seen in let log : Log = four.seat.me.0.seen in let before : Log = r.published.before in
    let list_is : list_in two.seat.me.0 ≡ list_in one.seat.me.0 = ap (λ (x : ChainRight). x.objects) (same_own q tabled maps one.number one.seat.me two.seat.me l.1 one.owns.1 one.owns.2) in
    let here : f.object ≡ r.object = some_is f.object r.object (sym f.at ∙ r.was) in
    let at : In (list_in one.seat.me.0) r.object = index_has (list_in one.seat.me.0) index r.object (ap (λ (x : List ObjectId). slice_get x index) (sym list_is) ∙ r.was) in
    let key_is : key_of (record_of known r.object) ≡ key = sym (ap key_of (note_walked q tabled maps one.number one.seat.me two.seat.me l.1 one.owns.1 one.owns.2 r.object at)) ∙ (ap (λ (o : ObjectId). key_of (record_of s o)) (sym here) ∙ f.begins) in
    let since : Begins known before = begins_trans known s before l.1.2.0 r.published.after.after_writer.0 in
    let came = replaced_map q tabled maps one.number known seen heard two.seat.me.0 four.seat.me.0 (two.owns.2 ∙ l.2) two.owns.0
    (chain_known one.seat.me.0 one.number one.owns.1 one.owns.2 ∙ sym list_is) (w.seen w2) (w.heard w2) owned.seat.me.0.seen key r.object (index_has (list_in two.seat.me.0) index r.object r.was) key_is
    owned.seat.me.0 value ready.rank ready.words r.published (
      since,
      subst (λ (x : Log). Begins x before) (p.same.0.0 ∙ h.same.0.0.0.0) r.published.after.after_caller.0,
      begins_trans heard (w.heard w1) before h.told.0.after_heard (begins_trans (w.heard w1) (w.heard w2) before p.heard.after_heard r.published.after.after_caller.1),
    ) in
    let bucket = h.same.2 ∙ (sym c.requires.key ∙ ap (λ (m : Naming). bucket_of m.first m.buckets key) (sym h.same.1)) in
    let was = b.is.3 in let is = (invariant_of-self-2 g c.before.before).is.3 in
    let through = replaces_through chains n.first n.buckets b.fits.0 b.fits.1 q n.directory n.object known log r.published.run was.0 is.0 was.1 seen heard key value r.object (subst (λ (x : ℕ). list.Replaces q tabled x known seen heard key value r.object log) bucket came) in (
      r.object,
      log,
      subst (λ (x : ℕ). ReplacesThrough q tabled chains c.args.self.now.naming.directory seen heard key value x r.object log) c.requires.key
          (subst (λ (m : Naming). ReplacesThrough q tabled chains m.directory seen heard key value (bucket_of m.first m.buckets key) r.object log) h.same.1 through),
      record { given = r.given; turn = r.turn; queued = subst (λ (x : ℕ). Queues q tabled (Begins log) r.object (x % queues) r.given (g.row.D.coded.code c.args.callback) (w.heard w3)) (l.2 ∙ h.same.2) r.queued },
      stays_makes w w0 w1 w3 log h.same.0.0.0 (stays_makes w w1 w2 w3 log p.same.0 z.0.0),
    )

pub returns-in-Ok-answer-clause-heard : goal.returns-in-Ok-answer-clause-heard
returns-in-Ok-answer-clause-heard g c =
    let h = c.hear.ensures.same.0 in let r = c.in-Ok.ensures.same in let t = c.in-Ok.ensures.took in let z = c.in-Ok-answer.ensures.same.0 in
    (z.2 ∙ (r.1.0 ∙ h.1), (c.in-Ok.ready.1.seat.me.0.object, (t.0, z.1 ∙ (t.1 ∙ ap (λ (l : List Look). t.0 ++ l) h.0.1), t.2)))

pub returns-in-Err-clause-refused : goal.returns-in-Err-clause-refused
returns-in-Err-clause-refused g c =
    let q = g.P.GracePlan.QSBR in let w = g.W.Caller in let sizes = g.B.Site.sizes in let w0 = c.args.caller.now in let w1 = c.hear.new.caller in let w2 = c.prepare_replacement.new.caller in
    let n = c.args.self.now.naming in let b = c.hear.new.self in let h = c.hear.ensures in let key = c.args.key in let known : Log = b.chain.seat.me.0.seen in let x = c.in-Err.refusal in
    successor_through w q tabled sizes w0 w1 w2 h.same.0 h.told.0 x known h.told.2 n.first n.buckets key n.directory (h.map key) (h.leads key)
    (subst (λ (y : ℕ). RefusesSuccessor w q tabled sizes w1 w2 x known y key) (h.same.2 ∙ sym c.requires.key) c.in-Err.ensures.refused)

pub returns-in-Err-answer-clause-refused : goal.returns-in-Err-answer-clause-refused
returns-in-Err-answer-clause-refused g c =
    let q = g.P.GracePlan.QSBR in let w = g.W.Caller in let sizes = g.B.Site.sizes in
    let w0 = c.args.caller.now in let w1 = c.hear.new.caller in let w2 = c.prepare_replacement.new.caller in let w3 = c.replace_retire-answer.new.caller in let w4 = c.discard.new.caller in
    let n = c.args.self.now.naming in let one = c.hear.new.self.chain in let two = c.prepare_replacement.new.chain in let h = c.hear.ensures in let key = c.args.key in let known : Log = one.seat.me.0.seen in let x = c.in-Err-answer.refusal in
    let a = c.in-Ok.ensures in let ready = a.ready.0 in let d = c.discard.ensures in
    let bucket = h.same.2 ∙ sym c.requires.key in
    let number : two.number ≡ bucket_of n.first n.buckets key = a.looked.2 ∙ bucket in
    let within = slice_get_within (list_in two.seat.me.0) c.in-Ok.ready.0 ready.found.object ready.found.at in
    exchange_through w q tabled sizes w0 w1 w4 h.same.0 h.told.0 x known h.told.2 n.first n.buckets key n.directory (h.map key) (h.leads key) (subst (λ (y : ℕ). IsSome (map_of known y key)) bucket a.ready.1)
    (by_second c.in-Err-answer.ensures.refused
    (λ m. let few : length (list_in two.seat.me.0) ≤ c.in-Ok.ready.0 = m.1 in omega arith)
    (λ k. gives_back w q tabled sizes w1 w2 w3 w4 x (bucket_of n.first n.buckets key % sizes.queues) c.in-Ok.ready.1.seat.me.0.object c.in-Err-answer.owned.seat.me.0.object (ap (λ o. o.seat.me.0.object) c.in-Err-answer.ensures.back.0)
    a.same.0 a.same.1.0 a.heard.after_heard a.took (subst (λ (m : ℕ). RefusesRetirement w q tabled sizes (m % sizes.queues) w2 w3 x) number k.1) d.freed d.heard.0 d.loads d.same))

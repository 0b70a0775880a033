use Rattle.rcu_hash.proofs.Cited.{begins_trans, tabled, During, LinksStill, IsLeft, Each, length_of, lengths_of, rights_of, own_in, ◌≡◌, ℕ, [], ◌∙◌, refl, sym, ap, subst, arith, Some, map, slice_get, option_map, vec_len, map-set, length-set, slice_get-map, slice_get_read, each_at, each_set, rights_set, many_lengths, length_at, only_both, during_earlier, take, take_all, next_taken, after_since, each_map, each_last}
use Rattle.rcu_hash.proofs.directory.DirectoryLock.hear_all.Goals as goal

pub loop-index-init : goal.loop-index-init
loop-index-init g c = record {
  still = tt;
  chains = c.requires.chains;
  rights = refl;
  many = refl;
  heard = ([], refl);
  same = (((refl, refl, λ h. h, refl), refl), refl);
}

pub hear_left-requires : goal.hear_left-requires
hear_left-requires g c =
    let n = c.args.naming in let i = c.loop-index.invariant in let items = c.loop-index.chains.items in let k = c.loop-index.index in let one = c.index_mut.result.now in
    let at = slice_get-map (λ c. c.seat.me.0) items k ∙ ap (option_map (λ c. c.seat.me.0)) (slice_get_read items (vec_len c.loop-index.chains) k one c.loop-index.chains.ok.0 (let m = i.many in omega arith) c.index_mut.ensures.value) in
    record { chain = each_at (IsLeft n.directory n.first n.buckets) (map (λ c. c.seat.me.0) items) k one.seat.me.0 i.chains at }

pub loop-index-preserved : goal.loop-index-preserved
loop-index-preserved g c =
    let q = g.P.GracePlan.QSBR in let w = g.W.Caller in let w0 = c.args.caller.now in let w1 = c.loop-index.caller in let w2 = c.hear_left.new.caller in
    let n = c.args.naming in let i = c.loop-index.invariant in let items = c.loop-index.chains.items in let k = c.loop-index.index in let one = c.index_mut.result.now in let two = c.hear_left.new.chain in let h = c.hear_left.ensures in
    let is = slice_get_read items (vec_len c.loop-index.chains) k one c.loop-index.chains.ok.0 (let m = i.many in omega arith) c.index_mut.ensures.value in
    let first = lengths_of (rights_of (map (λ c. c.seat.me.0) c.args.chains.now.items)) in
    let mine = subst (λ rs. slice_get (lengths_of rs) k ≡ Some (length_of (own_in one.seat.me.0.chains))) i.rights (length_at (λ c. c.seat.me.0) items k one is) ∙ ap (λ r. Some (length_of r)) (sym h.right) in
    let was = λ (p : ℕ × ℕ). During w q tabled w0 w1 (LinksStill n.directory p) in let still = λ (p : ℕ × ℕ). During w q tabled w0 w2 (LinksStill n.directory p) in record {
      still = subst (Each still) (sym (next_taken first k (length_of (own_in two.seat.me.0.chains)) mine)) (each_last still (take k first) (length_of (own_in two.seat.me.0.chains))
          (each_map was still (λ p. during_earlier w q tabled w0 w1 w2 (LinksStill n.directory p) h.heard.after_heard) (take k first) i.still)
          (record { at = w.heard w2; after = after_since q tabled (w.seen w0) (w.heard w0) (w.seen w1) (w.heard w1) (w.heard w2) i.same.0.0.0 i.heard h.heard; before = ([], refl); so = h.left }));
      chains = subst (Each (IsLeft n.directory n.first n.buckets)) (sym (map-set (λ c. c.seat.me.0) items k two)) (each_set (IsLeft n.directory n.first n.buckets) (map (λ c. c.seat.me.0) items) k two.seat.me.0 i.chains h.chain);
      rights = rights_set (λ c. c.seat.me.0) items k two one is h.right ∙ i.rights;
      many = length-set items k two ∙ i.many;
      heard = begins_trans (w.heard w0) (w.heard w1) (w.heard w2) i.heard h.heard.after_heard;
      same = only_both w w0 w1 w2 i.same h.same;
    }

pub returns-clause-still : goal.returns-clause-still
returns-clause-still g c =
    let q = g.P.GracePlan.QSBR in let w = g.W.Caller in let w0 = c.args.caller.now in let w1 = c.loop-index.caller in let i = c.loop-index.invariant in let d = c.args.naming.directory in
    let all = c.args.chains.now.items in let first = lengths_of (rights_of (map (λ c. c.seat.me.0) all)) in let many = many_lengths (λ c. c.seat.me.0) all in let len = c.len-index-end.ensures in let end = c.loop-index-test.false in let ok = c.args.chains.now.ok.0 in
    subst (Each (λ p. During w q tabled w0 w1 (LinksStill d p))) (take_all c.loop-index.index first (omega arith) ∙ ap lengths_of (sym i.rights)) i.still

use Rattle.rcu_hash.proofs.Cited.{begins_trans, pushed_note, Log, Begins, record_of, state_of, Has, reserved, tabled, Object, Push, directed_map, LeadsTo, Writes, Directs, words_by, bucket_of, rights_of, chain_known, map_of, value_in, OnlyMakesLast, IsAfter, lent_chains, ChainRight, View, IsListed, own_in, cell_in, object_in, payload_in, AreAsKnown, at_number_other, ObjectId, ◌≡◌, ℕ, ◌+◌, ◌≤◌, [], ◌∷◌, ◌∙◌, ◌≢◌, ◌⊎◌, ◌<◌, ◌++◌, ◌^◌, List, length, refl, sym, ap, subst, inl, arith, None, map, slice_index_or, ⊎_elim, vec_len, length-map, mod_below, directed_is, rights_many, known_empty, may_direct, leads_there, leads_all, all_buckets, each_all, AreKept, append-nil, AreTheirs, all_theirs, saw_on, kept_back}
use Rattle.rcu_hash.proofs.making.direct.Given.{Over}
use Rattle.rcu_hash.proofs.making.direct.Goals.{After-lend_all-lents, After-push-object}
use Rattle.rcu_hash.proofs.making.direct.Goals as goal

-- once all have lent their rights
module _ (g : Over) (c : After-lend_all-lents g) where
  abbrev named : List View
  named = map (λ x. x.seat.me.0) c.args.chains.items

  abbrev root : ChainRight
  root = own_in c.args.chain.seat.me.0.chains

  lent : c.lend_all-lents.new.to.seat.me.0.chains ≡ root ∷ rights_of named
  lent = c.lend_all-lents.ensures.chains ∙ ap (λ (xs : List ChainRight). xs ++ rights_of named) (c.args.chain.owns.0 ∙ ap (λ (xs : List ChainRight). root ∷ xs) c.requires.own.1)

-- once the directory is in its chain
module _ (g : Over) (c : After-push-object g) where
  abbrev lending : After-lend_all-lents g
  lending = c.before.before.before

  abbrev after : Log
  after = c.push-object.new.self.seat.me.0.seen

  named_back : AreTheirs c.lend_all-lents.result.items (λ l. (l.number, l.linked)) (rights_of (named g lending)) [] (lent_chains c.push-object.new.self.seat.me.0.chains)
  named_back = all_theirs c.lend_all-lents.result.items (λ l. (l.number, l.linked)) (rights_of (named g lending)) [] (lent_chains c.push-object.new.self.seat.me.0.chains) (c.push-object.ensures.list.2 ∙ (ap lent_chains (lent g lending) ∙ sym (append-nil (rights_of (named g lending))))) c.lend_all-lents.ensures.lents

  own : own_in c.lend_all-lents.new.to.seat.me.0.chains ≡ root g lending
  own = ap own_in (lent g lending)

  words : (record_of after c.push-object.result).1 ≡ words_by c.args.first (length c.args.chains.items)
  words =
      let k : ℕ = (own_in c.lend_all-lents.new.to.seat.me.0.chains).chain in let u = c.args.owned.seat.me.0.object in let p = c.push-object.ensures in let o = c.push-object.result in
      let has = subst (Has (Object (Push k o (cell_in u) (payload_in u)))) (sym p.pushed.wrote) (inl (λ i. Object (Push k (sym p.object i) (cell_in u) (payload_in u)))) in
      ap (λ (x : ℕ × List ℕ). x.1) (pushed_note g.P.GracePlan.QSBR tabled after k o (cell_in u) (payload_in u) p.pushed.run has) ∙ (c.requires.record ∙ ap (words_by c.args.first) c.args.chains.ok.0)

  alone : (state_of after).chain c.args.chain.number ≡ c.push-object.result ∷ []
  alone =
      let three = c.push-object.new.self in let p = c.push-object.ensures in
      chain_known three.seat.me.0 c.args.chain.number three.owns.1 (three.owns.2 ∙ (p.list.3 ∙ c.lend_all-lents.ensures.same.0)) ∙ (p.list.0 ∙ ap (λ (os : List ObjectId). c.push-object.result ∷ os) (ap (λ (x : ChainRight). x.objects) own ∙ c.requires.own.0.0))

pub lend_all-lents-requires-clause-known : goal.lend_all-lents-requires-clause-known
lend_all-lents-requires-clause-known g c =
    let chain = c.args.chain in let is = chain.owns.0 ∙ ap (λ (xs : List ChainRight). own_in chain.seat.me.0.chains ∷ xs) c.requires.own.1 in
    (subst (AreAsKnown chain.seat.me.0.seen) (sym is) ((chain.owns.1.0, chain.owns.1.2), tt), c.requires.own.2)

pub push-object-requires : goal.push-object-requires
push-object-requires g c = record {
  rule =
      let a = (goal.at.push-object-requires g c).After-lend_all-lents in let chain = c.args.chain in let first = c.args.first in
      may_direct g.P.GracePlan.QSBR c.lend_all-lents.new.to.seat.me.0 c.args.owned.seat.me.0 (root g a) (rights_of (named g a)) chain.number first (length c.args.chains.items) (named g a) (lent g a) chain.owns.2 c.requires.own.0.1
      (c.requires.record ∙ ap (words_by first) c.args.chains.ok.0) (length-map c.args.chains.items (λ x. x.seat.me.0)) c.requires.chains.0.0 c.requires.chains.0.3
      (subst (λ (n : ℕ). (chain.number < first) ⊎ (first + n ≤ chain.number)) c.args.chains.ok.0 c.requires.range.2) c.requires.range.3 (λ log k. k)
      (g.W.Caller.seen c.args.caller.now) (g.W.Caller.heard c.args.caller.now) c.requires.own.0.0;
}

pub take_all_back-back-requires-clause-room : goal.take_all_back-back-requires-clause-room
take_all_back-back-requires-clause-room g c = (c.requires.room.2, let fits = c.requires.room.3 in let many = c.lend_all-lents.ensures.many in omega arith)

pub take_all_back-back-requires-clause-lents : goal.take_all_back-back-requires-clause-lents
take_all_back-back-requires-clause-lents g c = (named_back g (goal.at.take_all_back-back-requires-clause-lents g c).After-push-object).0

pub invariant_of-result : goal.invariant_of-result
invariant_of-result g c =
    let i = (goal.at.invariant_of-result g c).After-push-object in let a = lending g i in let p = c.push-object.ensures in let t = c.take_all_back-back.ensures in
    let back : own_in c.take_all_back-back.new.from.seat.me.0.chains ≡ own_in c.push-object.new.self.seat.me.0.chains = ap own_in t.from.0 in record {
      own = (
        sym c.number.ensures.number,
        ap lent_chains t.from.0 ∙ (named_back g i).2,
        ap (λ (x : ChainRight). x.note) back ∙ (p.list.1 ∙ (ap (λ (x : ChainRight). x.note) (own g i) ∙ c.requires.own.0.1)),
      );
      alone = ap (λ (x : ChainRight). x.objects) back ∙ (p.list.0 ∙ ap (λ (os : List ObjectId). c.push-object.result ∷ os) (ap (λ (x : ChainRight). x.objects) (own g i) ∙ c.requires.own.0.0));
      words = ap (λ (l : Log). (record_of l c.push-object.result).1) t.from.1 ∙ (words g i ∙ ap (words_by c.args.first) (sym (c.len-buckets.ensures ∙ c.args.chains.ok.0)));
      fits = let range = c.requires.range in let size = c.len-buckets.ensures in (omega arith, omega arith, subst (λ (k : ℕ). k + 1 < 2 ^ 63) (sym (c.number.ensures.number ∙ (t.same.0 ∙ (p.list.3 ∙ c.lend_all-lents.ensures.same.0)))) range.3);
    }

pub returns : goal.returns
returns g c =
    let i = (goal.at.returns g c).After-push-object in let a = lending g i in let vs = named g a in let log = after g i in let q = g.P.GracePlan.QSBR in let w = g.W.Caller in let w0 = c.args.caller.now in let chains = g.B.Site.sizes.chains in
    let d = c.args.chain.number in let first = c.args.first in let n = length c.args.chains.items in let e = c.lend_all-lents.ensures in let p = c.push-object.ensures in let before : Log = p.pushed.before in let o = c.push-object.result in let u = c.args.owned.seat.me.0.object in let t = c.take_all_back-back.ensures in
    let back = c.take_all_back-back.result in let ws = map (λ x. x.seat.me.0) back.items in let size = c.args.chains.ok.0 in let range = c.requires.range in let size_is : c.len-buckets.result ≡ n = c.len-buckets.ensures ∙ size in
    let number = c.number.ensures.number ∙ (t.same.0 ∙ (p.list.3 ∙ e.same.0)) in let place = c.lend_all-lents.new.to.owns.2 ∙ e.same.0 in
    let same : rights_of ws ≡ rights_of vs = t.chains ∙ (named_back g i).1 in
    let there : length ws ≡ n = sym (rights_many ws) ∙ (ap length same ∙ (rights_many vs ∙ length-map c.args.chains.items (λ x. x.seat.me.0))) in
    let goes : Begins before log = (_ ∷ [], p.pushed.wrote) in let three = c.lend_all-lents.new.to.seat.me.0 in
    let saw = saw_on three.seen log (begins_trans three.seen before log p.pushed.after.after_writer.0 goes) vs e.later.1 in record {
      told = p.heard ∙ sym t.from.1;
      directory = λ j. record { directory = number j; object = p.object j; first = first; buckets = c.len-buckets.ensures j };
      chains = (
        let ok = back.ok in let views = length-map back.items (λ x. x.seat.me.0) in omega arith,
        all_buckets q (record { directory = c.number.result; object = o; first = first; buckets = c.len-buckets.result }) log (subst (λ (k : ℕ). Directs k o first c.len-buckets.result log) (sym number) (alone g i, words g i ∙ ap (words_by first) (sym size_is))) first ws (omega arith) (omega arith) t.alone.1 t.runs (each_all IsListed back.items (λ x. x.seat.me.0) (λ x. x.owns.1))
            (subst (λ (x : ObjectId). AreKept first (reserved x) ws) (sym p.object) (kept_back q log first (reserved (object_in u)) vs ws same (each_all IsListed c.args.chains.items (λ x. x.seat.me.0) (λ x. x.owns.1)) saw t.alone.1 t.runs t.alone.0 c.requires.chains.0)),
      );
      map = λ key.
          let own_chain : ℕ = (own_in c.lend_all-lents.new.to.seat.me.0.chains).chain in let d_is : own_chain ≡ d = ap (λ (x : ChainRight). x.chain) (own g i) ∙ c.args.chain.owns.2 in
          let low = mod_below key n (omega arith) in let bucket : ℕ = bucket_of first n key in
          let apart : bucket ≢ own_chain = λ is. ⊎_elim (λ (under : d < first). omega arith) (λ (over : first + vec_len c.args.chains ≤ d). omega arith) range.2 in
          let empty : (state_of log).chain bucket ≡ [] = ap (λ (l : Log). (state_of l).chain bucket) p.pushed.wrote
          ∙ (at_number_other own_chain bucket (object_in u ∷ (state_of before).chain own_chain) (state_of before).chain apart
          ∙ known_empty before vs first bucket (subst (AreAsKnown before) (lent g a) p.pushed.known).1 c.requires.chains.0.0 c.requires.chains.1 (omega arith) (let many = length-map c.args.chains.items (λ x. x.seat.me.0) in omega arith)) in
          let none : directed_map chains d log key ≡ None =
          directed_is chains key (record_of log o) (leads_all chains first n (omega arith) (omega arith) (record_of log o) (words g i) key) log d o (alone g i) refl
          ∙ (ap (λ (z : List ℕ). map_of log (bucket_of (slice_index_or z 0 0) (slice_index_or z 1 0) key) key) (words g i) ∙ ap (λ (os : List ObjectId). value_in (record_of log) os key) empty) in
          subst (λ (l : Log). (directed_map chains d l key ≡ None) × LeadsTo d l key (bucket_of first (vec_len c.args.chains) key)) (sym p.heard)
          (none, subst (λ (k : ℕ). LeadsTo d log key (bucket_of first k key)) (sym size) (leads_there log d o first n key (alone g i) (words g i)));
      pushed = (
        cell_in u,
        subst (Writes q tabled (w.seen w0) (w.heard w0) (Object (Push d (object_in u) (cell_in u) (words_by first (vec_len c.args.chains))))) (sym p.heard)
            (record { before = before; wrote = p.pushed.wrote ∙ (λ j. Object (Push (place j) (object_in u) (cell_in u) (c.requires.record j)) ∷ before); after = p.pushed.after.after_caller; run = p.pushed.run }),
      );
      heard = subst (IsAfter q tabled (w.seen w0) (w.heard w0)) (sym p.heard)
          (record { after_seen = begins_trans (w.seen w0) before log p.pushed.after.after_caller.0 goes; after_heard = begins_trans (w.heard w0) before log p.pushed.after.after_caller.1 goes; run = p.pushed.run });
      same = subst (OnlyMakesLast w w0 c.push-object.new.caller) (sym p.heard) p.same;
    }

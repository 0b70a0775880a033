use Rattle.rcu_hash.proofs.Cited.{run_of, begins_trans, Log, Begins, IsLiveRun, record_of, state_of, Has, reserved, tabled, LiveEvent, Object, Replace, value_in_bucket, directed_map, Exchanges, Directs, words_by, Each, HasSeen, rights_of, SawBefore, OnlyMakesLast, lent_chains, ChainRight, View, IsListed, own_in, cell_in, object_in, AreAsKnown, list_in, ObjectId, ◌≡◌, ℕ, ◌+◌, [], ◌∷◌, ◌∙◌, ◌++◌, List, length, refl, sym, ap, subst, inl, arith, map, drop, vec_len, length-map, rights_many, leads_there, all_buckets, each_all, replaced_only, first_only, saw_on, words_since, may_relink, words_after, alone_after, map_before, map_after, AreKept, append-nil, AreTheirs, all_theirs, kept_back}
use Rattle.rcu_hash.proofs.exchange.exchange.Given.{Over}
use Rattle.rcu_hash.proofs.exchange.exchange.Goals.{After-lend_all-new_lents, In-Ok}
use Rattle.rcu_hash.proofs.exchange.exchange.Goals as goal

-- once all writers have lent their rights
module _ (g : Over) (c : After-lend_all-new_lents g) where
  abbrev olds : List View
  olds = map (λ x. x.seat.me.0) c.args.olds.chains.items

  abbrev news : List View
  news = map (λ x. x.seat.me.0) c.args.news.chains.items

  abbrev root : ChainRight
  root = own_in c.args.directory.chain.seat.me.0.chains

  abbrev rights : List ChainRight
  rights = root ∷ (rights_of olds ++ rights_of news)

  lent : c.lend_all-new_lents.new.to.seat.me.0.chains ≡ rights
  lent =
      let dir = c.args.directory in let e1 = c.lend_all-old_lents.ensures in let e2 = c.lend_all-new_lents.ensures in
      e2.chains ∙ ap (λ (xs : List ChainRight). xs ++ rights_of news) (e1.chains ∙ ap (λ (xs : List ChainRight). xs ++ rights_of olds) (ap (λ (v : View). v.chains) c.note.ensures.looked.1.1 ∙ (dir.chain.owns.0 ∙ ap (λ (xs : List ChainRight). root ∷ xs) dir.own.1)))

  listed : list_in c.lend_all-new_lents.new.to.seat.me.0 ≡ c.args.directory.naming.object ∷ []
  listed = ap (λ (xs : List ChainRight). (own_in xs).objects) lent ∙ c.args.directory.alone

  own_is : root.chain ≡ c.args.directory.naming.directory
  own_is = c.args.directory.chain.owns.2 ∙ c.args.directory.own.0

  olds_many : length olds ≡ c.args.directory.naming.buckets
  olds_many = length-map c.args.olds.chains.items (λ x. x.seat.me.0) ∙ (sym c.args.olds.chains.ok.0 ∙ c.requires.olds.0)

  news_many : length news ≡ vec_len c.args.news.chains
  news_many = length-map c.args.news.chains.items (λ x. x.seat.me.0) ∙ sym c.args.news.chains.ok.0

  later : Begins c.args.directory.chain.seat.me.0.seen c.lend_all-new_lents.new.to.seat.me.0.seen
  later =
      let zero = c.args.directory.chain.seat.me.0 in let one = c.note.new.self.seat.me.0 in let two = c.lend_all-old_lents.new.to.seat.me.0 in let three = c.lend_all-new_lents.new.to.seat.me.0 in
      begins_trans zero.seen one.seen three.seen c.note.ensures.looked.1.2.0 (begins_trans one.seen two.seen three.seen c.lend_all-old_lents.ensures.later.0 c.lend_all-new_lents.ensures.later.0)

-- once the other directory has taken the place
module _ (g : Over) (c : In-Ok g) where
  abbrev lending : After-lend_all-new_lents g
  lending = c.before.before.before.before

  abbrev after : Log
  after = c.replace.new.self.seat.me.0.seen

  abbrev prior : Log
  prior = c.in-Ok.ensures.replaced.before

  abbrev event : LiveEvent
  event = let n = c.args.directory.naming in let u = c.args.owned.seat.me.0.object in Object (Replace n.directory n.object (object_in u) (cell_in u) (words_by c.args.first (vec_len c.args.news.chains)))

  olds_back : AreTheirs c.lend_all-old_lents.result.items (λ l. (l.number, l.linked)) (rights_of (olds g lending)) (rights_of (news g lending)) (lent_chains c.replace.new.self.seat.me.0.chains)
  olds_back = all_theirs c.lend_all-old_lents.result.items (λ l. (l.number, l.linked)) (rights_of (olds g lending)) (rights_of (news g lending)) (lent_chains c.replace.new.self.seat.me.0.chains) (c.in-Ok.ensures.list.2 ∙ ap lent_chains (lent g lending)) c.lend_all-old_lents.ensures.lents

  -- the new ones' rights are lent still, once the old ones have theirs again
  news_back : (left : View) → left.chains ≡ own_in c.replace.new.self.seat.me.0.chains ∷ drop (length c.lend_all-old_lents.result.items) (lent_chains c.replace.new.self.seat.me.0.chains) → AreTheirs c.lend_all-new_lents.result.items (λ l. (l.number, l.linked)) (rights_of (news g lending)) [] (lent_chains left.chains)
  news_back left is = all_theirs c.lend_all-new_lents.result.items (λ l. (l.number, l.linked)) (rights_of (news g lending)) [] (lent_chains left.chains) (ap lent_chains is ∙ (olds_back.2 ∙ sym (append-nil (rights_of (news g lending))))) c.lend_all-new_lents.ensures.lents

  left_is : c.args.directory.naming.object ≡ object_in c.in-Ok.unlinked.seat.me.0.object
  left_is = first_only c.args.directory.naming.object (object_in c.in-Ok.unlinked.seat.me.0.object) (list_in c.lend_all-new_lents.new.to.seat.me.0) (listed g lending) c.in-Ok.ensures.object.0

  wrote : after ≡ event ∷ prior
  wrote =
      let u = c.args.owned.seat.me.0.object in let d_is = ap (λ (xs : List ChainRight). (own_in xs).chain) (lent g lending) ∙ own_is g lending in
      c.in-Ok.ensures.replaced.wrote ∙ (λ i. Object (Replace (d_is i) (sym left_is i) (object_in u) (cell_in u) (c.requires.record i)) ∷ prior)

  goes : Begins prior after
  goes = (event ∷ [], wrote)

  known : AreAsKnown prior (rights g lending)
  known = subst (AreAsKnown prior) (lent g lending) c.in-Ok.ensures.replaced.known

  words : (record_of prior c.args.directory.naming.object).1 ≡ words_by c.args.directory.naming.first c.args.directory.naming.buckets
  words =
      let q = g.P.GracePlan.QSBR in let dir = c.args.directory in let zero = dir.chain.seat.me.0 in let p = c.in-Ok.ensures.replaced in
      words_since q zero prior dir.naming.object dir.naming.first dir.naming.buckets (begins_trans zero.seen c.lend_all-new_lents.new.to.seat.me.0.seen prior (later g lending) p.after.after_writer.0) (run_of q tabled prior after goes p.run) dir.chain.owns.1 dir.alone dir.words

  olds_saw : Each (SawBefore prior) (olds g lending)
  olds_saw = let two = c.lend_all-old_lents.new.to.seat.me.0 in let three = c.lend_all-new_lents.new.to.seat.me.0 in
      saw_on two.seen prior (begins_trans two.seen three.seen prior c.lend_all-new_lents.ensures.later.0 c.in-Ok.ensures.replaced.after.after_writer.0) (olds g lending) c.lend_all-old_lents.ensures.later.1

  news_saw : Each (SawBefore prior) (news g lending)
  news_saw = saw_on c.lend_all-new_lents.new.to.seat.me.0.seen prior c.in-Ok.ensures.replaced.after.after_writer.0 (news g lending) c.lend_all-new_lents.ensures.later.1

  new_words : (record_of after (object_in c.args.owned.seat.me.0.object)).1 ≡ words_by c.args.first (vec_len c.args.news.chains)
  new_words = let n = c.args.directory.naming in let u = c.args.owned.seat.me.0.object in
      words_after g.P.GracePlan.QSBR n.directory n.object (object_in u) (cell_in u) c.args.first (vec_len c.args.news.chains) prior after wrote c.in-Ok.ensures.replaced.run

  new_alone : (state_of after).chain c.args.directory.naming.directory ≡ object_in c.args.owned.seat.me.0.object ∷ []
  new_alone = let n = c.args.directory.naming in let u = c.args.owned.seat.me.0.object in
      alone_after g.P.GracePlan.QSBR n.directory n.object (object_in u) (cell_in u) c.args.first (vec_len c.args.news.chains) prior after wrote c.in-Ok.ensures.replaced.run n.first n.buckets (root g lending) (olds g lending) (news g lending) known (own_is g lending) c.args.directory.alone words c.requires.olds.1.0 (olds_many g lending) c.requires.news.2.0 (news_many g lending) c.requires.apart.0

pub lend_all-old_lents-requires-clause-known : goal.lend_all-old_lents-requires-clause-known
lend_all-old_lents-requires-clause-known g c =
    let one = c.note.new.self in let looked = c.note.ensures.looked in
    let is : one.seat.me.0.chains ≡ own_in one.seat.me.0.chains ∷ [] = one.owns.0 ∙ ap (λ (xs : List ChainRight). own_in one.seat.me.0.chains ∷ xs) (ap (λ (v : View). lent_chains v.chains) looked.1.1 ∙ c.args.directory.own.1) in
    (subst (AreAsKnown one.seat.me.0.seen) (sym is) ((one.owns.1.0, one.owns.1.2), tt), looked.1.2.2)

pub replace-requires : goal.replace-requires
replace-requires g c = record {
  rule = λ p at.
      let q = g.P.GracePlan.QSBR in let a = (goal.at.replace-requires g c).After-lend_all-new_lents in let dir = c.args.directory in let n = dir.naming in let zero = dir.chain.seat.me.0 in let three = c.lend_all-new_lents.new.to.seat.me.0 in
      let words : (log : Log) → Begins three.seen log → IsLiveRun q tabled log → (record_of log p).1 ≡ words_by n.first n.buckets = λ log goes run.
      subst (λ (z : ObjectId). (record_of log z).1 ≡ words_by n.first n.buckets) (first_only n.object p (list_in three) (listed g a) at) (words_since q zero log n.object n.first n.buckets (begins_trans zero.seen three.seen log (later g a) goes) run dir.chain.owns.1 dir.alone dir.words) in
      may_relink q three c.args.owned.seat.me.0 (root g a) n.directory c.args.first (vec_len c.args.news.chains) n.first n.buckets (olds g a) (news g a) (lent g a) (own_is g a) dir.own.2 dir.fits.2 c.requires.record (news_many g a) c.requires.news.2.0 c.requires.news.2.3 c.requires.apart.0 (olds_many g a) c.requires.olds.1.0 c.requires.olds.1.3
      (g.W.Caller.seen c.args.caller.now) (g.W.Caller.heard c.args.caller.now) p words;
}

pub take_all_back-left-requires-clause-room : goal.take_all_back-left-requires-clause-room
take_all_back-left-requires-clause-room g c = (c.args.olds.room.2, let fits = c.args.olds.room.3 in let many = c.lend_all-old_lents.ensures.many in omega arith)

pub take_all_back-left-requires-clause-lents : goal.take_all_back-left-requires-clause-lents
take_all_back-left-requires-clause-lents g c = (olds_back g (goal.at.take_all_back-left-requires-clause-lents g c).In-Ok).0

pub take_all_back-named-requires-clause-room : goal.take_all_back-named-requires-clause-room
take_all_back-named-requires-clause-room g c = (c.args.news.room.2, let fits = c.args.news.room.3 in let many = c.lend_all-new_lents.ensures.many in omega arith)

pub take_all_back-named-requires-clause-lents : goal.take_all_back-named-requires-clause-lents
take_all_back-named-requires-clause-lents g c = (news_back g (goal.at.take_all_back-named-requires-clause-lents g c).In-Ok c.take_all_back-left.new.from.seat.me.0 c.take_all_back-left.ensures.from.0).0

pub invariant_of-result : goal.invariant_of-result
invariant_of-result g c =
    let i = (goal.at.invariant_of-result g c).In-Ok in let a = lending g i in let dir = c.args.directory in let s = c.in-Ok.ensures in let t1 = c.take_all_back-left.ensures in let t2 = c.take_all_back-named.ensures in
    let new = object_in c.args.owned.seat.me.0.object in
    let back : own_in c.take_all_back-named.new.from.seat.me.0.chains ≡ own_in c.replace.new.self.seat.me.0.chains = ap own_in t2.from.0 ∙ ap own_in t1.from.0 in
    let object : c.object-object.result ≡ new = c.object-object.ensures in record {
      own = (
        t2.same.0 ∙ (t1.same.0 ∙ (s.list.3 ∙ (c.lend_all-new_lents.ensures.same.0 ∙ (c.lend_all-old_lents.ensures.same.0 ∙ (c.note.ensures.looked.2 ∙ dir.own.0))))),
        ap lent_chains t2.from.0 ∙ (news_back g i c.take_all_back-left.new.from.seat.me.0 t1.from.0).2,
        ap (λ (z : ChainRight). z.note) back ∙ (s.list.1 ∙ (ap (λ (xs : List ChainRight). (own_in xs).note) (lent g a) ∙ dir.own.2)),
      );
      alone = ap (λ (z : ChainRight). z.objects) back ∙ (s.list.0 ∙ (replaced_only (object_in c.in-Ok.unlinked.seat.me.0.object) dir.naming.object new (list_in c.lend_all-new_lents.new.to.seat.me.0) (listed g a) (sym (left_is g i)) ∙ ap (λ (z : ObjectId). z ∷ []) (sym object)));
      words = ap (λ (l : Log). (record_of l c.object-object.result).1) (t2.from.1 ∙ t1.from.1) ∙ (ap (λ (z : ObjectId). (record_of (after g i) z).1) object ∙ (new_words g i ∙ ap (words_by c.args.first) (sym c.len-buckets.ensures)));
      fits = let range = c.requires.news in let size = c.len-buckets.ensures in (omega arith, omega arith, dir.fits.2);
    }

pub returns : goal.returns
returns g c =
    let i = (goal.at.returns g c).In-Ok in let a = lending g i in let q = g.P.GracePlan.QSBR in let w = g.W.Caller in let w0 = c.args.caller.now in let chains = g.B.Site.sizes.chains in
    let dir = c.args.directory in let n = dir.naming in let d = n.directory in let o = n.object in let first = c.args.first in let many = vec_len c.args.news.chains in let r = c.requires in let size = sym c.len-buckets.ensures in let its = sym c.object-object.ensures in
    let s = c.in-Ok.ensures in let p = s.replaced in let u = c.in-Ok.unlinked.seat.me.0 in let owned = c.args.owned.seat.me.0.object in let new = object_in owned in let cell = cell_in owned in let payload = words_by first many in let log = after g i in let before = prior g i in let vs = olds g a in let us = news g a in
    let t1 = c.take_all_back-left.ensures in let left = c.take_all_back-left.result in let ls = map (λ x. x.seat.me.0) left.items in
    let t2 = c.take_all_back-named.ensures in let named = c.take_all_back-named.result in let ns = map (λ x. x.seat.me.0) named.items in
    let same1 : rights_of ls ≡ rights_of vs = t1.chains ∙ (olds_back g i).1 in let same2 : rights_of ns ≡ rights_of us = t2.chains ∙ (news_back g i c.take_all_back-left.new.from.seat.me.0 t1.from.0).1 in
    let many1 : length ls ≡ n.buckets = sym (rights_many ls) ∙ (ap length same1 ∙ (rights_many vs ∙ olds_many g a)) in let many2 : length ns ≡ many = sym (rights_many ns) ∙ (ap length same2 ∙ (rights_many us ∙ news_many g a)) in
    let listed1 = each_all IsListed c.args.olds.chains.items (λ x. x.seat.me.0) (λ x. x.owns.1) in let listed2 = each_all IsListed c.args.news.chains.items (λ x. x.seat.me.0) (λ x. x.owns.1) in
    let seen : Each (HasSeen log) ns = subst (λ (z : Log). Each (HasSeen z) ns) t1.from.1 t2.alone.1 in
    let event = λ (z : ObjectId). Object (Replace d z new cell payload) in
    let by_old : (key : ℕ) → value_in_bucket (vec_len c.args.olds.chains) vs key ≡ value_in_bucket n.buckets vs key = λ key. ap (λ (z : ℕ). value_in_bucket z vs key) r.olds.0 in
    let map_was : (key : ℕ) → directed_map chains d before key ≡ value_in_bucket n.buckets vs key = λ key. map_before q d o new cell first many before log (wrote g i) p.run n.first n.buckets (root g a) vs us (known g i) (own_is g a) dir.alone (words g i) r.olds.1.0 (olds_many g a) r.news.2.0 (news_many g a) r.apart.0 chains listed1 (olds_saw g i) listed2 (news_saw g i) key dir.fits.0 dir.fits.1 in
    let map_is : (key : ℕ) → directed_map chains d log key ≡ value_in_bucket many us key = λ key. map_after q d o new cell first many before log (wrote g i) p.run n.first n.buckets (root g a) vs us (known g i) (own_is g a) dir.alone (words g i) r.olds.1.0 (olds_many g a) r.news.2.0 (news_many g a) r.apart.0 chains listed1 (olds_saw g i) listed2 (news_saw g i) key r.news.0 r.news.1 in
    let linked = ap (state_of before).chain (sym (own_is g a)) ∙ ((known g i).0.0 ∙ dir.alone) in record {
      directory = λ j. record { directory = d; object = c.object-object.ensures j; first = first; buckets = c.len-buckets.ensures j };
      unlinked = (
        s.object.2 ∙ (c.lend_all-new_lents.ensures.same.0 ∙ (c.lend_all-old_lents.ensures.same.0 ∙ (c.note.ensures.looked.2 ∙ dir.own.0))),
        ∣ (new, cell, payload, (refl, refl), subst (Has (event (object_in u.object))) (sym (s.object.1 ∙ wrote g i)) (inl (λ j. event (left_is g i j)))) ∣₁,
      );
      object = sym (left_is g i);
      told = s.heard ∙ sym (t2.from.1 ∙ t1.from.1);
      wrote = (cell, record { before = before; wrote = s.heard ∙ wrote g i; after = p.after.after_caller; run = subst (IsLiveRun q tabled) (sym s.heard) p.run }, linked, words g i);
      olds = (
        let ok = left.ok in let views = length-map left.items (λ x. x.seat.me.0) in let z = r.olds.0 in omega arith,
        kept_back q log n.first (d + 1) vs ls same1 listed1 (saw_on before log (goes g i) vs (olds_saw g i)) t1.alone.1 t1.runs t1.alone.0 r.olds.1,
      );
      news = (
        let ok = named.ok in let views = length-map named.items (λ x. x.seat.me.0) in omega arith,
        all_buckets q (record { directory = d; object = c.object-object.result; first = first; buckets = c.len-buckets.result }) log (subst (λ (z : ObjectId). Directs d z first c.len-buckets.result log) its (new_alone g i, new_words g i ∙ ap (words_by first) size)) first ns (omega arith) (omega arith) seen t2.runs (each_all IsListed named.items (λ x. x.seat.me.0) (λ x. x.owns.1))
            (subst (λ (z : ObjectId). AreKept first (reserved z) ns) its (kept_back q log first (reserved new) us ns same2 listed2 (saw_on before log (goes g i) us (news_saw g i)) seen t2.runs t2.alone.0 r.news.2)),
      );
      grown = λ entries apart had. subst (λ (z : Log). (e : Exchanges q tabled chains d (w.seen w0) (w.heard w0) o first many entries z) × (e.new ≡ new)) (sym s.heard) (
        record {
          new = new;
          cell = cell;
          leaves = record { writes = record { before = before; wrote = wrote g i; after = p.after.after_caller; run = p.run }; map = λ key. map_is key ∙ (r.same key ∙ (by_old key ∙ sym (map_was key))) };
          linked = linked;
          leads = λ key. leads_there log d new first many key (new_alone g i) (new_words g i);
          had = λ key. map_was key ∙ (sym (by_old key) ∙ had key);
          apart = apart;
        },
        refl,
      );
      same = subst (OnlyMakesLast w w0 c.replace.new.caller) (sym s.heard) s.same;
    }

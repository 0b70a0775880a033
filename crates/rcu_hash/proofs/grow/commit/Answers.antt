use Rattle.rcu_hash.proofs.Cited.{run_of, begins_trans, Log, Begins, record_of, state_of, reserved, tabled, value_among, value_in_bucket, buckets_in, CopiesAll, NotesAll, Grows, Exchanges, LeavesMap, Writes, words_by, IsRest, IsLeft, IsLinked, IsTidied, IsRecord, Each, HasKeysIn, Naming, chain_known, more_only, one_only, none_only, OnlyMakesMany, object_in, payload_in, ObjectId, ◌≡◌, ℕ, ◌+◌, ◌≤◌, [], ◌∷◌, ◌∙◌, ◌⊎◌, ◌%◌, ◌<◌, ◌^◌, List, length, sym, ap, subst, arith, Some, map, slice_index_or, vec_len, length-map, leaves_weaker, each_left, copies_weaker, copies_leave, notes_leave, numbers_from, all_outside, each_all, rest_later, linked_by, rest_replaced, AreKept, words_since}
use Rattle.rcu_hash.proofs.grow.commit.Goals as goal

pub leave_all-requires-clause-low : goal.leave_all-requires-clause-low
leave_all-requires-clause-low g c = subst (λ (m : Naming). m.directory + 1 < 2 ^ 63) c.take-place.ensures c.take-place.result.1.fits.2

pub exchange-directory-requires-clause-olds : goal.exchange-directory-requires-clause-olds
exchange-directory-requires-clause-olds g c =
    let is = c.hear.ensures.same.1 ∙ c.take-place.ensures in let l = c.leave_all.ensures.left in let r = c.requires.taken in let old = c.args.array.now.naming in let ws = map (λ x. x.seat.me.0) c.leave_all.result.items in (
      l.0 ∙ (r.0 ∙ ap (λ (m : Naming). m.buckets) (sym is)),
      subst (λ (m : Naming). AreKept m.first (m.directory + 1) ws) (sym is) (l.1.from old.first r.1, l.3, l.1.keys (each_all HasKeysIn c.args.growth.taken.items (λ b. b.chain.seat.me.0) (λ b. b.is.1)), l.2),
    )

pub exchange-directory-requires-clause-news : goal.exchange-directory-requires-clause-news
exchange-directory-requires-clause-news g c =
    let f = c.fill.ensures in let n = c.reserve_all-owned.ensures in let r = c.requires.chains in let first = c.args.first in let ws = map (λ x. x.seat.me.0) c.reserve_all-owned.result.1.items in
    let size : vec_len c.reserve_all-owned.result.1 ≡ vec_len c.args.growth.chains = n.kept.0 ∙ f.chains.0 in (
      let some = r.0 in omega arith,
      let fits = r.1 in omega arith,
      subst (λ o. AreKept first (reserved (object_in o)) ws) (sym n.owned)
          (n.kept.1.from first (numbers_from c.args.growth.chains.items c.fill.new.chains.items first (λ x. x.number) (λ x. x.seat.me.0) (λ x. x.owns.2) f.chains.1 r.2), n.kept.3, n.kept.1.keys f.known.0, n.kept.2),
    )

pub exchange-directory-requires-clause-same : goal.exchange-directory-requires-clause-same
exchange-directory-requires-clause-same g c key =
    let n = c.reserve_all-owned.ensures.kept in let l = c.leave_all.ensures.left in let ws = map (λ x. x.seat.me.0) c.reserve_all-owned.result.1.items in let taken = map (λ x. x.chain.seat.me.0) c.args.growth.taken.items in
    ap (λ (k : ℕ). value_in_bucket k ws key) n.0
    ∙ (n.1.values (key % vec_len c.fill.new.chains) key
    ∙ (c.fill.ensures.values key
    ∙ (c.requires.copied.0 key
    ∙ (ap (λ (k : ℕ). value_in_bucket k taken key) (sym (l.0 ∙ c.requires.taken.0))
    ∙ sym (l.1.values (key % vec_len c.leave_all.result) key)))))

pub exchange-directory-requires-clause-record : goal.exchange-directory-requires-clause-record
exchange-directory-requires-clause-record g c =
    let size : vec_len c.reserve_all-owned.result.1 ≡ vec_len c.args.growth.chains = c.reserve_all-owned.ensures.kept.0 ∙ c.fill.ensures.chains.0 in
    ap payload_in c.reserve_all-owned.ensures.owned ∙ (c.requires.record.0 ∙ ap (words_by c.args.first) (sym size))

pub invariant_of-result : goal.invariant_of-result
invariant_of-result g c =
    let d = c.hear.new.self in let is = c.hear.ensures.same.1 ∙ c.take-place.ensures in let n = c.reserve_all-owned.ensures in let f = c.fill.ensures in let x = c.exchange-directory.ensures in let o = c.leave_all.ensures in let first = c.args.first in
    let items = c.exchange-directory.result.2.items in let vs = map (λ y. y.seat.me.0) items in let old = c.args.array.now.naming in
    let size : vec_len c.reserve_all-owned.result.1 ≡ vec_len c.args.growth.chains = n.kept.0 ∙ f.chains.0 in
    let many : length vs ≡ d.naming.buckets = length-map items (λ y. y.seat.me.0) ∙ (sym c.exchange-directory.result.2.ok.0 ∙ (x.olds.0 ∙ (o.left.0 ∙ (c.requires.taken.0 ∙ ap (λ (m : Naming). m.buckets) (sym is))))) in
    let apart : (d.naming.first + d.naming.buckets ≤ first) ⊎ (first + vec_len c.reserve_all-owned.result.1 ≤ d.naming.first) =
    subst (λ (m : Naming). (m.first + m.buckets ≤ first) ⊎ (first + vec_len c.reserve_all-owned.result.1 ≤ m.first)) (sym is) (subst (λ (k : ℕ). (old.first + old.buckets ≤ first) ⊎ (first + k ≤ old.first)) (sym size) c.requires.apart.1) in
    let w = g.W.Caller in let z : Naming = d.naming in let log : Log = w.heard c.exchange-directory.new.caller in let u = c.exchange-directory.result.1 in let e : Naming = c.exchange-directory.result.0.naming in
    let same : e.directory ≡ z.directory = ap (λ (m : Naming). m.directory) x.directory in
    let known = c.requires.tidied in let start : Log = known.0 in
    let h = c.hear.ensures in let w3 : Log = w.heard c.leave_all.new.caller in
    let begun : Begins start w3 = begins_trans start (w.heard c.hear.new.caller) w3 (begins_trans start (w.heard c.args.caller.now) (w.heard c.hear.new.caller) known.1 h.heard.after_heard) (begins_trans (w.heard c.hear.new.caller) (w.heard c.fill.new.caller) w3 f.heard (begins_trans (w.heard c.fill.new.caller) (w.heard c.reserve_all-owned.new.caller) w3 n.heard o.heard)) in
    let dir = c.exchange-directory.result.0 in
    let linked : IsLinked z.directory e.object log = subst (IsLinked z.directory e.object) (sym x.told) (subst (λ (k : ℕ). IsLinked k e.object dir.chain.seat.me.0.seen) same (linked_by dir.chain.seat.me.0 e.directory e.object e.first e.buckets dir.chain.owns.1 (dir.chain.owns.2 ∙ dir.own.0) dir.alone dir.words)) in
    let named : e.object ≡ object_in c.reserve_all-owned.result.0.seat.me.0.object = ap (λ (m : Naming). m.object) x.directory in
    let rest : IsRest z.directory e.object vs (Some (object_in u.seat.me.0.object)) log = subst (λ (p : ObjectId). IsRest z.directory p vs (Some (object_in u.seat.me.0.object)) log) (sym named)
    (rest_replaced g.P.GracePlan.QSBR z.directory z.object (object_in c.reserve_all-owned.result.0.seat.me.0.object) (object_in u.seat.me.0.object) z.first z.buckets vs start (w.seen c.leave_all.new.caller) w3 log x.wrote.0 _ begun x.wrote.1 x.wrote.2 x.wrote.3 x.olds.1.0 many x.object
    (subst (λ (m : Naming). IsLinked m.directory m.object start) (sym is) known.2) (subst (λ (p : ObjectId). IsLinked z.directory p log) named linked) (subst (λ (m : Naming). IsTidied m.directory start) (sym is) known.3))
    in record {
      some = λ one. let more = d.fits.0 in let has = length-map items (λ y. y.seat.me.0) in omega (arith, more, has, many, c.exchange-directory.result.2.ok);
      left = subst (λ (m : Naming). Each (IsLeft m.directory m.first m.buckets) vs) (sym x.directory) (each_left d.naming.directory first (vec_len c.reserve_all-owned.result.1) vs x.olds.1.1 x.olds.1.2 x.olds.1.3
          (all_outside d.naming.first d.naming.buckets first (vec_len c.reserve_all-owned.result.1) d.naming.first vs apart (omega arith) (omega arith) x.olds.1.0));
      replaced = subst (λ (m : Naming). IsRecord m.directory c.exchange-directory.result.1.chain c.exchange-directory.result.1.seat.me.0) (sym x.directory) x.unlinked;
      rest =
          let y = c.hear-2.ensures in let t : Log = c.hear-2.new.caller.seat.me.0.heard in
          rest_later g.P.GracePlan.QSBR e.directory e.object vs (Some (object_in u.seat.me.0.object)) log t (subst (λ (l : Log). Begins l t) (sym x.told) y.told.0) y.heard.run y.linked (subst (λ (k : ℕ). IsRest k e.object vs (Some (object_in u.seat.me.0.object)) log) (sym same) rest);
    }

pub returns-clause-grown : goal.returns-clause-grown
returns-clause-grown g c =
    let q = g.P.GracePlan.QSBR in let w = g.W.Caller in let w0 = c.args.caller.now in let w1 = c.hear.new.caller in let w2 = c.fill.new.caller in let w3 = c.reserve_all-owned.new.caller in let w4 = c.leave_all.new.caller in let w5 = c.exchange-directory.new.caller in
    let is = c.hear.ensures.same.1 ∙ c.take-place.ensures in let h = c.hear.ensures in let f = c.fill.ensures in let n = c.reserve_all-owned.ensures in let o = c.leave_all.ensures in let x = c.exchange-directory.ensures in let r = c.requires.chains in
    let chains = g.B.Site.sizes.chains in let first = c.args.first in let m = vec_len c.args.growth.chains in let filled = c.fill.new.chains.items in let taken = map (λ y. y.chain.seat.me.0) c.args.growth.taken.items in let olds = map (λ y. y.seat.me.0) c.leave_all.result.items in
    let dir = c.hear.new.self in let z : Naming = dir.naming in let v = dir.chain.seat.me.0 in let t : Log = v.seen in
    let entries : List (ℕ × ℕ) = map (λ y. (y.key, y.value)) c.args.growth.copied.items in let object : ObjectId = object_in c.args.growth.owned.seat.me.0.object in
    let size : vec_len c.reserve_all-owned.result.1 ≡ m = n.kept.0 ∙ f.chains.0 in
    let had : (key : ℕ) → value_in_bucket (vec_len c.leave_all.result) olds key ≡ value_among entries key = λ key.
    o.left.1.values (key % vec_len c.leave_all.result) key ∙ (ap (λ (k : ℕ). value_in_bucket k taken key) (o.left.0 ∙ c.requires.taken.0) ∙ sym (c.requires.copied.0 key)) in
    let made = x.grown entries c.requires.copied.1 had in let e = made.0 in let last = e.leaves.writes in let before : Log = last.before in
    let run = run_of q tabled before (w.heard w5) (_ ∷ [], last.wrote) last.run in
    let was : (state_of t).chain z.directory ≡ z.object ∷ [] = chain_known v z.directory dir.chain.owns.1 (dir.chain.owns.2 ∙ dir.own.0) ∙ dir.alone in
    let apart : (z.first + z.buckets ≤ first) ⊎ (first + m ≤ z.first) = subst (λ (y : Naming). (y.first + y.buckets ≤ first) ⊎ (first + m ≤ y.first)) (sym is) c.requires.apart.1 in
    let on : Begins t (w.heard w1) = ([], h.told.1) in
    let to_noted : Begins (w.heard w3) before = begins_trans (w.heard w3) (w.heard w4) before o.heard last.after.1 in
    let to_copied : Begins (w.heard w2) before = begins_trans (w.heard w2) (w.heard w3) before n.heard to_noted in
    let since_copied : Begins t (w.heard w2) = begins_trans t (w.heard w1) (w.heard w2) on f.heard in
    let since_noted : Begins t (w.heard w3) = begins_trans t (w.heard w2) (w.heard w3) since_copied n.heard in
    let since_left : Begins t (w.heard w4) = begins_trans t (w.heard w3) (w.heard w4) since_noted o.heard in
    let from = numbers_from c.args.growth.chains.items filled first (λ y. y.number) (λ y. y.seat.me.0) (λ y. y.owns.2) f.chains.1 r.2 in
    let seen_copied : w.seen w2 ≡ w.seen w0 = f.same.0.made.0 ∙ h.same.0.0.0.0 in let seen_noted : w.seen w3 ≡ w.seen w0 = n.same.0.made.0 ∙ seen_copied in let seen_left : w.seen w4 ≡ w.seen w0 = o.same.0.made.0 ∙ seen_noted in
    let copies : CopiesAll (Writes q tabled (w.seen w0)) first m 0 (w.heard w1) entries (w.heard w2) = subst (λ (s : Log). CopiesAll (Writes q tabled s) first m 0 (w.heard w1) entries (w.heard w2)) h.same.0.0.0.0 (f.filled first r.2) in
    let notes : NotesAll (Writes q tabled (w.seen w0)) (reserved object) first m (w.heard w2) (w.heard w3) =
    subst (λ (k : ℕ). NotesAll (Writes q tabled (w.seen w0)) (reserved object) first k (w.heard w2) (w.heard w3)) f.chains.0
    (subst (λ (s : Log). NotesAll (Writes q tabled s) (reserved object) first (vec_len c.fill.new.chains) (w.heard w2) (w.heard w3)) seen_copied (n.told first from)) in
    let leaves : NotesAll (Writes q tabled (w.seen w0)) (z.directory + 1) z.first z.buckets (w.heard w3) (w.heard w4) =
    subst (λ (y : Naming). NotesAll (Writes q tabled (w.seen w0)) (y.directory + 1) y.first y.buckets (w.heard w3) (w.heard w4)) (sym is)
    (subst (λ (k : ℕ). NotesAll (Writes q tabled (w.seen w0)) (c.args.array.now.naming.directory + 1) c.args.array.now.naming.first k (w.heard w3) (w.heard w4)) c.requires.taken.0
    (subst (λ (s : Log). NotesAll (Writes q tabled s) (c.args.array.now.naming.directory + 1) c.args.array.now.naming.first (vec_len c.args.growth.taken) (w.heard w3) (w.heard w4)) seen_noted (o.told c.args.array.now.naming.first c.requires.taken.1))) in
    let words_left : (record_of (w.heard w4) z.object).1 ≡ words_by z.first z.buckets = words_since q v (w.heard w4) z.object z.first z.buckets since_left (run_of q tabled (w.heard w4) before last.after.1 run) dir.chain.owns.1 dir.alone dir.words in
    let exchanged : (ex : Exchanges q tabled chains z.directory (w.seen w0) (w.heard w4) z.object first m entries (w.heard w5)) × (ex.new ≡ object) =
    subst (λ (v : Log). (ex : Exchanges q tabled chains z.directory v (w.heard w4) z.object first m entries (w.heard w5)) × (ex.new ≡ object)) seen_left
    (subst (λ (k : ℕ). (ex : Exchanges q tabled chains z.directory (w.seen w4) (w.heard w4) z.object first k entries (w.heard w5)) × (ex.new ≡ object)) size (e, made.1 ∙ ap object_in n.owned)) in
    subst (λ (y : Naming). (k : Grows q tabled chains y.directory (w.seen w0) (w.heard w0) first m entries (w.heard w5)) × (buckets_in (record_of k.left k.old) ≡ y.buckets)) is (
      record {
        copied = w.heard w2;
        noted = w.heard w3;
        left = w.heard w4;
        old = z.object;
        exchanges = exchanged.0;
        copies = copies_weaker (LeavesMap q tabled chains z.directory (w.seen w0)) (leaves_weaker q tabled chains z.directory (w.seen w0)) first m 0 (w.heard w0) (w.heard w1) entries (w.heard w2) h.heard.after_heard
            (copies_leave q (w.seen w0) chains z.first z.buckets dir.fits.0 dir.fits.1 z.directory z.object t before run was e.linked dir.words first m apart r.0 0 (w.heard w1) entries (w.heard w2) on to_copied copies);
        notes = subst (λ (y : ObjectId). NotesAll (LeavesMap q tabled chains z.directory (w.seen w0)) (reserved y) first m (w.heard w2) (w.heard w3)) (sym exchanged.1)
            (notes_leave q (w.seen w0) chains z.first z.buckets dir.fits.0 dir.fits.1 z.directory z.object t before run was e.linked dir.words (reserved object) first m (w.heard w2) (w.heard w3) since_copied to_noted notes);
        leaves = subst (λ (ws : List ℕ). NotesAll (LeavesMap q tabled chains z.directory (w.seen w0)) (z.directory + 1) (slice_index_or ws 0 0) (slice_index_or ws 1 0) (w.heard w3) (w.heard w4)) (sym words_left)
            (notes_leave q (w.seen w0) chains z.first z.buckets dir.fits.0 dir.fits.1 z.directory z.object t before run was e.linked dir.words (z.directory + 1) z.first z.buckets (w.heard w3) (w.heard w4) since_noted last.after.1 leaves);
      },
      ap (λ (ws : List ℕ). slice_index_or ws 1 0) words_left,
    )

pub returns-clause-same : goal.returns-clause-same
returns-clause-same g c =
    let w = g.W.Caller in let w0 = c.args.caller.now in let w1 = c.hear.new.caller in let w2 = c.fill.new.caller in let w3 = c.reserve_all-owned.new.caller in let w4 = c.leave_all.new.caller in let w5 = c.exchange-directory.new.caller in
    let k = vec_len c.args.growth.copied in let m = vec_len c.fill.new.chains in let b = vec_len c.args.growth.taken in
    let all : 0 + k + m + b + 1 ≡ k + vec_len c.args.growth.chains + c.args.array.now.naming.buckets + 1 = let chains = c.fill.ensures.chains.0 in let taken = c.requires.taken.0 in omega arith in
    subst (OnlyMakesMany w w0 w5) all
    (more_only w w0 w4 w5 (0 + k + m + b) 1 (more_only w w0 w3 w4 (0 + k + m) b (more_only w w0 w2 w3 (0 + k) m (more_only w w0 w1 w2 0 k (none_only w w0 w1 c.hear.ensures.same.0) c.fill.ensures.same) c.reserve_all-owned.ensures.same) c.leave_all.ensures.same)
    (one_only w w4 w5 (w.heard w5) c.exchange-directory.ensures.same))

use Rattle.rcu_hash.proofs.Cited.{run_of, tabled_maps, record_of, tabled, IsBucket, AreRanked, value_among, same_own, went_both, value_in, ChainRight, list_in, ◌≡◌, ℕ, ◌+◌, ◌≤◌, [], ◌∷◌, ◌∙◌, ◌%◌, ◌==◌, if◌then◌else◌, ◌++◌, List, length, sym, ap, subst, arith, Option, Some, None, map, slice_index_or, IfSome, IfNone, vec_len, take_all, length-map, err_from_is_err_and, more_ranked, IsCopied, copied_skip, copied_more, falls_known, value_walked, got_at, got_words, bucket_walked, looked_on, gives_up_on}
use Rattle.rcu_hash.proofs.bucket.Bucket.copy.Goals as goal
use Rattle.rcu_hash.proofs.bucket.Bucket.copy.Goals.{then-words-buckets+in_ok-copy_key, else-words-buckets}

by_option : {A C : Type 0} (r : Option A) (P : A → Type 0) (Q : Type 0) → IfSome r P → IfNone r Q → ((x : A) → P x → C) → (Q → C) → C
by_option (Some x) P Q p q f h = f x p
by_option None P Q p q f h = h q

pub invariant_of-self : goal.invariant_of-self
invariant_of-self g c =
    let b = c.args.self.now in let one = b.chain in let two = c.note.new.self in
    record { is = bucket_walked g.P.GracePlan.QSBR b.naming one.number one.seat.me two.seat.me c.note.ensures.looked.1 one.owns.1 one.owns.2 two.owns.1 b.is; fits = b.fits }

pub invariant_of-self-in-loop-index : goal.invariant_of-self-in-loop-index
invariant_of-self-in-loop-index g c =
    let b = c.loop-index.self in let one = b.chain in let two = c.get.new.self in let e = c.get.ensures in record {
      is = by_option c.get.result _ _ e.walked e.none
          (λ x l. bucket_walked g.P.GracePlan.QSBR b.naming one.number one.seat.me two.seat.me l.1 one.owns.1 one.owns.2 two.owns.1 b.is)
          (λ z. subst (λ y. IsBucket b.naming y.seat.me.0) (sym z.1) b.is);
      fits = b.fits;
    }

pub returns-in_err-copy_key-clause-same : goal.returns-in_err-copy_key-clause-same
returns-in_err-copy_key-clause-same g c =
    let e = c.in_err-copy_key.ensures.same in let p = err_from_is_err_and c.from_residual.result c.from_residual.ensures.1 in
    rw p.1 (gives_up_on c.copy_key.ensures.cells c.loop-index.invariant.looked (e.0, λ is. e.1 (sym p.2 ∙ is)))

pub returns-in_err-copy_key-clause-walked : goal.returns-in_err-copy_key-clause-walked
returns-in_err-copy_key-clause-walked g c =
    let i = c.loop-index.invariant.walked in let e = c.in-Some.ensures.walked in
    (i.0, (e.0.0 ∙ i.1.0, e.0.1 ∙ i.1.1), went_both g.P.GracePlan.QSBR tabled c.args.self.now.chain.seat.me c.loop-index.self.chain.seat.me c.get.new.self.seat.me i.2 e.1, e.2 ∙ i.3, e.3 ∙ i.4)

pub loop-index-preserved : goal.loop-index-preserved
loop-index-preserved g c =
    let q = g.P.GracePlan.QSBR in let w = g.W.Caller in let w0 = c.args.caller.now in let w1 = c.loop-index.caller in
    let i = c.loop-index.invariant in let e = c.in-Some.ensures in let s = e.some in let index = c.loop-index.index in
    let one = c.args.self.now.chain in let two = c.loop-index.self.chain in let three = c.get.new.self in let v = one.seat.me.0 in
    let went = went_both q tabled one.seat.me two.seat.me three.seat.me i.walked.2 e.walked.1 in
    let note = record_of v.seen in let os = list_in v in let buckets = c.args.self.now.naming.buckets in let number = c.args.number in
    let before = map (λ x. (x.key, x.value)) c.args.copied.now.items in let es = map (λ x. (x.key, x.value)) c.loop-index.copied.items in let ranks = map (λ x. x.rank) c.loop-index.copied.items in
    let many : 0 + length ranks ≡ vec_len c.loop-index.copied = let len = length-map c.loop-index.copied.items (λ x. x.rank) in let ok = c.loop-index.copied.ok.0 in omega arith in
    let at = got_at q one.number one.seat.me two.seat.me three.seat.me i.walked.2 one.owns.1 one.owns.2 e.walked.1 index s.0 s.1 in
    let words = got_words q one.number one.seat.me two.seat.me three.seat.me i.walked.2 one.owns.1 one.owns.2 e.walked.1 index s.0 s.1 c.in-Some.words s.2 in
    let key = ap (λ (l : List ℕ). slice_index_or l 0 0) words in
    elim c.if-words-buckets.branch [
      | then-words-buckets+in_ok-copy_key z ↦
          let k = z.in_ok-copy_key.ensures in let falls = falls_known q v (run_of q tabled v.seen three.seat.me.0.seen went.2.0 went.2.2) one.owns.1 in
          rw z.caller-is (rw z.copied-is (record {
            copied = subst (IsCopied note os buckets number before (index + 1)) (sym (k.copied ∙ ap (λ (l : List ℕ). es ++ (slice_index_or l 0 0, slice_index_or l 1 0) ∷ []) words)) (copied_more note os buckets number before index es s.0 at i.copied falls (ap (λ (n : ℕ). n % buckets) (sym key) ∙ z.if-words-buckets.true));
            ranked = subst (AreRanked 0) (sym k.ranks) (subst (λ (n : ℕ). AreRanked 0 (ranks ++ n ∷ [])) many (more_ranked 0 ranks i.ranked));
            cells = λ n h. k.cells n (i.cells n h);
            looked = looked_on z.copy_key.ensures.cells i.looked k.same.0;
            walked = (i.walked.0, (e.walked.0.0 ∙ i.walked.1.0, e.walked.0.1 ∙ i.walked.1.1), went, e.walked.2 ∙ i.walked.3, e.walked.3 ∙ i.walked.4);
          }))
      | else-words-buckets z ↦
          rw z.caller-is (rw z.copied-is (record {
            copied = copied_skip note os buckets number before index es s.0 at i.copied (λ here. z.if-words-buckets.false (ap (λ (n : ℕ). n % buckets) key ∙ here));
            ranked = i.ranked;
            cells = i.cells;
            looked = i.looked;
            walked = (i.walked.0, (e.walked.0.0 ∙ i.walked.1.0, e.walked.0.1 ∙ i.walked.1.1), went, e.walked.2 ∙ i.walked.3, e.walked.3 ∙ i.walked.4);
          }))
    ]

pub returns-clause-copied : goal.returns-clause-copied
returns-clause-copied g c key =
    let q = g.P.GracePlan.QSBR in let i = c.loop-index.invariant in let one = c.args.self.now.chain in let two = c.loop-index.self.chain in let v = one.seat.me.0 in
    let before = map (λ x. (x.key, x.value)) c.args.copied.now.items in
    let same : length (list_in c.note.new.self.seat.me.0) ≡ length (list_in v) = ap (λ (x : ChainRight). length x.objects) (same_own q tabled (tabled_maps q) one.number one.seat.me c.note.new.self.seat.me c.note.ensures.looked.1 one.owns.1 one.owns.2) in
    let all : length (list_in v) ≤ c.loop-index.index = let end = c.loop-index-test.false in let len = c.len-index-end.ensures in omega arith in
    i.copied.0 key ∙ ap (λ (x : Option ℕ). if key % c.args.self.now.naming.buckets == c.args.number then x else value_among before key)
    (ap (λ l. value_in (record_of v.seen) l key) (take_all c.loop-index.index (list_in v) all) ∙ sym (value_walked q one.number one.seat.me two.seat.me i.walked.2 one.owns.1 one.owns.2 key))

pub returns-clause-same : goal.returns-clause-same
returns-clause-same g c = (c.loop-index.invariant.looked, tt)

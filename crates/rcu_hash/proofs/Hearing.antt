-- What a call of a bucket's list tells once its writer has heard the caller.
use Rattle.rcu_hash.proofs.Cited.Words.{Bool, ◌≡◌, ℕ, ◌%◌, List, [], ◌∷◌, ◌++◌, Option, None, IsSome, refl, sym, ap, ◌∙◌, subst, inl, inr, Refusal, Missing, LiveEvent, Log, Begins, begins_trans, Look, Loaded, Stored, Sizes, free_word, cell_at, closed_at, IsAfter, OnlyHears, Ghosts, RefusesRetirement, HasLastRank, map_of, FindsNoRecord, GivesBack, stays_both, LeadsTo, directed_map, During, HadIn, LackedThrough, RefusesInsertionThrough, RefusesRemovalThrough, RefusesReplacementThrough, bucket_of}
use Rattle.rcu_list.specs.Refusing as list

-- a log after all that was known later comes after what was known before
pub after_since : (qsbr : Bool) (allows : Log → LiveEvent → Type 0) (seen heard seen' heard' log : Log) → seen' ≡ seen → Begins heard heard' → IsAfter qsbr allows seen' heard' log → IsAfter qsbr allows seen heard log
after_since qsbr allows seen heard seen' heard' log is b a = record { after_seen = subst (λ (l : Log). Begins l log) is a.after_seen; after_heard = begins_trans heard heard' log b a.after_heard; run = a.run }

-- the caller before the call, once the list's writer heard it, and at the end
module _ {W S : Type 0} (w : Ghosts W S) (qsbr : Bool) (allows : Log → LiveEvent → Type 0) (sizes : Sizes) (w0 w1 w2 : W) (hears : OnlyHears w w0 w1) (after : IsAfter qsbr allows (w.seen w0) (w.heard w0) (w.heard w1)) where
  later : (log : Log) → IsAfter qsbr allows (w.seen w1) (w.heard w1) log → IsAfter qsbr allows (w.seen w0) (w.heard w0) log
  later log a = after_since qsbr allows (w.seen w0) (w.heard w0) (w.seen w1) (w.heard w1) log hears.0.0.0 after.after_heard a

  module _ (e : Refusal) where
    no_record : FindsNoRecord w qsbr allows sizes w1 w2 e → FindsNoRecord w qsbr allows sizes w0 w2 e
    no_record f = record {
      is = f.is;
      found = f.found;
      looks = f.looks ∙ ap (λ (l : List Look). f.found ++ l) hears.0.1;
      why = f.why;
      after = later (w.heard w2) f.after;
      same = (stays_both w w0 w1 w2 hears.0.0 f.same.0, f.same.1 ∙ hears.1);
    }

    gives_back : (queue : ℕ) → GivesBack w qsbr allows sizes w1 w2 e queue → GivesBack w qsbr allows sizes w0 w2 e queue
    gives_back queue r = record {
      found = r.found;
      closed = r.closed;
      cell = r.cell;
      number = r.number;
      took = r.took;
      looks = r.looks ∙ ap (λ (l : List Look). Stored (cell_at sizes r.cell 0) (free_word r.number) ∷ Loaded (closed_at sizes queue) r.closed ∷ (r.found ++ l)) hears.0.1;
      at = r.at;
      told = r.told;
      within = (later r.at r.within.0, r.within.1, r.within.2);
      why = r.why;
      load = r.load;
      loads = r.loads ∙ ap (λ (l : List Log). r.load ∷ l) hears.1;
      same = stays_both w w0 w1 w2 hears.0.0 r.same;
    }

    retirement : (queue : ℕ) → RefusesRetirement w qsbr allows sizes queue w1 w2 e → RefusesRetirement w qsbr allows sizes queue w0 w2 e
    retirement queue r = record {
      closed = r.closed;
      looked = r.looked ∙ ap (λ (l : List Look). Loaded (closed_at sizes queue) r.closed ∷ l) hears.0.1;
      told = r.told;
      after = later (w.heard w2) r.after;
      why = r.why;
      same = (stays_both w w0 w1 w2 hears.0.0 r.same.0, r.same.1 ∙ hears.1);
    }

    module _ (known : Log) (is : w.heard w1 ≡ known) (first buckets key : ℕ) where
      abbrev bucket : ℕ
      bucket = bucket_of first buckets key

      met : (so : Log → Type 0) → so (w.heard w1) → Begins (w.heard w1) (w.heard w2) → During w qsbr allows w0 w2 so
      met so holds b = record { at = w.heard w1; after = after; before = b; so = holds }

      unmoved : w2 ≡ w1 → Begins (w.heard w1) (w.heard w2)
      unmoved same = subst (λ (x : W). Begins (w.heard w1) (w.heard x)) (sym same) ([], refl)

      only_hears : w2 ≡ w1 → OnlyHears w w0 w2
      only_hears same = subst (λ (x : W). OnlyHears w w0 x) (sym same) hears

      -- of a table that a directory leads, which is as its bucket where the caller was heard
      module _ (d : ℕ) (map_is : directed_map sizes.chains d (w.heard w1) key ≡ map_of (w.heard w1) bucket key) (leads : LeadsTo d (w.heard w1) key bucket) where
        known_map : directed_map sizes.chains d (w.heard w1) key ≡ map_of known bucket key
        known_map = map_is ∙ ap (λ (l : Log). map_of l bucket key) is

        had_in : IsSome (map_of known bucket key) → Begins (w.heard w1) (w.heard w2) → HadIn w qsbr allows sizes w0 w2 e d key bucket
        had_in has b = met (λ log. IsSome (directed_map sizes.chains d log key) × LeadsTo d log key bucket) (subst (λ (x : Option ℕ). IsSome x) (sym known_map) has, leads) b

        lacked : map_of known bucket key ≡ None → Begins (w.heard w1) (w.heard w2) → LackedThrough w qsbr allows sizes w0 w2 e d key
        lacked none b = met (λ log. directed_map sizes.chains d log key ≡ None) (known_map ∙ none) b

        pub insertion_through : list.RefusesInsertion w qsbr allows sizes w1 w2 e known bucket key → RefusesInsertionThrough w qsbr allows sizes w0 w2 e d key
        insertion_through (inl (x, has, same)) = inl (x, (bucket, had_in has (unmoved same)), only_hears same)
        insertion_through (inr (none, inl (x, last, same))) = inr (lacked none (unmoved same), inl (x, met (λ log. (c : ℕ) × LeadsTo d log key c × HasLastRank log c) (bucket, leads, subst (λ (l : Log). HasLastRank l bucket) (sym is) last) (unmoved same), only_hears same))
        insertion_through (inr (none, inr f)) = inr (lacked none f.after.after_heard, inr (no_record f))

        pub successor_through : list.RefusesSuccessor w qsbr allows sizes w1 w2 e known bucket key → RefusesReplacementThrough w qsbr allows sizes w0 w2 e d key
        successor_through (inl (x, none, same)) = inl (x, lacked none (unmoved same), only_hears same)
        successor_through (inr (has, f)) = inr (bucket, had_in has f.after.after_heard, inl (no_record f))

        pub exchange_through : IsSome (map_of known bucket key) → GivesBack w qsbr allows sizes w1 w2 e (bucket % sizes.queues) → RefusesReplacementThrough w qsbr allows sizes w0 w2 e d key
        exchange_through has r = inr (bucket, had_in has (begins_trans (w.heard w1) r.at (w.heard w2) r.within.0.after_heard r.within.1), inr (gives_back (bucket % sizes.queues) r))

        pub removal_missing : e ≡ Missing → map_of known bucket key ≡ None → w2 ≡ w1 → RefusesRemovalThrough w qsbr allows sizes w0 w2 e d key
        removal_missing x none same = inl (x, lacked none (unmoved same), only_hears same)

        pub removal_refused : IsSome (map_of known bucket key) → RefusesRetirement w qsbr allows sizes (bucket % sizes.queues) w1 w2 e → RefusesRemovalThrough w qsbr allows sizes w0 w2 e d key
        removal_refused has r = inr (bucket, had_in has r.after.after_heard, retirement (bucket % sizes.queues) r)

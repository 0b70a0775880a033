-- What a lookup that read a directory answers.
use Rattle.rcu_hash.proofs.Cited.Words.{◌≡◌, ◌≢◌, ℕ, ◌+◌, ◌%◌, ◌<◌, Bool, true, false, List, [], ◌∷◌, ◌++◌, Option, Some, None, refl, sym, ap, ◌∙◌, subst, inl, inr, ⊎_elim, arith, FoldsTo, dite, ℕ_discrete, In, in_append, Log, Begins, AnswersBetween, times, ◌≤◌, cond, lt_of_not-le, mod-eq_of_lt, dec_le, ObjectId, Close, Has, record_of, kind_of, tabled, begins_trans, ReaderCore, log_of, ordinal, FindsFirst, Looks, IsIn, looks_twice, map_of, AnswersThrough, WalksThrough, buckets_in, first_in, bucket_in, leads, leads_to, value_through, bucket_of, nat_tests}
use Rattle.rcu_hash.proofs.Directing.{answers_for_table}
use Rattle.rcu_list.specs.Walks as list
use Rattle.gp_memb.specs.declared.plan.GracePlan as plan

times_sum : (key : ℕ) (xs ys : List (ℕ × ℕ)) → times key (xs ++ ys) ≡ times key xs + times key ys
times_sum key [] ys = omega arith
times_sum key (e ∷ es) ys = let rest = times_sum key es ys in grind (arith, nat_tests)

times_none : (key : ℕ) (xs : List (ℕ × ℕ)) → ((value : ℕ) → ¬ In xs (key, value)) → times key xs ≡ 0
times_none key [] none = refl
times_none key ((k, v) ∷ es) none =
    let rest = times_none key es (λ value h. none value (inr h)) in let other : k ≢ key = λ e. none v (inl (ap (λ (n : ℕ). (n, v)) e)) in grind (arith, nat_tests)

-- calls with one list and then with another
pub folds_both : {F A : Type 0} (R : F → A → F → Type 0) (f g h : F) (xs ys : List A) → FoldsTo R f xs g → FoldsTo R g ys h → FoldsTo R f (xs ++ ys) h
folds_both R f g h [] ys a b = subst (λ (x : _). FoldsTo R x ys h) (sym a) b
folds_both R f g h (x ∷ xs) ys a b = (a.0, a.1, folds_both R a.0 g h xs ys a.2 b)

-- by how many buckets there are, and what it is that a key had a value in the table, or none, in some log of the walk
module _ (buckets : ℕ) (had_in : Log → ℕ → Option ℕ → Type 0) where
  -- the walk went through the buckets below this number
  pub record WentThrough (new : Log) (number : ℕ) (met : List (ℕ × ℕ)) : Type 0 where
    pub below : (key value : ℕ) → In met (key, value) → key % buckets < number
    pub had : (key value : ℕ) → In met (key, value) → had_in new key (Some value)
    pub lacked : (key : ℕ) → key % buckets < number → times key met ≢ 1 → had_in new key None

  pub went_nowhere : (new : Log) → WentThrough new 0 []
  went_nowhere new = record { below = λ key value h. absurd h; had = λ key value h. absurd h; lacked = λ key low n. absurd (omega arith) }

  -- and through one more, by a walk that began later
  module _ (later : (mid new : Log) (key : ℕ) (answer : Option ℕ) → Begins mid new → had_in mid key answer → had_in new key answer) (mid heard new : Log) (number c : ℕ) (met more : List (ℕ × ℕ)) (own : (key : ℕ) (answer : Option ℕ) → key % buckets ≡ number → AnswersBetween mid heard new c key answer → had_in new key answer) (b : Begins mid new) (w : WentThrough mid number met) (l : list.GoesThrough (λ key. key % buckets ≡ number) mid heard new c more) where
    not_met : (key : ℕ) → key % buckets ≡ number → times key met ≡ 0
    not_met key is = times_none key met (λ value h. let low = w.below key value h in absurd (omega arith))

    not_more : (key : ℕ) → key % buckets ≢ number → times key more ≡ 0
    not_more key other = times_none key more (λ value h. other (l.is_wanted key value h))

    pub went_on : WentThrough new (number + 1) (met ++ more)
    went_on = record {
      below = λ key value h. ⊎_elim
          (λ (x : In met (key, value)). let low = w.below key value x in omega arith)
          (λ (x : In more (key, value)). let is = l.is_wanted key value x in omega arith)
          (in_append met more (key, value) h);
      had = λ key value h. ⊎_elim
          (λ (x : In met (key, value)). later mid new key (Some value) b (w.had key value x))
          (λ (x : In more (key, value)). own key (Some value) (l.is_wanted key value x) (l.had key value x))
          (in_append met more (key, value) h);
      lacked = λ key low n. let sum = times_sum key met more in dite (ℕ_discrete (key % buckets) number)
          (λ is. let none = not_met key is in own key None is (l.lacked key is (λ one. n (omega arith))))
          (λ other. let none = not_more key other in later mid new key None b (w.lacked key (omega arith) (λ one. n (omega arith))));
    }

-- where the words lead
module _ (chains kind first buckets : ℕ) where
  -- the bucket of a number below theirs is that of each key with this remainder
  module _ (number : ℕ) (low : number < buckets) where
    pub same_bucket : (key : ℕ) → key % buckets ≡ number → bucket_of first buckets key ≡ bucket_of first buckets number
    same_bucket key is = let own = mod-eq_of_lt low in omega (arith, own, is)

    pub leads_same : (key : ℕ) → key % buckets ≡ number → leads_to chains kind first buckets number ≡ true → leads_to chains kind first buckets key ≡ true
    leads_same key is led = let own = mod-eq_of_lt low in grind (arith, nat_tests)

    -- no bucket of a number above has a chain where this one has none
    pub leads_no_more : leads_to chains kind first buckets number ≡ false → (key : ℕ) → number ≤ key % buckets → leads_to chains kind first buckets key ≡ false
    leads_no_more none key above = let own = mod-eq_of_lt low in grind (arith, nat_tests)

-- what was answered since a later log was answered since an earlier one
module _ (seen heard start new : Log) (chains d : ℕ) where
  pub through_from : (key : ℕ) (answer : Option ℕ) → Begins seen start → Begins heard start → AnswersThrough start start new chains d key answer → AnswersThrough seen heard new chains d key answer
  through_from key answer a b x = record { at = x.at; after_seen = begins_trans seen start x.at a x.after_seen; after_heard = begins_trans heard start x.at b x.after_seen; before = x.before; is = x.is }

  pub walks_from : (met : List (ℕ × ℕ)) → Begins seen start → Begins heard start → WalksThrough start start new chains d met → WalksThrough seen heard new chains d met
  walks_from met a b w = record { had = λ key value h. through_from key (Some value) a b (w.had key value h); lacked = λ key n. through_from key None a b (w.lacked key n) }

-- a lookup by a reader in a section
module _ {P K : Type 0} {g : plan.Ghosts P} (qsbr : Bool) (chains d : ℕ) (r s t : ReaderCore P K g) (o : ObjectId) (first : FindsFirst r d (Some o)) where
  -- the object is no directory that leads the key
  pub answers_nowhere : (key : ℕ) → leads chains (record_of (log_of r) o) key ≡ false → Begins (log_of r) (log_of s) → AnswersThrough (log_of r) (log_of r) (log_of s) chains d key None
  answers_nowhere key nowhere b = record {
    at = log_of r;
    after_seen = ([], refl);
    after_heard = ([], refl);
    before = b;
    is = ap (λ (f : Option ObjectId). value_through chains (log_of r) f key) first ∙ ap (λ (y : Bool). cond y (map_of (log_of r) (bucket_in (record_of (log_of r) o) key) key) None) nowhere;
  }

  -- it is one, and the bucket answers
  pub answers_there : (key c : ℕ) (answer : Option ℕ) → leads chains (record_of (log_of r) o) key ≡ true → c ≡ bucket_in (record_of (log_of r) o) key → IsIn r → Looks qsbr tabled r s → Looks qsbr tabled s t → AnswersBetween (log_of s) s.seat.me.0.heard (log_of t) c key answer → AnswersThrough (log_of r) (log_of r) (log_of t) chains d key answer
  answers_there key c answer led is inside a b between =
      let both = looks_twice qsbr tabled r s t a b in
      let closed : ¬ Has (Close r.slot (ordinal r)) (log_of t) = λ h. b.inside.inside.1 (subst (λ (x : ℕ × ℕ). Has (Close x.0 x.1) (log_of t)) (λ i. (sym both.same.0 i, sym both.same.4 i)) h) in
      let found = answers_for_table qsbr (log_of r) between.at (log_of t) chains d key o r.slot (ordinal r) inside.note
      (begins_trans (log_of r) (log_of s) between.at a.later.after_seen between.after_seen) between.before both.later.run first led inside.stands closed in
      subst (AnswersThrough (log_of r) (log_of r) (log_of t) chains d key) (ap (λ (n : ℕ). map_of between.at n key) (sym is) ∙ between.is) found

-- what the words of an object tell is so of its payload
module _ {P K : Type 0} {g : plan.Ghosts P} (qsbr : Bool) (chains d : ℕ) (r : ReaderCore P K g) (o : ObjectId) (first : FindsFirst r d (Some o)) (kind low many : ℕ) (words : (kind ≡ kind_of (record_of (log_of r) o)) × (low ≡ first_in (record_of (log_of r) o)) × (many ≡ buckets_in (record_of (log_of r) o))) where
  abbrev x : ℕ × List ℕ
  x = record_of (log_of r) o

  pub leads_words : (key : ℕ) (b : Bool) → leads_to chains kind low many key ≡ b → leads chains x key ≡ b
  leads_words key b is = (λ i. leads_to chains (sym words.0 i) (sym words.1 i) (sym words.2 i) key) ∙ is

  pub bucket_words : (key : ℕ) → bucket_of low many key ≡ bucket_in x key
  bucket_words key = λ i. bucket_of (words.1 i) (words.2 i) key

  -- what a key had in the table, in a walk that came to this reader's log
  abbrev pub HadThrough : Log → ℕ → Option ℕ → Type 0
  HadThrough new key answer = AnswersThrough (log_of r) (log_of r) new chains d key answer

  pub through_later : (mid new : Log) (key : ℕ) (answer : Option ℕ) → Begins mid new → HadThrough mid key answer → HadThrough new key answer
  through_later mid new key answer b a = record { at = a.at; after_seen = a.after_seen; after_heard = a.after_heard; before = begins_trans a.at mid new a.before b; is = a.is }

  module _ (s t : ReaderCore P K g) (inside : IsIn r) (a : Looks qsbr tabled r s) (b : Looks qsbr tabled s t) where
    pub value_answers : (key c : ℕ) (answer : Option ℕ) → leads_to chains kind low many key ≡ true → c ≡ bucket_of low many key → AnswersBetween (log_of s) s.seat.me.0.heard (log_of t) c key answer → HadThrough (log_of t) key answer
    value_answers key c answer led is between = answers_there qsbr chains d r s t o first key c answer (leads_words key true led) (is ∙ bucket_words key) inside a b between

    -- of the keys of one bucket
    pub bucket_answers : (number c : ℕ) → number < many → leads_to chains kind low many number ≡ true → c ≡ bucket_of low many number → (key : ℕ) (answer : Option ℕ) → key % many ≡ number → AnswersBetween (log_of s) s.seat.me.0.heard (log_of t) c key answer → HadThrough (log_of t) key answer
    bucket_answers number c below led is key answer of between =
        value_answers key c answer (leads_same chains kind low many number below key of led) (is ∙ sym (same_bucket chains kind low many number below key of)) between

  -- a walk that came to a bucket with no chain, or to the end
  module _ (new : Log) (b : Begins (log_of r) new) (number : ℕ) (met : List (ℕ × ℕ)) (went : WentThrough many HadThrough new number met) where
    ends_with : ((key : ℕ) → number ≤ key % many → leads_to chains kind low many key ≡ false) → WalksThrough (log_of r) (log_of r) new chains d met
    ends_with none = record {
      had = went.had;
      lacked = λ key n. dite (dec_le (key % many + 1) number)
          (λ le. went.lacked key (omega arith) n)
          (λ not. let above = lt_of_not-le not in through_later (log_of r) new key None b (answers_nowhere qsbr chains d r r r o first key (leads_words key false (none key (omega arith))) ([], refl)));
    }

    pub walk_stops : number < many → leads_to chains kind low many number ≡ false → WalksThrough (log_of r) (log_of r) new chains d met
    walk_stops below none = ends_with (leads_no_more chains kind low many number below none)

    pub walk_ends : number ≡ many → WalksThrough (log_of r) (log_of r) new chains d met
    walk_ends all = ends_with (λ key above. grind (arith, nat_tests))

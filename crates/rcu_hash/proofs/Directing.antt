-- A bucket to which a directory led answers for the table: while the directory is linked, and afterwards by what the
-- table had when another one took its place, since the bucket stays as long as a section of then is open.
use Rattle.rcu_hash.proofs.Cited.Words.{Bool, ◌≡◌, ℕ, ◌<◌, List, [], ◌∷◌, ◌++◌, append_assoc, Some, None, cond, true, refl, sym, ap, ◌∙◌, subst, ⊎_elim, arith, mod_below, some, ObjectId, In, first_of, first_has, LiveEvent, Close, Object, Replace, Log, Begins, Has, IsLiveRun, record_of, open_of, state_of, IsDirectory, IsReplaced, Names, kind_of, tabled, begins_trans, chain_used, directory_alone, directory_there, has_later, left_stays, linked_or_replaced, note_stays, run_of, still, map_of, value_in, value_same, AnswersLinked, AnswersThrough, bucket_in, buckets_in, directed_map, leads, value_through, nat_tests}

module _ (chains key : ℕ) (x : ℕ × List ℕ) (led : leads chains x key ≡ true) where
  leads_by : (kind_of x ≡ 1) × (0 < buckets_in x) × (bucket_in x key < chains)
  leads_by = grind (arith, nat_tests)

  names : Names x (bucket_in x key)
  names = let m = mod_below key (buckets_in x) leads_by.1 in (omega arith, omega arith)

  -- where that directory is linked the table has what the bucket has
  pub directed_is : (log : Log) (d : ℕ) (o : ObjectId) → (state_of log).chain d ≡ o ∷ [] → record_of log o ≡ x → directed_map chains d log key ≡ map_of log (bucket_in x key) key
  directed_is log d o alone note =
      ap (λ (l : List ObjectId). value_through chains log (first_of l) key) alone
      ∙ (ap (λ (y : ℕ × List ℕ). cond (leads chains y key) (map_of log (bucket_in y key) key) None) note
      ∙ ap (λ (b : Bool). cond b (map_of log (bucket_in x key) key) None) led)

module _ (qsbr : Bool) where
  -- of two logs in which a chain has the same objects
  pub map_same : (old log : Log) (c key : ℕ) → Begins old log → IsLiveRun qsbr tabled log → (state_of log).chain c ≡ (state_of old).chain c → map_of log c key ≡ map_of old c key
  map_same old log c key b run same = ap (λ (os : List ObjectId). value_in (record_of log) os key) same
      ∙ value_same (record_of old) (record_of log) ((state_of old).chain c) key (λ o h. note_stays qsbr tabled old log o b run (chain_used qsbr tabled old c o (run_of qsbr tabled old log b run) h))

  module _ (start at log : Log) (chains d key : ℕ) (o : ObjectId) (slot ordinal copied : ℕ) (since : Begins start at) (later : Begins at log) (run : IsLiveRun qsbr tabled log) (first : first_of ((state_of start).chain d) ≡ Some o) (led : leads chains (record_of start o) key ≡ true) (opened : open_of slot start ≡ some (ordinal, copied)) (inside : ¬ Has (Close slot ordinal) log) where
    abbrev words : ℕ × List ℕ
    words = record_of start o

    run_at : IsLiveRun qsbr tabled at
    run_at = run_of qsbr tabled at log later run

    linked : In ((state_of start).chain d) o
    linked = first_has ((state_of start).chain d) o first

    directory : IsDirectory words
    directory = directory_there qsbr start d o (run_of qsbr tabled start at since run_at) linked (leads_by chains key words led).0

    note_later : (now : Log) → Begins start now → IsLiveRun qsbr tabled now → record_of now o ≡ words
    note_later now b here = note_stays qsbr tabled start now o b here (chain_used qsbr tabled start d o (run_of qsbr tabled start now b here) linked)

    -- the directory is linked in a log, where the bucket has this answer
    by_linked : (now : Log) → Begins start now → Begins now at → In ((state_of now).chain d) o → map_of now (bucket_in words key) key ≡ map_of at (bucket_in words key) key → AnswersLinked start at chains d key o (map_of at (bucket_in words key) key)
    by_linked now b goes still_there same =
        let here = run_of qsbr tabled now at goes run_at in let note = note_later now b here in record {
          at = now;
          after = b;
          before = goes;
          linked = still_there;
          is = directed_is chains key words led now d o (directory_alone qsbr now d o here still_there (subst IsDirectory (sym note) directory)) note ∙ same;
        }

    by_replaced : IsReplaced start at d o → AnswersLinked start at chains d key o (map_of at (bucket_in words key) key)
    by_replaced r =
        let e : LiveEvent = Object (Replace d o r.new r.cell r.payload) in
        let before : Begins r.before at = (r.since ++ e ∷ [], r.is ∙ sym (append_assoc r.since (e ∷ []) r.before)) in
        let goes = begins_trans r.before at log before later in
        let here = run_of qsbr tabled r.before log goes run in
        let note = note_later r.before r.after here in
        let open_then : open_of slot r.before ≡ some (ordinal, copied) = ⊎_elim
        (λ (closed : Has (Close slot ordinal) (r.after.0 ++ start)). absurd (inside (subst (Has (Close slot ordinal)) (sym goes.1) (has_later (Close slot ordinal) goes.0 r.before (subst (Has (Close slot ordinal)) (sym r.after.1) closed)))))
        (λ (h : open_of slot (r.after.0 ++ start) ≡ some (ordinal, copied)). ap (open_of slot) r.after.1 ∙ h)
        (still qsbr tabled r.after.0 start slot ordinal copied (subst (IsLiveRun qsbr tabled) r.after.1 here) opened) in
        let stays = left_stays qsbr at r.since r.before (bucket_in words key) d o r.new r.cell r.payload slot ordinal copied run_at r.is (subst IsDirectory (sym note) directory) (subst (λ (x : ℕ × List ℕ). Names x (bucket_in words key)) (sym note) (names chains key words led)) open_then
        (λ closed. inside (subst (Has (Close slot ordinal)) (sym later.1) (has_later (Close slot ordinal) later.0 at closed))) in
        by_linked r.before r.after before r.linked (sym (map_same r.before at (bucket_in words key) key before run_at stays))

    pub answers_linked : AnswersLinked start at chains d key o (map_of at (bucket_in words key) key)
    answers_linked = ⊎_elim
        (λ (h : In ((state_of at).chain d) o). by_linked at since ([], refl) h refl)
        (λ (r : IsReplaced start at d o). by_replaced r)
        (linked_or_replaced qsbr start at d o since run_at linked directory)

    pub answers_for_table : AnswersThrough start start log chains d key (map_of at (bucket_in words key) key)
    answers_for_table = let a = answers_linked in record { at = a.at; after_seen = a.after; after_heard = a.after; before = begins_trans a.at at log a.before later; is = a.is }

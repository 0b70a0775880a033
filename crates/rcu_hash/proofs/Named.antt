-- What the directory's right tells a bucket's writer that has it: its chain is free, and the table's map is that of its
-- buckets.
use Rattle.rcu_hash.proofs.Cited.Words.{Bool, ◌≡◌, ℕ, ◌+◌, ◌<◌, ◌≤◌, ◌&&◌, List, [], ◌∷◌, Option, None, Some, true, refl, sym, ap, ◌∙◌, subst, inl, arith, slice_index_or, lt-ltb, mod_below, ObjectId, In, first_of, Log, Begins, IsLiveRun, record_of, state_of, LiveEvent, IsDirectory, tabled, begins_trans, chain_used, directory_alone, grows_log, linked_between, note_stays, run_of, ChainRight, View, IsListed, own_in, list_in, map_of, LeadsTo, directed_map, leads, words_by, ChangesThrough, InsertsThrough, RemovesThrough, ReplacesThrough, bucket_of, dite, ℕ_discrete, at_number, at_number_other, replaced, without_object, ◌≢◌, Naming, HasRight, lent_chains, Names, ∥∥₁_elim, ⊎_elim, ◌⊎◌, length, inr, Me, chain_note, IsFree, MayLeave, reserved, reserved_free, reserved_linked, tabled_maps, Went, KnowsKeys, MayWriteIn, keys_walked, IsBucket, Directs, IsAmong, Each, HasSeen, IsRunIn, AreKept, nat_tests}
use Rattle.rcu_hash.proofs.Directing.{directed_is, map_same}
use Rattle.rcu_list.specs.Calls as list

-- two maps that agree on a key do so once another key is changed in both
changed_same : (key : ℕ) (has : Option ℕ) (f g : ℕ → Option ℕ) (k : ℕ) → f k ≡ g k → at_number key has f k ≡ at_number key has g k
changed_same key has f g k same = grind (arith, nat_tests)

-- the words of a directory make it one
pub by_words : (x : ℕ × List ℕ) (first buckets : ℕ) → x.1 ≡ words_by first buckets → IsDirectory x
by_words x first buckets words = subst (λ (w : List ℕ). IsDirectory (x.0, w)) (sym words) (refl, refl)

-- what a log says of an object that a seat knows it says still
module _ (qsbr : Bool) (old later : Log) (o : ObjectId) (b : Begins old later) (run : IsLiveRun qsbr tabled later) where
  pub used_later : In (state_of old).used o → In (state_of later).used o
  used_later h = (grows_log old later b).used o h

  pub words_later : (first buckets : ℕ) → In (state_of old).used o → (record_of old o).1 ≡ words_by first buckets → (record_of later o).1 ≡ words_by first buckets
  words_later first buckets used words = ap (λ (x : ℕ × List ℕ). x.1) (note_stays qsbr tabled old later o b run used) ∙ words

-- the writer to which a directory's right is lent has it, and has it still in a later log
pub right_by : (n : Naming) (v : View) (y x : ChainRight) → v.chains ≡ y ∷ x ∷ [] → x.chain ≡ n.directory → x.objects ≡ n.object ∷ [] → x.note ≡ 0 → (record_of v.seen n.object).1 ≡ words_by n.first n.buckets → In (state_of v.seen).used n.object → HasRight n v
right_by n v y x is chain alone note words used =
    subst (λ (xs : List ChainRight). (lent_chains xs ≡ own_in (lent_chains xs) ∷ []) × ((own_in (lent_chains xs)).chain ≡ n.directory) × ((own_in (lent_chains xs)).objects ≡ n.object ∷ []) × ((own_in (lent_chains xs)).note ≡ 0) × ((record_of v.seen n.object).1 ≡ words_by n.first n.buckets) × In (state_of v.seen).used n.object) (sym is) (refl, chain, alone, note, words, used)

pub right_on : (qsbr : Bool) (n : Naming) (v w : View) → HasRight n v → lent_chains w.chains ≡ lent_chains v.chains → Begins v.seen w.seen → IsLiveRun qsbr tabled w.seen → HasRight n w
right_on qsbr n v w r same b run =
    subst (λ (xs : List ChainRight). (xs ≡ own_in xs ∷ []) × ((own_in xs).chain ≡ n.directory) × ((own_in xs).objects ≡ n.object ∷ []) × ((own_in xs).note ≡ 0) × ((record_of w.seen n.object).1 ≡ words_by n.first n.buckets) × In (state_of w.seen).used n.object) (sym same)
    (r.0, r.1, r.2, r.3, words_later qsbr v.seen w.seen n.object b run n.first n.buckets r.5 r.4, used_later qsbr v.seen w.seen n.object b run r.5)

-- a chain that is none of those that a directory names
pub unnamed : (x : ℕ × List ℕ) (first buckets c : ℕ) → x.1 ≡ words_by first buckets → ∥ (c < first) ⊎ (first + buckets ≤ c) ∥₁ → ¬ (Names x c)
unnamed x first buckets c words outside names =
    let low : first ≤ c = subst (λ (w : List ℕ). slice_index_or w 0 0 ≤ c) words names.0 in
    let high : c < first + buckets = subst (λ (w : List ℕ). c < slice_index_or w 0 0 + slice_index_or w 1 0) words names.1 in
    ∥∥₁_elim outside (λ p q. absurd p) (λ out. ⊎_elim (λ under. absurd (omega (arith, low, under))) (λ over. absurd (omega (arith, high, over))) out)

-- the one object of a writer's chain, and of a chain that was lent to it, was put into a chain
pub own_used : (qsbr : Bool) (v : View) (o : ObjectId) → IsLiveRun qsbr tabled v.seen → IsListed v → list_in v ≡ o ∷ [] → In (state_of v.seen).used o
own_used qsbr v o run listed alone = chain_used qsbr tabled v.seen (own_in v.chains).chain o run (subst (λ (l : List ObjectId). In l o) (sym (listed.0 ∙ alone)) (inl refl))

pub lent_used : (qsbr : Bool) (log : Log) (d : ℕ) (o : ObjectId) → IsLiveRun qsbr tabled log → (state_of log).chain d ≡ o ∷ [] → In (state_of log).used o
lent_used qsbr log d o run alone = chain_used qsbr tabled log d o run (subst (λ (l : List ObjectId). In l o) (sym alone) (inl refl))

-- where a directory is the one object of its chain it leads each key to its bucket
pub leads_there : (log : Log) (d : ℕ) (o : ObjectId) (first buckets key : ℕ) → (state_of log).chain d ≡ o ∷ [] → (record_of log o).1 ≡ words_by first buckets → LeadsTo d log key (bucket_of first buckets key)
leads_there log d o first buckets key alone words = (o, ap first_of alone, ap (λ (w : List ℕ). bucket_of (slice_index_or w 0 0) (slice_index_or w 1 0) key) words)

-- a directory leads each key to its bucket
module _ (chains first buckets : ℕ) (many : 0 < buckets) (fits : first + buckets ≤ chains) where
  pub leads_all : (x : ℕ × List ℕ) → x.1 ≡ words_by first buckets → (key : ℕ) → leads chains x key ≡ true
  leads_all (cell, words) is key =
      subst (λ (w : List ℕ). leads chains (cell, w) key ≡ true) (sym is)
      (let m = mod_below key buckets many in
      let low : bucket_of first buckets key < chains = omega arith in
      (λ i. (lt-ltb 0 buckets many i) && (lt-ltb (bucket_of first buckets key) chains low i)))

  module _ (qsbr : Bool) (d : ℕ) (o : ObjectId) (old log new : Log) (b : Begins old log) (later : Begins log new) (run : IsLiveRun qsbr tabled new) (was : (state_of old).chain d ≡ o ∷ []) (is : (state_of new).chain d ≡ o ∷ []) (words : (record_of old o).1 ≡ words_by first buckets) where
    here : IsLiveRun qsbr tabled log
    here = run_of qsbr tabled log new later run

    there : In ((state_of old).chain d) o
    there = subst (λ (l : List ObjectId). In l o) (sym was) (inl refl)

    directory : IsDirectory (record_of old o)
    directory = by_words (record_of old o) first buckets words

    note : record_of log o ≡ record_of old o
    note = note_stays qsbr tabled old log o b here (chain_used qsbr tabled old d o (run_of qsbr tabled old log b here) there)

    -- between two logs in which it is linked the directory is alone in its chain
    pub alone_between : (state_of log).chain d ≡ o ∷ []
    alone_between = directory_alone qsbr log d o here
        (linked_between qsbr old log new d o b later run there directory (subst (λ (l : List ObjectId). In l o) (sym is) (inl refl)))
        (subst IsDirectory (sym note) directory)

    -- and the table's map is that of its buckets
    pub directed_between : (key : ℕ) → directed_map chains d log key ≡ map_of log (bucket_of first buckets key) key
    directed_between key =
        directed_is chains key (record_of old o) (leads_all (record_of old o) words key) log d o alone_between note
        ∙ ap (λ (w : List ℕ). map_of log (bucket_of (slice_index_or w 0 0) (slice_index_or w 1 0) key) key) words

  -- so what changes a bucket's list changes the table
  module _ (qsbr : Bool) (d : ℕ) (o : ObjectId) (old log : Log) (run : IsLiveRun qsbr tabled log) (was : (state_of old).chain d ≡ o ∷ []) (is : (state_of log).chain d ≡ o ∷ []) (words : (record_of old o).1 ≡ words_by first buckets) (seen heard : Log) (key : ℕ) where
    abbrev bucket : ℕ
    bucket = bucket_of first buckets key

    module _ (event : LiveEvent) (had has : Option ℕ) (c : list.Changes qsbr tabled bucket old seen heard event key had has log) (others : (k : ℕ) → k ≢ bucket → (state_of (event ∷ c.before)).chain k ≡ (state_of c.before).chain k) where
      abbrev before : Log
      before = c.before

      goes : Begins before log
      goes = (event ∷ [], c.wrote)

      at_before : (k : ℕ) → directed_map chains d before k ≡ map_of before (bucket_of first buckets k) k
      at_before = directed_between qsbr d o old before log c.after.0 goes run was is words

      -- a key counts in the chain of its own bucket alone
      in_bucket : (k : ℕ) → map_of log (bucket_of first buckets k) k ≡ at_number key has (directed_map chains d before) k
      in_bucket k = dite (ℕ_discrete (bucket_of first buckets k) bucket)
          (λ same. ap (λ (b : ℕ). map_of log b k) same ∙ (c.map k ∙ changed_same key has (map_of before bucket) (directed_map chains d before) k (ap (λ (b : ℕ). map_of before b k) (sym same) ∙ sym (at_before k))))
          (λ apart. map_same qsbr before log (bucket_of first buckets k) k goes run (ap (λ (l : Log). (state_of l).chain (bucket_of first buckets k)) c.wrote ∙ others (bucket_of first buckets k) apart)
          ∙ (sym (at_before k) ∙ sym (at_number_other key k has (directed_map chains d before) (λ same. apart (ap (bucket_of first buckets) same)))))

      changes_through : ChangesThrough qsbr tabled chains d seen heard bucket event key had has log
      changes_through = record {
        before = before;
        wrote = c.wrote;
        after = (c.after.1, c.after.2);
        run = c.run;
        leads = leads_there before d o first buckets key (alone_between qsbr d o old before log c.after.0 goes run was is words) (ap (λ (x : ℕ × List ℕ). x.1) (note qsbr d o old before log c.after.0 goes run was is words) ∙ words);
        was = at_before key ∙ c.was;
        map = λ k. directed_between qsbr d o old log log (begins_trans old before log c.after.0 goes) ([], refl) run was is words k ∙ in_bucket k;
      }

    pub inserts_through : (value : ℕ) → list.Inserts qsbr tabled bucket old seen heard key value log → InsertsThrough qsbr tabled chains d seen heard key value bucket log
    unfolding changes_through
    inserts_through value i = record {
      object = i.object;
      cell = i.cell;
      rank = i.rank;
      below = i.below;
      changes = changes_through _ None (Some value) i.changes (λ k apart. at_number_other bucket k (i.object ∷ (state_of i.changes.before).chain bucket) (state_of i.changes.before).chain apart);
      next = i.next;
    }

    pub replaces_through : (value : ℕ) (left : ObjectId) → list.Replaces qsbr tabled bucket old seen heard key value left log → ReplacesThrough qsbr tabled chains d seen heard key value bucket left log
    replaces_through value left i = record {
      object = i.object;
      cell = i.cell;
      rank = i.rank;
      had = i.had;
      changes = changes_through _ (Some i.had) (Some value) i.changes (λ k apart. at_number_other bucket k (replaced left i.object ((state_of i.changes.before).chain bucket)) (state_of i.changes.before).chain apart);
    }

    pub removes_through : (left : ObjectId) → list.Removes qsbr tabled bucket old seen heard key left log → RemovesThrough qsbr tabled chains d seen heard key bucket left log
    removes_through left i = record {
      had = i.had;
      changes = changes_through _ (Some i.had) None i.changes (λ k apart. at_number_other bucket k (without_object left ((state_of i.changes.before).chain bucket)) (state_of i.changes.before).chain apart);
    }

-- a directory that was alone in its chain is so while a chain that it names is reserved for it
pub directs_on : (qsbr : Bool) (old log : Log) (c d : ℕ) (o : ObjectId) (first buckets : ℕ) → Begins old log → IsLiveRun qsbr tabled log → Directs d o first buckets old → IsAmong first buckets c → chain_note c log ≡ reserved o → Directs d o first buckets log
directs_on qsbr old log c d o first buckets b run was among held =
    let at : In ((state_of old).chain d) o = subst (λ (l : List ObjectId). In l o) (sym was.0) (inl refl) in
    let same : record_of log o ≡ record_of old o = note_stays qsbr tabled old log o b run (chain_used qsbr tabled old d o (run_of qsbr tabled old log b run) at) in
    let directory = by_words (record_of old o) first buckets was.1 in
    let names : Names (record_of old o) c = subst (λ (w : List ℕ). Names ((record_of old o).0, w) c) (sym was.1) among in
    let linked = reserved_linked qsbr old log c d o b run at directory names held in
    (directory_alone qsbr log d o run linked (subst IsDirectory (sym same) directory), ap (λ (x : ℕ × List ℕ). x.1) same ∙ was.1)

-- the writer may change it
pub may_write_reserved : (qsbr : Bool) (v : View) (o : ObjectId) → (own_in v.chains).note ≡ reserved o → MayWriteIn qsbr tabled IsFree v
may_write_reserved qsbr v o held log begins run note known_lent = reserved_free qsbr log (own_in v.chains).chain o run (note ∙ held)

-- what it knows of a later log
pub bucket_on : (qsbr : Bool) (n : Naming) (v w : View) → Begins v.seen w.seen → IsLiveRun qsbr tabled w.seen → IsListed w → (own_in w.chains).chain ≡ (own_in v.chains).chain → lent_chains w.chains ≡ [] → KnowsKeys w → (own_in w.chains).note ≡ (own_in v.chains).note → IsBucket n v → IsBucket n w
bucket_on qsbr n v w goes run listed is alone keys note b = let among = subst (IsAmong n.first n.buckets) (sym is) b.4 in
    (alone, keys, note ∙ b.2, directs_on qsbr v.seen w.seen (own_in w.chains).chain n.directory n.object n.first n.buckets goes run b.3 among (listed.2 ∙ (note ∙ b.2)), among)

pub bucket_walked : {T : Type 0} (qsbr : Bool) (n : Naming) (number : ℕ) (m m' : Me T View) → Went qsbr tabled m.0 m m' → IsListed m.0 → (own_in m.0.chains).chain ≡ number → IsListed m'.0 → IsBucket n m.0 → IsBucket n m'.0
bucket_walked qsbr n number m m' went listed is listed' b = bucket_on qsbr n m.0 m'.0 went.2.0 went.2.2 listed'
    (ap (λ (v : View). (own_in v.chains).chain) went.1)
    (ap (λ (v : View). lent_chains v.chains) went.1 ∙ b.0)
    (keys_walked qsbr tabled (tabled_maps qsbr) number m m' went listed is b.1)
    (ap (λ (v : View). (own_in v.chains).note) went.1)
    b

-- the writers of reserved chains that have seen the log in which their directory came
pub all_buckets : (qsbr : Bool) (n : Naming) (log : Log) → Directs n.directory n.object n.first n.buckets log → (k : ℕ) (vs : List View) → n.first ≤ k → k + length vs ≤ n.first + n.buckets → Each (HasSeen log) vs → Each (IsRunIn qsbr) vs → Each IsListed vs → AreKept k (reserved n.object) vs → Each (IsBucket n) vs
all_buckets qsbr n log directs k [] low high seen runs listed kept = tt
all_buckets qsbr n log directs k (v ∷ vs) low high seen runs listed kept =
    let among : IsAmong n.first n.buckets (own_in v.chains).chain = subst (IsAmong n.first n.buckets) (sym kept.0.0) (low, omega arith) in (
      (kept.1.0, kept.2.0, kept.3.0, directs_on qsbr log v.seen (own_in v.chains).chain n.directory n.object n.first n.buckets seen.0 runs.0 directs among (listed.0.2 ∙ kept.3.0), among),
      all_buckets qsbr n log directs (k + 1) vs (omega arith) (omega arith) seen.1 runs.1 listed.1 (kept.0.1, kept.1.1, kept.2.1, kept.3.1),
    )

-- a bucket may be left
pub may_leave : (qsbr : Bool) (n : Naming) (v : View) (log : Log) → Begins v.seen log → IsLiveRun qsbr tabled log → IsBucket n v → chain_note (own_in v.chains).chain log ≡ (own_in v.chains).note → IsFree log (own_in v.chains).chain × MayLeave log (own_in v.chains).chain (n.directory + 1)
may_leave qsbr n v log b run bucket note =
    let c : ℕ = (own_in v.chains).chain in let held : chain_note c log ≡ reserved n.object = note ∙ bucket.2 in
    let d = directs_on qsbr v.seen log c n.directory n.object n.first n.buckets b run bucket.3 bucket.4 held in (
      reserved_free qsbr log c n.object run held,
      inr (
        record {
          chain = n.directory;
          object = n.object;
          linked = subst (λ (l : List ObjectId). In l n.object) (sym d.0) (inl refl);
          directory = by_words (record_of log n.object) n.first n.buckets d.1;
          names = subst (λ (w : List ℕ). Names ((record_of log n.object).0, w) c) (sym d.1) bucket.4;
        },
        refl,
      ),
    )

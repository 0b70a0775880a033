-- One directory takes the place of another: that this is allowed, and what it makes of the map.
use Rattle.rcu_hash.proofs.Cited.Words.{Bool, ◌≡◌, ℕ, ◌+◌, ◌%◌, ◌<◌, ◌≤◌, List, [], ◌∷◌, ◌++◌, length, map, slice_get, slice_index_or, refl, sym, ap, ◌∙◌, subst, arith, zero, suc, mod_below, ObjectId, In, Log, Begins, IsLiveRun, record_of, state_of, tabled, run_of, ChainRight, View, AreAsKnown, IsListed, own_in, list_in, map_of, value_in, value_same, value_in_bucket, directed_map, words_by, bucket_of, AreFrom, Each, SawBefore, rights_of, value_at, ◌≢◌, ◌⊎◌, ◌^◌, Some, inl, inr, ⊎_elim, replaced, at_number_other, at_number_same, object_tells, some_is, LiveEvent, Object, Replace, Has, chain_note, AreLeft, IsDirectory, Names, reserved, begins_trans, replaced_note, lent_chains, cell_in, object_in, payload_in, MayPublish, replace_by, HasNote, HasSeen, IsRunIn, IsAlone, AreKept, KeepLists}
use Rattle.rcu_hash.proofs.Directing.{directed_is}
use Rattle.rcu_hash.proofs.Holds.{each_map, known_note, lists_cons, lists_same, note_listed, root_may}
use Rattle.rcu_hash.proofs.Named.{leads_all, own_used, words_later, by_words}

-- what the type of a writer says of each
pub each_all : {X : Type 0} (P : View → Type 0) (xs : List X) (f : X → View) → ((x : X) → P (f x)) → Each P (map f xs)
each_all P [] f so = tt
each_all P (x ∷ xs) f so = (so x, each_all P xs f so)

-- the rights of two groups, one after the other
pub known_both : (log : Log) (xs ys : List ChainRight) → AreAsKnown log (xs ++ ys) → AreAsKnown log xs × AreAsKnown log ys
known_both log [] ys known = (tt, known)
known_both log (x ∷ xs) ys known = let rest = known_both log xs ys known.1 in ((known.0, rest.0), rest.1)

module _ (qsbr : Bool) (log : Log) (run : IsLiveRun qsbr tabled log) where
  -- what a key has in the list of one writer it has in the log, in which the chain is as the writer knows it
  value_known : (v : View) (key : ℕ) → IsListed v → Begins v.seen log → (state_of log).chain (own_in v.chains).chain ≡ list_in v → map_of log (own_in v.chains).chain key ≡ value_in (record_of v.seen) (list_in v) key
  value_known v key listed saw is =
      ap (λ (os : List ObjectId). value_in (record_of log) os key) is
      ∙ value_same (record_of v.seen) (record_of log) (list_in v) key (λ o h. note_listed qsbr v log o listed saw run h)

  -- and in the chain of its bucket, where these are as they are known
  value_there : (first k key : ℕ) (vs : List View) → AreAsKnown log (rights_of vs) → AreFrom first vs → Each IsListed vs → Each (SawBefore log) vs → k < length vs → map_of log (first + k) key ≡ value_at (slice_get vs k) key
  value_there first k key [] known from listed saw low = absurd (omega arith)
  value_there first zero key (v ∷ vs) known from listed saw low = ap (λ (c : ℕ). map_of log c key) (omega (arith, from.0)) ∙ value_known v key listed.0 saw.0 known.0.0
  value_there first (suc k) key (v ∷ vs) known from listed saw low =
      let next : first + suc k ≡ first + 1 + k = omega arith in ap (λ (c : ℕ). map_of log c key) next ∙ value_there (first + 1) k key vs known.1 from.1 listed.1 saw.1 (omega arith)

  -- so the map of a table whose buckets they are is told by them
  pub map_told : (chains d first buckets : ℕ) (o : ObjectId) (key : ℕ) (vs : List View) → (state_of log).chain d ≡ o ∷ [] → (record_of log o).1 ≡ words_by first buckets → 0 < buckets → first + buckets ≤ chains → length vs ≡ buckets → AreAsKnown log (rights_of vs) → AreFrom first vs → Each IsListed vs → Each (SawBefore log) vs
      → directed_map chains d log key ≡ value_in_bucket buckets vs key
  map_told chains d first buckets o key vs alone words some fits many known from listed saw =
      let low = mod_below key buckets some in
      directed_is chains key (record_of log o) (leads_all chains first buckets some fits (record_of log o) words key) log d o alone refl
      ∙ (ap (λ (w : List ℕ). map_of log (bucket_of (slice_index_or w 0 0) (slice_index_or w 1 0) key) key) words
      ∙ value_there first (key % buckets) key vs known from listed saw (omega arith))

-- what replaces the one object of a list is the one object of it
pub replaced_only : (p o new : ObjectId) (os : List ObjectId) → os ≡ o ∷ [] → p ≡ o → replaced p new os ≡ new ∷ []
replaced_only p o new os is same = let tells = object_tells o o in grind arith

-- it is the object at the index 0
pub first_only : (o p : ObjectId) (os : List ObjectId) → os ≡ o ∷ [] → slice_get os 0 ≡ Some p → o ≡ p
first_only o p os is at = some_is o p (sym (ap (λ (l : List ObjectId). slice_get l 0) is) ∙ at)

-- what was seen before a log was seen before what comes after it
pub saw_on : (old log : Log) → Begins old log → (vs : List View) → Each (SawBefore old) vs → Each (SawBefore log) vs
saw_on old log b vs saw = each_map (SawBefore old) (SawBefore log) (λ v s. begins_trans v.seen old log s b) vs saw

-- writers that have their rights again keep their lists, and their notes
lists_back : (qsbr : Bool) (log : Log) (vs ws : List View) → rights_of ws ≡ rights_of vs → Each IsListed vs → Each (SawBefore log) vs → Each (HasSeen log) ws → Each (IsRunIn qsbr) ws → KeepLists vs ws
lists_back qsbr log [] [] same listed saw seen runs = lists_same []
lists_back qsbr log [] (w ∷ ws) same listed saw seen runs = absurd (cc)
lists_back qsbr log (v ∷ vs) [] same listed saw seen runs = absurd (cc)
lists_back qsbr log (v ∷ vs) (w ∷ ws) same listed saw seen runs =
    let own : own_in w.chains ≡ own_in v.chains = ap own_in same in
    lists_cons v w vs ws (ap (λ (x : ChainRight). x.chain) own) (ap (λ (x : ChainRight). x.objects) own)
    (λ o has. note_listed qsbr v w.seen o listed.0 (begins_trans v.seen log w.seen saw.0 seen.0) runs.0 has) (lists_back qsbr log vs ws (ap lent_chains same) listed.1 saw.1 seen.1 runs.1)

notes_back : (note : ℕ) (vs ws : List View) → rights_of ws ≡ rights_of vs → Each (HasNote note) vs → Each (HasNote note) ws
notes_back note vs [] same notes = tt
notes_back note [] (w ∷ ws) same notes = cc
notes_back note (v ∷ vs) (w ∷ ws) same notes = (ap (λ (x : ChainRight). x.note) (ap own_in same) ∙ notes.0, notes_back note vs ws (ap lent_chains same) notes.1)

pub kept_back : (qsbr : Bool) (log : Log) (first note : ℕ) (vs ws : List View) → rights_of ws ≡ rights_of vs → Each IsListed vs → Each (SawBefore log) vs → Each (HasSeen log) ws → Each (IsRunIn qsbr) ws → Each IsAlone ws → AreKept first note vs → AreKept first note ws
kept_back qsbr log first note vs ws same listed saw seen runs alone kept =
    let lists = lists_back qsbr log vs ws same listed saw seen runs in (lists.from first kept.0, alone, lists.keys kept.2, notes_back note vs ws same kept.3)

-- the words of a writer's one object stay
pub words_since : (qsbr : Bool) (v : View) (log : Log) (o : ObjectId) (first many : ℕ) → Begins v.seen log → IsLiveRun qsbr tabled log → IsListed v → list_in v ≡ o ∷ [] → (record_of v.seen o).1 ≡ words_by first many → (record_of log o).1 ≡ words_by first many
words_since qsbr v log o first many b run listed alone words = words_later qsbr v.seen log o b run first many (own_used qsbr v o (run_of qsbr tabled v.seen log b run) listed alone) words

-- the writer of a directory's chain may replace it, to which the rights to the chains of both directories are lent
module _ (qsbr : Bool) (v u : View) (x : ChainRight) (d first many old_first old_many : ℕ) (vs us : List View) (lent : v.chains ≡ x ∷ (rights_of vs ++ rights_of us)) (own : x.chain ≡ d) (unnoted : x.note ≡ 0) (small : d + 1 < 2 ^ 63) (words : payload_in u.object ≡ words_by first many) (all : length us ≡ many) (from : AreFrom first us) (notes : Each (HasNote (reserved (object_in u.object))) us) (apart : (d < first) ⊎ (first + many ≤ d))
    (all_old : length vs ≡ old_many) (from_old : AreFrom old_first vs) (notes_old : Each (HasNote (d + 1)) vs) where
  are_left : (log : Log) (o : ObjectId) → (record_of log o).1 ≡ words_by old_first old_many → AreAsKnown log v.chains → AreLeft log (own_in v.chains).chain o
  are_left log o old_words known e names =
      let within = subst (λ (w : List ℕ). Names ((record_of log o).0, w) e) old_words names in
      let olds : AreAsKnown log (rights_of vs) = (known_both log (rights_of vs) (rights_of us) (subst (AreAsKnown log) lent known).1).0 in
      known_note log (d + 1) vs old_first e olds from_old notes_old within.0 (let a = within.1 in omega arith) ∙ ap (λ (c : ℕ). c + 1) (sym (ap (λ (l : List ChainRight). (own_in l).chain) lent ∙ own))

  pub may_relink : (seen heard : Log) (o : ObjectId) → ((log : Log) → Begins v.seen log → IsLiveRun qsbr tabled log → (record_of log o).1 ≡ words_by old_first old_many) → MayPublish qsbr tabled v seen heard u.seen (replace_by o v u)
  may_relink seen heard o old_words log goes run known may =
      let its = old_words log goes.after_writer.0 run in
      let m = root_may qsbr v u x (rights_of vs ++ rights_of us) d first many us lent own unnoted words all from notes apart small (λ z k. (known_both z (rights_of vs) (rights_of us) k).1) log run known in let n = m.1 (cell_in u.object) in
      (m.0, inr (n.0, by_words (record_of log o) old_first old_many its, n.1, are_left log o its known))

module _ (qsbr : Bool) (d : ℕ) (o new : ObjectId) (cell first many : ℕ) (before log : Log) (wrote : log ≡ Object (Replace d o new cell (words_by first many)) ∷ before) (run : IsLiveRun qsbr tabled log) where
  abbrev event : LiveEvent
  event = Object (Replace d o new cell (words_by first many))

  goes : Begins before log
  goes = (event ∷ [], wrote)

  run_before : IsLiveRun qsbr tabled before
  run_before = run_of qsbr tabled before log goes run

  pub words_after : (record_of log new).1 ≡ words_by first many
  words_after = ap (λ (x : ℕ × List ℕ). x.1) (replaced_note qsbr tabled log d o new cell (words_by first many) run (subst (Has event) (sym wrote) (inl refl)))

  -- where the rights to the chains of both directories are known
  module _ (old_first old_many : ℕ) (x : ChainRight) (vs us : List View) (known : AreAsKnown before (x ∷ (rights_of vs ++ rights_of us))) (own : x.chain ≡ d) (alone : x.objects ≡ o ∷ []) (words : (record_of before o).1 ≡ words_by old_first old_many) (from_old : AreFrom old_first vs) (many_old : length vs ≡ old_many) (from : AreFrom first us) (here : length us ≡ many) (apart : (d < first) ⊎ (first + many ≤ d)) where
    known_old : AreAsKnown before (rights_of vs)
    known_old = (known_both before (rights_of vs) (rights_of us) known.1).0

    known_new : AreAsKnown before (rights_of us)
    known_new = (known_both before (rights_of vs) (rights_of us) known.1).1

    alone_before : (state_of before).chain d ≡ o ∷ []
    alone_before = ap (state_of before).chain (sym own) ∙ (known.0.0 ∙ alone)

    linked : In ((state_of before).chain d) o
    linked = subst (λ (l : List ObjectId). In l o) (sym alone_before) (inl refl)

    directory : IsDirectory (record_of before o)
    directory = by_words (record_of before o) old_first old_many words

    pub alone_after : (state_of log).chain d ≡ new ∷ []
    alone_after = ap (λ (l : Log). (state_of l).chain d) wrote ∙ (at_number_same d (replaced o new ((state_of before).chain d)) (state_of before).chain ∙ replaced_only o o new ((state_of before).chain d) alone_before refl)

    -- those of the new one are as they were
    known_in : (k : ℕ) (ws : List View) → AreFrom k ws → first ≤ k → k + length ws ≤ first + many → AreAsKnown before (rights_of ws) → AreAsKnown log (rights_of ws)
    known_in k [] at low high was = tt
    known_in k (w ∷ ws) at low high was =
        let c : ℕ = (own_in w.chains).chain in let is : c ≡ k = at.0 in
        let other : c ≢ d = λ same. ⊎_elim (λ (a : d < first). omega arith) (λ (b : first + many ≤ d). omega arith) apart in (
          (ap (λ (l : Log). (state_of l).chain c) wrote ∙ (at_number_other d c (replaced o new ((state_of before).chain d)) (state_of before).chain other ∙ was.0.0), ap (chain_note c) wrote ∙ was.0.1),
          known_in (k + 1) ws at.1 (omega arith) (omega arith) was.1,
        )

    known_after : AreAsKnown log (rights_of us)
    known_after = known_in first us from (omega arith) (omega arith) known_new

    module _ (chains : ℕ) (listed_old : Each IsListed vs) (saw_old : Each (SawBefore before) vs) (listed : Each IsListed us) (saw : Each (SawBefore before) us) where
      pub map_before : (key : ℕ) → 0 < old_many → old_first + old_many ≤ chains → directed_map chains d before key ≡ value_in_bucket old_many vs key
      map_before key some fits = map_told qsbr before run_before chains d old_first old_many o key vs alone_before words some fits many_old known_old from_old listed_old saw_old

      pub map_after : (key : ℕ) → 0 < many → first + many ≤ chains → directed_map chains d log key ≡ value_in_bucket many us key
      map_after key some fits = map_told qsbr log run chains d first many new key us alone_after words_after some fits here known_after from listed (saw_on before log goes us saw)

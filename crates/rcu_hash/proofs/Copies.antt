-- What copies of keys tell, on their way and once each one is in its chain.
use Rattle.rcu_hash.proofs.Cited.Words.{◌≡◌, ◌≢◌, ℕ, zero, suc, ◌+◌, ◌%◌, ◌<◌, ◌==◌, Bool, if◌then◌else◌, List, [], ◌∷◌, ◌++◌, length, map, take, set, append_assoc, Option, Some, None, slice_get, slice_index_or, refl, sym, ap, ◌∙◌, subst, inl, inr, ⊎_elim, arith, dite, ℕ_discrete, Me, ObjectId, In, at_object_same, in_left, none_some, key_of, rank_of, Falls, Log, IsLiveRun, record_of, payload_of, words_in, IsUnnoted, tabled, begins_trans, tabled_maps, lent_chains, ChainRight, Look, Sizes, View, IsListed, IsWriter, cell_in, object_in, own_in, payload_in, Went, MayPublish, Publishes, list_in, push_by, AreTaken, index_has, went_both, value_in, value_of, words_of, comes_above, keys_pushed, note_walked, same_own, value_same, AreApart, AreRanked, value_among, Each, HasKeysIn, HasNoNote, IsAlone, IsEmpty, value_at, slice_get_within, nat_tests, common_steps, gets}
use Rattle.rcu_hash.proofs.Holds.{note_listed}

-- the first of two answers, if there is one
abbrev pub or_else : Option ℕ → Option ℕ → Option ℕ
or_else None y = y
or_else (Some x) y = Some x

pub or_none : (x : Option ℕ) → or_else x None ≡ x
or_none x = grind arith

-- entries behind others
pub among_both : (es fs : List (ℕ × ℕ)) (key : ℕ) → value_among (es ++ fs) key ≡ or_else (value_among es key) (value_among fs key)
among_both [] fs key = refl
among_both (e ∷ es) fs key = let rest = among_both es fs key in grind (arith, nat_tests)

pub value_both : (note : ObjectId → ℕ × List ℕ) (os ps : List ObjectId) (key : ℕ) → value_in note (os ++ ps) key ≡ or_else (value_in note os key) (value_in note ps key)
value_both note [] ps key = refl
value_both note (o ∷ os) ps key = let rest = value_both note os ps key in grind (arith, nat_tests)

-- an entry of a key that was not there, behind the others
pub more_apart : (es : List (ℕ × ℕ)) (e : ℕ × ℕ) → AreApart es → value_among es e.0 ≡ None → AreApart (es ++ e ∷ [])
more_apart [] e apart none = (refl, tt)
more_apart (x ∷ xs) e apart none =
    let both = among_both xs (e ∷ []) x.0 in let other : (x.0 ≢ e.0) × (value_among xs e.0 ≡ None) = grind (arith, nat_tests) in
    (grind (arith, nat_tests), more_apart xs e apart.1 other.1)

pub more_ranked : (n : ℕ) (rs : List ℕ) → AreRanked n rs → AreRanked n (rs ++ (n + length rs) ∷ [])
more_ranked n [] ranked = (omega arith, tt)
more_ranked n (r ∷ rs) ranked = (ranked.0, let next = more_ranked (n + 1) rs ranked.1 in subst (λ (k : ℕ). AreRanked (n + 1) (rs ++ k ∷ [])) (omega arith) next)

-- of entries that are apart none before one has its key
pub apart_before : (es fs : List (ℕ × ℕ)) (e : ℕ × ℕ) → AreApart (es ++ e ∷ fs) → value_among es e.0 ≡ None
apart_before [] fs e apart = refl
apart_before (x ∷ xs) fs e apart = let both = among_both xs (e ∷ fs) x.0 in let rest = apart_before xs fs e apart.1 in grind (arith, nat_tests)

-- no object has a key that has no value
pub none_has : (note : ObjectId → ℕ × List ℕ) (os : List ObjectId) (key : ℕ) → value_in note os key ≡ None → (o : ObjectId) → In os o → key_of (note o) ≢ key
none_has note [] key none o h = absurd h
none_has note (x ∷ xs) key none o (inl is) = grind (arith, nat_tests)
none_has note (x ∷ xs) key none o (inr h) = let rest = none_has note xs key in grind (arith, nat_tests)

-- the objects before an index, and the one there
pub next_taken : {X : Type 0} (xs : List X) (index : ℕ) (x : X) → slice_get xs index ≡ Some x → take (index + 1) xs ≡ take index xs ++ x ∷ []
next_taken xs index x at = grind (arith, common_steps, gets)

-- a key is not among those of the objects before the one that has it
pub none_before : (note : ObjectId → ℕ × List ℕ) (os : List ObjectId) (index : ℕ) (o : ObjectId) → Falls note os → slice_get os index ≡ Some o → value_in note (take index os) (key_of (note o)) ≡ None
none_before note [] index o falls at = grind arith
none_before note (x ∷ xs) zero o falls at = refl
none_before note (x ∷ xs) (suc index) o falls at = let rest = none_before note xs index o falls.1 at in let other = (falls.0 o (index_has xs index o at)).0 in grind (arith, nat_tests)

-- what is so of each one
pub each_at : {X : Type 0} (is_so : X → Type 0) (xs : List X) (index : ℕ) (x : X) → Each is_so xs → slice_get xs index ≡ Some x → is_so x
each_at is_so [] index x each at = absurd (none_some x at)
each_at is_so (y ∷ ys) zero x each at = subst is_so ((λ (e : y ≡ x). e) cc) each.0
each_at is_so (y ∷ ys) (suc index) x each at = each_at is_so ys index x each.1 at

pub each_set : {X : Type 0} (is_so : X → Type 0) (xs : List X) (index : ℕ) (x : X) → Each is_so xs → is_so x → Each is_so (set xs index x)
each_set is_so [] zero x each one = tt
each_set is_so [] (suc index) x each one = tt
each_set is_so (y ∷ ys) zero x each one = (one, each.1)
each_set is_so (y ∷ ys) (suc index) x each one = (each.0, each_set is_so ys index x each.1 one)

pub get_set_same : {X : Type 0} (xs : List X) (index : ℕ) (x : X) → index < length xs → slice_get (set xs index x) index ≡ Some x
get_set_same xs index x low = grind (arith, common_steps, gets)

pub get_set_other : {X : Type 0} (xs : List X) (index k : ℕ) (x : X) → k ≢ index → slice_get (set xs index x) k ≡ slice_get xs k
get_set_other xs index k x other = grind (arith, common_steps, gets)

-- Entries that hold the keys, with this number modulo this one, of the objects before an index, behind those of others.
module _ (note : ObjectId → ℕ × List ℕ) (os : List ObjectId) (buckets number : ℕ) (before : List (ℕ × ℕ)) where
  abbrev pub IsCopied : ℕ → List (ℕ × ℕ) → Type 0
  IsCopied index es = ((key : ℕ) → value_among es key ≡ (if key % buckets == number then value_in note (take index os) key else value_among before key)) × AreApart es

  module _ (index : ℕ) (es : List (ℕ × ℕ)) (o : ObjectId) (at : slice_get os index ≡ Some o) (copied : IsCopied index es) where
    abbrev key_at : ℕ
    key_at = key_of (note o)

    abbrev entry : ℕ × ℕ
    entry = (key_at, value_of (note o))

    one_more : (key : ℕ) → value_in note (take (index + 1) os) key ≡ or_else (value_in note (take index os) key) (value_among (entry ∷ []) key)
    one_more key = ap (λ (l : List ObjectId). value_in note l key) (next_taken os index o at) ∙ value_both note (take index os) (o ∷ []) key

    pub copied_skip : key_at % buckets ≢ number → IsCopied (index + 1) es
    copied_skip apart = (λ key. let was = copied.0 key in let more = one_more key in let none = or_none (value_in note (take index os) key) in grind (arith, nat_tests), copied.1)

    pub copied_more : Falls note os → key_at % buckets ≡ number → IsCopied (index + 1) (es ++ entry ∷ [])
    copied_more falls here = (
      λ key. let was = copied.0 key in let more = one_more key in let both = among_both es (entry ∷ []) key in let none = or_none (value_among es key) in grind (arith, nat_tests),
      more_apart es entry copied.1 (let was = copied.0 key_at in let none = none_before note os index o falls at in grind (arith, nat_tests)),
    )

-- One more entry comes into the chain of its key, where `value` tells what a key has in a chain.
module _ {X : Type 0} (value : Option X → ℕ → Option ℕ) (buckets : ℕ) (vs : List X) (done : List (ℕ × ℕ)) where
  pub filled_more : (e : ℕ × ℕ) (v w : X) → slice_get vs (e.0 % buckets) ≡ Some v → value_among done e.0 ≡ None →
      ((key : ℕ) → value (Some w) key ≡ (if e.0 == key then Some e.1 else value (Some v) key)) →
      ((key : ℕ) → value (slice_get vs (key % buckets)) key ≡ value_among done key) →
      (key : ℕ) → value (slice_get (set vs (e.0 % buckets) w) (key % buckets)) key ≡ value_among (done ++ e ∷ []) key
  filled_more e v w at none first filled key =
      let here = get_set_same vs (e.0 % buckets) w (slice_get_within vs (e.0 % buckets) v at) in let both = among_both done (e ∷ []) key in let all = or_none (value_among done key) in
      let new = first key in let old = filled key in dite (ℕ_discrete (key % buckets) (e.0 % buckets))
      (λ same. grind (arith, nat_tests))
      (λ apart. let other = get_set_other vs (e.0 % buckets) (key % buckets) w apart in grind (arith, nat_tests))

-- more words that were found before these
pub found_more : (sizes : Sizes) (found more : List Look) → AreTaken sizes found → AreTaken sizes (found ++ more)
found_more sizes found more t i low = let x = t i low in (x.0, in_left found more _ x.1, x.2)

pub in_behind : {X : Type 0} (xs ys : List X) (x : X) → In ys x → In (xs ++ ys) x
in_behind [] ys x h = h
in_behind (y ∷ xs) ys x h = inr (in_behind xs ys x h)

pub found_before : (sizes : Sizes) (more found : List Look) → AreTaken sizes found → AreTaken sizes (more ++ found)
found_before sizes more found t i low = let x = t i low in (x.0, in_behind more found _ x.1, x.2)

-- the keys of the list that a writer knows differ
pub falls_known : (qsbr : Bool) (v : View) → IsLiveRun qsbr tabled v.seen → IsListed v → Falls (record_of v.seen) (list_in v)
falls_known qsbr v run listed = subst (Falls (record_of v.seen)) listed.0 ((tabled_maps qsbr).falls v.seen (own_in v.chains).chain run)

-- after a walk each key has what it had
pub value_walked : {S : Type 0} (qsbr : Bool) (c : ℕ) (m n : Me S View) → Went qsbr tabled m.0 m n → IsListed m.0 → (own_in m.0.chains).chain ≡ c → (key : ℕ) → value_at (Some n.0) key ≡ value_in (record_of m.0.seen) (list_in m.0) key
value_walked qsbr c m n went listed is key =
    ap (λ (x : ChainRight). value_in (record_of n.0.seen) x.objects key) (same_own qsbr tabled (tabled_maps qsbr) c m n went listed is)
    ∙ value_same (record_of m.0.seen) (record_of n.0.seen) (list_in m.0) key (note_walked qsbr tabled (tabled_maps qsbr) c m n went listed is)

-- what a writer got at an index after a walk
module _ {S : Type 0} (qsbr : Bool) (c : ℕ) (m n p : Me S View) (went : Went qsbr tabled m.0 m n) (listed : IsListed m.0) (is : (own_in m.0.chains).chain ≡ c) (more : Went qsbr tabled n.0 n p) (index : ℕ) (o : ObjectId) (at : slice_get (list_in n.0) index ≡ Some o) where
  pub got_at : slice_get (list_in m.0) index ≡ Some o
  got_at = ap (λ (x : ChainRight). slice_get x.objects index) (sym (same_own qsbr tabled (tabled_maps qsbr) c m n went listed is)) ∙ at

  pub got_words : (words : List ℕ) → words ≡ payload_of p.0.seen o → words ≡ words_in (record_of m.0.seen o).1
  got_words words got = got ∙ ap (λ (x : ℕ × List ℕ). words_in x.1) (note_walked qsbr tabled (tabled_maps qsbr) c m p (went_both qsbr tabled m n p went more) listed is o (index_has (list_in m.0) index o got_at))

-- A writer of a chain that holds copies: those of ranks below this one.
pub record Holds (rank : ℕ) (v : View) : Type 0 where
  pub keys : HasKeysIn v
  pub unnoted : HasNoNote v
  pub alone : IsAlone v
  pub below : (o : ObjectId) → In (list_in v) o → rank_of (record_of v.seen o) < rank

pub hold_nothing : (vs : List View) → Each IsEmpty vs → Each IsAlone vs → Each (Holds 0) vs
hold_nothing [] empty alone = tt
hold_nothing (v ∷ vs) empty alone = (
  record {
    keys = λ o h. absurd (subst (λ (l : List ObjectId). In l o) empty.0.0 h);
    unnoted = empty.0.1;
    alone = alone.0;
    below = λ o h. absurd (subst (λ (l : List ObjectId). In l o) empty.0.0 h);
  },
  hold_nothing vs empty.1 alone.1,
)

pub no_value : (vs : List View) (index key : ℕ) → Each IsEmpty vs → value_at (slice_get vs index) key ≡ None
no_value [] index key empty = refl
no_value (v ∷ vs) zero key empty = ap (λ (l : List ObjectId). value_in (record_of v.seen) l key) empty.0.0
no_value (v ∷ vs) (suc index) key empty = no_value vs index key empty.1

-- the writer of a chain with no note puts in a copy with another key, and a rank above all others
module _ (qsbr : Bool) (v : View) (seen heard owner : Log) (own : IsWriter v) (listed : IsListed v) (rank : ℕ) (holds : Holds rank v) (u : View) (key value : ℕ) (words : payload_in u.object ≡ words_of key value rank) where
  pub may_put : value_at (Some v) key ≡ None → MayPublish qsbr tabled v seen heard owner (push_by v u)
  may_put none = comes_above qsbr tabled (tabled_maps qsbr) IsUnnoted ((tabled_maps qsbr).takes) v seen heard owner own listed (λ log begins run note lent. note ∙ holds.unnoted) holds.keys u key value rank words
      (λ o h. (none_has (record_of v.seen) (list_in v) key none o h, holds.below o h))

  module _ (w : View) (put : Publishes qsbr tabled v seen heard owner (push_by v u) w.seen) (list : list_in w ≡ object_in u.object ∷ list_in v) where
    note_still : (o : ObjectId) → In (list_in v) o → record_of w.seen o ≡ record_of v.seen o
    note_still o h = note_listed qsbr v w.seen o listed (begins_trans v.seen put.before w.seen put.after.after_writer.0 (_ ∷ [], put.wrote)) put.run h

    note_put : record_of w.seen (object_in u.object) ≡ (cell_in u.object, words_of key value rank)
    note_put = ap (λ (l : Log). record_of l (object_in u.object)) put.wrote ∙ (at_object_same (object_in u.object) (cell_in u.object, payload_in u.object) (record_of put.before) ∙ ap (λ (l : List ℕ). (cell_in u.object, l)) words)

    pub put_value : (k : ℕ) → value_at (Some w) k ≡ (if key == k then Some value else value_at (Some v) k)
    put_value k = ap (λ (l : List ObjectId). value_in (record_of w.seen) l k) list
        ∙ (ap (λ (x : ℕ × List ℕ). if key_of x == k then Some (value_of x) else value_in (record_of w.seen) (list_in v) k) note_put
        ∙ ap (λ (x : Option ℕ). if key == k then Some value else x) (value_same (record_of v.seen) (record_of w.seen) (list_in v) k note_still))

    pub put_holds : (own_in w.chains).note ≡ (own_in v.chains).note → lent_chains w.chains ≡ lent_chains v.chains → Holds (rank + 1) w
    put_holds note lent = record {
      keys = keys_pushed qsbr tabled (tabled_maps qsbr) v w listed holds.keys seen heard owner u put (ap (λ (l : List ℕ). slice_index_or l 3 0) words) list;
      unnoted = note ∙ holds.unnoted;
      alone = lent ∙ holds.alone;
      below = λ o h. ⊎_elim
          (λ (is : object_in u.object ≡ o). let here : rank_of (record_of w.seen o) ≡ rank = ap (λ (p : ObjectId). rank_of (record_of w.seen p)) (sym is) ∙ ap rank_of note_put in omega arith)
          (λ (was : In (list_in v) o). let low = holds.below o was in let same : rank_of (record_of w.seen o) ≡ rank_of (record_of v.seen o) = ap rank_of (note_still o was) in omega arith)
          (subst (λ (l : List ObjectId). In l o) list h);
    }

-- the others hold copies of ranks below the next one too
pub holds_next : (rank : ℕ) (v : View) → Holds rank v → Holds (rank + 1) v
holds_next rank v holds = record { keys = holds.keys; unnoted = holds.unnoted; alone = holds.alone; below = λ o h. let low = holds.below o h in omega arith }

-- the first of the entries that are left comes behind those that are done
module _ {X : Type 0} (pair : X → ℕ × ℕ) (rank : X → ℕ) (all done : List (ℕ × ℕ)) (items rest : List X) (x : X) (is : items ≡ x ∷ rest) where
  pub split_next : all ≡ done ++ map pair items → all ≡ (done ++ pair x ∷ []) ++ map pair rest
  split_next split = split ∙ (ap (λ (l : List X). done ++ map pair l) is ∙ sym (append_assoc done (pair x ∷ []) (map pair rest)))

  pub next_new : all ≡ done ++ map pair items → AreApart all → value_among done (pair x).0 ≡ None
  next_new split apart = apart_before done (map pair rest) (pair x) (subst AreApart (split ∙ ap (λ (l : List X). done ++ map pair l) is) apart)

  pub ranked_next : (n : ℕ) → AreRanked n (map rank items) → (rank x ≡ n) × AreRanked (n + 1) (map rank rest)
  ranked_next n ranked = subst (λ (l : List X). AreRanked n (map rank l)) is ranked

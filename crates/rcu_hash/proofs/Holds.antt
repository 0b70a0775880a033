-- Writers of chains that follow one another, by their rights; and the directory for which their chains are reserved.
use Rattle.rcu_hash.proofs.Cited.Words.{drop-append-le, drop_all, take-append-le, take_all, Bool, ◌≡◌, ◌⊎◌, ℕ, ◌+◌, ◌^◌, ◌<◌, ◌≤◌, List, [], ◌∷◌, ◌++◌, length, map, take, drop, refl, sym, ap, ◌∙◌, subst, append_assoc, inr, ⊎_elim, arith, suc, dite, ℕ_discrete, ObjectId, In, Log, IsLiveRun, chain_note, state_of, IsDirectory, IsFree, MayDirect, Names, reserved, tabled, begins_trans, unnoted_free, ChainRight, View, AreAsKnown, cell_in, object_in, own_in, payload_in, MayPublish, push_by, words_by, AreFrom, Each, HasKeysIn, HasNote, HasNothing, lengths_of, rights_of, length-map, append-nil, map-append, Begins, lent_chains, SawBefore, length_of, chain_used, note_stays, run_of, record_of, HasKey, value_at, KeepLists, value_same, value_in, IsListed, list_in, zero, slice_get, common_steps}

-- what was looked at, and then more
pub looks_both : {A : Type 0} (old middle new one two : List A) → middle ≡ one ++ old → new ≡ two ++ middle → new ≡ (two ++ one) ++ old
looks_both {A} old middle new one two a b = b ∙ (ap (λ (l : List A). two ++ l) a ∙ sym (append_assoc two one old))

-- what is so of each is so of each in other words
pub each_map : {X : Type 0} (P Q : X → Type 0) → ((x : X) → P x → Q x) → (xs : List X) → Each P xs → Each Q xs
each_map P Q f [] all = tt
each_map P Q f (x ∷ xs) all = (f x all.0, each_map P Q f xs all.1)

pub each_last : {X : Type 0} (P : X → Type 0) (xs : List X) (x : X) → Each P xs → P x → Each P (xs ++ x ∷ [])
each_last P [] x all so = (so, tt)
each_last P (y ∷ ys) x all so = (all.0, each_last P ys x all.1 so)

pub from_last : (first : ℕ) (vs : List View) (v : View) → AreFrom first vs → (own_in v.chains).chain ≡ first + length vs → AreFrom first (vs ++ v ∷ [])
from_last first [] v from is = (is ∙ omega arith, tt)
from_last first (w ∷ ws) v from is = (from.0, from_last (first + 1) ws v from.1 (is ∙ omega arith))

-- how many there are, by their rights
pub rights_many : (vs : List View) → length (rights_of vs) ≡ length vs
rights_many [] = refl
rights_many (v ∷ vs) = ap suc (rights_many vs)

pub lengths_many : (xs : List ChainRight) → length (lengths_of xs) ≡ length xs
lengths_many [] = refl
lengths_many (x ∷ xs) = ap suc (lengths_many xs)

-- of rights that were lent with others before them all, those of these lents are the first
abbrev pub AreTheirs : {A : Type 0} (lents : List A) (of : A → ℕ × ℕ) (rights others all : List ChainRight) → Type 0
AreTheirs lents of rights others all = (map of lents ≡ lengths_of (take (length lents) all)) × (take (length lents) all ≡ rights) × (drop (length lents) all ≡ others)

pub all_theirs : {A : Type 0} (lents : List A) (of : A → ℕ × ℕ) (rights others all : List ChainRight) → all ≡ rights ++ others → map of lents ≡ lengths_of rights → AreTheirs lents of rights others all
all_theirs lents of rights others all are is =
    let n = length lents in let many : n ≡ length rights = sym (length-map lents of) ∙ (ap length is ∙ lengths_many rights) in
    let first : take n all ≡ rights = ap (take n) are ∙ (take-append-le n rights others (omega arith) ∙ take_all n rights (omega arith)) in
    (is ∙ ap lengths_of (sym first), first, ap (drop n) are ∙ (drop-append-le n rights others (omega arith) ∙ ap (λ zs. zs ++ others) (drop_all n rights (omega arith))))

-- writers with the same rights follow one another alike
pub from_rights : (first : ℕ) (vs ws : List View) → rights_of ws ≡ rights_of vs → AreFrom first vs → AreFrom first ws
from_rights first vs [] same from = tt
from_rights first [] (w ∷ ws) same from = cc
from_rights first (v ∷ vs) (w ∷ ws) same from = (ap (λ (x : ChainRight). x.chain) (ap own_in same) ∙ from.0, from_rights (first + 1) vs ws (ap lent_chains same) from.1)

-- in a log in which chains are as their writers know them
module _ (log : Log) where
  pub known_note : (note : ℕ) (vs : List View) (first c : ℕ) → AreAsKnown log (rights_of vs) → AreFrom first vs → Each (HasNote note) vs → first ≤ c → c < first + length vs → chain_note c log ≡ note
  known_note note [] first c known from notes low high = absurd (omega arith)
  known_note note (v ∷ vs) first c known from notes low high = dite (ℕ_discrete c first)
      (λ is. ap (λ (n : ℕ). chain_note n log) (is ∙ sym from.0) ∙ (known.0.1 ∙ notes.0))
      (λ other. known_note note vs (first + 1) c known.1 from.1 notes.1 (omega arith) (omega arith))

  pub known_empty : (vs : List View) (first c : ℕ) → AreAsKnown log (rights_of vs) → AreFrom first vs → Each HasNothing vs → first ≤ c → c < first + length vs → (state_of log).chain c ≡ []
  known_empty [] first c known from empty low high = absurd (omega arith)
  known_empty (v ∷ vs) first c known from empty low high = dite (ℕ_discrete c first)
      (λ is. ap (state_of log).chain (is ∙ sym from.0) ∙ (known.0.0 ∙ empty.0))
      (λ other. known_empty vs (first + 1) c known.1 from.1 empty.1 (omega arith) (omega arith))

-- an empty chain of keys has keys alone
pub nothing_has_keys : (v : View) → HasNothing v → HasKeysIn v
nothing_has_keys v none o h = absurd (subst (λ (l : List ObjectId). In l o) none h)

-- the objects of a chain have the notes that its writer knows
pub note_listed : (qsbr : Bool) (v : View) (log : Log) (o : ObjectId) → IsListed v → Begins v.seen log → IsLiveRun qsbr tabled log → In (list_in v) o → record_of log o ≡ record_of v.seen o
note_listed qsbr v log o listed b run has = note_stays qsbr tabled v.seen log o b run
    (chain_used qsbr tabled v.seen (own_in v.chains).chain o (run_of qsbr tabled v.seen log b run) (subst (λ (l : List ObjectId). In l o) (sym listed.0) has))

-- writers keep their lists, where nothing was done with them, where one thing was done after another, where one more does
pub lists_same : (vs : List View) → KeepLists vs vs
lists_same vs = record { from = λ first from. from; keys = λ keys. keys; nothing = λ none. none; values = λ k key. refl }

pub lists_both : (us vs ws : List View) → KeepLists us vs → KeepLists vs ws → KeepLists us ws
lists_both us vs ws a b = record {
  from = λ first from. b.from first (a.from first from);
  keys = λ keys. b.keys (a.keys keys);
  nothing = λ none. b.nothing (a.nothing none);
  values = λ k key. b.values k key ∙ a.values k key;
}

pub lists_cons : (v w : View) (vs ws : List View) → (own_in w.chains).chain ≡ (own_in v.chains).chain → list_in w ≡ list_in v → ((o : ObjectId) → In (list_in v) o → record_of w.seen o ≡ record_of v.seen o) → KeepLists vs ws → KeepLists (v ∷ vs) (w ∷ ws)
lists_cons v w vs ws chain list notes rest = record {
  from = λ first from. (chain ∙ from.0, rest.from (first + 1) from.1);
  keys = λ keys. (λ o has. let was = subst (λ (l : List ObjectId). In l o) list has in subst HasKey (sym (notes o was)) (keys.0 o was), rest.keys keys.1);
  nothing = λ none. (list ∙ none.0, rest.nothing none.1);
  values = at;
}
  where
    at : (k key : ℕ) → value_at (slice_get (w ∷ ws) k) key ≡ value_at (slice_get (v ∷ vs) k) key
    at zero key = ap (λ (os : List ObjectId). value_in (record_of w.seen) os key) list ∙ value_same (record_of v.seen) (record_of w.seen) (list_in v) key notes
    at (suc k) key = rest.values k key

pub lists_step : (done rest : List View) (v w : View) → (own_in w.chains).chain ≡ (own_in v.chains).chain → list_in w ≡ list_in v → ((o : ObjectId) → In (list_in v) o → record_of w.seen o ≡ record_of v.seen o) → KeepLists (done ++ v ∷ rest) (done ++ w ∷ rest)
lists_step [] rest v w chain list notes = lists_cons v w rest rest chain list notes (lists_same rest)
lists_step (d ∷ done) rest v w chain list notes = lists_cons d d (done ++ v ∷ rest) (done ++ w ∷ rest) refl refl (λ o has. refl) (lists_step done rest v w chain list notes)

-- of a list that begins with one, what is so of each
pub each_head : {X : Type 0} (P : View → Type 0) (f : X → View) (xs ys : List X) (x : X) → xs ≡ x ∷ ys → Each P (map f xs) → P (f x) × Each P (map f ys)
each_head P f xs ys x is all = subst (λ zs. Each P (map f zs)) is all

-- what the writer of a directory's chain may do, to which other rights are lent, those of the named chains among them
module _ (qsbr : Bool) (v u : View) (x : ChainRight) (rights : List ChainRight) (d first many : ℕ) (vs : List View) (lent : v.chains ≡ x ∷ rights) (own : x.chain ≡ d) (unnoted : x.note ≡ 0) (words : payload_in u.object ≡ words_by first many) (all : length vs ≡ many) (from : AreFrom first vs) (notes : Each (HasNote (reserved (object_in u.object))) vs) (apart : (d < first) ⊎ (first + many ≤ d)) (low : d + 1 < 2 ^ 63)
    (among : (log : Log) → AreAsKnown log rights → AreAsKnown log (rights_of vs)) where
  root_is : (own_in v.chains).chain ≡ d
  root_is = ap (λ (l : List ChainRight). (own_in l).chain) lent ∙ own

  pub root_may : (log : Log) → IsLiveRun qsbr tabled log → AreAsKnown log v.chains → IsFree log (own_in v.chains).chain × ((cell : ℕ) → IsDirectory (cell, payload_in u.object) × MayDirect log (own_in v.chains).chain (object_in u.object) (cell, payload_in u.object))
  root_may log run known = (
    subst (IsFree log) (sym root_is) (unnoted_free qsbr log d run (ap (λ (n : ℕ). chain_note n log) (sym own) ∙ ((subst (AreAsKnown log) lent known).0.1 ∙ unnoted))),
    λ cell. (
      subst (λ (w : List ℕ). IsDirectory (cell, w)) (sym words) (refl, refl),
      (
        subst (λ (n : ℕ). n + 1 < 2 ^ 63) (sym root_is) low,
        λ e names.
            let within = subst (λ (w : List ℕ). Names (cell, w) e) words names in (
              (λ is. let same : e ≡ d = is ∙ root_is in ⊎_elim (λ (under : d < first). let a = within.0 in omega arith) (λ (over : first + many ≤ d). let a = within.1 in omega arith) apart),
              known_note log (reserved (object_in u.object)) vs first e (among log (subst (AreAsKnown log) lent known).1) from notes within.0 (let a = within.1 in omega arith),
            ),
      ),
    ),
  )

  -- it comes into an empty chain
  pub may_direct : (seen heard : Log) → x.objects ≡ [] → MayPublish qsbr tabled v seen heard u.seen (push_by v u)
  may_direct seen heard empty log goes run known may = let m = root_may log run known in let n = m.1 (cell_in u.object) in
      (m.0, inr (n.0, ap (λ (c : ℕ). (state_of log).chain c) (root_is ∙ sym own) ∙ ((subst (AreAsKnown log) lent known).0.0 ∙ empty), n.1))

-- where a later log begins with what each of those left has seen, it does with what each of all has
abbrev pub Reaches : Log → List View → List View → Type 0
Reaches seen left all = (log : Log) → Begins seen log → Each (SawBefore log) left → Each (SawBefore log) all

pub rights_pushed : {A : Type 0} (xs : List A) (x : A) (view : A → View) → rights_of (map view (xs ++ x ∷ [])) ≡ rights_of (map view xs) ++ own_in (view x).chains ∷ []
rights_pushed [] x view = refl
rights_pushed (y ∷ ys) x view = ap (λ (l : List ChainRight). own_in (view y).chains ∷ l) (rights_pushed ys x view)

pub paired : (p q : ℕ × ℕ) → p.0 ≡ q.0 → p.1 ≡ q.1 → p ≡ q
paired p q first second = let pair : ℕ → ℕ → ℕ × ℕ = λ m n. (m, n) in ap (λ (m : ℕ). pair m p.1) first ∙ ap (λ (n : ℕ). pair q.0 n) second

split_rights : (rights : List ChainRight) (one : ℕ × ℕ) (more : List (ℕ × ℕ)) (n : ℕ) → one ∷ more ≡ lengths_of (take (suc n) rights) →
    (rights ≡ own_in rights ∷ lent_chains rights) × (one ≡ length_of (own_in rights)) × (more ≡ lengths_of (take n (lent_chains rights)))
split_rights [] one more n same = grind arith
split_rights (x ∷ xs) one more n same = (refl, cc, cc)

module _ {A : Type 0} where
  -- nothing is left
  pub all_done : {X : Type 0} (left : List A) (done all : List X) (of : List A → List X) → left ≡ [] → of [] ≡ [] → done ++ of left ≡ all → done ≡ all
  all_done {X} left done all of none empty joined = sym (append-nil done) ∙ ap (λ (l : List X). done ++ l) (sym (ap of none ∙ empty)) ∙ joined

  -- one more has lent its right
  pub lent_one : {B : Type 0} (left rest : List A) (x : A) (lents : List B) (lent : B) (all : List (ℕ × ℕ)) (view : A → View) (of : B → ℕ × ℕ) →
      left ≡ x ∷ rest → of lent ≡ length_of (own_in (view x).chains) → map of lents ++ lengths_of (rights_of (map view left)) ≡ all →
      map of (lents ++ lent ∷ []) ++ lengths_of (rights_of (map view rest)) ≡ all
  lent_one left rest x lents lent all view of first is joined = grind (arith, common_steps, map-append)

  pub right_lent : (left rest : List A) (x : A) (before after all : List ChainRight) (view : A → View) →
      left ≡ x ∷ rest → after ≡ before ++ own_in (view x).chains ∷ [] → before ++ rights_of (map view left) ≡ all → after ++ rights_of (map view rest) ≡ all
  right_lent left rest x before after all view first more joined = grind (arith, common_steps)

  pub reaches_on : (left rest all : List A) (x : A) (before after : Log) (view : A → View) →
      left ≡ x ∷ rest → Begins before after → Begins (view x).seen after → Reaches before (map view left) (map view all) → Reaches after (map view rest) (map view all)
  reaches_on left rest all x before after view first later saw reaches =
      λ log went each. reaches log (begins_trans before after log later went)
      (subst (λ (l : List A). Each (SawBefore log) (map view l)) (sym first) (begins_trans (view x).seen after log saw went, each))

  pub all_reached : (left all : List A) (seen : Log) (view : A → View) → left ≡ [] → Reaches seen (map view left) (map view all) → Each (SawBefore seen) (map view all)
  all_reached left all seen view none reaches = reaches seen ([], refl) (subst (λ (l : List A). Each (SawBefore seen) (map view l)) (sym none) tt)

  -- the first that was lent is the next that is taken back
  pub first_lent : (left rest : List A) (x : A) (rights : List ChainRight) (of : A → ℕ × ℕ) → left ≡ x ∷ rest → map of left ≡ lengths_of (take (length left) rights) →
      (rights ≡ own_in rights ∷ lent_chains rights) × (of x ≡ length_of (own_in rights)) × (map of rest ≡ lengths_of (take (length rest) (lent_chains rights)))
  first_lent left rest x rights of first same = split_rights rights (of x) (map of rest) (length rest) (grind arith)

  pub dropped_one : (left rest : List A) (x : A) (rights : List ChainRight) → left ≡ x ∷ rest → rights ≡ own_in rights ∷ lent_chains rights →
      drop (length left) rights ≡ drop (length rest) (lent_chains rights)
  dropped_one left rest x rights first split = grind arith

  pub right_back : {B : Type 0} (left rest : List A) (x : A) (done : List B) (chain : B) (rights all : List ChainRight) (view : B → View) →
      left ≡ x ∷ rest → rights ≡ own_in rights ∷ lent_chains rights → (view chain).chains ≡ own_in rights ∷ [] → rights_of (map view done) ++ take (length left) rights ≡ all →
      rights_of (map view (done ++ chain ∷ [])) ++ take (length rest) (lent_chains rights) ≡ all
  right_back left rest x done chain rights all view first split its joined = let pushed = rights_pushed done chain view in grind (arith, common_steps)

-- Where a writer stands in a walk over its chain.
use Rattle.live_write.proofs.Cited.{Bool, ◌≡◌, ◌≢◌, ℕ, ◌+◌, ◌-◌, ◌<◌, ◌≤◌, zero, suc, List, [], ◌∷◌, ◌++◌, length, Option, Some, None, IfSome, slice_get, sym, refl, ap, ◌∙◌, subst, inl, inr, arith, length-append, append_assoc, append-nil, Me, ObjectId, In, IsPlace, follows, first_of, next_of, same_object, without_object, replaced, Once, Tells, object_tells, follows_has, some_is, none_some, LiveEvent, Log, record_of, objects_of, begins_trans, kept_log, View, ChainRight, ref, lent_chains, own_in, IsWriter, IsListed, KnowsChains, Went, IsBefore, IsThere, IsNext, MayRead, note_same}

in_middle : (front : List ObjectId) (o : ObjectId) (rest : List ObjectId) → In (front ++ o ∷ rest) o
in_middle [] o rest = inl refl
in_middle (p ∷ ps) o rest = inr (in_middle ps o rest)

in_behind : (front rest : List ObjectId) (o : ObjectId) → In rest o → In (front ++ rest) o
in_behind [] rest o h = h
in_behind (p ∷ ps) rest o h = inr (in_behind ps rest o h)

-- what follows an object is the first of what stands behind it
next_at : (front : List ObjectId) (o : ObjectId) (rest : List ObjectId) → Once (front ++ o ∷ rest) → next_of (front ++ o ∷ rest) o ≡ first_of rest
next_at [] o rest once = by (object_tells o o)
  where
    by : Tells (same_object o o) o o → next_of (o ∷ rest) o ≡ first_of rest
    by (inl y) = rw y.0 refl
    by (inr n) = absurd (n.1 refl)
next_at (p ∷ ps) o rest once = by (object_tells p o) (next_at ps o rest once.1)
  where
    by : Tells (same_object p o) p o → next_of (ps ++ o ∷ rest) o ≡ first_of rest → next_of (p ∷ ps ++ o ∷ rest) o ≡ first_of rest
    by (inl y) next = absurd (once.0 (subst (In (ps ++ o ∷ rest)) (sym y.1) (in_middle ps o rest)))
    by (inr n) next = rw n.0 next

-- an object stands in a list exactly where it has an index there
pub index_has : (xs : List ObjectId) (k : ℕ) (o : ObjectId) → slice_get xs k ≡ Some o → In xs o
index_has [] k o at = absurd (none_some o at)
index_has (x ∷ xs) zero o at = inl (some_is x o at)
index_has (x ∷ xs) (suc k) o at = inr (index_has xs k o at)

pub has_index : (xs : List ObjectId) (o : ObjectId) → In xs o → (k : ℕ) × (k < length xs) × (slice_get xs k ≡ Some o)
has_index [] o h = absurd h
has_index (x ∷ xs) o (inl e) = (0, omega arith, ap Some e)
has_index (x ∷ xs) o (inr h) = let r = has_index xs o h in (suc r.0, omega arith, r.2)

get_middle : (front : List ObjectId) (o : ObjectId) (rest : List ObjectId) → slice_get (front ++ o ∷ rest) (length front) ≡ Some o
get_middle [] o rest = refl
get_middle (p ∷ ps) o rest = get_middle ps o rest

-- a list without one of its objects is one shorter
without_here : (x : ObjectId) (xs : List ObjectId) (o : ObjectId) → x ≡ o → without_object o (x ∷ xs) ≡ without_object o xs
without_here x xs o e = by (object_tells x o)
  where
    by : Tells (same_object x o) x o → without_object o (x ∷ xs) ≡ without_object o xs
    by (inl y) = rw y.0 refl
    by (inr n) = absurd (n.1 e)

without_past : (x : ObjectId) (xs : List ObjectId) (o : ObjectId) → x ≢ o → without_object o (x ∷ xs) ≡ x ∷ without_object o xs
without_past x xs o apart = by (object_tells x o)
  where
    by : Tells (same_object x o) x o → without_object o (x ∷ xs) ≡ x ∷ without_object o xs
    by (inl y) = absurd (apart y.1)
    by (inr n) = rw n.0 refl

without_absent : (xs : List ObjectId) (o : ObjectId) → ¬ In xs o → without_object o xs ≡ xs
without_absent [] o none = refl
without_absent (x ∷ xs) o none = without_past x xs o (λ e. none (inl e)) ∙ ap (λ (l : List ObjectId). x ∷ l) (without_absent xs o (λ h. none (inr h)))

pub one_fewer : (xs : List ObjectId) (o : ObjectId) → Once xs → In xs o → length (without_object o xs) + 1 ≡ length xs
one_fewer [] o once h = absurd h
one_fewer (x ∷ xs) o once (inl e) = let same : length (without_object o (x ∷ xs)) ≡ length xs = ap length (without_here x xs o e ∙ without_absent xs o (λ h. once.0 (subst (In xs) (sym e) h))) in omega arith
one_fewer (x ∷ xs) o once (inr h) = let same : length (without_object o (x ∷ xs)) ≡ suc (length (without_object o xs)) = ap length (without_past x xs o (λ e. once.0 (subst (In xs) (sym e) h))) in let rest = one_fewer xs o once.1 h in omega arith

pub as_many : (old new : ObjectId) (xs : List ObjectId) → length (replaced old new xs) ≡ length xs
as_many old new [] = refl
as_many old new (x ∷ xs) = ap suc (as_many old new xs)

-- each object of a writer's chain stands there once
pub once_in : {S : Type 0} (qsbr : Bool) (allows : Log → LiveEvent → Type 0) (m n : Me S View) → Went qsbr allows m.0 m n → IsListed n.0 → Once (own_in m.0.chains).objects
once_in qsbr allows m n went listed = subst (λ (l : List ChainRight). Once (own_in l).objects) (ap (λ (u : View). u.chains) went.1) (subst Once listed.0 ((kept_log qsbr allows n.0.seen went.2.2).linking.once (own_in n.0.chains).chain))

-- one step after another
pub went_both : {S : Type 0} (qsbr : Bool) (allows : Log → LiveEvent → Type 0) (m n p : Me S View) → Went qsbr allows m.0 m n → Went qsbr allows n.0 n p → Went qsbr allows m.0 m p
went_both qsbr allows m n p a b = (
  b.0 ∙ a.0,
  b.1 ∙ ap (λ (u : View). let r : View = record u { seen = p.0.seen } in r) a.1,
  (begins_trans m.0.seen n.0.seen p.0.seen a.2.0 b.2.0, begins_trans m.0.heard n.0.seen p.0.seen a.2.1 b.2.0, b.2.2),
)

-- the writer stands past this many objects of its chain, before the word that it loaded last
pub record Stands {S : Type 0} (qsbr : Bool) (allows : Log → LiveEvent → Type 0) (m0 m : Me S View) (n : ℕ) (before : Option ℕ) (word : ℕ) : Type 0 where
  pub went : Went qsbr allows m0.0 m0 m
  pub listed : IsListed m.0
  pub low : (o : ObjectId) → In (own_in m0.0.chains).objects o → (record_of m.0.seen o).0 < m0.0.sizes.pool
  pub front : List ObjectId
  pub rest : List ObjectId
  pub list : (own_in m0.0.chains).objects ≡ front ++ rest
  pub many : length front ≡ n
  pub place : Option ObjectId
  pub placed : IsPlace (own_in m0.0.chains).objects place × (follows (own_in m0.0.chains).objects place ≡ first_of rest)
  pub there : IsThere m.0 before place
  pub leads : word ≡ ref (objects_of m.0.seen) (first_of rest)

module _ {S : Type 0} (qsbr : Bool) (allows : Log → LiveEvent → Type 0) (m0 : Me S View) (own : IsWriter m0.0) where
  abbrev xs : List ObjectId
  xs = (own_in m0.0.chains).objects

  -- before the first object
  pub stands_first : (m : Me S View) (word : ℕ) → Went qsbr allows m0.0 m0 m → KnowsChains m0.0 m.0 → word ≡ (own_in m0.0.chains).head → Stands qsbr allows m0 m 0 None word
  stands_first m word went knows is = let k = knows.1 own in record {
    went = went;
    listed = k.0;
    low = k.1;
    front = [];
    rest = xs;
    list = refl;
    many = refl;
    place = None;
    placed = (tt, refl);
    there = tt;
    leads = is ∙ (ap (λ (u : View). (own_in u.chains).head) (sym went.1) ∙ (k.0.1 ∙ ap (λ (u : View). ref (objects_of m.0.seen) (first_of (own_in u.chains).objects)) went.1));
  }

  module _ (m : Me S View) (n : ℕ) (before : Option ℕ) (word : ℕ) (s : Stands qsbr allows m0 m n before word) where
    -- the writer's chain is still its own, with the same objects
    pub same_own : own_in m.0.chains ≡ own_in m0.0.chains
    same_own = ap (λ (u : View). own_in u.chains) s.went.1

    pub still_writer : IsWriter m.0
    still_writer = subst (λ (l : List ChainRight). l ≡ own_in l ∷ lent_chains l) (ap (λ (u : View). u.chains) (sym s.went.1)) own

    once : Once xs
    once = subst Once (ap (λ (c : ChainRight). c.objects) same_own) (subst Once s.listed.0 ((kept_log qsbr allows m.0.seen s.went.2.2).linking.once (own_in m.0.chains).chain))

    -- at the end no object is left
    pub at_end : word ≡ 0 → n ≡ length xs
    at_end zero_word = by s.rest s.list s.leads
      where
        by : (rest : List ObjectId) → xs ≡ s.front ++ rest → word ≡ ref (objects_of m.0.seen) (first_of rest) → n ≡ length xs
        by [] list leads = sym s.many ∙ sym (ap length (list ∙ append-nil s.front))
        by (o ∷ os) list leads = absurd (omega (arith, leads, zero_word))

    pub at_bound : length xs ≤ n → n ≡ length xs
    at_bound few = let all : length xs ≡ length s.front + length s.rest = ap length s.list ∙ length-append s.front s.rest in let many = s.many in omega arith

    -- else there is one, whose record the word tells
    pub record Here : Type 0 where
      pub object : ObjectId
      pub others : List ObjectId
      pub is : s.rest ≡ object ∷ others
      pub has : In xs object
      pub cell : (record_of m.0.seen object).0 ≡ word - 1
      pub low : word - 1 < m0.0.sizes.pool
      pub at : slice_get xs n ≡ Some object

    here_by : (rest : List ObjectId) → s.rest ≡ rest → rest ≢ [] → Here
    here_by [] is some = absurd (some refl)
    here_by (o ∷ os) is some =
        let list : xs ≡ s.front ++ o ∷ os = s.list ∙ ap (λ (l : List ObjectId). s.front ++ l) is in
        let has : In xs o = subst (λ (l : List ObjectId). In l o) (sym list) (in_middle s.front o os) in
        let leads : word ≡ (record_of m.0.seen o).0 + 1 = s.leads ∙ ap (λ (l : List ObjectId). ref (objects_of m.0.seen) (first_of l)) is in
        let low = s.low o has in record {
          object = o;
          others = os;
          is = is;
          has = has;
          cell = omega arith;
          low = omega arith;
          at = ap (λ (l : List ObjectId). slice_get l n) list ∙ (ap (slice_get (s.front ++ o ∷ os)) (sym s.many) ∙ get_middle s.front o os);
        }

    pub here_word : word ≢ 0 → Here
    here_word some = here_by s.rest refl (λ none. some (s.leads ∙ ap (λ (l : List ObjectId). ref (objects_of m.0.seen) (first_of l)) none))

    pub here_index : n < length xs → Here
    here_index more = here_by s.rest refl (λ none. let all : length xs ≡ length s.front + 0 = ap length s.list ∙ (length-append s.front s.rest ∙ ap (λ (l : List ObjectId). length s.front + length l) none) in let many = s.many in absurd (omega arith))

    pub may_read : (h : Here) → MayRead qsbr m.0 h.object (word - 1)
    may_read h = (h.cell, inr (still_writer, s.listed, subst (λ (c : ChainRight). In c.objects h.object) (sym same_own) h.has))

    -- and the writer goes on past it
    pub goes_on : (h : Here) (p : Me S View) (next : ℕ) → Went qsbr allows m.0 m p → KnowsChains m.0 p.0 → (found : Option ObjectId) × IsNext qsbr m.0 p.0 h.object next found → Stands qsbr allows m0 p (n + 1) (Some (word - 1)) next
    goes_on h p next went knows told =
        let k = knows.1 still_writer in
        let list : xs ≡ s.front ++ h.object ∷ h.others = s.list ∙ ap (λ (l : List ObjectId). s.front ++ l) h.is in
        let follows_is : next_of xs h.object ≡ first_of h.others = ap (λ (l : List ObjectId). next_of l h.object) list ∙ next_at s.front h.object h.others (subst Once list once) in record {
          went = went_both qsbr allows m0 m p s.went went;
          listed = k.0;
          low = λ o has. subst (λ (z : ℕ). (record_of p.0.seen o).0 < z) (ap (λ (u : View). u.sizes.pool) s.went.1) (k.1 o (subst (λ (c : ChainRight). In c.objects o) (sym same_own) has));
          front = s.front ++ h.object ∷ [];
          rest = h.others;
          list = list ∙ sym (append_assoc s.front (h.object ∷ []) h.others);
          many = length-append s.front (h.object ∷ []) ∙ ap (λ (z : ℕ). z + 1) s.many;
          place = Some h.object;
          placed = (h.has, follows_is);
          there = ap (λ (z : ℕ × List ℕ). z.0) (note_same qsbr allows m.0 m p went s.listed h.object (subst (λ (c : ChainRight). In c.objects h.object) (sym same_own) h.has)) ∙ h.cell;
          leads = told.1.1 ∙ ap (ref (objects_of p.0.seen)) (told.1.3 still_writer (subst (λ (c : ChainRight). In c.objects h.object) (sym same_own) h.has) ∙ (ap (λ (c : ChainRight). next_of c.objects h.object) same_own ∙ follows_is));
        }

    -- or loads a word, and stands where it stood
    module _ (p : Me S View) (went : Went qsbr allows m.0 m p) where
      pub note_here : (o : ObjectId) → In xs o → record_of p.0.seen o ≡ record_of m.0.seen o
      note_here o has = note_same qsbr allows m.0 m p went s.listed o (subst (λ (c : ChainRight). In c.objects o) (sym same_own) has)

      there_here : (b : Option ℕ) (q : Option ObjectId) → IsPlace xs q → IsThere m.0 b q → IsThere p.0 b q
      there_here None None place there = there
      there_here None (Some q) place there = absurd there
      there_here (Some j) None place there = absurd there
      there_here (Some j) (Some q) place there = ap (λ (z : ℕ × List ℕ). z.0) (note_here q place) ∙ there

      leads_here : (os : List ObjectId) → ((o : ObjectId) → In os o → In xs o) → ref (objects_of m.0.seen) (first_of os) ≡ ref (objects_of p.0.seen) (first_of os)
      leads_here [] all = refl
      leads_here (o ∷ os) all = ap (λ (z : ℕ × List ℕ). z.0 + 1) (sym (note_here o (all o (inl refl))))

      pub stands_on : KnowsChains m.0 p.0 → Stands qsbr allows m0 p n before word
      stands_on knows = let k = knows.1 still_writer in record {
        went = went_both qsbr allows m0 m p s.went went;
        listed = k.0;
        low = λ o has. subst (λ (z : ℕ). (record_of p.0.seen o).0 < z) (ap (λ (u : View). u.sizes.pool) s.went.1) (k.1 o (subst (λ (c : ChainRight). In c.objects o) (sym same_own) has));
        front = s.front;
        rest = s.rest;
        list = s.list;
        many = s.many;
        place = s.place;
        placed = s.placed;
        there = there_here before s.place s.placed.0 s.there;
        leads = s.leads ∙ leads_here s.rest (λ o has. subst (λ (l : List ObjectId). In l o) (sym s.list) (in_behind s.front s.rest o has));
      }

    -- the place before it
    pub is_before : (h : Here) → IsBefore m.0 s.place h.object
    is_before h = subst (λ (c : ChainRight). IsPlace c.objects s.place × (follows c.objects s.place ≡ Some h.object)) (sym same_own) (s.placed.0, s.placed.1 ∙ ap first_of h.is)

    pub low_before : IfSome before (λ j. j < m0.0.sizes.pool)
    low_before = by before s.place s.placed.0 s.there
      where
        by : (b : Option ℕ) (p : Option ObjectId) → IsPlace xs p → IsThere m.0 b p → IfSome b (λ j. j < m0.0.sizes.pool)
        by None p at there = tt
        by (Some j) None at there = absurd there
        by (Some j) (Some q) at there = subst (λ (z : ℕ). z < m0.0.sizes.pool) there (s.low q at)

-- the writer reads an object of its chain
pub record Reads {S : Type 0} (qsbr : Bool) (allows : Log → LiveEvent → Type 0) (m0 m : Me S View) (o : ObjectId) (cell : ℕ) : Type 0 where
  pub went : Went qsbr allows m0.0 m0 m
  pub listed : IsListed m.0
  pub own : IsWriter m.0
  pub has : In (own_in m.0.chains).objects o
  pub lies : (record_of m.0.seen o).0 ≡ cell

module _ {S : Type 0} (qsbr : Bool) (allows : Log → LiveEvent → Type 0) (m0 : Me S View) (o : ObjectId) (cell : ℕ) where
  pub reads_found : (m : Me S View) (p : Option ObjectId) → IsWriter m0.0 → Went qsbr allows m0.0 m0 m → IsListed m.0 → IsBefore m.0 p o → (record_of m.0.seen o).0 ≡ cell → Reads qsbr allows m0 m o cell
  reads_found m p own went listed at lies = record {
    went = went;
    listed = listed;
    own = subst (λ (l : List ChainRight). l ≡ own_in l ∷ lent_chains l) (ap (λ (u : View). u.chains) (sym went.1)) own;
    has = follows_has (own_in m.0.chains).objects p o at.1;
    lies = lies;
  }

  module _ (m : Me S View) (r : Reads qsbr allows m0 m o cell) where
    pub reads_it : MayRead qsbr m.0 o cell
    reads_it = (r.lies, inr (r.own, r.listed, r.has))

    pub note_on : (n : Me S View) → Went qsbr allows m.0 m n → record_of n.0.seen o ≡ record_of m.0.seen o
    note_on n went = note_same qsbr allows m.0 m n went r.listed o r.has

    pub reads_on : (n : Me S View) → Went qsbr allows m.0 m n → KnowsChains m.0 n.0 → Reads qsbr allows m0 n o cell
    reads_on n went knows = record {
      went = went_both qsbr allows m0 m n r.went went;
      listed = (knows.1 r.own).0;
      own = subst (λ (l : List ChainRight). l ≡ own_in l ∷ lent_chains l) (ap (λ (u : View). u.chains) (sym went.1)) r.own;
      has = subst (λ (l : List ChainRight). In (own_in l).objects o) (ap (λ (u : View). u.chains) (sym went.1)) r.has;
      lies = ap (λ (z : ℕ × List ℕ). z.0) (note_on n went) ∙ r.lies;
    }

-- Lemmas on the places of a roster.
use Rattle.rcu_judge.proofs.Cited.{length_push, ◌≡◌, ◌≢◌, ◌⊎◌, ◌↔◌, inl, inr, ℕ, ◌+◌, ◌≤◌, ◌<◌, Bool, true, false, ◌&&◌, ◌==◌, List, [], ◌∷◌, ◌++◌, length, set, map, get_or, refl, sym, ap, ◌∙◌, subst, arith, true≢false, Result, Ok, Err, zero, suc, length-set, get_or-set_same, get_or-set_other, ◌||◌, filter, range_with_len, get_or_append_left, get_or_past, get_or_default, ext_get_or, set-get_or, length-map-range_with_len, get_or-map-range_with_len, map-range_with_len_more, list_any_at, Any-from_list_any, filter_passes, get_or-append_seam, and_parts, cases_eq, cond_both, false_from_ne_true, ne_eqb, or_right, or-false, list_any-append, any-filter_same, cases_lt, eqb-true, eq-eqb, nat_tests, both_true, Less, Greater, ranks, nat_cmp, ordering_index, IsBinarySearchResult, IsPartitionPoint, IsSearchInRange, result_ok}
use Rattle.rcu_judge.specs.declared.roster.Kept.{Kept}
use Rattle.rcu_judge.specs.Roster.{IsThere, HaveLeft, AreInOrder, IsFoundAt, IsNext, is_kept, kept_at, all_places}

abbrev pub nobody : Kept
nobody = record { place = 0; is_there = false }

-- ---- the order of the places

from_less : (low from to : ℕ) (ks : List Kept) → low ≤ from → AreInOrder from to ks → AreInOrder low to ks
from_less low from to [] less o = omega (arith, o)
from_less low from to (k ∷ ks) less o = (let a = o.0 in omega arith, o.1)

ends : (from to : ℕ) (ks : List Kept) → AreInOrder from to ks → from ≤ to
ends from to [] o = o
ends from to (k ∷ ks) o = let a = o.0 in let e = ends (k.place + 1) to ks o.1 in omega arith

at_least : (from to : ℕ) (ks : List Kept) (i : ℕ) → AreInOrder from to ks → i < length ks → from ≤ (kept_at ks i).place
at_least from to [] i o less = absurd (omega arith)
at_least from to (k ∷ ks) zero o less = o.0
at_least from to (k ∷ ks) (suc i) o less = let a = o.0 in let l = at_least (k.place + 1) to ks i o.1 (omega arith) in omega arith

pub below : (from to : ℕ) (ks : List Kept) (i : ℕ) → AreInOrder from to ks → i < length ks → (kept_at ks i).place < to
below from to [] i o less = absurd (omega arith)
below from to (k ∷ ks) zero o less = let e = ends (k.place + 1) to ks o.1 in omega arith
below from to (k ∷ ks) (suc i) o less = below (k.place + 1) to ks i o.1 (omega arith)

pub rises : (from to : ℕ) (ks : List Kept) (i j : ℕ) → AreInOrder from to ks → i < j → j < length ks → (kept_at ks i).place < (kept_at ks j).place
rises from to [] i j o before less = absurd (omega arith)
rises from to (k ∷ ks) i zero o before less = absurd (omega arith)
rises from to (k ∷ ks) zero (suc j) o before less = let l = at_least (k.place + 1) to ks j o.1 (omega arith) in omega arith
rises from to (k ∷ ks) (suc i) (suc j) o before less = rises (k.place + 1) to ks i j o.1 (omega arith) (omega arith)

pub climbs : (from to : ℕ) (ks : List Kept) (i j : ℕ) → AreInOrder from to ks → i ≤ j → j < length ks → (kept_at ks i).place ≤ (kept_at ks j).place
climbs from to ks i j o le less = grind (arith, rises from to ks i j o, cases_lt i j)

pub in_order_push : (from n : ℕ) (ks : List Kept) (b : Bool) → AreInOrder from n ks → AreInOrder from (n + 1) (ks ++ record { place = n; is_there = b } ∷ [])
in_order_push from n [] b o = (o, omega arith)
in_order_push from n (k ∷ ks) b o = (o.0, in_order_push (k.place + 1) n ks b o.1)

pub in_order_dropped : (from to : ℕ) (ks : List Kept) → AreInOrder from to ks → AreInOrder from to (filter (λ k. k.is_there) ks)
in_order_dropped from to [] o = o
in_order_dropped from to (k ∷ ks) o =
    let rest = in_order_dropped (k.place + 1) to ks o.1 in
    cond_both k.is_there (k ∷ filter (λ k. k.is_there) ks) (filter (λ k. k.is_there) ks) (AreInOrder from to) (λ _. (o.0, rest)) (λ _. from_less from (k.place + 1) to (filter (λ k. k.is_there) ks) (let a = o.0 in omega arith) rest)

pub in_order_mark : (from to : ℕ) (ks : List Kept) (i : ℕ) (b : Bool) → AreInOrder from to ks → AreInOrder from to (set ks i (record { place = (kept_at ks i).place; is_there = b }))
in_order_mark from to [] i b o = o
in_order_mark from to (k ∷ ks) zero b o = o
in_order_mark from to (k ∷ ks) (suc i) b o = (o.0, in_order_mark (k.place + 1) to ks i b o.1)

-- ---- those that are there

-- the one at the place is kept at an index, and is there
abbrev StandsAt : List Kept → ℕ → ℕ → Type 0
StandsAt ks p i = (i < length ks) × ((kept_at ks i).place ≡ p) × ((kept_at ks i).is_there ≡ true)

stands : (ks : List Kept) (p : ℕ) → is_kept ks p ≡ true → (i : ℕ) × StandsAt ks p i
stands ks p e =
    let a = Any-from_list_any (λ (k : Kept). (k.place == p) && k.is_there) ks e in
    let at : kept_at ks a.0 ≡ a.1 = get_or_default ks a.0 nobody a.1 a.2 ∙ a.3 in
    let t = and_parts (a.1.place == p) a.1.is_there a.4 in
    (a.0, (a.2, ap (λ (k : Kept). k.place) at ∙ eqb-true a.1.place p t.0, ap (λ (k : Kept). k.is_there) at ∙ t.1))

stands_there : (ks : List Kept) (p i : ℕ) → StandsAt ks p i → is_kept ks p ≡ true
stands_there ks p i s = list_any_at (λ (k : Kept). (k.place == p) && k.is_there) ks i nobody s.0 (both_true (eq-eqb (kept_at ks i).place p s.1) s.2)

-- ---- the places of all that came

pub count_places : (n : ℕ) (ks : List Kept) → length (all_places n ks) ≡ n
count_places n ks = length-map-range_with_len (is_kept ks) 0 n

place_is : (n : ℕ) (ks : List Kept) (p : ℕ) → p < n → get_or (all_places n ks) p false ≡ is_kept ks p
place_is n ks p less = get_or-map-range_with_len (is_kept ks) 0 n p p false less (omega arith)

there_came : (n : ℕ) (ks : List Kept) (p : ℕ) → IsThere (all_places n ks) p → p < n
there_came n ks p h = grind (arith, get_or_past, count_places, cases_lt)

there_stands : (n : ℕ) (ks : List Kept) (p : ℕ) → IsThere (all_places n ks) p → (i : ℕ) × StandsAt ks p i
there_stands n ks p h = stands ks p (sym (place_is n ks p (there_came n ks p h)) ∙ h)

pub stands_in : (n : ℕ) (ks : List Kept) (i : ℕ) → AreInOrder 0 n ks → i < length ks → (kept_at ks i).is_there ≡ true → IsThere (all_places n ks) (kept_at ks i).place
stands_in n ks i o less there = place_is n ks (kept_at ks i).place (below 0 n ks i o less) ∙ stands_there ks (kept_at ks i).place i (less, refl, there)

same_places : (n : ℕ) (f g : ℕ → Bool) → ((i : ℕ) → i < n → f i ≡ g i) → map f (range_with_len 0 n) ≡ map g (range_with_len 0 n)
same_places n f g same =
    ext_get_or false (map f (range_with_len 0 n)) (map g (range_with_len 0 n)) (length-map-range_with_len f 0 n ∙ sym (length-map-range_with_len g 0 n))
    (λ i less.
    let l : i < n = subst (λ m. i < m) (length-map-range_with_len f 0 n) less in
    get_or-map-range_with_len f 0 n i i false l (omega arith) ∙ same i l ∙ sym (get_or-map-range_with_len g 0 n i i false l (omega arith)))

-- ---- one more is kept, last

abbrev pub arrival : ℕ → Kept
arrival n = record { place = n; is_there = true }

kept_before : (ks : List Kept) (k : Kept) (i : ℕ) → i < length ks → kept_at (ks ++ k ∷ []) i ≡ kept_at ks i
kept_before ks k i less = get_or_append_left ks (k ∷ []) nobody i less

kept_last : (ks : List Kept) (k : Kept) → kept_at (ks ++ k ∷ []) (length ks) ≡ k
kept_last ks k = get_or-append_seam ks k [] nobody

pub arrived : (n : ℕ) (ks : List Kept) → AreInOrder 0 n ks → all_places (n + 1) (ks ++ arrival n ∷ []) ≡ all_places n ks ++ true ∷ []
arrived n ks o =
    map-range_with_len_more (is_kept (ks ++ arrival n ∷ [])) 0 n n (omega arith)
    ∙ ap (λ (b : Bool). all_places n (ks ++ arrival n ∷ []) ++ b ∷ []) (kept n ∙ or_right (is_kept ks n) ((n == n) && true || false) (rw (eq-eqb n n refl) refl))
    ∙ ap (λ (bs : List Bool). bs ++ true ∷ []) (same_places n (is_kept (ks ++ arrival n ∷ [])) (is_kept ks) (λ i less. kept i ∙ rw (ne_eqb n i (λ e. omega (arith, e)), or-false) refl))
  where
    kept : (p : ℕ) → is_kept (ks ++ arrival n ∷ []) p ≡ (is_kept ks p || ((n == p) && true || false))
    kept p = list_any-append (λ (k : Kept). (k.place == p) && k.is_there) ks (arrival n ∷ [])

pub next_push : (ks : List Kept) (n oldest : ℕ) → IsNext ks 0 oldest → IsNext (ks ++ arrival n ∷ []) 0 oldest
next_push ks n oldest f = grind (arith, length_push, kept_before ks (arrival n), kept_last ks (arrival n), cases_lt oldest (length ks))

-- ---- those that have left are dropped

pub dropped : (n : ℕ) (ks : List Kept) → all_places n (filter (λ k. k.is_there) ks) ≡ all_places n ks
dropped n ks = same_places n (is_kept (filter (λ k. k.is_there) ks)) (is_kept ks)
    (λ i less. any-filter_same (λ (k : Kept). (k.place == i) && k.is_there) (λ k. k.is_there) true (λ k t. (and_parts (k.place == i) k.is_there t).1) ks)

pub next_dropped : (ks : List Kept) → IsNext (filter (λ k. k.is_there) ks) 0 0
next_dropped ks = grind (arith, filter_passes)

-- ---- one leaves

one_place : (n : ℕ) (ks : List Kept) (i j : ℕ) → AreInOrder 0 n ks → i < length ks → j < length ks → (kept_at ks i).place ≡ (kept_at ks j).place → i ≡ j
one_place n ks i j o li lj e = grind (arith, rises 0 n ks i j o, rises 0 n ks j i o, cases_lt i j, cases_lt j i)

pub not_there : (n : ℕ) (ks : List Kept) (i : ℕ) → AreInOrder 0 n ks → i < length ks → (kept_at ks i).is_there ≢ true → ¬ IsThere (all_places n ks) (kept_at ks i).place
not_there n ks i o less gone h = grind (arith, there_stands, one_place)

pub nowhere : (n : ℕ) (ks : List Kept) (p : ℕ) → ((i : ℕ) → i < length ks → (kept_at ks i).place ≢ p) → ¬ IsThere (all_places n ks) p
nowhere n ks p none h = let s = there_stands n ks p h in none s.0 s.1.0 s.1.1

pub stays_gone : (bits : List Bool) (p : ℕ) → (¬ IsThere bits p) → bits ≡ set bits p false
stays_gone bits p gone = sym (ap (set bits p) (sym (false_from_ne_true (get_or bits p false) gone)) ∙ set-get_or bits p false)

abbrev pub marked : List Kept → ℕ → List Kept
marked ks i = set ks i (record { place = (kept_at ks i).place; is_there = false })

-- where one leaves, those at other places stay
kept_other : (ks : List Kept) (i j : ℕ) → (kept_at ks i).place ≢ j → is_kept (marked ks i) j ≡ is_kept ks j
kept_other [] i j apart = refl
kept_other (k ∷ ks) zero j apart = rw (ne_eqb k.place j apart) refl
kept_other (k ∷ ks) (suc i) j apart = ap (λ (b : Bool). (k.place == j) && k.is_there || b) (kept_other ks i j apart)

pub left_at : (n : ℕ) (ks : List Kept) (i p : ℕ) → AreInOrder 0 n ks → i < length ks → (kept_at ks i).place ≡ p → all_places n (marked ks i) ≡ set (all_places n ks) p false
left_at n ks i p o less at =
    ext_get_or false (all_places n (marked ks i)) (set (all_places n ks) p false) (count_places n (marked ks i) ∙ sym (length-set (all_places n ks) p false ∙ count_places n ks))
    (λ j l. by j (subst (λ (k : ℕ). j < k) (count_places n (marked ks i)) l) (cases_eq j p))
  where
    gone_at : kept_at (marked ks i) i ≡ record { place = (kept_at ks i).place; is_there = false }
    gone_at = get_or-set_same ks i (record { place = (kept_at ks i).place; is_there = false }) nobody less

    none : ¬ IsThere (all_places n (marked ks i)) p
    none = subst (λ q. ¬ IsThere (all_places n (marked ks i)) q) (ap (λ (x : Kept). x.place) gone_at ∙ at) (not_there n (marked ks i) i (in_order_mark 0 n ks i false o)
        (omega (arith, length-set ks i (record { place = (kept_at ks i).place; is_there = false }))) (λ h. true≢false (sym h ∙ ap (λ (x : Kept). x.is_there) gone_at)))

    by : (j : ℕ) → j < n → (j ≡ p) ⊎ (j ≢ p) → get_or (all_places n (marked ks i)) j false ≡ get_or (set (all_places n ks) p false) j false
    by j m (inl e) = rw (e, false_from_ne_true (get_or (all_places n (marked ks i)) p false) none) (sym (get_or-set_same (all_places n ks) p false false (omega (arith, count_places n ks))))
    by j m (inr apart) = place_is n (marked ks i) j m ∙ kept_other ks i j (λ e. apart (sym e ∙ at)) ∙ sym (get_or-set_other (all_places n ks) p j false false apart ∙ place_is n ks j m)

was_there : (ks : List Kept) (i j : ℕ) → (kept_at (marked ks i) j).is_there ≡ true → (kept_at ks j).is_there ≡ true
was_there [] i j h = h
was_there (k ∷ ks) zero zero h = absurd (true≢false (sym h))
was_there (k ∷ ks) zero (suc j) h = h
was_there (k ∷ ks) (suc i) zero h = h
was_there (k ∷ ks) (suc i) (suc j) h = was_there ks i j h

pub next_left : (ks : List Kept) (i oldest new : ℕ) → IsNext ks 0 oldest → IsNext (marked ks i) oldest new → IsNext (marked ks i) 0 new
next_left ks i oldest new f g = grind (arith, was_there, cases_lt)

-- another one leaves than the first
pub next_stays : (ks : List Kept) (i oldest : ℕ) → oldest ≢ i → IsNext ks 0 oldest → IsNext (marked ks i) 0 oldest
next_stays ks i oldest apart f = grind (arith, length-set, was_there, get_or-set_other)

-- ---- who is awaited

pub none_is_older : (n : ℕ) (ks : List Kept) (oldest moment : ℕ) → AreInOrder 0 n ks → IsNext ks 0 oldest → oldest < length ks → (moment ≤ (kept_at ks oldest).place) ↔ HaveLeft (all_places n ks) moment
none_is_older n ks oldest moment o f less = ((λ l p before h. let s = there_stands n ks p h in by l p before s.0 s.1 (cases_lt s.0 oldest)), (λ left. back left (cases_lt (kept_at ks oldest).place moment)))
  where
    by : moment ≤ (kept_at ks oldest).place → (p : ℕ) → p < moment → (i : ℕ) → StandsAt ks p i → (i < oldest) ⊎ (oldest ≤ i) → ⊥
    by l p before i s (inl passed) = f.passed i (omega arith) passed s.2
    by l p before i s (inr past) = let c = climbs 0 n ks oldest i o past s.0 in let e = s.1 in omega arith

    back : HaveLeft (all_places n ks) moment → ((kept_at ks oldest).place < moment) ⊎ (moment ≤ (kept_at ks oldest).place) → moment ≤ (kept_at ks oldest).place
    back left (inl l) = absurd (left (kept_at ks oldest).place l (stands_in n ks oldest o less (f.there less)))
    back left (inr l) = l

pub none_is_there : (n : ℕ) (ks : List Kept) (oldest moment : ℕ) → IsNext ks 0 oldest → length ks ≤ oldest → HaveLeft (all_places n ks) moment
none_is_there n ks oldest moment f past p before h = grind (arith, there_stands)

-- ---- what a search found

pub searched_at : (n : ℕ) (ks : List Kept) (p : ℕ) (r : Result ℕ ℕ) → AreInOrder 0 n ks → IsSearchInRange r (length ks) → IsBinarySearchResult (λ (k : Kept). nat_cmp k.place p) ks r → IsFoundAt ks p (result_ok r)
searched_at n ks p (Ok i) o within h = (within, rw (h nobody) at (ranks (kept_at ks i).place p))
searched_at n ks p (Err i) o within h = λ j less. by j less (cases_lt j i)
  where
    higher : (a b : ℕ) → a ≤ b → ordering_index (nat_cmp a p) ≤ ordering_index (nat_cmp b p)
    higher a b le = grind (arith, nat_tests)

    at : (i : ℕ) (d : Kept) → i < length ks → (get_or ks i d).place ≡ (kept_at ks i).place
    at i d less = ap (λ (k : Kept). k.place) (get_or_default ks i d nobody less)

    parted : IsPartitionPoint (λ (k : Kept). nat_cmp k.place p ≡ Less) (λ (k : Kept). nat_cmp k.place p ≡ Greater) ks i
    parted = h (λ a b d le less. higher (get_or ks a d).place (get_or ks b d).place (let l = climbs 0 n ks a b o le less in omega (arith, at a d (omega arith), at b d less)))

    by : (j : ℕ) → j < length ks → (j < i) ⊎ (i ≤ j) → (kept_at ks j).place ≢ p
    by j less (inl l) e = let b = rw (parted.0 j nobody (omega arith) l) at (ranks (kept_at ks j).place p) in omega arith
    by j less (inr l) e = let b = rw (parted.1 j nobody l less) at (ranks (kept_at ks j).place p) in omega arith

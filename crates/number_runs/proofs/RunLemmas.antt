-- Lemmas on runs of consecutive numbers.
use Rattle.std.proofs.Common.{◌≡◌, ◌≢◌, ◌⊎◌, ◌↔◌, inl, inr, ⊎_elim, ℕ, ◌+◌, ◌<◌, ◌≤◌, ◌^◌, ◌==◌, Bool, true, false, cond, List, Option, Some, None, refl, sym, ap, ◌∙◌, subst, true≢false, arith, IsTrue}
use Rattle.std.proofs.lemmas.Bool.{cases_lt}
use Rattle.std.proofs.lemmas.Bool.Decides.{eqb_tells}
use Rattle.std.proofs.lemmas.Map.Lookups.{exact_unsigned}
use Rattle.std.specs.BTreeMap.{is_at}
use Rattle.std.specs.Cmp.{nat_cmp_is, Equal-is}
use Rattle.std.specs.Option.{unwrap_or}
use Rattle.std.specs.Ordering.{nat_cmp, is_eq}
use Rattle.std.specs.declared.cmp.Ordering.TheVariants.{Equal}
use Rattle.number_runs.specs.Runs.{last_from, IsRun, Has, AreRuns, Inserts, FindsRunBefore, Reaches, begins_at}

-- the test of a map's key tells whether it is the key
pub at_tells : (a b : ℕ) → ((is_at (nat_cmp a) b ≡ true) × (a ≡ b)) ⊎ ((is_at (nat_cmp a) b ≡ false) × (a ≢ b))
at_tells a b = by (is_at (nat_cmp a) b) refl (eqb_tells a b)
  where
    by : (t : Bool) → is_at (nat_cmp a) b ≡ t → (((a == b) ≡ true) × (a ≡ b)) ⊎ (((a == b) ≡ false) × (a ≢ b)) → ((is_at (nat_cmp a) b ≡ true) × (a ≡ b)) ⊎ ((is_at (nat_cmp a) b ≡ false) × (a ≢ b))
    by true is (inl y) = inl (is, y.1)
    by true is (inr n) = absurd (n.1 (exact_unsigned a b ((Equal-is (nat_cmp a b)).0 is)))
    by false is (inl y) = absurd (true≢false (sym (ap is_eq (sym (nat_cmp_is a b Equal y.1))) ∙ is))
    by false is (inr n) = inr (is, n.1)

pub one_last : (runs : List (ℕ × ℕ)) (s l k : ℕ) → IsRun runs s l → IsRun runs s k → l ≡ k
one_last runs s l k p q = cc

-- the run before a number has it where it reaches it
module _ (runs : List (ℕ × ℕ)) (are : AreRuns runs) (number : ℕ) where
  pub reaches : (before : Option (ℕ × ℕ)) → FindsRunBefore runs number before → Reaches before number → Has runs number
  reaches None b r = absurd r
  reaches (Some run) b r = record { first = run.0; last = run.1; run = b.0; begun = b.1; not_past = r }

  pub has_reached : (before : Option (ℕ × ℕ)) → FindsRunBefore runs number before → Has runs number → Reaches before number
  has_reached None b h = absurd (let e = b h.first h.last h.run in omega (arith, e, h.begun))
  has_reached (Some run) b h = by (cases_lt h.first run.0)
    where
      most : h.first ≤ run.0
      most = b.2 h.first h.last h.run h.begun

      by : (h.first < run.0) ⊎ (run.0 ≤ h.first) → number ≤ run.1
      by (inl less) = let e = are.apart h.first h.last run.0 run.1 h.run b.0 less in absurd (omega (arith, e, h.not_past, b.1))
      by (inr same) =
          let e : h.first ≡ run.0 = omega (arith, most, same) in
          let l : h.last ≡ run.1 = one_last runs run.0 h.last run.1 (subst (λ s. IsRun runs s h.last) e h.run) b.0 in
          omega (arith, l, h.not_past)

-- the run that a number makes or joins, against the other runs
pub record IsJoined (runs : List (ℕ × ℕ)) (number first last : ℕ) : Type 0 where
  pub begun : first ≤ number
  pub not_past : number ≤ last
  pub below : (s l : ℕ) → IsRun runs s l → s ≤ number → ((s ≡ first) × (l + 1 ≡ number)) ⊎ (l + 1 < first)
  pub above : (s l : ℕ) → IsRun runs s l → number < s → ((s ≡ number + 1) × (l ≡ last)) ⊎ (last + 1 < s)
  pub covered : (n : ℕ) → first ≤ n → n ≤ last → (number ≡ n) ⊎ Has runs n

-- the run that a number joins stands in the place of those that it joins
pub record Stores (runs new : List (ℕ × ℕ)) (number first last : ℕ) : Type 0 where
  pub here : IsRun new first last
  pub others : (s : ℕ) → s ≢ first → s ≢ number + 1 → last_from new s ≡ last_from runs s
  pub no_next : (l : ℕ) → ¬ IsRun new (number + 1) l

module _ (runs new : List (ℕ × ℕ)) (number first last : ℕ) (are : AreRuns runs) (fits : number < 2 ^ 64) (j : IsJoined runs number first last) (k : Stores runs new number first last) where
  -- a run of the new ones is the one that was put, or an old one elsewhere
  was : (s l : ℕ) → IsRun new s l → ((s ≡ first) × (l ≡ last)) ⊎ ((s ≢ first) × (s ≢ number + 1) × IsRun runs s l)
  was s l r = by (eqb_tells s first)
    where
      not_next : s ≢ number + 1
      not_next e = k.no_next l (subst (λ n. IsRun new n l) e r)

      by : (((s == first) ≡ true) × (s ≡ first)) ⊎ (((s == first) ≡ false) × (s ≢ first)) → ((s ≡ first) × (l ≡ last)) ⊎ ((s ≢ first) × (s ≢ number + 1) × IsRun runs s l)
      by (inl y) = inl (y.1, one_last new first l last (subst (λ n. IsRun new n l) y.1 r) k.here)
      by (inr n) = inr (n.1, not_next, sym (k.others s n.1 not_next) ∙ r)

  pub has_new : (n : ℕ) → Has new n → (number ≡ n) ⊎ Has runs n
  has_new n h = by (was h.first h.last h.run)
    where
      by : ((h.first ≡ first) × (h.last ≡ last)) ⊎ ((h.first ≢ first) × (h.first ≢ number + 1) × IsRun runs h.first h.last) → (number ≡ n) ⊎ Has runs n
      by (inl e) = j.covered n (omega (arith, e.0, h.begun)) (omega (arith, e.1, h.not_past))
      by (inr o) = inr (record { first = h.first; last = h.last; run = o.2; begun = h.begun; not_past = h.not_past })

  new_has : (n : ℕ) → first ≤ n → n ≤ last → Has new n
  new_has n a b = record { first = first; last = last; run = k.here; begun = a; not_past = b }

  pub has_old : (n : ℕ) → (number ≡ n) ⊎ Has runs n → Has new n
  has_old n (inl e) = subst (Has new) e (new_has number j.begun j.not_past)
  has_old n (inr h) = by (cases_lt number h.first)
    where
      stays : h.first ≢ first → h.first ≢ number + 1 → Has new n
      stays a b = record { first = h.first; last = h.last; run = k.others h.first a b ∙ h.run; begun = h.begun; not_past = h.not_past }

      by_above : number < h.first → ((h.first ≡ number + 1) × (h.last ≡ last)) ⊎ (last + 1 < h.first) → Has new n
      by_above more (inl e) = new_has n (omega (arith, j.begun, h.begun, e.0)) (omega (arith, h.not_past, e.1))
      by_above more (inr apart) = stays (λ e. omega (arith, e, more, j.begun)) (λ e. omega (arith, e, apart, j.not_past))

      by_below : h.first ≤ number → ((h.first ≡ first) × (h.last + 1 ≡ number)) ⊎ (h.last + 1 < first) → Has new n
      by_below less (inl e) = new_has n (omega (arith, h.begun, e.0)) (omega (arith, h.not_past, e.1, j.not_past))
      by_below less (inr apart) = stays (λ e. let f = are.full h.first h.last h.run in omega (arith, e, apart, f)) (λ e. omega (arith, e, less))

      by : (number < h.first) ⊎ (h.first ≤ number) → Has new n
      by (inl more) = by_above more (j.above h.first h.last h.run more)
      by (inr less) = by_below less (j.below h.first h.last h.run less)

  pub are_new : AreRuns new
  are_new = record {
    fits = λ s l r. ⊎_elim (λ (e : (s ≡ first) × (l ≡ last)). omega (arith, e.0, j.begun, fits)) (λ (o : (s ≢ first) × (s ≢ number + 1) × IsRun runs s l). are.fits s l o.2) (was s l r);
    full = λ s l r. ⊎_elim (λ (e : (s ≡ first) × (l ≡ last)). omega (arith, e.0, e.1, j.begun, j.not_past)) (λ (o : (s ≢ first) × (s ≢ number + 1) × IsRun runs s l). are.full s l o.2) (was s l r);
    apart = λ s l t m r q less. apart s l t m less (was s l r) (was t m q);
  }
    where
      apart : (s l t m : ℕ) → s < t → ((s ≡ first) × (l ≡ last)) ⊎ ((s ≢ first) × (s ≢ number + 1) × IsRun runs s l) → ((t ≡ first) × (m ≡ last)) ⊎ ((t ≢ first) × (t ≢ number + 1) × IsRun runs t m) → l + 1 < t
      apart s l t m less (inl e) (inl f) = absurd (omega (arith, e.0, f.0, less))
      apart s l t m less (inr o) (inr p) = are.apart s l t m o.2 p.2 less
      apart s l t m less (inl e) (inr p) = by (cases_lt number t)
        where
          by : (number < t) ⊎ (t ≤ number) → l + 1 < t
          by (inl more) = ⊎_elim (λ (x : (t ≡ number + 1) × (m ≡ last)). absurd (p.1 x.0)) (λ (x : last + 1 < t). omega (arith, x, e.1)) (j.above t m p.2 more)
          by (inr below) = ⊎_elim (λ (x : (t ≡ first) × (m + 1 ≡ number)). absurd (p.0 x.0)) (λ (x : m + 1 < first). let f = are.full t m p.2 in absurd (omega (arith, x, f, less, e.0))) (j.below t m p.2 below)
      apart s l t m less (inr o) (inl e) = by (cases_lt number s)
        where
          by : (number < s) ⊎ (s ≤ number) → l + 1 < t
          by (inl more) = absurd (omega (arith, more, less, e.0, j.begun))
          by (inr below) = ⊎_elim (λ (x : (s ≡ first) × (l + 1 ≡ number)). absurd (o.0 x.0)) (λ (x : l + 1 < first). omega (arith, x, e.0)) (j.below s l o.2 below)

-- the run that a number joins, found
module _ (runs : List (ℕ × ℕ)) (are : AreRuns runs) (number : ℕ) where
  below_of : (before : Option (ℕ × ℕ)) → FindsRunBefore runs number before → ¬ Reaches before number → (s l : ℕ) → IsRun runs s l → s ≤ number → ((s ≡ begins_at before number) × (l + 1 ≡ number)) ⊎ (l + 1 < begins_at before number)
  below_of None b out s l r within = absurd (let e = b s l r in omega (arith, e, within))
  below_of (Some run) b out s l r within = by (run.1 + 1 == number) (eqb_tells (run.1 + 1) number)
    where
      most : s ≤ run.0
      most = b.2 s l r within

      ends : run.1 < number
      ends = ⊎_elim (λ (e : run.1 < number). e) (λ (e : number ≤ run.1). absurd (out e)) (cases_lt run.1 number)

      at : (s < run.0) ⊎ (run.0 ≤ s) → (l + 1 < run.0) ⊎ ((s ≡ run.0) × (l ≡ run.1))
      at (inl less) = inl (are.apart s l run.0 run.1 r b.0 less)
      at (inr more) =
          let e : s ≡ run.0 = omega (arith, most, more) in
          inr (e, one_last runs run.0 l run.1 (subst (λ n. IsRun runs n l) e r) b.0)

      by : (t : Bool) → ((t ≡ true) × (run.1 + 1 ≡ number)) ⊎ ((t ≡ false) × (run.1 + 1 ≢ number)) → ((s ≡ cond t run.0 number) × (l + 1 ≡ number)) ⊎ (l + 1 < cond t run.0 number)
      by true (inl y) = ⊎_elim (λ (e : l + 1 < run.0). inr e) (λ (e : (s ≡ run.0) × (l ≡ run.1)). inl (e.0, ap (λ n. n + 1) e.1 ∙ y.1)) (at (cases_lt s run.0))
      by true (inr n) = absurd (true≢false n.0)
      by false (inl y) = absurd (true≢false (sym y.0))
      by false (inr n) = ⊎_elim (λ (e : l + 1 < run.0). inr (omega (arith, e, b.1))) (λ (e : (s ≡ run.0) × (l ≡ run.1)). let a = n.1 in inr (omega (arith, e.1, ends, a))) (at (cases_lt s run.0))

  pub begun_of : (before : Option (ℕ × ℕ)) → FindsRunBefore runs number before → begins_at before number ≤ number
  begun_of None b = omega arith
  begun_of (Some run) b = by (run.1 + 1 == number)
    where
      by : (t : Bool) → cond t run.0 number ≤ number
      by true = b.1
      by false = omega arith

  begins_has : (before : Option (ℕ × ℕ)) → FindsRunBefore runs number before → (n : ℕ) → begins_at before number ≤ n → n < number → Has runs n
  begins_has None b n from less = absurd (omega (arith, from, less))
  begins_has (Some run) b n from less = by (run.1 + 1 == number) (eqb_tells (run.1 + 1) number) from
    where
      by : (t : Bool) → ((t ≡ true) × (run.1 + 1 ≡ number)) ⊎ ((t ≡ false) × (run.1 + 1 ≢ number)) → cond t run.0 number ≤ n → Has runs n
      by true (inl y) f = record { first = run.0; last = run.1; run = b.0; begun = f; not_past = omega (arith, less, y.1) }
      by true (inr o) f = absurd (true≢false o.0)
      by false o f = absurd (omega (arith, f, less))

  -- up to where
  module _ (found : Option ℕ) (is : last_from runs (number + 1) ≡ found) where
    not_past_of : number ≤ unwrap_or found number
    not_past_of = by found is
      where
        by : (o : Option ℕ) → last_from runs (number + 1) ≡ o → number ≤ unwrap_or o number
        by None e = omega arith
        by (Some l) e = let f = are.full (number + 1) l e in omega (arith, f)

    above_of : (s l : ℕ) → IsRun runs s l → number < s → ((s ≡ number + 1) × (l ≡ unwrap_or found number)) ⊎ (unwrap_or found number + 1 < s)
    above_of s l r more = by found is (eqb_tells s (number + 1))
      where
        by : (o : Option ℕ) → last_from runs (number + 1) ≡ o → (((s == (number + 1)) ≡ true) × (s ≡ number + 1)) ⊎ (((s == (number + 1)) ≡ false) × (s ≢ number + 1)) → ((s ≡ number + 1) × (l ≡ unwrap_or o number)) ⊎ (unwrap_or o number + 1 < s)
        by None e (inl y) = absurd (none_run l (sym e ∙ subst (λ n. IsRun runs n l) y.1 r))
          where
            none_run : (k : ℕ) → None ≡ Some k → ⊥
            none_run k h = cc
        by (Some k) e (inl y) = inl (y.1, one_last runs (number + 1) l k (subst (λ n. IsRun runs n l) y.1 r) e)
        by None e (inr n) = let a = n.1 in inr (omega (arith, more, a))
        by (Some k) e (inr n) = let a = n.1 in inr (are.apart (number + 1) k s l e r (omega (arith, more, a)))

    after_has : (n : ℕ) → number < n → n ≤ unwrap_or found number → Has runs n
    after_has n more within = by found is within
      where
        by : (o : Option ℕ) → last_from runs (number + 1) ≡ o → n ≤ unwrap_or o number → Has runs n
        by None e w = absurd (omega (arith, more, w))
        by (Some l) e w = record { first = number + 1; last = l; run = e; begun = omega (arith, more); not_past = w }

  pub joins : (before : Option (ℕ × ℕ)) → FindsRunBefore runs number before → ¬ Reaches before number → IsJoined runs number (begins_at before number) (unwrap_or (last_from runs (number + 1)) number)
  joins before b out = record {
    begun = begun_of before b;
    not_past = not_past_of (last_from runs (number + 1)) refl;
    below = below_of before b out;
    above = above_of (last_from runs (number + 1)) refl;
    covered = λ n from within. covered n from within (cases_lt n number) (cases_lt number n);
  }
    where
      covered : (n : ℕ) → begins_at before number ≤ n → n ≤ unwrap_or (last_from runs (number + 1)) number → (n < number) ⊎ (number ≤ n) → (number < n) ⊎ (n ≤ number) → (number ≡ n) ⊎ Has runs n
      covered n from within (inl less) other = inr (begins_has before b n from less)
      covered n from within (inr up) (inl more) = inr (after_has (last_from runs (number + 1)) refl n more within)
      covered n from within (inr up) (inr down) = inl (omega (arith, up, down))

-- a run was put over those that begin where it does, and where it ends above the number the next one was taken out
module _ (runs put : List (ℕ × ℕ)) (number first last : ℕ) (begun : first ≤ number) (puts : (s : ℕ) → last_from put s ≡ cond (is_at (nat_cmp first) s) (Some last) (last_from runs s)) where
  put_here : last_from put first ≡ Some last
  put_here = by (at_tells first first)
    where
      by : ((is_at (nat_cmp first) first ≡ true) × (first ≡ first)) ⊎ ((is_at (nat_cmp first) first ≡ false) × (first ≢ first)) → last_from put first ≡ Some last
      by (inl y) = puts first ∙ ap (λ t. cond t (Some last) (last_from runs first)) y.0
      by (inr n) = absurd (n.1 refl)

  put_else : (s : ℕ) → s ≢ first → last_from put s ≡ last_from runs s
  put_else s apart = by (at_tells first s)
    where
      by : ((is_at (nat_cmp first) s ≡ true) × (first ≡ s)) ⊎ ((is_at (nat_cmp first) s ≡ false) × (first ≢ s)) → last_from put s ≡ last_from runs s
      by (inl y) = absurd (apart (sym y.1))
      by (inr n) = puts s ∙ ap (λ t. cond t (Some last) (last_from runs s)) n.0

  next_apart : number + 1 ≢ first
  next_apart e = omega (arith, e, begun)

  pub stores_alone : last_from runs (number + 1) ≡ None → Stores runs put number first last
  stores_alone none = record {
    here = put_here;
    others = λ s a _. put_else s a;
    no_next = λ l r. no_run l (sym none ∙ sym (put_else (number + 1) next_apart) ∙ r);
  }
    where
      no_run : (k : ℕ) → None ≡ Some k → ⊥
      no_run k h = cc

  module _ (new : List (ℕ × ℕ)) (takes : (s : ℕ) → last_from new s ≡ cond (is_at (nat_cmp (number + 1)) s) None (last_from put s)) where
    take_else : (s : ℕ) → s ≢ number + 1 → last_from new s ≡ last_from put s
    take_else s apart = by (at_tells (number + 1) s)
      where
        by : ((is_at (nat_cmp (number + 1)) s ≡ true) × (number + 1 ≡ s)) ⊎ ((is_at (nat_cmp (number + 1)) s ≡ false) × (number + 1 ≢ s)) → last_from new s ≡ last_from put s
        by (inl y) = absurd (apart (sym y.1))
        by (inr n) = takes s ∙ ap (λ t. cond t None (last_from put s)) n.0

    take_here : last_from new (number + 1) ≡ None
    take_here = by (at_tells (number + 1) (number + 1))
      where
        by : ((is_at (nat_cmp (number + 1)) (number + 1) ≡ true) × (number + 1 ≡ number + 1)) ⊎ ((is_at (nat_cmp (number + 1)) (number + 1) ≡ false) × (number + 1 ≢ number + 1)) → last_from new (number + 1) ≡ None
        by (inl y) = takes (number + 1) ∙ ap (λ t. cond t None (last_from put (number + 1))) y.0
        by (inr n) = absurd (n.1 refl)

    pub stores_joined : Stores runs new number first last
    stores_joined = record {
      here = take_else first (λ e. next_apart (sym e)) ∙ put_here;
      others = λ s a b. take_else s b ∙ put_else s a;
      no_next = λ l r. no_run l (sym take_here ∙ r);
    }
      where
        no_run : (k : ℕ) → None ≡ Some k → ⊥
        no_run k h = cc

-- where the run that a number joins ends with it, none begins just above it
pub none_above : (runs : List (ℕ × ℕ)) (number : ℕ) → AreRuns runs → unwrap_or (last_from runs (number + 1)) number ≡ number → last_from runs (number + 1) ≡ None
none_above runs number are e = by (last_from runs (number + 1)) refl e
  where
    by : (o : Option ℕ) → last_from runs (number + 1) ≡ o → unwrap_or o number ≡ number → o ≡ None
    by None is f = refl
    by (Some l) is f = absurd (let g = are.full (number + 1) l is in omega (arith, g, f))

pub inserts : (runs new : List (ℕ × ℕ)) (number first last : ℕ) (before : Option (ℕ × ℕ)) → AreRuns runs → number < 2 ^ 64 → FindsRunBefore runs number before → ¬ Reaches before number →
    first ≡ begins_at before number → last ≡ unwrap_or (last_from runs (number + 1)) number → Stores runs new number first last → Inserts runs new number
inserts runs new number first last before are fits b out first_is last_is k = record {
  are = are_new runs new number first last are fits j k;
  has = λ n. (has_new runs new number first last are fits j k n, has_old runs new number first last are fits j k n);
}
  where
    j : IsJoined runs number first last
    j = subst (λ f. IsJoined runs number f last) (sym first_is) (subst (λ l. IsJoined runs number (begins_at before number) l) (sym last_is) (joins runs are number before b out))

pub not_reached : (reached : Bool) (before : Option (ℕ × ℕ)) (number : ℕ) → (IsTrue reached ↔ Reaches before number) → reached ≡ false → ¬ Reaches before number
not_reached reached before number told out r = true≢false (sym (told.1 r) ∙ out)

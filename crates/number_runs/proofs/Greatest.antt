-- Runs of which that of the greatest numbers stands apart.
use Rattle.std.proofs.Common.{◌≡◌, ◌≢◌, ◌⊎◌, ◌∷◌, inl, inr, ⊎_elim, ℕ, ◌+◌, ◌<◌, ◌≤◌, ◌^◌, ◌==◌, Bool, true, false, cond, List, Option, Some, None, refl, sym, ap, ◌∙◌, subst, arith}
use Rattle.std.proofs.lemmas.Bool.Decides.{eqb_tells}
use Rattle.std.specs.BTreeMap.{is_at}
use Rattle.std.specs.Option.{unwrap_or}
use Rattle.std.specs.Ordering.{nat_cmp}
use Rattle.number_runs.specs.Runs.{last_from, IsRun, Has, AreRuns, AreBelow, Joins, FindsRunBefore, Reaches, begins_at}
use Rattle.number_runs.proofs.RunLemmas.{at_tells, one_last, IsJoined, Stores, reaches, has_reached, begun_of, joins, inserts}

-- one run before others
module _ (run : ℕ × ℕ) (others : List (ℕ × ℕ)) where
  pub here : IsRun (run ∷ others) run.0 run.1
  here = by (at_tells run.0 run.0)
    where
      by : ((is_at (nat_cmp run.0) run.0 ≡ true) × (run.0 ≡ run.0)) ⊎ ((is_at (nat_cmp run.0) run.0 ≡ false) × (run.0 ≢ run.0)) → IsRun (run ∷ others) run.0 run.1
      by (inl y) = ap (λ t. cond t (Some run.1) (last_from others run.0)) y.0
      by (inr n) = absurd (n.1 refl)

  pub elsewhere : (s : ℕ) → s ≢ run.0 → last_from (run ∷ others) s ≡ last_from others s
  elsewhere s apart = by (at_tells s run.0)
    where
      by : ((is_at (nat_cmp s) run.0 ≡ true) × (s ≡ run.0)) ⊎ ((is_at (nat_cmp s) run.0 ≡ false) × (s ≢ run.0)) → last_from (run ∷ others) s ≡ last_from others s
      by (inl y) = absurd (apart y.1)
      by (inr n) = ap (λ t. cond t (Some run.1) (last_from others s)) n.0

no_run : (runs : List (ℕ × ℕ)) (s : ℕ) → ((l : ℕ) → ¬ IsRun runs s l) → last_from runs s ≡ None
no_run runs s none = by (last_from runs s) refl
  where
    by : (o : Option ℕ) → last_from runs s ≡ o → o ≡ None
    by None is = refl
    by (Some l) is = absurd (none l is)

-- the run of the greatest numbers before others that begin below it
module _ (greatest : ℕ × ℕ) (lower : List (ℕ × ℕ)) (are : AreRuns (greatest ∷ lower)) (below : AreBelow (Some greatest) lower) where
  apart_of : (s l : ℕ) → IsRun lower s l → s ≢ greatest.0
  apart_of s l r e = let b = below s l r in omega (arith, b, e)

  pub of_lower : (s l : ℕ) → IsRun lower s l → IsRun (greatest ∷ lower) s l
  of_lower s l r = elsewhere greatest lower s (apart_of s l r) ∙ r

  pub lower_are : AreRuns lower
  lower_are = record {
    fits = λ s l r. are.fits s l (of_lower s l r);
    full = λ s l r. are.full s l (of_lower s l r);
    apart = λ s l t m r q. are.apart s l t m (of_lower s l r) (of_lower t m q);
  }

  -- a run is the greatest one, or one of the others
  which : (s l : ℕ) → IsRun (greatest ∷ lower) s l → (s ≡ greatest.0) ⊎ IsRun lower s l
  which s l r = by (eqb_tells s greatest.0)
    where
      by : (((s == greatest.0) ≡ true) × (s ≡ greatest.0)) ⊎ (((s == greatest.0) ≡ false) × (s ≢ greatest.0)) → (s ≡ greatest.0) ⊎ IsRun lower s l
      by (inl y) = inl y.1
      by (inr n) = inr (sym (elsewhere greatest lower s n.1) ∙ r)

  is_full : greatest.0 ≤ greatest.1
  is_full = are.full greatest.0 greatest.1 (here greatest lower)

  none_from : (s : ℕ) → greatest.0 ≤ s → last_from lower s ≡ None
  none_from s from = no_run lower s (λ l r. let b = below s l r in omega (arith, b, from))

  pub there : (number : ℕ) → greatest.0 ≤ number → number ≤ greatest.1 → Has (greatest ∷ lower) number
  there number from within = record { first = greatest.0; last = greatest.1; run = here greatest lower; begun = from; not_past = within }

  pub has_within : (number : ℕ) → greatest.0 ≤ number → Has (greatest ∷ lower) number → number ≤ greatest.1
  has_within number from h = ⊎_elim
      (λ (e : h.first ≡ greatest.0). let l = one_last (greatest ∷ lower) greatest.0 h.last greatest.1 (subst (λ s. IsRun (greatest ∷ lower) s h.last) e h.run) (here greatest lower) in let w = h.not_past in omega (arith, l, w))
      (λ (q : IsRun lower h.first h.last). let a = are.apart h.first h.last greatest.0 greatest.1 h.run (here greatest lower) (below h.first h.last q) in let w = h.not_past in absurd (omega (arith, a, w, from)))
      (which h.first h.last h.run)

  -- a number above them all
  module _ (number : ℕ) (fits : number < 2 ^ 64) (above : greatest.1 < number) where
    finds_above : FindsRunBefore (greatest ∷ lower) number (Some greatest)
    finds_above = (here greatest lower, omega (arith, is_full, above), λ s l r within. ⊎_elim (λ (e : s ≡ greatest.0). omega (arith, e)) (λ (q : IsRun lower s l). let b = below s l q in omega (arith, b)) (which s l r))

    pub not_there_above : ¬ Reaches (Some greatest) number
    not_there_above r = omega (arith, r, above)

    none_next : last_from (greatest ∷ lower) (number + 1) ≡ None
    none_next = elsewhere greatest lower (number + 1) (λ e. omega (arith, e, is_full, above)) ∙ none_from (number + 1) (omega (arith, is_full, above))

    joined_above : (first : ℕ) (new : List (ℕ × ℕ)) → first ≡ begins_at (Some greatest) number → Stores (greatest ∷ lower) ((first, number) ∷ new) number first number → AreBelow (Some (first, number)) new → Joins greatest lower (first, number) new number
    joined_above first new is k b = record {
      fresh = λ h. not_there_above (has_reached (greatest ∷ lower) are number (Some greatest) finds_above h);
      inserts = inserts (greatest ∷ lower) ((first, number) ∷ new) number first number (Some greatest) are fits finds_above not_there_above is (sym (ap (λ o. unwrap_or o number) none_next)) k;
      below = b;
    }

    pub extends : (first : ℕ) → first ≡ begins_at (Some greatest) number → first ≢ number → Joins greatest lower (first, number) lower number
    extends first is apart = joined_above first lower is (record {
      here = here (first, number) lower;
      others = λ s a _. elsewhere (first, number) lower s a ∙ sym (elsewhere greatest lower s (λ e. a (e ∙ sym same)));
      no_next = λ l r. next l (sym (none_from (number + 1) (omega (arith, is_full, above))) ∙ sym (elsewhere (first, number) lower (number + 1) (λ e. omega (arith, e, same, is_full, above))) ∙ r);
    }) (λ s l r. let b = below s l r in omega (arith, b, same))
      where
        same : first ≡ greatest.0
        same = by (greatest.1 + 1 == number) is
          where
            by : (t : Bool) → first ≡ cond t greatest.0 number → first ≡ greatest.0
            by true e = e
            by false e = absurd (apart e)

        next : (l : ℕ) → None ≡ Some l → ⊥
        next l h = cc

    pub begins_anew : (first : ℕ) (new : List (ℕ × ℕ)) → first ≡ begins_at (Some greatest) number → first ≡ number → ((s : ℕ) → last_from new s ≡ cond (is_at (nat_cmp greatest.0) s) (Some greatest.1) (last_from lower s)) → Joins greatest lower (first, number) new number
    begins_anew first new is new_is puts = joined_above first new is (record {
      here = here (first, number) new;
      others = λ s a _. elsewhere (first, number) new s a ∙ was s;
      no_next = λ l r. next l (sym none_next ∙ sym (was (number + 1)) ∙ sym (elsewhere (first, number) new (number + 1) (λ e. omega (arith, e, new_is))) ∙ r);
    }) (λ s l r. ⊎_elim (λ (e : s ≡ greatest.0). omega (arith, e, new_is, is_full, above)) (λ (q : IsRun lower s l). let b = below s l q in omega (arith, b, new_is, is_full, above)) (which s l (sym (was s) ∙ r)))
      where
        was : (s : ℕ) → last_from new s ≡ last_from (greatest ∷ lower) s
        was s = by (at_tells greatest.0 s) (at_tells s greatest.0)
          where
            by : ((is_at (nat_cmp greatest.0) s ≡ true) × (greatest.0 ≡ s)) ⊎ ((is_at (nat_cmp greatest.0) s ≡ false) × (greatest.0 ≢ s)) → ((is_at (nat_cmp s) greatest.0 ≡ true) × (s ≡ greatest.0)) ⊎ ((is_at (nat_cmp s) greatest.0 ≡ false) × (s ≢ greatest.0)) → last_from new s ≡ last_from (greatest ∷ lower) s
            by (inl y) (inl z) = puts s ∙ ap (λ t. cond t (Some greatest.1) (last_from lower s)) (y.0 ∙ sym z.0)
            by (inr n) (inr m) = puts s ∙ ap (λ t. cond t (Some greatest.1) (last_from lower s)) (n.0 ∙ sym m.0)
            by (inl y) (inr m) = absurd (m.1 (sym y.1))
            by (inr n) (inl z) = absurd (n.1 (sym z.1))

        next : (l : ℕ) → None ≡ Some l → ⊥
        next l h = cc

  -- a number below the greatest run that no other run reaches
  module _ (number : ℕ) (fits : number < 2 ^ 64) (less : number < greatest.0) (before : Option (ℕ × ℕ)) (found : FindsRunBefore lower number before) where
    pub finds_below : FindsRunBefore (greatest ∷ lower) number before
    finds_below = by before found
      where
        by : (b : Option (ℕ × ℕ)) → FindsRunBefore lower number b → FindsRunBefore (greatest ∷ lower) number b
        by None f = λ s l r. ⊎_elim (λ (e : s ≡ greatest.0). omega (arith, e, less)) (λ (q : IsRun lower s l). f s l q) (which s l r)
        by (Some run) f = (of_lower run.0 run.1 f.0, f.1, λ s l r within. ⊎_elim (λ (e : s ≡ greatest.0). absurd (omega (arith, e, less, within))) (λ (q : IsRun lower s l). f.2 s l q within) (which s l r))

    pub reached_below : Has (greatest ∷ lower) number → Reaches before number
    reached_below h = has_reached (greatest ∷ lower) are number before finds_below h

    pub there_below : Reaches before number → Has (greatest ∷ lower) number
    there_below r = reaches (greatest ∷ lower) are number before finds_below r

    module _ (out : ¬ Reaches before number) (first : ℕ) (first_is : first ≡ begins_at before number) where
      from : first ≤ number
      from = subst (λ f. f ≤ number) (sym first_is) (begun_of (greatest ∷ lower) are number before finds_below)

      joined_below : (run : ℕ × ℕ) (new : List (ℕ × ℕ)) (last : ℕ) → last ≡ unwrap_or (last_from (greatest ∷ lower) (number + 1)) number → Stores (greatest ∷ lower) (run ∷ new) number first last → AreBelow (Some run) new → Joins greatest lower run new number
      joined_below run new last last_is k b = record {
        fresh = λ h. out (has_reached (greatest ∷ lower) are number before finds_below h);
        inserts = inserts (greatest ∷ lower) (run ∷ new) number first last before are fits finds_below out first_is last_is k;
        below = b;
      }

      pub joins_greatest : (new : List (ℕ × ℕ)) → number + 1 ≡ greatest.0 → ((s : ℕ) → last_from new s ≡ cond (is_at (nat_cmp first) s) None (last_from lower s)) → Joins greatest lower (first, greatest.1) new number
      joins_greatest new meets takes = joined_below (first, greatest.1) new greatest.1 last_is (record {
        here = here (first, greatest.1) new;
        others = λ s a b. elsewhere (first, greatest.1) new s a ∙ left s a ∙ sym (elsewhere greatest lower s (λ e. b (e ∙ sym meets)));
        no_next = λ l r. next l (sym (none_from (number + 1) (omega (arith, meets))) ∙ sym (left (number + 1) not_first) ∙ sym (elsewhere (first, greatest.1) new (number + 1) not_first) ∙ r);
      }) (λ s l r. all_below s l r (at_tells first s))
        where
          not_first : number + 1 ≢ first
          not_first e = let f = from in omega (arith, e, f)

          last_is : greatest.1 ≡ unwrap_or (last_from (greatest ∷ lower) (number + 1)) number
          last_is = ap (λ o. unwrap_or o number) (sym (subst (λ s. last_from (greatest ∷ lower) s ≡ Some greatest.1) (sym meets) (here greatest lower)))

          left : (s : ℕ) → s ≢ first → last_from new s ≡ last_from lower s
          left s a = by (at_tells first s)
            where
              by : ((is_at (nat_cmp first) s ≡ true) × (first ≡ s)) ⊎ ((is_at (nat_cmp first) s ≡ false) × (first ≢ s)) → last_from new s ≡ last_from lower s
              by (inl y) = absurd (a (sym y.1))
              by (inr n) = takes s ∙ ap (λ t. cond t None (last_from lower s)) n.0

          next : (l : ℕ) → None ≡ Some l → ⊥
          next l h = cc

          j : IsJoined (greatest ∷ lower) number first greatest.1
          j = subst (λ f. IsJoined (greatest ∷ lower) number f greatest.1) (sym first_is) (subst (λ l. IsJoined (greatest ∷ lower) number (begins_at before number) l) (sym last_is) (joins (greatest ∷ lower) are number before finds_below out))

          all_below : (s l : ℕ) → IsRun new s l → ((is_at (nat_cmp first) s ≡ true) × (first ≡ s)) ⊎ ((is_at (nat_cmp first) s ≡ false) × (first ≢ s)) → s < first
          all_below s l r (inl y) = absurd (next l (sym (takes s ∙ ap (λ t. cond t None (last_from lower s)) y.0) ∙ r))
          all_below s l r (inr n) =
              let q : IsRun lower s l = sym (left s (λ e. n.1 (sym e))) ∙ r in
              let b = below s l q in
              let full = lower_are.full s l q in
              ⊎_elim (λ (e : (s ≡ first) × (l + 1 ≡ number)). absurd (n.1 (sym e.0))) (λ (e : l + 1 < first). omega (arith, e, full)) (j.below s l (of_lower s l q) (omega (arith, b, meets)))

      pub joins_others : (new : List (ℕ × ℕ)) (last : ℕ) → number + 1 ≢ greatest.0 → last ≡ unwrap_or (last_from lower (number + 1)) number → Stores lower new number first last → Joins greatest lower greatest new number
      joins_others new last not_next last_is k = joined_below greatest new last (last_is ∙ sym (ap (λ o. unwrap_or o number) (elsewhere greatest lower (number + 1) not_next))) (record {
        here = elsewhere greatest new first (λ e. let f = from in omega (arith, e, f, less)) ∙ k.here;
        others = λ s a b. as_before s a b (eqb_tells s greatest.0);
        no_next = λ l r. k.no_next l (sym (elsewhere greatest new (number + 1) not_next) ∙ r);
      }) (λ s l r. all_below s l r (eqb_tells s first))
        where
          as_before : (s : ℕ) → s ≢ first → s ≢ number + 1 → (((s == greatest.0) ≡ true) × (s ≡ greatest.0)) ⊎ (((s == greatest.0) ≡ false) × (s ≢ greatest.0)) → last_from (greatest ∷ new) s ≡ last_from (greatest ∷ lower) s
          as_before s a b (inl y) = subst (λ n. last_from (greatest ∷ new) n ≡ last_from (greatest ∷ lower) n) (sym y.1) (here greatest new ∙ sym (here greatest lower))
          as_before s a b (inr n) = elsewhere greatest new s n.1 ∙ k.others s a b ∙ sym (elsewhere greatest lower s n.1)

          all_below : (s l : ℕ) → IsRun new s l → (((s == first) ≡ true) × (s ≡ first)) ⊎ (((s == first) ≡ false) × (s ≢ first)) → s < greatest.0
          all_below s l r (inl y) = let f = from in let e = y.1 in omega (arith, e, f, less)
          all_below s l r (inr n) = below s l (sym (k.others s n.1 (λ e. k.no_next l (subst (λ m. IsRun new m l) e r))) ∙ r)

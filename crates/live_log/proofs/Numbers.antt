-- The sequence number, and the present phase or number, over a run.
use Rattle.live_log.proofs.Cited.{◌≡◌, ◌≢◌, ◌⊎◌, Bool, true, false, ℕ, ◌+◌, ◌%◌, ◌^◌, ◌<◌, ◌≤◌, List, [], ◌∷◌, ◌++◌, cond, sym, refl, ap, ◌∙◌, subst, inl, inr, ⊎_elim, arith, none, some, some-injective, some-ne-none, ◌==◌, eqb_tells}
use Rattle.live_log.specs.declared.event.LiveEvent.{LiveEvent}
use Rattle.live_log.specs.declared.event.LiveEvent.TheVariants.{Open, Close, SeqOdd, SeqEven, Present, ChainNote, CloseQueue, Object}
use Rattle.live_log.specs.Log.{Log, open_of, seq_of, present_of, IsLiveRun, MayCopy, MayBePresent, IsBound, Begins}
use Rattle.live_log.proofs.Runs.{by_slot}

-- a note that was allowed stays so where the number does not fall
pub copy_later : (qsbr : Bool) (old new m : ℕ) → (qsbr ≡ true → old ≤ new) → MayCopy qsbr old m → MayCopy qsbr new m
copy_later true old new m rises note = let r = rises refl in omega arith
copy_later false old new m rises note = note

-- what a section may have copied, by the flavour
pub copy_bounds : (qsbr : Bool) (present m : ℕ) → MayCopy qsbr present m → (qsbr ≡ false → m < 2) × (qsbr ≡ true → m ≤ present)
copy_bounds true present m may = ((λ is. absurd (Rattle.std.proofs.Common.true≢false is)), (λ is. may))
copy_bounds false present m may = ((λ is. may), (λ is. absurd (Rattle.std.proofs.Common.true≢false (sym is))))

-- the number after a store is no less
present_rises : (qsbr : Bool) (seq present p : ℕ) → MayBePresent qsbr seq present p → qsbr ≡ true → present ≤ p
present_rises true seq present p t is = t.0
present_rises false seq present p t is = absurd (Rattle.std.proofs.Common.true≢false (sym is))

bound_later : (qsbr : Bool) (seq present : ℕ) → IsBound qsbr seq present → IsBound qsbr (seq + 1) present
bound_later true seq present b = omega arith
bound_later false seq present b = b

bound_present : (qsbr : Bool) (seq present p : ℕ) → MayBePresent qsbr seq present p → IsBound qsbr seq p
bound_present true seq present p t = t.1
bound_present false seq present p t = t

module _ (qsbr : Bool) (allows : Log → LiveEvent → Type 0) where
  -- a number never falls
  pub rises : (since old : Log) → IsLiveRun qsbr allows (since ++ old) → qsbr ≡ true → present_of old ≤ present_of (since ++ old)
  rises [] old run is = omega arith
  rises (Present p ∷ es) old run is = let ih = rises es old run.1 is in let t = present_rises qsbr (seq_of (es ++ old)) (present_of (es ++ old)) p run.0.1 is in omega arith
  rises (SeqOdd ∷ es) old run is = rises es old run.1 is
  rises (SeqEven ∷ es) old run is = rises es old run.1 is
  rises (Open _ _ _ ∷ es) old run is = rises es old run.1 is
  rises (Close _ _ ∷ es) old run is = rises es old run.1 is
  rises (ChainNote _ _ ∷ es) old run is = rises es old run.1 is
  rises (CloseQueue _ ∷ es) old run is = rises es old run.1 is
  rises (Object _ ∷ es) old run is = rises es old run.1 is

  pub present_begins : (old log : Log) → IsLiveRun qsbr allows log → Begins old log → qsbr ≡ true → present_of old ≤ present_of log
  present_begins old log run b is = subst (λ (l : Log). present_of old ≤ present_of l) (sym b.1) (rises b.0 old (subst (IsLiveRun qsbr allows) b.1 run) is)

  -- an open section copied a phase, or a number that is at most the present one
  pub copied_bounded : (log : Log) (r n m : ℕ) → IsLiveRun qsbr allows log → open_of r log ≡ some (n, m) → MayCopy qsbr (present_of log) m
  copied_bounded [] r n m run at = absurd (some-ne-none (n, m) (sym at))
  copied_bounded (Open q i j ∷ es) r n m run at = by_slot (λ x. x ≡ some (n, m) → MayCopy qsbr (present_of es) m) q r (some (i, j)) (open_of r es)
      (λ same e. let z : j ≡ m = ap (λ z. z.1) (some-injective _ _ e) in subst (MayCopy qsbr (present_of es)) z run.0.2) (λ _ e. copied_bounded es r n m run.1 e) at
  copied_bounded (Close q i ∷ es) r n m run at = by_slot (λ x. x ≡ some (n, m) → MayCopy qsbr (present_of es) m) q r none (open_of r es)
      (λ _ e. absurd (some-ne-none (n, m) (sym e))) (λ _ e. copied_bounded es r n m run.1 e) at
  copied_bounded (Present p ∷ es) r n m run at = copy_later qsbr (present_of es) p m (present_rises qsbr (seq_of es) (present_of es) p run.0.1) (copied_bounded es r n m run.1 at)
  copied_bounded (SeqOdd ∷ es) r n m run at = copied_bounded es r n m run.1 at
  copied_bounded (SeqEven ∷ es) r n m run at = copied_bounded es r n m run.1 at
  copied_bounded (ChainNote _ _ ∷ es) r n m run at = copied_bounded es r n m run.1 at
  copied_bounded (CloseQueue _ ∷ es) r n m run at = copied_bounded es r n m run.1 at
  copied_bounded (Object _ ∷ es) r n m run at = copied_bounded es r n m run.1 at

  -- a phase is 0 or 1, and a number is at most the sequence number
  pub bounded : (log : Log) → IsLiveRun qsbr allows log → IsBound qsbr (seq_of log) (present_of log)
  bounded [] run = start qsbr
    where
      start : (b : Bool) → IsBound b 0 0
      start true = omega arith
      start false = omega arith
  bounded (Present p ∷ es) run = bound_present qsbr (seq_of es) (present_of es) p run.0.1
  bounded (SeqOdd ∷ es) run = bound_later qsbr (seq_of es) (present_of es) (bounded es run.1)
  bounded (SeqEven ∷ es) run = bound_later qsbr (seq_of es) (present_of es) (bounded es run.1)
  bounded (Open _ _ _ ∷ es) run = bounded es run.1
  bounded (Close _ _ ∷ es) run = bounded es run.1
  bounded (ChainNote _ _ ∷ es) run = bounded es run.1
  bounded (CloseQueue _ ∷ es) run = bounded es run.1
  bounded (Object _ ∷ es) run = bounded es run.1

  -- the sequence number is at most 2 above the last one that an ask takes
  abbrev pub IsSeq : ℕ → Type 0
  IsSeq n = (n % 2 ≡ 0 → n ≤ 2 ^ 62 + 2) × (n % 2 ≡ 1 → n ≤ 2 ^ 62 + 1)

  pub seq_bounded : (log : Log) → IsLiveRun qsbr allows log → IsSeq (seq_of log)
  seq_bounded [] run = ((λ _. omega arith), λ _. omega arith)
  seq_bounded (SeqOdd ∷ es) run = let m = run.0.1 in let e = run.0.0 in ((λ f. absurd (omega arith)), λ _. omega arith)
  seq_bounded (SeqEven ∷ es) run = let ih = (seq_bounded es run.1).1 run.0.0 in let o = run.0.0 in ((λ _. omega arith), λ f. absurd (omega arith))
  seq_bounded (Present _ ∷ es) run = seq_bounded es run.1
  seq_bounded (Open _ _ _ ∷ es) run = seq_bounded es run.1
  seq_bounded (Close _ _ ∷ es) run = seq_bounded es run.1
  seq_bounded (ChainNote _ _ ∷ es) run = seq_bounded es run.1
  seq_bounded (CloseQueue _ ∷ es) run = seq_bounded es run.1
  seq_bounded (Object _ ∷ es) run = seq_bounded es run.1

  pub seq_low : (log : Log) → IsLiveRun qsbr allows log → seq_of log ≤ 2 ^ 62 + 2
  seq_low log run = let b = seq_bounded log run in
      ⊎_elim
      (λ (even : seq_of log % 2 ≡ 0). b.0 even)
      (λ (odd : seq_of log % 2 ≡ 1). let l = b.1 odd in omega arith)
      (parity (seq_of log))
    where
      parity : (n : ℕ) → (n % 2 ≡ 0) ⊎ (n % 2 ≡ 1)
      parity n = ⊎_elim (λ (y : ((n % 2 == 0) ≡ true) × (n % 2 ≡ 0)). inl y.1) (λ (z : ((n % 2 == 0) ≡ false) × (n % 2 ≢ 0)). let z1 = z.1 in inr (omega arith)) (eqb_tells (n % 2) 0)

-- the sequence number never falls
seq_rises : (since old : Log) → seq_of old ≤ seq_of (since ++ old)
seq_rises [] old = omega arith
seq_rises (SeqOdd ∷ es) old = let ih = seq_rises es old in omega arith
seq_rises (SeqEven ∷ es) old = let ih = seq_rises es old in omega arith
seq_rises (Present _ ∷ es) old = seq_rises es old
seq_rises (Open _ _ _ ∷ es) old = seq_rises es old
seq_rises (Close _ _ ∷ es) old = seq_rises es old
seq_rises (ChainNote _ _ ∷ es) old = seq_rises es old
seq_rises (CloseQueue _ ∷ es) old = seq_rises es old
seq_rises (Object _ ∷ es) old = seq_rises es old

pub seq_begins : (old log : Log) → Begins old log → seq_of old ≤ seq_of log
seq_begins old log b = subst (λ (l : Log). seq_of old ≤ seq_of l) (sym b.1) (seq_rises b.0 old)

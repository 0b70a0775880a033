-- What the words of locks and announcements show.
use Rattle.step_readers.proofs.Cited.{◌≡◌, ◌≢◌, ℕ, zero, suc, ◌+◌, ◌<◌, ◌^◌, [], ◌++◌, Bool, true, false, not, ◌==◌, Ok, sym, refl, ap, ◌∙◌, subst, ⊎_elim, arith, true≢false, eqb_tells, Me, Wide, number, count_of, phase_in, is_open_of, entered_of, NestsDeeper, entered_of-opens, Shows, LiveEvent, Log, seq_of, present_of, IsLiveRun, MayCopy, IsBound, bounded, seq_low, begins_trans, View, Owns, Precedes, at_log, Looked, count_in}
use Rattle.step_readers.specs.Sections.{copied, Stored, opens, announces, Opened, Announced, CopiedBefore}

-- an open word shows what it copied
pub shows_copied : (w : ℕ) → count_of Wide w ≢ 0 → Shows false Wide (copied false w) w
shows_copied w is_open = (is_open, back (phase_in Wide w))
  where
    back : (b : Bool) → b ≡ (number b == 1)
    back true = refl
    back false = refl

pub copy_allowed : (w present : ℕ) → MayCopy false present (copied false w)
copy_allowed w present = low (phase_in Wide w)
  where
    low : (b : Bool) → number b < 2
    low true = omega arith
    low false = omega arith

-- a word that nests deeper shows the same
pub shows_deeper : (w new m : ℕ) → NestsDeeper Wide w new → Shows false Wide m w → Shows false Wide m new
shows_deeper w new m d s = let c = d.count in let s0 = s.0 in ((λ e. omega arith), d.phase ∙ s.1)

pub shows_less : (w new m : ℕ) → NestsDeeper Wide new w → count_of Wide new ≢ 0 → Shows false Wide m w → Shows false Wide m new
shows_less w new m d is_open s = (is_open, sym d.phase ∙ s.1)

pub opened_is : (w : ℕ) → is_open_of Wide w ≡ true → count_of Wide w ≢ 0
opened_is w t e = ⊎_elim (λ (y : ((count_of Wide w == 0) ≡ true) × (count_of Wide w ≡ 0)). true≢false (sym t ∙ ap not y.0)) (λ (n : ((count_of Wide w == 0) ≡ false) × (count_of Wide w ≢ 0)). n.1 e) (eqb_tells (count_of Wide w) 0)

pub shut_is : (w : ℕ) → is_open_of Wide w ≡ false → count_of Wide w ≡ 0
shut_is w t = ⊎_elim (λ (y : ((count_of Wide w == 0) ≡ true) × (count_of Wide w ≡ 0)). y.1) (λ (n : ((count_of Wide w == 0) ≡ false) × (count_of Wide w ≢ 0)). absurd (true≢false (sym (ap not n.0) ∙ t))) (eqb_tells (count_of Wide w) 0)

-- a phase is copied by the word that it makes
pub phase_copied : (b : Bool) → b ≡ false → (word new seq present : ℕ) → count_of Wide word ≡ 0 → entered_of Wide word (present == 1) ≡ Ok new → IsBound b seq present → present ≡ copied b new
phase_copied true is word new seq present closed made low = absurd (true≢false is)
phase_copied false is word new seq present closed made low = is_number present low ∙ ap number (sym (entered_of-opens Wide word (present == 1) new closed made).1)
  where
    is_number : (n : ℕ) → n < 2 → n ≡ number (n == 1)
    is_number zero l = refl
    is_number (suc zero) l = refl
    is_number (suc (suc n)) l = absurd (omega arith)

-- and a number by the word that announces it
pub number_copied : (b : Bool) → b ≡ true → (word present : ℕ) → word ≡ present + 1 → present ≡ copied b word
number_copied true is word present e = omega arith
number_copied false is word present e = absurd (true≢false (sym is))

module _ (qsbr : Bool) (allows : Log → LiveEvent → Type 0) where
  -- a number is far below 2^63
  pub number_low : (log : Log) → IsLiveRun qsbr allows log → qsbr ≡ true → present_of log < 2 ^ 63
  number_low log run is = below qsbr (present_of log) (bounded qsbr allows log run) is
    where
      below : (b : Bool) (present : ℕ) → IsBound b (seq_of log) present → b ≡ true → present < 2 ^ 63
      below true present b t = let s = seq_low qsbr allows log run in omega arith
      below false present b t = absurd (true≢false (sym t))

module _ {S : Type 0} (qsbr : Bool) (allows : Log → LiveEvent → Type 0) where
  through : (m mid : Me S View) → Looked qsbr allows m mid → Precedes m.0 mid.0.seen
  through m mid look = (begins_trans m.0.seen look.1.0 mid.0.seen look.1.2 ([], look.1.1), begins_trans m.0.heard look.1.0 mid.0.seen look.1.3 ([], look.1.1))

  -- a load leaves the count of sections alone
  same_count : (m mid : Me S View) → Looked qsbr allows m mid → count_in mid.0.slot ≡ count_in m.0.slot
  same_count m mid look = ap (λ (z : Me S View). count_in z.0.slot) look.0

  -- a load, and then a store
  stored_after : (r x count : ℕ) (events : Log) (m mid m' : Me S View) → Looked qsbr allows m mid → Stored qsbr allows r x count events mid m' → Stored qsbr allows r x count events m m'
  stored_after r x count events m mid m' look st = (
    st.0 ∙ ap (λ (z : Me S View). (record (at_log z.0 m'.0.seen) { slot = Owns r x count }, z.1)) look.0,
    (st.1.0, st.1.1, begins_trans m.0.seen mid.0.seen st.1.0 (through m mid look).0 st.1.2, begins_trans m.0.heard mid.0.seen st.1.0 (through m mid look).1 st.1.2, st.1.4),
    st.2,
  )

  -- the same, of a lock and of an announcement
  pub opened_after : (r x : ℕ) (m mid m' : Me S View) → Looked qsbr allows m mid → Opened qsbr allows r x mid m' → Opened qsbr allows r x m m'
  opened_after r x m mid m' look st = subst (λ (k : ℕ). Stored qsbr allows r x (k + 1) (opens qsbr r k x) m m') (same_count m mid look)
      (stored_after r x (count_in mid.0.slot + 1) (opens qsbr r (count_in mid.0.slot) x) m mid m' look st)

  pub announced_after : (r x : ℕ) (m mid m' : Me S View) → Looked qsbr allows m mid → Announced qsbr allows r x mid m' → Announced qsbr allows r x m m'
  announced_after r x m mid m' look st = subst (λ (k : ℕ). Stored qsbr allows r x (k + 1) (announces qsbr r k x) m m') (same_count m mid look)
      (stored_after r x (count_in mid.0.slot + 1) (announces qsbr r (count_in mid.0.slot) x) m mid m' look st)

  -- what was loaded is what the store's word copied
  pub copied_before : (written : ℕ → ℕ → ℕ → Log) (r x count : ℕ) (m mid m' : Me S View) → Looked qsbr allows m mid → Stored qsbr allows r x count (written r (count_in mid.0.slot) x) mid m' → present_of mid.0.seen ≡ copied qsbr x
      → CopiedBefore qsbr allows r x m m' (written r (count_in m.0.slot) x)
  copied_before written r x count m mid m' look st is =
      let b = st.1.2 in
      subst (λ (k : ℕ). CopiedBefore qsbr allows r x m m' (written r k x)) (same_count m mid look)
      (mid.0.seen, b.0, through m mid look, st.1.1 ∙ ap (λ (l : Log). written r (count_in mid.0.slot) x ++ l) b.1, is)

-- What the loads of slots' words tell, one after another.
use Rattle.live_waits.proofs.Cited.{◌≡◌, ◌≢◌, ◌⊎◌, ℕ, suc, ◌+◌, ◌%◌, ◌==◌, Bool, true, false, List, [], ◌∷◌, ◌++◌, sym, refl, ap, ◌∙◌, subst, inl, inr, ⊎_elim, arith, eq-eqb, true≢false, if◌then◌else◌, not, ◌&&◌, Option, none, some, some-ne-none, In, Wide, count_of, differ, phase_in, announced, stands_before, LiveEvent, Log, Begins, IsLiveRun, open_of, present_of, seq_of, begins_trans, Loaded, Sizes, slot_at, Fits}
use Rattle.live_waits.specs.Status.{AreInWay, HadOpen, Looks, Stalls}

-- with the slot of one more word
abbrev pub and_slot : Bool → ℕ → ℕ → ℕ → List ℕ → List ℕ
and_slot qsbr present r word before = if stands_before qsbr Wide present word then before ++ r ∷ [] else before

pub chosen : (qsbr : Bool) (present r word : ℕ) (before : List ℕ) (b : Bool) → stands_before qsbr Wide present word ≡ b → and_slot qsbr present r word before ≡ (if b then before ++ r ∷ [] else before)
chosen qsbr present r word before b e = ap (λ t. if t then before ++ r ∷ [] else before) e

pub way_more : (qsbr : Bool) (present r word : ℕ) (before slots : List ℕ) (found : Looks) → slots ≡ and_slot qsbr present r word before → AreInWay qsbr present r before found → AreInWay qsbr present (r + 1) slots (Loaded (slot_at r) word ∷ found)
way_more qsbr present r word before slots found is way =
    let next : AreInWay qsbr present (suc r) slots (Loaded (slot_at r) word ∷ found) = (word, before, found, refl, is, way) in
    let one : suc r ≡ r + 1 = omega arith in
    subst (λ (n : ℕ). AreInWay qsbr present n slots (Loaded (slot_at r) word ∷ found)) one next

-- a word that stands in the way is that of an open section
stands_open : (qsbr : Bool) (present word : ℕ) (is : Option (ℕ × ℕ)) → Fits qsbr word is → stands_before qsbr Wide present word ≡ true → is ≢ none
stands_open false present word none fits stands e =
    let closed : (count_of Wide word == 0) ≡ true = eq-eqb (count_of Wide word) 0 fits in
    true≢false (sym stands ∙ ap (λ b. not b && differ (phase_in Wide word) (present == 1)) closed)
stands_open true present word none fits stands e =
    let closed : (word == 0) ≡ true = eq-eqb word 0 fits in
    true≢false (sym stands ∙ ap (λ b. not b && not (word == announced present)) closed)
stands_open qsbr present word (some x) fits stands e = some-ne-none x e

in_both : (xs : List ℕ) (y x : ℕ) → In (xs ++ y ∷ []) x → In xs x ⊎ (y ≡ x)
in_both [] y x (inl e) = inr e
in_both [] y x (inr z) = absurd z
in_both (z ∷ zs) y x (inl e) = inl (inl e)
in_both (z ∷ zs) y x (inr i) = ⊎_elim (λ h. inl (inr h)) inr (in_both zs y x i)

pub open_later : (first old new : Log) (slots : List ℕ) → Begins old new → HadOpen first old slots → HadOpen first new slots
open_later first old new slots b had r i = let h = had r i in (h.0, h.1, begins_trans h.0 old new h.2 b, h.3)

-- of one more slot
pub open_more : (qsbr : Bool) (present r word : ℕ) (first old new : Log) (slots : List ℕ) → Begins first new → Begins old new → Fits qsbr word (open_of r new) → stands_before qsbr Wide present word ≡ true → HadOpen first old slots → HadOpen first new (slots ++ r ∷ [])
open_more qsbr present r word first old new slots after b fits stands had q i = ⊎_elim
    (λ (h : In slots q). open_later first old new slots b had q h)
    (λ (e : r ≡ q). (new, after, ([], refl), subst (λ (n : ℕ). open_of n new ≢ none) e (stands_open qsbr present word (open_of r new) fits stands)))
    (in_both slots r q i)

-- a scan of this many slots, before all of them
pub record Scanning (qsbr : Bool) (allows : Log → LiveEvent → Type 0) (seen heard : Log) (old_loads new_loads : List Log) (old new : Looks) (present slot : ℕ) (slots : List ℕ) (log : Log) : Type 0 where
  pub start : Log
  pub scanned : Log
  pub found : Looks
  pub load : new_loads ≡ start ∷ old_loads
  pub looks : new ≡ found ++ old
  pub after : Begins seen start × Begins heard start
  pub odd : seq_of start % 2 ≢ 0
  pub began : Begins start scanned × (present_of scanned ≡ present)
  pub later : Begins scanned log
  pub run : IsLiveRun qsbr allows log
  pub way : AreInWay qsbr present slot slots found
  pub had_open : HadOpen start log slots

module _ (qsbr : Bool) (allows : Log → LiveEvent → Type 0) (seen heard : Log) (old_loads loads : List Log) (old : Looks) (present slot word : ℕ) where
  -- the word of one more slot
  pub scan_more : (more_loads : List Log) (looks more : Looks) (slots next : List ℕ) (log now : Log) → more_loads ≡ loads → more ≡ Loaded (slot_at slot) word ∷ looks → Begins log now → IsLiveRun qsbr allows now → Fits qsbr word (open_of slot now)
      → next ≡ and_slot qsbr present slot word slots → Scanning qsbr allows seen heard old_loads loads old looks present slot slots log → Scanning qsbr allows seen heard old_loads more_loads old more present (slot + 1) next now
  scan_more more_loads looks more slots next log now same one after run fits is s = record {
    start = s.start;
    scanned = s.scanned;
    found = Loaded (slot_at slot) word ∷ s.found;
    load = same ∙ s.load;
    looks = one ∙ ap (λ (l : Looks). Loaded (slot_at slot) word ∷ l) s.looks;
    after = s.after;
    odd = s.odd;
    began = s.began;
    later = begins_trans s.scanned log now s.later after;
    run = run;
    way = way_more qsbr present slot word slots next s.found is s.way;
    had_open = subst (HadOpen s.start now) (sym is) (opened (stands_before qsbr Wide present word) refl);
  }
    where
      opened : (b : Bool) → stands_before qsbr Wide present word ≡ b → HadOpen s.start now (if stands_before qsbr Wide present word then slots ++ slot ∷ [] else slots)
      opened true e = subst (λ (b : Bool). HadOpen s.start now (if b then slots ++ slot ∷ [] else slots)) (sym e)
          (open_more qsbr present slot word s.start log now slots (begins_trans s.start s.scanned now s.began.0 (begins_trans s.scanned log now s.later after)) after fits e s.had_open)
      opened false e = subst (λ (b : Bool). HadOpen s.start now (if b then slots ++ slot ∷ [] else slots)) (sym e) (open_later s.start log now slots after s.had_open)

  -- the scan is over
  pub scan_over : (key : Sizes) (looks : Looks) (slots : List ℕ) (log : Log) → slot ≡ key.slots → Scanning qsbr allows seen heard old_loads loads old looks present slot slots log → Stalls qsbr allows key seen heard old_loads loads old looks slots log
  scan_over key looks slots log all s = record {
    start = s.start;
    found = s.found;
    load = s.load;
    looks = s.looks;
    after = s.after;
    later = begins_trans s.start s.scanned log s.began.0 s.later;
    run = s.run;
    resting = λ even. absurd (s.odd even);
    running = λ _. (s.scanned, s.began.0, s.later, subst (λ (n : ℕ). AreInWay qsbr n key.slots slots s.found) (sym s.began.1) (subst (λ (n : ℕ). AreInWay qsbr present n slots s.found) all s.way));
    had_open = s.had_open;
  }

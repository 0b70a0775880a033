-- A step on a group word keeps the rule.
use Rattle.step_readers.proofs.Cited.{◌≡◌, ◌≢◌, ℕ, ◌/◌, ◌%◌, ◌==◌, ◌<◌, List, [], ◌∷◌, Bool, true, false, true≢false, length, get_or, set, sym, refl, ap, ◌∙◌, subst, arith, bit_and, bit_or, get_or-set_other, get_or-set_same, bit_at-zero, dite, Option, none, some, ℕ_discrete, get_elem?, State, Me, Act, step, keeps, stepped, Valid, carried_after, Allows, bit_of, LiveEvent, Log, open_of, sections_of, Sizes, Look, Loaded, Stored, View, SlotRight, seq_at, present_at, group_at, slot_at, bit_at, IsClosed, Fits, ReaderWords, slot, ClaimsSlot, KnowsSlot, KeepsRule, at_log, SameSlot, SlotStep, quiet_same, slots_kept, gained_slot, given_slot, grace_kept, low_stores, looks, look_all, count_in}
use Rattle.live_rule.specs.declared.rights.SlotRight.TheVariants as slot_right
use Rattle.step_readers.specs.Groups.{SetsBit, ClearsBit, DiffersAt, claimed, released, looked_group}

not_both : {b : Bool} → b ≡ true → b ≡ false → ⊥
not_both on off = true≢false (sym on ∙ off)

-- a closed word fits no open section
closed_fits : (b : Bool) (w : ℕ) (o : Option (ℕ × ℕ)) → Fits b w o → IsClosed b w → o ≡ none
closed_fits b w none f z = refl
closed_fits false w (some x) f z = absurd (f.0 z)
closed_fits true w (some x) f z = absurd (omega arith)

-- one slot has this bit
one_slot : (r q k : ℕ) → group_at (r / 64) ≡ group_at (q / 64) → SetsBit (r % 64) k → SetsBit (q % 64) k → r ≡ q
one_slot r q k same a b = dite (ℕ_discrete (q % 64) (r % 64)) (λ e. omega arith)
    (λ far. absurd (not_both (b.0 0) (a.1 0 (q % 64) far ∙ ap (λ (m : ℕ). m == 1) (bit_at-zero (q % 64)))))

sets_differ : (r k n : ℕ) → SetsBit (r % 64) k → DiffersAt r n (bit_or n k)
sets_differ r k n sets q same far = sets.1 n (q % 64) (λ e. far (omega arith))

clears_differ : (r k n : ℕ) → ClearsBit (r % 64) k → DiffersAt r n (bit_and n k)
clears_differ r k n clears q same far = clears.1 n (q % 64) (omega arith) (λ e. far (omega arith))

-- the words, once this one is that of the group of slot r
module _ (qsbr : Bool) (key : Sizes) (log : Log) (words : List ℕ) (r x : ℕ) (low : r < key.slots) (g : ReaderWords qsbr key.slots log words) where
  abbrev i : ℕ
  i = group_at (r / 64)

  abbrev W : List ℕ
  W = set words i x

  place : i < 52
  place = let small = g.small in omega arith

  else : (j : ℕ) → j ≢ i → get_or W j 0 ≡ get_or words j 0
  else j far = get_or-set_other words i j x 0 far

  slot_else : (q : ℕ) → get_or W (slot_at q) 0 ≡ get_or words (slot_at q) 0
  slot_else q = let p = place in else (slot_at q) (λ e. omega arith)

  module _ (inside : i < length words) (differs : DiffersAt r (get_or words i 0) x) where
    bit_here : bit_at W r ≡ bit_of x (r % 64)
    bit_here = ap (λ (z : ℕ). bit_of z (r % 64)) (get_or-set_same words i x 0 inside)

    bit_else : (q : ℕ) → q ≢ r → bit_at W q ≡ bit_at words q
    bit_else q far = dite (ℕ_discrete (q / 64) (r / 64))
        (λ e. ap (λ (z : ℕ). bit_of (get_or W (group_at z) 0) (q % 64)) e ∙ (ap (λ (z : ℕ). bit_of z (q % 64)) (get_or-set_same words i x 0 inside) ∙ (differs q e far ∙ ap (λ (z : ℕ). bit_of (get_or words (group_at z) 0) (q % 64)) (sym e))))
        (λ other. ap (λ (z : ℕ). bit_of z (q % 64)) (else (group_at (q / 64)) (λ e. other (omega arith))))

    others : (q : ℕ) → q < key.slots → q ≢ r → SameSlot log log words W q
    others q lq far = (slot_else q, refl, bit_else q far)

    reading : (bit_of x (r % 64) ≡ false → open_of r log ≡ none) → ReaderWords qsbr key.slots log W
    reading shut = let p = place in record {
      small = g.small;
      each_slot = λ q lq. subst (λ (z : ℕ). Fits qsbr z (open_of q log)) (sym (slot_else q)) (g.each_slot q lq);
      beyond = g.beyond;
      bits = λ q lq zero. dite (ℕ_discrete q r)
          (λ e. ap (λ (z : ℕ). open_of z log) e ∙ shut (sym bit_here ∙ (ap (bit_at W) (sym e) ∙ zero)))
          (λ far. g.bits q lq (sym (bit_else q far) ∙ zero));
      seq = else seq_at (λ e. omega arith) ∙ g.seq;
      present = else present_at (λ e. omega arith) ∙ g.present;
    }

abbrev slot_or : SlotRight → ℕ
slot_or (slot_right.Owns r w k) = r
slot_or _ = 0

module _ {S : Type 0} (qsbr : Bool) (allows : Log → LiveEvent → Type 0) (key : Sizes) (slots id : ℕ) (me : Me S View) where
  abbrev Rule : State S View → Type 0
  Rule = KeepsRule qsbr allows key

  pub looks_group : (a : ℕ) → Allows Rule slots id me a (λ n. n) (looked_group qsbr allows (step slots a 0 0 none) me)
  looks_group a s rule deep at fine =
      let v : View = me.0 in
      let n : ℕ = get_or s.words a 0 in
      let b = rule.seen id v at in
      let w : View = record v { seen = rule.log; looks = Loaded a n ∷ v.looks } in
      (w, keeps, tt, looks qsbr allows key s rule id a v w at refl refl (look_all qsbr allows key s rule id v w at (refl, refl, refl, refl, refl, refl)), (refl, refl, (b.0, b.1, rule.run)))

  -- the bit of a slot is changed, and this is the seat's right to it then
  changes : (s : State S View) (rule : Rule s) (at : get_elem? s.views id ≡ some me.0) (r x : ℕ) (right : SlotRight) (looks : List Look) → r < key.slots → DiffersAt r (get_or s.words (group_at (r / 64)) 0) x
      → (bit_of x (r % 64) ≡ false → open_of r rule.log ≡ none) → SlotStep qsbr allows key s rule id (group_at (r / 64)) x me.0 rule.log at right
      → Rule record { words = set s.words (group_at (r / 64)) x; homes = s.homes; views = set s.views id (record (at_log me.0 rule.log) { slot = right; looks = looks }) }
  changes s rule at r x right looks low differs shut slots = let g = rule.agree.readers in let small = g.small in let wide = rule.wide in
      low_stores qsbr allows key s rule id (group_at (r / 64)) x me.0 rule.log at right me.0.grace looks (quiet_same rule.log) rule.run (omega arith)
      (reading qsbr key rule.log s.words r x low g (omega arith) differs shut) slots
      (grace_kept qsbr allows key s rule id (group_at (r / 64)) x me.0 rule.log at ([], refl) (refl, refl, refl))

  -- a slot's bit is set, where it was this
  tries : (s : State S View) (rule : Rule s) (at : get_elem? s.views id ≡ some me.0) (r k : ℕ) → r < key.slots → SetsBit (r % 64) k → (b : Bool) → bit_of (get_or s.words (group_at (r / 64)) 0) (r % 64) ≡ b
      → (w : View) × (a : Act S) × Valid s.homes me.1 a × Rule (stepped s (group_at (r / 64)) (bit_or (get_or s.words (group_at (r / 64)) 0) k) id me.1 w a) × claimed qsbr allows (step slots (group_at (r / 64)) k 0 none) me (get_or s.words (group_at (r / 64)) 0) (w, carried_after me.1 a)
  tries s rule at r k low sets true taken =
      let v : View = me.0 in
      let n : ℕ = get_or s.words (group_at (r / 64)) 0 in
      let g = rule.agree.readers in
      let small = g.small in
      let wide = rule.wide in
      let b = rule.seen id v at in
      let differs = sets_differ r k n sets in
      let inside : group_at (r / 64) < length s.words = omega arith in
      let same : (q : ℕ) → q < key.slots → SameSlot rule.log rule.log s.words (set s.words (group_at (r / 64)) (bit_or n k)) q = λ q lq. dite (ℕ_discrete q r)
      (λ e. (slot_else qsbr key rule.log s.words r (bit_or n k) low g q, refl, ap (bit_at (set s.words (group_at (r / 64)) (bit_or n k))) e ∙ (bit_here qsbr key rule.log s.words r (bit_or n k) low g inside differs ∙ (sets.0 n ∙ (sym taken ∙ ap (bit_at s.words) (sym e))))))
      (others qsbr key rule.log s.words r (bit_or n k) low g inside differs q lq) in (
        record (at_log v rule.log) { looks = Loaded (group_at (r / 64)) n ∷ v.looks },
        keeps,
        tt,
        changes s rule at r (bit_or n k) v.slot (Loaded (group_at (r / 64)) n ∷ v.looks) low differs (λ off. absurd (not_both (sets.0 n) off)) (slots_kept qsbr allows key s rule id (group_at (r / 64)) (bit_or n k) v rule.log at same),
        λ q same_word sets'. let e : r ≡ q = one_slot r q k same_word sets sets' in
            ((λ free. absurd (not_both (subst (λ (z : ℕ). bit_of n (z % 64) ≡ true) e taken) free)), (λ _. (refl, ap (λ (z : ℕ). record (at_log v rule.log) { looks = Loaded z n ∷ v.looks }) same_word, (b.0, b.1, rule.run)))),
      )
  tries s rule at r k low sets false free =
      let v : View = me.0 in
      let n : ℕ = get_or s.words (group_at (r / 64)) 0 in
      let g = rule.agree.readers in
      let small = g.small in
      let wide = rule.wide in
      let b = rule.seen id v at in
      let differs = sets_differ r k n sets in
      let inside : group_at (r / 64) < length s.words = omega arith in
      let word : ℕ = get_or s.words (slot_at r) 0 in
      let right : SlotRight = slot_right.Owns r word (sections_of r rule.log) in
      let shut = g.bits r low free in (
        record (at_log v rule.log) { slot = right; looks = Stored (group_at (r / 64)) (bit_or n k) ∷ Loaded (group_at (r / 64)) n ∷ v.looks },
        keeps,
        tt,
        changes s rule at r (bit_or n k) right (Stored (group_at (r / 64)) (bit_or n k) ∷ Loaded (group_at (r / 64)) n ∷ v.looks) low differs (λ _. shut)
            (gained_slot qsbr allows key s rule id (group_at (r / 64)) (bit_or n k) v rule.log at r right free (λ p c. c)
            (low, slot_else qsbr key rule.log s.words r (bit_or n k) low g r, refl, bit_here qsbr key rule.log s.words r (bit_or n k) low g inside differs ∙ sets.0 n)
            (others qsbr key rule.log s.words r (bit_or n k) low g inside differs)),
        λ q same_word sets'. let e : r ≡ q = one_slot r q k same_word sets sets' in (
          (λ _. record {
            left = bit_or n k;
            is_set = sets'.0 n;
            others = subst (λ (z : ℕ). DiffersAt z n (bit_or n k)) e differs;
            went = (refl, ap (λ (z : ℕ). record (at_log v rule.log) { slot = right; looks = Stored z (bit_or n k) ∷ Loaded z n ∷ v.looks }) same_word, (b.0, b.1, rule.run));
            claimed = record {
              owns = ap (λ (z : ℕ). slot_right.Owns z word (sections_of r rule.log)) e;
              closed = subst (Fits qsbr word) shut (g.each_slot r low);
              none_open = ap (λ (z : ℕ). open_of z rule.log) (sym e) ∙ shut;
              counted = ap (λ (z : ℕ). sections_of z rule.log) (sym e);
            };
          }),
          (λ taken. absurd (not_both taken (subst (λ (z : ℕ). bit_of n (z % 64) ≡ false) e free))),
        ),
      )

  pub claims : (r k : ℕ) → r < key.slots → SetsBit (r % 64) k → Allows Rule slots id me (group_at (r / 64)) (λ n. bit_or n k) (claimed qsbr allows (step slots (group_at (r / 64)) k 0 none) me)
  claims r k low sets s rule deep at fine = tries s rule at r k low sets (bit_of (get_or s.words (group_at (r / 64)) 0) (r % 64)) refl

  pub releases : (r w c k : ℕ) → me.0.slot ≡ slot_right.Owns r w c → IsClosed qsbr w → ClearsBit (r % 64) k → Allows Rule slots id me (group_at (r / 64)) (λ n. bit_and n k) (released qsbr allows (step slots (group_at (r / 64)) k 0 none) me)
  releases r w c k is shut clears s rule deep at fine =
      let v : View = me.0 in
      let n : ℕ = get_or s.words (group_at (r / 64)) 0 in
      let g = rule.agree.readers in
      let small = g.small in
      let wide = rule.wide in
      let b = rule.seen id v at in
      let claim : ClaimsSlot v.slot r = subst (λ (z : SlotRight). ClaimsSlot z r) (sym is) refl in
      let mine = subst (λ (z : SlotRight). KnowsSlot qsbr key rule.log s.words z r) is (rule.knows (slot r) id v at claim) in
      let low = mine.0 in
      let differs = clears_differ r k n clears in
      let inside : group_at (r / 64) < length s.words = omega arith in (
        record (at_log v rule.log) { slot = slot_right.Nothing; looks = Stored (group_at (r / 64)) (bit_and n k) ∷ v.looks },
        keeps,
        tt,
        changes s rule at r (bit_and n k) slot_right.Nothing (Stored (group_at (r / 64)) (bit_and n k) ∷ v.looks) low differs
            (λ _. closed_fits qsbr w (open_of r rule.log) (subst (λ (z : ℕ). Fits qsbr z (open_of r rule.log)) mine.1 (g.each_slot r low)) shut)
            (given_slot qsbr allows key s rule id (group_at (r / 64)) (bit_and n k) v rule.log at r claim (others qsbr key rule.log s.words r (bit_and n k) low g inside differs)),
        λ q w' c' is' clears'. let e : r ≡ q = ap slot_or (sym is ∙ is') in record {
          found = n;
          left = bit_and n k;
          was_set = ap (λ (z : ℕ). bit_of n (z % 64)) (sym e) ∙ mine.3;
          is_clear = clears'.0 n;
          others = subst (λ (z : ℕ). DiffersAt z n (bit_and n k)) e differs;
          counted = ap (λ (z : ℕ). sections_of z rule.log) (sym e) ∙ (mine.2 ∙ ap count_in (sym is));
          went = (refl, ap (λ (z : ℕ). record (at_log v rule.log) { slot = slot_right.Nothing; looks = Stored (group_at (z / 64)) (bit_and n k) ∷ v.looks }) e, (b.0, b.1, rule.run));
        },
      )

-- A store of a reader's word keeps the rule.
use Rattle.step_readers.proofs.Cited.{◌≡◌, ◌≢◌, ℕ, ◌+◌, ◌/◌, ◌%◌, ◌<◌, ◌≤◌, List, [], ◌∷◌, ◌++◌, Bool, true, cond, length, get_or, set, sym, refl, ap, ◌∙◌, subst, arith, get_or-set_other, get_or-set_same, ne_eqb, true≢false, dite, Option, none, some, ℕ_discrete, State, Me, keeps, Allows, LiveEvent, Open, Close, SeqOdd, SeqEven, Present, ChainNote, CloseQueue, Object, Log, open_of, sections_of, seq_of, present_of, before_odd, chain_note, closed_of, objects_of, IsLiveRun, Sizes, View, SlotRight, Owns, seq_at, present_at, group_at, slot_at, bit_at, bit_of, Fits, ReaderWords, slot, ClaimsSlot, KnowsSlot, KeepsRule, Precedes, at_log, own_slot, grace_kept, low_stores}
use Rattle.step_readers.specs.Sections.{IsAt, Stored}

-- each of these events is of this slot
abbrev pub IsOf : ℕ → Log → Type 0
IsOf r [] = Unit {0}
IsOf r (Open q n m ∷ es) = (q ≡ r) × IsOf r es
IsOf r (Close q n ∷ es) = (q ≡ r) × IsOf r es
IsOf r (SeqOdd ∷ es) = ⊥
IsOf r (SeqEven ∷ es) = ⊥
IsOf r (Present _ ∷ es) = ⊥
IsOf r (ChainNote _ _ ∷ es) = ⊥
IsOf r (CloseQueue _ ∷ es) = ⊥
IsOf r (Object _ ∷ es) = ⊥

-- such events leave all else alone
record Apart (r : ℕ) (events log : Log) : Type 0 where
  others : (q : ℕ) → q ≢ r → (open_of q (events ++ log) ≡ open_of q log) × (sections_of q (events ++ log) ≡ sections_of q log)
  seq : seq_of (events ++ log) ≡ seq_of log
  present : present_of (events ++ log) ≡ present_of log
  mark : before_odd (events ++ log) ≡ before_odd log
  objects : objects_of (events ++ log) ≡ objects_of log
  notes : (c : ℕ) → chain_note c (events ++ log) ≡ chain_note c log
  closed : (q : ℕ) → closed_of q (events ++ log) ≡ closed_of q log

apart : (r : ℕ) (events log : Log) → IsOf r events → Apart r events log
apart r [] log of = record { others = λ q far. (refl, refl); seq = refl; present = refl; mark = refl; objects = refl; notes = λ c. refl; closed = λ q. refl }
apart r (Open p n m ∷ es) log of = let a = apart r es log of.1 in record {
  others = λ q far. let b = ne_eqb p q (λ e. far (sym e ∙ of.0)) in let o = a.others q far in (ap (λ b. cond b (some (n, m)) (open_of q (es ++ log))) b ∙ o.0, ap (λ b. cond b (sections_of q (es ++ log) + 1) (sections_of q (es ++ log))) b ∙ o.1);
  seq = a.seq;
  present = a.present;
  mark = a.mark;
  objects = a.objects;
  notes = a.notes;
  closed = a.closed;
}
apart r (Close p n ∷ es) log of = let a = apart r es log of.1 in record {
  others = λ q far. let b = ne_eqb p q (λ e. far (sym e ∙ of.0)) in let o = a.others q far in (ap (λ b. cond b none (open_of q (es ++ log))) b ∙ o.0, o.1);
  seq = a.seq;
  present = a.present;
  mark = a.mark;
  objects = a.objects;
  notes = a.notes;
  closed = a.closed;
}
apart r (SeqOdd ∷ es) log of = absurd of
apart r (SeqEven ∷ es) log of = absurd of
apart r (Present _ ∷ es) log of = absurd of
apart r (ChainNote _ _ ∷ es) log of = absurd of
apart r (CloseQueue _ ∷ es) log of = absurd of
apart r (Object _ ∷ es) log of = absurd of

abbrev pub slot_or : SlotRight → ℕ × ℕ × ℕ
slot_or (Owns r w k) = (r, w, k)
slot_or _ = (0, 0, 0)

-- the word of slot r
module _ (qsbr : Bool) (key : Sizes) (log : Log) (words : List ℕ) (r x : ℕ) (low : r < key.slots) (small : key.slots ≤ 256) (events : Log) (a : Apart r events log) where
  abbrev W : List ℕ
  W = set words (slot_at r) x

  abbrev L : Log
  L = events ++ log

  slot_else : (q : ℕ) → q ≢ r → get_or W (slot_at q) 0 ≡ get_or words (slot_at q) 0
  slot_else q far = get_or-set_other words (slot_at r) (slot_at q) x 0 (λ e. far (omega arith))

  groups : (g : ℕ) → g < 4 → get_or W (group_at g) 0 ≡ get_or words (group_at g) 0
  groups g l = get_or-set_other words (slot_at r) (group_at g) x 0 (λ e. omega arith)

  bits : (q : ℕ) → q < key.slots → bit_at W q ≡ bit_at words q
  bits q l = ap (λ (z : ℕ). bit_of z (q % 64)) (groups (q / 64) (omega arith))

  reading : slot_at r < length words → bit_at words r ≡ true → Fits qsbr x (open_of r L) → ReaderWords qsbr key.slots log words → ReaderWords qsbr key.slots L W
  reading inside set_bit fits g = record {
    small = small;
    each_slot = λ q lq. dite (ℕ_discrete q r)
        (λ e. subst (λ (z : ℕ). Fits qsbr (get_or W (slot_at z) 0) (open_of z L)) (sym e) (subst (λ (z : ℕ). Fits qsbr z (open_of r L)) (sym (get_or-set_same words (slot_at r) x 0 inside)) fits))
        (λ far. subst (λ (z : ℕ × Option (ℕ × ℕ)). Fits qsbr z.0 z.1) (λ i. (sym (slot_else q far) i, sym (a.others q far).0 i)) (g.each_slot q lq));
    beyond = λ q far. (a.others q (λ e. omega arith)).0 ∙ g.beyond q far;
    bits = λ q lq zero. dite (ℕ_discrete q r)
        (λ e. absurd (true≢false (sym set_bit ∙ (ap (bit_at words) (sym e) ∙ (sym (bits q lq) ∙ zero)))))
        (λ far. (a.others q far).0 ∙ g.bits q lq (sym (bits q lq) ∙ zero));
    seq = get_or-set_other words (slot_at r) seq_at x 0 (λ e. omega arith) ∙ (g.seq ∙ sym a.seq);
    present = get_or-set_other words (slot_at r) present_at x 0 (λ e. omega arith) ∙ (g.present ∙ sym a.present);
  }

module _ {S : Type 0} (qsbr : Bool) (allows : Log → LiveEvent → Type 0) (key : Sizes) where
  abbrev Rule : State S View → Type 0
  Rule = KeepsRule qsbr allows key

  -- the owner of a slot stores a word that fits what the events leave open
  pub stores : (slots id : ℕ) (me : Me S View) (r w k x count : ℕ) (events : Log) → me.0.slot ≡ Owns r w k → IsOf r events
      → ((log : Log) → IsLiveRun qsbr allows log → Precedes me.0 log → IsAt qsbr r w k log → IsLiveRun qsbr allows (events ++ log) × IsAt qsbr r x count (events ++ log))
      → Allows Rule slots id me (slot_at r) (λ _. x)
      (λ _ m'. Stored qsbr allows r x count events me m')
  stores slots id me r w k x count events is of fits s rule deep at fine =
      let v : View = me.0 in
      let claim : ClaimsSlot v.slot r = subst (λ (y : SlotRight). ClaimsSlot y r) (sym is) refl in
      let mine = subst (λ (y : SlotRight). KnowsSlot qsbr key rule.log s.words y r) is (rule.knows (slot r) id v at claim) in
      let low = mine.0 in
      let g = rule.agree.readers in
      let small = g.small in
      let wide = rule.wide in
      let f = fits rule.log rule.run (rule.seen id v at) (subst (λ (z : ℕ). Fits qsbr z (open_of r rule.log)) mine.1 (g.each_slot r low), mine.2) in
      let log' : Log = events ++ rule.log in
      let inside : slot_at r < length s.words = omega arith in
      let a : Apart r events rule.log = apart r events rule.log of in
      let bit = bits qsbr key rule.log s.words r x low small events a in (
        record (at_log v log') { slot = Owns r x count },
        keeps,
        tt,
        low_stores qsbr allows key s rule id (slot_at r) x v log' at (Owns r x count) v.grace v.looks (record { objects = a.objects; notes = a.notes; closed = a.closed; more = (events, refl) }) f.0 (omega arith)
            (reading qsbr key rule.log s.words r x low small events a inside mine.3 f.1.0 g)
            (own_slot qsbr allows key s rule id (slot_at r) x v log' at r (Owns r x count) claim (λ p c. c) (low, get_or-set_same s.words (slot_at r) x 0 inside, f.1.1, bit r low ∙ mine.3)
            (λ p lp far. (slot_else qsbr key rule.log s.words r x low small events a p far, (a.others p far).1, bit p lp)))
            (grace_kept qsbr allows key s rule id (slot_at r) x v log' at (events, refl) (a.seq, a.present, a.mark)),
        (refl, (rule.log, refl, (rule.seen id v at).0, (rule.seen id v at).1, f.0), f.1),
      )

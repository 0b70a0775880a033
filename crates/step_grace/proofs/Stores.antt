-- A store of the sequence number, of the phase or of the number keeps the rule.
use Rattle.step_grace.proofs.Cited.{◌≡◌, ◌⊎◌, ℕ, ◌/◌, ◌%◌, ◌<◌, ◌≤◌, ◌∷◌, Bool, get_or, set, sym, ap, ◌∙◌, subst, ⊎_elim, arith, get_or-set_other, Option, some, get_elem?, State, LiveEvent, Log, seq_of, present_of, MayFollow, Sizes, View, GraceRight, seq_at, present_at, group_at, slot_at, bit_at, bit_of, Fits, ClaimsGrace, KnowsGrace, KeepsRule, at_log, Apart, slots_kept, own_grace, low_stores}

module _ {S : Type 0} (qsbr : Bool) (allows : Log → LiveEvent → Type 0) (key : Sizes) where
  abbrev Rule : State S View → Type 0
  Rule = KeepsRule qsbr allows key

  -- the seat with the right to the words of grace periods stores one, which writes the event e
  pub stores : (s : State S View) (rule : Rule s) (i x id : ℕ) (v : View) (right : GraceRight) (e : LiveEvent) → get_elem? s.views id ≡ some v → (i ≡ seq_at) ⊎ (i ≡ present_at) → ClaimsGrace v.grace
      → MayFollow qsbr allows rule.log e → Apart e rule.log → get_or (set s.words i x) seq_at 0 ≡ seq_of (e ∷ rule.log) → get_or (set s.words i x) present_at 0 ≡ present_of (e ∷ rule.log)
      → KnowsGrace qsbr key (e ∷ rule.log) (set s.words i x) right
      → Rule record { words = set s.words i x; homes = s.homes; views = set s.views id (record (at_log v (e ∷ rule.log)) { grace = right }) }
  stores s rule i x id v right e at place claim may a seq present known =
      let g = rule.agree.readers in
      let small = g.small in
      let low : i < 48 = ⊎_elim (λ (p : i ≡ seq_at). omega arith) (λ (p : i ≡ present_at). omega arith) place in
      let else : (j : ℕ) → 48 ≤ j → get_or (set s.words i x) j 0 ≡ get_or s.words j 0 = λ j up. get_or-set_other s.words i j x 0 (λ e. omega arith) in
      let bit : (r : ℕ) → bit_at (set s.words i x) r ≡ bit_at s.words r = λ r. ap (λ (z : ℕ). bit_of z (r % 64)) (else (group_at (r / 64)) (omega arith)) in
      low_stores qsbr allows key s rule id i x v (e ∷ rule.log) at v.slot right v.looks a.quiet (may, rule.run) (omega arith)
      (record {
        small = small;
        each_slot = λ r lr. subst (λ (z : ℕ × Option (ℕ × ℕ)). Fits qsbr z.0 z.1) (λ k. (sym (else (slot_at r) (omega arith)) k, sym (a.opened r) k)) (g.each_slot r lr);
        beyond = λ r far. a.opened r ∙ g.beyond r far;
        bits = λ r lr zero. a.opened r ∙ g.bits r lr (sym (bit r) ∙ zero);
        seq = seq;
        present = present;
      })
      (slots_kept qsbr allows key s rule id i x v (e ∷ rule.log) at (λ q lq. (else (slot_at q) (omega arith), a.counted q, bit q)))
      (own_grace qsbr allows key s rule id i x v (e ∷ rule.log) at right claim known)

-- Each step of a grace period keeps the rule.
use Rattle.step_grace.proofs.Cited.{◌≡◌, ◌⊎◌, ℕ, ◌+◌, ◌/◌, ◌%◌, ◌^◌, ◌<◌, ◌≤◌, List, [], ◌∷◌, ◌++◌, Bool, true, false, get_or, sym, refl, ap, ◌∙◌, subst, inl, inr, ⊎_elim, arith, get_or-set_other, get_or-set_same, none, some, some-ne-none, dite, dec_le, get_elem?, lt_of_not-le, State, Me, step, keeps, Allows, Wide, Shows, bit_of, LiveEvent, Close, SeqOdd, SeqEven, Present, Log, Has, open_of, seq_of, present_of, before_odd, HaveEnded, MayFollow, IsLiveRun, MayBePresent, Begins, still, copied_bounded, begins_before_odd, run_of, Sizes, View, GraceRight, Nothing, Rests, Works, seq_at, present_at, group_at, slot_at, bit_at, Shown, Saw, SawAll, grace, ClaimsGrace, KnowsGrace, Fits, KeepsRule, Wrote, at_log, present_in, seq_in, saw_later, Apart, look_all, looks, low_loads}
use Rattle.step_grace.specs.Periods.{ShownAll, TellsAllEnded, at_load, looked_seq, GraceBecomes, looked_word, presented, began, ended}
use Rattle.step_grace.proofs.Stores.{stores}

apart_odd : (log : Log) → Apart SeqOdd log
apart_odd log = record { opened = λ _. refl; counted = λ _. refl; quiet = record { objects = refl; notes = λ _. refl; closed = λ _. refl; more = (SeqOdd ∷ [], refl) } }

apart_even : (log : Log) → Apart SeqEven log
apart_even log = record { opened = λ _. refl; counted = λ _. refl; quiet = record { objects = refl; notes = λ _. refl; closed = λ _. refl; more = (SeqEven ∷ [], refl) } }

apart_present : (x : ℕ) (log : Log) → Apart (Present x) log
apart_present x log = record { opened = λ _. refl; counted = λ _. refl; quiet = record { objects = refl; notes = λ _. refl; closed = λ _. refl; more = (Present x ∷ [], refl) } }

-- a section that was open at the mark has its Close, or all that was loaded tells of it
closed_or_shown : (qsbr : Bool) (slots : ℕ) (mark log : Log) (looks : List (ℕ × ℕ)) (r n m : ℕ) → r < slots → open_of r mark ≡ some (n, m) → SawAll qsbr slots mark log looks → Has (Close r n) log ⊎ ShownAll qsbr looks r m
closed_or_shown qsbr slots mark log [] r n m low was saw = inr tt
closed_or_shown qsbr slots mark log (x ∷ xs) r n m low was saw =
    ⊎_elim inl (λ here. ⊎_elim inl (λ rest. inr (here, rest)) (closed_or_shown qsbr slots mark log xs r n m low was saw.1)) (saw.0 r n m low was)

abbrev grace_or : GraceRight → (ℕ × ℕ) × Log × List (ℕ × ℕ)
grace_or (Works q t mark looks) = ((q, t), mark, looks)
grace_or (Rests q t) = ((q, t), [], [])
grace_or _ = ((0, 0), [], [])

shows_of : (b : Bool) (w n m : ℕ) → Fits b w (some (n, m)) → Shows b Wide m w
shows_of b w n m f = f

module _ {S : Type 0} (qsbr : Bool) (allows : Log → LiveEvent → Type 0) (key : Sizes) (slots id : ℕ) (me : Me S View) where
  abbrev Rule : State S View → Type 0
  Rule = KeepsRule qsbr allows key

  granted : (s : State S View) (rule : Rule s) (g : GraceRight) → get_elem? s.views id ≡ some me.0 → me.0.grace ≡ g → ClaimsGrace g → KnowsGrace qsbr key rule.log s.words g
  granted s rule g at is claim = subst (KnowsGrace qsbr key rule.log s.words) is (rule.knows grace id me.0 at (subst ClaimsGrace (sym is) claim))

  -- who has the right knows the sequence number, and the phase or number
  known : (log : Log) (words : List ℕ) (g : GraceRight) → ClaimsGrace g → KnowsGrace qsbr key log words g → (seq_of log ≡ seq_in g) × (present_of log ≡ present_in g)
  known log words Nothing c k = absurd c
  known log words (Rests q t) c k = (k.0, k.1)
  known log words (Works q t mark looks) c k = (k.0, k.1)

  told : (s : State S View) (rule : Rule s) (events : Log) → get_elem? s.views id ≡ some me.0 → IsLiveRun qsbr allows (events ++ rule.log) → Wrote qsbr allows me.0 events (events ++ rule.log)
  told s rule events at run = (rule.log, refl, (rule.seen id me.0 at).0, (rule.seen id me.0 at).1, run)

  pub looks_seq : Allows Rule slots id me seq_at (λ n. n) (looked_seq qsbr allows (step slots seq_at 0 0 none) me)
  looks_seq s r deep at fine = (
    at_load me.0 r.log,
    keeps,
    tt,
    looks qsbr allows key s r id seq_at me.0 (at_load me.0 r.log) at refl refl (look_all qsbr allows key s r id me.0 (at_load me.0 r.log) at (refl, refl, refl, refl, refl, refl)),
    ((refl, told s r [] at r.run), sym r.agree.readers.seq, λ c. let k = known r.log s.words me.0.grace c (r.knows grace id me.0 at c) in (r.agree.readers.seq ∙ k.0, k.1)),
  )

  -- a load of any word tells of the sections that were open at the mark
  pub looks_word : (i q t : ℕ) (mark : Log) (looks : List (ℕ × ℕ)) → me.0.grace ≡ Works q t mark looks → Allows Rule slots id me i (λ n. n) (looked_word qsbr allows (step slots i 0 0 none) me)
  looks_word i q t mark looks is s rule deep at fine =
      let x : ℕ = get_or s.words i 0 in
      let right : GraceRight = Works q t mark ((i, x) ∷ looks) in
      let w : View = record (at_log me.0 rule.log) { grace = right } in
      let k = granted s rule (Works q t mark looks) at is tt in
      let b = begins_before_odd rule.log in
      let since : rule.log ≡ b.0 ++ mark = b.1 ∙ ap (λ l. b.0 ++ l) k.3 in
      let saw : Saw qsbr key.slots mark rule.log (i, x) = λ r n m low was. subst (λ (l : Log). Has (Close r n) l ⊎ Shown qsbr (i, x) r m) (sym since)
      (⊎_elim inl (λ now. inr (shown s rule i r n m low (ap (open_of r) since ∙ now))) (still qsbr allows b.0 mark r n m (subst (IsLiveRun qsbr allows) since rule.run) was)) in (
        w,
        keeps,
        tt,
        low_loads qsbr allows key s rule id i me.0 right at (λ _. ((k.0, k.1, k.2, k.3, (saw, k.4)), subst ClaimsGrace (sym is) tt)),
        λ q' t' mark' looks' is'. let z = ap grace_or (sym is ∙ is') in
            subst (λ (y : (ℕ × ℕ) × Log × List (ℕ × ℕ)). GraceBecomes qsbr allows (Works y.0.0 y.0.1 y.1 ((i, x) ∷ y.2)) [] me (w, me.1)) z (refl, told s rule [] at rule.run),
      )
    where
      shown : (s : State S View) (rule : Rule s) (i r n m : ℕ) → r < key.slots → open_of r rule.log ≡ some (n, m) → Shown qsbr (i, get_or s.words i 0) r m
      shown s rule i r n m low now = (
        (λ (e : i ≡ slot_at r). subst (λ (j : ℕ). Shows qsbr Wide m (get_or s.words j 0)) (sym e) (subst (Fits qsbr (get_or s.words (slot_at r) 0)) now (rule.agree.readers.each_slot r low))),
        λ (e : i ≡ group_at (r / 64)). subst (λ (j : ℕ). bit_of (get_or s.words j 0) (r % 64) ≡ true) (sym e) (set_bit (bit_at s.words r) refl),
      )
        where
          set_bit : (b : Bool) → bit_at s.words r ≡ b → bit_at s.words r ≡ true
          set_bit true f = f
          set_bit false f = absurd (some-ne-none (n, m) (sym now ∙ rule.agree.readers.bits r low f))

  pub begins_period : (q t : ℕ) → me.0.grace ≡ Rests q t → q ≤ 2 ^ 62 → Allows Rule slots id me seq_at (λ _. q + 1) (λ _. began qsbr allows (step slots seq_at (q + 1) 0 none) me (q + 1))
  begins_period q t is small s rule deep at fine =
      let k = granted s rule (Rests q t) at is tt in
      let k0 = k.0 in let k2 = k.2 in
      let wide = rule.wide in
      let right : GraceRight = Works (q + 1) t rule.log [] in
      let w : View = record (at_log me.0 (SeqOdd ∷ rule.log)) { grace = right } in
      let seq : seq_of (SeqOdd ∷ rule.log) ≡ q + 1 = ap (λ (z : ℕ). z + 1) k.0 in
      let may : MayFollow qsbr allows rule.log SeqOdd = ((omega arith), (omega arith)) in (
        w,
        keeps,
        tt,
        stores qsbr allows key s rule seq_at (q + 1) id me.0 right SeqOdd at (inl refl) (subst ClaimsGrace (sym is) tt) may (apart_odd rule.log)
            (get_or-set_same s.words seq_at (q + 1) 0 (omega arith) ∙ sym seq) (get_or-set_other s.words seq_at present_at (q + 1) 0 (λ e. omega arith) ∙ rule.agree.readers.present)
            (seq, k.1, omega arith, refl, tt),
        λ q' t' is'. let z = ap grace_or (sym is ∙ is') in
            subst (λ (y : (ℕ × ℕ) × Log × List (ℕ × ℕ)). GraceBecomes qsbr allows (Works (q + 1) y.0.1 rule.log []) (SeqOdd ∷ []) me (w, me.1) × (present_of rule.log ≡ y.0.1) × (seq_of rule.log ≡ y.0.0)) z ((refl, told s rule (SeqOdd ∷ []) at (may, rule.run)), k.1, k.0),
      )

  pub stores_present : (q t x : ℕ) (mark : Log) (looks : List (ℕ × ℕ)) → me.0.grace ≡ Works q t mark looks → MayBePresent qsbr q t x
      → Allows Rule slots id me present_at (λ _. x) (λ _. presented qsbr allows (step slots present_at x 0 none) me x)
  stores_present q t x mark looks is fits s rule deep at fine =
      let k = granted s rule (Works q t mark looks) at is tt in
      let wide = rule.wide in
      let e : LiveEvent = Present x in
      let right : GraceRight = Works q x mark looks in
      let w : View = record (at_log me.0 (e ∷ rule.log)) { grace = right } in
      let may : MayFollow qsbr allows rule.log e = (ap (λ (z : ℕ). z % 2) k.0 ∙ k.2, subst (λ (z : ℕ × ℕ). MayBePresent qsbr z.0 z.1 x) (λ i. (sym k.0 i, sym k.1 i)) fits) in (
        w,
        keeps,
        tt,
        stores qsbr allows key s rule present_at x id me.0 right e at (inr refl) (subst ClaimsGrace (sym is) tt) may (apart_present x rule.log)
            (get_or-set_other s.words present_at seq_at x 0 (λ e. omega arith) ∙ rule.agree.readers.seq) (get_or-set_same s.words present_at x 0 (omega arith))
            (k.0, refl, k.2, k.3, saw_later qsbr key.slots mark rule.log (e ∷ rule.log) looks (e ∷ [], refl) k.4),
        λ q' t' mark' looks' is'. let z = ap grace_or (sym is ∙ is') in
            subst (λ (y : (ℕ × ℕ) × Log × List (ℕ × ℕ)). GraceBecomes qsbr allows (Works y.0.0 x y.1 y.2) (e ∷ []) me (w, me.1)) z (refl, told s rule (e ∷ []) at (may, rule.run)),
      )

  pub ends_period : (q t : ℕ) (mark : Log) (looks : List (ℕ × ℕ)) → me.0.grace ≡ Works q t mark looks → TellsAllEnded qsbr key.slots mark looks
      → Allows Rule slots id me seq_at (λ _. q + 1) (λ _. ended qsbr allows (step slots seq_at (q + 1) 0 none) me (q + 1))
  ends_period q t mark looks is refutes s rule deep at fine =
      let k = granted s rule (Works q t mark looks) at is tt in
      let k2 = k.2 in
      let wide = rule.wide in
      let right : GraceRight = Rests (q + 1) t in
      let w : View = record (at_log me.0 (SeqEven ∷ rule.log)) { grace = right } in
      let seq : seq_of (SeqEven ∷ rule.log) ≡ q + 1 = ap (λ (z : ℕ). z + 1) k.0 in
      let b = begins_before_odd rule.log in
      let run_mark : IsLiveRun qsbr allows mark = subst (IsLiveRun qsbr allows) k.3 (run_of qsbr allows (before_odd rule.log) rule.log b rule.run) in
      let cleared : HaveEnded mark rule.log = λ r n m was. cleared_of s rule mark looks refutes k.3 run_mark k.4 r n m was in
      let may : MayFollow qsbr allows rule.log SeqEven = (ap (λ (z : ℕ). z % 2) k.0 ∙ k.2, subst (λ (l : Log). HaveEnded l rule.log) (sym k.3) cleared) in (
        w,
        keeps,
        tt,
        stores qsbr allows key s rule seq_at (q + 1) id me.0 right SeqEven at (inl refl) (subst ClaimsGrace (sym is) tt) may (apart_even rule.log)
            (get_or-set_same s.words seq_at (q + 1) 0 (omega arith) ∙ sym seq) (get_or-set_other s.words seq_at present_at (q + 1) 0 (λ e. omega arith) ∙ rule.agree.readers.present)
            (seq, k.1, omega arith),
        λ q' t' mark' looks' is'. let z = ap grace_or (sym is ∙ is') in
            subst (λ (y : (ℕ × ℕ) × Log × List (ℕ × ℕ)). GraceBecomes qsbr allows (Rests (q + 1) y.0.1) (SeqEven ∷ []) me (w, me.1) × HaveEnded y.1 (SeqEven ∷ rule.log) × (seq_of (SeqEven ∷ rule.log) ≡ q + 1) × (present_of rule.log ≡ y.0.1)) z
            ((refl, told s rule (SeqEven ∷ []) at (may, rule.run)), (λ r n m was. inr (cleared r n m was)), seq, k.1),
      )
    where
      cleared_of : (s : State S View) (rule : Rule s) (mark : Log) (looks : List (ℕ × ℕ)) → TellsAllEnded qsbr key.slots mark looks → before_odd rule.log ≡ mark → IsLiveRun qsbr allows mark → SawAll qsbr key.slots mark rule.log looks → HaveEnded mark rule.log
      cleared_of s rule mark looks refutes is run saw r n m was = dite (dec_le key.slots r)
          (λ high. ⊎_elim (λ h. subst (Has (Close r n)) (sym since) h) (λ now. absurd (some-ne-none (n, m) (sym now ∙ (ap (open_of r) (sym since) ∙ rule.agree.readers.beyond r high)))) (still qsbr allows b.0 mark r n m (subst (IsLiveRun qsbr allows) since rule.run) was))
          (λ not. let low : r < key.slots = lt_of_not-le not in
          ⊎_elim (λ h. h) (λ shown. absurd (refutes r m low (copied_bounded qsbr allows mark r n m run was) shown)) (closed_or_shown qsbr key.slots mark rule.log looks r n m low was saw))
        where
          b : Begins (before_odd rule.log) rule.log
          b = begins_before_odd rule.log

          since : rule.log ≡ b.0 ++ mark
          since = b.1 ∙ ap (λ l. b.0 ++ l) is

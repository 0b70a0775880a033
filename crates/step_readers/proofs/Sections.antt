-- What each kind of store does to its slot.
use Rattle.step_readers.proofs.Cited.{◌≡◌, ℕ, ◌+◌, [], ◌∷◌, Bool, true, false, cond, sym, refl, ap, ◌∙◌, subst, arith, eq-eqb, Option, none, some, State, Me, step, keeps, Allows, Wide, Shows, LiveEvent, Open, Close, Log, open_of, sections_of, present_of, IsLiveRun, MayCopy, last_opened, copy_later, present_begins, Sizes, View, Owns, present_at, slot_at, IsClosed, Fits, Precedes, KeepsRule, at_log, grace, low_loads}
use Rattle.step_readers.specs.Sections.{copied, opened_in, IsAt, looked_present, Stored, stored, opens, nests, closes, announces}
use Rattle.step_readers.proofs.Stores.{slot_or, stores}

-- a closed word fits no open section, and another one fits some
pub closed_fits : (b : Bool) (w : ℕ) (o : Option (ℕ × ℕ)) → Fits b w o → IsClosed b w → o ≡ none
closed_fits b w none f z = refl
closed_fits false w (some x) f z = absurd (f.0 z)
closed_fits true w (some x) f z = absurd (omega arith)

pub open_fits : (b : Bool) (w : ℕ) (o : Option (ℕ × ℕ)) → Fits b w o → (IsClosed b w → ⊥) → (x : ℕ × ℕ) × (o ≡ some x) × Shows b Wide x.1 w
open_fits b w none f z = absurd (z f)
open_fits b w (some x) f z = (x, refl, f)

module _ (qsbr : Bool) (allows : Log → LiveEvent → Type 0) where
  -- the section that stands in a word
  pub standing : (log : Log) (r w k : ℕ) → IsLiveRun qsbr allows log → IsAt qsbr r w k log → (IsClosed qsbr w → ⊥) → (m : ℕ) × (open_of r log ≡ some (k, m)) × Shows qsbr Wide m w
  standing log r w k run at stands =
      let o = open_fits qsbr w (open_of r log) at.0 stands in
      let ordinal : o.0.0 ≡ k = sym (last_opened qsbr allows log r o.0.0 o.0.1 run o.1).0 ∙ at.1 in
      (o.0.1, o.1 ∙ (λ i. some (ordinal i, o.0.1)), o.2)

  opened : (log : Log) (r k m x : ℕ) → IsLiveRun qsbr allows log → open_of r log ≡ none → sections_of r log ≡ k → MayCopy qsbr (present_of log) m → Shows qsbr Wide m x → IsLiveRun qsbr allows (Open r (k + 1) m ∷ log) × IsAt qsbr r x (k + 1) (Open r (k + 1) m ∷ log)
  opened log r k m x run shut count note shows =
      (((shut, ap (λ z. z + 1) (sym count), note), run), (subst (Fits qsbr x) (ap (λ b. cond b (some (k + 1, m)) (open_of r log)) (sym (eq-eqb r r refl))) shows, ap (λ b. cond b (sections_of r log + 1) (sections_of r log)) (eq-eqb r r refl) ∙ ap (λ z. z + 1) count))

  closed : (log : Log) (r k m : ℕ) → open_of r log ≡ some (k, m) → open_of r (Close r k ∷ log) ≡ none
  closed log r k m at = ap (λ b. cond b none (open_of r log)) (eq-eqb r r refl)

  module _ {S : Type 0} (key : Sizes) (slots id : ℕ) (me : Me S View) where
    abbrev Rule : State S View → Type 0
    Rule = KeepsRule qsbr allows key

    pub looks_present : Allows Rule slots id me present_at (λ n. n) (looked_present qsbr allows (step slots present_at 0 0 none) me)
    looks_present s r deep at fine = (
      at_log me.0 r.log,
      keeps,
      tt,
      low_loads qsbr allows key s r id present_at me.0 me.0.grace at (λ c. (r.knows grace id me.0 at c, c)),
      ((refl, (r.log, refl, (r.seen id me.0 at).0, (r.seen id me.0 at).1, r.run)), sym r.agree.readers.present),
    )

    copy_now : (log : Log) (m : ℕ) → IsLiveRun qsbr allows log → Precedes me.0 log → MayCopy qsbr (present_of me.0.seen) m → MayCopy qsbr (present_of log) m
    copy_now log m run follow = copy_later qsbr (present_of me.0.seen) (present_of log) m (present_begins qsbr allows me.0.seen log run follow.0)

    -- the store's Play tells of whatever right the seat has
    telling : (r w k x : ℕ) (events : ℕ → ℕ → ℕ → Log) → me.0.slot ≡ Owns r w k
        → Allows Rule slots id me (slot_at r) (λ _. x)
        (λ _ m'. Stored qsbr allows r x (k + opened_in (events r k x)) (events r k x) me m')
        → Allows Rule slots id me (slot_at r) (λ _. x) (λ _. stored qsbr allows events (step slots (slot_at r) x 0 none) me x)
    telling r w k x events is allowed s rule deep at fine = let t = allowed s rule deep at fine in (
      t.0,
      t.1,
      t.2,
      t.3,
      λ r' w' k' is'.
          subst (λ (z : ℕ × ℕ × ℕ). Stored qsbr allows z.0 x (z.2 + opened_in (events z.0 z.2 x)) (events z.0 z.2 x) me (t.0, Rattle.atomic_table.specs.Table.carried_after me.1 t.1)) (ap slot_or (sym is ∙ is')) t.4,
    )

    pub opens_slot : (r w k x : ℕ) → me.0.slot ≡ Owns r w k → IsClosed qsbr w → Shows qsbr Wide (copied qsbr x) x → MayCopy qsbr (present_of me.0.seen) (copied qsbr x)
        → Allows Rule slots id me (slot_at r) (λ _. x) (λ _. stored qsbr allows (opens qsbr) (step slots (slot_at r) x 0 none) me x)
    opens_slot r w k x is shut shows note = telling r w k x (opens qsbr) is (stores qsbr allows key slots id me r w k x (k + 1) (opens qsbr r k x) is (refl, tt)
        (λ log run follow at. opened log r k (copied qsbr x) x run (closed_fits qsbr w (open_of r log) at.0 shut) at.1 (copy_now log (copied qsbr x) run follow note) shows))

    pub closes_slot : (r w k x : ℕ) → me.0.slot ≡ Owns r w k → (IsClosed qsbr w → ⊥) → IsClosed qsbr x
        → Allows Rule slots id me (slot_at r) (λ _. x) (λ _. stored qsbr allows (closes qsbr) (step slots (slot_at r) x 0 none) me x)
    closes_slot r w k x is stands shut = telling r w k x (closes qsbr) is (stores qsbr allows key slots id me r w k x (k + 0) (closes qsbr r k x) is (refl, tt)
        (λ log run follow at. let o = standing log r w k run at stands in
        (((o.0, o.1), run), (subst (Fits qsbr x) (sym (closed log r k o.0 o.1)) shut, at.1 ∙ omega arith))))

    pub nests_slot : (r w k x : ℕ) → me.0.slot ≡ Owns r w k → (IsClosed qsbr w → ⊥) → ((m : ℕ) → Shows qsbr Wide m w → Shows qsbr Wide m x)
        → Allows Rule slots id me (slot_at r) (λ _. x) (λ _. stored qsbr allows (nests qsbr) (step slots (slot_at r) x 0 none) me x)
    nests_slot r w k x is stands shows = telling r w k x (nests qsbr) is (stores qsbr allows key slots id me r w k x (k + 0) [] is tt
        (λ log run follow at. let o = standing log r w k run at stands in (run, (subst (Fits qsbr x) (sym o.1) (shows o.0 o.2), at.1 ∙ omega arith))))

    pub announces_slot : (r w k x : ℕ) → me.0.slot ≡ Owns r w k → (IsClosed qsbr w → ⊥) → Shows qsbr Wide (copied qsbr x) x → MayCopy qsbr (present_of me.0.seen) (copied qsbr x)
        → Allows Rule slots id me (slot_at r) (λ _. x) (λ _. stored qsbr allows (announces qsbr) (step slots (slot_at r) x 0 none) me x)
    announces_slot r w k x is stands shows note = telling r w k x (announces qsbr) is (stores qsbr allows key slots id me r w k x (k + 1) (announces qsbr r k x) is (refl, (refl, tt))
        (λ log run follow at. let o = standing log r w k run at stands in
        opened (Close r k ∷ log) r k (copied qsbr x) x ((o.0, o.1), run) (closed log r k o.0 o.1) at.1 (copy_now log (copied qsbr x) run follow note) shows))

-- The loads of heads, links and payload words.
use Rattle.step_chains.proofs.Cited.{◌≡◌, ℕ, ◌+◌, ◌<◌, List, Bool, get_or, set, sym, refl, ap, ◌∙◌, subst, ⊎_elim, Option, Some, get_elem?, State, Me, step, keeps, Allows, ObjectId, IsOpen, In, first_of, next_of, has_section_in, has_object_in, follows_has, LiveEvent, Log, state_of, record_of, open_of, section, WasLinked, objects_of, head, link, Follows, kept_log, protected, open_inside, last_opened, note_stays, run_of, was_later, was_used, next_linked, linked_here, first_linked, first_used, some_next, Sizes, View, SlotRight, head_at, note_at, cell_at, Fits, ref, IsAlive, slot, KnowsSlot, ClaimsSlot, KeepsRule, looks, look_all, word_in, count_in, own_in, IsWriter, IsListed, Went, knows_own, here, alive_linked, lows, goes_on}
use mathlib.Core.Option as lists
use Rattle.live_rule.specs.declared.rights.SlotRight.TheVariants as slot_right
use Rattle.step_chains.specs.Chains.{IsInSection, MayRead, looked_head, looked_link, looked_word, looked_note}
use Rattle.step_chains.proofs.Writers.{note_now}
use Rattle.step_chains.proofs.Counting.{fits_pool}

open_fits : (b : Bool) (w : ℕ) (o : lists.Option (ℕ × ℕ)) → Fits b w o → (Fits b w lists.none → ⊥) → (x : ℕ × ℕ) × (o ≡ lists.some x)
open_fits b w lists.none f z = absurd (z f)
open_fits b w (lists.some x) f z = (x, refl)

module _ {S : Type 0} (qsbr : Bool) (allows : Log → LiveEvent → Type 0) (key : Sizes) where
  abbrev Rule : State S View → Type 0
  Rule = KeepsRule qsbr allows key

  module _ (s : State S View) (r : Rule s) (id : ℕ) (v : View) (at : get_elem? s.views id ≡ lists.some v) where
    -- the section of a reader whose word stands for one is open
    inside : (q n : ℕ) → IsInSection qsbr v q n → IsOpen (state_of r.log) (section q n)
    inside q n stands =
        let w : ℕ = word_in v.slot in
        let kn : KnowsSlot qsbr key r.log s.words (slot_right.Owns q w (count_in v.slot)) q = subst (λ (y : SlotRight). KnowsSlot qsbr key r.log s.words y q) stands.0 (r.knows (slot q) id v at (subst (λ (y : SlotRight). ClaimsSlot y q) (sym stands.0) refl)) in
        let o = open_fits qsbr w (open_of q r.log) (subst (λ (z : ℕ). Fits qsbr z (open_of q r.log)) kn.1 (r.agree.readers.each_slot q kn.0)) stands.1 in
        let ordinal : o.0.0 ≡ n = sym (last_opened qsbr allows r.log q o.0.0 o.0.1 r.run o.1).0 ∙ (kn.2 ∙ stands.2) in
        has_section_in (state_of r.log).sections (section q n) (open_inside r.log q n o.0.1 (o.1 ∙ (λ i. lists.some (ordinal i, o.0.1))))

    -- what an open section may hold is alive
    held_alive : (q n : ℕ) (o : ObjectId) → IsInSection qsbr v q n → WasLinked (section q n) o r.log → IsAlive (objects_of r.log) o
    held_alive q n o stands was = (was_used qsbr allows r.log (section q n) o r.run was, λ h. protected qsbr allows r.log (section q n) o r.run was (inside q n stands) (has_object_in (state_of r.log).reclaimed o h))

    -- what may be read has its record, which is the one that the seat knows
    readable : (o : ObjectId) (i : ℕ) → MayRead qsbr v o i → IsAlive (objects_of r.log) o × (record_of r.log o ≡ record_of v.seen o) × ((record_of r.log o).0 ≡ i)
    readable o i may = ⊎_elim
        (λ (m : (q : ℕ) × (n : ℕ) × IsInSection qsbr v q n × WasLinked (section q n) o v.seen).
        let b = (r.seen id v at).0 in
        let note = note_stays qsbr allows v.seen r.log o b r.run (was_used qsbr allows v.seen (section m.0 m.1) o (run_of qsbr allows v.seen r.log b r.run) m.3) in
        (held_alive m.0 m.1 o m.2 (was_later v.seen r.log (section m.0 m.1) o b m.3), note, ap (λ (z : ℕ × List ℕ). z.0) note ∙ may.0))
        (λ (m : IsWriter v × IsListed v × In (own_in v.chains).objects o).
        let note = note_now qsbr allows key s r id v at m.0 m.1 o m.2 in
        (alive_linked qsbr allows r.log (own_in v.chains).chain o r.run (here qsbr allows key s r id v at m.0 o m.2), note, ap (λ (z : ℕ × List ℕ). z.0) note ∙ may.0))
        may.1

    went : (m : List (ℕ × S)) → Went {S = S} qsbr allows v (v, m) (record v { seen = r.log }, m)
    went m = let b = r.seen id v at in (refl, refl, (b.0, b.1, r.run))

    -- the rule after a load that leaves all rights as they are
    loaded : (a : ℕ) → Rule record { words = set s.words a (get_or s.words a 0); homes = s.homes; views = set s.views id (record v { seen = r.log }) }
    loaded a = let w : View = record v { seen = r.log } in looks qsbr allows key s r id a v w at refl refl (look_all qsbr allows key s r id v w at (refl, refl, refl, refl, refl, refl))

  pub looks_head : (slots id : ℕ) (me : Me S View) (a : ℕ) → me.0.sizes ≡ key → Allows Rule slots id me a (λ n. n) (looked_head qsbr allows (step slots a 0 0 lists.none) me)
  looks_head slots id me a sizes s r deep at fits = (
    record me.0 { seen = r.log },
    keeps,
    tt,
    loaded s r id me.0 at a,
    (
      went s r id me.0 at me.1,
      goes_on qsbr allows key s r id me.0 at sizes,
      inside s r id me.0 at,
      (λ c low same.
          let same' : a ≡ head_at key c = same ∙ ap (λ (k : Sizes). head_at k c) sizes in
          let low' : c < key.chains = subst (λ (k : Sizes). c < k.chains) sizes low in (
            ap (λ i. get_or s.words i 0) same' ∙ r.agree.heap.leads (head c) low' (first_of ((objects_of r.log).chain c)) refl,
            λ o f. (lows qsbr allows key s r id me.0 at sizes o (first_used qsbr allows r.log c o r.run f, linked_here qsbr allows r.log c o r.run f), λ q n stands. first_linked r.log (section q n) c o (inside s r id me.0 at q n stands) f),
          )),
      fits_pool qsbr allows key s r id me.0 at sizes,
    ),
  )

  pub looks_note : (slots id : ℕ) (me : Me S View) (a : ℕ) → me.0.sizes ≡ key → Allows Rule slots id me a (λ n. n) (looked_note qsbr allows (step slots a 0 0 lists.none) me)
  looks_note slots id me a sizes s r deep at fits = (
    record me.0 { seen = r.log },
    keeps,
    tt,
    loaded s r id me.0 at a,
    (
      went s r id me.0 at me.1,
      goes_on qsbr allows key s r id me.0 at sizes,
      inside s r id me.0 at,
      λ c low same.
          let same' : a ≡ note_at key c = same ∙ ap (λ (k : Sizes). note_at k c) sizes in
          ap (λ i. get_or s.words i 0) same' ∙ r.agree.lines.notes c (subst (λ (k : Sizes). c < k.chains) sizes low),
    ),
  )

  pub looks_word : (slots id : ℕ) (me : Me S View) (a : ℕ) → me.0.sizes ≡ key → Allows Rule slots id me a (λ n. n) (looked_word qsbr allows (step slots a 0 0 lists.none) me)
  looks_word slots id me a sizes s r deep at fits = (
    record me.0 { seen = r.log },
    keeps,
    tt,
    loaded s r id me.0 at a,
    (
      went s r id me.0 at me.1,
      goes_on qsbr allows key s r id me.0 at sizes,
      inside s r id me.0 at,
      λ o i j may four same.
          let h = readable s r id me.0 at o i may in
          let same' : a ≡ cell_at key i (j + 2) = same ∙ ap (λ (k : Sizes). cell_at k i (j + 2)) sizes in
          ap (λ i. get_or s.words i 0) same' ∙ (subst (λ (z : ℕ). get_or s.words (cell_at key z (j + 2)) 0 ≡ get_or (record_of r.log o).1 j 0) h.2 (r.agree.heap.payload o h.0 j four) ∙ ap (λ (z : ℕ × List ℕ). get_or z.1 j 0) h.1),
    ),
  )

  -- what follows an object that may be read
  module _ (s : State S View) (r : Rule s) (id : ℕ) (v : View) (at : get_elem? s.views id ≡ lists.some v) (sizes : v.sizes ≡ key) (o : ObjectId) (i : ℕ) (may : MayRead qsbr v o i) (found : Option ObjectId) (next : Follows (objects_of r.log) o found) where
    -- it is held where the object is
    held_next : (q n : ℕ) (m : ObjectId) → IsInSection qsbr v q n → WasLinked (section q n) o v.seen → found ≡ Some m → WasLinked (section q n) m r.log
    held_next q n m stands was f = next_linked qsbr allows r.log (section q n) o m r.run (was_later v.seen r.log (section q n) o (r.seen id v at).0 was) (inside s r id v at q n stands) (subst (λ (z : Option ObjectId). Follows (objects_of r.log) o z) f next)

    own_next : IsWriter v → In (own_in v.chains).objects o → found ≡ next_of (own_in v.chains).objects o
    own_next own h = ⊎_elim
        (λ (l : (c : ℕ) × In ((objects_of r.log).chain c) o × (next_of ((objects_of r.log).chain c) o ≡ found)).
        let k = knows_own qsbr allows key s r id v at own in
        let e : l.0 ≡ (own_in v.chains).chain = (kept_log qsbr allows r.log r.run).linking.one_chain l.0 (own_in v.chains).chain o l.1 (here qsbr allows key s r id v at own o h) in
        sym l.2 ∙ (ap (λ (n : ℕ). next_of ((objects_of r.log).chain n) o) e ∙ ap (λ (z : List ObjectId). next_of z o) k.3))
        (λ l. absurd ((kept_log qsbr allows r.log r.run).linking.linked_not_cut (own_in v.chains).chain o (here qsbr allows key s r id v at own o h) l.0))
        next

    -- it is alive
    next_alive : (m : ObjectId) → found ≡ Some m → IsAlive (objects_of r.log) m
    next_alive m f = ⊎_elim
        (λ (x : (q : ℕ) × (n : ℕ) × IsInSection qsbr v q n × WasLinked (section q n) o v.seen). held_alive s r id v at x.0 x.1 m x.2 (held_next x.0 x.1 m x.2 x.3 f))
        (λ (x : IsWriter v × IsListed v × In (own_in v.chains).objects o).
        alive_linked qsbr allows r.log (own_in v.chains).chain m r.run (here qsbr allows key s r id v at x.0 m (follows_has (own_in v.chains).objects (Some o) m (sym (own_next x.0 x.2) ∙ f))))
        may.1

  pub looks_link : (slots id : ℕ) (me : Me S View) (a : ℕ) → me.0.sizes ≡ key → Allows Rule slots id me a (λ n. n) (looked_link qsbr allows (step slots a 0 0 lists.none) me)
  looks_link slots id me a sizes s r deep at fits = (
    record me.0 { seen = r.log },
    keeps,
    tt,
    loaded s r id me.0 at a,
    (
      went s r id me.0 at me.1,
      goes_on qsbr allows key s r id me.0 at sizes,
      inside s r id me.0 at,
      λ o i may same.
          let h = readable s r id me.0 at o i may in
          let same' : a ≡ cell_at key i 1 = same ∙ ap (λ (k : Sizes). cell_at k i 1) sizes in
          let next = some_next qsbr allows r.log o r.run h.0.0 in (
            next.0,
            (
              next.1,
              ap (λ z. get_or s.words z 0) same' ∙ subst (λ (z : ℕ). get_or s.words (cell_at key z 1) 0 ≡ ref (objects_of r.log) next.0) h.2 (r.agree.heap.leads (link o) h.0 next.0 next.1),
              (λ m f. (lows qsbr allows key s r id me.0 at sizes m (next_alive s r id me.0 at sizes o i may next.0 next.1 m f), λ q n stands was. held_next s r id me.0 at sizes o i may next.0 next.1 q n m stands was f)),
              own_next s r id me.0 at sizes o i may next.0 next.1,
            ),
          ),
    ),
  )

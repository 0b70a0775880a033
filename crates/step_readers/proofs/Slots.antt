-- A load of a slot's word keeps the rule.
use Rattle.step_readers.proofs.Cited.{◌≡◌, ℕ, ◌<◌, Bool, get_or, sym, refl, ap, ◌∙◌, subst, State, Me, step, keeps, Allows, LiveEvent, Log, open_of, Sizes, View, SlotRight, Fits, slot, ClaimsSlot, KnowsSlot, KeepsRule, looks, look_all, looked_view}
use mathlib.Core.Option as lists
use Rattle.step_readers.specs.Sections.{looked_slot}

module _ {S : Type 0} (qsbr : Bool) (allows : Log → LiveEvent → Type 0) (key : Sizes) where
  abbrev Rule : State S View → Type 0
  Rule = KeepsRule qsbr allows key

  pub looks_slot : (slots id : ℕ) (me : Me S View) (a : ℕ) → me.0.sizes ≡ key → Allows Rule slots id me a (λ n. n) (looked_slot qsbr allows (step slots a 0 0 lists.none) me)
  looks_slot slots id me a sizes s r deep at fits = let v : View = me.0 in let w : View = record (looked_view a (get_or s.words a 0) v) { seen = r.log } in let b = r.seen id v at in (
    w,
    keeps,
    tt,
    looks qsbr allows key s r id a v w at refl refl (look_all qsbr allows key s r id v w at (refl, refl, refl, refl, refl, refl)),
    (
      (refl, refl, (b.0, b.1, r.run)),
      λ q low e. subst (λ (i : ℕ). Fits qsbr (get_or s.words i 0) (open_of q r.log)) (sym e) (r.agree.readers.each_slot q (subst (λ (k : Sizes). q < k.slots) sizes low)),
      λ q e own. let mine = subst (λ (y : SlotRight). KnowsSlot qsbr key r.log s.words y q) own (r.knows (slot q) id v at (subst (λ (y : SlotRight). ClaimsSlot y q) (sym own) refl)) in (ap (λ (i : ℕ). get_or s.words i 0) e ∙ mine.1, mine.2),
    ),
  )

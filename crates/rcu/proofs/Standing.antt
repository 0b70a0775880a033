-- A seat that owns a reader's slot stands in an open section, where the slot's word is not closed.
use Rattle.rcu.proofs.Cited.{Bool, ◌≡◌, ℕ, sym, refl, ◌∙◌, subst, none, some, get_elem?, State, LiveEvent, Log, IsOpenSection, open_of, is_open, SlotRight, Sizes, View, Fits, IsClosed, ClaimsSlot, KnowsSlot, slot, KeepsRule, IsOwner, count_in, word_in}
use mathlib.Core.Option.{Option}

open_fits : (qsbr : Bool) (w : ℕ) (o : Option (ℕ × ℕ)) → ¬ IsClosed qsbr w → Fits qsbr w o → (x : ℕ × ℕ) × (o ≡ some x)
open_fits qsbr w none shut fits = absurd (shut fits)
open_fits qsbr w (some x) shut fits = (x, refl)

module _ {S : Type 0} (qsbr : Bool) (allows : Log → LiveEvent → Type 0) (key : Sizes) (s : State S View) (r : KeepsRule qsbr allows key s) where
  pub stands_open : (j : ℕ) (v : View) (q : ℕ) → get_elem? s.views j ≡ some v → IsOwner v q → ¬ IsClosed qsbr (word_in v.slot) → IsOpenSection q (count_in v.slot) r.log
  stands_open j v q at owns shut =
      let known = subst (λ (x : SlotRight). KnowsSlot qsbr key r.log s.words x q) owns (r.knows (slot q) j v at (subst (λ (x : SlotRight). ClaimsSlot x q) (sym owns) refl)) in
      let fits = r.agree.readers.each_slot q known.0 in
      let o = open_fits qsbr (word_in v.slot) (open_of q r.log) shut (subst (λ (w : ℕ). Fits qsbr w (open_of q r.log)) known.1 fits) in
      let inside : IsOpenSection q o.0.0 r.log = is_open qsbr allows r.log q o.0.0 o.0.1 r.run o.1 in
      subst (λ (n : ℕ). IsOpenSection q n r.log) (sym inside.2 ∙ known.2) inside

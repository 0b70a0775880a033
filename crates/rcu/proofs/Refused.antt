-- What a caller has heard of where a call of a table was refused.
use Rattle.rcu.proofs.Cited.{◌≡◌, ◌⊎◌, ◌++◌, ◌∷◌, [], ◌∙◌, Bool, List, Option, None, Some, IfNone, ℕ, ⊎_elim, ap, append_assoc, inl, inr, refl, subst, sym, Refusal, Busy, Exists, Missing, PoolFull, LiveEvent, Log, Begins, tabled, begins_trans, Look, Sizes, Stays, Ghosts, RefusesRetirement, During, RefusesInsertionThrough, RefusesReplacementThrough}
use Rattle.rcu.specs.Slots.{FoundInVain, IsNotPut, TriesInVain}
use Rattle.rcu.specs.Trying.{HearsOn, StaysOn, all_found}
use Rattle.rcu.proofs.Hearing.{Went, stays_on, went_on}

-- nothing was tried yet
pub goes_none : {W S : Type 0} (w : Ghosts W S) (a : W) → StaysOn w a a
goes_none w a = ((refl, refl, λ h. h, refl), ([], refl), ([], refl))

-- what was found in one call and in the next was found in both
both_found : (old mid new : List Look) → ((found : List Look) × (mid ≡ found ++ old)) → ((found : List Look) × (new ≡ found ++ mid)) → (found : List Look) × (new ≡ found ++ old)
both_found old mid new p q = (q.0 ++ p.0, q.1 ∙ ap (λ ls. q.0 ++ ls) p.1 ∙ sym (append_assoc q.0 p.0 old))

-- a caller that stays on after one call and after the next stays on
pub goes_on : {W S : Type 0} (w : Ghosts W S) (a b c : W) → StaysOn w a b → StaysOn w b c → StaysOn w a c
goes_on w a b c p q = (
  stays_on w a b c p.0 q.0,
  begins_trans (w.heard a) (w.heard b) (w.heard c) p.1 q.1,
  both_found (w.looks a) (w.looks b) (w.looks c) p.2 q.2,
)

-- what a worker found comes after what had been found
pub more_found : (ls old new : List Look) (x a b c : Look) → new ≡ x ∷ (ls ++ (a ∷ b ∷ c ∷ old)) → (found : List Look) × (new ≡ found ++ old)
more_found ls old new x a b c is = (x ∷ (ls ++ (a ∷ b ∷ c ∷ [])), is ∙ ap (λ l. x ∷ l) (sym (append_assoc ls (a ∷ b ∷ c ∷ []) old)))

-- a caller for which nothing was done yet
pub hears_none : {W S : Type 0} (w : Ghosts W S) (a : W) → HearsOn w a a
hears_none w a = ((((refl, refl, λ h. h, refl), refl), refl), ([], refl))

-- nor in one call and in the next
pub hears_both : {W S : Type 0} (w : Ghosts W S) (a b c : W) → HearsOn w a b → HearsOn w b c → HearsOn w a c
hears_both w a b c p q = (((stays_on w a b c p.0.0.0 q.0.0.0, q.0.0.1 ∙ p.0.0.1), q.0.1 ∙ p.0.1), begins_trans (w.heard a) (w.heard b) (w.heard c) p.1 q.1)

-- what one try found that was in vain
abbrev pub InVain : {W S : Type 0} → Ghosts W S → Sizes → ℕ → W → W → Type 0
InVain w sizes c old new = (found : List Look) × (w.looks new ≡ found ++ w.looks old) × FoundInVain sizes c found × (w.loads new ≡ w.loads old)

-- nothing was tried for a slot yet
pub tries_none : {W S : Type 0} (w : Ghosts W S) (sizes : Sizes) (c : ℕ) (a : W) → TriesInVain w sizes c a a
tries_none w sizes c a = record { stays = (refl, refl, λ h. h, refl); later = ([], refl); tries = []; vain = tt; looks = refl; loads = refl }

-- after tries in vain one more was in vain
pub tries_more : {W S : Type 0} (w : Ghosts W S) (sizes : Sizes) (c : ℕ) (old was new : W) → TriesInVain w sizes c old was → Stays w was new → Begins (w.heard was) (w.heard new) → InVain w sizes c was new → TriesInVain w sizes c old new
tries_more w sizes c old was new t stays later v = record {
  stays = stays_on w old was new t.stays stays;
  later = begins_trans (w.heard old) (w.heard was) (w.heard new) t.later later;
  tries = v.0 ∷ t.tries;
  vain = (v.2, t.vain);
  looks = v.1 ∙ ap (λ ls. v.0 ++ ls) t.looks ∙ sym (append_assoc v.0 (all_found t.tries) (w.looks old));
  loads = v.3 ∙ t.loads;
}

module _ {W S : Type 0} (w : Ghosts W S) (qsbr : Bool) (sizes : Sizes) (old new : W) (e : Refusal) where
  during : (is_so : Log → Type 0) → During w qsbr tabled old new is_so → Begins (w.heard old) (w.heard new)
  during is_so d = begins_trans (w.heard old) d.at (w.heard new) d.after.after_heard d.before

  -- where the key had no value
  pub missing : (d key : ℕ) → e ≡ Missing → RefusesReplacementThrough w qsbr tabled sizes old new e d key → HearsOn w old new
  missing d key is (inl r) = (r.2, during _ r.1)
  missing d key is (inr (c, had, inl f)) = let no = sym is ∙ f.is in absurd (cc)
  missing d key is (inr (c, had, inr g)) = ⊎_elim (λ r. let no = sym is ∙ r.0 in absurd (cc)) (λ r. let no = sym is ∙ r.0 in absurd (cc)) g.why

  -- where it had one
  pub exists : (d key : ℕ) → e ≡ Exists → RefusesInsertionThrough w qsbr tabled sizes old new e d key → HearsOn w old new
  exists d key is (inl r) = (r.2, during _ r.1.1)
  exists d key is (inr (lacked, inl r)) = let no = sym is ∙ r.0 in absurd (cc)
  exists d key is (inr (lacked, inr f)) = let no = sym is ∙ f.is in absurd (cc)

  -- where nothing was put into a slot, but not for its queue
  pub in_vain : (c : ℕ) → (e ≡ Busy) ⊎ (e ≡ PoolFull) → IsNotPut w qsbr old new sizes c e → InVain w sizes c old new
  in_vain c is (inl r) = (_ ∷ [], r.1.0, inl refl, r.1.1)
  in_vain c is (inr (mid, held, inl f)) = (f.found ++ (_ ∷ _ ∷ []), f.looks ∙ ap (λ ls. f.found ++ ls) held.looks ∙ sym (append_assoc f.found (_ ∷ _ ∷ []) (w.looks old)), inr (f.found, refl, f.why), f.same.1 ∙ held.loads)
  in_vain c (inl busy) (inr (mid, held, inr g)) = ⊎_elim (λ r. let no = sym busy ∙ r.0 in absurd (cc)) (λ r. let no = sym busy ∙ r.0 in absurd (cc)) g.why
  in_vain c (inr full) (inr (mid, held, inr g)) = ⊎_elim (λ r. let no = sym full ∙ r.0 in absurd (cc)) (λ r. let no = sym full ∙ r.0 in absurd (cc)) g.why

-- a retirement that was refused, for the one reason or the other
pub went_refused : {W S P Q R : Type 0} (w : Ghosts W S) (qsbr : Bool) (allows : Log → LiveEvent → Type 0) {sizes : Sizes} {queue : ℕ} {e : Refusal} (a b c : W) → Went w qsbr allows a b → (P × Q × (c ≡ b)) ⊎ (R × RefusesRetirement w qsbr allows sizes queue b c e) → Went w qsbr allows a c
went_refused w qsbr allows a b c had (inl r) = subst (Went w qsbr allows a) (sym r.2) had
went_refused w qsbr allows a b c had (inr r) = went_on w qsbr allows a b c had (r.1.same.0.0, r.1.after)

-- what is so where there is nothing, where there is nothing
pub if_none : {A : Type 0} (r : Option A) (Q : Type 0) → r ≡ None → IfNone r Q → Q
if_none None Q none q = q
if_none (Some x) Q none q = absurd (cc)

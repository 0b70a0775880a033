-- What is known once a queue was closed.
use Rattle.domain.proofs.Cited.{Bool, ◌≡◌, ◌⊎◌, ℕ, ◌+◌, ◌<◌, ◌∷◌, [], cond, sym, refl, ap, ◌∙◌, subst, arith, eq-eqb, inl, inr, dite, ℕ_discrete, LiveEvent, CloseQueue, Log, Begins, closed_of, begins_trans, closed_stays, Closes, IsAfter}

module _ (qsbr : Bool) (allows : Log → LiveEvent → Type 0) (seen heard : Log) (q : ℕ) (log : Log) (c : Closes qsbr allows seen heard q log) where
  pub heard_goes_on : Begins heard log
  heard_goes_on = begins_trans heard c.before log c.after_caller.1 (CloseQueue q ∷ [], c.wrote)

  pub seen_goes_on : Begins seen log
  seen_goes_on = begins_trans seen c.before log c.after_caller.0 (CloseQueue q ∷ [], c.wrote)

  pub is_closed : closed_of q log ≡ 1
  is_closed = ap (closed_of q) c.wrote ∙ ap (λ b. cond b 1 (closed_of q c.before)) (eq-eqb q q refl)

  pub all_closed : (n : ℕ) → q ≡ n → ((d : ℕ) → d < n → closed_of d heard ≡ 1) → (d : ℕ) → d < n + 1 → closed_of d log ≡ 1
  all_closed n same others d low =
      dite (ℕ_discrete d n)
      (λ (e : d ≡ n). subst (λ (k : ℕ). closed_of k log ≡ 1) (same ∙ sym e) is_closed)
      (λ ne. (closed_stays qsbr allows heard log d heard_goes_on c.run (others d (omega (arith, low, ne)))).0)

  pub is_after : (first_seen first : Log) (n : ℕ) → seen ≡ first_seen → ((n ≡ 0) × (heard ≡ first)) ⊎ IsAfter qsbr allows first_seen first heard → IsAfter qsbr allows first_seen first log
  is_after first_seen first n same (inl x) = record { after_seen = subst (λ (l : Log). Begins l log) same seen_goes_on; after_heard = subst (λ (l : Log). Begins l log) x.1 heard_goes_on; run = c.run }
  is_after first_seen first n same (inr a) = record { after_seen = begins_trans first_seen heard log a.after_seen heard_goes_on; after_heard = begins_trans first heard log a.after_heard heard_goes_on; run = c.run }

-- What a caller that calls again and again has heard of.
use Rattle.rcu.proofs.Cited.{◌≡◌, ◌∙◌, Bool, subst, LiveEvent, Log, Begins, begins_trans, IsAfter, Stays, Ghosts}

-- what comes after a log that the caller heard of comes after all that it knew before
pub still_after : (qsbr : Bool) (allows : Log → LiveEvent → Type 0) (seen heard was mid new : Log) → was ≡ seen → Begins heard mid → IsAfter qsbr allows was mid new → IsAfter qsbr allows seen heard new
still_after qsbr allows seen heard was mid new same later after = record {
  after_seen = subst (λ s. Begins s new) same after.after_seen;
  after_heard = begins_trans heard mid new later after.after_heard;
  run = after.run;
}

-- a caller that stands as it stood after one call and after the next stands as it stood
pub stays_on : {W S : Type 0} (w : Ghosts W S) (a b c : W) → Stays w a b → Stays w b c → Stays w a c
stays_on w a b c s t = (t.0 ∙ s.0, t.1 ∙ s.1, λ x. t.2 (s.2 x), t.3 ∙ s.3)

-- the caller has seen no more, and has heard of what comes after all that it knew
abbrev pub Went : {W S : Type 0} → Ghosts W S → Bool → (Log → LiveEvent → Type 0) → W → W → Type 0
Went w qsbr allows a b = (w.seen b ≡ w.seen a) × IsAfter qsbr allows (w.seen a) (w.heard a) (w.heard b)

-- so after one call and another
pub went_on : {W S : Type 0} (w : Ghosts W S) (qsbr : Bool) (allows : Log → LiveEvent → Type 0) (a b c : W) → Went w qsbr allows a b → Went w qsbr allows b c → Went w qsbr allows a c
went_on w qsbr allows a b c p q = (q.0 ∙ p.0, still_after qsbr allows (w.seen a) (w.heard a) (w.seen b) (w.heard b) (w.heard c) p.0 p.1.after_heard q.1)

-- who hears of what is known still hears of it in what it hears of later
pub still_known : {was known mid new : Log} → known ≡ was → Begins known mid → Begins mid new → Begins was new
still_known {was} {known} {mid} {new} is told later = begins_trans was mid new (subst (λ (s : Log). Begins s mid) is told) later

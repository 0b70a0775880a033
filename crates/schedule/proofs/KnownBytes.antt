-- What readers and writers tell, one call after another.
use Rattle.schedule.proofs.Cited.{◌≡◌, ℕ, List, [], ◌∷◌, ◌++◌, length, take, drop, Option, None, Some, refl, sym, ap, subst, ◌∙◌, append_assoc, arith, Appends, Consumes, Keeps, IsAtEnd, append-nil, take-append-drop}
use Rattle.schedule.specs.Ports.{Tells, WroteFront}

pub appends_none : (o : Option (List ℕ)) → Appends o o []
appends_none None = tt
appends_none (Some xs) = sym (append-nil xs)

pub appends_kept : (o p : Option (List ℕ)) → Keeps o p → Appends o p []
appends_kept None p k = tt
appends_kept (Some xs) None k = absurd k
appends_kept (Some xs) (Some ys) k = k ∙ sym (append-nil xs)

pub appends_more : (o p q : Option (List ℕ)) (xs ys : List ℕ) → Appends o p xs → Appends p q ys → Appends o q (xs ++ ys)
appends_more None p q xs ys a b = tt
appends_more (Some os) None q xs ys a b = absurd a
appends_more (Some os) (Some ps) None xs ys a b = absurd b
appends_more (Some os) (Some ps) (Some qs) xs ys a b = b ∙ ap (λ (t : List ℕ). t ++ ys) a ∙ append_assoc os xs ys

pub consumes_none : (o : Option (List ℕ)) → Consumes o o []
consumes_none None = tt
consumes_none (Some xs) = refl

pub consumes_kept : (o p q : Option (List ℕ)) (xs : List ℕ) → Consumes o p xs → Keeps p q → Consumes o q xs
consumes_kept None p q xs a k = tt
consumes_kept (Some os) None q xs a k = absurd a
consumes_kept (Some os) (Some ps) None xs a k = absurd k
consumes_kept (Some os) (Some ps) (Some qs) xs a k = a ∙ ap (λ (t : List ℕ). xs ++ t) (sym k)

pub consumes_more : (o p q : Option (List ℕ)) (xs ys : List ℕ) → Consumes o p xs → Consumes p q ys → Consumes o q (xs ++ ys)
consumes_more None p q xs ys a b = tt
consumes_more (Some os) None q xs ys a b = absurd a
consumes_more (Some os) (Some ps) None xs ys a b = absurd b
consumes_more (Some os) (Some ps) (Some qs) xs ys a b = a ∙ ap (λ (t : List ℕ). xs ++ t) b ∙ sym (append_assoc xs ys qs)

-- what is read, and what is left
pub tells_more : (o p : Option (List ℕ)) (xs : List ℕ) → Consumes o p xs → (more : List ℕ) × Tells o (xs ++ more)
tells_more None p xs a = ([], tt)
tells_more (Some os) None xs a = absurd a
tells_more (Some os) (Some ps) xs a = (ps, a)

pub tells_all : (o p : Option (List ℕ)) (xs : List ℕ) → Consumes o p xs → IsAtEnd p → Tells o xs
tells_all None p xs a end = tt
tells_all (Some os) None xs a end = absurd a
tells_all (Some os) (Some ps) xs a end = a ∙ ap (λ (t : List ℕ). xs ++ t) end ∙ append-nil xs

-- ---- writing it all

pub wrote_none : (o : Option (List ℕ)) (bytes : List ℕ) → WroteFront o o bytes bytes
wrote_none o bytes = record { front = []; parts = refl; writes = appends_none o }

pub wrote_kept : (o p q : Option (List ℕ)) (bytes rest : List ℕ) → WroteFront o p bytes rest → Keeps p q → WroteFront o q bytes rest
wrote_kept o p q bytes rest w k = record { front = w.front; parts = w.parts; writes = subst (Appends o q) (append-nil w.front) (appends_more o p q w.front [] w.writes (appends_kept p q k)) }

pub wrote_more : (o p q : Option (List ℕ)) (bytes rest : List ℕ) (n : ℕ) → WroteFront o p bytes rest → Appends p q (take n rest) → WroteFront o q bytes (drop n rest)
wrote_more o p q bytes rest n w a = record {
  front = w.front ++ take n rest;
  parts = w.parts ∙ ap (λ (t : List ℕ). w.front ++ t) (sym (take-append-drop n rest)) ∙ sym (append_assoc w.front (take n rest) (drop n rest));
  writes = appends_more o p q w.front (take n rest) w.writes a;
}

pub wrote_all : (o p : Option (List ℕ)) (bytes rest : List ℕ) → WroteFront o p bytes rest → length rest ≡ 0 → Appends o p bytes
wrote_all o p bytes [] w e = subst (Appends o p) (sym (w.parts ∙ append-nil w.front)) w.writes
wrote_all o p bytes (b ∷ rest) w e = absurd (omega arith)

-- What is read of an object that was pushed.
use Rattle.domain_tests.proofs.Cited.{◌≡◌, ℕ, ◌≤◌, List, [], ◌∷◌, length, Option, Some, None, IfSome, IfNone, slice_get, refl, sym, ap, ◌∙◌, subst, inl, arith, ObjectId, LiveEvent, Log, Begins, Has, words_in, has_later}

-- what an answer has is so
pub some_so : {X : Type 0} (found : Option X) (x : X) (so : X → Type 0) → found ≡ Some x → IfSome found so → so x
some_so {X = X} found x so e h = subst (λ (f : Option X). IfSome f so) e h

pub so_some : {X : Type 0} (found : Option X) (x : X) (so : X → Type 0) → found ≡ Some x → so x → IfSome found so
so_some {X = X} found x so e h = subst (λ (f : Option X). IfSome f so) (sym e) h

pub none_so : {X : Type 0} (found : Option X) (so : X → Type 0) → found ≡ None → IfSome found so
none_so {X = X} found so e = subst (λ (f : Option X). IfSome f so) (sym e) tt

-- four words are the words of their payload
pub four_words : (w : List ℕ) → length w ≡ 4 → words_in w ≡ w
four_words [] e = absurd (omega arith)
four_words (x ∷ []) e = absurd (omega arith)
four_words (x ∷ y ∷ []) e = absurd (omega arith)
four_words (x ∷ y ∷ z ∷ []) e = absurd (omega arith)
four_words (x ∷ y ∷ z ∷ u ∷ []) e = refl
four_words (x ∷ y ∷ z ∷ u ∷ t ∷ ts) e = absurd (omega arith)

-- the event that a writer wrote last is in each log that goes on from what was heard of it
pub written : (e f : LiveEvent) (before seen heard log : Log) → e ≡ f → seen ≡ e ∷ before → heard ≡ seen → Begins heard log → Has f log
written e f before seen heard log same wrote is later =
    subst (Has f) (sym later.1) (has_later f later.0 heard (subst (Has f) (sym (is ∙ wrote)) (inl same)))

-- the first object of a writer's list is the one that it pushed
pub own_words : (got : Option (List ℕ)) (words : List ℕ) (pushed : ObjectId) (list rest : List ObjectId) (payload : ObjectId → List ℕ) (R W : Type 0) → list ≡ pushed ∷ rest → (W → payload pushed ≡ words)
    → IfSome got (λ w. (o : ObjectId) × (slice_get list 0 ≡ Some o) × (w ≡ payload o)) → IfSome got (λ w. W) → IfNone got ((length list ≤ 0) × R) → got ≡ Some words
own_words None words pushed list rest payload R W is e some walked none = let n : length (pushed ∷ rest) ≤ 0 = subst (λ (l : List ObjectId). length l ≤ 0) is none.0 in absurd (omega arith)
own_words (Some w) words pushed list rest payload R W is e some walked none =
    let o : pushed ≡ some.0 = same pushed some.0 (subst (λ (l : List ObjectId). slice_get l 0 ≡ Some some.0) is some.1) in
    ap (λ (x : List ℕ). Some x) (some.2 ∙ (ap payload (sym o) ∙ e walked))
  where
    same : (x y : ObjectId) → Some x ≡ Some y → x ≡ y
    same x y e = cc

-- what follows an object, where it was found
pub next_found : {H : Type 0} (M : ObjectId → Type 0) (N : ObjectId → Option ObjectId → Type 0) (Z : H → ObjectId → Type 0) (result : Option H) (o : ObjectId) → M o
    → IfNone result ((o : ObjectId) → M o → N o None) → IfSome result (λ h. (o : ObjectId) → M o → (n : ObjectId) × N o (Some n) × Z h n) → (found : Option ObjectId) × N o found
next_found M N Z None o h none some = (None, none o h)
next_found M N Z (Some x) o h none some = let y = some o h in (Some y.0, y.1)

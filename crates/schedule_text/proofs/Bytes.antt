-- That reading takes some bytes, for any language that is read exactly.
use Rattle.schedule_text.proofs.Cited.{◌≡◌, ℕ, ◌+◌, ◌<◌, List, [], ◌∷◌, length, Ok, Err, ap, ◌∙◌, arith, length-append}
use Rattle.schedule_text.specs.Reading.{Reading}
use Rattle.schedule_text.proofs.Exact.{Reads, not_both}
use Rattle.schedule_text.proofs.More.{whole}

-- what stands first takes some of the text, where the empty text is no text of the language
pub some_read : {A : Type 0} (S : A → List ℕ → Type 0) (read : List ℕ → Reading A) → Reads S read → read [] ≡ Err [] → (text : List ℕ) (x : A) (rest : List ℕ) → read text ≡ Ok (x, rest) → length rest < length text
some_read {A} S read reads empty text x rest e =
    let f = reads.found text x rest e in
    longer_by f.front f.spelled (ap length f.parts ∙ length-append f.front rest)
  where
    longer_by : (front : List ℕ) → S x front → length text ≡ length front + length rest → length rest < length text
    longer_by [] s at = absurd (not_both (read []) (x, []) [] (whole S read reads x [] s) empty)
    longer_by (b ∷ front) s at = omega (arith, at)

-- Reading as the bytes come, for any language that is read exactly.
use Rattle.schedule.proofs.Cited.{◌≡◌, ℕ, ◌+◌, ◌≤◌, List, [], ◌∷◌, ◌++◌, length, Ok, Err, ap, ◌∙◌, arith, length-append, Reading, Reads, bad_within, some_read, ok_more, err_more, last_byte, reads_partial}
use Rattle.schedule.specs.Next.{IsIncremental}

-- a byte that is bad stays so
pub next_bad : {A : Type 0} (read : List ℕ → Reading A) → IsIncremental read → (text after all bad : List ℕ) (column : ℕ) → all ≡ text ++ after
    → read text ≡ Err bad → 1 ≤ length bad → column + length bad ≡ length text + 1
    → (b : ℕ) × (more : List ℕ) × (read all ≡ Err (b ∷ more)) × (column + length (b ∷ more) ≡ length all + 1)
next_bad read incremental text after all [] column at is le place = absurd (omega arith)
next_bad read incremental text after all (b ∷ bs) column at is le place =
    (b, bs ++ after, ap read at ∙ incremental.bad text b bs after is, omega (arith, place, ap length at, length-append text after, length-append bs after))

-- a language that is read exactly may be read as the bytes come, where no text of it is long
pub incremental : {A : Type 0} (S : A → List ℕ → Type 0) (read : List ℕ → Reading A) → Reads S read → read [] ≡ Err []
    → ((x : A) (text : List ℕ) → S x text → length text ≤ 56) → IsIncremental read
incremental S read reads empty most = record {
  found = ok_more S read reads;
  bad = err_more S read reads;
  last = last_byte S read reads;
  shrinks = some_read S read reads empty;
  within = bad_within S read reads;
  short = λ text e. let p = reads_partial S read reads text e in omega (arith, most p.2.0 (text ++ p.0) p.2.1, length-append text p.0, p.1);
}

-- Languages that are read exactly and have a text, and how they are put together.
use Rattle.schedule_text.proofs.Cited.{◌≡◌, ℕ, List, [], ◌∷◌, ◌++◌, true, false, refl, lit<, decimal, is_ascii_digit}
use Rattle.schedule_text.specs.Reading.{Reading, ◌>>=◌, word_at, number_at, is_prefix_free}
use Rattle.schedule_text.specs.Grammar.{done}
use Rattle.schedule_text.proofs.Exact.{Reads, Done, Then, done_reads, then_reads, reads_as}
use Rattle.schedule_text.proofs.Tables.{InTable, table_reads}
use Rattle.schedule_text.proofs.Numbers.{NumberText, number_reads}

-- a language that is read exactly, and has a text
pub record Lang {A : Type 0} (T : A → List ℕ → Type 0) (read : List ℕ → Reading A) : Type 0 where
  pub reads : Reads T read
  pub some : (x : A) × (text : List ℕ) × T x text

pub then_lang : {A B : Type 0} (S : A → List ℕ → Type 0) (T : A → B → List ℕ → Type 0) (read : List ℕ → Reading A) (next : A → List ℕ → Reading B) → Lang S read → ((x : A) → Lang (T x) (next x)) → Lang (Then S T) (λ text. read text >>= λ p. next p.0 p.1)
then_lang S T read next first second = record {
  reads = then_reads S T read next first.reads (λ x. (second x).reads) (λ x. (second x).some);
  some = let a = first.some in let b = (second a.0).some in (b.0, a.1 ++ b.1, (a.0, a.1, b.1, a.2, b.2, refl));
}

-- the same, where what is read next depends on what was read and on the rest together
pub read_then : {A B : Type 0} {S : A → List ℕ → Type 0} {T : A → B → List ℕ → Type 0} {read : List ℕ → Reading A} (next : A × List ℕ → Reading B) → Lang S read → ((x : A) → Lang (T x) (λ text. next (x, text))) → Lang (Then S T) (λ text. read text >>= next)
read_then {A} {B} {S} {T} {read} next first second = then_lang S T read (λ x text. next (x, text)) first second

pub done_lang : {A : Type 0} (x : A) → Lang (Done x) (done x)
done_lang x = record { reads = done_reads x; some = (x, [], (refl, refl)) }

pub number_lang : (end : ℕ) → is_ascii_digit end ≡ false → Lang (NumberText end) (number_at end)
number_lang end nd = record { reads = number_reads end nd; some = (0, decimal 0 ++ end ∷ [], (lit< tt, refl)) }

pub table_lang : {K : Type 0} (table : List (List ℕ × K)) → is_prefix_free table ≡ true → (some : (k : K) × (w : List ℕ) × InTable table k w) → Lang (InTable table) (word_at table)
table_lang table free some = record { reads = table_reads table free some; some = some }

-- the same in other words, and with another value
pub as_lang : {A : Type 0} {S T : A → List ℕ → Type 0} {read : List ℕ → Reading A} → Lang S read → ((x : A) (u : List ℕ) → S x u → T x u) → ((x : A) (u : List ℕ) → T x u → S x u) → Lang T read
as_lang {A} {S} {T} {read} lang to back = record {
  reads = reads_as lang.reads to back;
  some = let s = lang.some in (s.0, s.1, to s.0 s.1 s.2);
}

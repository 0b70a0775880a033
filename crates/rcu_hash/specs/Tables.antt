-- Tables over chains that follow one another.
use Rattle.std.specs.Prelude.{ℕ, ◌<◌, ◌≤◌, ◌+◌, ◌%◌, ◌&&◌, ◌||◌, Bool, nat_le, nat_lt}

-- the chain of a key's bucket, in a table over as many chains as it has buckets, from the first one on
abbrev pub bucket_of : ℕ → ℕ → ℕ → ℕ
bucket_of first buckets key = first + key % buckets

-- a table may have its directory in this chain, of this many, and this many buckets from the first one on
abbrev pub fits : (chains directory first buckets : ℕ) → Bool
fits chains directory first buckets = (nat_lt 0 buckets && nat_le buckets 4096) && (nat_lt directory chains && (nat_le (first + buckets) chains && (nat_lt directory first || nat_le (first + buckets) directory)))

-- two ranges of chains have none in common
abbrev pub are_apart : (first buckets other many : ℕ) → Bool
are_apart first buckets other many = nat_le (first + buckets) other || nat_le (other + many) first

-- it is one of this many chains, from the first one on
abbrev pub IsAmong : ℕ → ℕ → ℕ → Type 0
IsAmong first many c = (first ≤ c) × (c < first + many)

-- Keys and values on their way from the chains of one table to those of another.
use Rattle.std.specs.Prelude.{◌≡◌, ℕ, ◌+◌, ◌%◌, ◌==◌, List, [], ◌∷◌, Option, Some, None, if◌then◌else◌, slice_get}
use Rattle.rcu_list.specs.live_rule.declared.view.View.{View}
use Rattle.rcu_hash.specs.Writers.{value_at}

-- the value of a key among entries: that of the first one with this key
abbrev pub value_among : List (ℕ × ℕ) → ℕ → Option ℕ
value_among [] key = None
value_among (e ∷ es) key = if e.0 == key then Some e.1 else value_among es key

-- no key is there twice
abbrev pub AreApart : List (ℕ × ℕ) → Type 0
AreApart [] = Unit {0}
AreApart (e ∷ es) = (value_among es e.0 ≡ None) × AreApart es

-- their ranks follow one another, from this one on
abbrev pub AreRanked : ℕ → List ℕ → Type 0
AreRanked rank [] = Unit {0}
AreRanked rank (r ∷ rs) = (r ≡ rank) × AreRanked (rank + 1) rs

-- what a key has in the chain of its bucket, of as many buckets, where there is a writer of that chain
abbrev pub value_in_bucket : ℕ → List View → ℕ → Option ℕ
value_in_bucket buckets vs key = value_at (slice_get vs (key % buckets)) key

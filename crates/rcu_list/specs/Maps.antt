-- The map of a keyed chain, and what a lookup may answer.
use Rattle.std.specs.Prelude.{◌≡◌, ◌≤◌, ℕ, ◌+◌, ◌^◌, ◌==◌, if◌then◌else◌, List, [], ◌∷◌, Option, Some, None, slice_index_or}
use Rattle.rcu_model.specs.declared.event.ObjectId.{ObjectId}
use Rattle.rcu_model.specs.Sets.{first_of}
use Rattle.live_log.specs.Keys.{key_of, rank_of}
use Rattle.live_log.specs.Log.{Log, Begins, record_of, state_of}

-- the payload of a key with a value, and a payload's value
abbrev pub words_of : ℕ → ℕ → ℕ → List ℕ
words_of key value rank = key ∷ value ∷ rank ∷ 0 ∷ []

abbrev pub value_of : ℕ × List ℕ → ℕ
value_of x = slice_index_or x.1 1 0

-- the value of a key among objects: that of the first one with this key
abbrev pub value_in : (ObjectId → ℕ × List ℕ) → List ObjectId → ℕ → Option ℕ
value_in note [] key = None
value_in note (o ∷ os) key = if key_of (note o) == key then Some (value_of (note o)) else value_in note os key

-- the map of a chain: the keys and values of the objects that it links in the log
abbrev pub map_of : Log → ℕ → ℕ → Option ℕ
map_of log c = value_in (record_of log) ((state_of log).chain c)

-- the rank that comes next above those of objects of which the first one has the highest
abbrev pub next_rank : (ObjectId → ℕ × List ℕ) → List ObjectId → ℕ
next_rank note [] = 0
next_rank note (o ∷ os) = rank_of (note o) + 1

-- the first object of the chain has the last rank, above which there is none
abbrev pub HasLastRank : Log → ℕ → Type 0
HasLastRank log c = (o : ObjectId) × (first_of ((state_of log).chain c) ≡ Some o) × (2 ^ 62 ≤ rank_of (record_of log o) + 1)

-- A lookup that had seen and heard of these logs, and has seen the new one at its end, answers by the map in some log
-- between: the key had the value there, or none.
pub record AnswersBetween (seen heard new : Log) (c key : ℕ) (answer : Option ℕ) : Type 0 where
  pub at : Log
  pub after_seen : Begins seen at
  pub after_heard : Begins heard at
  pub before : Begins at new
  pub is : map_of at c key ≡ answer

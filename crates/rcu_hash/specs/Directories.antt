-- The map of a table whose buckets a directory names: the one record of a chain, which a lookup reads first.
use Rattle.std.specs.Prelude.{◌≡◌, ◌≢◌, ℕ, ◌==◌, ◌&&◌, Bool, if◌then◌else◌, nat_lt, List, Option, Some, None, slice_index_or, IsTrue}
use mathlib.Core.Option.{some}
use Rattle.std.specs.List.{FoldsTo}
use Rattle.gp_memb.specs.declared.plan.GracePlan as plan
use Rattle.rcu_model.specs.declared.event.ObjectId.{ObjectId}
use Rattle.rcu_model.specs.Sets.{In, first_of}
use Rattle.live_log.specs.declared.event.LiveEvent.TheVariants.{Close}
use Rattle.live_log.specs.Log.{Log, Begins, Has, IsLiveRun, record_of, open_of, state_of}
use Rattle.live_log.specs.Tables.{kind_of, tabled}
use Rattle.rcu_list.specs.live_read.Holding.{log_of}
use Rattle.rcu_list.specs.live_read.declared.reader_core.ReaderCore.{ReaderCore}
use Rattle.rcu_list.specs.Maps.{map_of}
use Rattle.rcu_list.specs.Walks.{times}
use Rattle.rcu_hash.specs.Tables.{bucket_of}

-- of a directory's payload: the first chain that it names, how many, and the chain of a key's bucket
abbrev pub first_in : ℕ × List ℕ → ℕ
first_in x = slice_index_or x.1 0 0

abbrev pub buckets_in : ℕ × List ℕ → ℕ
buckets_in x = slice_index_or x.1 1 0

abbrev pub bucket_in : ℕ × List ℕ → ℕ → ℕ
bucket_in x key = bucket_of (first_in x) (buckets_in x) key

-- a directory's words, with a bucket for the key among this many chains
abbrev pub leads_to : (chains kind first buckets key : ℕ) → Bool
leads_to chains kind first buckets key = (kind == 1) && (nat_lt 0 buckets && nat_lt (bucket_of first buckets key) chains)

abbrev pub leads : ℕ → ℕ × List ℕ → ℕ → Bool
leads chains x key = leads_to chains (kind_of x) (first_in x) (buckets_in x) key

-- the value of a key by the first object of the directory's chain, where there is one
abbrev pub value_through : ℕ → Log → Option ObjectId → ℕ → Option ℕ
value_through chains log None key = None
value_through chains log (Some o) key = if leads chains (record_of log o) key then map_of log (bucket_in (record_of log o) key) key else None

-- the directory's first object leads the key to the chain
abbrev pub LeadsTo : ℕ → Log → ℕ → ℕ → Type 0
LeadsTo d log key c = (o : ObjectId) × (first_of ((state_of log).chain d) ≡ Some o) × (bucket_in (record_of log o) key ≡ c)

-- the map of the table whose directory is in chain d, over a domain of this many chains
abbrev pub directed_map : ℕ → ℕ → Log → ℕ → Option ℕ
directed_map chains d log = value_through chains log (first_of ((state_of log).chain d))

-- A lookup that had seen and heard of these logs, and has seen the new one at its end, answers by the table's map in
-- some log between: the key had the value there, or none.
pub record AnswersThrough (seen heard new : Log) (chains d key : ℕ) (answer : Option ℕ) : Type 0 where
  pub at : Log
  pub after_seen : Begins seen at
  pub after_heard : Begins heard at
  pub before : Begins at new
  pub is : directed_map chains d at key ≡ answer

-- The table had this for the key in some log from the one on and up to the other, in which the directory was linked.
pub record AnswersLinked (start now : Log) (chains d key : ℕ) (o : ObjectId) (answer : Option ℕ) : Type 0 where
  pub at : Log
  pub after : Begins start at
  pub before : Begins at now
  pub linked : In ((state_of at).chain d) o
  pub is : directed_map chains d at key ≡ answer

-- A walk that had seen and heard of these logs, and has seen the new one at its end, met these keys with their values.
-- The key had each value in some log between; and a key that was not met exactly once had none in some log between.
pub record WalksThrough (seen heard new : Log) (chains d : ℕ) (met : List (ℕ × ℕ)) : Type 0 where
  pub had : (key value : ℕ) → In met (key, value) → AnswersThrough seen heard new chains d key (Some value)
  pub lacked : (key : ℕ) → times key met ≢ 1 → AnswersThrough seen heard new chains d key None

-- no key has a value in the table, and each is led to its bucket, among this many chains from the first one on
abbrev pub HasNoKeys : (chains d first buckets : ℕ) → Log → Type 0
HasNoKeys chains d first buckets log = (key : ℕ) → (directed_map chains d log key ≡ None) × LeadsTo d log key (bucket_of first buckets key)

-- A bucket answers for its table. Take a section that was open while a directory was linked, and is open still. What a
-- key has then in the directory's bucket, the table's map had while the directory was linked.
abbrev pub BucketsAnswer : Bool → Type 0
BucketsAnswer qsbr = (start at log : Log) (chains d key : ℕ) (o : ObjectId) (slot ordinal copied : ℕ) → Begins start at → Begins at log → IsLiveRun qsbr tabled log → first_of ((state_of start).chain d) ≡ Some o → IsTrue (leads chains (record_of start o) key) → open_of slot start ≡ some (ordinal, copied) → ¬ Has (Close slot ordinal) log → AnswersLinked start at chains d key o (map_of at (bucket_in (record_of start o) key) key)

module _ {P K : Type 0} {g : plan.Ghosts P} (r r' : ReaderCore P K g) (chains d : ℕ) where
  -- a reader looked a key up
  abbrev pub AnswersReader : ℕ → Option ℕ → Type 0
  AnswersReader key answer = AnswersThrough (log_of r) r.seat.me.0.heard (log_of r') chains d key answer

  -- or it went through the table, and a call was made with each entry that it met
  abbrev pub VisitsTable : {F : Type 0} → (F → ℕ × ℕ → F → Type 0) → F → F → Type 0
  VisitsTable called visit visit' = (met : List (ℕ × ℕ)) × WalksThrough (log_of r) r.seat.me.0.heard (log_of r') chains d met × FoldsTo called visit met visit'

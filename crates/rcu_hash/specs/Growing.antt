-- What a new table and a growth tell.
use Rattle.std.specs.Prelude.{◌≡◌, ℕ, ◌+◌, ◌∷◌, [], Bool, List, zero, suc}
use Rattle.rcu_model.specs.declared.event.ObjectId.{ObjectId}
use Rattle.live_log.specs.declared.event.LiveEvent.{LiveEvent}
use Rattle.live_log.specs.declared.event.LiveEvent.TheVariants.{ChainNote, Object}
use Rattle.live_log.specs.declared.event.ObjectEvent.TheVariants.{Push, Replace}
use Rattle.live_log.specs.Log.{Log, Begins, chain_note, record_of, state_of}
use Rattle.live_log.specs.Tables.{Names, reserved}
use Rattle.rcu_list.specs.Maps.{words_of}
use Rattle.rcu_hash.specs.Copies.{AreApart, value_among}
use Rattle.rcu_hash.specs.Directories.{LeadsTo, buckets_in, directed_map, first_in}
use Rattle.rcu_hash.specs.Leaving.{LeavesMap, Writes}
use Rattle.rcu_hash.specs.Naming.{words_by}
use Rattle.rcu_hash.specs.Tables.{bucket_of}

-- A chain has the note of the table whose directory is in chain d, and the directory does not name it.
pub record HasLeft (d : ℕ) (log : Log) : Type 0 where
  pub chain : ℕ
  pub object : ObjectId
  pub noted : chain_note chain log ≡ d + 1
  pub present : (state_of log).chain d ≡ object ∷ []
  pub unnamed : ¬ (Names (record_of log object) chain)

-- by what is told of an event: from what was heard of before it, the event, and the log that ends with it
module _ (Tells : Log → LiveEvent → Log → Type 0) (first buckets : ℕ) where
  -- a key got a record with its value and this rank, by a push into the chain of its bucket
  pub record CopiesKey (rank : ℕ) (heard : Log) (entry : ℕ × ℕ) (log : Log) : Type 0 where
    pub object : ObjectId
    pub cell : ℕ
    pub tells : Tells heard (Object (Push (bucket_of first buckets entry.0) object cell (words_of entry.0 entry.1 rank))) log

  -- each key did, in their order; their ranks follow one another, from this one on
  abbrev pub CopiesAll : ℕ → Log → List (ℕ × ℕ) → Log → Type 0
  CopiesAll rank heard [] log = Begins heard log
  CopiesAll rank heard (e ∷ es) log = (at : Log) × CopiesKey rank heard e at × CopiesAll (rank + 1) at es log

-- this many chains, from the first one on, got this note, in their order
abbrev pub NotesAll : (Log → LiveEvent → Log → Type 0) → (note first many : ℕ) → Log → Log → Type 0
NotesAll Tells note first zero heard log = Begins heard log
NotesAll Tells note first (suc many) heard log = (at : Log) × Tells heard (ChainNote first note) at × NotesAll Tells note (first + 1) many at log

-- Each bucket of a new table was reserved for an object, which then came into the directory's chain as the directory. All
-- that came after what the caller had seen and heard of.
pub record Founds (qsbr : Bool) (allows : Log → LiveEvent → Type 0) (d : ℕ) (seen heard : Log) (first buckets : ℕ) (log : Log) : Type 0 where
  pub noted : Log
  pub object : ObjectId
  pub cell : ℕ
  pub notes : NotesAll (Writes qsbr allows seen) (reserved object) first buckets heard noted
  pub pushed : Writes qsbr allows seen noted (Object (Push d object cell (words_by first buckets))) log

-- by the rule of chains, the chains of the domain, the directory's chain, and what the caller had seen
module _ (qsbr : Bool) (allows : Log → LiveEvent → Type 0) (chains d : ℕ) (seen : Log) where
  -- Another directory took the place of the one that was linked, and the table's map is as it was. Each key is led to
  -- its bucket among those that the new one names; and these entries, no two of one key, are the map.
  pub record Exchanges (heard : Log) (old : ObjectId) (first buckets : ℕ) (entries : List (ℕ × ℕ)) (log : Log) : Type 0 where
    pub new : ObjectId
    pub cell : ℕ
    pub leaves : LeavesMap qsbr allows chains d seen heard (Object (Replace d old new cell (words_by first buckets))) log
    pub linked : (state_of leaves.writes.before).chain d ≡ old ∷ []
    pub leads : (key : ℕ) → LeadsTo d log key (bucket_of first buckets key)
    pub had : (key : ℕ) → directed_map chains d leaves.writes.before key ≡ value_among entries key
    pub apart : AreApart entries

  -- Each key got a record in its new bucket, with ranks from 0 on. Then each new bucket was reserved for an object, and
  -- each bucket of the directory that was linked got the table's note. At last the object took that one's place. Each of
  -- these events left the map as it was.
  pub record Grows (heard : Log) (first buckets : ℕ) (entries : List (ℕ × ℕ)) (log : Log) : Type 0 where
    pub copied : Log
    pub noted : Log
    pub left : Log
    pub old : ObjectId
    pub exchanges : Exchanges left old first buckets entries log
    pub copies : CopiesAll (LeavesMap qsbr allows chains d seen) first buckets 0 heard entries copied
    pub notes : NotesAll (LeavesMap qsbr allows chains d seen) (reserved exchanges.new) first buckets copied noted
    pub leaves : NotesAll (LeavesMap qsbr allows chains d seen) (d + 1) (first_in (record_of left old)) (buckets_in (record_of left old)) noted left

-- What an accepted call of a writer tells of a table that a directory leads.
use Rattle.std.specs.Prelude.{◌≡◌, ◌∷◌, ◌<◌, ◌^◌, Bool, ℕ, Option, Some, None}
use Rattle.rcu_model.specs.declared.event.ObjectId.{ObjectId}
use Rattle.rcu_model.specs.Sets.{at_number}
use Rattle.live_log.specs.declared.event.LiveEvent.{LiveEvent}
use Rattle.live_log.specs.declared.event.LiveEvent.TheVariants.{Object}
use Rattle.live_log.specs.declared.event.ObjectEvent.TheVariants.{Push, Replace, Cut}
use Rattle.live_log.specs.Log.{Log, Begins, IsLiveRun, record_of, state_of}
use Rattle.rcu_list.specs.Maps.{next_rank, words_of}
use Rattle.rcu_hash.specs.Directories.{LeadsTo, directed_map}

-- by the rule of chains, the chains of the domain, the directory's chain, and what the caller had seen and heard of
module _ (qsbr : Bool) (allows : Log → LiveEvent → Type 0) (chains d : ℕ) (seen heard : Log) where
  -- The event is the last one of the log, and came after all that the caller knew. Before it the directory led the key
  -- to the chain, and the key had this value in the table's map, or none; after it the key has that, and each other key
  -- what it had.
  pub record ChangesThrough (chain : ℕ) (event : LiveEvent) (key : ℕ) (had has : Option ℕ) (log : Log) : Type 0 where
    pub before : Log
    pub wrote : log ≡ event ∷ before
    pub after : Begins seen before × Begins heard before
    pub run : IsLiveRun qsbr allows log
    pub leads : LeadsTo d before key chain
    pub was : directed_map chains d before key ≡ had
    pub map : (k : ℕ) → directed_map chains d log k ≡ at_number key has (directed_map chains d before) k

  -- a key that had no value has this one, by a push into the chain, with the rank that came next in it
  pub record InsertsThrough (key value chain : ℕ) (log : Log) : Type 0 where
    pub object : ObjectId
    pub cell : ℕ
    pub rank : ℕ
    pub below : rank < 2 ^ 62
    pub changes : ChangesThrough chain (Object (Push chain object cell (words_of key value rank))) key None (Some value) log
    pub next : rank ≡ next_rank (record_of changes.before) ((state_of changes.before).chain chain)

  -- a key that had a value has this one, by a replacement in the chain
  pub record ReplacesThrough (key value chain : ℕ) (left : ObjectId) (log : Log) : Type 0 where
    pub object : ObjectId
    pub cell : ℕ
    pub rank : ℕ
    pub had : ℕ
    pub changes : ChangesThrough chain (Object (Replace chain left object cell (words_of key value rank))) key (Some had) (Some value) log

  -- a key that had a value has none, by a cut from the chain
  pub record RemovesThrough (key chain : ℕ) (left : ObjectId) (log : Log) : Type 0 where
    pub had : ℕ
    pub changes : ChangesThrough chain (Object (Cut chain left)) key (Some had) None log

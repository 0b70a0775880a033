-- Events that leave a table's map as it was.
use Rattle.std.specs.Prelude.{◌≡◌, ◌∷◌, Bool, ℕ}
use Rattle.live_log.specs.declared.event.LiveEvent.{LiveEvent}
use Rattle.live_log.specs.Log.{Log, Begins, IsLiveRun}
use Rattle.rcu_hash.specs.Directories.{directed_map}

-- by the rule of chains
module _ (qsbr : Bool) (allows : Log → LiveEvent → Type 0) where
  -- the event is the last one of the log, and came after all that the caller had seen and heard of
  pub record Writes (seen heard : Log) (event : LiveEvent) (log : Log) : Type 0 where
    pub before : Log
    pub wrote : log ≡ event ∷ before
    pub after : Begins seen before × Begins heard before
    pub run : IsLiveRun qsbr allows log

  -- and the map of the table whose directory is in chain d, over a domain of this many chains, is as it was
  pub record LeavesMap (chains d : ℕ) (seen heard : Log) (event : LiveEvent) (log : Log) : Type 0 where
    pub writes : Writes seen heard event log
    pub map : (key : ℕ) → directed_map chains d log key ≡ directed_map chains d writes.before key

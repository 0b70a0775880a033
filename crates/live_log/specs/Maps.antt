-- What a rule gives under which chains are maps.
use Rattle.std.specs.Prelude.{Bool, ◌≡◌, ◌⊎◌, ℕ, List, [], ◌∷◌}
use Rattle.rcu_model.specs.declared.event.ObjectId.{ObjectId}
use Rattle.rcu_model.specs.Sets.{In}
use Rattle.live_log.specs.declared.event.LiveEvent.{LiveEvent}
use Rattle.live_log.specs.declared.event.LiveEvent.TheVariants.{Object}
use Rattle.live_log.specs.declared.event.ObjectEvent.TheVariants.{Push, Replace, Cut}
use Rattle.live_log.specs.Keys.{IsKeyed, key_of, keyed_event, rank_of}
use Rattle.live_log.specs.Log.{Log, IsLiveRun, chain_note, record_of, state_of}
use Rattle.live_log.specs.Tables.{HasKey, HasKeys}

-- the chain has no note, as that of a list
abbrev pub IsUnnoted : Log → ℕ → Type 0
IsUnnoted log c = chain_note c log ≡ 0

module _ (qsbr : Bool) (allows : Log → LiveEvent → Type 0) where
  -- by what makes a chain free
  module _ (free : Log → ℕ → Type 0) where
    -- a free chain of keys
    pub record IsPlain (log : Log) (c : ℕ) : Type 0 where
      pub run : IsLiveRun qsbr allows log
      pub is_free : free log c
      pub keys : HasKeys log c

    -- in a free chain of keys the rule of keyed chains decides what may come
    pub record TakesKeys : Type 0 where
      pub pushes : (log : Log) (c : ℕ) (o : ObjectId) (cell : ℕ) (payload : List ℕ) → IsPlain log c → HasKey (cell, payload) → keyed_event log (Push c o cell payload) → allows log (Object (Push c o cell payload))
      pub replaces : (log : Log) (c : ℕ) (old new : ObjectId) (cell : ℕ) (payload : List ℕ) → IsPlain log c → In ((state_of log).chain c) old → HasKey (cell, payload) → keyed_event log (Replace c old new cell payload) → allows log (Object (Replace c old new cell payload))
      pub cuts : (log : Log) (c : ℕ) (o : ObjectId) → IsPlain log c → In ((state_of log).chain c) o → keyed_event log (Cut c o) → allows log (Object (Cut c o))

  -- In each chain keys differ and ranks fall. What takes the place of an object has its rank, and its key too, unless
  -- that object was alone. A chain of keys with no note takes keys by the rule of keyed chains.
  pub record HasMaps : Type 0 where
    pub falls : (log : Log) (c : ℕ) → IsLiveRun qsbr allows log → IsKeyed log c
    pub alike : (log : Log) (c : ℕ) (old new : ObjectId) (cell : ℕ) (payload : List ℕ) → IsLiveRun qsbr allows (Object (Replace c old new cell payload) ∷ log) → (rank_of (cell, payload) ≡ rank_of (record_of log old)) × ((key_of (cell, payload) ≡ key_of (record_of log old)) ⊎ ((state_of log).chain c ≡ old ∷ []))
    pub takes : TakesKeys IsUnnoted

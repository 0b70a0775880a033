-- What is known where a call of a list's writer is refused.
use Rattle.std.specs.Prelude.{◌≡◌, ◌≢◌, ◌⊎◌, ◌%◌, ◌∷◌, ◌++◌, Bool, ℕ, List, None, IsSome}
use Rattle.rcu_model.specs.declared.refusal.Refusal.{Refusal}
use Rattle.rcu_model.specs.declared.refusal.Refusal.TheVariants.{Closed, Exists, Memory, Missing, PoolFull}
use Rattle.live_log.specs.declared.event.LiveEvent.{LiveEvent}
use Rattle.live_log.specs.Log.{Log, Begins, IsLiveRun, closed_of}
use Rattle.domain.specs.live_rule.Objects.{free_word}
use Rattle.domain.specs.live_rule.Places.{cell_at, closed_at}
use Rattle.domain.specs.live_rule.declared.view.Look.{Look}
use Rattle.domain.specs.live_rule.declared.view.Look.TheVariants.{Loaded, Stored}
use Rattle.domain.specs.live_rule.declared.view.Sizes.{Sizes}
use Rattle.domain.specs.live_read.Hearing.{IsAfter, OnlyHears, Stays}
use Rattle.domain.specs.live_read.declared.caller.Caller.{Ghosts}
use Rattle.domain.specs.live_write.Searching.{GetsNoRecord, TakesRecord}
use Rattle.rcu_list.specs.Maps.{HasLastRank, map_of}

module _ {W S : Type 0} (w : Ghosts W S) (qsbr : Bool) (allows : Log → LiveEvent → Type 0) (sizes : Sizes) (old new : W) (e : Refusal) where
  -- no record was had, as the words tell that the search for one found
  pub record FindsNoRecord : Type 0 where
    pub is : e ≡ PoolFull
    pub found : List Look
    pub looks : w.looks new ≡ found ++ w.looks old
    pub why : GetsNoRecord sizes found
    pub after : IsAfter qsbr allows (w.seen old) (w.heard old) (w.heard new)
    pub same : Stays w old new × (w.loads new ≡ w.loads old)

  -- One record was taken. Then the queue's closed word was loaded, by which the refusal goes, and that record was freed.
  pub record GivesBack (queue : ℕ) : Type 0 where
    pub found : List Look
    pub closed : ℕ
    pub cell : ℕ
    pub number : ℕ
    pub took : TakesRecord sizes cell number found
    pub looks : w.looks new ≡ Stored (cell_at sizes cell 0) (free_word number) ∷ Loaded (closed_at sizes queue) closed ∷ (found ++ w.looks old)
    pub at : Log
    pub told : closed ≡ closed_of queue at
    pub within : IsAfter qsbr allows (w.seen old) (w.heard old) at × Begins at (w.heard new) × IsLiveRun qsbr allows (w.heard new)
    pub why : ((e ≡ Closed) × (closed ≡ 1)) ⊎ ((e ≡ Memory) × (closed ≢ 1))
    pub load : Log
    pub loads : w.loads new ≡ load ∷ w.loads old
    pub same : Stays w old new

  module _ (known : Log) (c key : ℕ) where
    -- the key is there; else there is no rank for it, or no record
    abbrev pub RefusesInsertion : Type 0
    RefusesInsertion = ((e ≡ Exists) × IsSome (map_of known c key) × (new ≡ old)) ⊎ ((map_of known c key ≡ None) × (((e ≡ PoolFull) × HasLastRank known c × (new ≡ old)) ⊎ FindsNoRecord))

    -- the key is not there; else there is no record
    abbrev pub RefusesSuccessor : Type 0
    RefusesSuccessor = ((e ≡ Missing) × (map_of known c key ≡ None) × (new ≡ old)) ⊎ (IsSome (map_of known c key) × FindsNoRecord)

  -- The queue's closed word was loaded in a log of the call, and the refusal goes by it.
  pub record IsRefusedBy (queue : ℕ) : Type 0 where
    pub closed : ℕ
    pub looks : w.looks new ≡ Loaded (closed_at sizes queue) closed ∷ w.looks old
    pub at : Log
    pub told : closed ≡ closed_of queue at
    pub within : IsAfter qsbr allows (w.seen old) (w.heard old) at × Begins at (w.heard new) × IsLiveRun qsbr allows (w.heard new)
    pub why : ((e ≡ Closed) × (closed ≡ 1)) ⊎ ((e ≡ Memory) × (closed ≢ 1))
    pub same : Stays w old new × (w.loads new ≡ w.loads old)

  -- nothing was done for the caller, which has heard of a log of the call
  abbrev pub HearsOfCall : Type 0
  HearsOfCall = IsAfter qsbr allows (w.seen old) (w.heard old) (w.heard new) × OnlyHears w old new

  -- of a list in chain c: in the log of which the caller hears the key has a value, or it has none
  module _ (c key : ℕ) where
    abbrev pub IsPresent : Type 0
    IsPresent = IsSome (map_of (w.heard new) c key)

    abbrev pub IsAbsent : Type 0
    IsAbsent = map_of (w.heard new) c key ≡ None

    -- the key has a value; else there is no rank for it, or no record
    abbrev pub IsNotInserted : Type 0
    IsNotInserted = ((e ≡ Exists) × IsPresent × HearsOfCall) ⊎ (IsAbsent × (((e ≡ PoolFull) × HasLastRank (w.heard new) c × HearsOfCall) ⊎ FindsNoRecord))

    -- the key has none; else there is no record, or its queue takes nothing
    abbrev pub IsNotReplaced : Type 0
    IsNotReplaced = ((e ≡ Missing) × IsAbsent × HearsOfCall) ⊎ (IsPresent × (FindsNoRecord ⊎ GivesBack (c % sizes.queues)))

    -- the key has none; else its queue takes nothing
    abbrev pub IsNotRemoved : Type 0
    IsNotRemoved = ((e ≡ Missing) × IsAbsent × HearsOfCall) ⊎ (IsPresent × IsRefusedBy (c % sizes.queues))

-- What is known where a call of a table is refused.
use Rattle.std.specs.Prelude.{◌≡◌, ◌≢◌, ◌⊎◌, ◌%◌, ◌++◌, [], Bool, ℕ, List, None, IsSome}
use Rattle.rcu_model.specs.declared.refusal.Refusal.{Refusal}
use Rattle.rcu_model.specs.declared.refusal.Refusal.TheVariants.{Exists, Missing, PoolFull}
use Rattle.rcu_model.specs.Sets.{In}
use Rattle.live_log.specs.declared.event.LiveEvent.{LiveEvent}
use Rattle.live_log.specs.Log.{Log, Begins, chain_note, state_of}
use Rattle.rcu_list.specs.live_rule.Places.{hold_at}
use Rattle.rcu_list.specs.live_rule.declared.view.Look.{Look}
use Rattle.rcu_list.specs.live_rule.declared.view.Look.TheVariants.{Loaded}
use Rattle.rcu_list.specs.live_rule.declared.view.Sizes.{Sizes}
use Rattle.rcu_list.specs.live_read.Hearing.{IsAfter, OnlyHears}
use Rattle.rcu_list.specs.live_read.declared.caller.Caller.{Ghosts}
use Rattle.rcu_list.specs.live_callbacks.Refusing.{RefusesRetirement}
use Rattle.rcu_list.specs.Maps.{HasLastRank}
use Rattle.rcu_list.specs.Refusing.{FindsNoRecord, GivesBack}
use Rattle.rcu_hash.specs.Directories.{LeadsTo, directed_map}

-- the chain links an object, or has a note
abbrev pub IsInUse : ℕ → Log → Type 0
IsInUse c log = ((state_of log).chain c ≢ []) ⊎ (chain_note c log ≢ 0)

-- or neither
abbrev pub IsUnused : ℕ → Log → Type 0
IsUnused c log = ((state_of log).chain c ≡ []) × (chain_note c log ≡ 0)

module _ {W S : Type 0} (w : Ghosts W S) (qsbr : Bool) (allows : Log → LiveEvent → Type 0) (old new : W) where
  -- it is so of some log of the call: one that comes after all that the caller knew, and that it has heard of at the
  -- end
  pub record During (is_so : Log → Type 0) : Type 0 where
    pub at : Log
    pub after : IsAfter qsbr allows (w.seen old) (w.heard old) at
    pub before : Begins at (w.heard new)
    pub so : is_so at

  -- one of these chains had a writer: in the call its hold word was found to be 1, and never 0; or the chain was in use
  -- in some log of the call
  pub record FindsTaken (sizes : Sizes) (is_one : ℕ → Type 0) : Type 0 where
    pub chain : ℕ
    pub one : is_one chain
    pub found : List Look
    pub looks : w.looks new ≡ found ++ w.looks old
    pub why : (In found (Loaded (hold_at sizes chain) 1) × ¬ In found (Loaded (hold_at sizes chain) 0)) ⊎ During (IsInUse chain)

  -- each of these chains was unused in some log of the call
  abbrev pub FindsFree : (ℕ → Type 0) → Type 0
  FindsFree is_one = (c : ℕ) → is_one c → During (IsUnused c)

-- of a table that a directory leads
module _ {W S : Type 0} (w : Ghosts W S) (qsbr : Bool) (allows : Log → LiveEvent → Type 0) (sizes : Sizes) (old new : W) (e : Refusal) (d key : ℕ) where
  -- the key had a value in the table, in this chain; or it had none
  abbrev pub HadIn : ℕ → Type 0
  HadIn c = During w qsbr allows old new (λ log. IsSome (directed_map sizes.chains d log key) × LeadsTo d log key c)

  abbrev pub LackedThrough : Type 0
  LackedThrough = During w qsbr allows old new (λ log. directed_map sizes.chains d log key ≡ None)

  -- the chain to which the directory led had the last rank
  abbrev pub HadLastRank : Type 0
  HadLastRank = During w qsbr allows old new (λ log. (c : ℕ) × LeadsTo d log key c × HasLastRank log c)

  -- the key had a value; else there was no rank for it, or no record
  abbrev pub RefusesInsertionThrough : Type 0
  RefusesInsertionThrough = ((e ≡ Exists) × ((c : ℕ) × HadIn c) × OnlyHears w old new) ⊎ (LackedThrough × (((e ≡ PoolFull) × HadLastRank × OnlyHears w old new) ⊎ FindsNoRecord w qsbr allows sizes old new e))

  -- the key had none; else there was no record, or its queue takes nothing
  abbrev pub RefusesReplacementThrough : Type 0
  RefusesReplacementThrough = ((e ≡ Missing) × LackedThrough × OnlyHears w old new) ⊎ ((c : ℕ) × HadIn c × (FindsNoRecord w qsbr allows sizes old new e ⊎ GivesBack w qsbr allows sizes old new e (c % sizes.queues)))

  -- the key had none; else its queue takes nothing
  abbrev pub RefusesRemovalThrough : Type 0
  RefusesRemovalThrough = ((e ≡ Missing) × LackedThrough × OnlyHears w old new) ⊎ ((c : ℕ) × HadIn c × RefusesRetirement w qsbr allows sizes (c % sizes.queues) old new e)

-- What a call of a table tells its caller.
use base.Stored.{Gv}
use Rattle.std.specs.Prelude.{◌≡◌, ◌⊎◌, ◌+◌, ◌%◌, Bool, true, false, ℕ, List, length}
use Rattle.rcu_model.specs.declared.event.ObjectId.{ObjectId}
use Rattle.rcu_model.specs.declared.refusal.Refusal.{Refusal}
use Rattle.rcu_model.specs.declared.refusal.Refusal.TheVariants.{BadConfig, Busy, Memory, PoolFull}
use Rattle.live_log.specs.Log.{Log, record_of}
use Rattle.live_log.specs.Tables.{tabled}
use Rattle.rcu_list.specs.live_read.Hearing.{IsAfter, MakesLast, MakesMany}
use Rattle.rcu_list.specs.live_read.declared.caller.Caller.{Ghosts}
use Rattle.rcu_list.specs.live_rule.declared.view.Sizes.{Sizes}
use Rattle.rcu_list.specs.Calls.{HandsOver}
use Rattle.rcu_hash.specs.Directories.{HasNoKeys, buckets_in}
use Rattle.rcu_hash.specs.Growing.{Founds, Grows, HasLeft}
use Rattle.rcu_hash.specs.Publishing.{InsertsThrough, RemovesThrough, ReplacesThrough}
use Rattle.rcu_hash.specs.Refusing.{During, FindsFree, FindsTaken}
use Rattle.rcu_hash.specs.Tables.{IsAmong, fits}
use Rattle.rcu_hash.specs.Tidying.{IsTidied}

-- of a table whose directory is in chain d
module _ {W S : Type 0} (w : Ghosts W S) (qsbr : Bool) (sizes : Sizes) (old new : W) (d : ℕ) where
  -- a key that had no value has this one, of which the caller hears
  abbrev pub IsInsertedThrough : ℕ → ℕ → Type 0
  IsInsertedThrough key value = (chain : ℕ) × InsertsThrough qsbr tabled sizes.chains d (w.seen old) (w.heard old) key value chain (w.heard new)

  -- a key that had a value has this one, and what left the table is retired
  abbrev pub IsReplacedThrough : (key value ticket : ℕ) (callback : Gv) → Type 0
  IsReplacedThrough key value ticket callback = (chain : ℕ) × (left : ObjectId) × (published : Log) × ReplacesThrough qsbr tabled sizes.chains d (w.seen old) (w.heard old) key value chain left published × HandsOver qsbr tabled left (chain % sizes.queues) ticket callback published (w.heard new) × MakesLast w old new published

  -- a key that had a value has none, and what left the table is retired
  abbrev pub IsRemovedThrough : (key ticket : ℕ) (callback : Gv) → Type 0
  IsRemovedThrough key ticket callback = (chain : ℕ) × (left : ObjectId) × (published : Log) × RemovesThrough qsbr tabled sizes.chains d (w.seen old) (w.heard old) key chain left published × HandsOver qsbr tabled left (chain % sizes.queues) ticket callback published (w.heard new) × MakesLast w old new published

  -- Another directory, which names these chains, took the place of the old one, which left this many records. Of that
  -- the caller made a change for each copy, for each bucket of both, and for the directory.
  abbrev pub IsGrown : (first buckets left : ℕ) → Type 0
  IsGrown first buckets left = (entries : List (ℕ × ℕ)) × (g : Grows qsbr tabled sizes.chains d (w.seen old) (w.heard old) first buckets entries (w.heard new)) × (left ≡ length entries + 1) × (fits sizes.chains d first buckets ≡ true)
      × MakesMany w old new (length entries + buckets + buckets_in (record_of g.left g.old) + 1)

  -- one of these chains is not there, or was taken; or each was free in some log of the call, and there was no memory or no
  -- record
  abbrev pub RefusesChains : (is_one : ℕ → Type 0) (first buckets : ℕ) → Refusal → Type 0
  RefusesChains is_one first buckets e = ((e ≡ BadConfig) × ((fits sizes.chains d first buckets ≡ false) ⊎ FindsTaken w qsbr tabled old new sizes is_one)) ⊎ ((fits sizes.chains d first buckets ≡ true) × FindsFree w qsbr tabled old new is_one × ((e ≡ Memory) ⊎ (e ≡ PoolFull)))

  -- A new table is made: each chain was unused in some log of the call. Then each bucket was reserved, and the directory
  -- came. In the last log, after all that the caller knew, no key has a value. The caller made that many changes.
  pub record IsMade (first buckets : ℕ) : Type 0 where
    pub fit : fits sizes.chains d first buckets ≡ true
    pub free : FindsFree w qsbr tabled old new (λ c. (c ≡ d) ⊎ IsAmong first buckets c)
    pub founded : Founds qsbr tabled d (w.seen old) (w.heard old) first buckets (w.heard new)
    pub empty : HasNoKeys sizes.chains d first buckets (w.heard new)
    pub heard : IsAfter qsbr tabled (w.seen old) (w.heard old) (w.heard new)
    pub many : MakesMany w old new (buckets + 1)

  -- a new table is refused
  abbrev pub IsNotMade : (first buckets : ℕ) → Refusal → Type 0
  IsNotMade first buckets = RefusesChains (λ c. (c ≡ d) ⊎ IsAmong first buckets c) first buckets

  -- A growth is refused: something is left of an earlier one. Or nothing was left in some log of the call, and it is
  -- refused as a new table is.
  abbrev pub IsNotGrown : (first buckets : ℕ) → Refusal → Type 0
  IsNotGrown first buckets e = ((e ≡ Busy) × HasLeft d (w.heard new) × IsAfter qsbr tabled (w.seen old) (w.heard old) (w.heard new)) ⊎ (During w qsbr tabled old new (IsTidied d) × RefusesChains (IsAmong first buckets) first buckets e)

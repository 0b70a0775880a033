-- What the calls of a map tell, by the chain of its directory in a domain of this many chains.
use base.Stored.{Gv}
use denote.RattleType.{RattleType}
use Rattle.gp_memb.specs.declared.plan.GracePlan as plan
use Rattle.std.specs.Prelude.{◌≡◌, ◌⊎◌, ℕ, Bool, Option, Some, None}
use Rattle.rcu_model.specs.declared.refusal.Refusal.{Refusal}
use Rattle.live_log.specs.Log.{Log, Begins}
use Rattle.live_log.specs.Tables.{tabled}
use Rattle.rcu_hash.specs.live_read.Hearing.{MakesLast}
use Rattle.rcu_hash.specs.live_read.Holding.{log_of}
use Rattle.rcu_hash.specs.live_read.declared.reader_core.ReaderCore.{ReaderCore}
use Rattle.rcu_hash.specs.live_read.declared.caller.Caller.{Ghosts}
use Rattle.rcu_hash.specs.live_rule.declared.view.Sizes.{Sizes}
use Rattle.rcu_hash.specs.rcu_list.Calls.{TakesOneRecord}
use Rattle.rcu_hash.specs.Calls.{IsInsertedThrough, IsRemovedThrough, IsReplacedThrough}
use Rattle.rcu_hash.specs.Directories.{VisitsTable, directed_map}
use Rattle.rcu_hash.specs.Refusing.{RefusesInsertionThrough, RefusesReplacementThrough}
use Rattle.rcu.specs.Reclaiming.{gone_code}
use Rattle.rcu.specs.Trying.{HearsOn}

-- the value that comes of this word
abbrev pub HasWord : {T : Type 0} → (T → ℕ) → ℕ → T → Type 0
HasWord packed word x = (y : _) → packed y ≡ word → x ≡ y

-- By the word of a value: the key has this value in the log, or none.
abbrev pub HasAt : {T : Type 0} → (T → ℕ) → ℕ → ℕ → Log → ℕ → Option T → Type 0
HasAt packed chains d log key None = directed_map chains d log key ≡ None
HasAt packed chains d log key (Some x) = (word : ℕ) × (directed_map chains d log key ≡ Some word) × HasWord packed word x

-- A reader that had seen and heard of these logs, and has seen the new one at the end, found this: the key had it at a
-- moment of the call.
pub record Gets {T : Type 0} (packed : T → ℕ) (chains d : ℕ) (seen heard new : Log) (key : ℕ) (found : Option T) : Type 0 where
  pub at : Log
  pub after_seen : Begins seen at
  pub after_heard : Begins heard at
  pub before : Begins at new
  pub has : HasAt packed chains d at key found

-- a reader found this for the key between these two moments of it
abbrev pub GetsValue : {T P K : Type 0} {g : plan.Ghosts P} → (T → ℕ) → ℕ → ℕ → ReaderCore P K g → ReaderCore P K g → ℕ → Option T → Type 0
GetsValue packed chains d r s key found = Gets packed chains d (log_of r) r.seat.me.0.heard (log_of s) key found

-- a reader went through the map, and a call was made with the key and the value of each entry that it met
abbrev pub Walks : {T F P K : Type 0} {g : plan.Ghosts P} → (T → ℕ) → ℕ → ℕ → ReaderCore P K g → ReaderCore P K g → (F → ℕ → T → F → Type 0) → F → F → Type 0
Walks packed chains d r s called = VisitsTable r s chains d (λ f e h. (x : _) × HasWord packed e.1 x × called f e.0 x h)

-- between these two moments of a caller, of a key of the map whose directory is in chain d
module _ {W S : Type 0} (w : Ghosts W S) (qsbr : Bool) (sizes : Sizes) (d : ℕ) (old new : W) (key : ℕ) where
  -- it had no value and has this one, in the one record that was taken
  abbrev pub AddsKey : ℕ → Type 0
  AddsKey value = IsInsertedThrough w qsbr sizes old new d key value × MakesLast w old new (w.heard new) × TakesOneRecord w old new sizes

  -- It has this one in place of another, in the one record that was taken. The other's record is retired with the
  -- callback of this code.
  abbrev pub ReplacesKey : ℕ → Gv → Type 0
  ReplacesKey value callback = ((ticket : ℕ) × IsReplacedThrough w qsbr sizes old new d key value ticket callback) × TakesOneRecord w old new sizes

-- The key has this value by the last of several tries, and the record of an older one is retired with the map's deleter.
-- In the tries before nothing was done or found for the caller.
abbrev pub SetsKey : {W S : Type 0} → Ghosts W S → Bool → Sizes → ℕ → W → W → ℕ → ℕ → (R : RattleType) → R.Denot → Type 0
SetsKey {W} w qsbr sizes d old new key value R deleter = (last : W) × HearsOn w old last × (AddsKey w qsbr sizes d last new key value ⊎ ReplacesKey w qsbr sizes d last new key value (gone_code R deleter))

-- The key got no value at the last of several tries: a replacement or an insertion was refused. In the tries before
-- nothing was done or found for the caller.
abbrev pub IsNotSet : {W S : Type 0} → Ghosts W S → Bool → Sizes → ℕ → W → W → ℕ → Refusal → Type 0
IsNotSet {W} w qsbr sizes d old new key e = (last : W) × HearsOn w old last × (RefusesReplacementThrough w qsbr tabled sizes last new e d key ⊎ RefusesInsertionThrough w qsbr tabled sizes last new e d key)

-- The key had a value and has none, and its record is retired with the map's deleter.
abbrev pub RemovesKey : {W S : Type 0} → Ghosts W S → Bool → Sizes → ℕ → W → W → ℕ → (R : RattleType) → R.Denot → Type 0
RemovesKey w qsbr sizes d old new key R deleter = (ticket : ℕ) × IsRemovedThrough w qsbr sizes old new d key ticket (gone_code R deleter)

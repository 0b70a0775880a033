-- The headline over live threads.
use denote.RattleType.{RattleType}
use Rattle.std.specs.Prelude.{◌≡◌, ℕ, Bool}
use mathlib.Core.Option.{some}
use lib.ListN.{get_elem?}
use Rattle.atomic_table.specs.Table.{State}
use Rattle.rcu_model.specs.Promises.{IsSafeLog}
use Rattle.rcu_model.specs.declared.event.ObjectId.{ObjectId}
use Rattle.live_log.specs.Log.{Log, Begins, IsOpenSection, WasQueued, events_of}
use Rattle.rcu_hash.specs.live_rule.Readers.{IsClosed}
use Rattle.rcu_hash.specs.live_rule.Rule.{WordsAgree}
use Rattle.rcu_hash.specs.live_rule.declared.view.Sizes.{Sizes}
use Rattle.rcu_hash.specs.live_rule.declared.view.View.{View}
use Rattle.rcu_hash.specs.live_rule.Rights.{IsOwner, count_in, word_in}

-- At this moment of a table there is one log. It keeps the promises of the abstract machine, the table's words are what
-- it says, and it begins with all that each seat has seen and heard of. Where a seat owns a reader's slot, whose word is
-- not that of a closed one, the section that it counts is open in that log.
pub record IsSafeNow {S : Type 0} (qsbr : Bool) (key : Sizes) (s : State S View) : Type 0 where
  pub log : Log
  pub safe : IsSafeLog (events_of log)
  pub agree : WordsAgree qsbr key log s.words
  pub seen : (j : ℕ) (v : View) → get_elem? s.views j ≡ some v → Begins v.seen log × Begins v.heard log
  pub inside : (j : ℕ) (v : View) (r : ℕ) → get_elem? s.views j ≡ some v → IsOwner v r → ¬ IsClosed qsbr (word_in v.slot) → IsOpenSection r (count_in v.slot) log

-- the log notes that the object was queued with this value of a deleter's type, by its code
abbrev pub IsQueuedWith : (R : RattleType) → R.Denot → ObjectId → ℕ → Log → Type 0
IsQueuedWith R d o q log = WasQueued o q (R.coded.code d) log

-- however the object was queued in the log, it was into one queue, and with one value of this type
abbrev pub HasOneDeleter : RattleType → ObjectId → Log → Type 0
HasOneDeleter R o log = (q p : ℕ) (c d : R.Denot) → IsQueuedWith R c o q log → IsQueuedWith R d o p log → (q ≡ p) × (c ≡ d)

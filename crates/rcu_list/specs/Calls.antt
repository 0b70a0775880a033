-- What an accepted call of a list's writer tells.
use base.Stored.{Gv}
use Rattle.std.specs.Prelude.{◌≡◌, ◌+◌, ◌%◌, [], ◌∷◌, ◌<◌, ◌^◌, Bool, ℕ, Option, Some, None}
use Rattle.atomic_table.specs.declared.shared.Seat.{Seat}
use Rattle.rcu_model.specs.declared.event.ObjectId.{ObjectId}
use Rattle.rcu_model.specs.Sets.{at_number}
use Rattle.live_log.specs.declared.event.LiveEvent.{LiveEvent}
use Rattle.live_log.specs.declared.event.LiveEvent.TheVariants.{Object}
use Rattle.live_log.specs.declared.event.ObjectEvent.TheVariants.{Push, Replace, Cut}
use Rattle.live_log.specs.Log.{Log, Begins, IsLiveRun, record_of, state_of}
use Rattle.domain.specs.callback_queue.declared.item.Ticket.{Ticket}
use Rattle.domain.specs.live_callbacks.Retiring.{Queues}
use Rattle.domain.specs.live_read.Hearing.{IsAfter, MakesLast}
use Rattle.domain.specs.live_read.declared.caller.Caller.{Ghosts}
use Rattle.domain.specs.live_read.declared.site.Site as site
use Rattle.domain.specs.live_rule.declared.rights.RecordRight.{RecordRight}
use Rattle.domain.specs.live_rule.declared.view.Sizes.{Sizes}
use Rattle.domain.specs.live_rule.declared.view.View.{View}
use Rattle.domain.specs.live_rule.Rights.{own_in}
use Rattle.domain.specs.live_rule.Steps.{Keeps, Went}
use Rattle.domain.specs.live_write.declared.chain.Chain.{Chain}
use Rattle.domain.specs.live_write.Chains.{list_in}
use Rattle.domain.specs.live_write.Searching.{TakesFor}
use Rattle.rcu_list.specs.Maps.{map_of, next_rank, words_of}

-- by the rule of chains, the list's chain, what its writer knew, and what the caller had seen and heard of
module _ (qsbr : Bool) (allows : Log → LiveEvent → Type 0) (c : ℕ) (known seen heard : Log) where
  -- The event is the last one of the log, and came after all that was known. Before it the list's chain linked the
  -- objects that its writer knew, so that the list's map was the one that it knew, and the key had this value or none;
  -- after it the key has that, and each other key what it had.
  pub record Changes (event : LiveEvent) (key : ℕ) (had has : Option ℕ) (log : Log) : Type 0 where
    pub before : Log
    pub wrote : log ≡ event ∷ before
    pub after : Begins known before × Begins seen before × Begins heard before
    pub run : IsLiveRun qsbr allows log
    pub linked : (state_of before).chain c ≡ (state_of known).chain c
    pub kept : (k : ℕ) → map_of before c k ≡ map_of known c k
    pub was : map_of before c key ≡ had
    pub map : (k : ℕ) → map_of log c k ≡ at_number key has (map_of before c) k

  -- a key that had no value has this one, by a push, with the rank that came next in the chain
  pub record Inserts (key value : ℕ) (log : Log) : Type 0 where
    pub object : ObjectId
    pub cell : ℕ
    pub rank : ℕ
    pub below : rank < 2 ^ 62
    pub changes : Changes (Object (Push c object cell (words_of key value rank))) key None (Some value) log
    pub next : rank ≡ next_rank (record_of changes.before) ((state_of changes.before).chain c)

  -- a key that had a value has this one, by a replacement
  pub record Replaces (key value : ℕ) (left : ObjectId) (log : Log) : Type 0 where
    pub object : ObjectId
    pub cell : ℕ
    pub rank : ℕ
    pub had : ℕ
    pub changes : Changes (Object (Replace c left object cell (words_of key value rank))) key (Some had) (Some value) log

  -- a key that had a value has none, by a cut
  pub record Removes (key : ℕ) (left : ObjectId) (log : Log) : Type 0 where
    pub had : ℕ
    pub changes : Changes (Object (Cut c left)) key (Some had) None log

-- the object that left the list in one log was retired after that, and queued with the ticket and the callback of this
-- code
pub record HandsOver (qsbr : Bool) (allows : Log → LiveEvent → Type 0) (left : ObjectId) (queue ticket : ℕ) (callback : Gv) (published log : Log) : Type 0 where
  pub given : ℕ
  pub turn : ticket ≡ given + 1
  pub queued : Queues qsbr allows (Begins published) left queue given callback log

-- by the writer of the list's chain, before and after
module _ {P K B H W S : Type 0} {b : site.Ghosts B} (w : Ghosts W S) (qsbr : Bool) (allows : Log → LiveEvent → Type 0) (sizes : Sizes) (old new : W) (before after : Chain P K B H b) where
  abbrev known : Log
  known = before.seat.me.0.seen

  abbrev now : Log
  now = after.seat.me.0.seen

  abbrev queue : ℕ
  queue = before.number % sizes.queues

  -- a key that had no value has this one, of which the caller hears
  abbrev pub IsInserted : ℕ → ℕ → Type 0
  IsInserted key value = Inserts qsbr allows before.number known (w.seen old) (w.heard old) key value now × (w.heard new ≡ now)

  -- a key that had a value has this one, and what left the list is retired
  abbrev pub IsReplaced : (key value : ℕ) → Ticket → Gv → Type 0
  IsReplaced key value ticket callback = (left : ObjectId) × Replaces qsbr allows before.number known (w.seen old) (w.heard old) key value left now × HandsOver qsbr allows left queue ticket.0 callback now (w.heard new)

  -- a key that had a value has none, and what left the list is retired
  abbrev pub IsRemoved : (key : ℕ) → Ticket → Gv → Type 0
  IsRemoved key ticket callback = (left : ObjectId) × Removes qsbr allows before.number known (w.seen old) (w.heard old) key left now × HandsOver qsbr allows left queue ticket.0 callback now (w.heard new)

module _ {W S : Type 0} (w : Ghosts W S) (old new : W) where
  -- one record was taken for the caller, and nothing loaded but what tells that
  abbrev pub TakesOneRecord : Sizes → Type 0
  TakesOneRecord sizes = (w.loads new ≡ w.loads old) × ((x : RecordRight) × TakesFor w sizes old new x)

  -- and the last event of the log was made for it
  abbrev pub MakesLastAndTakes : Sizes → Log → Type 0
  MakesLastAndTakes sizes log = MakesLast w old new log × TakesOneRecord sizes

  -- the log goes on from this one, and from all that the caller had seen and heard of
  abbrev pub GoesOnFrom : Bool → (Log → LiveEvent → Type 0) → Log → Log → Type 0
  GoesOnFrom qsbr allows known log = IsAfter qsbr allows (w.seen old) (w.heard old) log × Begins known log

-- by a seat before and after, and by the number of its chain
module _ {T : Type 0} (qsbr : Bool) (allows : Log → LiveEvent → Type 0) (before after : Seat T View) (was is : ℕ) where
  -- it comes back
  abbrev pub ComesBack : Type 0
  ComesBack = (is ≡ was) × Keeps before after × Went qsbr allows before.me.0 before.me after.me

  -- it had no object and no note, and is the writer of a list
  abbrev pub BecomesList : Type 0
  BecomesList = (list_in before.me.0 ≡ []) × ((own_in before.me.0.chains).note ≡ 0) × ComesBack

-- by a seat before and after, the map of a chain is as it was
abbrev pub KeepsMap : {T : Type 0} → Seat T View → Seat T View → ℕ → Type 0
KeepsMap before after c = (key : ℕ) → map_of after.me.0.seen c key ≡ map_of before.me.0.seen c key

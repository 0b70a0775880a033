-- What a call tells that retires what it takes out of a chain.
use Rattle.std.specs.Prelude.{◌≡◌, ◌⊎◌, ◌+◌, ◌%◌, ◌<◌, ◌≤◌, Bool, ℕ, List, [], length, Some, slice_get}
use base.Stored.{Gv}
use Rattle.callback_queue.specs.declared.item.Ticket.{Ticket}
use Rattle.rcu_model.specs.Sets.{replaced, without_object}
use Rattle.rcu_model.specs.declared.event.ObjectId.{ObjectId}
use Rattle.rcu_model.specs.declared.refusal.Refusal.{Refusal}
use Rattle.rcu_model.specs.declared.refusal.Refusal.TheVariants.{NoPlace}
use Rattle.live_log.specs.declared.event.LiveEvent.{LiveEvent}
use Rattle.live_log.specs.Log.{Log, Begins}
use Rattle.live_words.specs.live_rule.declared.view.Sizes.{Sizes}
use Rattle.live_words.specs.live_rule.declared.view.View.{View}
use Rattle.live_words.specs.live_rule.Seats.{lent_chains}
use Rattle.live_words.specs.live_rule.Rights.{object_in, own_in}
use Rattle.live_words.specs.step_chains.Chains.{cut_of}
use Rattle.live_callbacks.specs.Retiring.{IsAfterAll, Queues}
use Rattle.live_read.specs.Hearing.{OnlyMakesLast}
use Rattle.live_read.specs.declared.caller.Caller.{Ghosts}
use Rattle.live_read.specs.declared.site.Site as site
use Rattle.live_callbacks.specs.Refusing.{RefusesRetirement}
use Rattle.live_write.specs.declared.chain.Chain.{Chain}
use Rattle.live_write.specs.declared.records.Owned.{Owned}
use Rattle.live_write.specs.Chains.{Publishes, list_in, replace_by}

-- The object at an index of a chain left it by an event of its own, which left this list; and then it was retired, and
-- queued with the ticket and the callback of this code. The views are the writer's before and after.
pub record Retires (qsbr : Bool) (allows : Log → LiveEvent → Type 0) (old new : View) (seen heard owner : Log) (index : ℕ) (event : ObjectId → LiveEvent) (list : ObjectId → List ObjectId) (queue ticket : ℕ) (callback : Gv) (log : Log) : Type 0 where
  pub object : ObjectId
  pub was : slice_get (list_in old) index ≡ Some object
  pub left : list_in new ≡ list object
  pub note : (own_in new.chains).note ≡ (own_in old.chains).note
  pub lent : lent_chains new.chains ≡ lent_chains old.chains
  pub published : Publishes qsbr allows old seen heard owner (event object) new.seen
  pub given : ℕ
  pub turn : ticket ≡ given + 1
  pub queued : Queues qsbr allows (Begins new.seen) object queue given callback log

module _ {W S : Type 0} (w : Ghosts W S) (qsbr : Bool) (allows : Log → LiveEvent → Type 0) (key : Sizes) (old new : W) where
  -- a cut object was retired after all that its caller and its seat had seen, and queued with ticket and callback
  abbrev pub RetiresCut : View → ℕ → ℕ → Gv → Type 0
  RetiresCut unlinked chain ticket callback = (given : ℕ) × (ticket ≡ given + 1) × Queues qsbr allows (IsAfterAll unlinked.seen (w.seen old) (w.heard old)) (object_in unlinked.object) (chain % key.queues) given callback (w.heard new)

  module _ {P K B H : Type 0} {b : site.Ghosts B} (before : Chain P K B H b) (index : ℕ) where
    abbrev writer : View
    writer = before.seat.me.0

    abbrev queue : ℕ
    queue = before.number % key.queues

    -- the object at the index was cut, retired and queued with the ticket and the callback
    abbrev pub CutsAndRetires : Chain P K B H b → Ticket → Gv → Type 0
    CutsAndRetires after ticket callback = Retires qsbr allows writer after.seat.me.0 (w.seen old) (w.heard old) [] index (λ o. cut_of o writer) (λ o. without_object o (list_in writer)) queue ticket.0 callback (w.heard new)

    -- it was replaced by this record
    abbrev pub ReplacesAndRetires : Owned B b → Chain P K B H b → Ticket → Gv → Type 0
    ReplacesAndRetires owned after ticket callback = let fresh = owned.seat.me.0 in Retires qsbr allows writer after.seat.me.0 (w.seen old) (w.heard old) fresh.seen index (λ o. replace_by o writer fresh) (λ o. replaced o (object_in fresh.object) (list_in writer)) queue ticket.0 callback (w.heard new)

    -- there is no object at the index, and nothing was done, or its retirement is refused
    abbrev pub RefusesAt : Refusal → Type 0
    RefusesAt e = ((e ≡ NoPlace) × (length (list_in writer) ≤ index) × (new ≡ old)) ⊎ ((index < length (list_in writer)) × RefusesRetirement w qsbr allows key queue old new e)

module _ {W S : Type 0} (w : Ghosts W S) (old new : W) where
  -- the last event of the log was made for the caller, by the writer of this chain of this domain
  abbrev pub MakesLastIn : {D : Type 0} → Log → ℕ → ℕ → D → D → Type 0
  MakesLastIn log was is home home' = OnlyMakesLast w old new log × (is ≡ was) × (home' ≡ home)

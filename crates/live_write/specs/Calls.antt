-- What a call of a chain's writer does.
use Rattle.std.specs.Prelude.{◌≡◌, ◌⊎◌, Bool, ℕ, ◌+◌, ◌^◌, ◌<◌, ◌≤◌, List, [], ◌∷◌, ◌++◌, Some, slice_get}
use Rattle.atomic_table.specs.Table.{Me}
use Rattle.atomic_table.specs.declared.shared.Seat.{Seat}
use Rattle.rcu_model.specs.declared.event.ObjectId.{ObjectId}
use Rattle.rcu_model.specs.declared.refusal.Refusal.{Refusal}
use Rattle.rcu_model.specs.declared.refusal.Refusal.TheVariants.{Busy, NoPlace}
use Rattle.rcu_model.specs.Sets.{In, replaced, without_object}
use Rattle.live_log.specs.declared.event.LiveEvent.{LiveEvent}
use Rattle.live_log.specs.declared.event.LiveEvent.TheVariants.{ChainNote}
use Rattle.live_log.specs.Log.{Log, Begins, state_of}
use Rattle.live_words.specs.live_rule.declared.rights.ChainRight.{ChainRight}
use Rattle.live_words.specs.live_rule.declared.view.Look.TheVariants.{Loaded, Stored}
use Rattle.live_words.specs.live_rule.declared.view.Sizes.{Sizes}
use Rattle.live_words.specs.live_rule.declared.view.View.{View}
use Rattle.live_words.specs.live_rule.Objects.{fresh_word}
use Rattle.live_words.specs.live_rule.Places.{cell_at, hold_at}
use Rattle.live_words.specs.live_rule.Seats.{lent_chains}
use Rattle.live_words.specs.live_rule.Rights.{cell_in, object_in, own_in}
use Rattle.live_words.specs.live_rule.Steps.{IsLater, Keeps, Went, looked_view}
use Rattle.live_words.specs.step_chains.Chains.{cut_of}
use Rattle.live_read.specs.Hearing.{IsAfter}
use Rattle.live_read.specs.declared.caller.Caller.{Ghosts}
use Rattle.live_write.specs.Chains.{MayPublish, MayReserve, Publishes, list_in, push_by, replace_by}

-- the note of a chain that is reserved for the object of this seat's record
abbrev pub reservation : View → ℕ
reservation u = 2 ^ 63 + (object_in u.object).0

-- The view is this one, but that it has seen more, and heard of what it has seen. More loads may be told.
abbrev pub HasLearned : View → View → Type 0
HasLearned v w = (more : List Log) × (w ≡ record v { seen = w.seen; heard = w.heard; loads = more ++ v.loads }) × Begins w.heard w.seen

-- by a seat before and after, and by the number of its chain
module _ {T : Type 0} (qsbr : Bool) (allows : Log → LiveEvent → Type 0) (before after : Seat T View) (was is : ℕ) where
  -- the writer of a chain has only looked
  abbrev pub OnlyLooks : Type 0
  OnlyLooks = Keeps before after × Went qsbr allows before.me.0 before.me after.me × (is ≡ was)

  -- or it may have heard of more, too
  abbrev pub OnlyLearns : Type 0
  OnlyLearns = Keeps before after × (after.me.1 ≡ before.me.1) × HasLearned before.me.0 after.me.0 × IsLater qsbr allows before.me.0 after.me.0 × (is ≡ was)

  -- which is of the same domain
  abbrev pub OnlyLooksIn : {D : Type 0} → D → D → Type 0
  OnlyLooksIn home home' = Keeps before after × Went qsbr allows before.me.0 before.me after.me × (is ≡ was) × (home' ≡ home)

-- by a seat before and after, the number of its chain, and what the chain was taken of
module _ {T D : Type 0} (before after : Seat T View) (was is : ℕ) (home home' : D) where
  -- the chain links these objects now, and nothing else of it has changed
  abbrev pub HasList : List ObjectId → Type 0
  HasList list = (list_in after.me.0 ≡ list) × ((own_in after.me.0.chains).note ≡ (own_in before.me.0.chains).note) × (lent_chains after.me.0.chains ≡ lent_chains before.me.0.chains) × (is ≡ was) × (home' ≡ home)

  -- all but the object of this seat's record
  abbrev pub LosesObject : Seat T View → Type 0
  LosesObject u = HasList (without_object (object_in u.me.0.object) (list_in before.me.0))

  -- the object of the second one's record in the place of the first one's
  abbrev pub GetsObject : Seat T View → Seat T View → Type 0
  GetsObject u v = HasList (replaced (object_in u.me.0.object) (object_in v.me.0.object) (list_in before.me.0))

  -- its note is this one now, and nothing else of it has changed
  abbrev pub GetsNote : ℕ → Type 0
  GetsNote note = ((own_in after.me.0.chains).note ≡ note) × (list_in after.me.0 ≡ list_in before.me.0) × (lent_chains after.me.0.chains ≡ lent_chains before.me.0.chains) × (is ≡ was) × (home' ≡ home)

  -- its writer has the right to one more chain, behind those that it had
  abbrev pub TakesIn : List ChainRight → Type 0
  TakesIn rights = (after.me.0.chains ≡ rights) × (is ≡ was) × (home' ≡ home)

  -- or has given back the right that was lent to it first, and has seen as much
  abbrev pub GivesOut : Type 0
  GivesOut = (after.me.0.chains ≡ own_in before.me.0.chains ∷ lent_chains (lent_chains before.me.0.chains)) × (after.me.0.seen ≡ before.me.0.seen) × (is ≡ was) × (home' ≡ home)

-- the object at an index left the chain with this number: its record's seat has seen as much as the writer
abbrev pub IsCutFrom : {T : Type 0} → Seat T View → Seat T View → ℕ → ℕ → Seat T View → ℕ → Type 0
IsCutFrom before after was index u chain = (slice_get (list_in before.me.0) index ≡ Some (object_in u.me.0.object)) × (u.me.0.seen ≡ after.me.0.seen) × (chain ≡ was)

-- by what a caller had seen and heard of, and what a chain's writer knew
module _ {W S : Type 0} (w : Ghosts W S) (qsbr : Bool) (allows : Log → LiveEvent → Type 0) (old : W) (writer : View) where
  -- the rule of chains allows a push of this seat's record; and it was the last event of this log
  abbrev pub MayPush : View → Type 0
  MayPush u = MayPublish qsbr allows writer (w.seen old) (w.heard old) u.seen (push_by writer u)

  abbrev pub PublishesPush : View → Log → Type 0
  PublishesPush u log = Publishes qsbr allows writer (w.seen old) (w.heard old) u.seen (push_by writer u) log

  -- the note that reserves its chain for the object of this seat's record, before that is linked
  abbrev pub MayReserveFor : View → ℕ → Type 0
  MayReserveFor u chain = MayReserve qsbr allows writer (w.seen old) (w.heard old) u chain (reservation u)

  abbrev pub PublishesReservation : View → ℕ → Log → Type 0
  PublishesReservation u chain log = Publishes qsbr allows writer (w.seen old) (w.heard old) u.seen (ChainNote chain (reservation u)) log

  -- a cut of the object at an index
  abbrev pub MayCut : ℕ → Type 0
  MayCut index = (o : ObjectId) → slice_get (list_in writer) index ≡ Some o → MayPublish qsbr allows writer (w.seen old) (w.heard old) [] (cut_of o writer)

  abbrev pub PublishesCut : View → Log → Type 0
  PublishesCut u log = Publishes qsbr allows writer (w.seen old) (w.heard old) [] (cut_of (object_in u.object) writer) log

  -- and its replacement by this seat's record
  abbrev pub MayReplace : ℕ → View → Type 0
  MayReplace index v = (o : ObjectId) → slice_get (list_in writer) index ≡ Some o → MayPublish qsbr allows writer (w.seen old) (w.heard old) v.seen (replace_by o writer v)

  abbrev pub PublishesReplace : View → View → Log → Type 0
  PublishesReplace u v log = Publishes qsbr allows writer (w.seen old) (w.heard old) v.seen (replace_by (object_in u.object) writer v) log

  -- the log goes on from all that the caller and the writer had seen and heard of
  abbrev pub HearsAll : Log → Type 0
  HearsAll log = IsAfter qsbr allows (w.seen old) (w.heard old) log × Begins writer.seen log × Begins writer.heard log

-- the sequence number was loaded once for the caller, in a log before the one that it hears of
abbrev pub LoadsSeqBefore : {W S : Type 0} → Ghosts W S → Bool → (Log → LiveEvent → Type 0) → W → W → Type 0
LoadsSeqBefore w qsbr allows old new = (log : Log) × (w.loads new ≡ log ∷ w.loads old) × IsAfter qsbr allows (w.seen old) (w.heard old) log × Begins log (w.heard new)

module _ {W S : Type 0} (w : Ghosts W S) (key : Sizes) (chain : ℕ) (old new : W) where
  -- the chain's hold word was found to be 0 and left at 1, and its writer, of this number, has seen this
  abbrev pub IsHad : ℕ → Log → Type 0
  IsHad number seen = (number ≡ chain) × (chain < key.chains) × (w.looks new ≡ Stored (hold_at key chain) 1 ∷ Loaded (hold_at key chain) 0 ∷ w.looks old) × Begins (w.heard new) seen

  -- there is no such chain, or its hold word was found to be 1
  abbrev pub IsNotHad : Refusal → Type 0
  IsNotHad e = ((e ≡ NoPlace) × (key.chains ≤ chain) × (new ≡ old)) ⊎ ((e ≡ Busy) × (chain < key.chains) × (w.looks new ≡ Loaded (hold_at key chain) 1 ∷ w.looks old))

-- the object is not retired
abbrev pub IsUnretired : ObjectId → Log → Type 0
IsUnretired o log = ¬ In (state_of log).retired o

-- a record's seat has the right that it had, and may have seen more
abbrev pub KeepsRight : View → View → Type 0
KeepsRight v w = (w.object ≡ v.object) × Begins v.seen w.seen

-- a seat has loaded the header of the record of its object, and found this number in it
abbrev pub LoadsHeader : {S : Type 0} → Bool → (Log → LiveEvent → Type 0) → Sizes → ℕ → Me S View → Me S View → Type 0
LoadsHeader qsbr allows key number m m' = Went qsbr allows (looked_view (cell_at key (cell_in m.0.object) 0) (fresh_word number) m.0) m m'

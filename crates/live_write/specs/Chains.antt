-- What a call of a chain's writer tells.
use Rattle.std.specs.Prelude.{◌≡◌, ◌≢◌, ℕ, ◌<◌, ◌∷◌, Bool, List, Some, slice_get, slice_index_or}
use Rattle.rcu_model.specs.Sets.{In}
use Rattle.rcu_model.specs.declared.event.ObjectId.{ObjectId}
use Rattle.live_log.specs.declared.event.LiveEvent.{LiveEvent}
use Rattle.live_log.specs.declared.event.LiveEvent.TheVariants.{ChainNote, Object}
use Rattle.live_log.specs.declared.event.ObjectEvent.TheVariants.{Push, Replace}
use Rattle.live_log.specs.Log.{Log, Begins, IsLiveRun, record_of, state_of}
use Rattle.live_words.specs.live_rule.declared.view.View.{View}
use Rattle.live_words.specs.live_rule.Rights.{AreAsKnown, own_in, object_in, cell_in, payload_in}
use Rattle.live_words.specs.step_chains.Chains.{IsAllowedBy}

-- the objects that a writer's chain links, the first one first
abbrev pub list_in : View → List ObjectId
list_in v = (own_in v.chains).objects

-- the word with which the payload of an object begins
abbrev pub first_word : Log → ObjectId → ℕ
first_word log o = slice_index_or (record_of log o).1 0 0

-- the object at the index begins with the word, and none before it does
pub record IsFirstWith (log : Log) (os : List ObjectId) (word index : ℕ) : Type 0 where
  pub object : ObjectId
  pub at : slice_get os index ≡ Some object
  pub begins : first_word log object ≡ word
  pub others : (k : ℕ) (o : ObjectId) → k < index → slice_get os k ≡ Some o → first_word log o ≢ word

-- the push by one seat of another's fresh record
abbrev pub push_by : View → View → LiveEvent
push_by v u = Object (Push (own_in v.chains).chain (object_in u.object) (cell_in u.object) (payload_in u.object))

-- the replacement of an object by another seat's fresh record
abbrev pub replace_by : ObjectId → View → View → LiveEvent
replace_by o v u = Object (Replace (own_in v.chains).chain o (object_in u.object) (cell_in u.object) (payload_in u.object))

-- the log goes on from all that a chain's writer and its caller had seen and heard of, and from all that who allocated
-- the record had seen
pub record GoesOn (writer : View) (seen heard owner log : Log) : Type 0 where
  pub after_writer : Begins writer.seen log × Begins writer.heard log
  pub after_caller : Begins seen log × Begins heard log
  pub after_owner : Begins owner log

-- the rule of chains allows this note of the writer's chain after every such log, in which no chain has linked the
-- object of another seat's record
abbrev pub MayReserve : Bool → (Log → LiveEvent → Type 0) → (writer : View) (seen heard : Log) (owner : View) (chain note : ℕ) → Type 0
MayReserve qsbr allows writer seen heard owner chain note = (log : Log) → GoesOn writer seen heard owner.seen log → IsLiveRun qsbr allows log → AreAsKnown log writer.chains → ¬ In (state_of log).used (object_in owner.object) → allows log (ChainNote chain note)

module _ (qsbr : Bool) (allows : Log → LiveEvent → Type 0) (writer : View) (seen heard owner : Log) (e : LiveEvent) where
  -- the rule of chains allows the event after every such log in which the writer's chains are as it knows them
  abbrev pub MayPublish : Type 0
  MayPublish = (log : Log) → GoesOn writer seen heard owner log → IsLiveRun qsbr allows log → AreAsKnown log writer.chains → IsAllowedBy log e → allows log e

  -- the event is the last one of the log, and came after such a log, in which the writer's chains were as it knew them
  pub record Publishes (log : Log) : Type 0 where
    pub before : Log
    pub wrote : log ≡ e ∷ before
    pub after : GoesOn writer seen heard owner before
    pub known : AreAsKnown before writer.chains
    pub run : IsLiveRun qsbr allows log

-- What each right claims, and what the rule says of what is claimed.
use Rattle.std.specs.Prelude.{◌≡◌, ◌⊎◌, ℕ, ◌%◌, ◌<◌, ◌≤◌, List, [], ◌∷◌, Bool, true, length, slice_index}
use Rattle.rcu_model.specs.declared.event.ObjectId.{ObjectId}
use Rattle.rcu_model.specs.Sets.{In}
use Rattle.live_log.specs.Log.{Log, sections_of, seq_of, present_of, before_odd, chain_note, Objects, objects_of}
use Rattle.live_rule.specs.declared.view.Sizes.{Sizes}
use Rattle.live_rule.specs.declared.view.View.{View}
use Rattle.live_rule.specs.declared.rights.SlotRight.{SlotRight}
use Rattle.live_rule.specs.declared.rights.SlotRight.TheVariants as slot_right
use Rattle.live_rule.specs.declared.rights.GraceRight.{GraceRight}
use Rattle.live_rule.specs.declared.rights.GraceRight.TheVariants as grace_right
use Rattle.live_rule.specs.declared.rights.ChainRight.{ChainRight}
use Rattle.live_rule.specs.declared.rights.RecordRight.{RecordRight}
use Rattle.live_rule.specs.declared.rights.RecordRight.TheVariants as record_right
use Rattle.live_rule.specs.declared.rights.QueueRight.{QueueRight}
use Rattle.live_rule.specs.declared.rights.QueueRight.TheVariants as queue_right
use Rattle.live_rule.specs.declared.rights.WorkRight.{WorkRight}
use Rattle.live_rule.specs.declared.rights.WorkRight.TheVariants as work_right
use Rattle.live_rule.specs.Places.{bit_at, slot_at, head_at, hold_at, cell_at, queued_at, closed_at, finished_at, work_at}
use Rattle.live_rule.specs.Readers.{SawAll}
use Rattle.live_rule.specs.Objects.{IsPayload, fresh_word}

-- what one seat at a time may have: a slot's word, the words of grace periods, a chain, an object and
-- its record, a queue, or a queue's work
pub data Thing : Type 0 where
  slot : ℕ → Thing
  grace : Thing
  chain : ℕ → Thing
  object : ObjectId → Thing
  queue : ℕ → Thing
  work : ℕ → Thing

-- the right claims the thing
abbrev pub ClaimsSlot : SlotRight → ℕ → Type 0
ClaimsSlot slot_right.Nothing r = ⊥
ClaimsSlot (slot_right.Owns q w k) r = q ≡ r

abbrev pub ClaimsGrace : GraceRight → Type 0
ClaimsGrace grace_right.Nothing = ⊥
ClaimsGrace (grace_right.Rests q t) = Unit {0}
ClaimsGrace (grace_right.Works q t mark looks) = Unit {0}

abbrev pub ClaimsChain : List ChainRight → ℕ → Type 0
ClaimsChain [] c = ⊥
ClaimsChain (x ∷ xs) c = (x.chain ≡ c) ⊎ ClaimsChain xs c

abbrev pub ClaimsObject : RecordRight → ObjectId → Type 0
ClaimsObject record_right.Nothing o = ⊥
ClaimsObject (record_right.Fresh i p l w) o = p ≡ o
ClaimsObject (record_right.Unlinked i p) o = p ≡ o
ClaimsObject (record_right.Retired i p) o = p ≡ o
ClaimsObject (record_right.Queued i p) o = p ≡ o

abbrev pub ClaimsQueue : Sizes → QueueRight → ℕ → Type 0
ClaimsQueue key queue_right.Nothing q = ⊥
ClaimsQueue key (queue_right.Spare from) q = (from ≤ q) × (q < key.queues)
ClaimsQueue key (queue_right.Owns d n x) q = d ≡ q

abbrev pub ClaimsWork : WorkRight → ℕ → Type 0
ClaimsWork work_right.Nothing q = ⊥
ClaimsWork (work_right.Works d n) q = d ≡ q

abbrev pub Claims : Sizes → View → Thing → Type 0
Claims key v (slot r) = ClaimsSlot v.slot r
Claims key v grace = ClaimsGrace v.grace
Claims key v (chain c) = ClaimsChain v.chains c
Claims key v (object o) = ClaimsObject v.object o
Claims key v (queue q) = ClaimsQueue key v.queue q
Claims key v (work q) = ClaimsWork v.work q

module _ (qsbr : Bool) (key : Sizes) (log : Log) (words : List ℕ) where
  -- what the right tells of a thing that it claims
  abbrev pub KnowsSlot : SlotRight → ℕ → Type 0
  KnowsSlot slot_right.Nothing r = Unit {0}
  KnowsSlot (slot_right.Owns q w k) r = (q < key.slots) × (slice_index words (slot_at q) ≡ w) × (sections_of q log ≡ k) × (bit_at words q ≡ true)

  abbrev pub KnowsGrace : GraceRight → Type 0
  KnowsGrace grace_right.Nothing = Unit {0}
  KnowsGrace (grace_right.Rests q t) = (seq_of log ≡ q) × (present_of log ≡ t) × (q % 2 ≡ 0)
  KnowsGrace (grace_right.Works q t mark looks) = (seq_of log ≡ q) × (present_of log ≡ t) × (q % 2 ≡ 1) × (before_odd log ≡ mark) × SawAll qsbr key.slots mark log looks

  -- of a chain that is owned
  abbrev pub KnowsOwned : ChainRight → Type 0
  KnowsOwned x = (x.chain < key.chains) × (slice_index words (hold_at key x.chain) ≡ 1) × (slice_index words (head_at key x.chain) ≡ x.head) × ((objects_of log).chain x.chain ≡ x.objects) × (chain_note x.chain log ≡ x.note)

  -- of a chain in a list of owned ones, where it stands once
  abbrev pub KnowsChain : List ChainRight → ℕ → Type 0
  KnowsChain [] c = Unit {0}
  KnowsChain (x ∷ xs) c = (x.chain ≡ c → KnowsOwned x × ¬ ClaimsChain xs c) × KnowsChain xs c

  abbrev pub KnowsObject : Objects → RecordRight → Type 0
  KnowsObject w record_right.Nothing = Unit {0}
  KnowsObject w (record_right.Fresh i o l p) =
      (¬ In w.used o) × (1 ≤ o.0) × (i < key.pool) × (slice_index words (cell_at key i 0) ≡ fresh_word o.0) × (slice_index words (cell_at key i 1) ≡ l) × (length p ≡ 4) × IsPayload key words i p
  KnowsObject w (record_right.Unlinked i o) = In w.cut o × (¬ In w.retired o) × ((w.note o).0 ≡ i)
  KnowsObject w (record_right.Retired i o) = In w.retired o × (¬ In w.queued o) × (¬ In w.reclaimed o) × ((w.note o).0 ≡ i)
  KnowsObject w (record_right.Queued i o) = In w.retired o × In w.queued o × (¬ In w.reclaimed o) × ((w.note o).0 ≡ i)

  abbrev pub KnowsQueue : QueueRight → ℕ → Type 0
  KnowsQueue queue_right.Nothing q = Unit {0}
  KnowsQueue (queue_right.Spare from) q = (slice_index words (queued_at key q) ≡ 0) × (slice_index words (closed_at key q) ≡ 0)
  KnowsQueue (queue_right.Owns d n x) q = (d < key.queues) × (slice_index words (queued_at key d) ≡ n) × (slice_index words (closed_at key d) ≡ x)

  abbrev pub KnowsWork : WorkRight → Type 0
  KnowsWork work_right.Nothing = Unit {0}
  KnowsWork (work_right.Works q n) = (q < key.queues) × (slice_index words (work_at key q) ≡ 1) × (slice_index words (finished_at key q) ≡ n)

  abbrev pub Knows : View → Thing → Type 0
  Knows v (slot r) = KnowsSlot v.slot r
  Knows v grace = KnowsGrace v.grace
  Knows v (chain c) = KnowsChain v.chains c
  Knows v (object o) = KnowsObject (objects_of log) v.object
  Knows v (queue q) = KnowsQueue v.queue q
  Knows v (work q) = KnowsWork v.work

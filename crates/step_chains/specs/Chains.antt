-- What each step on a chain asks and tells.
use Rattle.std.specs.Prelude.{◌≡◌, ◌≢◌, ◌⊎◌, ℕ, ◌+◌, ◌<◌, ◌≤◌, [], ◌∷◌, length, slice_index_or, IfSome, List, Option, Some, None, Bool}
use Rattle.atomic_table.specs.Seated.{TableId}
use Rattle.atomic_table.specs.Table.{Me, Step}
use Rattle.atomic_table.specs.declared.shared.Seat.{Seat}
use Rattle.live_rule.specs.rcu_model.declared.event.ObjectId.{ObjectId}
use Rattle.live_rule.specs.rcu_model.Machine.{IsAllowed, IsOpen}
use Rattle.live_rule.specs.rcu_model.Sets.{In, IsPlace, follows, without_object, next_of, first_of, replaced}
use Rattle.live_rule.specs.live_log.declared.event.LiveEvent.{LiveEvent}
use Rattle.live_rule.specs.live_log.declared.event.LiveEvent.TheVariants.{ChainNote, Object}
use Rattle.live_rule.specs.live_log.declared.event.ObjectEvent.TheVariants.{Push, Replace, Cut}
use Rattle.live_rule.specs.live_log.Log.{Log, IsLiveRun, Begins, WasLinked, section, event_of, state_of, objects_of, spot_of, Follows, record_of, chain_note}
use Rattle.live_rule.specs.declared.view.Sizes.{Sizes}
use Rattle.live_rule.specs.declared.view.View.{View}
use Rattle.live_rule.specs.declared.rights.ChainRight.{ChainRight}
use Rattle.live_rule.specs.declared.rights.RecordRight.{RecordRight}
use Rattle.live_rule.specs.declared.rights.RecordRight.TheVariants.{Nothing, Unlinked}
use Rattle.live_rule.specs.Places.{head_at, hold_at, note_at, cell_at}
use Rattle.live_rule.specs.Objects.{ref, spot_at}
use Rattle.live_rule.specs.Readers.{IsClosed}
use Rattle.live_rule.specs.Seats.{lent_chains}
use Rattle.live_rule.specs.Rights.{IsFresh, IsOwner, word_in, count_in, own_in, IsWriter, IsListed, AreAsKnown, KnowsChains, cell_in, link_in, object_in, payload_in}
use Rattle.live_rule.specs.Steps.{Adds, IsNow, Went, exchanged_view, looked_view, stored_view}

-- the abstract machine may go on from the log with the event
abbrev pub IsAllowedBy : Log → LiveEvent → Type 0
IsAllowedBy log (Object d) = IsAllowed (state_of log) (event_of d)
IsAllowedBy log _ = Unit {0}

-- the rule of chains allows the event after every log that goes on from what the seat has seen and heard, in which its
-- chains are as it knows them
abbrev pub MayWrite : Bool → (Log → LiveEvent → Type 0) → View → LiveEvent → Type 0
MayWrite qsbr allows v e = (log : Log) → Begins v.seen log → Begins v.heard log → IsLiveRun qsbr allows log → AreAsKnown log v.chains → IsAllowedBy log e → allows log e

-- it allows a note after every such log, in which no chain has linked the object of a fresh record that the seat has
abbrev pub MayNote : Bool → (Log → LiveEvent → Type 0) → View → ℕ → Type 0
MayNote qsbr allows v note = (log : Log) → Begins v.seen log → Begins v.heard log → IsLiveRun qsbr allows log → AreAsKnown log v.chains → (IsFresh v → ¬ In (objects_of log).used (object_in v.object)) → allows log (ChainNote (own_in v.chains).chain note)

-- the place in the writer's chain that leads to an object
abbrev pub IsBefore : View → Option ObjectId → ObjectId → Type 0
IsBefore v p o = IsPlace (own_in v.chains).objects p × (follows (own_in v.chains).objects p ≡ Some o)

-- the record that stands before the place: none before the first object
abbrev pub IsThere : View → Option ℕ → Option ObjectId → Type 0
IsThere v None None = Unit {0}
IsThere v (Some j) (Some q) = (record_of v.seen q).0 ≡ j
IsThere v _ _ = ⊥

-- the word of a place in the writer's chain
abbrev pub place_at : View → Option ObjectId → ℕ
place_at v p = spot_at v.sizes (objects_of v.seen) (spot_of (own_in v.chains).chain p)

-- the head after a store at a place
abbrev pub head_after : Option ObjectId → ℕ → ℕ → ℕ
head_after None x h = x
head_after (Some q) x h = h

-- what the writer of a chain may publish
abbrev pub push_of : View → LiveEvent
push_of v = Object (Push (own_in v.chains).chain (object_in v.object) (cell_in v.object) (payload_in v.object))

abbrev pub replace_of : ObjectId → View → LiveEvent
replace_of o v = Object (Replace (own_in v.chains).chain o (object_in v.object) (cell_in v.object) (payload_in v.object))

abbrev pub cut_of : ObjectId → View → LiveEvent
cut_of o v = Object (Cut (own_in v.chains).chain o)

-- the view, once the seat made this change, after which its chain has this head and these objects, and it this right
abbrev pub changed : LiveEvent → ℕ → List ObjectId → RecordRight → View → View
changed e x os right v = record v { chains = record (own_in v.chains) { head = x; objects = os } ∷ lent_chains v.chains; object = right; changes = e ∷ [] }

-- the view, once the seat's object became the first of its chain, whose head is this now
abbrev pub pushed_view : ℕ → View → View
pushed_view x v = changed (push_of v) x (object_in v.object ∷ (own_in v.chains).objects) Nothing v

-- the view, once the seat's object stands in the place of another, which the seat now has
abbrev pub replaced_view : Option ObjectId → ObjectId → ℕ → View → View
replaced_view p o x v = let own = own_in v.chains in changed (replace_of o v) (head_after p x own.head) (replaced o (object_in v.object) own.objects) (Unlinked (record_of v.seen o).0 o) v

-- the view, once an object left the seat's chain
abbrev pub cut_view : Option ObjectId → ObjectId → ℕ → View → View
cut_view p o x v = let own = own_in v.chains in changed (cut_of o v) (head_after p x own.head) (without_object o own.objects) (Unlinked (record_of v.seen o).0 o) v

-- the view, once the seat's chain has this note
abbrev pub noted_view : ℕ → View → View
noted_view x v = record v { chains = record (own_in v.chains) { note = x } ∷ lent_chains v.chains; changes = ChainNote (own_in v.chains).chain x ∷ [] }

-- the view, once the seat has this chain as its own, before those that it had
abbrev pub held_view : ChainRight → View → View
held_view x v = record v { chains = x ∷ v.chains }

-- the view, once the seat's own chain was given up
abbrev pub freed_view : View → View
freed_view v = record v { chains = lent_chains v.chains }

-- the reader's word stands for a section, which is the slot's last one
abbrev pub IsInSection : Bool → View → ℕ → ℕ → Type 0
IsInSection qsbr v r n = IsOwner v r × (¬ IsClosed qsbr (word_in v.slot)) × (count_in v.slot ≡ n)

-- the object lies in this record, and the reader's open section may hold it, or it is in the writer's chain
abbrev pub MayRead : Bool → View → ObjectId → ℕ → Type 0
MayRead qsbr v o i =
    ((record_of v.seen o).0 ≡ i) × (((r : ℕ) × (n : ℕ) × IsInSection qsbr v r n × WasLinked (section r n) o v.seen) ⊎ (IsWriter v × IsListed v × In (own_in v.chains).objects o))

-- a reader's section is still open
abbrev pub StaysOpen : Bool → View → View → Type 0
StaysOpen qsbr v w = (r n : ℕ) → IsInSection qsbr v r n → IsOpen (state_of w.seen) (section r n)

-- what follows an object: the word is its record, and each section of this seat that may hold the object may hold it
abbrev pub IsNext : Bool → View → View → ObjectId → ℕ → Option ObjectId → Type 0
IsNext qsbr v w o n found =
    Follows (objects_of w.seen) o found × (n ≡ ref (objects_of w.seen) found)
    × ((m : ObjectId) → found ≡ Some m → ((record_of w.seen m).0 < v.sizes.pool) × ((r k : ℕ) → IsInSection qsbr v r k → WasLinked (section r k) o v.seen → WasLinked (section r k) m w.seen))
    × (IsWriter v → In (own_in v.chains).objects o → found ≡ next_of (own_in v.chains).objects o)

-- the first object of a chain: the word is its record, and each section of this seat may hold it
abbrev pub IsFirst : Bool → View → View → ℕ → ℕ → Type 0
IsFirst qsbr v w c n =
    (n ≡ ref (objects_of w.seen) (first_of ((objects_of w.seen).chain c)))
    × ((o : ObjectId) → first_of ((objects_of w.seen).chain c) ≡ Some o → ((record_of w.seen o).0 < v.sizes.pool) × ((r k : ℕ) → IsInSection qsbr v r k → WasLinked (section r k) o w.seen))

-- the writer's chain has no more objects than the table has records
abbrev pub FitsPool : View → Type 0
FitsPool v = IsWriter v → length (own_in v.chains).objects ≤ v.sizes.pool

-- the seat's own chain is this one, and it knows its objects, its head and its note
abbrev pub IsHeld : View → ℕ → Type 0
IsHeld v c = IsWriter v × ((own_in v.chains).chain ≡ c) × IsListed v

-- what leads to what follows an object in the writer's chain
abbrev pub next_ref : View → ObjectId → ℕ
next_ref v o = ref (objects_of v.seen) (next_of (own_in v.chains).objects o)

-- by the name, the sizes, the chains and the pool of a table, the seat is of it, and so is the chain; so are the record
-- before a place in it, if there is one, and a record
module _ {S : Type 0} (id : TableId) (key : Sizes) (chains pool : ℕ) (s : Seat S View) (chain : ℕ) where
  abbrev pub IsSeatedWith : ℕ → Type 0
  IsSeatedWith cell = (s.table_id ≡ id) × (s.me.0.sizes ≡ key) × (chain < chains) × (cell < pool)

  abbrev pub IsSeatedAt : Option ℕ → Type 0
  IsSeatedAt before = (s.table_id ≡ id) × (s.me.0.sizes ≡ key) × (chain < chains) × IfSome before (λ j. j < pool)

  abbrev pub IsSeatedFor : Option ℕ → ℕ → Type 0
  IsSeatedFor before cell = (s.table_id ≡ id) × (s.me.0.sizes ≡ key) × (chain < chains) × IfSome before (λ j. j < pool) × (cell < pool)

-- the seat writes this chain, with this head, and has a fresh record
abbrev pub HasFresh : View → ℕ → ℕ → ℕ → Type 0
HasFresh v chain head cell = IsWriter v × ((own_in v.chains).chain ≡ chain) × ((own_in v.chains).head ≡ head) × IsFresh v × (cell_in v.object ≡ cell)

-- which leads to the first object
abbrev pub HasLinked : View → ℕ → ℕ → Type 0
HasLinked v chain cell = IsWriter v × ((own_in v.chains).chain ≡ chain) × IsFresh v × (cell_in v.object ≡ cell) × (link_in v.object ≡ (own_in v.chains).head)

-- By the record before a place in the writer's chain, it may write the replacement or the cut of the object there. This
-- leads to what follows that object.
module _ (qsbr : Bool) (allows : Log → LiveEvent → Type 0) (v : View) (before : Option ℕ) where
  abbrev pub MayReplaceAt : ℕ → Type 0
  MayReplaceAt next = (p : Option ObjectId) × (o : ObjectId) × IsThere v before p × IsBefore v p o × (next ≡ next_ref v o) × MayWrite qsbr allows v (replace_of o v)

  abbrev pub MayCutAt : ℕ → Type 0
  MayCutAt next = (p : Option ObjectId) × (o : ObjectId) × IsThere v before p × IsBefore v p o × (next ≡ next_ref v o) × MayWrite qsbr allows v (cut_of o v)

  -- the object there is in this record
  abbrev pub MayCutRecord : ℕ → Type 0
  MayCutRecord cell = (p : Option ObjectId) × (o : ObjectId) × IsThere v before p × IsBefore v p o × ((record_of v.seen o).0 ≡ cell) × MayWrite qsbr allows v (cut_of o v)

module _ {S : Type 0} (qsbr : Bool) (allows : Log → LiveEvent → Type 0) where
  -- a step that writes this event at a log in which the seat's chains are as it knows them, after which the view is
  -- this one
  abbrev pub Writes : View → LiveEvent → Me S View → Me S View → Type 0
  Writes v e m m' = (m'.1 ≡ m.1) × IsNow v m'.0 × (adds : Adds qsbr allows m.0 e m'.0) × AreAsKnown adds.0 m.0.chains

  -- it is the replacement, or the cut, of the object at a place, by the record before it
  abbrev pub WritesReplace : Option ℕ → ℕ → Me S View → Me S View → Type 0
  WritesReplace before x m m' = (p : Option ObjectId) (o : ObjectId) → IsThere m.0 before p → IsBefore m.0 p o → Writes (replaced_view p o x m.0) (replace_of o m.0) m m'

  abbrev pub WritesCut : Option ℕ → ℕ → Me S View → Me S View → Type 0
  WritesCut before next m m' = (p : Option ObjectId) (o : ObjectId) → IsThere m.0 before p → IsBefore m.0 p o → Writes (cut_view p o next m.0) (cut_of o m.0) m m'

  -- the object there is in this record
  abbrev pub WritesCutRecord : Option ℕ → ℕ → Me S View → Me S View → Type 0
  WritesCutRecord before cell m m' = (p : Option ObjectId) (o : ObjectId) → IsThere m.0 before p → IsBefore m.0 p o → (record_of m.0.seen o).0 ≡ cell → Writes (cut_view p o (next_ref m.0 o) m.0) (cut_of o m.0) m m'

  -- the head was stored, and the object is the first one
  abbrev pub pushed : Step S → Me S View → ℕ → Me S View → Type 0
  pushed st m n m' = Writes (pushed_view st.first m.0) (push_of m.0) m m' × IsListed m'.0

  -- the step tells of the object that stood at the place of the word
  abbrev pub replaces : Step S → Me S View → ℕ → Me S View → Type 0
  replaces st m n m' = IsListed m'.0 × ((p : Option ObjectId) (o : ObjectId) → st.word ≡ place_at m.0 p → IsBefore m.0 p o → Writes (replaced_view p o st.first m.0) (replace_of o m.0) m m')

  abbrev pub cuts : Step S → Me S View → ℕ → Me S View → Type 0
  cuts st m n m' = IsListed m'.0 × ((p : Option ObjectId) (o : ObjectId) → st.word ≡ place_at m.0 p → IsBefore m.0 p o → Writes (cut_view p o st.first m.0) (cut_of o m.0) m m')

  -- the note was stored
  abbrev pub noted : Step S → Me S View → ℕ → Me S View → Type 0
  noted st m n m' = Writes (noted_view st.first m.0) (ChainNote (own_in m.0.chains).chain st.first) m m' × IsListed m'.0

  -- this was found in the chain's hold word, and so the chain is the seat's own
  abbrev pub TookChain : Sizes → ℕ → ℕ → Me S View → Me S View → Type 0
  TookChain key c n m m' = Went qsbr allows (held_view (own_in m'.0.chains) (exchanged_view (hold_at key c) n 1 m.0)) m m' × IsHeld m'.0 c

  -- the hold word was 0, and so the chain is the seat's; or it was 1, and another has it
  abbrev pub held : Step S → Me S View → ℕ → Me S View → Type 0
  held st m n m' =
      (n ≡ 0 → (c : ℕ) → c < m.0.sizes.chains → st.word ≡ hold_at m.0.sizes c → Went qsbr allows (held_view (own_in m'.0.chains) (exchanged_view st.word n st.second m.0)) m m' × IsHeld m'.0 c)
      × (n ≢ 0 → Went qsbr allows (looked_view st.word n m.0) m m') × (n ≤ 1)

  -- the hold word was stored back
  abbrev pub freed : Step S → Me S View → ℕ → Me S View → Type 0
  freed st m n m' = Went qsbr allows (stored_view st.word st.first (freed_view m.0)) m m'

  -- a head was loaded
  abbrev pub looked_head : Step S → Me S View → ℕ → Me S View → Type 0
  looked_head st m n m' = Went qsbr allows m.0 m m' × KnowsChains m.0 m'.0 × StaysOpen qsbr m.0 m'.0
      × ((c : ℕ) → c < m.0.sizes.chains → st.word ≡ head_at m.0.sizes c → IsFirst qsbr m.0 m'.0 c n) × FitsPool m.0

  -- a link was loaded
  abbrev pub looked_link : Step S → Me S View → ℕ → Me S View → Type 0
  looked_link st m n m' = Went qsbr allows m.0 m m' × KnowsChains m.0 m'.0 × StaysOpen qsbr m.0 m'.0
      × ((o : ObjectId) (i : ℕ) → MayRead qsbr m.0 o i → st.word ≡ cell_at m.0.sizes i 1 → (found : Option ObjectId) × IsNext qsbr m.0 m'.0 o n found)

  -- a payload word was loaded
  abbrev pub looked_word : Step S → Me S View → ℕ → Me S View → Type 0
  looked_word st m n m' = Went qsbr allows m.0 m m' × KnowsChains m.0 m'.0 × StaysOpen qsbr m.0 m'.0
      × ((o : ObjectId) (i j : ℕ) → MayRead qsbr m.0 o i → j < 4 → st.word ≡ cell_at m.0.sizes i (j + 2) → n ≡ slice_index_or (record_of m.0.seen o).1 j 0)

  -- a note was loaded
  abbrev pub looked_note : Step S → Me S View → ℕ → Me S View → Type 0
  looked_note st m n m' = Went qsbr allows m.0 m m' × KnowsChains m.0 m'.0 × StaysOpen qsbr m.0 m'.0
      × ((c : ℕ) → c < m.0.sizes.chains → st.word ≡ note_at m.0.sizes c → n ≡ chain_note c m'.0.seen)

-- the word of a place, by the record before it
abbrev pub place_index : Sizes → ℕ → Option ℕ → ℕ
place_index sizes c None = head_at sizes c
place_index sizes c (Some j) = cell_at sizes j 1

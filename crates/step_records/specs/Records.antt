-- What each step on a record tells.
use Rattle.std.specs.Prelude.{Bool, ◌≡◌, ◌≢◌, ◌⊎◌, ℕ, ◌+◌, ◌<◌, List, [], length, slice_index_or, slice_set}
use Rattle.atomic_table.specs.Table.{Me, Step}
use Rattle.live_rule.specs.rcu_model.declared.event.ObjectId.{ObjectId}
use Rattle.live_rule.specs.rcu_model.Sets.{In}
use Rattle.live_rule.specs.live_log.declared.event.LiveEvent.{LiveEvent}
use Rattle.live_rule.specs.live_log.declared.event.LiveEvent.TheVariants.{Object}
use Rattle.live_rule.specs.live_log.declared.event.ObjectEvent.TheVariants.{Retire, Run}
use Rattle.live_rule.specs.live_log.Log.{Log, record_of, state_of}
use Rattle.live_rule.specs.declared.view.Sizes.{Sizes}
use Rattle.live_rule.specs.declared.view.View.{View}
use Rattle.live_rule.specs.declared.rights.RecordRight.TheVariants.{Fresh, Retired}
use Rattle.live_rule.specs.Places.{cell_at}
use Rattle.live_rule.specs.Objects.{free_word, fresh_word}
use Rattle.live_rule.specs.Seats.{but_object}
use Rattle.live_rule.specs.Rights.{KnowsChains, IsFresh, IsUnlinked, IsRetired, IsQueued, cell_in, object_in, link_in, payload_in}
use Rattle.live_rule.specs.Steps.{Did, Went, exchanged_view, looked_view, stored_view}

-- the view, once a record is its, with this link and this payload, for a new object with this number
abbrev pub taken_record : ℕ → ℕ → ℕ → List ℕ → View → View
taken_record i n l p v = record v { object = Fresh i (record { 0 = n }) l p }

-- the view, once the record has this link
abbrev pub linked_view : ℕ → View → View
linked_view l v = record v { object = Fresh (cell_in v.object) (object_in v.object) l (payload_in v.object) }

-- the view, once this word of the payload is this one
abbrev pub worded_view : ℕ → ℕ → View → View
worded_view j x v = record v { object = Fresh (cell_in v.object) (object_in v.object) (link_in v.object) (slice_set (payload_in v.object) j x) }

-- the view, once its object is retired
abbrev pub retired_view : View → View
retired_view v = record v { object = Retired (cell_in v.object) (object_in v.object) }

-- the object is retired in this log, and each section that was open at its retirement has ended there
abbrev pub IsRipe : Log → ObjectId → Type 0
IsRipe log o = In (state_of log).retired o × ((state_of log).awaited o ≡ [])

-- the seat has the right to a record, whose object is not retired
abbrev pub HasRecord : View → Type 0
HasRecord v = IsFresh v ⊎ IsUnlinked v

-- the seat has the right to an object that was cut and has not been run, and to its record
abbrev pub HasCut : View → Type 0
HasCut v = IsUnlinked v ⊎ (IsRetired v ⊎ IsQueued v)

module _ {S : Type 0} (qsbr : Bool) (allows : Log → LiveEvent → Type 0) where
  -- a word was looked at
  abbrev pub looked : Step S → Me S View → ℕ → Me S View → Type 0
  looked st m n m' = Went qsbr allows (looked_view st.word n m.0) m m'

  -- the header of the seat's own object was looked at
  abbrev pub numbered : Step S → Me S View → ℕ → Me S View → Type 0
  numbered st m n m' = looked st m n m' × (n ≡ fresh_word (object_in m.0.object).0)

  -- this was found in a record's header, and so the record was taken for a new object with this number
  abbrev pub TookRecord : Sizes → ℕ → ℕ → ℕ → Me S View → Me S View → Type 0
  TookRecord key i n number m m' = Went qsbr allows (taken_record i number (link_in m'.0.object) (payload_in m'.0.object) (exchanged_view (cell_at key i 0) n (fresh_word number) m.0)) m m' × (length (payload_in m'.0.object) ≡ 4)

  -- a free record was taken, or another header was found
  abbrev pub took : Step S → Me S View → ℕ → Me S View → Type 0
  took st m n m' =
      (n ≡ st.first → (i number : ℕ) → st.word ≡ cell_at m.0.sizes i 0 → st.second ≡ fresh_word number → Went qsbr allows (taken_record i number (link_in m'.0.object) (payload_in m'.0.object) (exchanged_view st.word n st.second m.0)) m m' × (length (payload_in m'.0.object) ≡ 4))
      × (n ≢ st.first → Went qsbr allows (looked_view st.word n m.0) m m')

  -- the link was stored
  abbrev pub linked : Step S → Me S View → ℕ → Me S View → Type 0
  linked st m n m' = Went qsbr allows (linked_view st.first m.0) m m' × KnowsChains m.0 m'.0

  -- a payload word was stored
  abbrev pub worded : Step S → Me S View → ℕ → Me S View → Type 0
  worded st m n m' = (j : ℕ) → j < 4 → st.word ≡ cell_at m.0.sizes (cell_in m.0.object) (j + 2) → Went qsbr allows (worded_view j st.first m.0) m m' × KnowsChains m.0 m'.0

  -- the link or a payload word of the seat's own fresh record was looked at
  abbrev pub looked_fresh : Step S → Me S View → ℕ → Me S View → Type 0
  looked_fresh st m n m' =
      Went qsbr allows m.0 m m' × KnowsChains m.0 m'.0
      × (st.word ≡ cell_at m.0.sizes (cell_in m.0.object) 1 → n ≡ link_in m.0.object)
      × ((j : ℕ) → j < 4 → st.word ≡ cell_at m.0.sizes (cell_in m.0.object) (j + 2) → n ≡ slice_index_or (payload_in m.0.object) j 0)

  -- the record was freed, by this word
  abbrev pub discarded : Step S → Me S View → ℕ → Me S View → Type 0
  discarded st m n m' = Went qsbr allows (stored_view st.word st.first (but_object m.0)) m m'

  -- the object was retired
  abbrev pub retired : Step S → Me S View → ℕ → Me S View → Type 0
  retired st m n m' = Did qsbr allows (retired_view m.0) (Object (Retire (object_in m.0.object))) m m'

  -- the object's callback may run, and this record, which was its own, was freed
  abbrev pub RanObject : Sizes → ℕ → Me S View → Me S View → Type 0
  RanObject key i m m' = Did qsbr allows (stored_view (cell_at key i 0) (free_word (object_in m.0.object).0) (but_object m.0)) (Object (Run (object_in m.0.object))) m m'

  -- the object's callback may run, and its record was freed by this word
  abbrev pub ran : Step S → Me S View → ℕ → Me S View → Type 0
  ran st m n m' = Did qsbr allows (stored_view st.word st.first (but_object m.0)) (Object (Run (object_in m.0.object))) m m'

  -- A payload word of the seat's own object was looked at, which was cut and has not been run. With the right to retire
  -- it the seat has seen a log in which it is not retired.
  abbrev pub looked_payload : Step S → Me S View → ℕ → Me S View → Type 0
  looked_payload st m n m' = Went qsbr allows m.0 m m' × In (state_of m'.0.seen).used (object_in m.0.object) × ((j : ℕ) → j < 4 → st.word ≡ cell_at m.0.sizes (cell_in m.0.object) (j + 2) → n ≡ slice_index_or (record_of m'.0.seen (object_in m.0.object)).1 j 0) × (IsUnlinked m.0 → ¬ In (state_of m'.0.seen).retired (object_in m.0.object))

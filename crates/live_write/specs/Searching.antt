-- What a search for a free record tells.
use Rattle.std.specs.Prelude.{Bool, ◌/◌, ◌≡◌, ℕ, ◌<◌, List, [], ◌∷◌, ◌++◌, length}
use Rattle.atomic_table.specs.Table.{Me}
use Rattle.rcu_model.specs.declared.event.ObjectId.{ObjectId}
use Rattle.live_log.specs.declared.event.LiveEvent.{LiveEvent}
use Rattle.live_log.specs.Log.{Log}
use Rattle.live_words.specs.live_rule.declared.view.Look.{Look}
use Rattle.live_words.specs.live_rule.declared.view.Look.TheVariants.{Loaded, Stored}
use Rattle.live_words.specs.live_rule.declared.view.Sizes.{Sizes}
use Rattle.live_words.specs.live_rule.declared.view.View.{View}
use Rattle.live_words.specs.live_rule.declared.rights.RecordRight.{RecordRight}
use Rattle.live_words.specs.live_rule.declared.rights.RecordRight.TheVariants.{Fresh}
use Rattle.live_words.specs.live_rule.Places.{cell_at}
use Rattle.live_words.specs.live_rule.Objects.{HasNext, free_word, fresh_word, next_number}
use Rattle.live_words.specs.live_rule.Rights.{cell_in, link_in, object_in, payload_in}
use Rattle.live_words.specs.live_rule.Steps.{FoundIn, Went, stores_in}
use Rattle.live_read.specs.declared.caller.Caller.{Ghosts}

-- the record was found in use, or with no number left for another object
abbrev pub IsTaken : Sizes → List Look → ℕ → Type 0
IsTaken key found i = FoundIn found (cell_at key i 0) (λ word. ¬ HasNext key i word)

-- each record was
abbrev pub AreTaken : Sizes → List Look → Type 0
AreTaken key found = (i : ℕ) → i < key.pool → IsTaken key found i

-- the record with this right was freed
abbrev pub freed_look : Sizes → RecordRight → Look
freed_look key x = Stored (cell_at key (cell_in x) 0) (free_word (object_in x).0)

-- nothing was stored
abbrev pub StoresNothing : List Look → Type 0
StoresNothing found = stores_in found ≡ []

-- At last this record was found free, and taken for the object that has its next number. Nothing was stored before.
pub record TakesRecord (key : Sizes) (i n : ℕ) (found : List Look) : Type 0 where
  pub word : ℕ
  pub before : List Look
  pub taken : found ≡ Stored (cell_at key i 0) (fresh_word n) ∷ Loaded (cell_at key i 0) word ∷ before
  pub free : HasNext key i word × (n ≡ next_number key i (word / 4))
  pub only : StoresNothing before

-- these words were found for a caller, and so the record with this right was taken
abbrev pub TakesFor : {W S : Type 0} → Ghosts W S → Sizes → W → W → RecordRight → Type 0
TakesFor w key old new x = (found : List Look) × (w.looks new ≡ found ++ w.looks old) × TakesRecord key (cell_in x) (object_in x).0 found

-- why no record is had: each one was found taken, and nothing was stored
abbrev pub GetsNoRecord : Sizes → List Look → Type 0
GetsNoRecord key found = AreTaken key found × StoresNothing found

module _ {S : Type 0} (qsbr : Bool) (allows : Log → LiveEvent → Type 0) where
  -- the seat found these words, the last one first, and has this right to an object now
  abbrev pub Searched : List Look → RecordRight → Me S View → Me S View → Type 0
  Searched found x m m' = Went qsbr allows (record m.0 { looks = found ++ m.0.looks; object = x }) m m'

  -- it took this record for a new object, which has this number, and found the words in its link and payload
  abbrev pub Takes : Sizes → ℕ → ℕ → Me S View → Me S View → Type 0
  Takes key n i m m' = (found : List Look) × Searched found (Fresh i (record { 0 = n }) (link_in m'.0.object) (payload_in m'.0.object)) m m' × (length (payload_in m'.0.object) ≡ 4) × TakesRecord key i n found

  -- the fresh record that it has got these words
  abbrev pub Fills : ℕ → ObjectId → List ℕ → Me S View → Me S View → Type 0
  Fills i o words m m' = Searched [] (Fresh i o (link_in m'.0.object) words) m m'

  -- it took a record for a new object, with this number and these words
  abbrev pub Allocates : Sizes → ℕ → ℕ → List ℕ → Me S View → Me S View → Type 0
  Allocates key i n words m m' = (found : List Look) × Searched found (Fresh i (record { 0 = n }) (link_in m'.0.object) words) m m' × TakesRecord key i n found

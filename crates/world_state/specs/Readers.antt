-- The step table's rows of readers: what a step makes of a reader's state, and what it answers.
use Rattle.std.specs.Prelude.{ℕ, ◌+◌, ◌==◌, Bool, true, false, if◌then◌else◌, Option, Some, None, Result, Ok, Err}
use Rattle.std.specs.Option.{option_or}
use Rattle.rcu_model.specs.declared.event.Event.{Event}
use Rattle.rcu_model.specs.declared.event.Event.TheVariants.{Open, Close, Touch}
use Rattle.rcu_model.specs.declared.event.SectionId.{SectionId}
use Rattle.rcu_model.specs.declared.event.ObjectId.{ObjectId}
use Rattle.rcu_model.specs.declared.refusal.Refusal.{Refusal}
use Rattle.rcu_model.specs.declared.refusal.Refusal.TheVariants.{NotOpen, Busy, NoPlace}
use Rattle.reader_word.specs.declared.layout.Layout.{Layout}
use Rattle.reader_word.specs.Word.{count_of, is_open_of, entered_of, left_of}
use Rattle.reader_word.specs.Quiescent.{is_online, announced}
use Rattle.world_state.specs.declared.line.Answer.TheVariants.{Events, Quiet}
use Rattle.world_state.specs.declared.reader.ReaderState.{ReaderState}
use Rattle.world_state.specs.declared.reader.ReaderStep.{ReaderStep}

abbrev pub section_of : ℕ → ℕ → SectionId
section_of r n = record { reader = r; ordinal = n }

abbrev pub new_reader : ReaderState
new_reader = record { word = 0; ordinal = 0; copy = None; cursor = None }

-- whether a section is open, by the reader's word; first whether the flavour is the quiescent-state one
abbrev pub is_open_in : Bool → Layout → ℕ → Bool
is_open_in true layout word = is_online word
is_open_in false layout word = is_open_of layout word

abbrev pub quietly : ReaderState → ReaderStep
quietly v = record { state = v; answer = Quiet }

abbrev pub telling : Event → ReaderState → ReaderStep
telling e v = record { state = v; answer = Events e None }

abbrev pub with_word : ReaderState → ℕ → ReaderState
with_word v word = record v { word = word }

-- the reader in its next section, which the word opens
abbrev pub opened : ReaderState → ℕ → ReaderState
opened v word = record { word = word; ordinal = v.ordinal + 1; copy = None; cursor = None }

-- and in none, which the word closes
abbrev pub closed : ReaderState → ℕ → ReaderState
closed v word = record v { word = word; cursor = None }

-- what it stores, if the word function gives it a word
abbrev pub stores : (ℕ → ReaderStep) → Result ℕ Refusal → Result ReaderStep Refusal
stores step (Ok word) = Ok (step word)
stores step (Err e) = Err e

-- `lock`
abbrev pub lock_row : Layout → ℕ → ReaderState → Result ReaderStep Refusal
lock_row layout phase v =
    if count_of layout v.word == 0 then Ok (quietly (record v { copy = Some phase }))
    else stores (λ word. quietly (with_word v word)) (entered_of layout v.word false)

abbrev pub enter_row : Layout → ℕ → ℕ → ReaderState → Result ReaderStep Refusal
enter_row layout phase r v =
    stores (λ word. telling (Open (section_of r (v.ordinal + 1))) (opened v word)) (entered_of layout v.word (phase == 1))

-- `unlock`
abbrev pub unlock_row : Layout → ℕ → ReaderState → Result ReaderStep Refusal
unlock_row layout r v =
    stores
    (λ word. if count_of layout word == 0 then telling (Close (section_of r v.ordinal)) (closed v word) else quietly (with_word v word))
    (left_of layout v.word)

-- `online`
abbrev pub online_row : ℕ → ReaderState → Result ReaderStep Refusal
online_row num v = if is_online v.word then Err Busy else Ok (quietly (record v { copy = Some num }))

abbrev pub go_online_row : ℕ → ℕ → ReaderState → ReaderStep
go_online_row num r v = telling (Open (section_of r (v.ordinal + 1))) (opened v (announced num))

-- `quiescent`
abbrev pub quiescent_row : ℕ → ReaderState → Result ReaderStep Refusal
quiescent_row num v = if is_online v.word then Ok (quietly (record v { copy = Some num })) else Err NotOpen

abbrev pub announce_row : ℕ → ℕ → ReaderState → ReaderStep
announce_row num r v =
    record {
      state = opened v (announced num);
      answer = Events (Close (section_of r v.ordinal)) (Some (Open (section_of r (v.ordinal + 1))));
    }

-- `offline`
abbrev pub offline_row : ℕ → ReaderState → Result ReaderStep Refusal
offline_row r v = if is_online v.word then Ok (telling (Close (section_of r v.ordinal)) (closed v 0)) else Err NotOpen

-- `first` and `next`: what was found is the cursor from then on
abbrev pub with_cursor : ReaderState → Option ObjectId → ReaderState
with_cursor v found = record v { cursor = option_or found v.cursor }

abbrev pub found_row : ReaderState → Option ObjectId → Event → ReaderStep
found_row v found e = telling e (with_cursor v found)

-- `touch`
abbrev pub touch_row : ℕ → ReaderState → Option ObjectId → Result ReaderStep Refusal
touch_row r v None = Err NoPlace
touch_row r v (Some o) = Ok (telling (Touch (section_of r v.ordinal) o) v)

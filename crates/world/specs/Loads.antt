-- What a section's word is made of: the phase or number that was present at its reader's line before.
use Rattle.std.specs.Prelude.{◌≡◌, ℕ, ◌==◌, Bool, true, false, if◌then◌else◌, IsTrue, List, [], ◌∷◌, ◌++◌, get_or, Option, Some, None, Result, Ok, Err}
use Rattle.rcu_model.specs.declared.event.Event.TheVariants.{Open}
use Rattle.rcu_model.specs.declared.refusal.Refusal.{Refusal}
use Rattle.reader_word.specs.declared.layout.Layout.{Layout}
use Rattle.reader_word.specs.Word.{fresh}
use Rattle.reader_word.specs.Quiescent.{announced}
use Rattle.world_state.specs.declared.line.Answer.{Answer}
use Rattle.world_state.specs.declared.line.Answer.TheVariants.{Events}
use Rattle.world_state.specs.declared.line.Line.{Line}
use Rattle.world_state.specs.declared.line.Line.TheVariants.{Reader}
use Rattle.world_state.specs.Readers.{new_reader}
use Rattle.world_state.specs.View.{Plans, BoardView}
use Rattle.world.specs.Lines.{outcome_of}
use Rattle.world.specs.Steps.{WorldView, OfMemb, OfQsbr, memb_plans, qsbr_plans}

-- a line of a reader that was not refused: the phase or number that was present, the answer, and the reader's word
-- after it
pub record Move : Type 0 where
  pub present : ℕ
  pub answer : Answer
  pub word : ℕ

-- the answer tells that a section opened
abbrev pub opens_section : Answer → Bool
opens_section (Events (Open s) second) = true
opens_section (Events first (Some (Open s))) = true
opens_section answer = false

-- the word of a section that copied this phase or number
abbrev pub word_for : Bool → Layout → ℕ → ℕ
word_for qsbr layout copied = if qsbr then announced copied else fresh layout (copied == 1)

-- each section that opens has the word of what was present at the reader's move before
abbrev pub StoresWhatItLoaded : Bool → Layout → Option ℕ → List Move → Type 0
StoresWhatItLoaded qsbr layout loaded [] = Unit {0}
StoresWhatItLoaded qsbr layout loaded (m ∷ ms) =
    (IsTrue (opens_section m.answer) → (copied : ℕ) × (loaded ≡ Some copied) × (m.word ≡ word_for qsbr layout copied))
    × StoresWhatItLoaded qsbr layout (Some m.present) ms

module _ {P : Type 0} (plans : Plans P) where
  abbrev pub made_by : ℕ → BoardView P → BoardView P → Result Answer Refusal → List Move
  made_by r old new (Ok answer) = record { present = old.grace.word; answer = answer; word = (get_or new.readers r new_reader).word } ∷ []
  made_by r old new (Err e) = []

  -- the moves of one reader, where these lines are stepped
  abbrev pub move_of : ℕ → BoardView P → Line → List Move
  move_of r w (Reader k verb) = if k == r then made_by r w (outcome_of plans w (Reader k verb)).world (outcome_of plans w (Reader k verb)).answer else []
  move_of r w line = []

  abbrev pub moves_of : ℕ → BoardView P → List Line → List Move
  moves_of r w [] = []
  moves_of r w (line ∷ lines) = move_of r w line ++ moves_of r (outcome_of plans w line).world lines

abbrev pub ReadersStoreWhatTheyLoaded : WorldView → List Line → Type 0
ReadersStoreWhatTheyLoaded (OfMemb w) lines = (r : ℕ) → StoresWhatItLoaded false w.layout None (moves_of memb_plans r w lines)
ReadersStoreWhatTheyLoaded (OfQsbr w) lines = (r : ℕ) → StoresWhatItLoaded true w.layout None (moves_of qsbr_plans r w lines)

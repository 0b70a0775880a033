-- Headers and lines, read from left to right.
use Rattle.std.specs.Prelude.{◌≡◌, ◌≤◌, ◌⊎◌, ◌∷◌, ℕ, List, map, Ok}
use Rattle.rcu_model.specs.declared.event.ObjectId.{ObjectId}
use Rattle.reader_word.specs.declared.layout.Layout.{Layout}
use Rattle.world_state.specs.declared.config.Flavour.{Flavour}
use Rattle.world_state.specs.declared.config.Config.{Config}
use Rattle.world_state.specs.declared.line.Line.{Line}
use Rattle.world_state.specs.declared.line.Line.TheVariants.{Reader, Updater, Worker}
use Rattle.world_state.specs.declared.line.ReaderVerb.{ReaderVerb}
use Rattle.world_state.specs.declared.line.ReaderVerb.TheVariants as reader
use Rattle.world_state.specs.declared.line.UpdaterVerb.{UpdaterVerb}
use Rattle.world_state.specs.declared.line.UpdaterVerb.TheVariants as updater
use Rattle.world_state.specs.declared.line.WorkerVerb.{WorkerVerb}
use Rattle.world_state.specs.declared.line.WorkerVerb.TheVariants as worker
use Rattle.schedule_text.specs.Reading.{Reading, ◌>>=◌, word_at, number_at}
use Rattle.schedule_text.specs.declared.words.ActorWord.{ActorWord}
use Rattle.schedule_text.specs.declared.words.ActorWord.TheVariants as actors
use Rattle.schedule_text.specs.declared.words.ReaderWord.{ReaderWord}
use Rattle.schedule_text.specs.declared.words.ReaderWord.TheVariants as reader_words
use Rattle.schedule_text.specs.declared.words.UpdaterWord.{UpdaterWord}
use Rattle.schedule_text.specs.declared.words.UpdaterWord.TheVariants as updater_words
use Rattle.schedule_text.specs.declared.words.TheConstants.{LAYOUTS, FLAVOURS, ACTORS, READER_WORDS, UPDATER_WORDS, WORKER_WORDS}

-- the value, with nothing read
abbrev pub done : {A : Type 0} → A → List ℕ → Reading A
done x text = Ok (x, text)

-- the words of each place, as bytes
abbrev pub layouts : List (List ℕ × Layout)
layouts = map (λ e. (e.0.now, e.1)) LAYOUTS

abbrev pub flavours : List (List ℕ × Flavour)
flavours = map (λ e. (e.0.now, e.1)) FLAVOURS

abbrev pub actor_words : List (List ℕ × ActorWord)
actor_words = map (λ e. (e.0.now, e.1)) ACTORS

abbrev pub reader_words_of : List (List ℕ × ReaderWord)
reader_words_of = map (λ e. (e.0.now, e.1)) READER_WORDS

abbrev pub updater_words_of : List (List ℕ × UpdaterWord)
updater_words_of = map (λ e. (e.0.now, e.1)) UPDATER_WORDS

abbrev pub worker_words : List (List ℕ × WorkerVerb)
worker_words = map (λ e. (e.0.now, e.1)) WORKER_WORDS

-- ---- lines

-- the value that is made of the number at the end of a line
abbrev pub argument_at : {V : Type 0} → (ℕ → V) → List ℕ → Reading V
argument_at make text = number_at 10 text >>= λ n. done (make n.0) n.1

abbrev pub object : ℕ → ObjectId
object n = record { 0 = n }

abbrev pub reader_rest : ReaderWord → List ℕ → Reading ReaderVerb
reader_rest (reader_words.Whole verb) text = done verb text
reader_rest reader_words.FirstOf text = argument_at reader.First text

abbrev pub updater_rest : UpdaterWord → List ℕ → Reading UpdaterVerb
updater_rest (updater_words.Whole verb) text = done verb text
updater_rest updater_words.PushTo text = argument_at updater.Push text
updater_rest updater_words.ReplaceOf text = argument_at (λ n. updater.Replace (object n)) text
updater_rest updater_words.CutOf text = argument_at (λ n. updater.Cut (object n)) text
updater_rest updater_words.RetireOf text = argument_at (λ n. updater.Retire (object n)) text

unfoldable pub reader_verb_at : List ℕ → Reading ReaderVerb
reader_verb_at text = word_at reader_words_of text >>= λ w. reader_rest w.0 w.1

unfoldable pub updater_verb_at : List ℕ → Reading UpdaterVerb
updater_verb_at text = word_at updater_words_of text >>= λ w. updater_rest w.0 w.1

unfoldable pub worker_verb_at : List ℕ → Reading WorkerVerb
worker_verb_at text = word_at worker_words text

abbrev pub verb_of : ActorWord → ℕ → List ℕ → Reading Line
verb_of actors.Reader n text = reader_verb_at text >>= λ v. done (Reader n v.0) v.1
verb_of actors.Updater n text = updater_verb_at text >>= λ v. done (Updater n v.0) v.1
verb_of actors.Worker n text = worker_verb_at text >>= λ v. done (Worker n v.0) v.1

unfoldable pub line_at : List ℕ → Reading Line
line_at text = word_at actor_words text >>= λ a. number_at 32 a.1 >>= λ n. verb_of a.0 n.0 n.1

-- the actor of this letter goes on
abbrev pub GoesOn : ℕ → ℕ → Line → Type 0
GoesOn actor n (Reader k verb) = (actor ≡ 114) × (k ≡ n) × (verb ≡ reader.GoOn)
GoesOn actor n (Updater k verb) = (actor ≡ 117) × (k ≡ n) × (verb ≡ updater.GoOn)
GoesOn actor n (Worker k verb) = (actor ≡ 119) × (k ≡ n) × (verb ≡ worker.GoOn)

-- an actor below ten goes on at the front of the text
pub record BeginsGoingOn (text : List ℕ) : Type 0 where
  pub actor : ℕ
  pub digit : ℕ
  pub rest : List ℕ
  pub whole : text ≡ actor ∷ digit ∷ 32 ∷ 46 ∷ 10 ∷ rest
  pub letter : (actor ≡ 114) ⊎ ((actor ≡ 117) ⊎ (actor ≡ 119))
  pub number : (48 ≤ digit) × (digit ≤ 57)

-- ---- the header

unfoldable pub header_at : List ℕ → Reading Config
header_at text =
    word_at layouts text >>= λ l.
    word_at flavours l.1 >>= λ f.
    number_at 32 f.1 >>= λ r.
    number_at 32 r.1 >>= λ u.
    number_at 32 u.1 >>= λ w.
    number_at 10 w.1 >>= λ c.
    done (record { layout = l.0; flavour = f.0; readers = r.0; updaters = u.0; workers = w.0; chains = c.0 }) c.1

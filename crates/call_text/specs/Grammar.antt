-- Headers and calls, read from left to right.
use Rattle.std.specs.Prelude.{ℕ, Bool, false, List, [], ◌∷◌, map, ◌==◌, if◌then◌else◌}
use Rattle.schedule_text.specs.Reading.{Reading, ◌>>=◌, word_at, number_at, ended_number_at}
use Rattle.schedule_text.specs.Grammar.{done}
use Rattle.call_text.specs.declared.call.Actor.{Actor}
use Rattle.call_text.specs.declared.call.Actor.TheVariants.{Reader, Updater, Worker, List as KeyedList, Table, Domain}
use Rattle.call_text.specs.declared.call.Call.{Call}
use Rattle.call_text.specs.declared.call.Header.{Header}
use Rattle.call_text.specs.declared.words.ActorWord.{ActorWord}
use Rattle.call_text.specs.declared.words.ActorWord.TheVariants as actors
use Rattle.call_text.specs.declared.words.Argument.{Argument}
use Rattle.call_text.specs.declared.words.Argument.TheVariants as argument
use Rattle.call_text.specs.declared.words.VerbWord.{VerbWord}
use Rattle.call_text.specs.declared.words.TheConstants.{ACTORS, READER_WORDS, UPDATER_WORDS, WORKER_WORDS, LIST_WORDS, TABLE_WORDS, DOMAIN_WORDS, FLAVOURS, MAPS}
use Rattle.call_text.specs.Spelling.{listed}

-- the words of each place, as bytes
abbrev pub actor_words : List (List ℕ × ActorWord)
actor_words = map (λ e. (e.0.now, e.1)) ACTORS

abbrev pub verb_words : Actor → List (List ℕ × VerbWord)
verb_words (Reader n) = map (λ e. (e.0.now, e.1)) READER_WORDS
verb_words (Updater n) = map (λ e. (e.0.now, e.1)) UPDATER_WORDS
verb_words (Worker n) = map (λ e. (e.0.now, e.1)) WORKER_WORDS
verb_words (KeyedList n) = map (λ e. (e.0.now, e.1)) LIST_WORDS
verb_words (Table n) = map (λ e. (e.0.now, e.1)) TABLE_WORDS
verb_words Domain = map (λ e. (e.0.now, e.1)) DOMAIN_WORDS

abbrev pub flavours : List (List ℕ × Bool)
flavours = map (λ e. (e.0.now, e.1)) FLAVOURS

abbrev pub maps_word : List (List ℕ × Bool)
maps_word = map (λ e. (e.0.now, e.1)) MAPS

-- ---- numbers

-- a number that one byte ends; a value below `room` takes one more digit
unfoldable pub value_at : ℕ → ℕ → List ℕ → Reading ℕ
value_at room end text = ended_number_at room end end text >>= λ n. done n.0.0 n.1

abbrev pub argument_at : Argument → List ℕ → Reading ℕ
argument_at argument.Absent text = done 0 text
argument_at argument.Number text = value_at 100000000 32 text
argument_at argument.LastNumber text = value_at 100000000 10 text
argument_at argument.Value text = value_at 1000000000000000000 32 text
argument_at argument.LastValue text = value_at 1000000000000000000 10 text

unfoldable pub arguments_at : List Argument → List ℕ → Reading (List ℕ)
arguments_at [] text = done [] text
arguments_at (a ∷ more) text = argument_at a text >>= λ n. arguments_at more n.1 >>= λ numbers. done (n.0 ∷ numbers.0) numbers.1

-- ---- calls

-- the actor that is made of its number
abbrev pub numbered_at : (ℕ → Actor) → List ℕ → Reading Actor
numbered_at make text = number_at 32 text >>= λ n. done (make n.0) n.1

abbrev pub actor_rest : ActorWord → List ℕ → Reading Actor
actor_rest actors.Reader text = numbered_at Reader text
actor_rest actors.Updater text = numbered_at Updater text
actor_rest actors.Worker text = numbered_at Worker text
actor_rest actors.List text = numbered_at KeyedList text
actor_rest actors.Table text = numbered_at Table text
actor_rest actors.Domain text = done Domain text

unfoldable pub actor_at : List ℕ → Reading Actor
actor_at text = word_at actor_words text >>= λ w. actor_rest w.0 w.1

unfoldable pub verb_at : Actor → List ℕ → Reading VerbWord
verb_at actor text = word_at (verb_words actor) text

unfoldable pub call_at : List ℕ → Reading Call
call_at text =
    actor_at text >>= λ a.
    verb_at a.0 a.1 >>= λ w.
    arguments_at (listed w.0.1) w.1 >>= λ n.
    done (record { actor = a.0; verb = w.0.0; numbers = n.0 }) n.1

-- ---- the header

-- what the byte after the last number leaves to be read
abbrev pub maps_at : ℕ → List ℕ → Reading Bool
maps_at end text = if end == 10 then done false text else word_at maps_word text

unfoldable pub header_at : List ℕ → Reading Header
header_at text =
    word_at flavours text >>= λ f.
    number_at 32 f.1 >>= λ s.
    number_at 32 s.1 >>= λ q.
    number_at 32 q.1 >>= λ c.
    ended_number_at 100000000 10 32 c.1 >>= λ p.
    maps_at p.0.1 p.1 >>= λ m.
    done (record { qsbr = f.0; slots = s.0; queues = q.0; chains = c.0; pool = p.0.0; maps = m.0 }) m.1

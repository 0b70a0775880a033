-- Lines of answers, read from left to right. A number that may end a line is read with the byte that ends it: a line
-- feed, or another one.
use Rattle.std.specs.Prelude.{ℕ, List, [], ◌∷◌, map, Ok, Err, Option, Some, None, ◌==◌, if◌then◌else◌}
use Rattle.rcu_model.specs.declared.event.SectionId.{SectionId}
use Rattle.rcu_model.specs.declared.event.ObjectId.{ObjectId}
use Rattle.rcu_model.specs.declared.event.Event.{Event}
use Rattle.rcu_model.specs.declared.event.Event.TheVariants.{Open, Close, First, Next, Touch, Push, Replace, Cut, Retire, Queue, Run, Ask, Answer, Bar, Clear}
use Rattle.schedule_text.specs.Reading.{Reading, ◌>>=◌, is_end, word_at, number_at, ended_number_at}
use Rattle.schedule_text.specs.Grammar.{done, object}
use Rattle.schedule_text.specs.declared.answer_line.AnswerLine.{AnswerLine}
use Rattle.schedule_text.specs.declared.answer_line.AnswerLine.TheVariants as line
use Rattle.schedule_text.specs.declared.answer_words.SectionWord.{SectionWord}
use Rattle.schedule_text.specs.declared.answer_words.SectionWord.TheVariants as section_words
use Rattle.schedule_text.specs.declared.answer_words.ReadingWord.{ReadingWord}
use Rattle.schedule_text.specs.declared.answer_words.ReadingWord.TheVariants as reading_words
use Rattle.schedule_text.specs.declared.answer_words.ChainWord.{ChainWord}
use Rattle.schedule_text.specs.declared.answer_words.ChainWord.TheVariants as chain_words
use Rattle.schedule_text.specs.declared.answer_words.ObjectWord.{ObjectWord}
use Rattle.schedule_text.specs.declared.answer_words.ObjectWord.TheVariants as object_words
use Rattle.schedule_text.specs.declared.answer_words.WaitWord.{WaitWord}
use Rattle.schedule_text.specs.declared.answer_words.WaitWord.TheVariants as wait_words
use Rattle.schedule_text.specs.declared.answer_words.EventWord.{EventWord}
use Rattle.schedule_text.specs.declared.answer_words.EventWord.TheVariants as event_words
use Rattle.schedule_text.specs.declared.answer_words.AnswerWord.{AnswerWord}
use Rattle.schedule_text.specs.declared.answer_words.AnswerWord.TheVariants as answer_words
use Rattle.schedule_text.specs.declared.answer_words.WholeWord.{WholeWord}
use Rattle.schedule_text.specs.declared.answer_words.WholeWord.TheVariants as whole_words
use Rattle.schedule_text.specs.declared.answer_words.FoundWord.{FoundWord}
use Rattle.schedule_text.specs.declared.answer_words.FoundWord.TheVariants as found_words
use Rattle.schedule_text.specs.declared.answer_words.TheConstants.{EVENT_WORDS, ANSWER_WORDS, FOUND_WORDS, WAITING, RUN}

-- the words of each place, as bytes
abbrev pub event_words_of : List (List ℕ × EventWord)
event_words_of = map (λ e. (e.0.now, e.1)) EVENT_WORDS

abbrev pub answer_words_of : List (List ℕ × AnswerWord)
answer_words_of = map (λ e. (e.0.now, e.1)) ANSWER_WORDS

abbrev pub found_words_of : List (List ℕ × FoundWord)
found_words_of = map (λ e. (e.0.now, e.1)) FOUND_WORDS

abbrev pub waiting_word : List (List ℕ × Unit {0})
waiting_word = map (λ e. (e.0.now, e.1)) WAITING

abbrev pub run_word : List (List ℕ × Unit {0})
run_word = map (λ e. (e.0.now, e.1)) RUN

unfoldable pub event_word_at : List ℕ → Reading EventWord
event_word_at text = word_at event_words_of text

unfoldable pub answer_word_at : List ℕ → Reading AnswerWord
answer_word_at text = word_at answer_words_of text

-- ---- the pieces

-- one byte, which is one of two
unfoldable pub byte_at : ℕ → ℕ → List ℕ → Reading ℕ
byte_at end other [] = Err []
byte_at end other (b ∷ bs) = if is_end end other b then Ok (b, bs) else Err (b ∷ bs)

-- a number of at most nineteen digits, or of nine, and the byte that ends it
unfoldable pub long_at : ℕ → ℕ → List ℕ → Reading (ℕ × ℕ)
long_at end other text = ended_number_at 1000000000000000000 end other text

unfoldable pub short_at : ℕ → ℕ → List ℕ → Reading (ℕ × ℕ)
short_at end other text = ended_number_at 100000000 end other text

-- an object after its `o`
unfoldable pub object_at : ℕ → ℕ → List ℕ → Reading (ObjectId × ℕ)
object_at end other text = long_at end other text >>= λ o. done (object o.0.0, o.0.1) o.1

-- a further object, with its `o`
unfoldable pub marked_object_at : ℕ → ℕ → List ℕ → Reading (ObjectId × ℕ)
marked_object_at end other text = byte_at 111 111 text >>= λ m. object_at end other m.1

-- a section after its `r`
unfoldable pub section_at : ℕ → ℕ → List ℕ → Reading (SectionId × ℕ)
section_at end other text = number_at 46 text >>= λ r. long_at end other r.1 >>= λ o. done (record { reader = r.0; ordinal = o.0.0 }, o.0.1) o.1

abbrev pub found_rest : ℕ → FoundWord → List ℕ → Reading (Option ObjectId × ℕ)
found_rest other found_words.Object text = object_at 10 other text >>= λ o. done (Some o.0.0, o.0.1) o.1
found_rest other found_words.Nothing text = byte_at 10 other text >>= λ e. done (None, e.0) e.1

unfoldable pub found_at : ℕ → List ℕ → Reading (Option ObjectId × ℕ)
found_at other text = word_at found_words_of text >>= λ w. found_rest other w.0 w.1

-- ---- events, after their words

abbrev pub section_event_of : SectionWord → SectionId → Event
section_event_of section_words.Open s = Open s
section_event_of section_words.Close s = Close s

abbrev pub wait_event_of : WaitWord → ℕ → Event
wait_event_of wait_words.Ask n = Ask n
wait_event_of wait_words.Answer n = Answer n
wait_event_of wait_words.Bar n = Bar n
wait_event_of wait_words.Clear n = Clear n

unfoldable pub section_event_at : SectionWord → ℕ → List ℕ → Reading (Event × ℕ)
section_event_at w other text = section_at 10 other text >>= λ s. done (section_event_of w s.0.0, s.0.1) s.1

unfoldable pub first_at : ℕ → List ℕ → Reading (Event × ℕ)
first_at other text =
    section_at 32 32 text >>= λ s. byte_at 99 99 s.1 >>= λ m. number_at 32 m.1 >>= λ c. found_at other c.1 >>= λ f.
    done (First s.0.0 c.0 f.0.0, f.0.1) f.1

unfoldable pub next_at : ℕ → List ℕ → Reading (Event × ℕ)
next_at other text =
    section_at 32 32 text >>= λ s. marked_object_at 32 32 s.1 >>= λ o. found_at other o.1 >>= λ f.
    done (Next s.0.0 o.0.0 f.0.0, f.0.1) f.1

unfoldable pub touch_at : ℕ → List ℕ → Reading (Event × ℕ)
touch_at other text = section_at 32 32 text >>= λ s. marked_object_at 10 other s.1 >>= λ o. done (Touch s.0.0 o.0.0, o.0.1) o.1

abbrev pub reading_event_at : ReadingWord → ℕ → List ℕ → Reading (Event × ℕ)
reading_event_at reading_words.First other text = first_at other text
reading_event_at reading_words.Next other text = next_at other text
reading_event_at reading_words.Touch other text = touch_at other text

unfoldable pub push_at : ℕ → List ℕ → Reading (Event × ℕ)
push_at other text = number_at 32 text >>= λ c. marked_object_at 10 other c.1 >>= λ o. done (Push c.0 o.0.0, o.0.1) o.1

unfoldable pub cut_at : ℕ → List ℕ → Reading (Event × ℕ)
cut_at other text = number_at 32 text >>= λ c. marked_object_at 10 other c.1 >>= λ o. done (Cut c.0 o.0.0, o.0.1) o.1

unfoldable pub replace_at : ℕ → List ℕ → Reading (Event × ℕ)
replace_at other text =
    number_at 32 text >>= λ c. marked_object_at 32 32 c.1 >>= λ o. marked_object_at 10 other o.1 >>= λ n.
    done (Replace c.0 o.0.0 n.0.0, n.0.1) n.1

abbrev pub chain_event_at : ChainWord → ℕ → List ℕ → Reading (Event × ℕ)
chain_event_at chain_words.Push other text = push_at other text
chain_event_at chain_words.Replace other text = replace_at other text
chain_event_at chain_words.Cut other text = cut_at other text

unfoldable pub queue_at : ℕ → List ℕ → Reading (Event × ℕ)
queue_at other text = object_at 32 32 text >>= λ o. byte_at 113 113 o.1 >>= λ m. short_at 10 other m.1 >>= λ q. done (Queue o.0.0 q.0.0, q.0.1) q.1

unfoldable pub retire_at : ℕ → List ℕ → Reading (Event × ℕ)
retire_at other text = object_at 10 other text >>= λ o. done (Retire o.0.0, o.0.1) o.1

unfoldable pub run_at : ℕ → List ℕ → Reading (Event × ℕ)
run_at other text = object_at 10 other text >>= λ o. done (Run o.0.0, o.0.1) o.1

abbrev pub object_event_at : ObjectWord → ℕ → List ℕ → Reading (Event × ℕ)
object_event_at object_words.Retire other text = retire_at other text
object_event_at object_words.Queue other text = queue_at other text
object_event_at object_words.Run other text = run_at other text

unfoldable pub wait_event_at : WaitWord → ℕ → List ℕ → Reading (Event × ℕ)
wait_event_at w other text = long_at 10 other text >>= λ n. done (wait_event_of w n.0.0, n.0.1) n.1

unfoldable pub event_rest : EventWord → ℕ → List ℕ → Reading (Event × ℕ)
event_rest (event_words.Section w) other text = section_event_at w other text
event_rest (event_words.Reading w) other text = reading_event_at w other text
event_rest (event_words.Chain w) other text = chain_event_at w other text
event_rest (event_words.Object w) other text = object_event_at w other text
event_rest (event_words.Wait w) other text = wait_event_at w other text

-- ---- lines

-- the second of two events, which ends the line
unfoldable pub second_at : Event → List ℕ → Reading AnswerLine
second_at first text =
    byte_at 32 32 text >>= λ m. event_word_at m.1 >>= λ w. event_rest w.0 10 w.1 >>= λ e. done (line.Events first (Some e.0.0)) e.1

-- an event ends the line, or a second one is joined to it
unfoldable pub events_at : EventWord → List ℕ → Reading AnswerLine
events_at w text = event_rest w 59 text >>= λ e. if e.0.1 == 10 then done (line.Events e.0.0 None) e.1 else second_at e.0.0 e.1

unfoldable pub end_at : List ℕ → Reading AnswerLine
end_at text =
    long_at 32 32 text >>= λ o. word_at waiting_word o.1 >>= λ m. long_at 32 32 m.1 >>= λ w. word_at run_word w.1 >>= λ k. long_at 10 10 k.1 >>= λ r.
    done (line.End (record { sections = o.0.0; waiting = w.0.0; runs = r.0.0 })) r.1

unfoldable pub refused_at : List ℕ → Reading AnswerLine
refused_at text = long_at 10 10 text >>= λ n. done (line.Refused n.0.0) n.1

-- a line that is a word and no more
abbrev pub whole_line : WholeWord → AnswerLine
whole_line whole_words.Quiet = line.Quiet
whole_line whole_words.Wait = line.Wait
whole_line whole_words.Blocked = line.Blocked
whole_line whole_words.Idle = line.Idle

abbrev pub answer_rest : AnswerWord → List ℕ → Reading AnswerLine
answer_rest (answer_words.Event w) text = events_at w text
answer_rest (answer_words.Whole w) text = done (whole_line w) text
answer_rest answer_words.Refused text = refused_at text
answer_rest answer_words.End text = end_at text

unfoldable pub answer_line_at : List ℕ → Reading AnswerLine
answer_line_at text = answer_word_at text >>= λ w. answer_rest w.0 w.1

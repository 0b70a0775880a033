-- A line is read exactly.
use Rattle.schedule_text.proofs.Cited.{◌≡◌, ℕ, List, [], ◌∷◌, ◌++◌, refl, sym, subst, append_assoc, inl, inr, Err, codes, decimal, append-nil, Line, Reader, Updater, Worker}
use Rattle.schedule_text.specs.Reading.{word_from, word_on}
use Rattle.schedule_text.specs.Grammar.{actor_words, verb_of, line_at}
use Rattle.schedule_text.specs.Spelling.{reader_verb, updater_verb, worker_verb, IsNumber, LineText}
use Rattle.world_state.specs.declared.line.ReaderVerb.TheVariants as reader
use Rattle.world_state.specs.declared.line.UpdaterVerb.TheVariants as updater
use Rattle.world_state.specs.declared.line.WorkerVerb.TheVariants as worker
use Rattle.schedule_text.specs.declared.words.ActorWord.{ActorWord}
use Rattle.schedule_text.specs.declared.words.ActorWord.TheVariants as actors
use Rattle.schedule_text.proofs.Exact.{Reads, Done, Then, reads_as}
use Rattle.schedule_text.proofs.Tables.{InTable}
use Rattle.schedule_text.proofs.Numbers.{NumberText}
use Rattle.schedule_text.proofs.Langs.{Lang, read_then, done_lang, number_lang, table_lang}
use Rattle.schedule_text.proofs.Verbs.{EachRow, ◌&◌, each_row, ReaderText, UpdaterText, WorkerText, reader_verb_reads, updater_verb_reads, worker_verb_reads}

abbrev Said : {V : Type 0} → (V → List ℕ → Type 0) → (V → Line) → Line → List ℕ → Type 0
Said VerbText make = Then VerbText (λ v. Done (make v))

abbrev VerbOf : ActorWord → ℕ → Line → List ℕ → Type 0
VerbOf actors.Reader n = Said ReaderText (Reader n)
VerbOf actors.Updater n = Said UpdaterText (Updater n)
VerbOf actors.Worker n = Said WorkerText (Worker n)

said : {V : Type 0} (VerbText : V → List ℕ → Type 0) (make : V → Line) (v : V) (text : List ℕ) → VerbText v text → Said VerbText make (make v) text
said VerbText make v text h = (v, text, [], h, (refl, refl), sym (append-nil text))

verb_of_lang : (a : ActorWord) (n : ℕ) → Lang (VerbOf a n) (verb_of a n)
verb_of_lang actors.Reader n = read_then _ (record { reads = reader_verb_reads; some = (reader.Lock, codes "lock\n", (tt, refl)) }) (λ v. done_lang (Reader n v))
verb_of_lang actors.Updater n = read_then _ (record { reads = updater_verb_reads; some = (updater.Sync, codes "sync\n", (tt, refl)) }) (λ v. done_lang (Updater n v))
verb_of_lang actors.Worker n = read_then _ (record { reads = worker_verb_reads; some = (worker.GoOn, codes ".\n", refl) }) (λ v. done_lang (Worker n v))

abbrev Acts : ActorWord → Line → List ℕ → Type 0
Acts a = Then (NumberText 32) (VerbOf a)

line_lang : Lang (Then (InTable actor_words) Acts) line_at
unfolding line_at
line_lang = read_then _ (table_lang actor_words refl (actors.Reader, codes "r", inl (refl, refl))) (λ a. read_then _ (number_lang 32 refl) (λ n. verb_of_lang a n))

abbrev actor_row : List ℕ → ActorWord → Type 0
actor_row w a = (l : Line) (u : List ℕ) → Acts a l u → LineText l (w ++ u)

acts_as : {V : Type 0} (VerbText : V → List ℕ → Type 0) (make : ℕ → V → Line) (w : List ℕ) → ((n : ℕ) (v : V) (u : List ℕ) → IsNumber n → VerbText v u → LineText (make n v) (w ++ decimal n ++ 32 ∷ [] ++ u))
    → (l : Line) (u : List ℕ) → Then (NumberText 32) (λ n. Said VerbText (make n)) l u → LineText l (w ++ u)
acts_as VerbText make w h l u s =
    let t = s.4 in
    let is : w ++ u ≡ w ++ decimal s.0 ++ 32 ∷ [] ++ t.1 = rw (s.5, s.3.1, t.5, t.4.1) (simp (append_assoc, append-nil)) in
    let g = h s.0 t.0 t.1 s.3.0 t.3 in
    subst (λ (m : Line). LineText m (w ++ u)) t.4.0 (subst (LineText (make s.0 t.0)) (sym is) g)

actor_rows : EachRow actor_row actor_words
actor_rows =
    acts_as ReaderText Reader (codes "r") (λ n v u h t. ((h, t.0), rw t.1 refl))
    & acts_as UpdaterText Updater (codes "u") (λ n v u h t. ((h, t.0), rw t.1 refl))
    & acts_as WorkerText Worker (codes "w") (λ n v u h t. (h, rw t refl))
    & tt

line_spelled : (l : Line) (text : List ℕ) → Then (InTable actor_words) Acts l text → LineText l text
line_spelled l text s = subst (LineText l) (sym s.5) (each_row actor_row actor_words s.0 s.1 actor_rows s.3 l s.2 s.4)

acting : {V : Type 0} (VerbText : V → List ℕ → Type 0) (make : ℕ → V → Line) (n : ℕ) (v : V) (t : List ℕ) → IsNumber n → VerbText v t → Then (NumberText 32) (λ n. Said VerbText (make n)) (make n v) (decimal n ++ 32 ∷ [] ++ t)
acting VerbText make n v t h s = (n, decimal n ++ 32 ∷ [], t, (h, refl), said VerbText (make n) v t s, refl)

line_unspelled : (l : Line) (text : List ℕ) → LineText l text → Then (InTable actor_words) Acts l text
line_unspelled (Reader n v) text s = (actors.Reader, codes "r", decimal n ++ 32 ∷ [] ++ reader_verb v, inl (refl, refl), acting ReaderText Reader n v (reader_verb v) s.0.0 (s.0.1, refl), s.1)
line_unspelled (Updater n v) text s = (actors.Updater, codes "u", decimal n ++ 32 ∷ [] ++ updater_verb v, inr (inl (refl, refl)), acting UpdaterText Updater n v (updater_verb v) s.0.0 (s.0.1, refl), s.1)
line_unspelled (Worker n v) text s = (actors.Worker, codes "w", decimal n ++ 32 ∷ [] ++ worker_verb v, inr (inr (inl (refl, refl))), acting WorkerText Worker n v (worker_verb v) s.0 refl, s.1)

pub line_reads : Reads LineText line_at
line_reads = reads_as line_lang.reads line_spelled line_unspelled

-- no bytes are a beginning that goes on
pub no_line : line_at [] ≡ Err []
unfolding line_at word_on word_from
no_line = refl

-- The verbs of each actor are read exactly.
use Rattle.schedule_text.proofs.Cited.{◌≡◌, ℕ, List, [], ◌∷◌, ◌++◌, refl, sym, ap, subst, ◌∙◌, append_assoc, inl, inr, codes, decimal, append-nil, ReaderVerb, UpdaterVerb, WorkerVerb}
use Rattle.schedule_text.specs.Grammar.{object, argument_at, reader_words_of, updater_words_of, worker_words, reader_rest, updater_rest, reader_verb_at, updater_verb_at, worker_verb_at}
use Rattle.schedule_text.specs.Spelling.{reader_verb, updater_verb, worker_verb, IsNumber, IsReaderVerb, IsUpdaterVerb}
use Rattle.world_state.specs.declared.line.ReaderVerb.TheVariants as reader
use Rattle.world_state.specs.declared.line.UpdaterVerb.TheVariants as updater
use Rattle.world_state.specs.declared.line.WorkerVerb.TheVariants as worker
use Rattle.schedule_text.specs.declared.words.ReaderWord.{ReaderWord}
use Rattle.schedule_text.specs.declared.words.ReaderWord.TheVariants as reader_words
use Rattle.schedule_text.specs.declared.words.UpdaterWord.{UpdaterWord}
use Rattle.schedule_text.specs.declared.words.UpdaterWord.TheVariants as updater_words
use Rattle.schedule_text.proofs.Exact.{Reads, Done, Then, reads_as}
use Rattle.schedule_text.proofs.Tables.{InTable, table_reads}
use Rattle.schedule_text.proofs.Numbers.{NumberText}
use Rattle.schedule_text.proofs.Langs.{Lang, read_then, done_lang, number_lang, table_lang}

infixr 20 ◌&◌
-- what holds of each row holds of what is in the table
abbrev pub EachRow : {K : Type 0} → (List ℕ → K → Type 0) → List (List ℕ × K) → Type 0
EachRow P [] = Unit {0}
EachRow P (e ∷ es) = P e.0 e.1 × EachRow P es

-- a row, and those after it
abbrev pub ◌&◌ : {A B : Type 0} → A → B → A × B
◌&◌ a b = (a, b)

pub each_row : {K : Type 0} (P : List ℕ → K → Type 0) (table : List (List ℕ × K)) (k : K) (w : List ℕ) → EachRow P table → InTable table k w → P w k
each_row P [] k w h i = absurd i
each_row P (e ∷ es) k w h (inl s) = rw (← s.0, ← s.1) h.0
each_row P (e ∷ es) k w h (inr s) = each_row P es k w h.1 s

-- a number is the argument of a verb
abbrev Argument : {V : Type 0} → (ℕ → V) → V → List ℕ → Type 0
Argument make = Then (NumberText 10) (λ n. Done (make n))

argument_lang : {V : Type 0} (make : ℕ → V) → Lang (Argument make) (argument_at make)
argument_lang make = read_then _ (number_lang 10 refl) (λ n. done_lang (make n))

argument_is : {V : Type 0} (make : ℕ → V) (n : ℕ) → IsNumber n → Argument make (make n) (decimal n ++ 10 ∷ [])
argument_is make n h = (n, decimal n ++ 10 ∷ [], [], (h, refl), (refl, refl), sym (append-nil (decimal n ++ 10 ∷ [])))

-- what is spelled after a word, and the argument that is read after it
after_argument : {V : Type 0} (make : ℕ → V) (IsVerb : V → Type 0) (text : V → List ℕ) (w : List ℕ) → ((n : ℕ) → IsNumber n → IsVerb (make n) × (text (make n) ≡ w ++ decimal n ++ 10 ∷ []))
    → (v : V) (u : List ℕ) → Argument make v u → IsVerb v × (w ++ u ≡ text v)
after_argument make IsVerb text w h v u a =
    let m = h a.0 a.3.0 in
    let is : u ≡ decimal a.0 ++ 10 ∷ [] = a.5 ∙ ap (λ (t : List ℕ). t ++ a.2) a.3.1 ∙ ap (λ (t : List ℕ). (decimal a.0 ++ 10 ∷ []) ++ t) a.4.1 ∙ append-nil (decimal a.0 ++ 10 ∷ []) in
    (subst IsVerb a.4.0 m.0, ap (λ (t : List ℕ). w ++ t) is ∙ sym (append_assoc w (decimal a.0) (10 ∷ [])) ∙ sym m.1 ∙ ap text a.4.0)

-- what is read after a word makes a verb and the rest of its text
abbrev VerbRow : {V W : Type 0} → (W → V → List ℕ → Type 0) → (V → Type 0) → (V → List ℕ) → List ℕ → W → Type 0
VerbRow {V} Rest IsVerb text w k = (v : V) (u : List ℕ) → Rest k v u → IsVerb v × (w ++ u ≡ text v)

whole_word : {V : Type 0} (IsVerb : V → Type 0) (text : V → List ℕ) (verb : V) → IsVerb verb → (v : V) (u : List ℕ) → Done verb v u → IsVerb v × (text verb ++ u ≡ text v)
whole_word IsVerb text verb is v u s = (subst IsVerb s.0 is, rw s.1 (append-nil (text verb)) ∙ ap text s.0)

verb_spelled : {V W : Type 0} (words : List (List ℕ × W)) (Rest : W → V → List ℕ → Type 0) (IsVerb : V → Type 0) (spelling : V → List ℕ) → EachRow (VerbRow Rest IsVerb spelling) words →
    (verb : V) (text : List ℕ) → Then (InTable words) Rest verb text → IsVerb verb × (text ≡ spelling verb)
verb_spelled words Rest IsVerb spelling rows verb text s = let r = each_row (VerbRow Rest IsVerb spelling) words s.0 s.1 rows s.3 verb s.2 s.4 in (r.0, s.5 ∙ r.1)

-- ---- readers

abbrev ReaderRest : ReaderWord → ReaderVerb → List ℕ → Type 0
ReaderRest (reader_words.Whole verb) = Done verb
ReaderRest reader_words.FirstOf = Argument reader.First

reader_rest_lang : (w : ReaderWord) → Lang (ReaderRest w) (reader_rest w)
reader_rest_lang (reader_words.Whole verb) = done_lang verb
reader_rest_lang reader_words.FirstOf = argument_lang reader.First

abbrev pub ReaderText : ReaderVerb → List ℕ → Type 0
ReaderText verb text = IsReaderVerb verb × (text ≡ reader_verb verb)

abbrev reader_row : List ℕ → ReaderWord → Type 0
reader_row = VerbRow ReaderRest IsReaderVerb reader_verb

whole_reader : (verb : ReaderVerb) → IsReaderVerb verb → reader_row (reader_verb verb) (reader_words.Whole verb)
whole_reader verb is v u s = whole_word IsReaderVerb reader_verb verb is v u s

reader_rows : EachRow reader_row reader_words_of
reader_rows =
    whole_reader reader.GoOn tt
    & whole_reader reader.Lock tt
    & whole_reader reader.Unlock tt
    & whole_reader reader.Online tt
    & whole_reader reader.Quiescent tt
    & whole_reader reader.Offline tt
    & after_argument reader.First IsReaderVerb reader_verb (codes "first c") (λ n h. (h, refl))
    & whole_reader reader.Next tt
    & whole_reader reader.Touch tt
    & tt

reader_whole : (verb : ReaderVerb) (text : List ℕ) → InTable reader_words_of (reader_words.Whole verb) (reader_verb verb) → text ≡ reader_verb verb → Then (InTable reader_words_of) ReaderRest verb text
reader_whole verb text i e = (reader_words.Whole verb, reader_verb verb, [], i, (refl, refl), e ∙ sym (append-nil (reader_verb verb)))

reader_unspelled : (verb : ReaderVerb) (text : List ℕ) → ReaderText verb text → Then (InTable reader_words_of) ReaderRest verb text
reader_unspelled reader.Lock text s = reader_whole reader.Lock text (inr (inl (refl, refl))) s.1
reader_unspelled reader.Unlock text s = reader_whole reader.Unlock text (inr (inr (inl (refl, refl)))) s.1
reader_unspelled reader.Online text s = reader_whole reader.Online text (inr (inr (inr (inl (refl, refl))))) s.1
reader_unspelled reader.Quiescent text s = reader_whole reader.Quiescent text (inr (inr (inr (inr (inl (refl, refl)))))) s.1
reader_unspelled reader.Offline text s = reader_whole reader.Offline text (inr (inr (inr (inr (inr (inl (refl, refl))))))) s.1
reader_unspelled (reader.First n) text s = (reader_words.FirstOf, codes "first c", decimal n ++ 10 ∷ [], inr (inr (inr (inr (inr (inr (inl (refl, refl))))))), argument_is reader.First n s.0, s.1)
reader_unspelled reader.Next text s = reader_whole reader.Next text (inr (inr (inr (inr (inr (inr (inr (inl (refl, refl))))))))) s.1
reader_unspelled reader.Touch text s = reader_whole reader.Touch text (inr (inr (inr (inr (inr (inr (inr (inr (inl (refl, refl)))))))))) s.1
reader_unspelled reader.GoOn text s = reader_whole reader.GoOn text (inl (refl, refl)) s.1

pub reader_verb_reads : Reads ReaderText reader_verb_at
unfolding reader_verb_at
reader_verb_reads =
    reads_as (read_then _ (table_lang reader_words_of refl (reader_words.Whole reader.GoOn, codes ".\n", inl (refl, refl))) reader_rest_lang).reads
    (verb_spelled reader_words_of ReaderRest IsReaderVerb reader_verb reader_rows) reader_unspelled

-- ---- updaters

abbrev replace_of : ℕ → UpdaterVerb
replace_of n = updater.Replace (object n)

abbrev cut_of : ℕ → UpdaterVerb
cut_of n = updater.Cut (object n)

abbrev retire_of : ℕ → UpdaterVerb
retire_of n = updater.Retire (object n)

abbrev UpdaterRest : UpdaterWord → UpdaterVerb → List ℕ → Type 0
UpdaterRest (updater_words.Whole verb) = Done verb
UpdaterRest updater_words.PushTo = Argument updater.Push
UpdaterRest updater_words.ReplaceOf = Argument replace_of
UpdaterRest updater_words.CutOf = Argument cut_of
UpdaterRest updater_words.RetireOf = Argument retire_of

updater_rest_lang : (w : UpdaterWord) → Lang (UpdaterRest w) (updater_rest w)
updater_rest_lang (updater_words.Whole verb) = done_lang verb
updater_rest_lang updater_words.PushTo = argument_lang updater.Push
updater_rest_lang updater_words.ReplaceOf = argument_lang replace_of
updater_rest_lang updater_words.CutOf = argument_lang cut_of
updater_rest_lang updater_words.RetireOf = argument_lang retire_of

abbrev pub UpdaterText : UpdaterVerb → List ℕ → Type 0
UpdaterText verb text = IsUpdaterVerb verb × (text ≡ updater_verb verb)

abbrev updater_row : List ℕ → UpdaterWord → Type 0
updater_row = VerbRow UpdaterRest IsUpdaterVerb updater_verb

whole_updater : (verb : UpdaterVerb) → IsUpdaterVerb verb → updater_row (updater_verb verb) (updater_words.Whole verb)
whole_updater verb is v u s = whole_word IsUpdaterVerb updater_verb verb is v u s

updater_rows : EachRow updater_row updater_words_of
updater_rows =
    whole_updater updater.GoOn tt
    & after_argument updater.Push IsUpdaterVerb updater_verb (codes "push c") (λ n h. (h, refl))
    & after_argument replace_of IsUpdaterVerb updater_verb (codes "replace o") (λ n h. (h, refl))
    & after_argument cut_of IsUpdaterVerb updater_verb (codes "cut o") (λ n h. (h, refl))
    & after_argument retire_of IsUpdaterVerb updater_verb (codes "retire o") (λ n h. (h, refl))
    & whole_updater updater.Sync tt
    & whole_updater updater.Start tt
    & whole_updater updater.Poll tt
    & whole_updater updater.Barrier tt
    & tt

updater_whole : (verb : UpdaterVerb) (text : List ℕ) → InTable updater_words_of (updater_words.Whole verb) (updater_verb verb) → text ≡ updater_verb verb → Then (InTable updater_words_of) UpdaterRest verb text
updater_whole verb text i e = (updater_words.Whole verb, updater_verb verb, [], i, (refl, refl), e ∙ sym (append-nil (updater_verb verb)))

updater_unspelled : (verb : UpdaterVerb) (text : List ℕ) → UpdaterText verb text → Then (InTable updater_words_of) UpdaterRest verb text
updater_unspelled (updater.Push n) text s = (updater_words.PushTo, codes "push c", decimal n ++ 10 ∷ [], inr (inl (refl, refl)), argument_is updater.Push n s.0, s.1)
updater_unspelled (updater.Replace o) text s = (updater_words.ReplaceOf, codes "replace o", decimal o.0 ++ 10 ∷ [], inr (inr (inl (refl, refl))), argument_is replace_of o.0 s.0, s.1)
updater_unspelled (updater.Cut o) text s = (updater_words.CutOf, codes "cut o", decimal o.0 ++ 10 ∷ [], inr (inr (inr (inl (refl, refl)))), argument_is cut_of o.0 s.0, s.1)
updater_unspelled (updater.Retire o) text s = (updater_words.RetireOf, codes "retire o", decimal o.0 ++ 10 ∷ [], inr (inr (inr (inr (inl (refl, refl))))), argument_is retire_of o.0 s.0, s.1)
updater_unspelled updater.Sync text s = updater_whole updater.Sync text (inr (inr (inr (inr (inr (inl (refl, refl))))))) s.1
updater_unspelled updater.Start text s = updater_whole updater.Start text (inr (inr (inr (inr (inr (inr (inl (refl, refl)))))))) s.1
updater_unspelled updater.Poll text s = updater_whole updater.Poll text (inr (inr (inr (inr (inr (inr (inr (inl (refl, refl))))))))) s.1
updater_unspelled updater.Barrier text s = updater_whole updater.Barrier text (inr (inr (inr (inr (inr (inr (inr (inr (inl (refl, refl)))))))))) s.1
updater_unspelled updater.GoOn text s = updater_whole updater.GoOn text (inl (refl, refl)) s.1

pub updater_verb_reads : Reads UpdaterText updater_verb_at
unfolding updater_verb_at
updater_verb_reads =
    reads_as (read_then _ (table_lang updater_words_of refl (updater_words.Whole updater.GoOn, codes ".\n", inl (refl, refl))) updater_rest_lang).reads
    (verb_spelled updater_words_of UpdaterRest IsUpdaterVerb updater_verb updater_rows) updater_unspelled

-- ---- workers

abbrev pub WorkerText : WorkerVerb → List ℕ → Type 0
WorkerText verb text = text ≡ worker_verb verb

worker_spelled : (verb : WorkerVerb) (text : List ℕ) → InTable worker_words verb text → WorkerText verb text
worker_spelled verb text i = each_row (λ w v. w ≡ worker_verb v) worker_words verb text (refl, (refl, tt)) i

worker_unspelled : (verb : WorkerVerb) (text : List ℕ) → WorkerText verb text → InTable worker_words verb text
worker_unspelled worker.Take text e = inr (inl (sym e, refl))
worker_unspelled worker.GoOn text e = inl (sym e, refl)

pub worker_verb_reads : Reads WorkerText worker_verb_at
unfolding worker_verb_at
worker_verb_reads = reads_as (table_reads worker_words refl (worker.GoOn, codes ".\n", inl (refl, refl))) worker_spelled worker_unspelled

-- An event and the byte that ends it are read exactly.
use Rattle.schedule_text.proofs.Cited.{arith, ◌≡◌, ℕ, true, List, [], ◌∷◌, ◌++◌, refl, sym, subst, append_assoc, codes, decimal, append-nil, SectionId, Event, Open, Close, First, Next, Touch, Push, Replace, Cut, Retire, Queue, Run, Ask, Answer, Bar, Clear, object_text, found_text, text_of}
use Rattle.schedule_text.specs.Reading.{is_end}
use Rattle.schedule_text.specs.AnswerLines.{IsEvent}
use Rattle.schedule_text.specs.AnswerGrammar.{event_words_of, section_event_of, wait_event_of, section_event_at, first_at, next_at, touch_at, push_at, cut_at, replace_at, queue_at, retire_at, run_at, wait_event_at, event_rest}
use Rattle.schedule_text.specs.declared.answer_words.SectionWord.{SectionWord}
use Rattle.schedule_text.specs.declared.answer_words.SectionWord.TheVariants as section_words
use Rattle.schedule_text.specs.declared.answer_words.ReadingWord.TheVariants as reading_words
use Rattle.schedule_text.specs.declared.answer_words.ChainWord.TheVariants as chain_words
use Rattle.schedule_text.specs.declared.answer_words.ObjectWord.TheVariants as object_words
use Rattle.schedule_text.specs.declared.answer_words.WaitWord.{WaitWord}
use Rattle.schedule_text.specs.declared.answer_words.WaitWord.TheVariants as wait_words
use Rattle.schedule_text.specs.declared.answer_words.EventWord.{EventWord}
use Rattle.schedule_text.specs.declared.answer_words.EventWord.TheVariants as event_words
use Rattle.schedule_text.proofs.Exact.{Done, Then}
use Rattle.schedule_text.proofs.Tables.{InTable}
use Rattle.schedule_text.proofs.Numbers.{NumberText, is_that}
use Rattle.schedule_text.proofs.Langs.{Lang, read_then, done_lang, number_lang}
use Rattle.schedule_text.proofs.Verbs.{EachRow, ◌&◌}
use Rattle.schedule_text.proofs.EventPieces.{Ended, MayEnd, may_end, ByteText, byte_lang, LongText, long_lang, ShortText, short_lang, number_of, ObjectText, object_lang, MarkedText, marked_lang, section_tail, SectionText, section_lang, FoundText, found_lang}

-- ---- the languages after each word

pub space : MayEnd 32 32
space = may_end 32 32 refl refl

abbrev pub EventEnd : Type 0
EventEnd = Event × ℕ

abbrev pub EventRest : ℕ → EventWord → EventEnd → List ℕ → Type 0
EventRest other (event_words.Section w) = Then (SectionText 10 other) (λ s. Done (section_event_of w s.0, s.1))
EventRest other (event_words.Reading reading_words.First) = Then (SectionText 32 32) (λ s. Then (ByteText 99 99) (λ m. Then (NumberText 32) (λ c. Then (FoundText other) (λ f. Done (First s.0 c f.0, f.1)))))
EventRest other (event_words.Reading reading_words.Next) = Then (SectionText 32 32) (λ s. Then (MarkedText 32 32) (λ o. Then (FoundText other) (λ f. Done (Next s.0 o.0 f.0, f.1))))
EventRest other (event_words.Reading reading_words.Touch) = Then (SectionText 32 32) (λ s. Then (MarkedText 10 other) (λ o. Done (Touch s.0 o.0, o.1)))
EventRest other (event_words.Chain chain_words.Push) = Then (NumberText 32) (λ c. Then (MarkedText 10 other) (λ o. Done (Push c o.0, o.1)))
EventRest other (event_words.Chain chain_words.Replace) = Then (NumberText 32) (λ c. Then (MarkedText 32 32) (λ o. Then (MarkedText 10 other) (λ n. Done (Replace c o.0 n.0, n.1))))
EventRest other (event_words.Chain chain_words.Cut) = Then (NumberText 32) (λ c. Then (MarkedText 10 other) (λ o. Done (Cut c o.0, o.1)))
EventRest other (event_words.Object object_words.Retire) = Then (ObjectText 10 other) (λ o. Done (Retire o.0, o.1))
EventRest other (event_words.Object object_words.Queue) = Then (ObjectText 32 32) (λ o. Then (ByteText 113 113) (λ m. Then (ShortText 10 other) (λ q. Done (Queue o.0 q.0, q.1))))
EventRest other (event_words.Object object_words.Run) = Then (ObjectText 10 other) (λ o. Done (Run o.0, o.1))
EventRest other (event_words.Wait w) = Then (LongText 10 other) (λ n. Done (wait_event_of w n.0, n.1))

-- ---- what is read after each word

pub event_rest_lang : (other : ℕ) → MayEnd 10 other → (w : EventWord) → Lang (EventRest other w) (event_rest w other)
unfolding event_rest section_event_at first_at next_at touch_at push_at replace_at cut_at retire_at queue_at run_at wait_event_at
event_rest_lang other may (event_words.Section w) = read_then _ (section_lang 10 other may) (λ s. done_lang _)
event_rest_lang other may (event_words.Reading reading_words.First) =
    read_then _ (section_lang 32 32 space) (λ s. read_then _ (byte_lang 99 99 refl) (λ m. read_then _ (number_lang 32 refl) (λ c. read_then _ (found_lang other may) (λ f. done_lang _))))
event_rest_lang other may (event_words.Reading reading_words.Next) = read_then _ (section_lang 32 32 space) (λ s. read_then _ (marked_lang 32 32 space) (λ o. read_then _ (found_lang other may) (λ f. done_lang _)))
event_rest_lang other may (event_words.Reading reading_words.Touch) = read_then _ (section_lang 32 32 space) (λ s. read_then _ (marked_lang 10 other may) (λ o. done_lang _))
event_rest_lang other may (event_words.Chain chain_words.Push) = read_then _ (number_lang 32 refl) (λ c. read_then _ (marked_lang 10 other may) (λ o. done_lang _))
event_rest_lang other may (event_words.Chain chain_words.Replace) = read_then _ (number_lang 32 refl) (λ c. read_then _ (marked_lang 32 32 space) (λ o. read_then _ (marked_lang 10 other may) (λ n. done_lang _)))
event_rest_lang other may (event_words.Chain chain_words.Cut) = read_then _ (number_lang 32 refl) (λ c. read_then _ (marked_lang 10 other may) (λ o. done_lang _))
event_rest_lang other may (event_words.Object object_words.Retire) = read_then _ (object_lang 10 other may) (λ o. done_lang _)
event_rest_lang other may (event_words.Object object_words.Queue) = read_then _ (object_lang 32 32 space) (λ o. read_then _ (byte_lang 113 113 refl) (λ m. read_then _ (short_lang 10 other may) (λ q. done_lang _)))
event_rest_lang other may (event_words.Object object_words.Run) = read_then _ (object_lang 10 other may) (λ o. done_lang _)
event_rest_lang other may (event_words.Wait w) = read_then _ (long_lang 10 other may) (λ n. done_lang _)

-- how the pieces of a text are bracketed
shape_first : (w r d p n s c k f e : List ℕ) → (w ++ r) ++ (((d ++ p ++ n) ++ s) ++ (c ++ ((k ++ s) ++ (f ++ e)))) ≡ (w ++ (r ++ d ++ p ++ n) ++ s ++ (c ++ k) ++ s ++ f) ++ e
shape_first w r d p n s c k f e = simp append_assoc

shape_next : (w r d p n s o f e : List ℕ) → (w ++ r) ++ (((d ++ p ++ n) ++ s) ++ ((o ++ s) ++ (f ++ e))) ≡ (w ++ (r ++ d ++ p ++ n) ++ s ++ o ++ s ++ f) ++ e
shape_next w r d p n s o f e = simp append_assoc

shape_touch : (w r d p n s o e : List ℕ) → (w ++ r) ++ (((d ++ p ++ n) ++ s) ++ (o ++ e)) ≡ (w ++ (r ++ d ++ p ++ n) ++ s ++ o) ++ e
shape_touch w r d p n s o e = simp append_assoc

shape_chain : (w c k s o e : List ℕ) → (w ++ c) ++ ((k ++ s) ++ (o ++ e)) ≡ (w ++ (c ++ k) ++ s ++ o) ++ e
shape_chain w c k s o e = simp append_assoc

shape_replace : (w c k s o n e : List ℕ) → (w ++ c) ++ ((k ++ s) ++ ((o ++ s) ++ (n ++ e))) ≡ (w ++ (c ++ k) ++ s ++ o ++ s ++ n) ++ e
shape_replace w c k s o n e = simp append_assoc

-- ---- what is read is the event's text

abbrev pub EventText : ℕ → EventEnd → List ℕ → Type 0
EventText = Ended text_of IsEvent 10

abbrev pub EventRow : ℕ → List ℕ → EventWord → Type 0
EventRow other w k = (x : EventEnd) (u : List ℕ) → EventRest other k x u → EventText other x (w ++ u)

section_row : (other : ℕ) (w : SectionWord) (word : List ℕ) → ((s : SectionId) → (text_of (section_event_of w s) ≡ word ++ section_tail s) × (IsEvent (section_event_of w s) ≡ (IsEvent (Open s)))) → EventRow other word (event_words.Section w)
section_row other w word h x u r = grind (arith, append_assoc, append-nil)

wait_row : (other : ℕ) (w : WaitWord) (word : List ℕ) → ((n : ℕ) → (text_of (wait_event_of w n) ≡ word ++ decimal n) × (IsEvent (wait_event_of w n) ≡ (IsEvent (Ask n)))) → EventRow other word (event_words.Wait w)
wait_row other w word h x u r = grind (arith, append_assoc, append-nil)

first_row : (other : ℕ) → EventRow other (codes "first r") (event_words.Reading reading_words.First)
first_row other x u r =
    let m = r.4 in let c = m.4 in let f = c.4 in
    subst (λ (p : EventEnd). EventText other p (codes "first r" ++ u)) f.4.0
    ((r.3.0, c.3.0, f.3.0), f.3.1, rw (r.5, r.3.2, is_that 32 r.0.1 r.3.1, m.5, m.3.1, is_that 99 m.0 m.3.0, c.5, c.3.1, f.5, f.3.2, f.4.1, append-nil (found_text f.0.0 ++ f.0.1 ∷ [])) (shape_first (codes "first ") (codes "r") (decimal r.0.0.reader) (codes ".") (decimal r.0.0.ordinal) (codes " ") (codes "c") (decimal c.0) (found_text f.0.0) (f.0.1 ∷ [])))

next_row : (other : ℕ) → EventRow other (codes "next r") (event_words.Reading reading_words.Next)
next_row other x u r =
    let o = r.4 in let f = o.4 in
    subst (λ (p : EventEnd). EventText other p (codes "next r" ++ u)) f.4.0
    ((r.3.0, o.3.0, f.3.0), f.3.1, rw (r.5, r.3.2, is_that 32 r.0.1 r.3.1, o.5, o.3.2, is_that 32 o.0.1 o.3.1, f.5, f.3.2, f.4.1, append-nil (found_text f.0.0 ++ f.0.1 ∷ [])) (shape_next (codes "next ") (codes "r") (decimal r.0.0.reader) (codes ".") (decimal r.0.0.ordinal) (codes " ") (object_text o.0.0) (found_text f.0.0) (f.0.1 ∷ [])))

touch_row : (other : ℕ) → EventRow other (codes "touch r") (event_words.Reading reading_words.Touch)
touch_row other x u r =
    let o = r.4 in
    subst (λ (p : EventEnd). EventText other p (codes "touch r" ++ u)) o.4.0
    ((r.3.0, o.3.0), o.3.1, rw (r.5, r.3.2, is_that 32 r.0.1 r.3.1, o.5, o.3.2, o.4.1, append-nil (object_text o.0.0 ++ o.0.1 ∷ [])) (shape_touch (codes "touch ") (codes "r") (decimal r.0.0.reader) (codes ".") (decimal r.0.0.ordinal) (codes " ") (object_text o.0.0) (o.0.1 ∷ [])))

push_row : (other : ℕ) → EventRow other (codes "push c") (event_words.Chain chain_words.Push)
push_row other x u r =
    let o = r.4 in
    subst (λ (p : EventEnd). EventText other p (codes "push c" ++ u)) o.4.0
    ((r.3.0, o.3.0), o.3.1, rw (r.5, r.3.1, o.5, o.3.2, o.4.1, append-nil (object_text o.0.0 ++ o.0.1 ∷ [])) (shape_chain (codes "push ") (codes "c") (decimal r.0) (codes " ") (object_text o.0.0) (o.0.1 ∷ [])))

cut_row : (other : ℕ) → EventRow other (codes "cut c") (event_words.Chain chain_words.Cut)
cut_row other x u r =
    let o = r.4 in
    subst (λ (p : EventEnd). EventText other p (codes "cut c" ++ u)) o.4.0
    ((r.3.0, o.3.0), o.3.1, rw (r.5, r.3.1, o.5, o.3.2, o.4.1, append-nil (object_text o.0.0 ++ o.0.1 ∷ [])) (shape_chain (codes "cut ") (codes "c") (decimal r.0) (codes " ") (object_text o.0.0) (o.0.1 ∷ [])))

replace_row : (other : ℕ) → EventRow other (codes "replace c") (event_words.Chain chain_words.Replace)
replace_row other x u r =
    let o = r.4 in let n = o.4 in
    subst (λ (p : EventEnd). EventText other p (codes "replace c" ++ u)) n.4.0
    ((r.3.0, o.3.0, n.3.0), n.3.1, rw (r.5, r.3.1, o.5, o.3.2, is_that 32 o.0.1 o.3.1, n.5, n.3.2, n.4.1, append-nil (object_text n.0.0 ++ n.0.1 ∷ [])) (shape_replace (codes "replace ") (codes "c") (decimal r.0) (codes " ") (object_text o.0.0) (object_text n.0.0) (n.0.1 ∷ [])))

retire_row : (other : ℕ) → EventRow other (codes "retire o") (event_words.Object object_words.Retire)
retire_row other x u r = grind (arith, append_assoc, append-nil)

run_row : (other : ℕ) → EventRow other (codes "run o") (event_words.Object object_words.Run)
run_row other x u r = grind (arith, append_assoc, append-nil)

queue_row : (other : ℕ) → EventRow other (codes "queue o") (event_words.Object object_words.Queue)
queue_row other x u r = grind (arith, is_that, append_assoc, append-nil)

pub event_rows : (other : ℕ) → EachRow (EventRow other) event_words_of
event_rows other =
    section_row other section_words.Open (codes "open r") (λ s. (refl, refl))
    & section_row other section_words.Close (codes "close r") (λ s. (refl, refl))
    & first_row other
    & next_row other
    & touch_row other
    & push_row other
    & replace_row other
    & cut_row other
    & retire_row other
    & queue_row other
    & run_row other
    & wait_row other wait_words.Ask (codes "ask a") (λ n. (refl, refl))
    & wait_row other wait_words.Answer (codes "answer a") (λ n. (refl, refl))
    & wait_row other wait_words.Bar (codes "bar b") (λ n. (refl, refl))
    & wait_row other wait_words.Clear (codes "clear b") (λ n. (refl, refl))
    & tt

-- ---- the event's text is read

-- the word of an event, and what follows it
abbrev pub word_of : Event → EventWord
word_of (Open _) = event_words.Section section_words.Open
word_of (Close _) = event_words.Section section_words.Close
word_of (First _ _ _) = event_words.Reading reading_words.First
word_of (Next _ _ _) = event_words.Reading reading_words.Next
word_of (Touch _ _) = event_words.Reading reading_words.Touch
word_of (Push _ _) = event_words.Chain chain_words.Push
word_of (Replace _ _ _) = event_words.Chain chain_words.Replace
word_of (Cut _ _) = event_words.Chain chain_words.Cut
word_of (Retire _) = event_words.Object object_words.Retire
word_of (Queue _ _) = event_words.Object object_words.Queue
word_of (Run _) = event_words.Object object_words.Run
word_of (Ask _) = event_words.Wait wait_words.Ask
word_of (Answer _) = event_words.Wait wait_words.Answer
word_of (Bar _) = event_words.Wait wait_words.Bar
word_of (Clear _) = event_words.Wait wait_words.Clear

abbrev pub word_text : Event → List ℕ
word_text (Open _) = codes "open r"
word_text (Close _) = codes "close r"
word_text (First _ _ _) = codes "first r"
word_text (Next _ _ _) = codes "next r"
word_text (Touch _ _) = codes "touch r"
word_text (Push _ _) = codes "push c"
word_text (Replace _ _ _) = codes "replace c"
word_text (Cut _ _) = codes "cut c"
word_text (Retire _) = codes "retire o"
word_text (Queue _ _) = codes "queue o"
word_text (Run _) = codes "run o"
word_text (Ask _) = codes "ask a"
word_text (Answer _) = codes "answer a"
word_text (Bar _) = codes "bar b"
word_text (Clear _) = codes "clear b"

pub word_there : (e : Event) → InTable event_words_of (word_of e) (word_text e)
word_there e = grind arith

-- one piece, and nothing after it
last : {A : Type 0} (S : A → List ℕ → Type 0) {Q : A → List ℕ → Type 0} (x : A) (u : List ℕ) → S x u → Q x [] → (y : A) × (front rest : List ℕ) × S y front × Q y rest × (u ≡ front ++ rest)
last S x u s q = (x, u, [], s, q, sym (append-nil u))

pub event_unspelled : (other : ℕ) (e : Event) (b : ℕ) → IsEvent e → is_end 10 other b ≡ true → (u : List ℕ) × EventRest other (word_of e) (e, b) u × (text_of e ++ b ∷ [] ≡ word_text e ++ u)
event_unspelled other (Open s) b is end = (section_tail s ++ b ∷ [], last (SectionText 10 other) (s, b) _ (is, end, refl) (refl, refl), simp append_assoc)
event_unspelled other (Close s) b is end = (section_tail s ++ b ∷ [], last (SectionText 10 other) (s, b) _ (is, end, refl) (refl, refl), simp append_assoc)
event_unspelled other (First s c f) b is end =
    let w = found_text f ++ b ∷ [] in let v = (decimal c ++ 32 ∷ []) ++ w in
    ((section_tail s ++ 32 ∷ []) ++ (99 ∷ v), ((s, 32), section_tail s ++ 32 ∷ [], 99 ∷ v, (is.0, refl, refl), (99, 99 ∷ [], v, (refl, refl), (c, decimal c ++ 32 ∷ [], w, (is.1, refl), last (FoundText other) (f, b) w (is.2, end, refl) (refl, refl), refl), refl), refl), sym (shape_first (codes "first ") (codes "r") (decimal s.reader) (codes ".") (decimal s.ordinal) (codes " ") (codes "c") (decimal c) (found_text f) (b ∷ [])))
event_unspelled other (Next s o f) b is end =
    let w = found_text f ++ b ∷ [] in let v = (object_text o ++ 32 ∷ []) ++ w in
    ((section_tail s ++ 32 ∷ []) ++ v, ((s, 32), section_tail s ++ 32 ∷ [], v, (is.0, refl, refl), ((o, 32), object_text o ++ 32 ∷ [], w, (is.1, refl, refl), last (FoundText other) (f, b) w (is.2, end, refl) (refl, refl), refl), refl), sym (shape_next (codes "next ") (codes "r") (decimal s.reader) (codes ".") (decimal s.ordinal) (codes " ") (object_text o) (found_text f) (b ∷ [])))
event_unspelled other (Touch s o) b is end =
    let w = object_text o ++ b ∷ [] in
    ((section_tail s ++ 32 ∷ []) ++ w, ((s, 32), section_tail s ++ 32 ∷ [], w, (is.0, refl, refl), last (MarkedText 10 other) (o, b) w (is.1, end, refl) (refl, refl), refl), sym (shape_touch (codes "touch ") (codes "r") (decimal s.reader) (codes ".") (decimal s.ordinal) (codes " ") (object_text o) (b ∷ [])))
event_unspelled other (Push c o) b is end =
    let w = object_text o ++ b ∷ [] in
    ((decimal c ++ 32 ∷ []) ++ w, (c, decimal c ++ 32 ∷ [], w, (is.0, refl), last (MarkedText 10 other) (o, b) w (is.1, end, refl) (refl, refl), refl), sym (shape_chain (codes "push ") (codes "c") (decimal c) (codes " ") (object_text o) (b ∷ [])))
event_unspelled other (Replace c old new) b is end =
    let w = object_text new ++ b ∷ [] in let v = (object_text old ++ 32 ∷ []) ++ w in
    ((decimal c ++ 32 ∷ []) ++ v, (c, decimal c ++ 32 ∷ [], v, (is.0, refl), ((old, 32), object_text old ++ 32 ∷ [], w, (is.1, refl, refl), last (MarkedText 10 other) (new, b) w (is.2, end, refl) (refl, refl), refl), refl), sym (shape_replace (codes "replace ") (codes "c") (decimal c) (codes " ") (object_text old) (object_text new) (b ∷ [])))
event_unspelled other (Cut c o) b is end =
    let w = object_text o ++ b ∷ [] in
    ((decimal c ++ 32 ∷ []) ++ w, (c, decimal c ++ 32 ∷ [], w, (is.0, refl), last (MarkedText 10 other) (o, b) w (is.1, end, refl) (refl, refl), refl), sym (shape_chain (codes "cut ") (codes "c") (decimal c) (codes " ") (object_text o) (b ∷ [])))
event_unspelled other (Retire o) b is end = (number_of o ++ b ∷ [], last (ObjectText 10 other) (o, b) _ (is, end, refl) (refl, refl), simp append_assoc)
event_unspelled other (Queue o q) b is end =
    let w = decimal q ++ b ∷ [] in
    ((number_of o ++ 32 ∷ []) ++ (113 ∷ w), ((o, 32), number_of o ++ 32 ∷ [], 113 ∷ w, (is.0, refl, refl), (113, 113 ∷ [], w, (refl, refl), last (ShortText 10 other) (q, b) w (is.1, end, refl) (refl, refl), refl), refl), simp append_assoc)
event_unspelled other (Run o) b is end = (number_of o ++ b ∷ [], last (ObjectText 10 other) (o, b) _ (is, end, refl) (refl, refl), simp append_assoc)
event_unspelled other (Ask n) b is end = (decimal n ++ b ∷ [], last (LongText 10 other) (n, b) _ (is, end, refl) (refl, refl), simp append_assoc)
event_unspelled other (Answer n) b is end = (decimal n ++ b ∷ [], last (LongText 10 other) (n, b) _ (is, end, refl) (refl, refl), simp append_assoc)
event_unspelled other (Bar n) b is end = (decimal n ++ b ∷ [], last (LongText 10 other) (n, b) _ (is, end, refl) (refl, refl), simp append_assoc)
event_unspelled other (Clear n) b is end = (decimal n ++ b ∷ [], last (LongText 10 other) (n, b) _ (is, end, refl) (refl, refl), simp append_assoc)

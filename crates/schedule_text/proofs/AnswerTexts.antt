-- A line of answers is read exactly.
use Rattle.schedule_text.proofs.Cited.{arith, ◌≡◌, ℕ, Bool, true, false, cond, List, [], ◌∷◌, ◌++◌, Some, None, Err, refl, sym, ap, subst, ◌∙◌, append_assoc, inl, inr, codes, ◌==◌, decimal, eqb-true, append-nil, Event, text_of}
use Rattle.schedule_text.specs.declared.answer_line.AnswerLine.{AnswerLine}
use Rattle.schedule_text.specs.declared.answer_line.AnswerLine.TheVariants as line
use Rattle.schedule_text.specs.Reading.{is_end, word_from, word_on}
use Rattle.schedule_text.specs.Grammar.{done}
use Rattle.schedule_text.specs.AnswerLines.{IsEvent, IsAnswerLine, spelled, AnswerLineText}
use Rattle.schedule_text.specs.AnswerGrammar.{event_words_of, answer_words_of, waiting_word, run_word, event_word_at, answer_word_at, second_at, events_at, end_at, refused_at, whole_line, answer_rest, answer_line_at}
use Rattle.schedule_text.specs.declared.answer_words.SectionWord.TheVariants as section_words
use Rattle.schedule_text.specs.declared.answer_words.ReadingWord.TheVariants as reading_words
use Rattle.schedule_text.specs.declared.answer_words.ChainWord.TheVariants as chain_words
use Rattle.schedule_text.specs.declared.answer_words.ObjectWord.TheVariants as object_words
use Rattle.schedule_text.specs.declared.answer_words.WaitWord.TheVariants as wait_words
use Rattle.schedule_text.specs.declared.answer_words.EventWord.{EventWord}
use Rattle.schedule_text.specs.declared.answer_words.EventWord.TheVariants as event_words
use Rattle.schedule_text.specs.declared.answer_words.AnswerWord.{AnswerWord}
use Rattle.schedule_text.specs.declared.answer_words.AnswerWord.TheVariants as answer_words
use Rattle.schedule_text.specs.declared.answer_words.WholeWord.{WholeWord}
use Rattle.schedule_text.specs.declared.answer_words.WholeWord.TheVariants as whole_words
use Rattle.schedule_text.proofs.Exact.{Reads, Done, Then}
use Rattle.schedule_text.proofs.Tables.{InTable}
use Rattle.schedule_text.proofs.Numbers.{is_that}
use Rattle.schedule_text.proofs.Langs.{Lang, read_then, done_lang, table_lang, as_lang}
use Rattle.schedule_text.proofs.Verbs.{EachRow, each_row}
use Rattle.schedule_text.proofs.EventPieces.{MayEnd, may_end, ByteText, byte_lang, LongText, long_lang}
use Rattle.schedule_text.proofs.Events.{space, EventEnd, EventRest, event_rest_lang, EventRow, event_rows, word_of, word_text, word_there, event_unspelled}

-- ---- one event, or two

joined : MayEnd 10 59
joined = may_end 10 59 refl refl

whole : MayEnd 10 10
whole = may_end 10 10 refl refl

abbrev both : Event → EventEnd → AnswerLine
both first e = line.Events first (Some e.0)

abbrev one : Event → AnswerLine
one first = line.Events first None

abbrev SecondText : Event → AnswerLine → List ℕ → Type 0
SecondText first = Then (ByteText 32 32) (λ m. Then (InTable event_words_of) (λ w. Then (EventRest 10 w) (λ e. Done (both first e))))

abbrev AfterFirst : Event → Bool → AnswerLine → List ℕ → Type 0
AfterFirst first true = Done (one first)
AfterFirst first false = SecondText first

abbrev EventsText : EventWord → AnswerLine → List ℕ → Type 0
EventsText w = Then (EventRest 59 w) (λ e. AfterFirst e.0 (e.1 == 10))

event_word_lang : Lang (InTable event_words_of) event_word_at
unfolding event_word_at
event_word_lang = table_lang event_words_of refl (event_words.Section section_words.Open, codes "open r", inl (refl, refl))

second_lang : (first : Event) → Lang (SecondText first) (second_at first)
unfolding second_at
second_lang first = read_then _ (byte_lang 32 32 refl) (λ m. read_then _ event_word_lang (λ w. read_then _ (event_rest_lang 10 whole w) (λ e. done_lang (both first e))))

after_lang : (first : Event) (b : Bool) → Lang (AfterFirst first b) (λ t. cond b (done (one first) t) (second_at first t))
after_lang first true = done_lang (one first)
after_lang first false = second_lang first

events_lang : (w : EventWord) → Lang (EventsText w) (events_at w)
unfolding events_at
events_lang w = read_then _ (event_rest_lang 59 joined w) (λ e. after_lang e.0 (e.1 == 10))

-- ---- the end line, and refusals

abbrev counted : ℕ × ℕ → ℕ × ℕ → ℕ × ℕ → AnswerLine
counted o w r = line.End (record { sections = o.0; waiting = w.0; runs = r.0 })

abbrev RunsText : ℕ × ℕ → ℕ × ℕ → AnswerLine → List ℕ → Type 0
RunsText o w = Then (InTable run_word) (λ k. Then (LongText 10 10) (λ r. Done (counted o w r)))

abbrev EndText : AnswerLine → List ℕ → Type 0
EndText = Then (LongText 32 32) (λ o. Then (InTable waiting_word) (λ m. Then (LongText 32 32) (λ w. RunsText o w)))

end_lang : Lang EndText end_at
unfolding end_at
end_lang =
    read_then _ (long_lang 32 32 space) (λ o. read_then _ (table_lang waiting_word refl (tt, codes "waiting=", inl (refl, refl))) (λ m. read_then _ (long_lang 32 32 space) (λ w.
    read_then _ (table_lang run_word refl (tt, codes "run=", inl (refl, refl))) (λ k. read_then _ (long_lang 10 10 whole) (λ r. done_lang (counted o w r))))))

abbrev refusal : ℕ × ℕ → AnswerLine
refusal n = line.Refused n.0

refused_lang : Lang (Then (LongText 10 10) (λ n. Done (refusal n))) refused_at
unfolding refused_at
refused_lang = read_then _ (long_lang 10 10 whole) (λ n. done_lang (refusal n))

-- ---- lines

abbrev AnswerRest : AnswerWord → AnswerLine → List ℕ → Type 0
AnswerRest (answer_words.Event w) = EventsText w
AnswerRest (answer_words.Whole w) = Done (whole_line w)
AnswerRest answer_words.Refused = Then (LongText 10 10) (λ n. Done (refusal n))
AnswerRest answer_words.End = EndText

answer_rest_lang : (w : AnswerWord) → Lang (AnswerRest w) (answer_rest w)
answer_rest_lang (answer_words.Event w) = events_lang w
answer_rest_lang (answer_words.Whole w) = done_lang (whole_line w)
answer_rest_lang answer_words.Refused = refused_lang
answer_rest_lang answer_words.End = end_lang

abbrev answer_row : List ℕ → AnswerWord → Type 0
answer_row w k = (l : AnswerLine) (u : List ℕ) → AnswerRest k l u → AnswerLineText l (w ++ u)

shape_two : (t e s v f : List ℕ) → (t ++ e) ++ (s ++ (v ++ f)) ≡ t ++ (e ++ s) ++ v ++ f
shape_two t e s v f = simp append_assoc

-- what the first event leaves to be read
after_first : (first : EventEnd) (b : Bool) (l : AnswerLine) (rest : List ℕ) → (first.1 == 10) ≡ b → IsEvent first.0 → is_end 10 59 first.1 ≡ true → AfterFirst first.0 b l rest → AnswerLineText l ((text_of first.0 ++ first.1 ∷ []) ++ rest)
after_first first true l rest e is end a =
    subst (λ (k : AnswerLine). AnswerLineText k ((text_of first.0 ++ first.1 ∷ []) ++ rest)) a.0
    ((is, tt), rw (a.1, append-nil (text_of first.0 ++ first.1 ∷ [])) (ap (λ (n : ℕ). text_of first.0 ++ n ∷ []) (eqb-true first.1 10 e)))
after_first first false l rest e is end a =
    let w = a.4 in let x = w.4 in
    let t = each_row (EventRow 10) event_words_of w.0 w.1 (event_rows 10) w.3 x.0 x.1 x.3 in
    let semicolon : first.1 ≡ 59 = eqb-true first.1 59 (grind (arith, end, e)) in
    let written : w.1 ++ x.1 ≡ text_of x.0.0 ++ codes "\n" = t.2 ∙ ap (λ (n : ℕ). text_of x.0.0 ++ n ∷ []) (is_that 10 x.0.1 t.1) in
    subst (λ (k : AnswerLine). AnswerLineText k ((text_of first.0 ++ first.1 ∷ []) ++ rest)) x.4.0
    ((is, t.0), rw (a.5, a.3.1, is_that 32 a.0 a.3.0, w.5, x.5, x.4.1, append-nil x.1, written, semicolon) (shape_two (text_of first.0) (59 ∷ []) (32 ∷ []) (text_of x.0.0) (codes "\n")))

event_line_row : (w : List ℕ) (k : EventWord) → InTable event_words_of k w → answer_row w (answer_words.Event k)
event_line_row w k i l u s = grind (arith, each_row, event_rows, append_assoc, after_first)

whole_row : (w : WholeWord) → IsAnswerLine (whole_line w) → answer_row (spelled (whole_line w)) (answer_words.Whole w)
whole_row w is m u s = (subst IsAnswerLine s.0 is, rw s.1 (append-nil (spelled (whole_line w))) ∙ ap spelled s.0)

refused_row : answer_row (codes "refused E") answer_words.Refused
refused_row l u s = grind (arith, append-nil, is_that, append_assoc)

shape_end : (e o s m w r k n : List ℕ) → e ++ ((o ++ s) ++ (m ++ ((w ++ s) ++ (r ++ (k ++ n))))) ≡ e ++ o ++ (s ++ m) ++ w ++ (s ++ r) ++ k ++ n
shape_end e o s m w r k n = simp append_assoc

mark_is : (x : Unit {0}) (w v : List ℕ) → InTable ((v, tt) ∷ []) x w → w ≡ v
mark_is x w v i = each_row (λ u k. u ≡ v) ((v, tt) ∷ []) x w (refl, tt) i

end_row : answer_row (codes "end open=") answer_words.End
end_row l u s =
    let m = s.4 in let w = m.4 in let k = w.4 in let r = k.4 in
    subst (λ (k : AnswerLine). AnswerLineText k (codes "end open=" ++ u)) r.4.0 (
      (s.3.0, w.3.0, r.3.0),
      rw (s.5, s.3.2, is_that 32 s.0.1 s.3.1, m.5, mark_is m.0 m.1 (codes "waiting=") m.3, w.5, w.3.2, is_that 32 w.0.1 w.3.1, k.5, mark_is k.0 k.1 (codes "run=") k.3, r.5, r.4.1, append-nil r.1, r.3.2, is_that 10 r.0.1 r.3.1)
          (shape_end (codes "end open=") (decimal s.0.0) (codes " ") (codes "waiting=") (decimal w.0.0) (codes "run=") (decimal r.0.0) (codes "\n")),
    )

answer_rows : EachRow answer_row answer_words_of
answer_rows = (whole_row whole_words.Quiet tt, (event_line_row (codes "open r") (event_words.Section section_words.Open) (inl (refl, refl)), (event_line_row (codes "close r") (event_words.Section section_words.Close) (inr (inl (refl, refl))), (event_line_row (codes "first r") (event_words.Reading reading_words.First) (inr (inr (inl (refl, refl)))), (event_line_row (codes "next r") (event_words.Reading reading_words.Next) (inr (inr (inr (inl (refl, refl))))), (event_line_row (codes "touch r") (event_words.Reading reading_words.Touch) (inr (inr (inr (inr (inl (refl, refl)))))), (event_line_row (codes "push c") (event_words.Chain chain_words.Push) (inr (inr (inr (inr (inr (inl (refl, refl))))))), (event_line_row (codes "replace c") (event_words.Chain chain_words.Replace) (inr (inr (inr (inr (inr (inr (inl (refl, refl)))))))), (event_line_row (codes "cut c") (event_words.Chain chain_words.Cut) (inr (inr (inr (inr (inr (inr (inr (inl (refl, refl))))))))), (event_line_row (codes "retire o") (event_words.Object object_words.Retire) (inr (inr (inr (inr (inr (inr (inr (inr (inl (refl, refl)))))))))), (event_line_row (codes "queue o") (event_words.Object object_words.Queue) (inr (inr (inr (inr (inr (inr (inr (inr (inr (inl (refl, refl))))))))))), (event_line_row (codes "run o") (event_words.Object object_words.Run) (inr (inr (inr (inr (inr (inr (inr (inr (inr (inr (inl (refl, refl)))))))))))), (event_line_row (codes "ask a") (event_words.Wait wait_words.Ask) (inr (inr (inr (inr (inr (inr (inr (inr (inr (inr (inr (inl (refl, refl))))))))))))), (event_line_row (codes "answer a") (event_words.Wait wait_words.Answer) (inr (inr (inr (inr (inr (inr (inr (inr (inr (inr (inr (inr (inl (refl, refl)))))))))))))), (event_line_row (codes "bar b") (event_words.Wait wait_words.Bar) (inr (inr (inr (inr (inr (inr (inr (inr (inr (inr (inr (inr (inr (inl (refl, refl))))))))))))))), (event_line_row (codes "clear b") (event_words.Wait wait_words.Clear) (inr (inr (inr (inr (inr (inr (inr (inr (inr (inr (inr (inr (inr (inr (inl (refl, refl)))))))))))))))), (whole_row whole_words.Wait tt, (whole_row whole_words.Blocked tt, (whole_row whole_words.Idle tt, (refused_row, (end_row, tt)))))))))))))))))))))

line_spelled : (l : AnswerLine) (text : List ℕ) → Then (InTable answer_words_of) AnswerRest l text → AnswerLineText l text
line_spelled l text s = subst (AnswerLineText l) (sym s.5) (each_row answer_row answer_words_of s.0 s.1 answer_rows s.3 l s.2 s.4)

event_there : (e : Event) → InTable answer_words_of (answer_words.Event (word_of e)) (word_text e)
event_there e = grind arith

line_unspelled : (l : AnswerLine) (text : List ℕ) → AnswerLineText l text → Then (InTable answer_words_of) AnswerRest l text
line_unspelled (line.Events first None) text s =
    let f = event_unspelled 59 first 10 s.0.0 refl in
    (answer_words.Event (word_of first), word_text first, f.0, event_there first, ((first, 10), f.0, [], f.1, (refl, refl), sym (append-nil f.0)), s.1 ∙ f.2)
line_unspelled (line.Events first (Some second)) text s =
    let f = event_unspelled 59 first 59 s.0.0 refl in
    let g = event_unspelled 10 second 10 s.0.1 refl in
    let rest = 32 ∷ (word_text second ++ g.0) in
    let two : SecondText first (line.Events first (Some second)) rest = (32, 32 ∷ [], word_text second ++ g.0, (refl, refl), (word_of second, word_text second, g.0, word_there second, ((second, 10), g.0, [], g.1, (refl, refl), sym (append-nil g.0)), refl), refl) in
    let same = s.1 ∙ sym (shape_two (text_of first) (59 ∷ []) (32 ∷ []) (text_of second) (10 ∷ [])) ∙ rw (g.2, f.2) (append_assoc (word_text first) f.0 rest) in
    (answer_words.Event (word_of first), word_text first, f.0 ++ rest, event_there first, ((first, 59), f.0, rest, f.1, two, refl), same)
line_unspelled line.Quiet text s = (answer_words.Whole whole_words.Quiet, codes ".\n", [], inl (refl, refl), (refl, refl), s.1)
line_unspelled line.Wait text s = (answer_words.Whole whole_words.Wait, codes "wait\n", [], inr (inr (inr (inr (inr (inr (inr (inr (inr (inr (inr (inr (inr (inr (inr (inr (inl (refl, refl))))))))))))))))), (refl, refl), s.1)
line_unspelled line.Blocked text s = (answer_words.Whole whole_words.Blocked, codes "blocked\n", [], inr (inr (inr (inr (inr (inr (inr (inr (inr (inr (inr (inr (inr (inr (inr (inr (inr (inl (refl, refl)))))))))))))))))), (refl, refl), s.1)
line_unspelled line.Idle text s = (answer_words.Whole whole_words.Idle, codes "idle\n", [], inr (inr (inr (inr (inr (inr (inr (inr (inr (inr (inr (inr (inr (inr (inr (inr (inr (inr (inl (refl, refl))))))))))))))))))), (refl, refl), s.1)
line_unspelled (line.Refused n) text s =
    let rest = decimal n ++ 10 ∷ [] in
    (answer_words.Refused, codes "refused E", rest, inr (inr (inr (inr (inr (inr (inr (inr (inr (inr (inr (inr (inr (inr (inr (inr (inr (inr (inr (inl (refl, refl)))))))))))))))))))), ((n, 10), rest, [], (s.0, refl, refl), (refl, refl), sym (append-nil rest)), s.1 ∙ append_assoc (codes "refused E") (decimal n) (10 ∷ []))
line_unspelled (line.End c) text s =
    let r = decimal c.runs ++ 10 ∷ [] in
    let k = codes "run=" ++ r in
    let w = (decimal c.waiting ++ 32 ∷ []) ++ k in
    let m = codes "waiting=" ++ w in
    let o = (decimal c.sections ++ 32 ∷ []) ++ m in
    let runs : RunsText (c.sections, 32) (c.waiting, 32) (line.End c) k = (tt, codes "run=", r, inl (refl, refl), ((c.runs, 10), r, [], (s.0.2, refl, refl), (refl, refl), sym (append-nil r)), refl) in
    let waiting : Then (LongText 32 32) (λ w. RunsText (c.sections, 32) w) (line.End c) w = ((c.waiting, 32), decimal c.waiting ++ 32 ∷ [], k, (s.0.1, refl, refl), runs, refl) in
    let all : EndText (line.End c) o = ((c.sections, 32), decimal c.sections ++ 32 ∷ [], m, (s.0.0, refl, refl), (tt, codes "waiting=", w, inl (refl, refl), waiting, refl), refl) in
    let same = s.1 ∙ sym (shape_end (codes "end open=") (decimal c.sections) (codes " ") (codes "waiting=") (decimal c.waiting) (codes "run=") (decimal c.runs) (codes "\n")) in
    (answer_words.End, codes "end open=", o, grind arith, all, same)

answer_word_lang : Lang (InTable answer_words_of) answer_word_at
unfolding answer_word_at
answer_word_lang = table_lang answer_words_of refl (answer_words.Refused, codes "refused E", inr (inr (inr (inr (inr (inr (inr (inr (inr (inr (inr (inr (inr (inr (inr (inr (inr (inr (inr (inl (refl, refl)))))))))))))))))))))

pub answer_reads : Reads AnswerLineText answer_line_at
unfolding answer_line_at
answer_reads = (as_lang (read_then _ answer_word_lang answer_rest_lang) line_spelled line_unspelled).reads

-- no bytes are a beginning that goes on
pub no_answer : answer_line_at [] ≡ Err []
unfolding answer_line_at answer_word_at word_on word_from
no_answer = refl

-- Lines of answers, as their pieces come.
use Rattle.schedule_text.proofs.Cited.{◌≡◌, ℕ, ◌+◌, ◌-◌, ◌<◌, ◌^◌, min, List, [], ◌∷◌, ◌++◌, length, Ok, Err, refl, sym, ap, subst, ◌∙◌, append_assoc, arith, append-nil, length-append, Event}
use Rattle.schedule_text.specs.declared.answer_line.AnswerLine.{AnswerLine}
use Rattle.schedule_text.specs.declared.answer_pieces.AnswerReader.{AnswerReader}
use Rattle.schedule_text.specs.declared.fault.AnswersFault.{AnswersFault}
use Rattle.schedule_text.specs.declared.fault.AnswersFault.TheVariants.{BadText, Memory}
use Rattle.schedule_text.specs.AnswerLines.{AnswerLineText, IsAnswerText, told_by, TellsLog, BreaksOffAnswers, IsNoAnswers}
use Rattle.schedule_text.specs.AnswerPieces.{ReadSoFar, StopsAnswers, ReadsOn, Takes}
use Rattle.schedule_text.specs.AnswerGrammar.{answer_line_at}
use Rattle.schedule_text.specs.Fault.{IsPartial}
use Rattle.schedule_text.proofs.More.{reads_partial, partial_reads, err_more}
use Rattle.schedule_text.proofs.Columns.{bad_within}
use Rattle.schedule_text.proofs.AnswerTexts.{answer_reads}
use Rattle.schedule_text.proofs.AnswerLogs.{read_more, breaks_off, broken_tells_none}

-- one line more, after a log of earlier ones
pub goes_on : (all rest after : List ℕ) (earlier before log : List Event) (at next : ℕ) (l : AnswerLine) → ReadSoFar all rest (earlier ++ before) at → answer_line_at rest ≡ Ok (l, after) → log ≡ before ++ told_by l → next ≡ min (at + 1) (2 ^ 64 - 1) → ReadSoFar all after (earlier ++ log) next
goes_on all rest after earlier before log at next l r e told n =
    subst (λ (es : List Event). ReadSoFar all after es next) (append_assoc earlier before (told_by l) ∙ ap (λ (es : List Event). earlier ++ es) (sym told)) (read_more all rest after (earlier ++ before) at next l r e n)

-- more text
pub more_text : (text rest piece : List ℕ) (log : List Event) (at : ℕ) → ReadSoFar text rest log at → ReadSoFar (text ++ piece) (rest ++ piece) log at
more_text text rest piece log at r = record {
  lines = r.lines;
  each = r.each;
  parts = ap (λ (t : List ℕ). t ++ piece) r.parts ∙ append_assoc _ rest piece;
  events = r.events;
  number = r.number;
}

pub goes_on_to_a_line : (rest : List ℕ) → answer_line_at rest ≡ Err [] → IsPartial IsAnswerText rest
goes_on_to_a_line rest e = reads_partial AnswerLineText answer_line_at answer_reads rest e

pub goes_on_at : (rest bad : List ℕ) → answer_line_at rest ≡ Err bad → length bad ≡ 0 → IsPartial IsAnswerText rest
goes_on_at rest [] e nil = goes_on_to_a_line rest e
goes_on_at rest (b ∷ bs) e nil = absurd (omega arith)

-- a bad byte
pub stops : (all rest : List ℕ) (log : List Event) (at column b : ℕ) (bs : List ℕ) → ReadSoFar all rest log at → answer_line_at rest ≡ Err (b ∷ bs) → column + length (b ∷ bs) ≡ length rest + 1 → StopsAnswers all log at column
stops all rest log at column b bs r e place = record {
  rest = rest;
  read = r;
  breaks = λ more.
      breaks_off (all ++ more) (rest ++ more) (b ∷ (bs ++ more)) log at column (more_text all rest more log at r) (long more) (err_more AnswerLineText answer_line_at answer_reads rest b bs more e) (omega (arith, place, length-append rest more, length-append bs more));
}
  where
    long : (more : List ℕ) → 0 < length (rest ++ more)
    long more = omega (arith, bad_within AnswerLineText answer_line_at answer_reads rest (b ∷ bs) e, length-append rest more)

pub stops_at : (all rest bad : List ℕ) (log : List Event) (at column : ℕ) → ReadSoFar all rest log at → answer_line_at rest ≡ Err bad → 0 < length bad → column + length bad ≡ length rest + 1 → StopsAnswers all log at column
stops_at all rest [] log at column r e some place = absurd (omega arith)
stops_at all rest (b ∷ bs) log at column r e some place = stops all rest log at column b bs r e place

-- the end of the input
pub ends : (fed held : List ℕ) (log : List Event) (at : ℕ) → ReadSoFar fed held log at → IsPartial IsAnswerText held → 0 < length held → BreaksOffAnswers fed at (length held + 1)
ends fed held log at r p some = breaks_off fed held [] log at (length held + 1) r some (partial_reads AnswerLineText answer_line_at answer_reads held p) (omega arith)

-- a line that does not go on
pub takes_stop : (reader : AnswerReader) (all : List ℕ) (log : List Event) (at : ℕ) (fault : AnswersFault) → ReadsOn all log at (Err fault) → Takes reader all log (Err fault)
takes_stop reader all log at (BadText line column) r = r
takes_stop reader all log at Memory r = r

-- a whole text
pub stops_whole : (all : List ℕ) (log : List Event) (at column : ℕ) → StopsAnswers all log at column → BreaksOffAnswers all at column
stops_whole all log at column s = subst (λ (t : List ℕ). BreaksOffAnswers t at column) (append-nil all) (s.breaks [])

pub no_answers : (text : List ℕ) (log : List Event) (at : ℕ) (fault : AnswersFault) → ReadsOn text log at (Err fault) → IsNoAnswers text fault
no_answers text log at (BadText line column) r = stops_whole text log line column r
no_answers text log at Memory r = tt

pub only_memory : (text : List ℕ) (log : List Event) (at : ℕ) (fault : AnswersFault) → ReadsOn text log at (Err fault) → (other : List Event) → TellsLog text other → fault ≡ Memory
only_memory text log at (BadText line column) r other t = absurd (broken_tells_none text line column other (stops_whole text log line column r) t)
only_memory text log at Memory r other t = refl

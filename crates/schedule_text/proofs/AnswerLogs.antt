-- Lines of answers, one after the other, and the log that they tell.
use Rattle.schedule_text.proofs.Cited.{◌≡◌, ℕ, ◌+◌, ◌-◌, ◌<◌, ◌^◌, min, List, [], ◌∷◌, ◌++◌, length, Ok, Err, refl, sym, ap, subst, ◌∙◌, append_assoc, arith, All, flat_map, append-nil, flat_map_more, length-append, All-nil, All-push, All-head, All-tail, Event}
use Rattle.schedule_text.specs.declared.answer_line.AnswerLine.{AnswerLine}
use Rattle.schedule_text.specs.AnswerLines.{IsAnswerLine, spelled, AnswerLineText, told_by, TellsLog, BreaksOffAnswers}
use Rattle.schedule_text.specs.AnswerPieces.{ReadSoFar}
use Rattle.schedule_text.specs.AnswerGrammar.{answer_line_at}
use Rattle.schedule_text.proofs.Exact.{ok_is, not_both}
use Rattle.schedule_text.proofs.More.{bad_at}
use Rattle.schedule_text.proofs.AnswerTexts.{answer_reads, no_answer}

pub none_read : (text : List ℕ) → ReadSoFar text text [] 1
none_read text = record { lines = []; each = All-nil IsAnswerLine; parts = refl; events = refl; number = omega arith }

pub read_more : (text rest after : List ℕ) (log : List Event) (at next : ℕ) (l : AnswerLine) → ReadSoFar text rest log at → answer_line_at rest ≡ Ok (l, after) → next ≡ min (at + 1) (2 ^ 64 - 1) → ReadSoFar text after (log ++ told_by l) next
read_more text rest after log at next l r e n =
    let f = answer_reads.found rest l after e in record {
      lines = r.lines ++ l ∷ [];
      each = All-push IsAnswerLine r.lines l r.each f.spelled.0;
      parts = r.parts ∙ ap (λ (t : List ℕ). flat_map spelled r.lines ++ t) (f.parts ∙ ap (λ (t : List ℕ). t ++ after) f.spelled.1) ∙ sym (append_assoc (flat_map spelled r.lines) (spelled l) after) ∙ ap (λ (t : List ℕ). t ++ after) (flat_map_more spelled [] r.lines l);
      events = ap (λ (es : List Event). es ++ told_by l) r.events ∙ flat_map_more told_by [] r.lines l;
      number = omega (arith, n, r.number, length-append r.lines (l ∷ []));
    }

pub read_all : (text : List ℕ) (log : List Event) (at : ℕ) (rest : List ℕ) → ReadSoFar text rest log at → length rest ≡ 0 → TellsLog text log
read_all text log at [] r e = record { lines = r.lines; each = r.each; parts = r.parts ∙ append-nil (flat_map spelled r.lines); events = r.events }
read_all text log at (b ∷ rest) r e = absurd (omega arith)

pub breaks_off : (text rest bad : List ℕ) (log : List Event) (at column : ℕ) → ReadSoFar text rest log at → 0 < length rest → answer_line_at rest ≡ Err bad → column + length bad ≡ length rest + 1 → BreaksOffAnswers text at column
breaks_off text rest bad log at column r some e place = record {
  lines = r.lines;
  each = r.each;
  rest = rest;
  some = some;
  parts = r.parts;
  bad = bad_at AnswerLineText answer_line_at answer_reads rest bad column e place;
  number = r.number;
}

-- ---- a text tells one log at most

some_text : (l : AnswerLine) → IsAnswerLine l → spelled l ≡ [] → ⊥
some_text l is e =
    not_both (answer_line_at []) (l, []) [] (subst (λ (t : List ℕ). answer_line_at t ≡ Ok (l, [])) (append-nil (spelled l) ∙ e) (answer_reads.again l (spelled l) [] (is, refl))) no_answer

front_nil : (u v : List ℕ) → [] ≡ u ++ v → u ≡ []
front_nil [] v e = refl
front_nil (b ∷ u) v e = absurd cc

-- the lines of a text that goes on with what is no line are the first ones of any that it is
same_front : (ls ms : List AnswerLine) (rest : List ℕ) → All IsAnswerLine ls → All IsAnswerLine ms → flat_map spelled ls ++ rest ≡ flat_map spelled ms → ((l : AnswerLine) (more : List ℕ) → IsAnswerLine l → rest ≡ spelled l ++ more → ⊥) → (ls ≡ ms) × (rest ≡ [])
same_front [] [] rest p q e none = (refl, e)
same_front [] (m ∷ ms) rest p q e none = absurd (none m (flat_map spelled ms) (All-head IsAnswerLine m ms q) e)
same_front (l ∷ ls) [] rest p q e none = absurd (some_text l (All-head IsAnswerLine l ls p) (front_nil (spelled l) (flat_map spelled ls ++ rest) (sym e ∙ append_assoc (spelled l) (flat_map spelled ls) rest)))
same_front (l ∷ ls) (m ∷ ms) rest p q e none =
    let is = All-head IsAnswerLine l ls p in
    let its = All-head IsAnswerLine m ms q in
    let one = answer_reads.again l (spelled l) (flat_map spelled ls ++ rest) (is, refl) in
    let two = answer_reads.again m (spelled m) (flat_map spelled ms) (its, refl) in
    let same = ok_is (l, flat_map spelled ls ++ rest) (m, flat_map spelled ms) (sym one ∙ ap answer_line_at (sym (append_assoc (spelled l) (flat_map spelled ls) rest) ∙ e) ∙ two) in
    let more = same_front ls ms rest (All-tail IsAnswerLine l ls p) (All-tail IsAnswerLine m ms q) (ap (λ (p : AnswerLine × List ℕ). p.1) same) none in
    (rw (ap (λ (p : AnswerLine × List ℕ). p.0) same, more.0) refl, more.1)

nothing_more : (rest : List ℕ) → rest ≡ [] → (l : AnswerLine) (more : List ℕ) → IsAnswerLine l → rest ≡ spelled l ++ more → ⊥
nothing_more rest nil l more is e = some_text l is (front_nil (spelled l) more (sym nil ∙ e))

pub tells_once : (text : List ℕ) (log other : List Event) → TellsLog text log → TellsLog text other → log ≡ other
tells_once text log other t u =
    let s = same_front t.lines u.lines [] t.each u.each (append-nil (flat_map spelled t.lines) ∙ sym t.parts ∙ u.parts) (nothing_more [] refl) in
    t.events ∙ ap (flat_map told_by) s.0 ∙ sym u.events

pub broken_tells_none : (text : List ℕ) (at column : ℕ) (log : List Event) → BreaksOffAnswers text at column → TellsLog text log → ⊥
broken_tells_none text at column log b t =
    let s = same_front b.lines t.lines b.rest b.each t.each (sym b.parts ∙ t.parts) (λ l more is e. b.bad.none (spelled l) more (l, (is, refl)) e) in
    omega (arith, b.some, ap length s.1)

-- From line to line of a script.
use Rattle.calls.proofs.Cited.{◌≡◌, ℕ, ◌+◌, ◌-◌, ◌^◌, ◌<◌, List, [], ◌∷◌, ◌++◌, length, Option, Result, Ok, Err, refl, sym, ap, subst, ◌∙◌, append_assoc, inl, inr, arith, min, Appends, length_push, flat_map_more, All-nil, All-push, ReplayFault, Write, line_after, bad_byte, bad_end, Writes, appends_none, appends_more, Answer, Call, answer_line, call_at, IsCall, IsCallText, CallText, calls_text, spelling, call_reads, IsBad}
use Rattle.calls.specs.Script.{Answered, AnswersUpTo, BreaksOff, AnswersLines, Answering, WritesPiece, StopsAt}

-- nothing was answered yet
pub answering_none : (text : List ℕ) (now : Option (List ℕ)) → Answering text text 2 now now []
answering_none text now = record {
  written = [];
  writes = appends_none now;
  answered = record { calls = []; answers = []; each = All-nil IsCall; whole = refl; many = refl; lines = refl; number = refl };
}

-- one line more
pub answering_more : (text rest after : List ℕ) (line next : ℕ) (before now : Option (List ℕ)) (out more : List ℕ) (call : Call) (answer : Answer) → Answering text rest line before now out → call_at rest ≡ Ok (call, after) → next ≡ min (line + 1) (2 ^ 64 - 1) → more ≡ out ++ answer_line answer → Answering text after next before now more
answering_more text rest after line next before now out more call answer a read number appended =
    let f = call_reads.found rest call after read in
    let b = a.answered in
    let e : min (line_after (length b.calls) + 1) (2 ^ 64 - 1) ≡ line_after (length b.calls + 1) = omega arith in
    record {
      written = a.written;
      writes = a.writes;
      answered = record {
        calls = b.calls ++ call ∷ [];
        answers = b.answers ++ answer ∷ [];
        each = All-push IsCall b.calls call b.each f.spelled.0;
        whole = b.whole ∙ ap (λ (t : List ℕ). calls_text b.calls ++ t) (f.parts ∙ ap (λ (t : List ℕ). t ++ after) f.spelled.1) ∙ sym (append_assoc (calls_text b.calls) (spelling call) after)
            ∙ ap (λ (t : List ℕ). t ++ after) (flat_map_more spelling [] b.calls call);
        many = length_push b.answers answer ∙ ap (λ (n : ℕ). n + 1) b.many ∙ sym (length_push b.calls call);
        lines = ap (λ (t : List ℕ). a.written ++ t) appended ∙ sym (append_assoc a.written out (answer_line answer)) ∙ ap (λ (t : List ℕ). t ++ answer_line answer) b.lines ∙ flat_map_more answer_line [] b.answers answer;
        number = number ∙ ap (λ (n : ℕ). min (n + 1) (2 ^ 64 - 1)) b.number ∙ e ∙ ap line_after (sym (length_push b.calls call));
      };
    }

-- a piece of the answers was written
pub answering_written : (text rest : List ℕ) (line : ℕ) (before now after : Option (List ℕ)) (out left : List ℕ) → Answering text rest line before now out → WritesPiece now after out left (Ok tt) → Answering text rest line before after left
answering_written text rest line before now after out left a w = record {
  written = a.written ++ w.0;
  writes = appends_more before now after a.written w.0 a.writes w.2;
  answered = subst (λ (t : List ℕ). Answered text rest t line) (ap (λ (t : List ℕ). a.written ++ t) w.1 ∙ sym (append_assoc a.written w.0 left)) a.answered;
}

-- all answers were written
pub all_written : (text rest : List ℕ) (line : ℕ) (before now after : Option (List ℕ)) (out : List ℕ) → Answering text rest line before now out → Appends now after out → AnswersUpTo text rest line before after
all_written text rest line before now after out a w = record { printed = a.written ++ out; answered = a.answered; writes = appends_more before now after a.written out a.writes w }

-- memory was refused
pub breaks_off : (text rest : List ℕ) (line : ℕ) (before now : Option (List ℕ)) (out : List ℕ) → Answering text rest line before now out → BreaksOff text before now
breaks_off text rest line before now out a = record { rest = rest; line = line; printed = a.written; more = out; answered = a.answered; writes = a.writes }

-- writing failed
pub half_written : (text rest : List ℕ) (line : ℕ) (before now after : Option (List ℕ)) (out : List ℕ) (fault : ReplayFault) → Answering text rest line before now out → Writes now after out (Err fault) → AnswersLines text before after (Err fault)
half_written text rest line before now after out fault a w =
    let f = w.1.1 in
    rw w.0 record {
      rest = rest;
      line = line;
      printed = a.written ++ f.front;
      more = w.1.0;
      answered = subst (λ (t : List ℕ). Answered text rest t line) (ap (λ (t : List ℕ). a.written ++ t) f.parts ∙ sym (append_assoc a.written f.front w.1.0)) a.answered;
      writes = appends_more before now after a.written f.front a.writes f.writes;
    }

-- the text ended
pub lines_end : (text rest : List ℕ) (line : ℕ) (before now after : Option (List ℕ)) (out : List ℕ) (result : Result (Unit {0}) ReplayFault) → Answering text rest line before now out → length rest ≡ 0 → Writes now after out result → AnswersLines text before after result
lines_end text [] line before now after out (Ok u) a none w = (line, all_written text [] line before now after out a w)
lines_end text (b ∷ rest) line before now after out (Ok u) a none w = absurd (omega (arith, none))
lines_end text rest line before now after out (Err fault) a none w = half_written text rest line before now after out fault a w

bad_call : (rest bad : List ℕ) (column : ℕ) → call_at rest ≡ Err bad → column + length bad ≡ length rest + 1 → IsBad IsCallText rest column
bad_call rest [] column e at =
    let same : length rest + 1 ≡ column = omega (arith, at) in
    subst (λ (n : ℕ). IsBad IsCallText rest n) same (bad_end CallText call_at call_reads rest e)
bad_call rest (b ∷ bs) column e at = bad_byte CallText call_at call_reads rest b bs column e at

-- a bad line came
pub lines_stop : (text rest bad : List ℕ) (line column : ℕ) (before now after : Option (List ℕ)) (out : List ℕ) (result : Result (Unit {0}) ReplayFault) → Answering text rest line before now out → 0 < length rest → call_at rest ≡ Err bad → column + length bad ≡ length rest + 1 → StopsAt now after out line column result → AnswersLines text before after result
lines_stop text rest bad line column before now after out result a some e at stops =
    elim stops [
      | inl s ↦ rw s.0 record { rest = rest; some = some; bad = bad_call rest bad column e at; up_to = all_written text rest line before now after out a s.1 }
      | inr s ↦ rw s.0 (half_written text rest line before now after out Write a s.1)
    ]

-- What is printed tells one log, and that log keeps all its promises.
use Rattle.schedule.proofs.Cited.{◌≡◌, inl, inr, ℕ, ◌+◌, ◌*◌, ◌^◌, ◌<◌, true, List, [], ◌∷◌, ◌++◌, length, Result, Ok, Err, refl, sym, ap, ◌∙◌, subst, append_assoc, arith, All, codes, append-nil, All-nil, IsSafeLog, Config, Line, IsNumberedWithin, WorldView, fresh_world, is_supported, step_of, log_of, world_after_lines, answered_events, Counts, ReplayFault, BadText, BadConfig, Read, Write, Memory, IsLong, IsAnswerLine, IsAnswerText, TellsLog, answer_line, counts_of, end_line, IsPartial, tells_once, seam}
use Rattle.std.proofs.Common.{length-append}
use Rattle.schedule_text.specs.declared.answer_line.AnswerLine.TheVariants as line
use Rattle.schedule.specs.Ports.{IsAnsweredSoFar}
use Rattle.schedule.specs.Printed.{answers_of, Prints, IsBeginning}
use Rattle.schedule.specs.Safety.{TellsSafeLog, BeginsSafely}
use Rattle.schedule.specs.Stream.{Progress, Header, Lines, Failed, Stands, IsSound}
use Rattle.schedule.proofs.RoundTrip.{lines_short, lines_in, answer_is_text, tells_answers, end_is_text, tells_all}

-- ---- a beginning of answers: whole ones, and less than one more

-- where what was printed breaks off, behind the answers to these lines
data Left (w : WorldView) (lines : List Line) (ending : List ℕ) (front : List Line) (rest : List ℕ) : Type 0 where
  Nowhere : rest ≡ [] → Left w lines ending front rest
  InLine : (l : Line) (more : List ℕ) → 0 < length more → answer_line (step_of (world_after_lines w front) l).answer ≡ rest ++ more → Left w lines ending front rest
  InEnding : (more : List ℕ) → front ≡ lines → ending ≡ rest ++ more → Left w lines ending front rest

record Front (w : WorldView) (lines : List Line) (ending printed : List ℕ) : Type 0 where
  pub front : List Line
  pub rest : List ℕ
  pub parts : printed ≡ answers_of w front ++ rest
  pub left : Left w lines ending front rest

-- it breaks off in the answer to the first line, or right behind it
within : (w : WorldView) (l : Line) (ls : List Line) (ending printed more : List ℕ) → answer_line (step_of w l).answer ≡ printed ++ more → Front w (l ∷ ls) ending printed
within w l ls ending printed [] e = record {
  front = l ∷ [];
  rest = [];
  parts = sym (append-nil printed) ∙ sym e ∙ sym (append-nil (answer_line (step_of w l).answer)) ∙ sym (append-nil (answer_line (step_of w l).answer ++ []));
  left = Nowhere refl;
}
within w l ls ending printed (b ∷ more) e = record { front = []; rest = printed; parts = refl; left = InLine l (b ∷ more) (omega arith) e }

-- or later
later : (w : WorldView) (l : Line) (ls : List Line) (ending : List ℕ) (front : List Line) (rest : List ℕ) → Left ((step_of w l).world) ls ending front rest → Left w (l ∷ ls) ending (l ∷ front) rest
later w l ls ending front rest (Nowhere none) = Nowhere none
later w l ls ending front rest (InLine m more some e) = InLine m more some e
later w l ls ending front rest (InEnding more all e) = InEnding more (ap (λ (ms : List Line). l ∷ ms) all) e

beyond : (w : WorldView) (l : Line) (ls : List Line) (ending printed z : List ℕ) → printed ≡ answer_line (step_of w l).answer ++ z → Front ((step_of w l).world) ls ending z → Front w (l ∷ ls) ending printed
beyond w l ls ending printed z e f = record {
  front = l ∷ f.front;
  rest = f.rest;
  parts = e ∙ ap (λ (t : List ℕ). answer_line (step_of w l).answer ++ t) f.parts ∙ sym (append_assoc (answer_line (step_of w l).answer) (answers_of ((step_of w l).world) f.front) f.rest);
  left = later w l ls ending f.front f.rest f.left;
}

front_of : (w : WorldView) (ls : List Line) (ending printed more : List ℕ) → printed ++ more ≡ answers_of w ls ++ ending → Front w ls ending printed
front_of w [] ending printed more e = record { front = []; rest = printed; parts = refl; left = InEnding more refl (sym e) }
front_of w (l ∷ ls) ending printed more e =
    let answer = answer_line (step_of w l).answer in
    let tail = answers_of ((step_of w l).world) ls ++ ending in
    elim (seam printed more answer tail (e ∙ append_assoc answer (answers_of ((step_of w l).world) ls) ending)) [
      | inl s ↦ beyond w l ls ending printed s.0 s.1 (front_of ((step_of w l).world) ls ending s.0 more (sym s.2))
      | inr s ↦ within w l ls ending printed s.0 s.1
    ]

-- ---- the log that whole lines tell

-- an empty rest is less than a line
nothing_is_less : IsPartial IsAnswerText []
nothing_is_less = (codes ".\n", omega arith, (line.Quiet, (tt, refl)))

abbrev EachIsSafe : Type 0
EachIsSafe = (config : Config) (lines : List Line) → is_supported config ≡ true → IsSafeLog (answered_events (fresh_world config) lines)

abbrev EachIsNumbered : Type 0
EachIsNumbered = (config : Config) (lines : List Line) → is_supported config ≡ true → All (IsNumberedWithin (2 * length lines)) (answered_events (fresh_world config) lines)

module _ (safe : EachIsSafe) (numbered : EachIsNumbered) (config : Config) (good : is_supported config ≡ true) where
  tells_safe : (lines : List Line) (printed : List ℕ) → TellsLog printed (answered_events (fresh_world config) lines) → TellsSafeLog printed
  tells_safe lines printed tells = record {
    log = answered_events (fresh_world config) lines;
    tells = tells;
    only = λ other also. tells_once printed other (answered_events (fresh_world config) lines) also tells;
    safe = safe config lines good;
  }

  pub answers_safe : (lines : List Line) (printed rest : List ℕ) → printed ≡ answers_of (fresh_world config) lines ++ rest → length printed < 2 ^ 63 → TellsSafeLog (answers_of (fresh_world config) lines)
  answers_safe lines printed rest parts short =
      let w = fresh_world config in
      tells_safe lines (answers_of w lines) (tells_answers w lines (lines_in w lines rest printed parts short) (numbered config lines good))

  pub all_safe : (lines : List Line) (printed : List ℕ) (counts : Counts) → counts ≡ counts_of (answered_events (fresh_world config) lines) → printed ≡ answers_of (fresh_world config) lines ++ end_line counts → length printed < 2 ^ 63 → TellsSafeLog printed
  all_safe lines printed counts counted parts short =
      let w = fresh_world config in
      tells_safe lines printed (subst (λ (t : List ℕ). TellsLog t (answered_events w lines)) (sym parts)
      (tells_all w lines (lines_in w lines (end_line counts) printed parts short) (numbered config lines good) counts counted))

  -- a line more is counted in few digits too
  one_more : (lines : List Line) (l : Line) → IsLong (2 * length lines + 2) → IsLong (2 * length (lines ++ l ∷ []))
  one_more lines l low = let long = length-append lines (l ∷ []) in omega (arith, long, low)

  few : (lines : List Line) (printed rest : List ℕ) → printed ≡ answers_of (fresh_world config) lines ++ rest → length printed < 2 ^ 63 → IsLong (2 * length lines + 2)
  few lines printed rest parts short = let size = lines_short (fresh_world config) lines rest printed parts short in omega (arith, size)

  begins_by : (ls : List Line) (ending printed : List ℕ) (f : Front (fresh_world config) ls ending printed) → length printed < 2 ^ 63 → IsPartial IsAnswerText f.rest → BeginsSafely printed
  begins_by ls ending printed f short less = record { whole = answers_of (fresh_world config) f.front; rest = f.rest; parts = f.parts; less = less; safe = answers_safe f.front printed f.rest f.parts short }

  in_line : (ls : List Line) (ending printed : List ℕ) (f : Front (fresh_world config) ls ending printed) (l : Line) (more : List ℕ) → 0 < length more → answer_line (step_of (world_after_lines (fresh_world config) f.front) l).answer ≡ f.rest ++ more → length printed < 2 ^ 63 → IsPartial IsAnswerText f.rest
  in_line ls ending printed f l more some e short =
      let w = fresh_world config in
      let lines = f.front ++ l ∷ [] in
      (more, some, subst IsAnswerText e (answer_is_text w f.front l (one_more f.front l (few f.front printed f.rest f.parts short)) (numbered config lines good)))

  nowhere : (ls : List Line) (ending printed : List ℕ) (f : Front (fresh_world config) ls ending printed) → f.rest ≡ [] → IsPartial IsAnswerText f.rest
  nowhere ls ending printed f none = subst (IsPartial IsAnswerText) (sym none) nothing_is_less

  -- a beginning of answers with no end line
  bare_ending : (ls : List Line) (printed : List ℕ) (f : Front (fresh_world config) ls [] printed) → length printed < 2 ^ 63 → Left (fresh_world config) ls [] f.front f.rest → IsPartial IsAnswerText f.rest
  bare_ending ls printed f short (Nowhere none) = nowhere ls [] printed f none
  bare_ending ls printed f short (InLine l more some e) = in_line ls [] printed f l more some e short
  bare_ending ls printed f short (InEnding more all e) = nowhere ls [] printed f (no_front f.rest more e)
    where
      no_front : (xs ys : List ℕ) → [] ≡ xs ++ ys → xs ≡ []
      no_front [] ys e = refl
      no_front (x ∷ xs) ys e = cc

  pub cut_answers : (ls : List Line) (printed more : List ℕ) → printed ++ more ≡ answers_of (fresh_world config) ls → length printed < 2 ^ 63 → BeginsSafely printed
  cut_answers ls printed more e short =
      let f = front_of (fresh_world config) ls [] printed more (e ∙ sym (append-nil (answers_of (fresh_world config) ls))) in
      begins_by ls [] printed f short (bare_ending ls printed f short f.left)

  -- a beginning of answers and their end line
  module _ (ls : List Line) (counts : Counts) (counted : counts ≡ counts_of (answered_events (fresh_world config) ls)) where
    in_ending : (printed : List ℕ) (f : Front (fresh_world config) ls (end_line counts) printed) → length printed < 2 ^ 63 → (more : List ℕ) → f.front ≡ ls → end_line counts ≡ f.rest ++ more → BeginsSafely printed
    in_ending printed f short [] all e = record {
      whole = printed;
      rest = [];
      parts = sym (append-nil printed);
      less = nothing_is_less;
      safe = all_safe ls printed counts counted (f.parts ∙ ap (λ (t : List ℕ). answers_of (fresh_world config) f.front ++ t) (sym (append-nil f.rest) ∙ sym e) ∙ ap (λ (ms : List Line). answers_of (fresh_world config) ms ++ end_line counts) all) short;
    }
    in_ending printed f short (b ∷ more) all e =
        let w = fresh_world config in
        let long = lines_in w ls f.rest printed (f.parts ∙ ap (λ (ms : List Line). answers_of w ms ++ f.rest) all) short in
        begins_by ls (end_line counts) printed f short (b ∷ more, omega arith, subst IsAnswerText e (end_is_text w ls long (numbered config ls good) counts counted))

    cut_at : (printed : List ℕ) (f : Front (fresh_world config) ls (end_line counts) printed) → length printed < 2 ^ 63 → Left (fresh_world config) ls (end_line counts) f.front f.rest → BeginsSafely printed
    cut_at printed f short (Nowhere none) = begins_by ls (end_line counts) printed f short (nowhere ls (end_line counts) printed f none)
    cut_at printed f short (InLine l more some e) = begins_by ls (end_line counts) printed f short (in_line ls (end_line counts) printed f l more some e short)
    cut_at printed f short (InEnding more all e) = in_ending printed f short more all e

    pub cut_all : (printed more : List ℕ) → printed ++ more ≡ answers_of (fresh_world config) ls ++ end_line counts → length printed < 2 ^ 63 → BeginsSafely printed
    cut_all printed more e short = let f = front_of (fresh_world config) ls (end_line counts) printed more e in cut_at printed f short f.left

-- ---- nothing

module _ (none : IsSafeLog []) where
  nothing_tells : TellsSafeLog []
  nothing_tells =
      let tells : TellsLog [] [] = record { lines = []; each = All-nil IsAnswerLine; parts = refl; events = refl } in
      record { log = []; tells = tells; only = λ other also. tells_once [] other [] also tells; safe = none }

  tells_of : (printed : List ℕ) → printed ≡ [] → TellsSafeLog printed
  tells_of printed nothing = subst TellsSafeLog (sym nothing) nothing_tells

  -- whole lines are a beginning that nothing is left of
  begins_whole : (printed : List ℕ) → TellsSafeLog printed → BeginsSafely printed
  begins_whole printed safe = record { whole = printed; rest = []; parts = sym (append-nil printed); less = nothing_is_less; safe = safe }

  no_more : (printed more : List ℕ) → printed ++ more ≡ [] → printed ≡ []
  no_more [] more e = refl
  no_more (b ∷ printed) more e = cc

  -- ---- the law

  abbrev EachIsTold : Type 0
  EachIsTold = (config : Config) (lines : List Line) → log_of (world_after_lines (fresh_world config) lines) ≡ answered_events (fresh_world config) lines

  module _ (safe : EachIsSafe) (numbered : EachIsNumbered) (told : EachIsTold) where
    pub whole_safe : (text printed : List ℕ) (result : Result Counts ReplayFault) → length printed < 2 ^ 63 → Prints text printed result → TellsSafeLog printed
    whole_safe text printed (Ok counts) short p = all_safe safe numbered p.config p.schedule.supported p.lines printed counts (p.counted ∙ ap counts_of (told p.config p.lines)) p.answers short
    whole_safe text printed (Err BadConfig) short p = tells_of printed p.nothing
    whole_safe text printed (Err (BadText line column)) short (inl p) = tells_of printed p.nothing
    whole_safe text printed (Err (BadText line column)) short (inr p) =
        subst TellsSafeLog (sym p.answers) (answers_safe safe numbered p.config p.schedule.supported p.lines printed [] (p.answers ∙ sym (append-nil (answers_of (fresh_world p.config) p.lines))) short)
    whole_safe text printed (Err Read) short p = absurd p
    whole_safe text printed (Err Write) short p = absurd p
    whole_safe text printed (Err Memory) short p = absurd p

    begun_by : (text printed more : List ℕ) (result : Result Counts ReplayFault) → length printed < 2 ^ 63 → Prints text (printed ++ more) result → BeginsSafely printed
    begun_by text printed more (Ok counts) short p = cut_all safe numbered p.config p.schedule.supported p.lines counts (p.counted ∙ ap counts_of (told p.config p.lines)) printed more p.answers short
    begun_by text printed more (Err BadConfig) short p = begins_whole printed (tells_of printed (no_more printed more p.nothing))
    begun_by text printed more (Err (BadText line column)) short (inl p) = begins_whole printed (tells_of printed (no_more printed more p.nothing))
    begun_by text printed more (Err (BadText line column)) short (inr p) = cut_answers safe numbered p.config p.schedule.supported p.lines printed more p.answers short
    begun_by text printed more (Err Read) short p = absurd p
    begun_by text printed more (Err Write) short p = absurd p
    begun_by text printed more (Err Memory) short p = absurd p

    pub begun_safe : (text printed : List ℕ) → length printed < 2 ^ 63 → IsBeginning text printed → BeginsSafely printed
    begun_safe text printed short b = begun_by text printed b.0 b.1 short b.2

    stands_safe : (progress : Progress) (fed printed : List ℕ) → length printed < 2 ^ 63 → IsSound progress → Stands progress fed printed → TellsSafeLog printed
    stands_safe (Header held) fed printed short sound s = tells_of printed s.2
    stands_safe (Lines world line held) fed printed short sound s =
        subst TellsSafeLog (sym s.answers) (answers_safe safe numbered s.config s.schedule.supported s.lines printed [] (s.answers ∙ sym (append-nil (answers_of (fresh_world s.config) s.lines))) short)
    stands_safe (Failed fault) fed printed short sound s = absurd (sound fault refl)

    pub so_far_safe : (fed printed : List ℕ) → length printed < 2 ^ 63 → IsAnsweredSoFar fed printed → TellsSafeLog printed
    so_far_safe fed printed short s = stands_safe s.progress fed printed short s.sound s.stands

-- The answers to lines are lines of answers, and tell the events of the answers.
use Rattle.schedule.proofs.Cited.{◌≡◌, ℕ, ◌*◌, ◌^◌, ◌<◌, ◌≤◌, List, [], ◌∷◌, ◌++◌, length, Option, Some, None, Result, Ok, Err, refl, sym, ap, ◌∙◌, subst, append_assoc, arith, lit<, lit≤, All, codes, decimal, flat_map, append-nil, flat_map_more, All-from_recursion, recursion_from_All, All-push, count_by-le-length, Event, Open, Close, First, Next, Touch, Push, Replace, Cut, Retire, Queue, Run, Ask, Bar, Clear, ObjectId, Refusal, text_of, number_of, Answer, Events, Quiet, Wait, Blocked, Idle, Line, IsFoundWithin, IsNumberedWithin, WorldView, step_of, world_after_lines, events_of, answered_events, Counts, AnswerLine, answer_line, opens, retires, runs, counts_of, end_line, IsNumber, IsLong, IsFound, IsEvent, IsAnswerLine, IsAnswerText, spelled, line_of, told_by, TellsLog, answer_spelled}
use Rattle.std.proofs.Common.{length-append}
use Rattle.std.specs.List.{AllByRecursion as Every}
use Rattle.rcu_model.specs.declared.event.Event.TheVariants.{Answer as EventAnswer}
use Rattle.rcu_model.specs.declared.refusal.Refusal.TheVariants as refusals
use Rattle.schedule_text.specs.declared.answer_line.AnswerLine.TheVariants as line
use Rattle.schedule.specs.Printed.{answers_of}

answer_told : (a : Result Answer Refusal) → events_of a ≡ told_by (line_of a)
answer_told (Ok (Events first None)) = refl
answer_told (Ok (Events first (Some second))) = refl
answer_told (Ok Quiet) = refl
answer_told (Ok Wait) = refl
answer_told (Ok Blocked) = refl
answer_told (Ok Idle) = refl
answer_told (Err e) = refl

-- ---- the numbers

within : (a n : ℕ) → a ≤ n → IsLong n → IsLong a
within a n low long = omega (arith, low, long)

below : (c limit : ℕ) → c < limit → limit ≤ 1000000000 → IsNumber c
below c limit low most = omega (arith, low, most)

module _ (n : ℕ) (long : IsLong n) where
  found_long : (found : Option ObjectId) → IsFoundWithin n found → IsFound found
  found_long None h = tt
  found_long (Some o) h = within o.0 n h long

  event_long : (e : Event) → IsNumberedWithin n e → IsEvent e
  event_long (Open s) h = (below s.reader 64 h.0 (lit≤ tt), within s.ordinal n h.1 long)
  event_long (Close s) h = (below s.reader 64 h.0 (lit≤ tt), within s.ordinal n h.1 long)
  event_long (First s c found) h = ((below s.reader 64 h.0.0 (lit≤ tt), within s.ordinal n h.0.1 long), below c 64 h.1 (lit≤ tt), found_long found h.2)
  event_long (Next s o found) h = ((below s.reader 64 h.0.0 (lit≤ tt), within s.ordinal n h.0.1 long), within o.0 n h.1 long, found_long found h.2)
  event_long (Touch s o) h = ((below s.reader 64 h.0.0 (lit≤ tt), within s.ordinal n h.0.1 long), within o.0 n h.1 long)
  event_long (Push c o) h = (below c 64 h.0 (lit≤ tt), within o.0 n h.1 long)
  event_long (Replace c old new) h = (below c 64 h.0 (lit≤ tt), within old.0 n h.1 long, within new.0 n h.2 long)
  event_long (Cut c o) h = (below c 64 h.0 (lit≤ tt), within o.0 n h.1 long)
  event_long (Retire o) h = within o.0 n h long
  event_long (Queue o q) h = (within o.0 n h.0 long, below q 8 h.1 (lit≤ tt))
  event_long (Run o) h = within o.0 n h long
  event_long (Ask a) h = within a n h long
  event_long (EventAnswer a) h = within a n h long
  event_long (Bar b) h = within b n h long
  event_long (Clear b) h = within b n h long

  number_long : (e : Refusal) → IsLong (number_of e)
  number_long refusals.NoSlot = lit< tt
  number_long refusals.NestFull = lit< tt
  number_long refusals.PoolFull = lit< tt
  number_long refusals.Closed = lit< tt
  number_long refusals.Exhausted = lit< tt
  number_long refusals.NotOpen = lit< tt
  number_long refusals.Busy = lit< tt
  number_long refusals.NoPlace = lit< tt
  number_long refusals.WrongFlavour = lit< tt
  number_long refusals.Exists = lit< tt
  number_long refusals.Missing = lit< tt
  number_long refusals.NoActor = lit< tt
  number_long refusals.BadText = lit< tt
  number_long refusals.BadConfig = lit< tt
  number_long refusals.Memory = lit< tt
  number_long refusals.FewJobs = lit< tt

  answer_long : (a : Result Answer Refusal) → Every (IsNumberedWithin n) (events_of a) → IsAnswerLine (line_of a)
  answer_long (Ok (Events first None)) h = (event_long first h.0, tt)
  answer_long (Ok (Events first (Some second))) h = (event_long first h.0, event_long second h.1.0)
  answer_long (Ok Quiet) h = tt
  answer_long (Ok Wait) h = tt
  answer_long (Ok Blocked) h = tt
  answer_long (Ok Idle) h = tt
  answer_long (Err e) h = number_long e

-- ---- all answers

lines_of : WorldView → List Line → List AnswerLine
lines_of w [] = []
lines_of w (l ∷ ls) = line_of (step_of w l).answer ∷ lines_of ((step_of w l).world) ls

every_front : {X : Type 0} (F : X → Type 0) (xs ys : List X) → Every F (xs ++ ys) → Every F xs
every_front F [] ys h = tt
every_front F (x ∷ xs) ys h = (h.0, every_front F xs ys h.1)

every_back : {X : Type 0} (F : X → Type 0) (xs ys : List X) → Every F (xs ++ ys) → Every F ys
every_back F [] ys h = h
every_back F (x ∷ xs) ys h = every_back F xs ys h.1

lines_spelled : (w : WorldView) (ls : List Line) → answers_of w ls ≡ flat_map spelled (lines_of w ls)
unfolding lines_of
lines_spelled w [] = refl
lines_spelled w (l ∷ ls) =
    ap (λ (t : List ℕ). t ++ answers_of ((step_of w l).world) ls) (answer_spelled (step_of w l).answer)
    ∙ ap (λ (t : List ℕ). spelled (line_of (step_of w l).answer) ++ t) (lines_spelled ((step_of w l).world) ls)

lines_told : (w : WorldView) (ls : List Line) → answered_events w ls ≡ flat_map told_by (lines_of w ls)
unfolding lines_of
lines_told w [] = refl
lines_told w (l ∷ ls) =
    ap (λ (es : List Event). es ++ answered_events ((step_of w l).world) ls) (answer_told (step_of w l).answer)
    ∙ ap (λ (es : List Event). told_by (line_of (step_of w l).answer) ++ es) (lines_told ((step_of w l).world) ls)

lines_long : (n : ℕ) → IsLong n → (w : WorldView) (ls : List Line) → Every (IsNumberedWithin n) (answered_events w ls) → Every IsAnswerLine (lines_of w ls)
unfolding lines_of
lines_long n long w [] h = tt
lines_long n long w (l ∷ ls) h = (
  answer_long n long (step_of w l).answer (every_front (IsNumberedWithin n) (events_of (step_of w l).answer) (answered_events ((step_of w l).world) ls) h),
  lines_long n long ((step_of w l).world) ls (every_back (IsNumberedWithin n) (events_of (step_of w l).answer) (answered_events ((step_of w l).world) ls) h),
)

-- a line tells at most two events
answer_few : (a : Result Answer Refusal) → length (events_of a) ≤ 2
answer_few (Ok (Events first None)) = omega arith
answer_few (Ok (Events first (Some second))) = omega arith
answer_few (Ok Quiet) = omega arith
answer_few (Ok Wait) = omega arith
answer_few (Ok Blocked) = omega arith
answer_few (Ok Idle) = omega arith
answer_few (Err e) = omega arith

lines_few : (w : WorldView) (ls : List Line) → length (answered_events w ls) ≤ 2 * length ls
lines_few w [] = omega arith
lines_few w (l ∷ ls) =
    let few = answer_few (step_of w l).answer in
    let more = lines_few ((step_of w l).world) ls in
    let long = length-append (events_of (step_of w l).answer) (answered_events ((step_of w l).world) ls) in
    omega (arith, few, more, long)

-- ---- a line of answers has at least two bytes

event_size : (e : Event) → 1 ≤ length (text_of e)
event_size (Open s) = omega arith
event_size (Close s) = omega arith
event_size (First s c f) = omega arith
event_size (Next s o f) = omega arith
event_size (Touch s o) = omega arith
event_size (Push c o) = omega arith
event_size (Replace c old new) = omega arith
event_size (Cut c o) = omega arith
event_size (Retire o) = omega arith
event_size (Queue o q) = omega arith
event_size (Run o) = omega arith
event_size (Ask a) = omega arith
event_size (EventAnswer a) = omega arith
event_size (Bar b) = omega arith
event_size (Clear b) = omega arith

two_bytes : (a b : List ℕ) → 1 ≤ length a → 1 ≤ length b → 2 ≤ length (a ++ b)
two_bytes a b some also = let whole = length-append a b in omega (arith, whole, some, also)

longer : (a b : List ℕ) → 1 ≤ length a → 1 ≤ length (a ++ b)
longer a b some = let whole = length-append a b in omega (arith, whole, some)

answer_size : (a : Result Answer Refusal) → 2 ≤ length (answer_line a)
answer_size (Ok (Events first None)) = two_bytes (text_of first) (codes "\n") (event_size first) (omega arith)
answer_size (Ok (Events first (Some second))) =
    two_bytes (text_of first ++ codes "; " ++ text_of second) (codes "\n") (longer (text_of first ++ codes "; ") (text_of second) (longer (text_of first) (codes "; ") (event_size first))) (omega arith)
answer_size (Ok Quiet) = omega arith
answer_size (Ok Wait) = omega arith
answer_size (Ok Blocked) = omega arith
answer_size (Ok Idle) = omega arith
answer_size (Err e) = two_bytes (codes "refused E" ++ decimal (number_of e)) (codes "\n") (longer (codes "refused E") (decimal (number_of e)) (omega arith)) (omega arith)

answers_size : (w : WorldView) (ls : List Line) → 2 * length ls ≤ length (answers_of w ls)
answers_size w [] = omega arith
answers_size w (l ∷ ls) =
    let one = answer_size (step_of w l).answer in
    let more = answers_size ((step_of w l).world) ls in
    let long = length-append (answer_line (step_of w l).answer) (answers_of ((step_of w l).world) ls) in
    omega (arith, one, more, long)

pub lines_short : (w : WorldView) (ls : List Line) (rest printed : List ℕ) → printed ≡ answers_of w ls ++ rest → length printed < 2 ^ 63 → 2 * length ls < 9223372036854775808
lines_short w ls rest printed parts short =
    let size = answers_size w ls in
    let whole = ap length parts in
    let both = length-append (answers_of w ls) rest in
    omega (arith, size, whole, both, short)

pub lines_in : (w : WorldView) (ls : List Line) (rest printed : List ℕ) → printed ≡ answers_of w ls ++ rest → length printed < 2 ^ 63 → IsLong (2 * length ls)
lines_in w ls rest printed parts short = let low = lines_short w ls rest printed parts short in omega (arith, low)

-- the answer to the last of these lines is one of the language
last_is : (w : WorldView) (ls : List Line) (l : Line) → Every IsAnswerLine (lines_of w (ls ++ l ∷ [])) → IsAnswerLine (line_of (step_of (world_after_lines w ls) l).answer)
unfolding lines_of
last_is w [] l each = each.0
last_is w (m ∷ ls) l each = last_is ((step_of w m).world) ls l each.1

pub answer_is_text : (w : WorldView) (ls : List Line) (l : Line) → IsLong (2 * length (ls ++ l ∷ [])) → All (IsNumberedWithin (2 * length (ls ++ l ∷ []))) (answered_events w (ls ++ l ∷ [])) → IsAnswerText (answer_line (step_of (world_after_lines w ls) l).answer)
answer_is_text w ls l long numbered =
    let n = 2 * length (ls ++ l ∷ []) in
    let each = lines_long n long w (ls ++ l ∷ []) (recursion_from_All (IsNumberedWithin n) (answered_events w (ls ++ l ∷ [])) numbered) in
    let answer = (step_of (world_after_lines w ls) l).answer in
    (line_of answer, (last_is w ls l each, answer_spelled answer))

-- ---- the log

module _ (w : WorldView) (ls : List Line) (long : IsLong (2 * length ls)) (numbered : All (IsNumberedWithin (2 * length ls)) (answered_events w ls)) where
  each : Every IsAnswerLine (lines_of w ls)
  each = lines_long (2 * length ls) long w ls (recursion_from_All (IsNumberedWithin (2 * length ls)) (answered_events w ls) numbered)

  pub tells_answers : TellsLog (answers_of w ls) (answered_events w ls)
  tells_answers = record { lines = lines_of w ls; each = All-from_recursion IsAnswerLine (lines_of w ls) each; parts = lines_spelled w ls; events = lines_told w ls }

  count_long : (n : ℕ) → n ≤ length (answered_events w ls) → IsLong n
  count_long n low = let few = lines_few w ls in within n (2 * length ls) (omega (arith, low, few)) long

  end_long : IsAnswerLine (line.End (counts_of (answered_events w ls)))
  end_long =
      let log = answered_events w ls in
      let opened = count_by-le-length opens log in
      let retired = count_by-le-length retires log in
      let ran = count_by-le-length runs log in
      (count_long _ (omega (arith, opened)), count_long _ (omega (arith, retired)), count_long _ ran)

  pub end_is_text : (counts : Counts) → counts ≡ counts_of (answered_events w ls) → IsAnswerText (end_line counts)
  end_is_text counts is = (line.End counts, (subst (λ (c : Counts). IsAnswerLine (line.End c)) (sym is) end_long, refl))

  pub tells_all : (counts : Counts) → counts ≡ counts_of (answered_events w ls) → TellsLog (answers_of w ls ++ end_line counts) (answered_events w ls)
  tells_all counts is = record {
    lines = lines_of w ls ++ line.End counts ∷ [];
    each = All-push IsAnswerLine (lines_of w ls) (line.End counts) (All-from_recursion IsAnswerLine (lines_of w ls) each) (subst (λ (c : Counts). IsAnswerLine (line.End c)) (sym is) end_long);
    parts = ap (λ (t : List ℕ). t ++ end_line counts) (lines_spelled w ls) ∙ flat_map_more spelled [] (lines_of w ls) (line.End counts);
    events = sym (append-nil (answered_events w ls)) ∙ ap (λ (es : List Event). es ++ []) (lines_told w ls) ∙ flat_map_more told_by [] (lines_of w ls) (line.End counts);
  }

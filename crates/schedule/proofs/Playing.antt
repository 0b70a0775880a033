-- One line more.
use Rattle.schedule.proofs.Cited.{◌≡◌, ℕ, zero, suc, ◌+◌, ◌-◌, ◌^◌, List, [], ◌∷◌, ◌++◌, length, Result, Ok, Err, refl, sym, ap, ◌∙◌, append_assoc, inl, inr, arith, min, append-nil, length_push, flat_map_more, All-nil, All-push, Line, Outcome, WorldView, Meets, step_of, world_after_lines, Answer, Refusal, spelling, IsLine, lines_text, line_at, answer_line, line_reads}
use Rattle.rcu_model.specs.declared.refusal.Refusal.TheVariants.{Memory}
use Rattle.schedule.specs.Printed.{answers_of}
use Rattle.schedule.specs.Play.{Point, number_on, Plays}

number_more : (n k : ℕ) → number_on n (k + 1) ≡ number_on (number_on n k) 1
number_more n zero = refl
number_more n (suc k) =
    let e : suc k + 1 ≡ suc (k + 1) = omega arith in
    ap (number_on n) e ∙ number_more (min (n + 1) (2 ^ 64 - 1)) k

pub after_append : (w : WorldView) (ls ms : List Line) → world_after_lines w (ls ++ ms) ≡ world_after_lines (world_after_lines w ls) ms
after_append w [] ms = refl
after_append w (l ∷ ls) ms = after_append ((step_of w l).world) ls ms

pub answers_append : (w : WorldView) (ls ms : List Line) → answers_of w (ls ++ ms) ≡ answers_of w ls ++ answers_of (world_after_lines w ls) ms
answers_append w [] ms = refl
answers_append w (l ∷ ls) ms =
    let a = answer_line (step_of w l).answer in
    ap (λ (t : List ℕ). a ++ t) (answers_append ((step_of w l).world) ls ms) ∙ sym (append_assoc a (answers_of ((step_of w l).world) ls) (answers_of (world_after_lines ((step_of w l).world) ls) ms))

pub plays_none : (p : Point) → Plays p p
plays_none p = record { lines = []; each = All-nil IsLine; text = refl; world = refl; line = refl; printed = sym (append-nil p.printed) }

pub plays_more : (start stop : Point) (l : Line) (rest : List ℕ) (next : Point) → Plays start stop → line_at stop.text ≡ Ok (l, rest) → next.text ≡ rest → next.world ≡ (step_of stop.world l).world → next.line ≡ number_on stop.line 1 → next.printed ≡ stop.printed ++ answer_line (step_of stop.world l).answer → Plays start next
plays_more start stop l rest next p read text world line printed =
    let f = line_reads.found stop.text l rest read in
    let one : answers_of (world_after_lines start.world p.lines) (l ∷ []) ≡ answer_line (step_of (world_after_lines start.world p.lines) l).answer = append-nil _ in
    record {
      lines = p.lines ++ l ∷ [];
      each = All-push IsLine p.lines l p.each f.spelled.0;
      text = p.text ∙ ap (λ (t : List ℕ). lines_text p.lines ++ t) (f.parts ∙ ap (λ (t : List ℕ). t ++ rest) f.spelled.1) ∙ sym (append_assoc (lines_text p.lines) (spelling l) rest)
          ∙ ap (λ (t : List ℕ). t ++ rest) (flat_map_more spelling [] p.lines l) ∙ ap (λ (t : List ℕ). lines_text (p.lines ++ l ∷ []) ++ t) (sym text);
      world = world ∙ ap (λ (w : WorldView). (step_of w l).world) p.world ∙ sym (after_append start.world p.lines (l ∷ []));
      line = line ∙ ap (λ (n : ℕ). number_on n 1) p.line ∙ sym (number_more start.line (length p.lines)) ∙ ap (number_on start.line) (sym (length_push p.lines l));
      printed = printed ∙ ap (λ (t : List ℕ). t ++ answer_line (step_of stop.world l).answer) p.printed ∙ append_assoc start.printed (answers_of start.world p.lines) (answer_line (step_of stop.world l).answer)
          ∙ ap (λ (t : List ℕ). start.printed ++ t) (ap (λ (w : WorldView). answers_of start.world p.lines ++ answer_line (step_of w l).answer) p.world ∙ sym (ap (λ (t : List ℕ). answers_of start.world p.lines ++ t) one) ∙ sym (answers_append start.world p.lines (l ∷ [])));
    }

-- a step that is not out of memory answers what it should, and leads to the world that it should
pub met_answer : (outcome : Outcome) (old new : WorldView) (result : Result Answer Refusal) → Meets outcome old new result → (result ≡ Err Memory → ⊥) → (new ≡ outcome.world) × (result ≡ outcome.answer)
met_answer outcome old new (Ok a) met some = (met.1, sym met.0)
met_answer outcome old new (Err e) met some = elim met.1 [ inl h ↦ (met.0 ∙ sym h.1, sym h.0) | inr h ↦ absurd (some (rw h.0 refl)) ]

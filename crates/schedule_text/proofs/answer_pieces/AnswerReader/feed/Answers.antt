use Rattle.schedule_text.proofs.Cited.{ℕ, List, ◌++◌, sym, ap, subst, ◌∙◌, err_from_is_err_and}
use Rattle.schedule_text.specs.AnswerLines.{IsAnswerText}
use Rattle.schedule_text.specs.AnswerPieces.{ReadSoFar}
use Rattle.schedule_text.specs.Fault.{IsPartial}
use Rattle.schedule_text.proofs.AnswerPieces.{more_text, takes_stop}
use Rattle.schedule_text.proofs.answer_pieces.AnswerReader.feed.Goals as goal

pub returns-in_err-rest : goal.returns-in_err-rest
returns-in_err-rest c = λ fed earlier r.
    let old = c.args.self.now in
    let all = fed ++ c.args.piece.now in
    let log = earlier ++ c.args.log.now.items in
    let start = subst (λ (t : List ℕ). ReadSoFar all t log old.line) (sym (c.deref.ensures.value ∙ c.in_ok-extend_from_slice.ensures.items)) (more_text fed old.held.items c.args.piece.now log old.line r.read) in
    let p = err_from_is_err_and c.from_residual-in_err-rest.result c.from_residual-in_err-rest.ensures.1 in
    rw (p.1, p.2) (takes_stop (record { alloc = old.alloc; line = c.front_answers.new.line; held = c.extend_from_slice.new.self }) all (earlier ++ c.front_answers.new.log.items) c.front_answers.new.line c.in_err-rest.field-0.0 (c.in_err-rest.ensures all earlier start))

pub returns : goal.returns
returns c = λ fed earlier r.
    let old = c.args.self.now in
    let all = fed ++ c.args.piece.now in
    let log = earlier ++ c.args.log.now.items in
    let start = subst (λ (t : List ℕ). ReadSoFar all t log old.line) (sym (c.deref.ensures.value ∙ c.in_ok-extend_from_slice.ensures.items)) (more_text fed old.held.items c.args.piece.now log old.line r.read) in
    let on = c.in_ok-rest.ensures all earlier start in
    let is = sym (c.in_ok-extend_from_slice-2.ensures.items ∙ ap (λ (t : List ℕ). t ++ c.in_ok-rest.rest.now) c.new-held.ensures.items) in
    record {
      read = subst (λ (t : List ℕ). ReadSoFar all t (earlier ++ c.front_answers.new.log.items) c.front_answers.new.line) is on.0;
      partial = subst (λ (t : List ℕ). IsPartial IsAnswerText t) is on.1;
    }

use Rattle.std.proofs.Common.{ℕ, ◌+◌, ◌<◌, length, sym, subst, ◌∙◌, rules}
use Rattle.schedule_text.specs.AnswerLines.{BreaksOffAnswers}
use Rattle.schedule_text.proofs.AnswerPieces.{ends}
use Rattle.schedule_text.proofs.answer_pieces.AnswerReader.finish.Goals as goal

pub returns : goal.returns
returns c = λ fed log r.
    let some : 0 < length c.args.self.now.held.items = search rules in
    record {
      rest = c.args.self.now.held.items;
      read = r.read;
      breaks =
          subst (λ (n : ℕ). BreaksOffAnswers fed c.args.self.now.line (n + 1)) (sym (c.len.ensures ∙ c.args.self.now.held.ok.0))
          (ends fed c.args.self.now.held.items log c.args.self.now.line r.read r.partial some);
    }

use Rattle.calls.proofs.Cited.{List, ℕ, subst, inr, err_from_is_err_and}
use Rattle.calls.specs.Script.{AnswersScript}
use Rattle.calls.proofs.Scripts.{no_text}
use Rattle.calls.proofs.script.answer_calls.Goals as goal

pub returns-in_err-text : goal.returns-in_err-text
returns-in_err-text g c =
    let p = err_from_is_err_and c.from_residual.result c.from_residual.ensures.1 in
    rw (p.1, p.2) (no_text (g.R.Read.remaining c.args.reader.now) (g.R.Read.remaining c.read_whole.new.reader) (g.W.Write.contents c.args.writer.now) c.in_err-text.field-0.0 c.in_err-text.ensures.fault)

pub returns : goal.returns
returns g c =
    let before = g.W.Write.contents c.args.writer.now in
    let after = g.W.Write.contents c.answer_text.new.writer in
    inr (c.in_ok-text.text.items, c.in_ok-text.ensures.whole, subst (λ (b : List ℕ). AnswersScript b before after c.answer_text.result) c.deref.ensures.value c.answer_text.ensures)

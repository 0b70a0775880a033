use Rattle.torture_commands.proofs.Cited.{◌∙◌, err_from_is_err_and}
use Rattle.torture_commands.proofs.Verdicts.{printed_whole, printed_cut}
use Rattle.torture_commands.proofs.checking.tell.Goals as goal

pub returns-in_err-write_whole : goal.returns-in_err-write_whole
returns-in_err-write_whole g c =
    let p = err_from_is_err_and c.from_residual-in_err-write_whole.result c.from_residual-in_err-write_whole.ensures.1 in
    rw (p.1, p.2) (printed_cut (g.W.Write.contents c.args.writer.now) (g.W.Write.contents c.write_whole.new.writer) c.as_bytes.result.now c.args.verdict c.args.events c.in_err-write_whole.field-0.0 (c.as_bytes.ensures.value ∙ c.in_ok-line.ensures.ok) c.in_err-write_whole.ensures.written)

pub returns : goal.returns
returns g c = printed_whole (g.W.Write.contents c.args.writer.now) (g.W.Write.contents c.write_whole.new.writer) c.as_bytes.result.now c.args.verdict c.args.events (c.as_bytes.ensures.value ∙ c.in_ok-line.ensures.ok) c.in_ok-write_whole.ensures.written

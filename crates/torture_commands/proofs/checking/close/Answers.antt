use Rattle.std.proofs.lemmas.Result.{err_from_is_err_and}
use Rattle.torture_commands.proofs.Verdicts.{closes_by, close_fault}
use Rattle.torture_commands.proofs.checking.close.Goals as goal

pub returns-in_err-verdict : goal.returns-in_err-verdict
returns-in_err-verdict g c = λ fed j.
    let p = err_from_is_err_and c.from_residual.result c.from_residual.ensures.1 in
    rw (p.1, p.2) (close_fault fed j.log (g.W.Write.contents c.args.writer.now) c.in_err-verdict.field-0.0 (c.in_err-verdict.ensures fed j))

pub returns : goal.returns
returns g c = λ fed j. closes_by fed j.log (g.W.Write.contents c.args.writer.now) (g.W.Write.contents c.tell.new.writer) c.in_ok-verdict.verdict c.in_ok-verdict.events c.tell.result (c.in_ok-verdict.ensures fed j) c.tell.ensures

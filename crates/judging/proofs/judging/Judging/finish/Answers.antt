use Rattle.std.proofs.lemmas.Result.{err_from_is_err_and}
use Rattle.judging.proofs.Judgings.{judged_cut}
use Rattle.judging.proofs.judging.Judging.finish.Goals as goal

pub returns-in_err-finish : goal.returns-in_err-finish
returns-in_err-finish c = λ fed j.
    let p = err_from_is_err_and c.from_residual.result c.from_residual.ensures.1 in
    rw (p.1, p.2) (judged_cut c.args.self.now fed c.in_err-finish.field-0.0 j c.in_err-finish.ensures)

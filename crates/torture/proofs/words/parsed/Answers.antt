use Rattle.torture.proofs.Cited.{ap, inr, err_from_is_err_and, is_simple, is_simple_and_free}
use Rattle.torture.proofs.Options.{taken, refused}
use Rattle.torture.proofs.words.parsed.Goals as goal

pub returns-in_err-program-clause-refused : goal.returns-in_err-program-clause-refused
returns-in_err-program-clause-refused g c =
    let p = err_from_is_err_and c.from_residual.result c.from_residual.ensures.1 in
    rw p.1 (inr (inr p.2))

pub returns-clause-taken : goal.returns-clause-taken
returns-clause-taken g c =
    let app = c.in_ok-program.ensures in
    taken _ _ app (ap is_simple app.6) c.try_get_matches_from.result (c.try_get_matches_from.ensures.kinds (ap is_simple_and_free app.6)) c.try_get_matches_from.ensures.matches

pub returns-clause-refused : goal.returns-clause-refused
returns-clause-refused g c =
    let app = c.in_ok-program.ensures in
    refused _ _ app c.try_get_matches_from.result (c.try_get_matches_from.ensures.kinds (ap is_simple_and_free app.6))

use Rattle.rcu_hash.proofs.Cited.{◌∙◌, err_from_is_err_and, looked_none, gives_up_other}
use Rattle.rcu_hash.proofs.growth.reserve_directory.Goals as goal

pub returns-in_err-old_lents-clause-same : goal.returns-in_err-old_lents-clause-same
returns-in_err-old_lents-clause-same g c =
    let p = err_from_is_err_and c.from_residual.result c.from_residual.ensures.1 in rw p.1 (tt, gives_up_other (λ full. let memory = p.2 ∙ c.in_err-old_lents.ensures.refused in cc) (looked_none c.args.caller.now))

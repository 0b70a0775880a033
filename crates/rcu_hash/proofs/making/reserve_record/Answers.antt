use Rattle.rcu_hash.proofs.Cited.{◌∙◌, cell_in, object_in, err_from_is_err_and, looked_none, took_one, took_none, gives_up_other}
use Rattle.rcu_hash.proofs.making.reserve_record.Goals as goal

pub returns-in_err-lents-clause-same : goal.returns-in_err-lents-clause-same
returns-in_err-lents-clause-same g c =
    let p = err_from_is_err_and c.from_residual.result c.from_residual.ensures.1 in rw p.1 (tt, gives_up_other (λ full. let memory = p.2 ∙ c.in_err-lents.ensures.refused in cc) (looked_none c.args.caller.now))

pub returns-in-Ok-clause-same : goal.returns-in-Ok-clause-same
returns-in-Ok-clause-same g c =
    let x = c.in-Ok.owned.seat.me.0.object in let t = c.in-Ok.ensures.took in
    (took_one (cell_in x) (object_in x).0 c.args.caller.now c.alloc.new.caller c.alloc.ensures.same c.alloc.ensures.heard.after_heard t.0 t.1 t.2, tt)

pub returns-in-Err-clause-same : goal.returns-in-Err-clause-same
returns-in-Err-clause-same g c =
    let l = c.in-Err.ensures.looks in (tt, took_none c.in-Err.refusal c.args.caller.now c.alloc.new.caller c.alloc.ensures.same c.alloc.ensures.heard.after_heard l.0 l.1 l.2.1)

use Rattle.rcu_judge.proofs.Cited.{◌≡◌, Some, None, sym, subst, at_number}
use Rattle.rcu_judge.specs.Objects.{heads_of}
use Rattle.rcu_judge.proofs.ObjectsTables.{heads_put, heads_unchanged, on_err}
use Rattle.rcu_judge.proofs.states.put_head.Goals as goal

pub returns-in_ok-insert-in-Some-clause-put : goal.returns-in_ok-insert-in-Some-clause-put
returns-in_ok-insert-in-Some-clause-put c =
    subst (λ x. heads_of c.insert.new.self ≡ at_number c.args.chain x (heads_of c.args.heads.now)) (sym c.in-Some.is)
    (heads_put c.args.heads.now c.insert.new.self c.args.chain (Some c.in-Some.object) c.in_ok-insert-in-Some.ensures.updates.0)

pub returns-in-None-clause-put : goal.returns-in-None-clause-put
returns-in-None-clause-put c =
    subst (λ x. heads_of c.remove.new.self ≡ at_number c.args.chain x (heads_of c.args.heads.now)) (sym c.in-None.is)
    (heads_put c.args.heads.now c.remove.new.self c.args.chain None c.remove.ensures.updates.0)

pub returns-in_err-insert-in-Some-clause-refused : goal.returns-in_err-insert-in-Some-clause-refused
returns-in_err-insert-in-Some-clause-refused c = on_err c.from_residual.result (heads_unchanged c.args.heads.now c.insert.new.self c.in_err-insert-in-Some.ensures.err)

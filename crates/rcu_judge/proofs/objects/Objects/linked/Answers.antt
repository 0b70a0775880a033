use Rattle.std.proofs.Common.{sym, ◌∙◌, ap}
use Rattle.rcu_judge.specs.Objects.{linked_state}
use Rattle.rcu_judge.proofs.objects.Objects.linked.Goals as goal

pub returns-in_err-state : goal.returns-in_err-state
returns-in_err-state c = c.from_residual.ensures ∙ ap (linked_state c.args.chain) (sym c.in_err-state.was ∙ c.state_of.ensures)

use Rattle.world.specs.Steps.{log_of}
use Rattle.world.proofs.Promises.{reached_run}
use Rattle.world.proofs.laws.reached_worlds_are_safe.Goals as goal

pub returns : goal.returns
returns c = λ w reached. c.every_run_is_safe.ensures (log_of w) (reached_run c.log_is_a_run.ensures c.log_is_a_run-2.ensures w reached)

-- What a judge that goes along has taken.
use Rattle.std.specs.Prelude.{◌≡◌, List, length}
use Rattle.rcu_model.specs.declared.event.Event.{Event}
use Rattle.rcu_judge.specs.declared.judge.Judge.{Judge}
use Rattle.rcu_judge.specs.declared.verdict.Verdict.TheVariants.{Yes}
use Rattle.rcu_model.specs.Machine.{state_after}
use Rattle.rcu_judge.specs.Verdict.{Judges}
use Rattle.rcu_judge.specs.Checker.{Follows}

-- the judge has taken these events: its verdict is theirs, and as long as they are a run it knows the state after them
pub record HasTaken (judge : Judge) (log : List Event) : Type 0 where
  pub judged : Judges judge.verdict log
  pub counted : judge.verdict ≡ Yes → judge.taken ≡ length log
  pub known : judge.verdict ≡ Yes → Follows judge.checker (state_after log)

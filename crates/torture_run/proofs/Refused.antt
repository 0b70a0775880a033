-- What becomes of a run.
use Rattle.std.proofs.Common.{ℕ, List, Option, Ok, Err, refl}
use Rattle.std.specs.Prelude.{Result}
use Rattle.live_load.specs.declared.counts.Counts.{Counts}
use Rattle.live_load.specs.declared.target.Target.{Target}
use Rattle.torture_run.specs.declared.fault.RunFault.{RunFault}
use Rattle.torture_run.specs.declared.fault.RunFault.TheVariants as fault
use Rattle.rcu_model.specs.declared.refusal.Refusal.{Refusal}
use Rattle.rcu_model.specs.declared.refusal.Refusal.TheVariants.{Memory}
use Rattle.torture_run.specs.Running.{HasRun, Runs, fault_of}

-- it told its counts, as far as it could
pub told : (target : Target) (before after : Option (List ℕ)) (counts : Counts) (r : Result Counts RunFault) → Runs target counts before after r → HasRun target before after r
told target before after counts (Ok c) x = (counts, x)
told target before after counts (Err fault.Write) x = (counts, x)
told target before after counts (Err fault.Memory) x = x
told target before after counts (Err (fault.Refused e)) x = absurd x

-- a thread was refused something, and it wrote nothing
pub untouched : (target : Target) (text : Option (List ℕ)) (r : Refusal) → HasRun target text text (Err (fault_of r))
untouched target text Memory = refl
untouched target text _ = refl

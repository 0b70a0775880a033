-- What the program does, whatever it is asked.
use Rattle.std.specs.Prelude.{◌≡◌, ℕ, List, Option, Result}
use Rattle.live_load.specs.declared.counts.Counts.{Counts}
use Rattle.calls.specs.Script.{AnswersCalls}
use Rattle.torture_commands.specs.Ending.{EndsAs, Executes}
use Rattle.torture_run.specs.declared.asked.Asked.{Asked}
use Rattle.torture_run.specs.declared.asked.Asked.TheVariants.{Command as CommandOf, Run as RunOf, Calls}
use Rattle.torture_run.specs.declared.fault.RunFault.{RunFault}
use Rattle.torture_run.specs.Running.{HasRun, ended_with}

-- A run reads nothing. The status is 0 exactly where the counts that it writes are right.
abbrev pub ExecutesAsked : Asked → Option (List ℕ) → Option (List ℕ) → Option (List ℕ) → Option (List ℕ) → ℕ → Type 0
ExecutesAsked (CommandOf command) given left before after status = Executes command given left before after status
ExecutesAsked (RunOf run) given left before after status = (left ≡ given) × ((result : Result Counts RunFault) × HasRun run.target before after result × (status ≡ ended_with run result))
ExecutesAsked Calls given left before after status = EndsAs (λ _. 0) (AnswersCalls given left before after) status

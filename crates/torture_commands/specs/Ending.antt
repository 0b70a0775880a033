-- What a command ends with.
use Rattle.std.specs.Prelude.{◌≡◌, ℕ, true, false, Bool, List, Option, Result, Ok, Err}
use Rattle.rcu_judge.specs.declared.verdict.Verdict.{Verdict}
use Rattle.rcu_judge.specs.declared.verdict.Verdict.TheVariants.{Yes, No}
use Rattle.schedule_text.specs.declared.fault.ReplayFault.{ReplayFault}
use Rattle.schedule_text.specs.declared.fault.ReplayFault.TheVariants.{BadText, BadConfig, Read, Write, Memory}
use Rattle.schedule.specs.Ports.{Replays}
use Rattle.torture_commands.specs.declared.command.Command.{Command}
use Rattle.torture_commands.specs.declared.command.Command.TheVariants as command
use Rattle.torture_commands.specs.declared.command.Walk.{Walk}
use Rattle.torture_commands.specs.Checking.{Checks, ChecksAlong}
use Rattle.torture_commands.specs.Walking.{Walks, Schedules}

abbrev pub status_of_fault : ReplayFault → ℕ
status_of_fault (BadText line column) = 2
status_of_fault BadConfig = 2
status_of_fault Read = 3
status_of_fault Write = 3
status_of_fault Memory = 3

-- a log that is no run is told by the status too
abbrev pub status_of_verdict : Verdict → ℕ
status_of_verdict Yes = 0
status_of_verdict (No at rule) = 1

abbrev pub ended_with : Result ℕ ReplayFault → ℕ
ended_with (Ok status) = status
ended_with (Err fault) = status_of_fault fault

abbrev pub status_of : {X : Type 0} → (X → ℕ) → Result X ReplayFault → ℕ
status_of good (Ok x) = good x
status_of good (Err fault) = status_of_fault fault

-- some result that the command may have, and the status is of that result
abbrev pub EndsAs : {X : Type 0} → (X → ℕ) → (Result X ReplayFault → Type 0) → ℕ → Type 0
EndsAs {X} good May status = (result : Result X ReplayFault) × May result × (status ≡ status_of good result)

abbrev pub ExecutesWalk : Bool → Walk → Option (List ℕ) → Option (List ℕ) → ℕ → Type 0
ExecutesWalk true walk before after status = EndsAs (λ _. 0) (Schedules walk before after) status
ExecutesWalk false walk before after status = EndsAs status_of_verdict (Walks walk before after) status

-- a walk reads nothing
abbrev pub Executes : Command → Option (List ℕ) → Option (List ℕ) → Option (List ℕ) → Option (List ℕ) → ℕ → Type 0
Executes command.Replay given left before after status = EndsAs (λ _. 0) (Replays given left before after) status
Executes command.Check given left before after status = EndsAs status_of_verdict (Checks given left before after) status
Executes command.Follow given left before after status = EndsAs status_of_verdict (ChecksAlong given left before after) status
Executes (command.Walk walk) given left before after status = (left ≡ given) × ExecutesWalk walk.schedule walk before after status

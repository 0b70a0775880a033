-- What a run of live threads writes, and what the program ends with.
use Rattle.std.specs.Prelude.{◌≡◌, ◌==◌, ◌&&◌, ◌||◌, ◌*◌, nat_le, ℕ, Bool, if◌then◌else◌, List, [], ◌++◌, codes, Option, Result, Ok, Err}
use Rattle.std.specs.Option.{is_some}
use Rattle.std.specs.Fmt.{decimal}
use Rattle.std.specs.Io.KnownBytes.{Appends}
use Rattle.rcu_model.specs.declared.refusal.Refusal.{Refusal}
use Rattle.rcu_model.specs.declared.refusal.Refusal.TheVariants as refusal
use Rattle.schedule.specs.Ports.{WroteFront}
use Rattle.live_load.specs.declared.counts.Counts.{Counts}
use Rattle.live_load.specs.declared.target.Target.{Target}
use Rattle.live_load.specs.declared.target.Target.TheVariants.{Chains, Lists, Tables, Growth}
use Rattle.torture_run.specs.declared.asked.Run.{Run}
use Rattle.torture_run.specs.declared.fault.RunFault.{RunFault}
use Rattle.torture_run.specs.declared.fault.RunFault.TheVariants.{Write, Memory, Refused}

-- what readers found that they should not is told as `mixed` of chains, and else as `wrong`
abbrev pub counts_text : Target → Counts → List ℕ
counts_text Chains c = codes "run retired=" ++ decimal c.retired ++ codes " finished=" ++ decimal c.finished ++ codes " mixed=" ++ decimal c.mixed ++ codes "\n"
counts_text Lists c = codes "run lists retired=" ++ decimal c.retired ++ codes " finished=" ++ decimal c.finished ++ codes " wrong=" ++ decimal c.mixed ++ codes "\n"
counts_text Tables c = codes "run tables retired=" ++ decimal c.retired ++ codes " finished=" ++ decimal c.finished ++ codes " wrong=" ++ decimal c.mixed ++ codes "\n"
counts_text Growth c = codes "run growth retired=" ++ decimal c.retired ++ codes " finished=" ++ decimal c.finished ++ codes " wrong=" ++ decimal c.mixed ++ codes "\n"

-- all rounds of all updaters retired this many; a table that grows retires more
abbrev pub is_as_many : Target → ℕ → ℕ → Bool
is_as_many Growth whole retired = nat_le whole retired
is_as_many _ whole retired = whole == retired

abbrev pub is_whole : Run → ℕ → Bool
is_whole run retired = is_as_many run.target (run.load.updaters * run.load.rounds) retired

-- all that was retired has run, nothing was found that should not be, nobody starved, and where no time was said all
-- rounds were made
abbrev pub are_right : Run → Counts → Bool
are_right run c = (c.retired == c.finished) && (c.mixed == 0) && (c.starved == 0) && (is_some run.load.seconds || is_whole run c.retired)

-- these counts are written as a line; or a beginning of it; or nothing
abbrev pub Runs : Target → Counts → Option (List ℕ) → Option (List ℕ) → Result Counts RunFault → Type 0
Runs target counts before after (Ok told) = (told ≡ counts) × Appends before after (counts_text target counts)
Runs target counts before after (Err Write) = (rest : List ℕ) × WroteFront before after (counts_text target counts) rest
Runs target counts before after (Err Memory) = after ≡ before
Runs target counts before after (Err (Refused refusal)) = ⊥

-- the same of the counts of some run; where a thread was refused something, nothing is written
abbrev pub HasRun : Target → Option (List ℕ) → Option (List ℕ) → Result Counts RunFault → Type 0
HasRun target before after (Err Memory) = after ≡ before
HasRun target before after (Err (Refused refusal)) = after ≡ before
HasRun target before after result = (counts : Counts) × Runs target counts before after result

abbrev pub fault_of : Refusal → RunFault
fault_of refusal.Memory = Memory
fault_of other = Refused other

abbrev pub ended_with : Run → Result Counts RunFault → ℕ
ended_with run (Ok counts) = if are_right run counts then 0 else 1
ended_with run (Err fault) = 3

-- The limits of what the program is asked to do.
use Rattle.std.specs.Prelude.{◌&&◌, Bool, true, IsTrue}
use Rattle.std.specs.Option.{option_map_or}
use Rattle.world_state.specs.Limits.{is_in}
use Rattle.live_load.specs.declared.load.Load.{Load}
use Rattle.torture_commands.specs.Limits.{is_within}
use Rattle.torture_run.specs.declared.asked.Asked.{Asked}
use Rattle.torture_run.specs.declared.asked.Asked.TheVariants.{Command as CommandOf, Run as RunOf, Calls}
use Rattle.torture_run.specs.declared.asked.Run.{Run}

-- as many threads as a world has actors, and an end
abbrev pub is_load_within : Load → Bool
is_load_within load = is_in 1 64 load.readers && is_in 1 16 load.updaters && is_in 1 8 load.workers && is_in 1 4294967295 load.rounds && option_map_or (is_in 1 86400) load.seconds true

abbrev pub is_run_within : Run → Bool
is_run_within run = is_load_within run.load

abbrev pub IsRunWithin : Run → Type 0
IsRunWithin run = IsTrue (is_run_within run)

abbrev pub is_asked_within : Asked → Bool
is_asked_within (CommandOf command) = is_within command
is_asked_within (RunOf run) = is_run_within run
is_asked_within Calls = true

abbrev pub IsAskedWithin : Asked → Type 0
IsAskedWithin asked = IsTrue (is_asked_within asked)

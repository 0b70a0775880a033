-- What the options of a command say, as `clap` finds them in the words.
use Rattle.std.specs.Prelude.{ℕ, Bool, false, ◌^◌, ◌-◌, ◌==◌, List, Option, Some, None, if◌then◌else◌, codes, option_and_then, option_map, unwrap_or}
use Rattle.std.specs.Option.{option_map_or}
use Rattle.std.specs.Str.{bytes_eq}
use Rattle.std.specs.Str.Parse.{digits_value, without_leading_plus}
use Rattle.clap.specs.ValueTests.{is_unsigned_in}
use Rattle.clap.specs.Words.{Row, Text, first_of, one_of}
use Rattle.reader_word.specs.declared.layout.Layout.{Layout}
use Rattle.reader_word.specs.declared.layout.Layout.TheVariants.{Narrow, Wide}
use Rattle.world_state.specs.declared.config.Config.{Config}
use Rattle.world_state.specs.declared.config.Flavour.{Flavour}
use Rattle.world_state.specs.declared.config.Flavour.TheVariants.{Memb, Qsbr}
use Rattle.torture_commands.specs.declared.command.Command.{Command}
use Rattle.torture_commands.specs.declared.command.Command.TheVariants as command
use Rattle.torture_commands.specs.declared.command.Walk.{Walk}
use Rattle.live_load.specs.declared.load.Load.{Load}
use Rattle.live_load.specs.declared.target.Target.{Target}
use Rattle.live_load.specs.declared.target.Target.TheVariants as target
use Rattle.torture_run.specs.declared.asked.Asked.{Asked}
use Rattle.torture_run.specs.declared.asked.Asked.TheVariants as asked
use Rattle.torture_run.specs.declared.asked.Run.{Run}

-- the number that the text writes, where it is one of this many bits
abbrev pub number_in : ℕ → Text → Option ℕ
number_in bits text = if is_unsigned_in 0 (2 ^ bits - 1) text then Some (digits_value 10 (without_leading_plus text)) else None

-- the number that an option says
abbrev pub number_of : ℕ → List Row → Text → Option ℕ
number_of bits rows id = option_and_then (number_in bits) (one_of id rows)

-- or this one, where it says none; `clap` has the same defaults for the options of `walk`, so none is left out there
abbrev pub number_or : ℕ → List Row → Text → ℕ → ℕ
number_or bits rows id other = unwrap_or (number_of bits rows id) other

abbrev pub flag_of : List Row → Text → Bool
flag_of rows id = option_map_or (λ text. bytes_eq text (codes "true")) (one_of id rows) false

-- 2 has wide reader words
abbrev pub layout_said : ℕ → Layout
layout_said version = if version == 2 then Wide else Narrow

abbrev pub flavour_said : Option Text → Flavour
flavour_said name = if option_map_or (λ text. bytes_eq text (codes "qsbr")) name false then Qsbr else Memb

abbrev pub says : Option Text → Text → Bool
says found name = option_map_or (λ text. bytes_eq text name) found false

-- chains, where it names none of the others
abbrev pub target_said : Option Text → Target
target_said name =
    if says name (codes "lists") then target.Lists
    else if says name (codes "tables") then target.Tables
    else if says name (codes "growth") then target.Growth
    else target.Chains

abbrev pub config_said : List Row → Config
config_said rows = record {
  layout = layout_said (number_or 32 rows (codes "format") 1);
  flavour = flavour_said (first_of (codes "flavour") rows);
  readers = number_or 32 rows (codes "readers") 2;
  updaters = number_or 32 rows (codes "updaters") 1;
  workers = number_or 32 rows (codes "workers") 1;
  chains = number_or 32 rows (codes "chains") 1;
}

abbrev pub walk_said : List Row → Walk
walk_said rows = record {
  config = config_said rows;
  lines = number_or 32 rows (codes "lines") 1000;
  seed = number_or 64 rows (codes "seed") 1;
  schedule = flag_of rows (codes "schedule");
  stop = option_map (λ actor. record { actor = actor; from = number_or 32 rows (codes "from") 1 }) (number_of 32 rows (codes "stop"));
}

abbrev pub check_said : List Row → Command
check_said rows = if flag_of rows (codes "follow") then command.Follow else command.Check

-- where a time alone ends the run, there are as many rounds as can be
abbrev pub rounds_beside : Option ℕ → ℕ
rounds_beside None = 1000
rounds_beside (Some seconds) = 4294967295

abbrev pub load_said : List Row → Load
load_said rows = record {
  readers = number_or 32 rows (codes "readers") 2;
  updaters = number_or 32 rows (codes "updaters") 1;
  workers = number_or 32 rows (codes "workers") 1;
  rounds = number_or 32 rows (codes "rounds") (rounds_beside (number_of 32 rows (codes "seconds")));
  seconds = number_of 32 rows (codes "seconds");
}

abbrev pub run_said : List Row → Run
run_said rows = record { flavour = flavour_said (first_of (codes "flavour") rows); target = target_said (first_of (codes "load") rows); load = load_said rows }

-- the command of that name, with its options
abbrev pub asked_by_name : Text → List Row → Asked
asked_by_name name rows =
    if bytes_eq name (codes "check") then asked.Command (check_said rows)
    else if bytes_eq name (codes "walk") then asked.Command (command.Walk (walk_said rows))
    else if bytes_eq name (codes "run") then asked.Run (run_said rows)
    else if bytes_eq name (codes "call") then asked.Calls
    else asked.Command command.Replay

-- what the words ask for; `replay` where they name none of the others
abbrev pub asked_said : Option (Text × List Row) → Asked
asked_said named = option_map_or (λ found. asked_by_name found.0 found.1) named (asked.Command command.Replay)

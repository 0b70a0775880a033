-- The limits of what the program is asked to do.
use Rattle.std.specs.Prelude.{◌+◌, ◌&&◌, nat_le, nat_lt, Bool, true, IsTrue}
use Rattle.std.specs.Option.{option_map_or}
use Rattle.world_state.specs.declared.config.Config.{Config}
use Rattle.world_state.specs.Limits.{is_in, is_within_limits}
use Rattle.torture_commands.specs.declared.command.Command.{Command}
use Rattle.torture_commands.specs.declared.command.Command.TheVariants.{Replay, Check, Follow, Walk as WalkOf}
use Rattle.torture_commands.specs.declared.command.Walk.{Walk}
use Rattle.torture_commands.specs.declared.command.Stop.{Stop}

-- the actor is there, and the line is one of a million
abbrev pub is_stop_within : Config → Stop → Bool
is_stop_within config stop = nat_lt stop.actor (config.readers + config.updaters + config.workers) && is_in 1 1000000 stop.from

abbrev pub is_walk_within : Walk → Bool
is_walk_within walk = is_within_limits walk.config && nat_le walk.lines 1000000 && option_map_or (is_stop_within walk.config) walk.stop true

abbrev pub is_within : Command → Bool
is_within Replay = true
is_within Check = true
is_within Follow = true
is_within (WalkOf walk) = is_walk_within walk

abbrev pub IsWithin : Command → Type 0
IsWithin command = IsTrue (is_within command)

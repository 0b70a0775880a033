-- How large a world may be.
use Rattle.std.specs.Prelude.{ℕ, Bool, nat_le, ◌&&◌}
use Rattle.world_state.specs.declared.config.Config.{Config}

abbrev pub is_in : ℕ → ℕ → ℕ → Bool
is_in low high n = nat_le low n && nat_le n high

abbrev pub is_within_limits : Config → Bool
is_within_limits c = is_in 1 64 c.readers && is_in 1 16 c.updaters && is_in 1 8 c.workers && is_in 1 64 c.chains

use Rattle.std.proofs.Common.{◌∷◌}
use Rattle.live_log.specs.declared.reading.Mark.TheVariants.{Read}
use Rattle.live_log.proofs.Readings.{held_there, finds}
use Rattle.live_log.proofs.fitting.found_is_held.Goals as goal

pub returns : goal.returns
returns g m s r o e = held_there (Read s r ∷ m) s o (finds m s r o e)

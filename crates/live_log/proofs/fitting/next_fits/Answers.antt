use Rattle.std.proofs.Common.{[], ◌∷◌}
use Rattle.rcu_model.proofs.Lemmas.{in_sections}
use Rattle.live_log.specs.Log.{state_of}
use Rattle.live_log.proofs.Linked.{follows_is}
use Rattle.live_log.proofs.Machine.{kept_log}
use Rattle.live_log.specs.Fit.{log_in}
use Rattle.live_log.specs.declared.reading.Reading.TheVariants.{Next}
use Rattle.live_log.specs.declared.reading.Mark.TheVariants.{Read}
use Rattle.live_log.proofs.Readings.{fitted, runs, next_fits, there_held}
use Rattle.live_log.proofs.fitting.next_fits.Goals as goal

pub returns : goal.returns
returns g c qsbr m s o found run h is has e = let a = g.K.ChainRule.allows in
    fitted (Read s (Next o found) ∷ m) (next_fits qsbr a [] m s o found run (runs m h) (in_sections (state_of (log_in m)).sections s is) (there_held m s o has) (follows_is (log_in m) o found (kept_log qsbr a (log_in m) run) e))

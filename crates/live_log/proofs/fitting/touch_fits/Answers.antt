use Rattle.std.proofs.Common.{[], ◌∷◌}
use Rattle.rcu_model.proofs.Lemmas.{in_sections}
use Rattle.live_log.specs.Log.{state_of}
use Rattle.live_log.specs.Fit.{log_in}
use Rattle.live_log.specs.declared.reading.Reading.TheVariants.{Touch}
use Rattle.live_log.specs.declared.reading.Mark.TheVariants.{Read}
use Rattle.live_log.proofs.Readings.{fitted, runs, touch_fits, there_held}
use Rattle.live_log.proofs.fitting.touch_fits.Goals as goal

pub returns : goal.returns
returns g c qsbr m s o run h is has = fitted (Read s (Touch o) ∷ m) (touch_fits qsbr g.K.ChainRule.allows [] m s o run (runs m h) (in_sections (state_of (log_in m)).sections s is) (there_held m s o has))

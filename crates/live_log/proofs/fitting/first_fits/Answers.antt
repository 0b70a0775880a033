use Rattle.std.proofs.Common.{[], ◌∷◌}
use Rattle.rcu_model.proofs.Lemmas.{in_sections}
use Rattle.live_log.specs.Log.{state_of}
use Rattle.live_log.specs.Fit.{log_in}
use Rattle.live_log.specs.declared.reading.Reading.TheVariants.{First}
use Rattle.live_log.specs.declared.reading.Mark.TheVariants.{Read}
use Rattle.live_log.proofs.Readings.{fitted, runs, first_fits}
use Rattle.live_log.proofs.fitting.first_fits.Goals as goal

pub returns : goal.returns
returns g c qsbr m s d found run h is e = fitted (Read s (First d found) ∷ m) (first_fits qsbr g.K.ChainRule.allows [] m s d found run (runs m h) (in_sections (state_of (log_in m)).sections s is) e)

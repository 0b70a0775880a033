use Rattle.rcu_model.proofs.Lemmas.{in_sections}
use Rattle.live_log.specs.Log.{state_of}
use Rattle.live_log.specs.Fit.{later, log_in}
use Rattle.live_log.proofs.Readings.{fitted, runs, goes_on, held_there, there_held, holds_on}
use Rattle.live_log.proofs.fitting.fitted_goes_on.Goals as goal

pub returns-clause-fitted : goal.returns-clause-fitted
returns-clause-fitted g c qsbr since m run h = fitted (later since m) (goes_on qsbr g.K.ChainRule.allows since m run (runs m h))

pub returns-clause-held : goal.returns-clause-held
returns-clause-held g c qsbr since m s o run was is has =
    held_there (later since m) s o (holds_on qsbr g.K.ChainRule.allows since m s o run (in_sections (state_of (log_in m)).sections s was) (in_sections (state_of (log_in (later since m))).sections s is) (there_held m s o has))

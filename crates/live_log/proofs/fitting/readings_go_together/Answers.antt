use Rattle.live_log.specs.Fit.{read_by}
use Rattle.live_log.proofs.Readings.{fitted, runs, together}
use Rattle.live_log.proofs.fitting.readings_go_together.Goals as goal

pub returns : goal.returns
returns g m each = fitted m (together m (λ s. runs (read_by s m) (each s)))

use Rattle.schedule.proofs.Cited.{[], no_header}
use Rattle.schedule.proofs.Standing.{stands_header}
use Rattle.schedule.proofs.feeding.Replay.new.Goals as goal

pub returns-clause-stands : goal.returns-clause-stands
returns-clause-stands c = stands_header c.new.result [] c.new.ensures no_header

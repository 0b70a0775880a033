use Rattle.std.proofs.Common.{◌∷◌}
use Rattle.live_log.specs.declared.event.LiveEvent.TheVariants.{ChainNote, Object}
use Rattle.live_log.proofs.Machine.{run_of}
use Rattle.live_log.proofs.laws.each_change_was_allowed.Goals as goal

pub returns-clause-changes : goal.returns-clause-changes
returns-clause-changes g c qsbr log before later event run is = (run_of qsbr g.K.ChainRule.allows (Object event ∷ before) log (later, is) run).0.1

pub returns-clause-notes : goal.returns-clause-notes
returns-clause-notes g c qsbr log before later chain note run is = (run_of qsbr g.K.ChainRule.allows (ChainNote chain note ∷ before) log (later, is) run).0

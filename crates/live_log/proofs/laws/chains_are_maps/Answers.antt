use Rattle.live_log.proofs.Mapping.{keyed_maps, tabled_maps}
use Rattle.live_log.proofs.laws.chains_are_maps.Goals as goal

pub returns-clause-keys : goal.returns-clause-keys
returns-clause-keys c = keyed_maps

pub returns-clause-tables : goal.returns-clause-tables
returns-clause-tables c = tabled_maps

-- Two logs are equal in one way at most, since each event has a code: so an equality of logs may stand in a ghost field.
use base.Stored.{Coded-set, coded_list}
use Rattle.live_log.specs.Log.{Log}
use Rattle.live_log.specs.contracts.event.LiveEvent.{the_row}

pub log_set : IsSet Log
log_set = Coded-set (coded_list the_row.coded)

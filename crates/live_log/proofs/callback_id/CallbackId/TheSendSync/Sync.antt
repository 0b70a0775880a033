use denote.Param.Send.{IsSync, part_keyless}
use Rattle.live_log.specs.contracts.callback_id.CallbackId.{the_row}
use Rattle.live_log.proofs.callback_id.CallbackId.TheSendSync.Send.{send}

pub sync : IsSync the_row
sync = record { shared = λ d b o κ q. part_keyless the_row send q d b o }

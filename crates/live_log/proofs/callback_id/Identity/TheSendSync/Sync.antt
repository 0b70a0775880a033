use Rattle.live_log.proofs.Cited.{IsSync, part_keyless, RattleType}
use Rattle.live_log.specs.contracts.callback_id.Identity.{the_row}
use Rattle.live_log.proofs.callback_id.Identity.TheSendSync.Send.{send}

pub sync : (T : RattleType) → IsSync (the_row T)
sync T = record { shared = λ d b o κ q. part_keyless (the_row T) (send T) q d b o }

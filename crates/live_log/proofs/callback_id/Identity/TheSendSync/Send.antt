use Rattle.live_log.proofs.Cited.{IsSend, RattleType}
use Rattle.live_log.specs.contracts.callback_id.Identity.{the_row}

pub send : (T : RattleType) → IsSend (the_row T)
send T = record { owned = λ d vs. ((λ vss. (tt, ((λ uss. (tt, tt)), tt))), tt); leaving = λ k f vs. tt }

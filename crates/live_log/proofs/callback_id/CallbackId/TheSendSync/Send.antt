use denote.Param.Send.{IsSend}
use Rattle.live_log.specs.contracts.callback_id.CallbackId.{the_row}

pub send : IsSend the_row
send = record { owned = λ d vs. ((λ vss. (tt, ((λ uss. (tt, tt)), tt))), tt); leaving = λ k f vs. tt }

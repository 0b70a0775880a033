-- Why a replay stopped whose text of answers has a fault.
use Rattle.schedule_text.specs.declared.fault.AnswersFault.{AnswersFault}
use Rattle.schedule_text.specs.declared.fault.AnswersFault.TheVariants as answers
use Rattle.schedule_text.specs.declared.fault.ReplayFault.{ReplayFault}
use Rattle.schedule_text.specs.declared.fault.ReplayFault.TheVariants.{BadText, Memory}

abbrev pub replay_fault : AnswersFault → ReplayFault
replay_fault (answers.BadText line column) = BadText line column
replay_fault answers.Memory = Memory

use Rattle.judging.proofs.Cited.{◌++◌, List, take, Event, HasTaken}
use Rattle.judging.proofs.judging.take_all.Given as goal

abbrev pub invariant-loop-event : goal.invariant-loop-event
invariant-loop-event l = (log : List Event) → HasTaken l.initial.judge log → HasTaken l.judge (log ++ take l.event-index l.events)

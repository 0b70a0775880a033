use Rattle.schedule_text.proofs.Cited.{◌≡◌, take, count_by}
use Rattle.schedule_text.specs.Answers.{opens, closes, retires, runs}
use Rattle.schedule_text.proofs.counts.Counts.of.Given as goal

abbrev pub invariant-loop-event : goal.invariant-loop-event
invariant-loop-event l = record {
  opened : l.opened ≡ count_by opens (take l.event-index l.log);
  closed : l.closed ≡ count_by closes (take l.event-index l.log);
  retired : l.retired ≡ count_by retires (take l.event-index l.log);
  run : l.runs ≡ count_by runs (take l.event-index l.log);
}

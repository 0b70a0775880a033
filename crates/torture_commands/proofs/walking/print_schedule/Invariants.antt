use Rattle.torture_commands.specs.Walking.{IsPrinting}
use Rattle.torture_commands.proofs.walking.print_schedule.Given as goal

abbrev pub invariant-loop-done : goal.invariant-loop-done
invariant-loop-done g l = IsPrinting l.walk l.walking.world l.walking.draw l.done (g.W.Write.contents l.initial.writer) (g.W.Write.contents l.writer) l.out.items

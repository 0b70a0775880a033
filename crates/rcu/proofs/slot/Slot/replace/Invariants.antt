use Rattle.std.proofs.Common.{◌≡◌}
use Rattle.rcu.specs.Slots.{TriesInVain}
use Rattle.rcu.proofs.slot.Slot.replace.Given as goal

abbrev pub invariant-loop : goal.invariant-loop
invariant-loop g l = (l.callback ≡ l.fn.callback) × TriesInVain g.W.Caller g.B.Site.sizes l.self.chain l.fn.caller l.caller

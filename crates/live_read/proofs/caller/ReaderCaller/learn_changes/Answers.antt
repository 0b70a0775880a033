use Rattle.live_read.proofs.Cited.{refl, ap, count_in}
use Rattle.live_read.proofs.Staying.{stays_in}
use Rattle.live_read.proofs.caller.ReaderCaller.learn_changes.Goals as goal

pub returns-clause-inside : goal.returns-clause-inside
returns-clause-inside g c = stays_in c.args.self.now.core _ refl (ap (λ m. m.0.seen) c.learn_changes.ensures.2) (ap (λ m. count_in m.0.slot) c.learn_changes.ensures.2)

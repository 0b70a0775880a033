use Rattle.std.proofs.Common.{refl}
use Rattle.live_write.proofs.chain.Chain.hear.Goals as goal

pub returns-clause-learned : goal.returns-clause-learned
returns-clause-learned g c = let e = c.hear_caller.ensures in let told = e.told in (e.seat.0, e.seat.1, e.learned, (told.1, told.2, told.0.run), refl)

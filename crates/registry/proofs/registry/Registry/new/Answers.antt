use Rattle.registry.proofs.Keeping.{none_kept}
use Rattle.registry.proofs.registry.Registry.new.Goals as goal

pub invariant_of-result : goal.invariant_of-result
invariant_of-result c = (none_kept _ _ _ c.in-Ok.ensures.empty c.in-Ok.ensures.capacity c.in-Ok-numbers_below.ensures.numbers, c.in-Ok-numbers_below.ensures.room)

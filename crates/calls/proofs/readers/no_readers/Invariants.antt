use Rattle.calls.proofs.Cited.{IfSome, All}
use Rattle.calls.specs.Standing.{Stands}
use Rattle.calls.proofs.readers.no_readers.Given as goal

abbrev pub invariant-loop : goal.invariant-loop
invariant-loop g l = All (λ o. IfSome o (λ w. Stands w.reader.core w.held)) l.places.items

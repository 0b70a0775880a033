-- The sections that were ever opened, as the checker keeps them.
use Rattle.std.specs.Prelude.{ℕ, nat_eq, List, []}
use Rattle.std.specs.HashMap.{get}
use Rattle.std.specs.Option.{unwrap_or}
use Rattle.number_runs.specs.Runs.{Has}
use Rattle.rcu_model.specs.declared.event.SectionId.{SectionId}
use Rattle.rcu_judge.specs.declared.seen.SeenSections.{SeenSections}

-- the ordinals of a reader's sections, as runs
abbrev pub ordinals_of : SeenSections → ℕ → List (ℕ × ℕ)
ordinals_of seen reader = unwrap_or (get nat_eq seen.readers reader) []

-- the section was ever opened
abbrev pub WasSeen : SeenSections → SectionId → Type 0
WasSeen seen s = Has (ordinals_of seen s.reader) s.ordinal

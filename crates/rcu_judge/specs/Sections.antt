-- The sections of a log, as the checker keeps them, against those of the machine.
use Rattle.std.specs.Prelude.{◌≡◌, ◌↔◌, ℕ, Bool, List, [], ◌∷◌, ◌++◌, Option, Some, None, if◌then◌else◌, IsSome, IsTrue}
use Rattle.std.specs.Option.{unwrap_or}
use Rattle.indexmap.specs.IndexMap.{get, values}
use Rattle.rcu_model.specs.declared.event.SectionId.{SectionId}
use Rattle.rcu_judge.specs.declared.roster.Kept.{Kept}
use Rattle.rcu_judge.specs.declared.sections.Sections.{Sections}
use Rattle.rcu_model.specs.Sets.{same_section, HasSection, without_section}
use Rattle.rcu_judge.specs.Roster.{IsKept, Awaits}
use Rattle.rcu_judge.specs.Seen.{WasSeen}

-- what is kept of a section, if anything
abbrev pub found : Sections → SectionId → Option Kept
found k s = get same_section k.kept s

-- the place of one that is there
abbrev pub place_if_there : Option Kept → Option ℕ
place_if_there None = None
place_if_there (Some kept) = if kept.is_there then Some kept.place else None

-- the place of a section that is open
abbrev pub found_place : Sections → SectionId → Option ℕ
found_place k s = place_if_there (found k s)

abbrev pub place_of : Sections → SectionId → ℕ
place_of k s = unwrap_or (found_place k s) 0

-- these sections were ever opened, and these are still open: those that are kept and not marked
pub record AreSections (k : Sections) (seen still : List SectionId) : Type 0 where
  pub known : (s : SectionId) → HasSection seen s ↔ WasSeen k.seen s
  pub placed : (s : SectionId) → HasSection still s ↔ IsSome (found_place k s)
  pub came : (s : SectionId) → IsSome (found k s) → HasSection seen s
  pub kept : IsKept k.opened (values k.kept) k.oldest

-- these are the sections that were opened before the moment and are still open
abbrev pub AwaitsSections : Sections → List SectionId → List SectionId → ℕ → Type 0
AwaitsSections k still awaited moment = Awaits (HasSection still) (HasSection awaited) (place_of k) k.opened moment

-- a section was opened, if it was fresh, and what is awaited stays
pub record Opens (old new : Sections) (seen still : List SectionId) (s : SectionId) (opened : Bool) : Type 0 where
  pub fresh : IsTrue opened ↔ ¬ HasSection seen s
  pub open_now : IsTrue opened → AreSections new (s ∷ seen) (still ++ s ∷ [])
  pub awaits : IsTrue opened → (awaited : List SectionId) (moment : ℕ) → AwaitsSections old still awaited moment → AwaitsSections new (still ++ s ∷ []) awaited moment

-- a section was closed, if it was open, and is no more awaited
pub record Closes (old new : Sections) (seen still : List SectionId) (s : SectionId) (closed : Bool) : Type 0 where
  pub was : IsTrue closed ↔ HasSection still s
  pub closed_now : IsTrue closed → AreSections new seen (without_section s still)
  pub awaits : IsTrue closed → (awaited : List SectionId) (moment : ℕ) → AwaitsSections old still awaited moment → AwaitsSections new (without_section s still) (without_section s awaited) moment

-- the same sections were opened and are open, and have the same places
pub record StaySections (old new : Sections) : Type 0 where
  pub are : (seen still : List SectionId) → AreSections old seen still → AreSections new seen still
  pub places : (s : SectionId) → found_place new s ≡ found_place old s
  pub opened : new.opened ≡ old.opened

-- A replay from a reader to a writer, which may tell their bytes.
use Rattle.std.specs.Prelude.{◌≡◌, ◌⊎◌, ℕ, ◌<◌, ◌^◌, List, ◌++◌, length, Option, None, Some, Result, Ok, Err}
use Rattle.std.specs.Io.KnownBytes.{Appends, Consumes}
use Rattle.schedule_text.specs.declared.counts.Counts.{Counts}
use Rattle.schedule_text.specs.declared.fault.ReplayFault.{ReplayFault}
use Rattle.schedule_text.specs.declared.fault.ReplayFault.TheVariants.{Read, Write, Memory}
use Rattle.schedule.specs.Printed.{IsBeginning, Ends}
use Rattle.schedule.specs.Safety.{IsSafelyPrinted}
use Rattle.schedule.specs.Stream.{Progress, Failed, Stands, IsSound}

-- the known bytes are these
abbrev pub Tells : Option (List ℕ) → List ℕ → Type 0
Tells None text = Unit {0}
Tells (Some known) text = known ≡ text

-- the writer took the bytes up to these
pub record WroteFront (before after : Option (List ℕ)) (bytes rest : List ℕ) : Type 0 where
  pub front : List ℕ
  pub parts : bytes ≡ front ++ rest
  pub writes : Appends before after front

-- the writer takes all the bytes, or those before a fault
abbrev pub Writes : Option (List ℕ) → Option (List ℕ) → List ℕ → Result (Unit {0}) ReplayFault → Type 0
Writes before after bytes (Ok _) = Appends before after bytes
Writes before after bytes (Err fault) = (fault ≡ Write) × ((rest : List ℕ) × WroteFront before after bytes rest)

-- a reader fails, or memory for its bytes was refused, and some of its bytes were read
abbrev pub ReadsNoMore : Option (List ℕ) → Option (List ℕ) → ReplayFault → Type 0
ReadsNoMore given left fault = ((fault ≡ Read) ⊎ (fault ≡ Memory)) × ((read : List ℕ) × Consumes given left read)

-- where a replay stands after a piece, and what it makes of what follows
abbrev pub Passed : Progress → List ℕ → List ℕ → Result (Unit {0}) ReplayFault → Type 0
Passed new fed printed (Ok _) = Stands new fed printed × IsSound new
Passed new fed printed (Err Write) = (more : List ℕ) → IsBeginning (fed ++ more) printed
Passed new fed printed (Err fault) = Stands (Failed fault) fed printed

pub record PassesOn (new : Progress) (fed earlier : List ℕ) (before after : Option (List ℕ)) (result : Result (Unit {0}) ReplayFault) : Type 0 where
  pub printed : List ℕ
  pub writes : Appends before after printed
  pub passed : Passed new fed (earlier ++ printed) result

abbrev pub Passes : Progress → Progress → List ℕ → Option (List ℕ) → Option (List ℕ) → Result (Unit {0}) ReplayFault → Type 0
Passes old new piece before after result = (fed earlier : List ℕ) → Stands old fed earlier → PassesOn new (fed ++ piece) earlier before after result

-- what is written at the end of the input
abbrev pub Closed : List ℕ → List ℕ → Result Counts ReplayFault → Type 0
Closed text printed (Err Write) = IsBeginning text printed
Closed text printed result = Ends text printed result

pub record ClosesWith (text earlier : List ℕ) (before after : Option (List ℕ)) (result : Result Counts ReplayFault) : Type 0 where
  pub printed : List ℕ
  pub writes : Appends before after printed
  pub closed : Closed text (earlier ++ printed) result

abbrev pub Closes : Progress → Option (List ℕ) → Option (List ℕ) → Result Counts ReplayFault → Type 0
Closes old before after result = (fed earlier : List ℕ) → Stands old fed earlier → ClosesWith fed earlier before after result

-- no fault came, and each line that has ended is answered
pub record IsAnsweredSoFar (fed printed : List ℕ) : Type 0 where
  pub progress : Progress
  pub sound : IsSound progress
  pub stands : Stands progress fed printed

-- What is written of the reader's text. After a read fault it is the answers to the lines that were read. It tells one
-- safe log, where it is less than 2^63 bytes.
abbrev pub Replayed : Option (List ℕ) → Option (List ℕ) → List ℕ → List ℕ → Result Counts ReplayFault → Type 0
Replayed given left text printed (Err Read) = Consumes given left text × IsAnsweredSoFar text printed
Replayed given left text printed result = Tells given text × Closed text printed result

pub record Replays (given left before after : Option (List ℕ)) (result : Result Counts ReplayFault) : Type 0 where
  pub text : List ℕ
  pub printed : List ℕ
  pub writes : Appends before after printed
  pub replayed : Replayed given left text printed result
  pub safe : length printed < 2 ^ 63 → IsSafelyPrinted printed result

-- in the middle of the reader's text
pub record Replaying (given left before after : Option (List ℕ)) (progress : Progress) : Type 0 where
  pub read : List ℕ
  pub printed : List ℕ
  pub reads : Consumes given left read
  pub writes : Appends before after printed
  pub stands : Stands progress read printed
  pub sound : IsSound progress

-- What a program ends with, also where its words give no command or cannot be had.
use Rattle.std.specs.Prelude.{◌≡◌, ◌≢◌, ◌⊎◌, ℕ, List, Option}
use Rattle.clap.specs.Words.{Text, kind_of}
use Rattle.clap.specs.declared.error.Error.{Error}
use Rattle.std.specs.declared.io.ErrorKind.{ErrorKind}
use Rattle.std.specs.declared.io.ErrorKind.TheVariants.{InvalidData}
use Rattle.torture_run.specs.declared.asked.Asked.{Asked}
use Rattle.torture_run.specs.Ending.{ExecutesAsked}
use Rattle.torture.specs.Words.{SayAsked, IsRefused, EndsBy, status_of_kind}

-- a word that is not UTF-8 is a mistake, and else memory was refused
abbrev pub status_of_words : ErrorKind → ℕ
status_of_words InvalidData = 2
status_of_words _ = 3

-- good, a log that is no run or wrong counts, bad input or words, a fault of reading, writing or memory
abbrev pub IsStatus : ℕ → Type 0
IsStatus status = (status ≡ 0) ⊎ (status ≡ 1) ⊎ (status ≡ 2) ⊎ (status ≡ 3)

-- the words ask for something, which is done and ends so; or clap refuses them, which is told, and nothing is read, nor
-- written unless they ask for help
abbrev pub EndsAfter : List Text → Option (List ℕ) → Option (List ℕ) → Option (List ℕ) → Option (List ℕ) → ℕ → Type 0
EndsAfter words given left before after status =
    ((said : Asked) × SayAsked words said × ExecutesAsked said given left before after status)
    ⊎ (((error : Error) × IsRefused words error × EndsBy (kind_of error) status × (status_of_kind (kind_of error) ≢ 0 → after ≡ before)) × (left ≡ given))

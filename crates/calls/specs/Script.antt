-- What is written of a script.
use Rattle.std.specs.Prelude.{◌≡◌, ◌⊎◌, ℕ, ◌<◌, false, List, ◌++◌, [], length, All, Option, Result, Ok, Err}
use Rattle.std.specs.List.{flat_map}
use Rattle.std.specs.Io.KnownBytes.{Appends, Consumes}
use Rattle.schedule_text.specs.declared.fault.ReplayFault.{ReplayFault}
use Rattle.schedule_text.specs.declared.fault.ReplayFault.TheVariants.{BadText, BadConfig, Read, Write, Memory}
use Rattle.schedule_text.specs.Fault.{IsBad, line_after}
use Rattle.schedule.specs.Ports.{Tells, Writes}
use Rattle.call_text.specs.declared.answer.Answer.{Answer}
use Rattle.call_text.specs.declared.call.Call.{Call}
use Rattle.call_text.specs.declared.call.Header.{Header}
use Rattle.call_text.specs.Answers.{answer_line}
use Rattle.call_text.specs.Header.{IsHeader, IsHeaderText, header}
use Rattle.call_text.specs.Spelling.{IsCall, IsCallText, calls_text}
use Rattle.rcu_hash.specs.domain.declared.config.LiveConfig.{LiveConfig}
use Rattle.rcu_hash.specs.domain.Config.{is_supported}

-- ---- the lines

-- calls, up to a line of this number, and an answer for each
pub record Answered (text rest printed : List ℕ) (line : ℕ) : Type 0 where
  pub calls : List Call
  pub answers : List Answer
  pub each : All IsCall calls
  pub whole : text ≡ calls_text calls ++ rest
  pub many : length answers ≡ length calls
  pub lines : printed ≡ flat_map answer_line answers
  pub number : line ≡ line_after (length calls)

-- the writer took the answers to all lines before the rest
pub record AnswersUpTo (text rest : List ℕ) (line : ℕ) (before after : Option (List ℕ)) : Type 0 where
  pub printed : List ℕ
  pub answered : Answered text rest printed line
  pub writes : Appends before after printed

-- the writer took a beginning of such answers
pub record BreaksOff (text : List ℕ) (before after : Option (List ℕ)) : Type 0 where
  pub rest : List ℕ
  pub line : ℕ
  pub printed : List ℕ
  pub more : List ℕ
  pub answered : Answered text rest (printed ++ more) line
  pub writes : Appends before after printed

-- a bad line: the answers to all lines before it
pub record BadLine (text : List ℕ) (line column : ℕ) (before after : Option (List ℕ)) : Type 0 where
  pub rest : List ℕ
  pub some : 0 < length rest
  pub bad : IsBad IsCallText rest column
  pub up_to : AnswersUpTo text rest line before after

-- what is written of lines
abbrev pub AnswersLines : List ℕ → Option (List ℕ) → Option (List ℕ) → Result (Unit {0}) ReplayFault → Type 0
AnswersLines text before after (Ok _) = (line : ℕ) × AnswersUpTo text [] line before after
AnswersLines text before after (Err (BadText line column)) = BadLine text line column before after
AnswersLines text before after (Err Write) = BreaksOff text before after
AnswersLines text before after (Err Memory) = BreaksOff text before after
AnswersLines text before after (Err BadConfig) = ⊥
AnswersLines text before after (Err Read) = ⊥

-- ---- between two lines

-- the answers so far are written, or wait to be
pub record Answering (text rest : List ℕ) (line : ℕ) (before now : Option (List ℕ)) (out : List ℕ) : Type 0 where
  pub written : List ℕ
  pub writes : Appends before now written
  pub answered : Answered text rest (written ++ out) line

-- some of what waits is written, from its front on
abbrev pub WritesPiece : Option (List ℕ) → Option (List ℕ) → List ℕ → List ℕ → Result (Unit {0}) ReplayFault → Type 0
WritesPiece before after old new (Ok _) = (piece : List ℕ) × (old ≡ piece ++ new) × Appends before after piece
WritesPiece before after old new (Err fault) = Writes before after old (Err fault)

-- all that waits is written, and then a bad line is told; or writing failed
abbrev pub StopsAt : Option (List ℕ) → Option (List ℕ) → List ℕ → ℕ → ℕ → Result (Unit {0}) ReplayFault → Type 0
StopsAt before after out line column result =
    ((result ≡ Err (BadText line column)) × Appends before after out) ⊎ ((result ≡ Err Write) × Writes before after out (Err Write))

-- ---- the whole

abbrev pub sizes_of : Header → LiveConfig
sizes_of h = record { slots = h.slots; queues = h.queues; chains = h.chains; pool = h.pool }

-- what is written of the lines after a header: nothing, where it is out of its limits
abbrev pub AnswersIn : Header → List ℕ → Option (List ℕ) → Option (List ℕ) → Result (Unit {0}) ReplayFault → Type 0
AnswersIn h text before after (Err BadConfig) = (is_supported (sizes_of h) ≡ false) × (after ≡ before)
AnswersIn h text before after result = AnswersLines text before after result

-- a header, and what is written of the lines after it
pub record HasHeader (text : List ℕ) (before after : Option (List ℕ)) (result : Result (Unit {0}) ReplayFault) : Type 0 where
  pub first : Header
  pub body : List ℕ
  pub good : IsHeader first
  pub whole : text ≡ header first ++ body
  pub answers : AnswersIn first body before after result

-- no header: nothing is written
pub record BadHeader (text : List ℕ) (column : ℕ) (before after : Option (List ℕ)) (result : Result (Unit {0}) ReplayFault) : Type 0 where
  pub bad : IsBad IsHeaderText text column
  pub told : result ≡ Err (BadText 1 column)
  pub nothing : after ≡ before

abbrev pub AnswersScript : List ℕ → Option (List ℕ) → Option (List ℕ) → Result (Unit {0}) ReplayFault → Type 0
AnswersScript text before after result = ((column : ℕ) × BadHeader text column before after result) ⊎ HasHeader text before after result

-- the reader failed, or memory for its bytes was refused: nothing is written
pub record NoText (given left before after : Option (List ℕ)) (result : Result (Unit {0}) ReplayFault) : Type 0 where
  pub told : (result ≡ Err Read) ⊎ (result ≡ Err Memory)
  pub read : List ℕ
  pub reads : Consumes given left read
  pub nothing : after ≡ before

abbrev pub AnswersCalls : Option (List ℕ) → Option (List ℕ) → Option (List ℕ) → Option (List ℕ) → Result (Unit {0}) ReplayFault → Type 0
AnswersCalls given left before after result = NoText given left before after result ⊎ ((text : List ℕ) × Tells given text × AnswersScript text before after result)

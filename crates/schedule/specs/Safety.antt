-- What is printed tells one log, and that log keeps all its promises.
use Rattle.std.specs.Prelude.{◌≡◌, ℕ, ◌<◌, ◌^◌, List, ◌++◌, length, Result, Err}
use Rattle.rcu_model.specs.declared.event.Event.{Event}
use Rattle.rcu_model.specs.Promises.{IsSafeLog}
use Rattle.schedule_text.specs.declared.fault.ReplayFault.{ReplayFault}
use Rattle.schedule_text.specs.declared.fault.ReplayFault.TheVariants.{Write, Memory}
use Rattle.schedule_text.specs.AnswerLines.{TellsLog, IsAnswerText}
use Rattle.schedule_text.specs.Fault.{IsPartial}

-- lines of answers, whose events are one log and no other, and that log is safe
pub record TellsSafeLog (printed : List ℕ) : Type 0 where
  pub log : List Event
  pub tells : TellsLog printed log
  pub only : (other : List Event) → TellsLog printed other → other ≡ log
  pub safe : IsSafeLog log

-- such lines, and less than one more line
pub record BeginsSafely (printed : List ℕ) : Type 0 where
  pub whole : List ℕ
  pub rest : List ℕ
  pub parts : printed ≡ whole ++ rest
  pub less : IsPartial IsAnswerText rest
  pub safe : TellsSafeLog whole

-- what was printed with this result: a failed write and refused memory may leave less than a line at the end
abbrev pub IsSafelyPrinted : {X : Type 0} → List ℕ → Result X ReplayFault → Type 0
IsSafelyPrinted printed (Err Write) = BeginsSafely printed
IsSafelyPrinted printed (Err Memory) = BeginsSafely printed
IsSafelyPrinted printed result = TellsSafeLog printed

-- the same of what was printed earlier with what is appended now, where it is less than 2^63 bytes, as every slice is
pub record AppendsSafely {X : Type 0} (earlier before after : List ℕ) (result : Result X ReplayFault) : Type 0 where
  pub printed : List ℕ
  pub appends : after ≡ before ++ printed
  pub safe : length (earlier ++ printed) < 2 ^ 63 → IsSafelyPrinted (earlier ++ printed) result

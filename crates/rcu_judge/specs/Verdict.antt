-- What a verdict says of a log.
use Rattle.std.specs.Prelude.{◌≡◌, ◌+◌, ℕ, List, ◌∷◌, ◌++◌, length, codes}
use Rattle.rcu_model.specs.declared.event.Event.{Event}
use Rattle.rcu_model.specs.declared.event.Event.TheVariants.{Open, Close, First, Next, Touch, Push, Replace, Cut, Retire, Queue, Run, Ask, Answer, Bar, Clear}
use Rattle.rcu_judge.specs.declared.verdict.Rule.{Rule}
use Rattle.rcu_judge.specs.declared.verdict.Rule.TheVariants.{Section, Reading, Publishing, Retirement, Reclaiming, Asking}
use Rattle.rcu_judge.specs.declared.verdict.Verdict.{Verdict}
use Rattle.rcu_judge.specs.declared.verdict.Verdict.TheVariants.{Yes, No}
use Rattle.rcu_model.specs.Machine.{IsAllowed, IsRun, state_after}

-- the rule that an event goes by
abbrev pub rule_of : Event → Rule
rule_of (Open s) = Section
rule_of (Close s) = Section
rule_of (First s c found) = Reading
rule_of (Next s o found) = Reading
rule_of (Touch s o) = Reading
rule_of (Push c o) = Publishing
rule_of (Replace c old new) = Publishing
rule_of (Cut c o) = Publishing
rule_of (Retire o) = Retirement
rule_of (Queue o q) = Reclaiming
rule_of (Run o) = Reclaiming
rule_of (Ask a) = Asking
rule_of (Answer a) = Asking
rule_of (Bar b) = Asking
rule_of (Clear b) = Asking

abbrev pub name_of : Rule → List ℕ
name_of Section = codes "D3"
name_of Reading = codes "D4"
name_of Publishing = codes "D5"
name_of Retirement = codes "D6"
name_of Reclaiming = codes "D7"
name_of Asking = codes "D8"

-- the first event of the log that breaks its rule: those before it are a run, and it may not come after them
pub record IsFirstBreak (log : List Event) (at : ℕ) (rule : Rule) : Type 0 where
  pub before : List Event
  pub event : Event
  pub later : List Event
  pub split : log ≡ before ++ event ∷ later
  pub counted : at ≡ length before + 1
  pub run : IsRun before
  pub breaks : ¬ IsAllowed (state_after before) event
  pub named : rule ≡ rule_of event

-- what the verdict says is so
abbrev pub Judges : Verdict → List Event → Type 0
Judges Yes log = IsRun log
Judges (No at rule) log = IsFirstBreak log at rule

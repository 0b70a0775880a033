-- What a handle keeps, and what C hears of it.
use Rattle.std.specs.Prelude.{◌≡◌, ℕ, List, true, Option, Some, None}
use Rattle.rcu_judge.specs.declared.verdict.Rule.{Rule}
use Rattle.rcu_judge.specs.declared.verdict.Rule.TheVariants.{Section, Reading, Publishing, Retirement, Reclaiming, Asking}
use Rattle.judging.specs.declared.text_judge.Finding.{Finding}
use Rattle.judging.specs.declared.text_judge.Finding.TheVariants.{Yes, No, BadText, Memory}
use Rattle.judging.specs.declared.text_judge.TextJudge.{TextJudge}
use Rattle.judging.specs.Found.{IsFound, IsFoundAtEnd, WasFed, is_final}
use Rattle.robiniagolf.specs.declared.verdict.Verdict.{Verdict}

-- ---- what a handle keeps

-- a judge that was fed this text
abbrev pub Keeps : Option TextJudge → List ℕ → Type 0
Keeps None fed = ⊥
Keeps (Some judge) fed = WasFed judge fed

-- no judge, or one that judges nothing more
abbrev pub IsDone : Option TextJudge → Type 0
IsDone None = Unit {0}
IsDone (Some judge) = is_final judge.found ≡ true

-- ---- what C hears

abbrev pub answer_of : Finding → ℕ
answer_of (Yes events) = 0
answer_of (No at rule) = 1
answer_of (BadText line column) = 2
answer_of Memory = 3

-- the rule's number, as its name has it
abbrev pub number_of : Rule → ℕ
number_of Section = 3
number_of Reading = 4
number_of Publishing = 5
number_of Retirement = 6
number_of Reclaiming = 7
number_of Asking = 8

abbrev pub verdict_of : Finding → Verdict
verdict_of (Yes events) = record { answer = 0; rule = 0; event = events; line = 0; column = 0 }
verdict_of (No at rule) = record { answer = 1; rule = number_of rule; event = at; line = 0; column = 0 }
verdict_of (BadText line column) = record { answer = 2; rule = 0; event = 0; line = line; column = column }
verdict_of Memory = record { answer = 3; rule = 0; event = 0; line = 0; column = 0 }

-- of a handle that keeps nothing
abbrev pub no_judge : Verdict
no_judge = record { answer = 4; rule = 0; event = 0; line = 0; column = 0 }

-- of a handle that keeps this
abbrev pub answer_by : Option TextJudge → ℕ
answer_by None = 4
answer_by (Some judge) = answer_of judge.found

abbrev pub verdict_by : Option TextJudge → Verdict
verdict_by None = no_judge
verdict_by (Some judge) = verdict_of judge.found

-- the answer is that of what is found of the text
abbrev pub Answers : List ℕ → ℕ → Type 0
Answers text answer = (found : Finding) × IsFound text found × (answer ≡ answer_of found)

-- the verdict is that of what is found of the text
abbrev pub IsVerdict : List ℕ → Verdict → Type 0
IsVerdict text verdict = (found : Finding) × IsFound text found × (verdict ≡ verdict_of found)

-- the same where the text ends
abbrev pub IsVerdictAtEnd : List ℕ → Verdict → Type 0
IsVerdictAtEnd text verdict = (found : Finding) × IsFoundAtEnd text found × (verdict ≡ verdict_of found)

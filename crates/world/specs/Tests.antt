-- The tests of a line, in the order of its row: the first that fails is the answer, and else the step is made.
use Rattle.std.specs.Prelude.{◌≡◌, ◌≢◌, List, Option, Some, None, Result, Ok, Err, IfOk}
use Rattle.rcu_model.specs.declared.refusal.Refusal.{Refusal}
use Rattle.rcu_model.specs.declared.refusal.Refusal.TheVariants.{Memory}
use Rattle.gp_memb.specs.Plan.{turn_at}
use Rattle.world_state.specs.declared.line.Answer.{Answer}
use Rattle.world_state.specs.declared.line.Line.{Line}
use Rattle.world_state.specs.View.{Plans, BoardView}
use Rattle.world.specs.Lines.{Outcome, row_of, outcome_of}
use Rattle.world.specs.Row.{Test, first_failing}
use Rattle.world.specs.Steps.{WorldView, OfMemb, OfQsbr, memb_plans, qsbr_plans, IsPrompt, IsStalled, IsMade}

-- The same plans, but for whether a scan waits. It does exactly where the word that it loads stands in the way of the
-- present phase or number of this world.
abbrev pub exact : {P : Type 0} → Plans P → BoardView P → Plans P
exact plans w = record plans { turn = λ plan word. turn_at plans.qsbr w.layout w.grace.word (plans.action plan) word }

abbrev pub line_tests : {P : Type 0} → Plans P → BoardView P → Line → List Test
line_tests plans w line = (row_of (exact plans w) w line).tests

-- The first test that fails is the answer: a refusal, `wait`, `blocked` or `idle`. It leaves the world as it was. Where
-- none fails, the step is made, and leaves another world.
abbrev pub StepsBy : {P : Type 0} → Option (Result Answer Refusal) → BoardView P → Outcome P → Type 0
StepsBy (Some answer) w outcome = (outcome.answer ≡ answer) × (outcome.world ≡ w) × IfOk answer IsStalled
StepsBy None w outcome = IsMade outcome.answer × (outcome.world ≢ w)

abbrev pub IsTested : {P : Type 0} → Plans P → BoardView P → Line → Type 0
IsTested plans w line = StepsBy (first_failing (line_tests plans w line)) w (outcome_of plans w line)

-- ---- of a world of either flavour

abbrev pub tests_of : WorldView → Line → List Test
tests_of (OfMemb w) line = line_tests memb_plans w line
tests_of (OfQsbr w) line = line_tests qsbr_plans w line

-- The same of what came of a call of `World::step`; but memory for a step may be refused.
abbrev pub MeetsTests : Option (Result Answer Refusal) → WorldView → WorldView → Result Answer Refusal → Type 0
MeetsTests (Some answer) old new result = (result ≡ answer) × (new ≡ old) × IfOk answer IsStalled
MeetsTests None old new (Ok answer) = IsPrompt answer × (new ≢ old)
MeetsTests None old new (Err e) = (e ≡ Memory) × (new ≡ old)

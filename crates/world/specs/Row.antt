-- A row of the step table: the tests of a line in their order, and what is made where none of them fails.
use Rattle.std.specs.Prelude.{ℕ, Bool, true, if◌then◌else◌, List, [], ◌∷◌, ◌++◌, Option, Some, None, Result, Ok, Err}
use Rattle.rcu_model.specs.declared.refusal.Refusal.{Refusal}
use Rattle.world_state.specs.declared.line.Answer.{Answer}
use Rattle.world_state.specs.declared.reader.ReaderStep.{ReaderStep}
use Rattle.world_state.specs.declared.change.Change.{Change}
use Rattle.world_state.specs.declared.change.Change.TheVariants.{Read, Stay}

-- one test, and the answer where it fails
pub record Test : Type 0 where
  pub fails : Bool
  pub answer : Result Answer Refusal

abbrev pub refused_if : Bool → Refusal → Test
refused_if fails e = record { fails = fails; answer = Err e }

abbrev pub stalled_if : Bool → Answer → Test
stalled_if fails answer = record { fails = fails; answer = Ok answer }

-- what the first test answers that fails, if one does
abbrev pub first_failing : List Test → Option (Result Answer Refusal)
first_failing [] = None
first_failing (test ∷ tests) = if test.fails then Some test.answer else first_failing tests

-- Where all tests pass, the effect is not refused, in any world that lines lead to.
pub record Row (T : Type 0) : Type 0 where
  pub tests : List Test
  pub effect : Result T Refusal

abbrev pub guarded : {T : Type 0} → List Test → Result T Refusal → Row T
guarded tests effect = record { tests = tests; effect = effect }

-- a row with these tests before its own
abbrev pub after : {T : Type 0} → List Test → Row T → Row T
after tests row = record { tests = tests ++ row.tests; effect = row.effect }

-- no test comes before it
abbrev pub makes : {T : Type 0} → T → Row T
makes t = guarded [] (Ok t)

-- it is refused, whatever else is so
abbrev pub refused : {T : Type 0} → Refusal → Row T
refused e = guarded (refused_if true e ∷ []) (Err e)

-- no step comes here in a world that lines lead to: what is looked up is there, or a test before it fails
abbrev pub unreached : {T : Type 0} → Refusal → Row T
unreached e = guarded [] (Err e)

-- the test that an effect is not refused itself, and the row of such an effect
abbrev pub refusal_of : {T : Type 0} → Result T Refusal → List Test
refusal_of (Ok t) = []
refusal_of (Err e) = refused_if true e ∷ []

abbrev pub tried : {T : Type 0} → Result T Refusal → Row T
tried effect = guarded (refusal_of effect) effect

-- a reader's step, as a change of the world
abbrev pub read_step : {P : Type 0} → ℕ → Result ReaderStep Refusal → Result (Change P) Refusal
read_step r (Ok step) = Ok (Read r step)
read_step r (Err e) = Err e

abbrev pub read_by : {P : Type 0} → ℕ → Row ReaderStep → Row (Change P)
read_by r row = guarded row.tests (read_step r row.effect)

-- where a test fails, its answer and no change; else the effect
abbrev pub stopped : {P : Type 0} → Result Answer Refusal → Result (Change P) Refusal
stopped (Ok answer) = Ok (Stay answer)
stopped (Err e) = Err e

abbrev pub passed : {P : Type 0} → List Test → Result (Change P) Refusal → Result (Change P) Refusal
passed [] effect = effect
passed (test ∷ tests) effect = if test.fails then stopped test.answer else passed tests effect

abbrev pub made : {P : Type 0} → Row (Change P) → Result (Change P) Refusal
made row = passed row.tests row.effect

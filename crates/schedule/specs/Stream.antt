-- A schedule that comes in pieces.
use Rattle.std.specs.Prelude.{◌≡◌, ◌≢◌, ℕ, List, [], ◌∷◌, ◌++◌, length, IfErr, Result, Ok, Err}
use Rattle.world_state.specs.declared.config.Config.{Config}
use Rattle.world_state.specs.declared.line.Line.{Line}
use Rattle.world.specs.Steps.{WorldView, fresh_world, world_after_lines}
use Rattle.schedule_text.specs.declared.counts.Counts.{Counts}
use Rattle.schedule_text.specs.declared.fault.ReplayFault.{ReplayFault}
use Rattle.schedule.specs.declared.stage.Stage.{Stage}
use Rattle.schedule.specs.declared.stage.Stage.TheVariants as stages
use Rattle.schedule_text.specs.Spelling.{IsLineText, lines_text}
use Rattle.schedule_text.specs.Header.{header, IsHeaderText}
use Rattle.schedule_text.specs.Fault.{IsPartial, line_after}
use Rattle.schedule.specs.Printed.{IsSchedule, answers_of, Ends}

-- where a replay stands
pub data Progress : Type 0 where
  Header : List ℕ → Progress  -- what has come of the header
  Lines : WorldView → ℕ → List ℕ → Progress  -- the world, the number of the next line, and what has come of it
  Failed : ReplayFault → Progress

-- a header and whole lines came, each line was answered, and less than a line came after them
pub record IsAnswered (world : WorldView) (line : ℕ) (held fed printed : List ℕ) : Type 0 where
  pub config : Config
  pub lines : List Line
  pub schedule : IsSchedule config lines
  pub parts : fed ≡ header config ++ (lines_text lines ++ held)
  pub partial : IsPartial IsLineText held
  pub now : world ≡ world_after_lines (fresh_world config) lines
  pub number : line ≡ line_after (length lines)
  pub answers : printed ≡ answers_of (fresh_world config) lines

-- a replay that was fed these bytes, and printed this, stands here
abbrev pub Stands : Progress → List ℕ → List ℕ → Type 0
Stands (Header held) fed printed = (fed ≡ held) × IsPartial IsHeaderText held × (printed ≡ [])
Stands (Lines world line held) fed printed = IsAnswered world line held fed printed
Stands (Failed fault) fed printed = (more : List ℕ) → Ends (fed ++ more) printed (Err fault)

-- what is appended is printed, and the replay stands here
pub record Leads (progress : Progress) (fed earlier before after : List ℕ) : Type 0 where
  pub printed : List ℕ
  pub appends : after ≡ before ++ printed
  pub stands : Stands progress fed (earlier ++ printed)

-- the replay stands here, or failed so
abbrev pub LeadsTo : Result (Unit {0}) ReplayFault → Progress → List ℕ → List ℕ → List ℕ → List ℕ → Type 0
LeadsTo (Ok _) progress fed earlier before after = Leads progress fed earlier before after
LeadsTo (Err fault) progress fed earlier before after = Leads (Failed fault) fed earlier before after

-- a piece leads from one place to another, whatever came before
abbrev pub Feeds : Progress → Progress → List ℕ → List ℕ → List ℕ → Result (Unit {0}) ReplayFault → Type 0
Feeds old new piece before after result = (fed earlier : List ℕ) → Stands old fed earlier → LeadsTo result new (fed ++ piece) earlier before after

-- what is appended ends what the text prints
pub record LeadsToEnd (fed earlier before after : List ℕ) (result : Result Counts ReplayFault) : Type 0 where
  pub printed : List ℕ
  pub appends : after ≡ before ++ printed
  pub ends : Ends fed (earlier ++ printed) result

abbrev pub Finishes : Progress → List ℕ → List ℕ → Result Counts ReplayFault → Type 0
Finishes old before after result = (fed earlier : List ℕ) → Stands old fed earlier → LeadsToEnd fed earlier before after result

-- one call of `feed`, as its contract has it
pub record IsFed (old new : Progress) (piece before after : List ℕ) : Type 0 where
  pub result : Result (Unit {0}) ReplayFault
  pub feeds : Feeds old new piece before after result
  pub failed : IfErr result (λ fault. new ≡ Failed fault)

-- calls with these pieces, one after the other
abbrev pub AreFed : Progress → Progress → List (List ℕ) → List ℕ → List ℕ → Type 0
AreFed old new [] before after = (new ≡ old) × (after ≡ before)
AreFed old new (piece ∷ pieces) before after =
    (next : Progress) × (between : List ℕ) × IsFed old next piece before between × AreFed next new pieces between after

-- a fault is answered again, and nothing more is appended
abbrev pub StaysFailed : {X : Type 0} → Progress → List ℕ → List ℕ → Result X ReplayFault → Type 0
StaysFailed old before after result = (fault : ReplayFault) → old ≡ Failed fault → (result ≡ Err fault) × (after ≡ before)

-- no fault came yet
abbrev pub IsSound : Progress → Type 0
IsSound progress = (fault : ReplayFault) → progress ≢ Failed fault

abbrev pub progress_of : Stage → Progress
progress_of (stages.Header held) = Header held
progress_of (stages.Lines running) = Lines running.world running.line running.held
progress_of (stages.Failed fault) = Failed fault

-- What `walk` writes.
use Rattle.std.specs.Prelude.{◌≡◌, ◌⊎◌, ◌≤◌, ℕ, List, [], ◌++◌, codes, length, All, Option, Result, Ok, Err}
use Rattle.std.specs.Fmt.{decimal}
use Rattle.std.specs.Io.KnownBytes.{Appends}
use Rattle.rand_pcg.specs.Lcg.{Lcg}
use Rattle.rcu_model.specs.declared.event.Event.{Event}
use Rattle.rcu_judge.specs.declared.verdict.Verdict.{Verdict}
use Rattle.rcu_judge.specs.declared.verdict.Verdict.TheVariants.{Yes, No}
use Rattle.rcu_judge.specs.Verdict.{name_of}
use Rattle.world_state.specs.declared.line.Line.{Line}
use Rattle.world.specs.Steps.{WorldView, fresh_world, log_of, world_after_lines}
use Rattle.schedule_text.specs.declared.counts.Counts.{Counts}
use Rattle.schedule_text.specs.declared.fault.ReplayFault.{ReplayFault}
use Rattle.schedule_text.specs.declared.fault.ReplayFault.TheVariants.{Write, Memory}
use Rattle.schedule_text.specs.Answers.{counts_of}
use Rattle.schedule_text.specs.Header.{header}
use Rattle.schedule.specs.Ports.{Writes}
use Rattle.schedule_text.specs.Spelling.{lines_text, IsLine}
use Rattle.torture_commands.specs.declared.command.Walk.{Walk}
use Rattle.torture_commands.specs.Drawing.{draw_lines}

-- ---- the line of a walk

abbrev pub verdict_text : Verdict → List ℕ
verdict_text Yes = codes " verdict=yes\n"
verdict_text (No at rule) = codes " verdict=no event=" ++ decimal at ++ codes " rule=" ++ name_of rule ++ codes "\n"

abbrev pub counts_text : Counts → List ℕ
counts_text c = codes " open=" ++ decimal c.sections ++ codes " waiting=" ++ decimal c.waiting ++ codes " run=" ++ decimal c.runs

abbrev pub walk_text : ℕ → ℕ → Counts → Verdict → List ℕ
walk_text lines events counts verdict = codes "walk lines=" ++ decimal lines ++ codes " events=" ++ decimal events ++ counts_text counts ++ verdict_text verdict

-- of a log of this many lines
abbrev pub walk_line : ℕ → List Event → Verdict → List ℕ
walk_line lines log verdict = walk_text lines (length log) (counts_of log) verdict

-- ---- the walk

-- the lines that the seed draws, as many as were asked for, of which each can be written
pub record IsDrawn (walk : Walk) (lines : List Line) : Type 0 where
  pub number : length lines ≡ walk.lines
  pub each : All IsLine lines
  pub drawn : lines ≡ (draw_lines walk walk.lines).0

-- the world after such lines
abbrev pub IsWalked : Walk → WorldView → Type 0
IsWalked walk world = (lines : List Line) × IsDrawn walk lines × (world ≡ world_after_lines (fresh_world walk.config) lines)

-- the world after the first of these lines, this many, and the generator after them
pub record IsUnderWay (walk : Walk) (world : WorldView) (generator : Lcg) (number : ℕ) (lines : List Line) : Type 0 where
  pub count : number ≡ length lines
  pub each : All IsLine lines
  pub drawn : (lines, generator) ≡ draw_lines walk number
  pub now : world ≡ world_after_lines (fresh_world walk.config) lines

-- the line of such a world's log: a run
pub record IsWalkLine (walk : Walk) (printed : List ℕ) : Type 0 where
  pub world : WorldView
  pub walked : IsWalked walk world
  pub line : printed ≡ walk_line walk.lines (log_of world) Yes

abbrev pub IsFrontOfWalk : Walk → List ℕ → Type 0
IsFrontOfWalk walk printed = (more : List ℕ) × IsWalkLine walk (printed ++ more)

-- the line of a run; a beginning of it; or nothing. There is no other verdict, and no other fault.
abbrev pub Walked : Walk → List ℕ → Result Verdict ReplayFault → Type 0
Walked walk printed (Ok verdict) = (verdict ≡ Yes) × IsWalkLine walk printed
Walked walk printed (Err Write) = IsFrontOfWalk walk printed
Walked walk printed (Err Memory) = printed ≡ []
Walked walk printed (Err _) = ⊥

pub record Walks (walk : Walk) (before after : Option (List ℕ)) (result : Result Verdict ReplayFault) : Type 0 where
  pub printed : List ℕ
  pub writes : Appends before after printed
  pub walked : Walked walk printed result

-- ---- the schedule of a walk

-- a schedule of as many lines
pub record IsWalkSchedule (walk : Walk) (printed : List ℕ) : Type 0 where
  pub lines : List Line
  pub drawn : IsDrawn walk lines
  pub text : printed ≡ header walk.config ++ lines_text lines

-- the beginning of a schedule of at most this many lines, the first ones that the seed draws
pub record IsFrontOfSchedule (walk : Walk) (printed : List ℕ) : Type 0 where
  pub lines : List Line
  pub number : length lines ≤ walk.lines
  pub each : All IsLine lines
  pub drawn : lines ≡ (draw_lines walk (length lines)).0
  pub more : List ℕ
  pub text : printed ++ more ≡ header walk.config ++ lines_text lines

abbrev pub Scheduled : Walk → List ℕ → Result (Unit {0}) ReplayFault → Type 0
Scheduled walk printed (Ok _) = IsWalkSchedule walk printed
Scheduled walk printed (Err fault) = ((fault ≡ Write) ⊎ (fault ≡ Memory)) × IsFrontOfSchedule walk printed

pub record Schedules (walk : Walk) (before after : Option (List ℕ)) (result : Result (Unit {0}) ReplayFault) : Type 0 where
  pub printed : List ℕ
  pub writes : Appends before after printed
  pub scheduled : Scheduled walk printed result

-- the header and the lines so far are written, but for what is kept
pub record IsPrinting (walk : Walk) (world : WorldView) (generator : Lcg) (number : ℕ) (before after : Option (List ℕ)) (kept : List ℕ) : Type 0 where
  pub lines : List Line
  pub under_way : IsUnderWay walk world generator number lines
  pub printed : List ℕ
  pub writes : Appends before after printed
  pub text : printed ++ kept ≡ header walk.config ++ lines_text lines

-- what was kept is written and kept no longer, or it is still kept; a fault is one of the writer
abbrev pub Flushes : Option (List ℕ) → Option (List ℕ) → List ℕ → List ℕ → Result (Unit {0}) ReplayFault → Type 0
Flushes before after old new (Ok _) = (Appends before after old × (new ≡ [])) ⊎ ((after ≡ before) × (new ≡ old))
Flushes before after old new (Err fault) = Writes before after old (Err fault)

-- Why an ask is answered.
use Rattle.std.specs.Prelude.{Bool, true, ◌≡◌, ℕ, ◌+◌, ◌%◌, ◌≤◌, List, [], ◌∷◌, ◌++◌}
use Rattle.reader_word.specs.declared.layout.Layout.{Layout}
use Rattle.reader_word.specs.declared.layout.Layout.TheVariants.{Wide}
use Rattle.gp_memb.specs.declared.plan.GracePlan as plan
use Rattle.gp_memb.specs.declared.plan.Action.{Action}
use Rattle.gp_memb.specs.declared.plan.Action.TheVariants.{StorePhase, Finished}
use Rattle.gp_memb.specs.Plan.{after_loads}
use Rattle.live_log.specs.declared.event.LiveEvent.{LiveEvent}
use Rattle.live_log.specs.declared.event.LiveEvent.TheVariants.{Present, SeqEven, SeqOdd}
use Rattle.live_log.specs.Log.{Log, Begins, HaveEnded, IsLiveRun, present_of, seq_of}
use Rattle.live_words.specs.live_rule.declared.view.View.{View}
use Rattle.live_words.specs.live_rule.Seats.{heard_view, told_view}
use Rattle.live_words.specs.live_rule.Seen.{Precedes}

-- an even number that the sequence number reaches no sooner than by a grace period that began after the log
abbrev pub IsCookieOf : Log → ℕ → Type 0
IsCookieOf log cookie = (cookie % 2 ≡ 0) × (seq_of log + 2 ≤ cookie)

-- each section that was open in the log of an ask has ended, in every log that goes on from that and from the one that a
-- poll saw
abbrev pub EndedByThen : Bool → (Log → LiveEvent → Type 0) → Log → Log → Type 0
EndedByThen qsbr allows asked polled = (log : Log) → IsLiveRun qsbr allows log → Begins asked log → Begins polled log → HaveEnded asked log

-- the log has these words of grace periods: the sequence number, and the phase or number
abbrev pub HasWords : ℕ → ℕ → Log → Type 0
HasWords seq present log = (seq_of log ≡ seq) × (present_of log ≡ present)

-- The log ends with the last store of a grace period. That began after all that the view had seen and heard, at this
-- sequence number and this phase or number, and each section that was open when it began has ended.
pub record WholeGracePeriod (qsbr : Bool) (allows : Log → LiveEvent → Type 0) (v : View) (seq present : ℕ) (log : Log) : Type 0 where
  pub before : Log
  pub within : Log
  pub after : Precedes v before
  pub words : HasWords seq present before
  pub began : Begins (SeqOdd ∷ before) within
  pub over : log ≡ SeqEven ∷ within
  pub ended : HaveEnded before log
  pub run : IsLiveRun qsbr allows log

-- the same of a view that heard of what another one had seen and heard before
abbrev pub WholePeriodAfter : Bool → (Log → LiveEvent → Type 0) → View → View → ℕ → ℕ → Log → Type 0
WholePeriodAfter qsbr allows v other seq present log = WholeGracePeriod qsbr allows (heard_view v (told_view other)) seq present log

-- the log begins with an earlier one, above which these events stand in this order, whatever others stand between them:
-- the first of them is the last
abbrev pub Gained : Log → Log → Log → Type 0
Gained [] old log = Begins old log
Gained (e ∷ es) old log = (since before : Log) × (log ≡ since ++ e ∷ before) × Gained es old before

-- what an action stores as the phase or number
abbrev pub stores_of : Action → Log
stores_of (StorePhase value) = Present value ∷ []
stores_of _ = []

-- what a plan's turns with these loaded words store so, the last one first
abbrev pub stored_by : {P : Type 0} → (P → Action) → (P → ℕ → P) → P → List ℕ → Log
stored_by action taken plan [] = []
stored_by action taken plan (word ∷ words) = stored_by action taken (taken plan word) words ++ stores_of (action plan)

-- A plan that was made for this many slots at this sequence number and this phase or number has run to its end, and
-- left the last phase or number. All that it stored stands in the log, above a log that had the first words.
pub record RanPlan {P : Type 0} (p : plan.Ghosts P) (slots seq first last : ℕ) (log : Log) : Type 0 where
  pub start : P
  pub begun : p.is_begun Wide true slots seq first start
  pub loaded : List ℕ
  pub finished : p.action (after_loads p.taken start loaded) ≡ Finished
  pub left : p.present (after_loads p.taken start loaded) ≡ last
  pub before : Log
  pub words : HasWords seq first before
  pub stores : Gained (SeqEven ∷ stored_by p.action p.taken start loaded ++ SeqOdd ∷ []) before log

-- Readings change nothing that a live event goes by.
use Rattle.std.proofs.Common.{◌≡◌, ◌↔◌, Bool, true, false, not, cond, List, [], ◌∷◌, ◌++◌, Some, None, refl, sym, ap, ◌∙◌, subst, append-nil}
use Rattle.std.proofs.lemmas.List.Elements.{filter-append}
use Rattle.rcu_model.specs.declared.event.Event.{Event}
use Rattle.rcu_model.specs.declared.event.Event.TheVariants.{Open, Close, First, Next, Touch, Push, Replace, Cut, Retire, Queue, Run, Ask, Answer, Bar, Clear}
use Rattle.rcu_model.specs.Machine.{State, start, IsAllowed, AreAllowed, IsRun, after, after_all, state_after}
use Rattle.rcu_model.specs.Fitting.{is_live, IsLive, IsReading, live_events, IsFitted}
use Rattle.rcu_model.proofs.Runs.{allowed_append}

-- the state but for what readings leave in it
abbrev pub live_part : State → State
live_part now = record now { held = λ _. []; asked = []; answered = []; asked_sections = λ _. []; noted = []; cleared = []; noted_objects = λ _. [] }

-- a live event goes by this part, and what it leaves of it follows from it
live_rule : (now : State) (e : Event) → IsLive e → (IsAllowed now e ↔ IsAllowed (live_part now) e) × (live_part (after now e) ≡ live_part (after (live_part now) e))
live_rule now (Open s) l = (((λ h. h), (λ h. h)), refl)
live_rule now (Close s) l = (((λ h. h), (λ h. h)), refl)
live_rule now (Push c o) l = (((λ h. h), (λ h. h)), refl)
live_rule now (Replace c o p) l = (((λ h. h), (λ h. h)), refl)
live_rule now (Cut c o) l = (((λ h. h), (λ h. h)), refl)
live_rule now (Retire o) l = (((λ h. h), (λ h. h)), refl)
live_rule now (Queue o q) l = (((λ h. h), (λ h. h)), refl)
live_rule now (Run o) l = (((λ h. h), (λ h. h)), refl)
live_rule now (First s c found) l = cc
live_rule now (Next s o found) l = cc
live_rule now (Touch s o) l = cc
live_rule now (Ask n) l = cc
live_rule now (Answer n) l = cc
live_rule now (Bar n) l = cc
live_rule now (Clear n) l = cc

reading_rule : (now : State) (e : Event) → IsReading e → live_part (after now e) ≡ live_part now
reading_rule now (First s c None) r = refl
reading_rule now (First s c (Some o)) r = refl
reading_rule now (Next s o None) r = refl
reading_rule now (Next s o (Some p)) r = refl
reading_rule now (Touch s o) r = refl
reading_rule now (Ask n) r = refl
reading_rule now (Answer n) r = refl
reading_rule now (Bar n) r = refl
reading_rule now (Clear n) r = refl
reading_rule now (Open s) r = cc
reading_rule now (Close s) r = cc
reading_rule now (Push c o) r = cc
reading_rule now (Replace c o p) r = cc
reading_rule now (Cut c o) r = cc
reading_rule now (Retire o) r = cc
reading_rule now (Queue o q) r = cc
reading_rule now (Run o) r = cc

-- so where two states have one live part, a live event may come after both or after neither, and they have one after it
pub same_rule : (now other : State) (e : Event) → IsLive e → live_part now ≡ live_part other → (IsAllowed now e → IsAllowed other e) × (live_part (after now e) ≡ live_part (after other e))
same_rule now other e l same =
    let mine = live_rule now e l in
    let its = live_rule other e l in
    ((λ h. its.0.1 (subst (λ (s : State). IsAllowed s e) same (mine.0.0 h))), mine.1 ∙ ap (λ (s : State). live_part (after s e)) same ∙ sym its.1)

-- the live events alone: they may come one after the other, and leave the same live part
abbrev RunsAlone : State → State → List Event → List Event → Type 0
RunsAlone now other es live = (AreAllowed now es → AreAllowed other live) × (live_part (after_all now es) ≡ live_part (after_all other live))

live_first : (now other : State) (e : Event) (es : List Event) (b : Bool) → is_live e ≡ b → live_part now ≡ live_part other →
    ((later : State) → live_part (after now e) ≡ live_part later → RunsAlone (after now e) later es (live_events es)) →
    RunsAlone now other (e ∷ es) (cond b (e ∷ live_events es) (live_events es))
live_first now other e es true l same rest =
    let here = same_rule now other e l same in
    let more = rest (after other e) here.1 in
    ((λ a. (here.0 a.0, more.0 a.1)), more.1)
live_first now other e es false r same rest =
    let more = rest other (reading_rule now e (ap not r) ∙ same) in
    ((λ a. more.0 a.1), more.1)

live_run : (now other : State) (es : List Event) → live_part now ≡ live_part other → RunsAlone now other es (live_events es)
live_run now other [] same = ((λ a. a), same)
live_run now other (e ∷ es) same = live_first now other e es (is_live e) refl same (λ later s. live_run (after now e) later es s)

pub live_alone : (log : List Event) → IsRun log → IsRun (live_events log)
live_alone log = (live_run start start log refl).0

-- a log and its live events leave the same live part
pub live_same : (log : List Event) → live_part (state_after log) ≡ live_part (state_after (live_events log))
live_same log = (live_run start start log refl).1

-- so a live event may come after the log just where it may come after those
pub live_allowed : (log : List Event) (e : Event) → IsLive e → IsAllowed (state_after log) e ↔ IsAllowed (state_after (live_events log)) e
live_allowed log e l = (
  (same_rule (state_after log) (state_after (live_events log)) e l (live_same log)).0,
  (same_rule (state_after (live_events log)) (state_after log) e l (sym (live_same log))).0,
)

-- a run goes on with live events where its live events do, and with a reading that is fitted
pub goes_on_live : (log : List Event) (e : Event) → IsRun log → IsLive e → IsAllowed (state_after (live_events log)) e → IsRun (log ++ e ∷ [])
goes_on_live log e run l a = allowed_append start log (e ∷ []) run ((live_allowed log e l).1 a, tt)

pub goes_on_fitted : (live earlier : List Event) (e : Event) → IsFitted live earlier e → IsRun (earlier ++ e ∷ []) × (live_events (earlier ++ e ∷ []) ≡ live)
goes_on_fitted live earlier e fit = (allowed_append start earlier (e ∷ []) fit.run (fit.goes_on, tt), same)
  where
    none : (b : Bool) → not b ≡ true → cond b (e ∷ []) [] ≡ []
    none true h = cc
    none false h = refl

    same : live_events (earlier ++ e ∷ []) ≡ live
    same = filter-append is_live earlier (e ∷ []) ∙ ap (λ (l : List Event). live_events earlier ++ l) (none (is_live e) fit.reads) ∙ append-nil (live_events earlier) ∙ fit.of_live

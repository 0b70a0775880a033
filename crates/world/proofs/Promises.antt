-- What the contracts of a world say of its steps, and of the logs of worlds that lines led to.
use Rattle.world.proofs.Cited.{◌≡◌, List, [], ◌∷◌, ◌++◌, Result, Ok, Err, refl, sym, ap, ◌∙◌, subst, Refusal, Answer, Line, Plans, BoardView, fresh_at, ℕ, append_assoc, Event, MembPlan, QsbrPlan, Config, Flavour, Memb, Qsbr, Change, Begin, Hold, Stay, told, answer_of, changed, ◌%◌, ◌^◌, ◌≤◌, ◌==◌, ◌&&◌, true, nat_le, and_parts, eqb-true, leb-true, is_within_limits, IfOk, IsRun, IsSafeLog, Bool, Layout, Updater, Worker, ReaderState, true≢false, inl, inr, Option, Some, None, arith, same_Some, QueueState, Grows, ⊎_elim, cond, false, nat_lt, slice_get, IfErr, items_of, WorkerState, outcome_of, world_after, with_change, Outcome, Meets, IsReached, MeetsDrain, drain_lines, items_in, items_to_drain, is_busy, steps_with, steps_in, first_failing, Row, line_tests, StepsBy, IsTested, MeetsTests, exact, tests_of, IsStepError, is_none_left}
use Rattle.std.proofs.lemmas.List.{append-nil}
use Rattle.world.proofs.Rows.{stalled_silent, IsUpdate, any_retires, any_updates, any_works, Law, by_change, Copies, ReaderRows, Fails, whichever, Sweep, sweep}
use Rattle.world.specs.Steps.{WorldView, OfMemb, OfQsbr, memb_plans, qsbr_plans, step_of, log_of, fresh_in, world_after_lines, events_of, answered_events, is_supported_at, IsReachedWorld, fresh_world_at, IsOfReader, IsPrompt, IsMade}
use Rattle.std.specs.Prelude.{length}

pub after_snoc : {P : Type 0} (plans : Plans P) (w : BoardView P) (lines : List Line) (line : Line) → world_after plans w (lines ++ line ∷ []) ≡ (outcome_of plans (world_after plans w lines) line).world
after_snoc plans w [] line = refl
after_snoc plans w (l ∷ ls) line = after_snoc plans ((outcome_of plans w l).world) ls line

pub reached_step : {P : Type 0} (plans : Plans P) (w : BoardView P) (line : Line) → IsReached plans w → IsReached plans ((outcome_of plans w line).world)
reached_step plans w line r = record {
  config = r.config;
  limits = r.limits;
  seq = r.seq;
  even = r.even;
  low = r.low;
  lines = r.lines ++ line ∷ [];
  leads = after_snoc plans (fresh_at r.config r.seq) r.lines line ∙ ap (λ x. (outcome_of plans x line).world) r.leads;
}

-- as the contract of a step says it
pub reached_after : {P : Type 0} (plans : Plans P) (old new : BoardView P) (line : Line) (result : Result Answer Refusal) → Meets (outcome_of plans old line) old new result → IsReached plans old → IsReached plans new
reached_after plans old new line (Ok a) meets r = subst (IsReached plans) (sym meets.1) (reached_step plans old line r)
reached_after plans old new line (Err e) meets r = subst (IsReached plans) (sym meets.0) r

-- ---- the log after lines is what they were answered

-- a step that changes nothing tells nothing
abbrev IsSilent : {P : Type 0} → Change P → Type 0
IsSilent (Stay answer) = told answer ≡ []
IsSilent _ = Unit {0}

update_silent : {P : Type 0} (change : Change P) → IsUpdate change → IsSilent change
update_silent (Stay answer) is = absurd is
update_silent _ is = tt

module _ {P : Type 0} (plans : Plans P) (w : BoardView P) where
  silent : Law plans w (λ line. IsSilent)
  silent = record {
    stays = λ line answer never stalled. stalled_silent answer stalled;
    reads = λ r v verb was step row. tt;
    updates = λ u x was. any_updates plans w u x (λ v. IsSilent) (λ v. update_silent) (any_retires plans w u x (λ v. IsSilent) (λ y q act mark answer. tt));
    works = λ k x was. any_works plans w k x (λ v. IsSilent) (λ v y grace act mark answer. tt);
  }

  log_change : (change : Change P) → IsSilent change → (changed w change).log ≡ w.log ++ told (answer_of change)
  log_change (Begin u x object) s = sym (append-nil w.log)
  log_change (Hold u x q) s = sym (append-nil w.log)
  log_change (Stay answer) s = sym (ap (λ (es : List Event). w.log ++ es) s ∙ append-nil w.log)
  log_change _ s = refl

  pub log_told : (line : Line) → (outcome_of plans w line).world.log ≡ w.log ++ events_of (outcome_of plans w line).answer
  log_told line = by_change plans w (λ l. IsSilent) (λ x. (with_change w x).world.log ≡ w.log ++ events_of (with_change w x).answer) silent line (λ e. sym (append-nil w.log)) log_change

-- as the contract of a step says it
pub log_meets : {P : Type 0} (plans : Plans P) (old new : BoardView P) (line : Line) (r : Result Answer Refusal) → Meets (outcome_of plans old line) old new r → new.log ≡ old.log ++ events_of r
log_meets plans old new line (Ok answer) m = ap (λ w. w.log) m.1 ∙ log_told plans old line ∙ ap (λ x. old.log ++ events_of x) m.0
log_meets plans old new line (Err e) m = ap (λ w. w.log) m.0 ∙ sym (append-nil old.log)

pub step_told : (w : WorldView) (line : Line) → log_of (step_of w line).world ≡ log_of w ++ events_of (step_of w line).answer
step_told (OfMemb w) line = log_told memb_plans w line
step_told (OfQsbr w) line = log_told qsbr_plans w line

pub lines_told : (w : WorldView) (lines : List Line) → log_of (world_after_lines w lines) ≡ log_of w ++ answered_events w lines
lines_told w [] = sym (append-nil (log_of w))
lines_told w (line ∷ lines) =
    lines_told ((step_of w line).world) lines
    ∙ ap (λ (es : List Event). es ++ answered_events ((step_of w line).world) lines) (step_told w line)
    ∙ append_assoc (log_of w) (events_of (step_of w line).answer) (answered_events ((step_of w line).world) lines)

pub log_answered : (config : Config) (seq : ℕ) (lines : List Line) → log_of (world_after_lines (fresh_in config.flavour config seq) lines) ≡ answered_events (fresh_in config.flavour config seq) lines
log_answered config seq lines = elim config.flavour as (λ flavour. log_of (world_after_lines (fresh_in flavour config seq) lines) ≡ answered_events (fresh_in flavour config seq) lines)
    [ Memb ↦ lines_told (fresh_in Memb config seq) lines | Qsbr ↦ lines_told (fresh_in Qsbr config seq) lines ]

pub memb_lines : (w : BoardView MembPlan) (lines : List Line) → world_after_lines (OfMemb w) lines ≡ OfMemb (world_after memb_plans w lines)
memb_lines w [] = refl
memb_lines w (line ∷ lines) = memb_lines ((outcome_of memb_plans w line).world) lines

pub qsbr_lines : (w : BoardView QsbrPlan) (lines : List Line) → world_after_lines (OfQsbr w) lines ≡ OfQsbr (world_after qsbr_plans w lines)
qsbr_lines w [] = refl
qsbr_lines w (line ∷ lines) = qsbr_lines ((outcome_of qsbr_plans w line).world) lines

-- what is so of the boards of both flavours, is so of a world of either
in_flavour : (C : WorldView → Type 0) (flavour : Flavour) (config : Config) (seq : ℕ) (lines : List Line) → C (OfMemb (world_after memb_plans (fresh_at config seq) lines)) → C (OfQsbr (world_after qsbr_plans (fresh_at config seq) lines)) → C (world_after_lines (fresh_in flavour config seq) lines)
in_flavour C Memb config seq lines memb qsbr = subst C (sym (memb_lines (fresh_at config seq) lines)) memb
in_flavour C Qsbr config seq lines memb qsbr = subst C (sym (qsbr_lines (fresh_at config seq) lines)) qsbr

-- ---- what makes a world

-- its limits, and an even first number up to 2^62
start_of : (config : Config) (seq : ℕ) → is_supported_at config seq ≡ true → (is_within_limits config ≡ true) × (seq % 2 ≡ 0) × (seq ≤ 2 ^ 62)
start_of config seq e =
    let limits = and_parts (is_within_limits config) ((seq % 2 == 0) && nat_le seq (2 ^ 62)) e in
    let numbers = and_parts (seq % 2 == 0) (nat_le seq (2 ^ 62)) limits.1 in
    (limits.0, eqb-true (seq % 2) 0 numbers.0, leb-true seq (2 ^ 62) numbers.1)

-- ---- the promises of the logs of worlds that lines led to

-- what is so of the boards of both flavours that lines lead to, is so of a world that they lead to
pub in_worlds : (C : WorldView → Type 0) (config : Config) (seq : ℕ) (lines : List Line) → is_supported_at config seq ≡ true → (is_within_limits config ≡ true → seq % 2 ≡ 0 → seq ≤ 2 ^ 62 → C (OfMemb (world_after memb_plans (fresh_at config seq) lines))) →
    (is_within_limits config ≡ true → seq % 2 ≡ 0 → seq ≤ 2 ^ 62 → C (OfQsbr (world_after qsbr_plans (fresh_at config seq) lines))) → C (world_after_lines (fresh_world_at config seq) lines)
in_worlds C config seq lines good memb qsbr = let begins = start_of config seq good in in_flavour C config.flavour config seq lines (memb begins.0 begins.1 begins.2) (qsbr begins.0 begins.1 begins.2)

-- the world after lines is reached
pub reached_by : (config : Config) (seq : ℕ) (lines : List Line) → is_supported_at config seq ≡ true → IsReachedWorld (world_after_lines (fresh_world_at config seq) lines)
reached_by config seq lines good = in_worlds IsReachedWorld config seq lines good
    (λ limits even low. record { config = config; limits = limits; seq = seq; even = even; low = low; lines = lines; leads = refl })
    (λ limits even low. record { config = config; limits = limits; seq = seq; even = even; low = low; lines = lines; leads = refl })

-- the log of a board that lines led to is a run, where that of each world is
abbrev EachIsRun : {P : Type 0} → Plans P → Type 0
EachIsRun plans = (config : Config) (seq : ℕ) (lines : List Line) → is_within_limits config ≡ true → seq % 2 ≡ 0 → seq ≤ 2 ^ 62 → IsRun (world_after plans (fresh_at config seq) lines).log

run_of : {P : Type 0} (plans : Plans P) → EachIsRun plans → (w : BoardView P) → IsReached plans w → IsRun w.log
run_of {P} plans each w r = subst (λ (v : BoardView P). IsRun v.log) r.leads (each r.config r.seq r.lines r.limits r.even r.low)

pub reached_run : EachIsRun memb_plans → EachIsRun qsbr_plans → (w : WorldView) → IsReachedWorld w → IsRun (log_of w)
reached_run memb qsbr (OfMemb w) r = run_of memb_plans memb w r
reached_run memb qsbr (OfQsbr w) r = run_of qsbr_plans qsbr w r

-- a drain's log, as its contract says it
pub drain_log : (k : ℕ) (old new : WorldView) (r : Result ℕ Refusal) → MeetsDrain k old new r → IfOk r (λ steps. log_of new ≡ log_of old ++ answered_events old (drain_lines k steps))
drain_log k old new (Ok steps) m = ap log_of m.1 ∙ lines_told old (drain_lines k steps)
drain_log k old new (Err e) m = tt

-- what makes a fresh world
pub new_log : (config : Config) (seq : ℕ) (r : Result WorldView Refusal) → IfOk r (λ w. w ≡ fresh_world_at config seq) → IfOk r (λ w. log_of w ≡ [])
new_log config seq (Ok w) is = ap log_of is ∙ elim config.flavour as (λ flavour. log_of (fresh_in flavour config seq) ≡ []) [ Memb ↦ refl | Qsbr ↦ refl ]
new_log config seq (Err e) is = tt

pub new_safe : (config : Config) (seq : ℕ) (r : Result WorldView Refusal) → IsSafeLog (log_of (fresh_world_at config seq)) → IfOk r (λ w. w ≡ fresh_world_at config seq) → IfOk r (λ w. IsSafeLog (log_of w))
new_safe config seq (Ok w) safe is = subst (λ (v : WorldView). IsSafeLog (log_of v)) (sym is) safe
new_safe config seq (Err e) safe is = tt

-- ---- a reader's line is answered by events or quietly, or refused

-- a reader's step
pub prompt_reads : {P : Type 0} (qsbr : Bool) (layout : Layout) (w : BoardView P) (r : ℕ) (v : ReaderState) → ReaderRows qsbr layout w r v (λ step. IsPrompt step.answer)
prompt_reads qsbr layout w r v _ (Copies none zero) = tt
prompt_reads qsbr layout w r v _ _ = tt

module _ {P : Type 0} (plans : Plans P) (w : BoardView P) where
  abbrev Prompt : Line → Change P → Type 0
  Prompt line change = IsOfReader line → IsPrompt (answer_of change)

  prompt : Law plans w Prompt
  prompt = record {
    stays = λ line answer never none of. absurd (never of);
    reads = λ r v verb was step row of. prompt_reads plans.qsbr w.layout w r v step row;
    updates = λ u x was. any_updates plans w u x (λ v. Prompt (Updater u v)) (λ v change is of. absurd of) (λ o step at of. absurd of);
    works = λ k x was. any_works plans w k x (λ v. Prompt (Worker k v)) (λ v y grace act mark answer of. absurd of);
  }

pub prompt_meets : {P : Type 0} (plans : Plans P) (old new : BoardView P) (line : Line) (result : Result Answer Refusal) → Meets (outcome_of plans old line) old new result → IsOfReader line → IfOk result IsPrompt
prompt_meets plans old new line (Ok a) meets h = subst (λ (r : Result Answer Refusal). IfOk r IsPrompt) meets.0 (by_change plans old (Prompt plans old) (λ x. IfOk (with_change old x).answer IsPrompt) (prompt plans old) line (λ e. tt) (λ change is. is h))
prompt_meets plans old new line (Err e) meets h = tt

-- ---- from the tests of a line to what a step promises

-- what is as it was has not grown
grows_not : {P : Type 0} (w : BoardView P) → Grows w w → ⊥
grows_not w (inl longer) = omega (arith, longer)
grows_not w (inr (inl more)) = omega (arith, more)
grows_not w (inr (inr r)) =
    let same : r.before ≡ r.after = same_Some r.before r.after (sym r.was ∙ r.is) in
    true≢false (sym r.has ∙ ap (λ (q : QueueState). q.items.reserved) (sym same) ∙ r.had_none)

module _ {P : Type 0} (seen : BoardView P → WorldView) (alone : (v w : BoardView P) → seen v ≡ seen w → v ≡ w) (old new : BoardView P) (outcome : Outcome P) where
  by : (first : Option (Result Answer Refusal)) → StepsBy first old outcome → (result : Result Answer Refusal) → Meets outcome old new result → MeetsTests first (seen old) (seen new) result
  by (Some said) is (Ok answer) meets = (sym meets.0 ∙ is.0, ap seen (meets.1 ∙ is.1), is.2)
  by (Some said) is (Err e) (same, inl refused) = (sym refused.0 ∙ is.0, ap seen same, is.2)
  by (Some said) is (Err e) (same, inr grown) = absurd (grows_not old (subst (λ w. Grows old w) is.1 grown.1))
  by None is (Ok answer) meets = (subst IsMade meets.0 is.0, λ same. is.1 (sym meets.1 ∙ alone new old same))
  by None is (Err e) (same, inl refused) = absurd (subst IsMade refused.0 is.0)
  by None is (Err e) (same, inr grown) = (grown.0, ap seen same)

pub meets_tests : {P : Type 0} (plans : Plans P) (seen : BoardView P → WorldView) → ((v w : BoardView P) → seen v ≡ seen w → v ≡ w) → (old new : BoardView P) (line : Line) → IsTested plans old line →
    (result : Result Answer Refusal) → Meets (outcome_of plans old line) old new result → MeetsTests (first_failing (line_tests plans old line)) (seen old) (seen new) result
meets_tests plans seen alone old new line tested result meets = by seen alone old new (outcome_of plans old line) (first_failing (line_tests plans old line)) tested result meets

-- ---- a step is refused by one of eight refusals

module _ (old new : WorldView) (r : Result Answer Refusal) where
  either : (fails : Bool) (answer : Result Answer Refusal) (rest : Option (Result Answer Refusal)) → IfErr answer IsStepError → (fails ≡ false → MeetsTests rest old new r → IfErr r IsStepError) →
      MeetsTests (cond fails (Some answer) rest) old new r → IfErr r IsStepError
  either true answer rest one others m = subst (λ (x : Result Answer Refusal). IfErr x IsStepError) (sym m.0) one
  either false answer rest one others m = others refl m

  none_failed : (x : Result Answer Refusal) → MeetsTests None old new x → IfErr x IsStepError
  none_failed (Ok answer) m = tt
  none_failed (Err e) m = subst IsStepError (sym m.0) tt

  abbrev Refuses : {P : Type 0} → Line → Row (Change P) → Type 0
  Refuses line row = MeetsTests (first_failing row.tests) old new r → IfErr r IsStepError

  refuses : {P : Type 0} (plans : Plans P) (w : BoardView P) → Sweep plans w Refuses
  refuses plans w = record {
    stops = λ line fails e row h go. either fails (Err e) (first_failing row.tests) h go;
    stalls = λ line fails answer row never none go. either fails (Ok answer) (first_failing row.tests) tt go;
    lacks = λ line e h lack. none_failed r;
    reads = λ n v verb was step row. none_failed r;
    updates = λ u x was. any_updates plans w u x (λ v change. MeetsTests None old new r → IfErr r IsStepError) (λ v change is. none_failed r) (any_retires plans w u x (λ v change. MeetsTests None old new r → IfErr r IsStepError) (λ y q act mark answer. none_failed r));
    works = λ k x was. any_works plans w k x (λ v change. MeetsTests None old new r → IfErr r IsStepError) (λ v y grace act mark answer. none_failed r);
  }

-- as the tests of a step say it
pub step_refused : (old new : WorldView) (line : Line) (r : Result Answer Refusal) → MeetsTests (first_failing (tests_of old line)) old new r → IfErr r IsStepError
step_refused (OfMemb w) new line r m = sweep (exact memb_plans w) w (Refuses (OfMemb w) new r) (refuses (OfMemb w) new r (exact memb_plans w) w) line m
step_refused (OfQsbr w) new line r m = sweep (exact qsbr_plans w) w (Refuses (OfQsbr w) new r) (refuses (OfQsbr w) new r (exact qsbr_plans w) w) line m

-- ---- a drain

module _ {P : Type 0} (qsbr : Bool) (w : BoardView P) where
  of_items : (x : Option (WorkerState P)) (q : Option QueueState) → Fails (items_in qsbr w x q)
  of_items None q = tt
  of_items (Some x) None = tt
  of_items (Some x) (Some q) =
      whichever (is_busy qsbr w x q) _ _ tt
      (whichever (is_none_left (items_of q.items)) _ _ tt
      (whichever (nat_lt w.grace.seq (2 ^ 62)) _ _ tt tt))

of_steps : (qsbr : Bool) (readers : ℕ) (r : Result ℕ Refusal) → Fails r → Fails (steps_with qsbr readers r)
of_steps qsbr readers (Ok items) f = tt
of_steps qsbr readers (Err e) f = f

steps_fail : (w : WorldView) (k : ℕ) → Fails (steps_in w k)
steps_fail (OfMemb w) k = of_steps false (length w.readers) (items_to_drain false w k) (of_items false w (slice_get w.workers k) (slice_get w.queues k))
steps_fail (OfQsbr w) k = of_steps true (length w.readers) (items_to_drain true w k) (of_items true w (slice_get w.workers k) (slice_get w.queues k))

pub drain_refused : (k : ℕ) (old new : WorldView) (r : Result ℕ Refusal) → MeetsDrain k old new r → IfErr r IsStepError
drain_refused k old new (Ok steps) m = tt
drain_refused k old new (Err e) m =
    ⊎_elim (λ f. subst Fails f (steps_fail old k)) (λ f. subst IsStepError (sym f.0) tt) m.1

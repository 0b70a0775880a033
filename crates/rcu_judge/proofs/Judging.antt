-- Logs up to an event, and what a verdict says of the whole log.
use Rattle.rcu_judge.proofs.Cited.{◌≡◌, ◌≢◌, ◌↔◌, ℕ, ◌+◌, Bool, true, List, [], ◌∷◌, ◌++◌, refl, sym, ap, ◌∙◌, subst, append_assoc, length-append, Event, State, start, IsAllowed, AreAllowed, IsRun, after, after_all, state_after, allowed_append, after_append}
use Rattle.rcu_judge.specs.declared.checker.Checker.{Checker}
use Rattle.rcu_judge.specs.declared.judge.Judge.{Judge}
use Rattle.rcu_judge.specs.declared.verdict.Rule.{Rule}
use Rattle.rcu_judge.specs.declared.verdict.Verdict.{Verdict}
use Rattle.rcu_judge.specs.declared.verdict.Verdict.TheVariants.{Yes, No}
use Rattle.rcu_judge.specs.Verdict.{IsFirstBreak, Judges}
use Rattle.rcu_judge.specs.Objects.{IsReached}
use Rattle.rcu_judge.specs.Checker.{Follows, Goes, Answers}
use Rattle.rcu_judge.specs.Judge.{HasTaken}

-- a run begins with a run, and its next event is allowed
next_allowed : (now : State) (before : List Event) (e : Event) (later : List Event) → AreAllowed now (before ++ e ∷ later) → IsAllowed (after_all now before) e
next_allowed now [] e later a = a.0
next_allowed now (f ∷ before) e later a = next_allowed (after now f) before e later a.1

pub breaks_run : (log : List Event) (at : ℕ) (rule : Rule) → IsFirstBreak log at rule → ¬ IsRun log
breaks_run log at rule b run = b.breaks (next_allowed start b.before b.event b.later (subst IsRun b.split run))

-- an event that the checker allows
module _ (old new : Checker) (before : List Event) (e : Event) (fine : Bool) (answers : Answers old new e fine) (run : IsRun before) (known : Follows old (state_after before)) where
  reached : IsReached (state_after before)
  reached = record { log = before; run = run; leads = refl }

  goes : Goes new (state_after before) e fine
  goes = answers (state_after before) reached known

  pub run_on : fine ≡ true → IsRun (before ++ e ∷ [])
  run_on fine_now = allowed_append start before (e ∷ []) run (goes.allowed.0 fine_now, tt)

  pub known_on : fine ≡ true → Follows new (state_after (before ++ e ∷ []))
  known_on fine_now = subst (Follows new) (sym (after_append start before (e ∷ []))) (goes.follows fine_now)

-- an event more, after one that breaks its rule
pub breaks_on : (log : List Event) (e : Event) (at : ℕ) (rule : Rule) → IsFirstBreak log at rule → IsFirstBreak (log ++ e ∷ []) at rule
breaks_on log e at rule b = record {
  before = b.before;
  event = b.event;
  later = b.later ++ e ∷ [];
  split = ap (λ (es : List Event). es ++ e ∷ []) b.split ∙ append_assoc b.before (b.event ∷ b.later) (e ∷ []);
  counted = b.counted;
  run = b.run;
  breaks = b.breaks;
  named = b.named;
}

judged_on : (verdict : Verdict) (log : List Event) (e : Event) → verdict ≢ Yes → Judges verdict log → Judges verdict (log ++ e ∷ [])
judged_on Yes log e wrong j = absurd (wrong refl)
judged_on (No at rule) log e wrong j = breaks_on log e at rule j

pub taken_after_break : (judge : Judge) (e : Event) → judge.verdict ≢ Yes → (log : List Event) → HasTaken judge log → HasTaken judge (log ++ e ∷ [])
taken_after_break judge e wrong log t = record {
  judged = judged_on judge.verdict log e wrong t.judged;
  counted = λ yes. absurd (wrong yes);
  known = λ yes. absurd (wrong yes);
}

-- the events that were taken are a run
module _ (judge : Judge) (new : Checker) (e : Event) (fine : Bool) (answers : Answers judge.checker new e fine) (yes : judge.verdict ≡ Yes) (log : List Event) (t : HasTaken judge log) where
  run : IsRun log
  run = subst (λ v. Judges v log) yes t.judged

  pub taken_more : fine ≡ true → (at : ℕ) → at ≡ judge.taken + 1 → HasTaken (record { checker = new; taken = at; verdict = judge.verdict }) (log ++ e ∷ [])
  taken_more fine_now at counted = record {
    judged = subst (λ v. Judges v (log ++ e ∷ [])) (sym yes) (run_on judge.checker new log e fine answers run (t.known yes) fine_now);
    counted = λ y. counted ∙ ap (λ n. n + 1) (t.counted y) ∙ sym (length-append log (e ∷ []));
    known = λ y. known_on judge.checker new log e fine answers run (t.known yes) fine_now;
  }

-- a verdict is `Yes` for a run alone
pub yes_exactly : (verdict : Verdict) (log : List Event) → Judges verdict log → (verdict ≡ Yes) ↔ IsRun log
yes_exactly Yes log j = ((λ _. j), (λ _. refl))
yes_exactly (No at rule) log j = ((λ e. absurd (no_yes e)), (λ run. absurd (breaks_run log at rule j run)))
  where
    no_yes : No at rule ≡ Yes → ⊥
    no_yes h = cc

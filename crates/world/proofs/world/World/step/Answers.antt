use Rattle.world.proofs.Cited.{sym, subst, IfOk, Refusal, Answer, shown, IsReached, OfMemb, OfQsbr, memb_plans, qsbr_plans, IsReachedWorld, IsPrompt, IsTested}
use Rattle.world.specs.declared.world.Boards.{Boards}
use Rattle.world.specs.declared.world.World.TheInside.{Inside}
use Rattle.world.specs.Seen.{seen}
use Rattle.std.specs.Prelude.{Result}
use Rattle.world.proofs.Promises.{prompt_meets, reached_after, step_refused, log_meets, meets_tests}
use Rattle.world.proofs.Standing.{meets_standing, meets_blocked}
use Rattle.world.proofs.world.World.step.Goals.{in-Memb, in-Qsbr}
use Rattle.world.proofs.world.World.step.Goals as goal

pub invariant_of-self : goal.invariant_of-self
invariant_of-self c =
    let Reached : Boards → Type 0 = λ b. IsReachedWorld (seen b) in
    let Kept : Inside → Type 0 = λ w. IsReachedWorld (seen w.boards) in
    elim c.match-self.branch [
      | in-Memb w ↦ subst Kept (sym w.self-inside-is) (reached_after memb_plans (shown w.in-Memb.board) (shown w.step.new.self) c.args.line.now w.step.result w.step.ensures (subst Reached w.in-Memb.is c.self.invariant))
      | in-Qsbr w ↦ subst Kept (sym w.self-inside-is) (reached_after qsbr_plans (shown w.in-Qsbr.board) (shown w.step-in-Qsbr.new.self) c.args.line.now w.step-in-Qsbr.result w.step-in-Qsbr.ensures (subst Reached w.in-Qsbr.is c.self.invariant))
    ]

pub returns-clause-prompt : goal.returns-clause-prompt
returns-clause-prompt c = λ h.
    let Prompt : Result Answer Refusal → Type 0 = λ r. IfOk r IsPrompt in
    elim c.match-self.branch [
      | in-Memb w ↦ subst Prompt (sym w.result-is) (prompt_meets memb_plans (shown w.in-Memb.board) (shown w.step.new.self) c.args.line.now w.step.result w.step.ensures h)
      | in-Qsbr w ↦ subst Prompt (sym w.result-is) (prompt_meets qsbr_plans (shown w.in-Qsbr.board) (shown w.step-in-Qsbr.new.self) c.args.line.now w.step-in-Qsbr.result w.step-in-Qsbr.ensures h)
    ]

pub returns-clause-tests : goal.returns-clause-tests
returns-clause-tests c =
    let Reached : Boards → Type 0 = λ b. IsReachedWorld (seen b) in
    elim c.match-self.branch [
      | in-Memb w ↦
          let r : IsReached memb_plans (shown w.in-Memb.board) = subst Reached w.in-Memb.is c.self.invariant in
          let tested = subst (λ v. IsTested memb_plans v c.args.line.now) r.leads (c.tests_are_made_in_order.ensures r.config r.seq r.lines c.args.line.now r.limits r.even r.low) in
          rw (← c.self.view_is, w.in-Memb.is, w.self-inside-is, w.result-is) (meets_tests memb_plans OfMemb (λ v w same. cc) (shown w.in-Memb.board) (shown w.step.new.self) c.args.line.now tested w.step.result w.step.ensures)
      | in-Qsbr w ↦
          let r : IsReached qsbr_plans (shown w.in-Qsbr.board) = subst Reached w.in-Qsbr.is c.self.invariant in
          let tested = subst (λ v. IsTested qsbr_plans v c.args.line.now) r.leads (c.tests_are_made_in_order-2.ensures r.config r.seq r.lines c.args.line.now r.limits r.even r.low) in
          rw (← c.self.view_is, w.in-Qsbr.is, w.self-inside-is, w.result-is) (meets_tests qsbr_plans OfQsbr (λ v w same. cc) (shown w.in-Qsbr.board) (shown w.step-in-Qsbr.new.self) c.args.line.now tested w.step-in-Qsbr.result w.step-in-Qsbr.ensures)
    ]

pub returns-clause-log : goal.returns-clause-log
returns-clause-log c = elim c.match-self.branch [
  | in-Memb w ↦ rw (← c.self.view_is, w.in-Memb.is, w.self-inside-is, w.result-is) (log_meets memb_plans (shown w.in-Memb.board) (shown w.step.new.self) c.args.line.now w.step.result w.step.ensures)
  | in-Qsbr w ↦ rw (← c.self.view_is, w.in-Qsbr.is, w.self-inside-is, w.result-is) (log_meets qsbr_plans (shown w.in-Qsbr.board) (shown w.step-in-Qsbr.new.self) c.args.line.now w.step-in-Qsbr.result w.step-in-Qsbr.ensures)
]

pub returns-clause-safe : goal.returns-clause-safe
returns-clause-safe c = c.reached_worlds_are_safe.ensures _ (invariant_of-self c)

pub returns-clause-refused : goal.returns-clause-refused
returns-clause-refused c = step_refused c.args.self.now (seen c.match-self.self-inside.boards) c.args.line.now c.match-self.result (returns-clause-tests c)

pub returns-clause-standing : goal.returns-clause-standing
returns-clause-standing c = meets_standing c.args.self.now (seen c.match-self.self-inside.boards) c.args.line.now c.match-self.result (returns-clause-tests c)

pub returns-clause-blocked : goal.returns-clause-blocked
returns-clause-blocked c = meets_blocked c.args.self.now (seen c.match-self.self-inside.boards) c.args.line.now c.match-self.result (returns-clause-tests c)

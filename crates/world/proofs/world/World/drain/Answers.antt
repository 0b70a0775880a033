use Rattle.world.proofs.Cited.{sym, subst, shown, memb_plans, qsbr_plans, IsReachedWorld}
use Rattle.world.specs.declared.world.Boards.{Boards}
use Rattle.world.specs.declared.world.World.TheInside.{Inside}
use Rattle.world.specs.Seen.{seen}
use Rattle.world.proofs.DrainSteps.{memb_drain, qsbr_drain, reached_drain}
use Rattle.world.proofs.Promises.{drain_log, drain_refused}
use Rattle.world.proofs.world.World.drain.Goals.{in-Memb, in-Qsbr}
use Rattle.world.proofs.world.World.drain.Goals as goal

pub invariant_of-self : goal.invariant_of-self
invariant_of-self c =
    let Reached : Boards → Type 0 = λ b. IsReachedWorld (seen b) in
    let Kept : Inside → Type 0 = λ w. IsReachedWorld (seen w.boards) in
    elim c.match-self.branch [
      | in-Memb w ↦ subst Kept (sym w.self-inside-is) (reached_drain memb_plans c.args.worker (shown w.in-Memb.board) (shown w.drain.new.self) w.drain.result w.drain.ensures (subst Reached w.in-Memb.is c.self.invariant))
      | in-Qsbr w ↦ subst Kept (sym w.self-inside-is) (reached_drain qsbr_plans c.args.worker (shown w.in-Qsbr.board) (shown w.drain-in-Qsbr.new.self) w.drain-in-Qsbr.result w.drain-in-Qsbr.ensures (subst Reached w.in-Qsbr.is c.self.invariant))
    ]

pub returns-clause-steps : goal.returns-clause-steps
returns-clause-steps c = elim c.match-self.branch [
  | in-Memb w ↦ rw (← c.self.view_is, w.in-Memb.is, w.self-inside-is, w.result-is) (memb_drain c.args.worker (shown w.in-Memb.board) (shown w.drain.new.self) w.drain.result w.drain.ensures)
  | in-Qsbr w ↦ rw (← c.self.view_is, w.in-Qsbr.is, w.self-inside-is, w.result-is) (qsbr_drain c.args.worker (shown w.in-Qsbr.board) (shown w.drain-in-Qsbr.new.self) w.drain-in-Qsbr.result w.drain-in-Qsbr.ensures)
]

pub returns-clause-log : goal.returns-clause-log
returns-clause-log c = drain_log c.args.worker c.args.self.now (seen c.match-self.self-inside.boards) c.match-self.result (returns-clause-steps c)

pub returns-clause-safe : goal.returns-clause-safe
returns-clause-safe c = c.reached_worlds_are_safe.ensures _ (invariant_of-self c)

pub returns-clause-refused : goal.returns-clause-refused
returns-clause-refused c = drain_refused c.args.worker c.args.self.now (seen c.match-self.self-inside.boards) c.match-self.result (returns-clause-steps c)

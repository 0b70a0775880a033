use Rattle.std.proofs.Common.{arith, ◌++◌, ◌∷◌, []}
use Rattle.torture_commands.proofs.Courses.{begun, room, go_on, done}
use Rattle.torture_commands.proofs.walking.walked.Goals as goal

pub loop-done-init : goal.loop-done-init
loop-done-init c = ([], begun c.args.walk.now c.in_ok-walking.walking.world c.in_ok-walking.walking.draw c.in_ok-walking.ensures.ok c.in_ok-walking.ensures.draw)

pub step-requires-clause-given : goal.step-requires-clause-given
step-requires-clause-given c = room c.args.walk.now c.loop-done.walking.world c.loop-done.walking.draw c.loop-done.done c.loop-done.invariant.0 c.requires c.loop-done-test.true c.loop-done.invariant.1

pub loop-done-preserved : goal.loop-done-preserved
loop-done-preserved c = (c.loop-done.invariant.0 ++ c.in_ok-step.field-0 ∷ [], go_on c.args.walk.now c.loop-done.walking.world c.step.new.self.world c.loop-done.walking.draw c.step.new.self.draw c.loop-done.done c.loop-done.invariant.0 c.in_ok-step.field-0 c.loop-done.invariant.1 c.in_ok-step.ensures.line c.in_ok-step.ensures.world c.in_ok-step.ensures.drawn)

pub returns-clause-ok : goal.returns-clause-ok
returns-clause-ok c = (c.loop-done.invariant.0, done c.args.walk.now c.loop-done.walking.world c.loop-done.walking.draw c.loop-done.done c.loop-done.invariant.0 c.loop-done.invariant.1 (omega (arith, c.loop-done-test.false, c.loop-done.auto.done-end)), c.loop-done.invariant.1.now)

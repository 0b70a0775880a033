use Rattle.std.proofs.Common.{arith}
use Rattle.torture_commands.proofs.Courses.{few_updaters}
use Rattle.torture_commands.proofs.drawing.Draw.line.Goals as goal

pub returns-in-Updater-2-clause-limit : goal.returns-in-Updater-2-clause-limit
returns-in-Updater-2-clause-limit c = (omega (arith, c.in-Updater-2.ensures.limit, few_updaters c.args.walk.now c.requires.walk), c.updater_verb-verb.ensures.limit)

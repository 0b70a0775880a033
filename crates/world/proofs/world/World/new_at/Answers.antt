use Rattle.std.proofs.Common.{rules, [], IsTrue}
use Rattle.world.specs.Steps.{is_supported_at}
use Rattle.world.proofs.Promises.{new_log, new_safe}
use Rattle.world.proofs.world.World.new_at.Goals as goal

pub returns-clause-log : goal.returns-clause-log
returns-clause-log c = new_log c.args.config c.args.seq c.fresh.result c.fresh.ensures.ok

pub returns-clause-safe : goal.returns-clause-safe
returns-clause-safe c =
    let good : IsTrue (is_supported_at c.args.config c.args.seq) = search rules in
    new_safe c.args.config c.args.seq c.fresh.result (c.every_schedule_reclaims_safely.ensures.safe c.args.config c.args.seq [] good) c.fresh.ensures.ok

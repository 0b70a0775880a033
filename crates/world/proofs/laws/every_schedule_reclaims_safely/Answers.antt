use Rattle.world.specs.Steps.{fresh_world_at, world_after_lines}
use Rattle.world.proofs.Promises.{reached_by, log_answered}
use Rattle.world.proofs.laws.every_schedule_reclaims_safely.Goals as goal

pub returns : goal.returns
returns c = record {
  events = log_answered;
  safe = λ config seq lines good. c.reached_worlds_are_safe.ensures (world_after_lines (fresh_world_at config seq) lines) (reached_by config seq lines good);
}

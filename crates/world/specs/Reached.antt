-- Boards that lines lead to.
use Rattle.std.specs.Prelude.{◌≡◌, ◌%◌, ◌^◌, ◌≤◌, ℕ, List, IsTrue}
use Rattle.world_state.specs.declared.config.Config.{Config}
use Rattle.world_state.specs.declared.line.Line.{Line}
use Rattle.world_state.specs.Limits.{is_within_limits}
use Rattle.world_state.specs.View.{Plans, BoardView, fresh_at}
use Rattle.world.specs.Lines.{world_after}

-- some lines lead from a fresh world to this one
pub record IsReached {P : Type 0} (plans : Plans P) (w : BoardView P) : Type 0 where
  pub config : Config
  pub limits : IsTrue (is_within_limits config)
  pub seq : ℕ
  pub even : seq % 2 ≡ 0
  pub low : seq ≤ 2 ^ 62
  pub lines : List Line
  pub leads : world_after plans (fresh_at config seq) lines ≡ w

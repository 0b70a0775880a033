-- What each law of worlds goes by of the plans that a world makes.
use Rattle.std.specs.Prelude.{◌≢◌, ℕ, List}
use Rattle.reader_word.specs.declared.layout.Layout.{Layout}
use Rattle.gp_memb.specs.declared.plan.Action.TheVariants.{LoadGroup}
use Rattle.gp_memb.specs.Plan.{after_loads}
use Rattle.gp_memb.specs.PlanLaws.{PlanLaws}
use Rattle.world_state.specs.View.{Plans}

pub record WorldPlanLaws {P : Type 0} (plans : Plans P) (layout : Layout) (slots : ℕ) (begun : ℕ → ℕ → P → Type 0) (present : P → ℕ) : Type 0 where
  pub made : (seq word : ℕ) → begun seq word (plans.made layout slots seq word)
  pub keeps : PlanLaws plans.qsbr plans.action plans.taken layout slots begun present
  pub loads_no_group : (seq word : ℕ) (p : P) → begun seq word p → (loads : List ℕ) (group : ℕ) → plans.action (after_loads plans.taken p loads) ≢ LoadGroup group

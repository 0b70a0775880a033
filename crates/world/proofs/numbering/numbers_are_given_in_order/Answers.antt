use Rattle.world.proofs.Cited.{◌≡◌, ℕ, true, List, subst, Event, Config, Line, WorldView, memb_plans, qsbr_plans, is_supported_at, fresh_world_at, world_after_lines, log_of}
use Rattle.world.specs.Given.{IsCounted, ObjectsAreGivenOnce}
use Rattle.world.proofs.Fence.{laws_of}
use Rattle.world.proofs.Counting.{numbers_in_order}
use Rattle.world.proofs.Promises.{in_worlds, log_answered}
use Rattle.world.proofs.numbering.numbers_are_given_in_order.Goals as goal

abbrev Given : WorldView → Type 0
Given w = IsCounted (log_of w) × ObjectsAreGivenOnce w

pub returns : goal.returns
returns c =
    let given : (config : Config) (seq : ℕ) (lines : List Line) → is_supported_at config seq ≡ true → Given (world_after_lines (fresh_world_at config seq) lines) = λ config seq lines good. in_worlds Given config seq lines good
    (numbers_in_order memb_plans (λ layout slots. laws_of (c.plan_keeps_its_laws.ensures layout slots)) config seq lines)
    (numbers_in_order qsbr_plans (λ layout slots. laws_of (c.plan_keeps_its_laws-2.ensures layout slots)) config seq lines) in
    record {
      counted = λ config seq lines good. subst (λ (log : List Event). IsCounted log) (log_answered config seq lines) (given config seq lines good).0;
      objects = λ config seq lines good. (given config seq lines good).1;
    }

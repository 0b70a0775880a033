use Rattle.world.proofs.Cited.{◌*◌, List, length, subst, All, Event, WorldView, memb_plans, qsbr_plans, log_of}
use Rattle.world.specs.Numbering.{IsNumberedWithin}
use Rattle.world.proofs.Fence.{laws_of}
use Rattle.world.proofs.Counting.{numbers}
use Rattle.world.proofs.Promises.{in_worlds, log_answered}
use Rattle.world.proofs.numbering.numbers_count_lines.Goals as goal

pub returns : goal.returns
returns c = λ config seq lines good.
    let AreNumbered : List Event → Type 0 = λ log. All (IsNumberedWithin (2 * length lines)) log in
    subst AreNumbered (log_answered config seq lines) (in_worlds (λ (w : WorldView). AreNumbered (log_of w)) config seq lines good
    (numbers memb_plans (λ layout slots. laws_of (c.plan_keeps_its_laws.ensures layout slots)) config seq lines)
    (numbers qsbr_plans (λ layout slots. laws_of (c.plan_keeps_its_laws-2.ensures layout slots)) config seq lines))

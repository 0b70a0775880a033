use Rattle.world_state.specs.declared.line.Line.{Line}
use Rattle.world.specs.Checks.{AnswersByItsCookie}
use Rattle.world.specs.Steps.{WorldView, OfMemb, OfQsbr, memb_plans, qsbr_plans}
use Rattle.world.proofs.Checks.{checks}
use Rattle.world.proofs.noting.checks_answer_by_their_cookie.Goals as goal

in_either : (w : WorldView) (line : Line) → AnswersByItsCookie w line
in_either (OfMemb w) line = checks memb_plans w line
in_either (OfQsbr w) line = checks qsbr_plans w line

pub returns : goal.returns
returns c = in_either

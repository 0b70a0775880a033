use Rattle.torture.proofs.Cited.{rules, ◌≡◌, ap, ◌∙◌, codes, false, IfOk-weaker, app_of, new_app}
use Rattle.clap.specs.declared.builder.command.Command.TheViews.{out-Command as fields_of}
use Rattle.torture.specs.Words.{with_world, with_course, IsWalk}
use Rattle.torture.proofs.program.walk_command.Goals as goal

pub returns : goal.returns
returns c =
    let world = c.in_ok-with_world.ensures in
    let bare_is : app_of c.long_about-walk.result ≡ new_app (codes "walk") = search rules in
    let bare_local : (fields_of c.long_about-walk.result).has_globals ≡ false = search rules in
    IfOk-weaker c.with_course.result _ IsWalk (λ p x. (world.0, world.1, x.0 ∙ ap with_course (world.2 ∙ ap (with_world world.0) bare_is), x.1 ∙ world.3 ∙ bare_local)) c.with_course.ensures

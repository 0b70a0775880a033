use Rattle.torture.proofs.Cited.{rules, ◌≡◌, ap, ◌∙◌, codes, false, IfOk-weaker, app_of, new_app}
use Rattle.clap.specs.declared.builder.command.Command.TheViews.{out-Command as fields_of}
use Rattle.torture.specs.Words.{with_load, IsRun}
use Rattle.torture.proofs.program.run_command.Goals as goal

pub returns : goal.returns
returns c =
    let bare_is : app_of c.long_about-run.result ≡ new_app (codes "run") = search rules in
    let bare_local : (fields_of c.long_about-run.result).has_globals ≡ false = search rules in
    IfOk-weaker c.with_load.result _ IsRun (λ p x. (x.0, x.1, x.2, x.3, x.4 ∙ ap (with_load x.0 x.1) bare_is, x.5 ∙ bare_local)) c.with_load.ensures

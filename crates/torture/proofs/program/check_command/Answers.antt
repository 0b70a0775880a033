use Rattle.torture.proofs.Cited.{◌≡◌, ◌∙◌, codes, false, refl, IfOk-weaker, app_of, new_app}
use Rattle.clap.specs.declared.builder.command.Command.TheViews.{out-Command as fields_of}
use Rattle.torture.specs.Words.{flag_rule, IsCheck}
use Rattle.torture.proofs.Options.{about_app, about_local, usage_app, usage_local, with_more}
use Rattle.torture.proofs.program.check_command.Goals as goal

pub returns : goal.returns
returns c =
    let bare = c.long_about-check.result in
    let bare_is : app_of bare ≡ new_app (codes "check") = about_app c.override_usage.result c.about.result bare c.about.ensures c.long_about-check.ensures ∙ usage_app c.new.result c.override_usage.result c.override_usage.ensures ∙ c.new.ensures.app in
    let bare_local : (fields_of bare).has_globals ≡ false = about_local c.override_usage.result c.about.result bare c.about.ensures c.long_about-check.ensures ∙ usage_local c.new.result c.override_usage.result c.override_usage.ensures ∙ c.new.ensures.local in
    IfOk-weaker c.arg.result _ IsCheck (λ p x. let more = with_more (new_app (codes "check")) bare bare p c.flag.result (flag_rule (codes "follow")) (bare_is, refl) x c.flag.ensures.rule c.flag.ensures.own in (more.0, more.1 ∙ bare_local)) c.arg.ensures

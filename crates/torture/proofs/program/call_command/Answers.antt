use Rattle.std.proofs.Common.{◌∙◌}
use Rattle.torture.proofs.Options.{about_app, about_local, usage_app, usage_local}
use Rattle.torture.proofs.program.call_command.Goals as goal

pub returns : goal.returns
returns c = (
  about_app c.override_usage.result c.about.result c.long_about.result c.about.ensures c.long_about.ensures ∙ usage_app c.new.result c.override_usage.result c.override_usage.ensures ∙ c.new.ensures.app,
  about_local c.override_usage.result c.about.result c.long_about.result c.about.ensures c.long_about.ensures ∙ usage_local c.new.result c.override_usage.result c.override_usage.ensures ∙ c.new.ensures.local,
)

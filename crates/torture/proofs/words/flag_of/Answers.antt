use Rattle.torture.proofs.Cited.{◌∙◌, found_of}
use Rattle.torture.proofs.Readings.{flag_read}
use Rattle.torture.proofs.words.flag_of.Goals as goal

pub returns : goal.returns
returns c = c.unwrap_or.ensures ∙ flag_read _ (found_of c.args.matches.now) c.args.name.now c.get_one.result c.get_one.ensures.none c.get_one.ensures.value

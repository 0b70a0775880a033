use Rattle.live_log.proofs.Tabling.{unnoted_free}
use Rattle.live_log.proofs.laws.chains_without_a_note_are_free.Goals as goal

pub returns : goal.returns
returns c = unnoted_free

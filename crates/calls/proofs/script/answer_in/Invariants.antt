use Rattle.rcu_hash.specs.domain.Naming.{names}
use Rattle.calls.proofs.script.answer_in.Given as goal

abbrev pub ghosts-answer_maps : goal.ghosts-answer_maps
ghosts-answer_maps g a = names a.opened

abbrev pub ghosts-answer_chains : goal.ghosts-answer_chains
ghosts-answer_chains g a = names a.opened

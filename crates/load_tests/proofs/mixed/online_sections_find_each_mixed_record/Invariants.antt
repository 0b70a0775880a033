use Rattle.rcu_hash.specs.domain.Naming.{names}
use Rattle.load_tests.proofs.mixed.online_sections_find_each_mixed_record.Given as goal

abbrev pub ghosts-finds_mixed : goal.ghosts-finds_mixed
ghosts-finds_mixed g a = names a.opened

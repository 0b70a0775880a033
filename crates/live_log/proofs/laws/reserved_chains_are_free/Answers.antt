use Rattle.live_log.proofs.Tabling.{reserved_free, reserved_linked}
use Rattle.live_log.proofs.laws.reserved_chains_are_free.Goals as goal

pub returns-clause-free : goal.returns-clause-free
returns-clause-free c = reserved_free

pub returns-clause-linked : goal.returns-clause-linked
returns-clause-linked c qsbr known log named chain o = reserved_linked qsbr known log named chain o

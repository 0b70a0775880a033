use Rattle.live_log.proofs.Tabling.{is_noted}
use Rattle.live_log.proofs.laws.named_chains_have_their_note.Goals as goal

pub returns : goal.returns
returns c qsbr log named chain o run linked directory names = let noted = is_noted qsbr log named chain o run linked directory names in (noted.0, noted.2)

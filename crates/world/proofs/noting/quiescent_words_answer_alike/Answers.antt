use Rattle.world.proofs.Loads.{alike_in}
use Rattle.world.proofs.noting.quiescent_words_answer_alike.Goals as goal

pub returns : goal.returns
returns c = λ config seq layout lines flavour. alike_in layout config seq lines config.flavour flavour

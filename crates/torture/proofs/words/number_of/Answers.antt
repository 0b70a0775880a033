use Rattle.torture.proofs.Cited.{from_str_gives-value, found_of}
use Rattle.torture.proofs.Readings.{bits_32, number_read}
use Rattle.torture.proofs.words.number_of.Goals as goal

pub returns : goal.returns
returns c = number_read from_str_gives-value.it 32 bits_32 (λ text r gives. gives.0) (found_of c.args.matches.now) c.args.name.now c.get_one.result c.get_one.ensures.none c.get_one.ensures.value

use Rattle.torture.proofs.Cited.{ℕ, Option, ap, ◌∙◌, codes, unwrap_or, found_of}
use Rattle.std.specs.contracts.prelude.U64FromStr.TheImpl.{from_str_gives-value}
use Rattle.torture.proofs.Readings.{bits_64, number_read}
use Rattle.torture.proofs.words.seed_of.Goals as goal

pub returns : goal.returns
returns c =
    let read = number_read from_str_gives-value.it 64 bits_64 (λ text r gives. gives.0) (found_of c.args.matches.now) (codes "seed") c.get_one.result c.get_one.ensures.none c.get_one.ensures.value in
    c.unwrap_or.ensures ∙ ap (λ (n : Option ℕ). unwrap_or n 1) read

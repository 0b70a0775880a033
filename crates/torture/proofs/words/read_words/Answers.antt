use Rattle.torture.proofs.Cited.{◌≡◌, false, inl, inr, sym, ◌∙◌, subcommand_rows_of, is_asked_within}
use Rattle.torture.proofs.words.read_words.Goals as goal

pub returns-then-is_within_limits-clause-said : goal.returns-then-is_within_limits-clause-said
returns-then-is_within_limits-clause-said g c = (subcommand_rows_of c.in-Ok.matches, c.in-Ok.ensures.taken, c.asked_of-asked.ensures)

pub returns-in-Ok-out_of_limits-clause-refused : goal.returns-in-Ok-out_of_limits-clause-refused
returns-in-Ok-out_of_limits-clause-refused g c =
    let is_past : is_asked_within c.asked_of-asked.result ≡ false = sym c.is_within_limits.ensures ∙ c.if-is_within_limits.false in
    inr (inl (c.asked_of-asked.result, (subcommand_rows_of c.in-Ok.matches, c.in-Ok.ensures.taken, c.asked_of-asked.ensures), is_past, c.in-Ok-out_of_limits.ensures))

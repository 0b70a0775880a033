use Rattle.call_text.proofs.Cited.{◌≡◌, ◌++◌, take, flat_map, string_bytes}
use Rattle.call_text.specs.Answers.{spaced}
use Rattle.call_text.proofs.printing.write_numbers.Given as goal

abbrev pub invariant-loop-number : goal.invariant-loop-number
invariant-loop-number l = string_bytes l.text ≡ string_bytes l.fn.text ++ flat_map spaced (take l.number-index l.numbers)

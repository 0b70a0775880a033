use Rattle.call_text.proofs.Cited.{◌≡◌, ◌++◌, take, flat_map, string_bytes}
use Rattle.call_text.specs.Answers.{pair_text}
use Rattle.call_text.proofs.printing.write_pairs.Given as goal

abbrev pub invariant-loop-key : goal.invariant-loop-key
invariant-loop-key l = string_bytes l.text ≡ string_bytes l.fn.text ++ flat_map pair_text (take l.key-index l.pairs)

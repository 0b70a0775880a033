use Rattle.call_text.proofs.Cited.{◌≡◌, ◌++◌, take, flat_map, string_bytes}
use Rattle.call_text.specs.Answers.{called_text}
use Rattle.call_text.proofs.printing.write_called.Given as goal

abbrev pub invariant-loop-one : goal.invariant-loop-one
invariant-loop-one l = string_bytes l.text ≡ string_bytes l.fn.text ++ flat_map called_text (take l.one-index l.called)

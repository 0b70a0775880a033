use Rattle.std.proofs.Common.{◌≡◌, drop}
use Rattle.schedule_text.specs.Reading.{word_from}
use Rattle.schedule_text.proofs.pieces.after_word.Given as goal

abbrev pub invariant-loop-byte : goal.invariant-loop-byte
invariant-loop-byte l = word_from (drop l.byte-index l.word) l.rest ≡ word_from l.word l.fn.text

use Rattle.std.proofs.Common.{◌≡◌, drop, map}
use Rattle.schedule_text.specs.Reading.{word_on, value_row}
use Rattle.schedule_text.proofs.pieces.word.Given as goal

abbrev pub invariant-loop-word : goal.invariant-loop-word
invariant-loop-word g l = word_on l.bad (drop l.word-index (map value_row l.table)) l.text ≡ word_on l.text (map value_row l.table) l.text

use Rattle.std.proofs.Common.{◌∙◌, sym}
use Rattle.schedule_text.proofs.Steps.{word_ends}
use Rattle.schedule_text.proofs.pieces.after_word.Goals as goal

pub returns-in_default : goal.returns-in_default
returns-in_default c = sym c.loop-byte.invariant ∙ word_ends c.args.word.now c.loop-byte.byte-index c.loop-byte.rest.now c.loop-byte-test.true c.in_default.len_below

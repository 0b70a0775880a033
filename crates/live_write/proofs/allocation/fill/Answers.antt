use Rattle.std.proofs.Common.{rules}
use Rattle.live_write.proofs.Filling.{fills}
use Rattle.live_write.proofs.allocation.fill.Goals as goal

pub returns-clause-words : goal.returns-clause-words
returns-clause-words g c = let right = c.requires.right in
    fills g.P.GracePlan.QSBR g.K.ChainRule.allows c.args.cell c.args.words c.args.seat.now.me c.store_word.new.seat.me c.store_word-2.new.seat.me c.store_word-3.new.seat.me c.store_word-4.new.seat.me (search rules) right.1 right.2
    c.store_word.ensures.worded.0 c.store_word-2.ensures.worded.0 c.store_word-3.ensures.worded.0 c.store_word-4.ensures.worded.0

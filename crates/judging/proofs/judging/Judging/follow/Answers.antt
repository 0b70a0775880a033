use Rattle.std.proofs.Common.{◌++◌}
use Rattle.judging.proofs.Judgings.{judged_along}
use Rattle.judging.proofs.judging.Judging.follow.Goals as goal

pub returns : goal.returns
returns c = λ fed j. rw c.so_far.ensures (judged_along c.feed-fed.new.self (fed ++ c.args.piece.now) c.feed-fed.result c.verdict.result (c.feed-fed.ensures fed j) c.verdict.ensures)

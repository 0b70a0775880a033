-- The lemmas of this crate that crates above it cite.
use denote.Param.Send.{IsSend}
use Rattle.judging.specs.contracts.text_judge.TextJudge.{the_row}
use Rattle.judging.proofs.text_judge.TextJudge.TheSendSync.{the_send}
pub use Rattle.judging.proofs.Judgings.{right_so_far}

-- a judge may be handed to another thread
pub judge_crosses : IsSend the_row
judge_crosses = the_send

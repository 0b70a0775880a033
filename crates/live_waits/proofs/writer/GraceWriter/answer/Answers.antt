use Rattle.std.proofs.Common.{rules}
use Rattle.live_waits.proofs.Answering.{ended_later}
use Rattle.live_waits.proofs.writer.GraceWriter.answer.Goals as goal

pub returns-clause-ended : goal.returns-clause-ended
returns-clause-ended g c = ended_later c.args.ask.asked.value.me.0.seen c.settle-answer.new.self.seat.me.0.seen c.load_seq.new.seat.me.0.seen (search rules) c.settle-answer.ensures.ended

use Rattle.std.proofs.Common.{length}
use Rattle.calls.specs.Script.{Answering}
use Rattle.calls.proofs.lines.answer_lines.Given as goal

abbrev pub invariant-loop-rest : goal.invariant-loop-rest
invariant-loop-rest g l = g.S.Answers.stands l.session × Answering l.text l.rest l.line (g.W.Write.contents l.initial.writer) (g.W.Write.contents l.writer) l.out.items

abbrev pub decreases-loop-rest : goal.decreases-loop-rest
decreases-loop-rest g l = length l.rest

use Rattle.std.proofs.Common.{◌∙◌, sym, Ok, Err}
use Rattle.schedule_text.proofs.Steps.{turn}
use Rattle.schedule_text.proofs.pieces.word.Goals as goal

pub returns-in-Ok : goal.returns-in-Ok
returns-in-Ok g c =
    sym c.loop-word.invariant ∙ turn c.args.table.now c.loop-word.word-index c.loop-word-item.result c.loop-word.bad.now c.args.text.now (Ok c.in-Ok.rest.now) c.loop-word-test.true c.loop-word-item.is c.in-Ok.ensures

pub loop-word-preserved : goal.loop-word-preserved
loop-word-preserved g c =
    rw c.further-bad.ensures (sym (turn c.args.table.now c.loop-word.word-index c.loop-word-item.result c.loop-word.bad.now c.args.text.now (Err c.in-Err.rest.now) c.loop-word-test.true c.loop-word-item.is c.in-Err.ensures) ∙ c.loop-word.invariant)

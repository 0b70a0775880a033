use Rattle.calls.proofs.Scripts.{refused}
use Rattle.calls.proofs.script.answer_in.Goals as goal

pub returns-in-Err : goal.returns-in-Err
returns-in-Err g c = refused c.args.text.now (g.W.Write.contents c.args.writer.now)

pub returns-in-Err-new : goal.returns-in-Err-new
returns-in-Err-new g c = refused c.args.text.now (g.W.Write.contents c.args.writer.now)

use Rattle.calls.proofs.Scripts.{refused}
use Rattle.calls.proofs.script.answer_chains.Goals as goal

pub returns-in_default : goal.returns-in_default
returns-in_default g c = refused c.args.text.now (g.W.Write.contents c.args.writer.now)

pub returns-in_default-new : goal.returns-in_default-new
returns-in_default-new g c = refused c.args.text.now (g.W.Write.contents c.args.writer.now)

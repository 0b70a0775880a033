use Rattle.live_read.proofs.Cited.{refl, IfErr-weaker}
use Rattle.live_read.proofs.Naming.{same_reader}
use Rattle.live_read.proofs.reader.Reader.enter.Goals as goal

pub returns-clause-same : goal.returns-clause-same
returns-clause-same g c = IfErr-weaker c.enter.result _ _ (λ e same. same_reader _ c.args.self.now same refl refl) c.enter.ensures.same

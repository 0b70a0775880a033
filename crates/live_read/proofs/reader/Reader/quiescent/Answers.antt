use Rattle.live_read.proofs.Cited.{refl, IfErr-weaker}
use Rattle.live_read.proofs.Naming.{same_reader}
use Rattle.live_read.proofs.reader.Reader.quiescent.Goals as goal

pub returns-clause-same : goal.returns-clause-same
returns-clause-same g c = IfErr-weaker c.quiescent.result _ _ (λ e same. same_reader _ c.args.self.now same refl refl) c.quiescent.ensures.same

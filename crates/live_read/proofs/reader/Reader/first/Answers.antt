use Rattle.live_read.proofs.Cited.{◌≤◌, refl, subst, IfErr-weaker, Sizes}
use Rattle.live_read.proofs.Naming.{same_reader}
use Rattle.live_read.proofs.reader.Reader.first.Goals as goal

pub returns-clause-refused : goal.returns-clause-refused
returns-clause-refused g c = let r = c.args.self.now in
    IfErr-weaker c.first.result _ _ (λ e h. (h.0, subst (λ (z : Sizes). z.chains ≤ c.args.chain) r.named.1 h.1, same_reader _ r h.2 refl refl)) c.first.ensures.refused

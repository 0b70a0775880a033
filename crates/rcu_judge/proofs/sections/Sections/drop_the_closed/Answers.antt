use Rattle.rcu_judge.proofs.Cited.{refl, rules, filter-RetainsPairs}
use Rattle.rcu_judge.proofs.SectionLemmas.{stay_dropped}
use Rattle.rcu_judge.proofs.sections.Sections.drop_the_closed.Goals as goal

pub returns : goal.returns
returns c =
    stay_dropped c.args.self.now (record { seen = c.args.self.now.seen; opened = c.args.self.now.opened; kept = c.retain.new.self; oldest = 0; closed = 0 }) refl
    (filter-RetainsPairs _ _ _ (λ k v b w g call. search rules) _ _ c.retain.ensures.filtered) c.len-kept.ensures.unique refl refl

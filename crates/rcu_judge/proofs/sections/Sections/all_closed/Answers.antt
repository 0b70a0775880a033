use Rattle.rcu_judge.proofs.Cited.{refl, sym, leb-true, le-leb}
use Rattle.rcu_judge.proofs.SectionLemmas.{none_left, by_the_oldest}
use Rattle.rcu_judge.proofs.sections.Sections.all_closed.Goals as goal

pub returns-in-Some : goal.returns-in-Some
returns-in-Some c = λ seen still awaited a w.
    let b = by_the_oldest c.args.self.now seen still a awaited c.args.moment w c.in-Some.field-0-0.now c.in-Some.kept.now (sym c.in-Some.ensures.entry) c.in-Some.ensures.value in
    ((λ t. b.0 (leb-true c.args.moment c.in-Some.kept.now.place t)), (λ e. le-leb c.args.moment c.in-Some.kept.now.place (b.1 e)))

pub returns-in-None : goal.returns-in-None
returns-in-None c = λ seen still awaited a w. ((λ _. none_left c.args.self.now seen still a awaited c.args.moment w (sym c.in-None.ensures.entry)), (λ _. refl))

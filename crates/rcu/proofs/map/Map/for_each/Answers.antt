use Rattle.rcu.proofs.Cited.{arith, rules, [], ◌∷◌, sym, always_mut, mut_by, Called}
use Rattle.rcu.specs.Keys.{HasWord}
use Rattle.rcu.proofs.Walking.{folds_at, folds_through}
use Rattle.rcu.proofs.map.Map.for_each.Goals as goal

pub for_each-requires : goal.for_each-requires
for_each-requires g c = (omega arith, mut_by _ (λ s. always_mut g.V.FnMut s.0.now) (λ s a i. i) (λ s a r t i e. search rules) _ c.requires.callable)

pub returns-clause-met : goal.returns-clause-met
returns-clause-met g c =
    let w = c.for_each.ensures.met in
    let all = folds_through _ (λ f e h. (x : g.row.T.Denot) × HasWord g.T.Word.packed e.1 x × Called g.V.FnMut f (e.0, (x, tt)) tt h) (λ s. s.0.now) (λ s. s.0.ghost_name) (λ f e h x. search rules) w.0 _ _ w.2 in
    let same = sym all.1 in
    (w.0, w.1, folds_at _ _ w.0 _ _ (search rules) all.0)

pub returns-clause-callable : goal.returns-clause-callable
returns-clause-callable g c =
    let w = c.for_each.ensures.met in
    let all = folds_through _ (λ f e h. (x : g.row.T.Denot) × HasWord g.T.Word.packed e.1 x × Called g.V.FnMut f (e.0, (x, tt)) tt h) (λ s. s.0.now) (λ s. s.0.ghost_name) (λ f e h x. search rules) w.0 _ _ w.2 in
    let same = sym all.1 in
    let last = (c.for_each.ensures.callable.at ((0, (0, tt)) ∷ [])).0 in
    search rules

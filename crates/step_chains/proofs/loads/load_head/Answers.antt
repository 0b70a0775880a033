use Rattle.step_chains.proofs.Cited.{ℕ, List, ap, sym, subst, ◌∙◌, arith, ObjectId, first_of, objects_of, Sizes, head_at, ref, IsListed}
use Rattle.step_chains.proofs.Reading.{looks_head}
use Rattle.step_chains.proofs.loads.load_head.Goals as goal

pub load-requires : goal.load-requires
load-requires g c = (c.requires.0, c.head_place-place.ensures.1, looks_head g.P.GracePlan.QSBR g.K.ChainRule.allows _ _ _ _ _ c.requires.1)

pub returns-clause-first : goal.returns-clause-first
returns-clause-first g c = let sized = c.args.table.now.sized.2 in let low = c.requires.2 in let sizes = ap (λ (k : Sizes). k.chains) c.requires.1 in
    c.load.ensures.2.3 c.args.chain (omega arith) (c.head_place-place.ensures.0 ∙ ap (λ (k : Sizes). head_at k c.args.chain) (sym c.requires.1))

pub returns-clause-own : goal.returns-clause-own
returns-clause-own g c own is =
    let sized = c.args.table.now.sized.2 in let low = c.requires.2 in let sizes = ap (λ (k : Sizes). k.chains) c.requires.1 in let seen = c.load.new.seat.me.0.seen in
    let first = c.load.ensures.2.3 c.args.chain (omega arith) (c.head_place-place.ensures.0 ∙ ap (λ (k : Sizes). head_at k c.args.chain) (sym c.requires.1)) in
    let listed : IsListed (record c.args.seat.now.me.0 { seen = seen }) = subst IsListed c.load.ensures.2.0.1 (c.load.ensures.2.1.1 own).0 in
    first.0 ∙ (ap (λ (n : ℕ). ref (objects_of seen) (first_of ((objects_of seen).chain n))) (sym is) ∙ (ap (λ (l : List ObjectId). ref (objects_of seen) (first_of l)) listed.0 ∙ sym listed.1))

pub returns-clause-few : goal.returns-clause-few
returns-clause-few g c own = let sized = c.args.table.now.sized.2 in let few = c.load.ensures.2.4 own in let sizes = ap (λ (k : Sizes). k.pool) c.requires.1 in omega arith

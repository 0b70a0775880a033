use Rattle.std.proofs.Common.{◌-◌, ◌∷◌, [], arith, length-append}
use Rattle.registry.proofs.Numbers.{once_more, from_below}
use Rattle.registry.proofs.registry.numbers_below.Goals as goal

pub loop-number-preserved : goal.loop-number-preserved
loop-number-preserved c = record {
  counted = rw c.push_reserved.ensures.items (omega (arith, length-append c.loop-number.numbers.items ((c.loop-number.number - 1) ∷ []), c.loop-number.invariant.counted));
  once = rw c.push_reserved.ensures.items (once_more _ _ c.loop-number.invariant.once (λ h. let low = ((c.loop-number.invariant.all (c.loop-number.number - 1)).0 h).0 in absurd (omega (arith, low))));
  all = rw c.push_reserved.ensures.items (from_below _ _ _ (omega arith) (omega arith) c.loop-number.invariant.all);
  room = rw c.push_reserved.ensures.capacity c.loop-number.invariant.room;
}

pub returns-clause-numbers : goal.returns-clause-numbers
returns-clause-numbers c = record {
  counted = omega arith;
  once = c.loop-number.invariant.once;
  all = λ n. ((λ h. ((c.loop-number.invariant.all n).0 h).1), (λ h. (c.loop-number.invariant.all n).1 (omega arith, h)));
}

use Rattle.std.proofs.Common.{arith, sym, subst}
use Rattle.calls.specs.Standing.{Stands}
use Rattle.calls.proofs.Holding.{either_on, stand_on}
use Rattle.calls.proofs.walker.lock.Goals as goal

pub returns : goal.returns
returns g c =
    let held = c.args.walker.now.held in
    either_on c.lock-made.result _ _ _ c.lock-made.ensures.ok c.lock-made.ensures.same
    (λ x b. stand_on c.args.walker.now.reader.core c.lock-made.new.self.core held (λ d. (let e = b.deeper in omega arith, b.keeps d)) c.requires.stands)
    (λ y e. subst (λ r. Stands r.core held) (sym e) c.requires.stands)

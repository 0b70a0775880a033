use Rattle.std.proofs.Common.{arith, sym, subst}
use Rattle.calls.specs.Standing.{Stands}
use Rattle.calls.proofs.Holding.{either_way, stand_on}
use Rattle.calls.proofs.walker.try_lock.Goals as goal

pub returns : goal.returns
returns g c =
    let held = c.args.walker.now.held in
    either_way c.try_lock-locked.result _ _ _ c.try_lock-locked.ensures
    (λ b. stand_on c.args.walker.now.reader.core c.try_lock-locked.new.self.core held (λ d. (let e = b.deeper in omega arith, b.keeps d)) c.requires.stands)
    (λ y. subst (λ r. Stands r.core held) (sym y.0) c.requires.stands)

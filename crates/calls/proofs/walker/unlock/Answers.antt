use Rattle.calls.proofs.Cited.{◌≡◌, ◌<◌, ℕ, IfSome, Some, arith, sym, subst, KeepsHeld}
use Rattle.calls.proofs.Holding.{either_on, keeps_same, stand_kept}
use Rattle.calls.proofs.walker.unlock.Goals as goal

pub returns : goal.returns
returns g c =
    let r = c.args.walker.now.reader.core in let s = c.unlock-made.new.self.core in
    stand_kept r s c.args.walker.now.held c.kept-walker.result
    (subst (λ (n : ℕ). IfSome c.kept-walker.result (λ h. (0 < n) × (c.args.walker.now.held ≡ Some h))) c.depth.ensures c.kept-walker.ensures)
    (λ d. either_on c.unlock-made.result _ _ _ c.unlock-made.ensures.ok c.unlock-made.ensures.same
    (λ x b. b.1.keeps (let e = b.1.shallower in omega arith))
    (λ y e. subst (λ t. KeepsHeld r t.core) (sym e) (keeps_same r)))
    c.requires.stands

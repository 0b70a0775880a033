use Rattle.rcu_hash.proofs.Cited.{Cuts, [], ◌∷◌, ◌∙◌, ◌++◌, refl, sym, ap, subst, arith, waited_later, UsesUp, uses_up_heard, uses_up_on, uses_up_none, uses_up_same, uses_up_once}
use Rattle.rcu_hash.proofs.directory.DirectoryLock.retire_all.Goals as goal

pub loop-init : goal.loop-init
loop-init g c = record { left = omega (arith, c.len-many.ensures); uses = uses_up_same c.args.caller.now c.args.jobs.now.items; chain = c.requires.chain; number = refl }

pub retire_first-requires-clause-waited : goal.retire_first-requires-clause-waited
retire_first-requires-clause-waited g c =
    let w = g.W.Caller in let n = c.args.naming in waited_later n.directory n.object (w.heard c.args.caller.now) (w.heard c.loop.caller) (uses_up_heard c.loop.invariant.uses) c.requires.waited

pub returns-in-Err-clause-uses : goal.returns-in-Err-clause-uses
returns-in-Err-clause-uses g c =
    let w0 = c.args.caller.now in let w1 = c.loop.caller in let w2 = c.retire_first.new.caller in let e = c.in-Err.ensures in let jobs = c.loop.jobs.items in let left = c.pop.new.self.items in
    let back = c.push_reserved.ensures.items ∙ (ap (λ j. left ++ j ∷ []) e.refused.0 ∙ sym c.in-Some.ensures.items) in
    subst (UsesUp g.P.GracePlan.QSBR g.B.Site.sizes c.args.naming.directory g.W.Caller g.row.D.coded.code w0 w2 c.args.jobs.now.items) (sym back) (uses_up_on c.loop.invariant.uses (uses_up_none w1 w2 jobs e.changes.1 e.same e.heard))

pub loop-preserved : goal.loop-preserved
loop-preserved g c =
    let w1 = c.loop.caller in let w2 = c.retire_first.new.caller in let i = c.loop.invariant in let e = c.in_default-retire_first.ensures in record {
      left = let fewer = e.retired.1 in let was = i.left in omega arith;
      uses = uses_up_on i.uses (uses_up_once w1 w2 c.loop.jobs.items c.pop.new.self.items (c.in-Some.job ∷ []) (Cuts (g.row.D.coded.code c.in-Some.job)) (g.W.Caller.heard w2) c.in-Some.ensures.items refl e.changes.0 e.same (λ k none. absurd none) e.retired.0 ([], refl));
      chain = e.chain;
      number = e.number ∙ i.number;
    }

pub returns-in-Err-clause-number : goal.returns-in-Err-clause-number
returns-in-Err-clause-number g c = c.in-Err.ensures.number ∙ c.loop.invariant.number

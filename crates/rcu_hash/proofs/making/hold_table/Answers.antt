use Rattle.rcu_hash.proofs.Cited.{inl, ◌∙◌, err_from_is_err_and, both_free, taken_behind, looked_then}
use Rattle.rcu_hash.proofs.making.hold_table.Goals as goal

pub returns-in_err-own-clause-refused : goal.returns-in_err-own-clause-refused
returns-in_err-own-clause-refused g c =
    let p = err_from_is_err_and c.from_residual.result c.from_residual.ensures.1 in let no = c.in_err-own.ensures.refused in let t = no.1 in
    rw p.1 (p.2 ∙ no.0, record { chain = t.chain; one = inl t.one; found = t.found; looks = t.looks; why = t.why })

pub returns-in_err-chains-clause-refused : goal.returns-in_err-chains-clause-refused
returns-in_err-chains-clause-refused g c =
    let a = c.in_ok-own.ensures.same in let no = c.in_err-chains.ensures.refused in let p = err_from_is_err_and c.from_residual-in_err-chains.result c.from_residual-in_err-chains.ensures.1 in
    rw p.1 (p.2 ∙ no.0, taken_behind g.W.Caller g.P.GracePlan.QSBR g.B.Site.sizes c.args.directory c.args.first c.args.many c.args.caller.now c.hold_empty.new.caller c.hold_all.new.caller a.0 c.hold_empty.ensures.heard a.1 c.requires.range.2 no.1)

pub returns-in_err-chains-clause-same : goal.returns-in_err-chains-clause-same
returns-in_err-chains-clause-same g c = looked_then c.hold_empty.ensures.same.0 c.hold_all.ensures.same

pub returns-clause-free : goal.returns-clause-free
returns-clause-free g c =
    both_free g.W.Caller g.P.GracePlan.QSBR g.B.Site.sizes c.args.directory c.args.first c.args.many c.args.caller.now c.hold_empty.new.caller c.hold_all.new.caller c.hold_empty.ensures.same.0 c.hold_empty.ensures.heard c.hold_all.ensures.same.heard c.in_ok-own.ensures.unused c.in_ok-chains.ensures.free

pub returns-clause-same : goal.returns-clause-same
returns-clause-same g c = looked_then c.hold_empty.ensures.same.0 c.hold_all.ensures.same

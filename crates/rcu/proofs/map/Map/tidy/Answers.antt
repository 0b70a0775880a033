use Rattle.rcu.proofs.Cited.{copied, rules, ◌≡◌, refl, subst, FewJobs, tabled, StopsTidying}
use Rattle.rcu.specs.Resizing.{IsNotTidied}
use Rattle.rcu.specs.declared.reclaim.Reclaim.TheVariants.{Moved}
use Rattle.rcu.proofs.Moving.{if_is, moves_none, moves_tidied, untidied}
use Rattle.rcu.proofs.map.Map.tidy.Goals as goal

pub loop-init : goal.loop-init
loop-init g c = moves_none g.W.Caller g.P.GracePlan.QSBR g.B.Site.sizes c.args.self.now.table.directory (copied 2 g.row.F) c.args.caller.now

pub returns-in-None-stop-clause-moves : goal.returns-in-None-stop-clause-moves
returns-in-None-stop-clause-moves g c = moves_tidied g.W.Caller g.P.GracePlan.QSBR g.B.Site.sizes c.args.self.now.table.directory (copied 2 g.row.F) _ Moved c.args.caller.now c.loop.caller c.tidy-end.new.caller c.in_ok-moved.field-0.items c.tidy-end.result.jobs.items refl c.loop.invariant c.in_ok-moved.ensures.each c.tidy-end.ensures.tidied c.tidy-end.ensures.heard.after_heard

pub returns-in-Some-stop-clause-moves : goal.returns-in-Some-stop-clause-moves
returns-in-Some-stop-clause-moves g c = moves_tidied g.W.Caller g.P.GracePlan.QSBR g.B.Site.sizes c.args.self.now.table.directory (copied 2 g.row.F) _ Moved c.args.caller.now c.loop.caller c.tidy-end.new.caller c.in_ok-moved.field-0.items c.tidy-end.result.jobs.items refl c.loop.invariant c.in_ok-moved.ensures.each c.tidy-end.ensures.tidied c.tidy-end.ensures.heard.after_heard

pub loop-preserved : goal.loop-preserved
loop-preserved g c = moves_tidied g.W.Caller g.P.GracePlan.QSBR g.B.Site.sizes c.args.self.now.table.directory (copied 2 g.row.F) _ Moved c.args.caller.now c.loop.caller c.tidy-end.new.caller c.in_ok-moved.field-0.items c.tidy-end.result.jobs.items refl c.loop.invariant c.in_ok-moved.ensures.each c.tidy-end.ensures.tidied c.tidy-end.ensures.heard.after_heard

pub returns-in-Some-stop-clause-refused : goal.returns-in-Some-stop-clause-refused
returns-in-Some-stop-clause-refused g c =
    let w = g.W.Caller in let was = c.loop.caller in let new = c.tidy-end.new.caller in
    let enough : ¬ (c.in-Some-stop.refusal ≡ FewJobs) = search rules in
    let stops = if_is c.tidy-end.result.stop c.in-Some-stop.refusal (λ e. StopsTidying w g.P.GracePlan.QSBR tabled was new g.B.Site.sizes c.args.self.now.table.directory c.tidy-end.result e) c.in-Some-stop.is c.tidy-end.ensures.stopped in
    subst (λ e. IsNotTidied g.W.Caller g.P.GracePlan.QSBR g.B.Site.sizes c.args.self.now.table.directory (copied 2 g.row.F) c.args.caller.now new e) (search rules)
    (untidied g.W.Caller g.P.GracePlan.QSBR g.B.Site.sizes c.args.self.now.table.directory (copied 2 g.row.F) c.args.caller.now was new c.loop.invariant.hears c.tidy-end.result c.in-Some-stop.refusal enough stops)

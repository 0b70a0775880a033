use Rattle.std.proofs.Common.{subst, sym, Err}
use Rattle.torture_run.specs.declared.fault.RunFault.{RunFault}
use Rattle.torture_run.specs.Running.{HasRun}
use Rattle.torture_run.proofs.Refused.{told, untouched}
use Rattle.torture_run.proofs.execution.run_threads.Goals as goal

pub returns-in-Err : goal.returns-in-Err
returns-in-Err g c =
    let target = c.args.run.now.target in
    let text = g.W.Write.contents c.args.writer.now in
    subst (λ (f : RunFault). HasRun target text text (Err f)) (sym c.fault_of.ensures) (untouched target text c.in-Err.refusal)

pub returns-in-Ok : goal.returns-in-Ok
returns-in-Ok g c = told c.args.run.now.target (g.W.Write.contents c.args.writer.now) (g.W.Write.contents c.write_counts.new.writer) c.in-Ok.counts c.write_counts.result c.write_counts.ensures

use Rattle.schedule.proofs.Cited.{inr, err_from_is_err_and}
use Rattle.schedule.proofs.KnownBytes.{consumes_more}
use Rattle.schedule.proofs.ports.read_whole.Goals as goal

pub returns-in_err-extend_from_slice-in-Ok-clause-fault :
    goal.returns-in_err-extend_from_slice-in-Ok-clause-fault
returns-in_err-extend_from_slice-in-Ok-clause-fault g c =
    let p = err_from_is_err_and c.from_residual.result c.from_residual.ensures.1 in
    rw p.1 (inr p.2, (_, consumes_more (g.R.Read.remaining c.args.reader.now) (g.R.Read.remaining c.loop.reader) (g.R.Read.remaining c.read.new.self) c.loop.text.items _ c.loop.invariant c.in-Ok.ensures.bytes.0))

use Rattle.std.proofs.Common.{ap, sym, ◌∙◌}
use Rattle.schedule.specs.Stream.{Header, Lines, Failed, progress_of}
use Rattle.schedule.proofs.Standing.{from, header_ends, lines_end, failed_ends}
use Rattle.schedule.proofs.feeding.Replay.end.Goals as goal

pub returns-in-Header-clause-finishes : goal.returns-in-Header-clause-finishes
returns-in-Header-clause-finishes c = λ fed earlier s.
    rw c.len.ensures.length (header_ends c.in-Header.held fed earlier c.args.out.now.items (from c.args.self.now (Header c.in-Header.held) fed earlier (sym c.self.view_is ∙ ap progress_of c.in-Header.is) s))

pub returns-in-Lines-clause-finishes : goal.returns-in-Lines-clause-finishes
returns-in-Lines-clause-finishes c = λ fed earlier s.
    let r = c.in-Lines.running in
    lines_end r.world r.line r.held fed earlier c.args.out.now.items c.end.new.out.items c.end.result (from c.args.self.now (Lines r.world r.line r.held) fed earlier (sym c.self.view_is ∙ ap progress_of c.in-Lines.is) s) c.end.ensures

pub returns-in-Failed-clause-finishes : goal.returns-in-Failed-clause-finishes
returns-in-Failed-clause-finishes c = λ fed earlier s.
    failed_ends c.in-Failed.fault fed earlier c.args.out.now.items (from c.args.self.now (Failed c.in-Failed.fault) fed earlier (sym c.self.view_is ∙ ap progress_of c.in-Failed.is) s)

use Rattle.schedule.proofs.Cited.{◌++◌, ap, sym, ◌∙◌, refl, err_from_is_err_and}
use Rattle.schedule.specs.Stream.{Header, Lines, Failed, progress_of}
use Rattle.schedule.proofs.Standing.{from, header_partial, header_leads, header_runs, lines_run, no_world, stands_header, stands_bad_header, stays_failed}
use Rattle.schedule.proofs.feeding.Replay.go_on.Goals as goal

pub returns-in_err-running-in-Ok-Some-clause-feeds : goal.returns-in_err-running-in-Ok-Some-clause-feeds
returns-in_err-running-in-Ok-Some-clause-feeds c = λ fed earlier s.
    let p = err_from_is_err_and c.from_residual.result c.from_residual.ensures.1 in
    let t = from c.args.self.now (Header c.in-Header.held) fed earlier (sym c.self.view_is ∙ ap progress_of c.in-Header.is) s in
    let n = (rw c.in-Ok-Some.field-0-is at c.in-Ok-Some.ensures) (header_partial c.in-Header.held fed earlier t) in
    rw (p.1, p.2) (no_world c.in-Header.held fed c.args.piece.now earlier c.args.out.now.items c.in-Ok-Some.rest.now c.in-Ok-Some.config c.in_err-running-in-Ok-Some.field-0.0 t n.0 c.in_err-running-in-Ok-Some.ensures.err)

pub returns-in-Ok-None-clause-feeds : goal.returns-in-Ok-None-clause-feeds
returns-in-Ok-None-clause-feeds c = λ fed earlier s.
    let t = from c.args.self.now (Header c.in-Header.held) fed earlier (sym c.self.view_is ∙ ap progress_of c.in-Header.is) s in
    let n = (rw c.in-Ok-None.field-0-is at c.in-Ok-None.ensures) (header_partial c.in-Header.held fed earlier t) in
    header_leads (Header c.next_header.new.self) c.in-Header.held fed c.args.piece.now earlier c.args.out.now.items t (stands_header c.next_header.new.self (c.in-Header.held ++ c.args.piece.now) n.1 n.0)

pub returns-in_ok-running-in-Ok-Some-clause-feeds : goal.returns-in_ok-running-in-Ok-Some-clause-feeds
returns-in_ok-running-in-Ok-Some-clause-feeds c = λ fed earlier s.
    let t = from c.args.self.now (Header c.in-Header.held) fed earlier (sym c.self.view_is ∙ ap progress_of c.in-Header.is) s in
    let n = (rw c.in-Ok-Some.field-0-is at c.in-Ok-Some.ensures) (header_partial c.in-Header.held fed earlier t) in
    let r = c.in_ok-running-in-Ok-Some.running in
    let v = c.feed-fed.new.self in
    header_runs c.in-Header.held fed c.args.piece.now earlier c.args.out.now.items c.feed-fed.new.out.items c.in-Ok-Some.rest.now c.in-Ok-Some.config r.world v.world r.line v.line r.held v.held c.feed-fed.result t n.0
    c.in_ok-running-in-Ok-Some.ensures.ok c.feed-fed.ensures

pub returns-in-Err-clause-feeds : goal.returns-in-Err-clause-feeds
returns-in-Err-clause-feeds c = λ fed earlier s.
    let t = from c.args.self.now (Header c.in-Header.held) fed earlier (sym c.self.view_is ∙ ap progress_of c.in-Header.is) s in
    let n = c.in-Err.ensures (header_partial c.in-Header.held fed earlier t) in
    header_leads _ c.in-Header.held fed c.args.piece.now earlier c.args.out.now.items t (stands_bad_header (c.in-Header.held ++ c.args.piece.now) n.0 n.1 c.in-Err.column n.2 n.3)

pub returns-in-Lines-clause-feeds : goal.returns-in-Lines-clause-feeds
returns-in-Lines-clause-feeds c = λ fed earlier s.
    let r = c.in-Lines.running in
    let v = c.feed.new.self in
    let t = from c.args.self.now (Lines r.world r.line r.held) fed earlier (sym c.self.view_is ∙ ap progress_of c.in-Lines.is) s in
    lines_run fed c.args.piece.now earlier c.args.out.now.items c.feed.new.out.items r.held r.world v.world r.line v.line v.held c.feed.result t c.feed.ensures

pub returns-in-Failed-clause-feeds : goal.returns-in-Failed-clause-feeds
returns-in-Failed-clause-feeds c = λ fed earlier s.
    stays_failed c.in-Failed.fault fed c.args.piece.now earlier c.args.out.now.items c.args.out.now.items refl (from c.args.self.now (Failed c.in-Failed.fault) fed earlier (sym c.self.view_is ∙ ap progress_of c.in-Failed.is) s)

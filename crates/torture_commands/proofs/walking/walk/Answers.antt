use Rattle.torture_commands.proofs.Cited.{◌∙◌, ap, length, err_from_is_err_and, Counts}
use Rattle.torture_commands.specs.Walking.{walk_text}
use Rattle.torture_commands.proofs.Courses.{walk_unwritten, walk_written, walk_cut}
use Rattle.torture_commands.proofs.walking.walk.Goals as goal

pub returns-in_err-verdict : goal.returns-in_err-verdict
returns-in_err-verdict g c =
    let p = err_from_is_err_and c.from_residual-in_err-verdict.result c.from_residual-in_err-verdict.ensures.1 in
    rw (p.1, p.2, c.in_err-verdict.ensures.memory) (walk_unwritten c.args.walk.now (g.W.Write.contents c.args.writer.now))

pub returns-in_err-text : goal.returns-in_err-text
returns-in_err-text g c =
    let p = err_from_is_err_and c.from_residual-in_err-text.result c.from_residual-in_err-text.ensures.1 in
    rw (p.1, p.2) (walk_unwritten c.args.walk.now (g.W.Write.contents c.args.writer.now))

pub returns-in_err-write_whole : goal.returns-in_err-write_whole
returns-in_err-write_whole g c =
    let p = err_from_is_err_and c.from_residual-in_err-write_whole.result c.from_residual-in_err-write_whole.ensures.1 in
    rw (p.1, p.2) (walk_cut c.args.walk.now c.in_ok-world.world c.log-log.result.now c.in_ok-verdict.verdict c.as_bytes.result.now (g.W.Write.contents c.args.writer.now) (g.W.Write.contents c.write_whole.new.writer) c.in_err-write_whole.field-0.0
    c.in_ok-world.ensures.ok c.log-log.ensures.log c.log-log.ensures.safe.run c.in_ok-verdict.ensures.exactly (c.as_bytes.ensures.value ∙ c.in_ok-text.ensures.ok ∙ ap (λ (k : Counts). walk_text c.args.walk.now.lines (length c.log-log.result.now) k c.in_ok-verdict.verdict) c.of.ensures.counts) c.in_err-write_whole.ensures.written)

pub returns : goal.returns
returns g c =
    walk_written c.args.walk.now c.in_ok-world.world c.log-log.result.now c.in_ok-verdict.verdict c.as_bytes.result.now (g.W.Write.contents c.args.writer.now) (g.W.Write.contents c.write_whole.new.writer)
    c.in_ok-world.ensures.ok c.log-log.ensures.log c.log-log.ensures.safe.run c.in_ok-verdict.ensures.exactly (c.as_bytes.ensures.value ∙ c.in_ok-text.ensures.ok ∙ ap (λ (k : Counts). walk_text c.args.walk.now.lines (length c.log-log.result.now) k c.in_ok-verdict.verdict) c.of.ensures.counts) c.in_ok-write_whole.ensures.written

use Rattle.torture_commands.proofs.Cited.{arith, ◌+◌, err_from_is_err_and}
use Rattle.torture_commands.proofs.Courses.{room, print_begun, print_more, flushed, print_unbegun, print_full, print_cut, print_end}
use Rattle.torture_commands.proofs.walking.print_schedule.Goals as goal

pub returns-in_err-walking : goal.returns-in_err-walking
returns-in_err-walking g c =
    let p = err_from_is_err_and c.from_residual.result c.from_residual.ensures.1 in
    rw (p.1, p.2, c.in_err-walking.ensures.memory) (print_unbegun c.args.walk.now (g.W.Write.contents c.args.writer.now))

pub returns-in_err-print_header : goal.returns-in_err-print_header
returns-in_err-print_header g c =
    let p = err_from_is_err_and c.from_residual-in_err-print_header.result c.from_residual-in_err-print_header.ensures.1 in
    rw (p.1, p.2) (print_unbegun c.args.walk.now (g.W.Write.contents c.args.writer.now))

pub loop-done-init : goal.loop-done-init
loop-done-init g c = print_begun c.args.walk.now c.in_ok-walking.walking.world c.in_ok-walking.walking.draw (g.W.Write.contents c.args.writer.now) c.print_header.new.out.items c.in_ok-walking.ensures.ok c.in_ok-walking.ensures.draw (rw c.new-out.ensures.items at c.in_ok-print_header.ensures.ok)

pub step-requires-clause-given : goal.step-requires-clause-given
step-requires-clause-given g c = room c.args.walk.now c.loop-done.walking.world c.loop-done.walking.draw c.loop-done.done c.loop-done.invariant.lines c.requires c.loop-done-test.true c.loop-done.invariant.under_way

pub returns-in_err-line : goal.returns-in_err-line
returns-in_err-line g c =
    let p = err_from_is_err_and c.from_residual-in_err-line.result c.from_residual-in_err-line.ensures.1 in
    rw (p.1, p.2, c.in_err-line.ensures.memory) (print_full c.args.walk.now c.loop-done.walking.world c.loop-done.walking.draw c.loop-done.done (g.W.Write.contents c.args.writer.now) (g.W.Write.contents c.loop-done.writer) c.loop-done.out.items c.loop-done.invariant (omega (arith, c.loop-done-test.true)))

pub returns-in_err-print_line : goal.returns-in_err-print_line
returns-in_err-print_line g c =
    let p = err_from_is_err_and c.from_residual-in_err-print_line.result c.from_residual-in_err-print_line.ensures.1 in
    rw (p.1, p.2) (print_full c.args.walk.now c.loop-done.walking.world c.loop-done.walking.draw c.loop-done.done (g.W.Write.contents c.args.writer.now) (g.W.Write.contents c.loop-done.writer) c.loop-done.out.items c.loop-done.invariant (omega (arith, c.loop-done-test.true)))

pub returns-in_err-flush_full : goal.returns-in_err-flush_full
returns-in_err-flush_full g c =
    let p = err_from_is_err_and c.from_residual-in_err-flush_full.result c.from_residual-in_err-flush_full.ensures.1 in
    rw (p.1, p.2) (print_cut c.args.walk.now c.step.new.self.world c.step.new.self.draw (c.loop-done.done + 1) (g.W.Write.contents c.args.writer.now) (g.W.Write.contents c.loop-done.writer) (g.W.Write.contents c.flush_full.new.writer) c.print_line.new.out.items c.in_err-flush_full.field-0.0
    (print_more c.args.walk.now c.loop-done.walking.world c.step.new.self.world c.loop-done.walking.draw c.step.new.self.draw c.loop-done.done (g.W.Write.contents c.args.writer.now) (g.W.Write.contents c.loop-done.writer) c.loop-done.out.items c.print_line.new.out.items c.in_ok-line.line c.loop-done.invariant c.in_ok-line.ensures.line c.in_ok-line.ensures.world c.in_ok-line.ensures.drawn c.in_ok-print_line.ensures.ok)
    (omega (arith, c.loop-done-test.true)) c.in_err-flush_full.ensures.flushed)

pub loop-done-preserved : goal.loop-done-preserved
loop-done-preserved g c =
    flushed c.args.walk.now c.step.new.self.world c.step.new.self.draw (c.loop-done.done + 1) (g.W.Write.contents c.args.writer.now) (g.W.Write.contents c.loop-done.writer) (g.W.Write.contents c.flush_full.new.writer) c.print_line.new.out.items c.flush_full.new.out.items
    (print_more c.args.walk.now c.loop-done.walking.world c.step.new.self.world c.loop-done.walking.draw c.step.new.self.draw c.loop-done.done (g.W.Write.contents c.args.writer.now) (g.W.Write.contents c.loop-done.writer) c.loop-done.out.items c.print_line.new.out.items c.in_ok-line.line c.loop-done.invariant c.in_ok-line.ensures.line c.in_ok-line.ensures.world c.in_ok-line.ensures.drawn c.in_ok-print_line.ensures.ok)
    c.in_ok-flush_full.ensures.flushed

pub returns : goal.returns
returns g c = print_end c.args.walk.now c.loop-done.walking.world c.loop-done.walking.draw c.loop-done.done (g.W.Write.contents c.args.writer.now) (g.W.Write.contents c.loop-done.writer) (g.W.Write.contents c.write_whole.new.writer) c.loop-done.out.items c.deref.result.now c.write_whole.result c.loop-done.invariant (omega (arith, c.loop-done-test.false, c.loop-done.auto.done-end)) c.deref.ensures.value c.write_whole.ensures.written

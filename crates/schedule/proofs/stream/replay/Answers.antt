use Rattle.schedule.proofs.Cited.{rules, ◌<◌, ℕ, length, take, subst, arith, Consumes, Keeps, err_from_is_err_and}
use Rattle.schedule.proofs.Passing.{replays_end, replays_fault, replays_read, replaying_more}
use Rattle.schedule.proofs.SafelyFed.{replayed_safe}
use Rattle.schedule.proofs.stream.replay.Goals as goal

pub returns-in-Ok-eq0 : goal.returns-in-Ok-eq0
returns-in-Ok-eq0 g c =
    let left = g.R.Read.remaining c.loop.reader in
    let end = g.R.Read.remaining c.read.new.self in
    let none = c.in-Ok-eq0.field-0-test in
    let bytes = c.in-Ok-eq0.ensures.bytes in
    let room : 0 < length c.read.new.buf = omega arith in
    replays_end (replayed_safe c.each_text_reclaims_safely.ensures.whole c.each_text_reclaims_safely.ensures.begun c.each_text_reclaims_safely.ensures.so_far) (g.R.Read.remaining c.args.reader.now) left end (g.W.Write.contents c.args.writer.now) (g.W.Write.contents c.loop.writer) (g.W.Write.contents c.close.new.writer) c.loop.replay c.close.result c.loop.invariant
    (subst (λ (n : ℕ). Consumes left end (take n c.read.new.buf)) none bytes.0) (bytes.1 none room) c.close.ensures

pub returns-in_err-pass-in-Ok : goal.returns-in_err-pass-in-Ok
returns-in_err-pass-in-Ok g c =
    let p = err_from_is_err_and c.from_residual.result c.from_residual.ensures.1 in
    rw (p.1, p.2) (replays_fault (replayed_safe c.each_text_reclaims_safely.ensures.whole c.each_text_reclaims_safely.ensures.begun c.each_text_reclaims_safely.ensures.so_far) (g.R.Read.remaining c.args.reader.now) (g.R.Read.remaining c.loop.reader) (g.R.Read.remaining c.read.new.self) (g.W.Write.contents c.args.writer.now) (g.W.Write.contents c.loop.writer) (g.W.Write.contents c.pass.new.writer) c.loop.replay c.pass.new.replay _ c.in_err-pass-in-Ok.field-0.0 c.loop.invariant c.in-Ok.ensures.bytes.0 c.in_err-pass-in-Ok.ensures)

pub loop-preserved : goal.loop-preserved
loop-preserved g c =
    replaying_more (g.R.Read.remaining c.args.reader.now) (g.R.Read.remaining c.loop.reader) (g.R.Read.remaining c.read.new.self) (g.W.Write.contents c.args.writer.now) (g.W.Write.contents c.loop.writer) (g.W.Write.contents c.pass.new.writer) c.loop.replay c.pass.new.replay _ c.pass.result tt c.in_ok-pass-in-Ok.was c.loop.invariant c.in-Ok.ensures.bytes.0 c.in_ok-pass-in-Ok.ensures

pub returns-in-Err : goal.returns-in-Err
returns-in-Err g c = replays_read (replayed_safe c.each_text_reclaims_safely.ensures.whole c.each_text_reclaims_safely.ensures.begun c.each_text_reclaims_safely.ensures.so_far) (g.R.Read.remaining c.args.reader.now) (g.R.Read.remaining c.loop.reader) (g.R.Read.remaining c.read.new.self) (g.W.Write.contents c.args.writer.now) (g.W.Write.contents c.loop.writer) c.loop.replay c.loop.invariant c.in-Err.ensures.bytes

pub returns : goal.returns
returns g c =
    let left = g.R.Read.remaining c.loop.reader in
    let kept : Keeps left left = search rules in
    replays_read (replayed_safe c.each_text_reclaims_safely.ensures.whole c.each_text_reclaims_safely.ensures.begun c.each_text_reclaims_safely.ensures.so_far) (g.R.Read.remaining c.args.reader.now) left left (g.W.Write.contents c.args.writer.now) (g.W.Write.contents c.loop.writer) c.loop.replay c.loop.invariant kept

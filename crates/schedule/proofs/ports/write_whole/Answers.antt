use Rattle.std.proofs.lemmas.List.{take_rest}
use Rattle.schedule.proofs.KnownBytes.{wrote_more}
use Rattle.schedule.proofs.ports.write_whole.Goals as goal

pub loop-rest-preserved : goal.loop-rest-preserved
loop-rest-preserved g c =
    rw (take_rest c.loop-rest.rest.now c.in-Ok.taken) (wrote_more (g.W.Write.contents c.args.writer.now) (g.W.Write.contents c.loop-rest.writer) (g.W.Write.contents c.write.new.self) c.args.bytes.now c.loop-rest.rest.now c.in-Ok.taken c.loop-rest.invariant c.in-Ok.ensures.bytes)

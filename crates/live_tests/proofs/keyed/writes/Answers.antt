use Rattle.std.proofs.Common.{[], refl}
use Rattle.live_write.proofs.Lemmas.{keyed_cut}
use Rattle.live_tests.proofs.keyed.writes.Goals as goal

pub cut-requires : goal.cut-requires
cut-requires g c = record {
  rule = λ o at.
      let chain = c.replace_alike-replaced.new.chain in let caller = c.replace_alike-replaced.new.record.seat.me.0 in
      keyed_cut g.P.GracePlan.QSBR chain.seat.me.0 caller.seen caller.heard [] chain.owns.0 chain.owns.1 (c.if-not-replaced.ensures.run refl) o;
}

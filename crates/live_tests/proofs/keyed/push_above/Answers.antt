use Rattle.std.proofs.Common.{◌≢◌, ◌<◌, ℕ, List, refl, sym, subst}
use Rattle.live_log.specs.Keys.{key_of, rank_of}
use Rattle.live_log.specs.Log.{record_of}
use Rattle.live_write.proofs.Lemmas.{keyed_push}
use Rattle.live_tests.proofs.keyed.push_above.Goals as goal

pub push-requires : goal.push-requires
push-requires g c = record {
  rule =
      let v = c.may_stand_first.new.chain in let caller = c.args.record.now.seat.me.0 in let u = c.args.owned.seat.me.0 in let above = c.if-not-may_stand_first.ensures in
      keyed_push g.P.GracePlan.QSBR v.seat.me.0 caller.seen caller.heard u.seen v.owns.0 v.owns.1 above.run u
      (λ o has. subst (λ (words : List ℕ). (key_of (record_of v.seat.me.0.seen o) ≢ key_of (0, words)) × (rank_of (record_of v.seat.me.0.seen o) < rank_of (0, words))) (sym c.requires.words) (above.above refl o has));
}

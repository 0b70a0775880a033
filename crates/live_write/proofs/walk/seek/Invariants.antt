use Rattle.live_write.proofs.Cited.{◌≡◌, ◌≢◌, ℕ, ◌<◌, Option, Some, slice_get, ObjectId, own_in, Keeps}
use Rattle.live_write.specs.Chains.{first_word}
use Rattle.live_write.proofs.Walking.{Stands}
use Rattle.live_write.proofs.walk.seek.Given as goal

abbrev pub invariant-loop-passed : goal.invariant-loop-passed
invariant-loop-passed g l = record {
  keeps : Keeps l.fn.seat l.seat;
  before : Option ℕ;
  stands : Stands g.P.GracePlan.QSBR g.K.ChainRule.allows l.fn.seat.me l.seat.me l.passed before l.link;
  others : (k : ℕ) (o : ObjectId) → k < l.passed → slice_get (own_in l.fn.seat.me.0.chains).objects k ≡ Some o → first_word l.seat.me.0.seen o ≢ l.word;
}

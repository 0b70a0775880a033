use Rattle.live_rule.proofs.Cited.{◌≡◌, ℕ, [], refl, arith, Me, IsLiveRun, CallbackId}
use Rattle.live_rule.specs.declared.view.View.{View}
use Rattle.live_rule.specs.Views.{bare}
use Rattle.live_rule.proofs.Seats.{enters}
use Rattle.live_rule.proofs.table.LiveTable.new_seat.Goals as goal

pub load_new_seat-requires : goal.load_new_seat-requires
load_new_seat-requires g c = let laid = c.args.self.now.laid in let key = c.args.self.now.words.shared.key in
    let told : ℕ → View → Type 0 = λ n w. (◌≡◌ {A = Me CallbackId View} (w, []) (bare key w.seen [], [])) × IsLiveRun g.P.GracePlan.QSBR g.K.ChainRule.allows w.seen in
    (omega arith, enters g.P.GracePlan.QSBR g.K.ChainRule.allows key _ _ told (λ n log run. (refl, run)))

use Rattle.std.proofs.Common.{◌≡◌, ℕ, List, [], ◌∷◌, Some, zero, suc, inl, inr, sym, ap, ◌∙◌, slice_get, slice_index_or}
use Rattle.rcu_model.specs.declared.event.ObjectId.{ObjectId}
use Rattle.rcu_model.specs.Sets.{In}
use Rattle.rcu_model.proofs.Lemmas.{some_is}
use Rattle.live_log.specs.Keys.{key_of, rank_of}
use Rattle.live_log.specs.Log.{record_of}
use Rattle.live_write.specs.Chains.{list_in}
use Rattle.live_write.proofs.Lemmas.{keyed_replace}
use Rattle.live_tests.proofs.keyed.replace_alike.Goals as goal

stands_in : (xs : List ObjectId) (i : ℕ) (o : ObjectId) → slice_get xs i ≡ Some o → In xs o
stands_in [] i o at = cc
stands_in (x ∷ xs) zero o at = inl (some_is x o at)
stands_in (x ∷ xs) (suc i) o at = inr (stands_in xs i o at)

pub replace-requires : goal.replace-requires
replace-requires g c = record {
  rule = λ o at.
      let v = c.get.new.self.seat.me.0 in let owns = c.get.new.self.owns in let caller = c.args.record.now.seat.me.0 in let u = c.args.owned.seat.me.0 in
      let found = c.in-Some.ensures.some in let walked = c.in-Some.ensures.walked.1 in
      let list = ap list_in walked.1 in
      let same = some_is found.0 o (sym found.1 ∙ (ap (λ (l : List ObjectId). slice_get l c.args.index) (sym list) ∙ at)) in
      let key = ap (λ (w : List ℕ). slice_index_or w 0 0) c.requires.words ∙ (sym c.if-old-words.false ∙ (ap (λ (w : List ℕ). slice_index_or w 0 0) found.2 ∙ ap (λ (q : ObjectId). key_of (record_of v.seen q)) same)) in
      let rank = ap (λ (w : List ℕ). slice_index_or w 2 0) c.requires.words ∙ (sym c.if-old-words-2.false ∙ (ap (λ (w : List ℕ). slice_index_or w 2 0) found.2 ∙ ap (λ (q : ObjectId). rank_of (record_of v.seen q)) same)) in
      keyed_replace g.P.GracePlan.QSBR v caller.seen caller.heard u.seen owns.0 owns.1 walked.2.2 u o (stands_in (list_in v) c.args.index o at) (key, rank);
}

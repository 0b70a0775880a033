use Rattle.rcu_list.proofs.Cited.{◌≡◌, ◌≤◌, ℕ, List, ◌∷◌, length, slice_get, slice_index_or, inl, inr, refl, ap, sym, ◌∙◌, subst, arith, slice_get_within, ObjectId, some_is, rank_of, Log, record_of, ChainRight, list_in, index_has, went_both}
use Rattle.rcu_list.proofs.Writing.{found_there, note_walked, same_own, walked_missing}
use Rattle.rcu_list.proofs.preparing.prepare_replacement.Goals as goal

pub returns-in_default-clause-refused : goal.returns-in_default-clause-refused
returns-in_default-clause-refused g c =
    let e = c.in_default.ensures in let old = c.args.chain.now in
    inl (refl, walked_missing g.P.GracePlan.QSBR g.K.ChainRule.allows (g.met.K.MapRule.maps g.P.GracePlan.QSBR) old.number old.seat.me c.index_of.new.self.seat.me e.walked.1 old.owns.1 old.owns.2 c.args.key e.none, refl)

pub unreachable-requires : goal.unreachable-requires
unreachable-requires g c =
    let e = c.in-Some.ensures in let old = c.args.chain.now in let mid = c.index_of.new.self in let f = e.found in
    let within = slice_get_within (list_in old.seat.me.0) c.in-Some.index f.object f.at in
    let same : length (list_in mid.seat.me.0) ≡ length (list_in old.seat.me.0) = ap (λ (x : ChainRight). length x.objects) (same_own g.P.GracePlan.QSBR g.K.ChainRule.allows (g.met.K.MapRule.maps g.P.GracePlan.QSBR) old.number old.seat.me mid.seat.me e.walked.1 old.owns.1 old.owns.2) in
    let few = c.in_default-get.ensures.none.0 in omega arith

pub returns-in-Err-clause-refused : goal.returns-in-Err-clause-refused
returns-in-Err-clause-refused g c =
    let e = c.in-Some.ensures in let old = c.args.chain.now in let a = c.in-Err.ensures in let l = a.looks in
    inr (
      found_there g.P.GracePlan.QSBR g.K.ChainRule.allows (g.met.K.MapRule.maps g.P.GracePlan.QSBR) old.number old.seat.me c.index_of.new.self.seat.me e.walked.1 old.owns.1 old.owns.2 c.args.key c.in-Some.index e.found,
      record { is = l.2.0; found = l.0; looks = l.1; why = l.2.1; after = a.heard; same = a.same },
    )

pub returns-in-Err-clause-looked : goal.returns-in-Err-clause-looked
returns-in-Err-clause-looked g c =
    let e = c.in-Some.ensures.walked in let f = c.in-Some-get.ensures.walked in
    ((f.0.0 ∙ e.0.0, f.0.1 ∙ e.0.1), went_both g.P.GracePlan.QSBR g.K.ChainRule.allows c.args.chain.now.seat.me c.index_of.new.self.seat.me c.get.new.self.seat.me e.1 f.1, f.2 ∙ e.2, f.3 ∙ e.3)

pub returns-in-Ok-clause-looked : goal.returns-in-Ok-clause-looked
returns-in-Ok-clause-looked g c =
    let e = c.in-Some.ensures.walked in let f = c.in-Some-get.ensures.walked in
    ((f.0.0 ∙ e.0.0, f.0.1 ∙ e.0.1), went_both g.P.GracePlan.QSBR g.K.ChainRule.allows c.args.chain.now.seat.me c.index_of.new.self.seat.me c.get.new.self.seat.me e.1 f.1, f.2 ∙ e.2, f.3 ∙ e.3)

pub returns-in-Ok-clause-ready : goal.returns-in-Ok-clause-ready
returns-in-Ok-clause-ready g c =
    let e = c.in-Some.ensures in let s = c.in-Some-get.ensures.some in let f = c.in-Some-get.ensures.walked in let old = c.args.chain.now in let mid = c.index_of.new.self in let new = c.get.new.self in
    let qsbr = g.P.GracePlan.QSBR in let allows = g.K.ChainRule.allows in let maps = g.met.K.MapRule.maps qsbr in let index = c.in-Some.index in
    let first = same_own qsbr allows maps old.number old.seat.me mid.seat.me e.walked.1 old.owns.1 old.owns.2 in
    let then = same_own qsbr allows maps mid.number mid.seat.me new.seat.me f.1 mid.owns.1 mid.owns.2 in
    let seen : Log = new.seat.me.0.seen in let o : ObjectId = e.found.object in
    let went = went_both qsbr allows old.seat.me mid.seat.me new.seat.me e.walked.1 f.1 in
    let list : list_in old.seat.me.0 ≡ list_in new.seat.me.0 = ap (λ (x : ChainRight). x.objects) (sym (then ∙ first)) in
    let in_mid : (p : ObjectId) (k : ℕ) → slice_get (list_in old.seat.me.0) k ≡ Rattle.std.proofs.Common.Some p → record_of seen p ≡ record_of mid.seat.me.0.seen p =
    λ p k at. note_walked qsbr allows maps mid.number mid.seat.me new.seat.me f.1 mid.owns.1 mid.owns.2 p (index_has (list_in mid.seat.me.0) k p (ap (λ (x : ChainRight). slice_get x.objects k) first ∙ at)) in
    let here : s.0 ≡ o = some_is s.0 o (sym s.1 ∙ (ap (λ (x : ChainRight). slice_get x.objects index) first ∙ e.found.at)) in (
      record {
        rank = slice_index_or c.in-Some-get.words 2 0;
        words = c.in-Ok.ensures.owned.0;
        found = record {
          object = o;
          at = ap (λ (l : List ObjectId). slice_get l index) (sym list) ∙ e.found.at;
          begins = ap (λ (x : ℕ × List ℕ). slice_index_or x.1 0 0) (in_mid o index e.found.at) ∙ e.found.begins;
          others = λ k p low at is. e.found.others k p low (ap (λ (l : List ObjectId). slice_get l k) list ∙ at) (ap (λ (x : ℕ × List ℕ). slice_index_or x.1 0 0) (sym (in_mid p k (ap (λ (l : List ObjectId). slice_get l k) list ∙ at))) ∙ is);
        };
        same = ap (λ (l : List ℕ). slice_index_or l 2 0) s.2 ∙ ap (λ (p : ObjectId). rank_of (record_of seen p)) here;
      },
      found_there qsbr allows maps old.number old.seat.me mid.seat.me e.walked.1 old.owns.1 old.owns.2 c.args.key index e.found,
    )

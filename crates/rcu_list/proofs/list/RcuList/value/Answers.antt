use Rattle.rcu_list.proofs.Cited.{◌≡◌, ℕ, List, Some, length, slice_get, slice_index_or, ap, sym, ◌∙◌, arith, subst, slice_get_within, ObjectId, some_is, record_of, ChainRight, list_in, index_has, went_both, own_in}
use Rattle.rcu_list.specs.Maps.{value_of}
use Rattle.rcu_list.proofs.Writing.{note_walked, same_own, walked_missing, walked_value, KnowsKeys, by_option, keys_walked, note_still}
use Rattle.rcu_list.proofs.list.RcuList.value.Goals as goal

pub returns-in_default-clause-map : goal.returns-in_default-clause-map
returns-in_default-clause-map g c =
    let e = c.in_default.ensures in let old = c.args.self.now.chain in
    sym (walked_missing g.P.GracePlan.QSBR g.K.ChainRule.allows (g.met.K.MapRule.maps g.P.GracePlan.QSBR) old.number old.seat.me c.index_of.new.self.seat.me e.walked.1 old.owns.1 old.owns.2 c.args.key e.none)

pub unreachable-requires : goal.unreachable-requires
unreachable-requires g c =
    let e = c.in-Some.ensures in let old = c.args.self.now.chain in let mid = c.index_of.new.self in let f = e.found in
    let within = slice_get_within (list_in old.seat.me.0) c.in-Some.index f.object f.at in
    let same : length (list_in mid.seat.me.0) ≡ length (list_in old.seat.me.0) = ap (λ (x : ChainRight). length x.objects) (same_own g.P.GracePlan.QSBR g.K.ChainRule.allows (g.met.K.MapRule.maps g.P.GracePlan.QSBR) old.number old.seat.me mid.seat.me e.walked.1 old.owns.1 old.owns.2) in
    let few = c.in_default-get.ensures.none.0 in omega arith

pub returns-clause-map : goal.returns-clause-map
returns-clause-map g c =
    let e = c.in-Some.ensures in let s = c.in-Some-get.ensures.some in let f = c.in-Some-get.ensures.walked in let old = c.args.self.now.chain in let mid = c.index_of.new.self in let new = c.get.new.self in
    let qsbr = g.P.GracePlan.QSBR in let allows = g.K.ChainRule.allows in let maps = g.met.K.MapRule.maps qsbr in let o : ObjectId = e.found.object in
    let first = same_own qsbr allows maps old.number old.seat.me mid.seat.me e.walked.1 old.owns.1 old.owns.2 in
    let went = went_both qsbr allows old.seat.me mid.seat.me new.seat.me e.walked.1 f.1 in
    let at = index_has (list_in old.seat.me.0) c.in-Some.index o e.found.at in
    let here : s.0 ≡ o = some_is s.0 o (sym s.1 ∙ (ap (λ (x : ChainRight). slice_get x.objects c.in-Some.index) first ∙ e.found.at)) in
    let word : slice_index_or c.in-Some-get.words 1 0 ≡ value_of (record_of new.seat.me.0.seen o) = ap (λ (l : List ℕ). slice_index_or l 1 0) s.2 ∙ ap (λ (p : ObjectId). value_of (record_of new.seat.me.0.seen p)) here in
    ap (λ (n : ℕ). Some n) (word ∙ ap value_of (note_walked qsbr allows maps old.number old.seat.me new.seat.me went old.owns.1 old.owns.2 o at))
    ∙ sym (walked_value qsbr allows maps old.number old.seat.me mid.seat.me e.walked.1 old.owns.1 old.owns.2 o c.args.key at e.found.begins)

pub returns-clause-looked : goal.returns-clause-looked
returns-clause-looked g c =
    let e = c.in-Some.ensures.walked in let f = c.in-Some-get.ensures.walked in
    ((f.0.0 ∙ e.0.0, f.0.1 ∙ e.0.1), went_both g.P.GracePlan.QSBR g.K.ChainRule.allows c.args.self.now.chain.seat.me c.index_of.new.self.seat.me c.get.new.self.seat.me e.1 f.1, f.2 ∙ e.2)

pub invariant_of-self : goal.invariant_of-self
invariant_of-self g c =
    let qsbr = g.P.GracePlan.QSBR in let allows = g.K.ChainRule.allows in let maps = g.met.K.MapRule.maps qsbr in let old = c.args.self.now.chain in let mid = c.index_of.new.self in let went = c.index_of.ensures.walked.1 in
    let note = note_still qsbr allows maps old.number old.seat.me mid.seat.me went old.owns.1 old.owns.2 c.args.self.now.unnoted in
    let keys = keys_walked qsbr allows maps old.number old.seat.me mid.seat.me went old.owns.1 old.owns.2 c.args.self.now.keys in record { unnoted = note; keys = keys }

pub invariant_of-self-2 : goal.invariant_of-self-2
invariant_of-self-2 g c =
    let qsbr = g.P.GracePlan.QSBR in let allows = g.K.ChainRule.allows in let maps = g.met.K.MapRule.maps qsbr in let old = c.args.self.now.chain in let mid = c.index_of.new.self in let went = c.index_of.ensures.walked.1 in
    let note = note_still qsbr allows maps old.number old.seat.me mid.seat.me went old.owns.1 old.owns.2 c.args.self.now.unnoted in
    let keys = keys_walked qsbr allows maps old.number old.seat.me mid.seat.me went old.owns.1 old.owns.2 c.args.self.now.keys in let new = c.get.new.self in record {
      unnoted = by_option c.get.result _ _ c.get.ensures.walked c.get.ensures.none
          (λ w f. note_still qsbr allows maps mid.number mid.seat.me new.seat.me f.1 mid.owns.1 mid.owns.2 note)
          (λ n. ap (λ z. (own_in z.seat.me.0.chains).note) n.1 ∙ note);
      keys = by_option c.get.result _ _ c.get.ensures.walked c.get.ensures.none
          (λ w f. keys_walked qsbr allows maps mid.number mid.seat.me new.seat.me f.1 mid.owns.1 mid.owns.2 keys)
          (λ n. subst (λ z. KnowsKeys z.seat.me.0) (sym n.1) keys);
    }

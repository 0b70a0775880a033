use Rattle.rcu_list.proofs.Cited.{◌≡◌, ◌≤◌, ◌%◌, ℕ, List, [], Option, IsSome, length, slice_get, inl, inr, refl, ap, sym, ◌∙◌, subst, arith, slice_get_within, ObjectId, some_is, key_of, Log, Begins, record_of, IsUnnoted, begins_trans, ChainRight, Queues, RefusesRetirement, IsAfter, list_in, index_has, own_in, IsLater, HasLearned}
use Rattle.rcu_list.proofs.Writing.{by_no_note, by_second, chain_known, cut_map, found_there, keys_walked, may_remove, note_still, note_walked, same_own, walked_missing, KnowsKeys, by_result, keys_cut}
use Rattle.rcu_list.specs.Maps.{map_of}
use Rattle.rcu_list.proofs.Refused.{looked_then_learned, map_learned, refused_then}
use Rattle.rcu_list.proofs.list.RcuList.remove.Goals as goal

-- a refusal, once the caller has heard of the log of the moment
pub returns-in_default-clause-kept : goal.returns-in_default-clause-kept
returns-in_default-clause-kept g c =
    let l = c.in_default.ensures.walked in let h = c.hear.ensures.learned in
    let learned = looked_then_learned g.P.GracePlan.QSBR g.K.ChainRule.allows c.args.self.now.chain.seat.me c.index_of.new.self.seat.me c.hear.new.self.chain.seat.me l.1 h.2 h.3 in
    ((h.0.0 ∙ l.0.0, h.0.1 ∙ l.0.1), h.1 ∙ l.1.0, learned.0, learned.1, h.4 ∙ l.2)

pub returns-in_default-clause-map : goal.returns-in_default-clause-map
returns-in_default-clause-map g c =
    let kept = returns-in_default-clause-kept g c in let old = c.args.self.now.chain in let done = c.hear.new.self.chain in
    map_learned g.P.GracePlan.QSBR g.K.ChainRule.allows (g.met.K.MapRule.maps g.P.GracePlan.QSBR) old.number old.seat.me.0 done.seat.me.0 kept.2 kept.3 old.owns.2 old.owns.1 done.owns.1

pub returns-in_default-clause-refused : goal.returns-in_default-clause-refused
returns-in_default-clause-refused g c =
    let e = c.in_default.ensures in let h = c.hear.ensures in let old = c.args.self.now.chain in
    let missing = walked_missing g.P.GracePlan.QSBR g.K.ChainRule.allows (g.met.K.MapRule.maps g.P.GracePlan.QSBR) old.number old.seat.me c.index_of.new.self.seat.me e.walked.1 old.owns.1 old.owns.2 c.args.key e.none in
    let map = subst (λ (l : Log). map_of l old.number c.args.key ≡ map_of old.seat.me.0.seen old.number c.args.key) (sym h.heard) (returns-in_default-clause-map g c c.args.key) in
    (refl, inl (refl, map ∙ missing, (subst (IsAfter g.P.GracePlan.QSBR g.K.ChainRule.allows (g.W.Caller.seen c.args.caller.now) (g.W.Caller.heard c.args.caller.now)) (sym h.heard) h.told.0, h.same)))

pub cut_retire-requires : goal.cut_retire-requires
cut_retire-requires g c = record {
  rule = λ o at.
      let e = c.in-Some.ensures in let old = c.args.self.now.chain in let mid = c.index_of.new.self in let qsbr = g.P.GracePlan.QSBR in let maps = g.met.K.MapRule.maps qsbr in
      may_remove qsbr g.K.ChainRule.allows maps IsUnnoted maps.takes mid.seat.me.0 (g.W.Caller.seen c.args.caller.now) (g.W.Caller.heard c.args.caller.now) [] mid.owns.0 mid.owns.1
      (by_no_note qsbr g.K.ChainRule.allows mid.seat.me.0 (note_still qsbr g.K.ChainRule.allows maps old.number old.seat.me mid.seat.me e.walked.1 old.owns.1 old.owns.2 c.args.self.now.unnoted))
      (keys_walked qsbr g.K.ChainRule.allows maps old.number old.seat.me mid.seat.me e.walked.1 old.owns.1 old.owns.2 c.args.self.now.keys) o
      (index_has (list_in mid.seat.me.0) c.in-Some.index o at);
}

pub returns-in-Ok-clause-removed : goal.returns-in-Ok-clause-removed
returns-in-Ok-clause-removed g c =
    let e = c.in-Some.ensures in let old = c.args.self.now.chain in let mid = c.index_of.new.self in let done = c.cut_retire.new.chain in
    let qsbr = g.P.GracePlan.QSBR in let known : Log = old.seat.me.0.seen in let f = e.found in
    let one = same_own qsbr g.K.ChainRule.allows (g.met.K.MapRule.maps g.P.GracePlan.QSBR) old.number old.seat.me mid.seat.me e.walked.1 old.owns.1 old.owns.2 in
    let list : list_in mid.seat.me.0 ≡ list_in old.seat.me.0 = ap (λ (x : ChainRight). x.objects) one in
    let r = c.in-Ok.ensures.retired in
    let here : f.object ≡ r.object = some_is f.object r.object (sym f.at ∙ (ap (λ (l : List ObjectId). slice_get l c.in-Some.index) (sym list) ∙ r.was)) in
    let key_is : key_of (record_of known r.object) ≡ c.args.key = ap (λ (o : ObjectId). key_of (record_of known o)) (sym here) ∙ (ap key_of (sym (note_walked qsbr g.K.ChainRule.allows (g.met.K.MapRule.maps g.P.GracePlan.QSBR) old.number old.seat.me mid.seat.me e.walked.1 old.owns.1 old.owns.2 f.object (index_has (list_in old.seat.me.0) c.in-Some.index f.object f.at))) ∙ f.begins) in (
      r.object,
      cut_map qsbr g.K.ChainRule.allows (g.met.K.MapRule.maps g.P.GracePlan.QSBR) old.number known (g.W.Caller.seen c.args.caller.now) (g.W.Caller.heard c.args.caller.now) mid.seat.me.0 done.seat.me.0 (mid.owns.2 ∙ e.walked.2) mid.owns.0
          (chain_known old.seat.me.0 old.number old.owns.1 old.owns.2 ∙ sym list)
          (g.W.Caller.seen c.args.caller.now) (g.W.Caller.heard c.args.caller.now) [] c.args.key r.object (index_has (list_in mid.seat.me.0) c.in-Some.index r.object r.was) key_is r.published
          (begins_trans known mid.seat.me.0.seen r.published.before e.walked.1.2.0 r.published.after.after_writer.0, r.published.after.after_caller.0, r.published.after.after_caller.1),
      record { given = r.given; turn = r.turn; queued = subst (λ (n : ℕ). Queues qsbr g.K.ChainRule.allows (Begins done.seat.me.0.seen) r.object (n % g.B.Site.sizes.queues) r.given (g.row.D.coded.code c.args.callback) (g.W.Caller.heard c.cut_retire.new.caller)) e.walked.2 r.queued },
    )

pub returns-in-Err-clause-kept : goal.returns-in-Err-clause-kept
returns-in-Err-clause-kept g c =
    let l = c.in-Some.ensures.walked in let h = c.hear-in-Err.ensures.learned in let b = c.in-Err.ensures.back.1 in let mid = c.index_of.new.self in let done = c.hear-in-Err.new.self.chain in
    let on = subst (λ z. (done.seat.me.1 ≡ z.seat.me.1) × HasLearned z.seat.me.0 done.seat.me.0 × IsLater g.P.GracePlan.QSBR g.K.ChainRule.allows z.seat.me.0 done.seat.me.0) b (h.1, h.2, h.3) in
    let learned = looked_then_learned g.P.GracePlan.QSBR g.K.ChainRule.allows c.args.self.now.chain.seat.me mid.seat.me done.seat.me l.1 on.1 on.2 in
    ((h.0.0 ∙ (ap (λ z. z.seat.table_id) b ∙ l.0.0), h.0.1 ∙ (ap (λ z. z.seat.id) b ∙ l.0.1)), on.0 ∙ l.1.0, learned.0, learned.1, h.4 ∙ (ap (λ z. z.number) b ∙ l.2))

pub returns-in-Err-clause-map : goal.returns-in-Err-clause-map
returns-in-Err-clause-map g c =
    let kept = returns-in-Err-clause-kept g c in let old = c.args.self.now.chain in let done = c.hear-in-Err.new.self.chain in
    map_learned g.P.GracePlan.QSBR g.K.ChainRule.allows (g.met.K.MapRule.maps g.P.GracePlan.QSBR) old.number old.seat.me.0 done.seat.me.0 kept.2 kept.3 old.owns.2 old.owns.1 done.owns.1

pub returns-in-Err-clause-refused : goal.returns-in-Err-clause-refused
returns-in-Err-clause-refused g c =
    let e = c.in-Some.ensures in let h = c.hear-in-Err.ensures in let old = c.args.self.now.chain in let mid = c.index_of.new.self in let f = e.found in
    let one = same_own g.P.GracePlan.QSBR g.K.ChainRule.allows (g.met.K.MapRule.maps g.P.GracePlan.QSBR) old.number old.seat.me mid.seat.me e.walked.1 old.owns.1 old.owns.2 in
    let within = slice_get_within (list_in old.seat.me.0) c.in-Some.index f.object f.at in
    let there = found_there g.P.GracePlan.QSBR g.K.ChainRule.allows (g.met.K.MapRule.maps g.P.GracePlan.QSBR) old.number old.seat.me mid.seat.me e.walked.1 old.owns.1 old.owns.2 c.args.key c.in-Some.index f in
    let map = subst (λ (l : Log). map_of l old.number c.args.key ≡ map_of old.seat.me.0.seen old.number c.args.key) (sym h.heard) (returns-in-Err-clause-map g c c.args.key) in (
      c.in-Err.ensures.back.0,
      inr (
        subst (λ (x : Option ℕ). IsSome x) (sym map) there,
        by_second c.in-Err.ensures.refused
            (λ n. let few : length (list_in mid.seat.me.0) ≤ c.in-Some.index = n.1 in let same : length (list_in mid.seat.me.0) ≡ length (list_in old.seat.me.0) = ap (λ (y : ChainRight). length y.objects) one in omega arith)
            (λ k. refused_then g.W.Caller g.P.GracePlan.QSBR g.K.ChainRule.allows g.B.Site.sizes c.args.caller.now c.cut_retire.new.caller c.hear-in-Err.new.caller c.in-Err.refused.0 h.same (subst (IsAfter g.P.GracePlan.QSBR g.K.ChainRule.allows (g.W.Caller.seen c.cut_retire.new.caller) (g.W.Caller.heard c.cut_retire.new.caller)) (sym h.heard) h.told.0) (old.number % g.B.Site.sizes.queues)
            (subst (λ (n : ℕ). RefusesRetirement g.W.Caller g.P.GracePlan.QSBR g.K.ChainRule.allows g.B.Site.sizes (n % g.B.Site.sizes.queues) c.args.caller.now c.cut_retire.new.caller c.in-Err.refused.0) e.walked.2 k.1)),
      ),
    )

pub invariant_of-self : goal.invariant_of-self
invariant_of-self g c =
    let qsbr = g.P.GracePlan.QSBR in let allows = g.K.ChainRule.allows in let maps = g.met.K.MapRule.maps qsbr in let old = c.args.self.now.chain in let mid = c.index_of.new.self in let went = c.index_of.ensures.walked.1 in
    let note = note_still qsbr allows maps old.number old.seat.me mid.seat.me went old.owns.1 old.owns.2 c.args.self.now.unnoted in
    let keys = keys_walked qsbr allows maps old.number old.seat.me mid.seat.me went old.owns.1 old.owns.2 c.args.self.now.keys in record { unnoted = note; keys = keys }

pub invariant_of-self-2 : goal.invariant_of-self-2
invariant_of-self-2 g c =
    let qsbr = g.P.GracePlan.QSBR in let allows = g.K.ChainRule.allows in let maps = g.met.K.MapRule.maps qsbr in let old = c.args.self.now.chain in let mid = c.index_of.new.self in let went = c.index_of.ensures.walked.1 in
    let note = note_still qsbr allows maps old.number old.seat.me mid.seat.me went old.owns.1 old.owns.2 c.args.self.now.unnoted in
    let keys = keys_walked qsbr allows maps old.number old.seat.me mid.seat.me went old.owns.1 old.owns.2 c.args.self.now.keys in let done = c.cut_retire.new.chain in let r = c.cut_retire.ensures in record {
      unnoted = by_result c.cut_retire.result _ _ r.retired r.back (λ t k. k.note ∙ note) (λ x b. ap (λ z. (own_in z.seat.me.0.chains).note) b.1 ∙ note);
      keys = by_result c.cut_retire.result _ _ r.retired r.back
          (λ t k. keys_cut qsbr allows maps mid.seat.me.0 done.seat.me.0 mid.owns.1 keys (g.W.Caller.seen c.args.caller.now) (g.W.Caller.heard c.args.caller.now) [] k.object k.published k.left)
          (λ x b. subst (λ z. KnowsKeys z.seat.me.0) (sym b.1) keys);
    }

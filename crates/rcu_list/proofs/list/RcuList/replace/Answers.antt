use Rattle.rcu_list.proofs.Cited.{◌≡◌, ◌≤◌, ◌%◌, ℕ, List, Option, IsSome, length, slice_get, slice_index_or, inr, refl, ap, sym, ◌∙◌, subst, arith, slice_get_within, ObjectId, some_is, key_of, Log, Begins, record_of, IsUnnoted, begins_trans, ChainRight, own_in, Queues, RefusesRetirement, stays_makes, IsAfter, list_in, index_has, IsLater, HasLearned}
use Rattle.rcu_list.specs.Maps.{map_of}
use Rattle.rcu_list.proofs.GivingBack.{gives_back}
use Rattle.rcu_list.proofs.Refused.{gives_back_then, looked_then_learned, map_learned, not_replaced}
use Rattle.rcu_list.proofs.Writing.{by_no_note, by_second, chain_known, keys_walked, note_still, note_walked, replaced_map, same_own, takes_over, KnowsKeys, by_result, keys_replaced}
use Rattle.rcu_list.proofs.list.RcuList.replace.Goals as goal

-- a refusal, once the caller has heard of the log of the moment
pub returns-in-Err-clause-kept : goal.returns-in-Err-clause-kept
returns-in-Err-clause-kept g c =
    let l = c.in-Err.ensures.looked in let h = c.hear.ensures.learned in
    let learned = looked_then_learned g.P.GracePlan.QSBR g.K.ChainRule.allows c.args.self.now.chain.seat.me c.prepare_replacement.new.chain.seat.me c.hear.new.self.chain.seat.me l.1 h.2 h.3 in
    ((h.0.0 ∙ l.0.0, h.0.1 ∙ l.0.1), h.1 ∙ l.1.0, learned.0, learned.1, h.4 ∙ l.2)

pub returns-in-Err-clause-map : goal.returns-in-Err-clause-map
returns-in-Err-clause-map g c =
    let kept = returns-in-Err-clause-kept g c in let old = c.args.self.now.chain in let done = c.hear.new.self.chain in
    map_learned g.P.GracePlan.QSBR g.K.ChainRule.allows (g.met.K.MapRule.maps g.P.GracePlan.QSBR) old.number old.seat.me.0 done.seat.me.0 kept.2 kept.3 old.owns.2 old.owns.1 done.owns.1

pub returns-in-Err-clause-refused : goal.returns-in-Err-clause-refused
returns-in-Err-clause-refused g c =
    let old = c.args.self.now.chain in let h = c.hear.ensures in let map = returns-in-Err-clause-map g c in (
      refl,
      not_replaced g.W.Caller g.P.GracePlan.QSBR g.K.ChainRule.allows g.B.Site.sizes c.args.caller.now c.prepare_replacement.new.caller c.hear.new.caller c.in-Err.refusal h.same (subst (IsAfter g.P.GracePlan.QSBR g.K.ChainRule.allows (g.W.Caller.seen c.prepare_replacement.new.caller) (g.W.Caller.heard c.prepare_replacement.new.caller)) (sym h.heard) h.told.0) old.seat.me.0.seen old.number c.args.key
          (subst (λ (l : Log). map_of l old.number c.args.key ≡ map_of old.seat.me.0.seen old.number c.args.key) (sym h.heard) (map c.args.key)) c.in-Err.ensures.refused,
    )

pub replace_retire-requires : goal.replace_retire-requires
replace_retire-requires g c = record {
  rule = λ o at.
      let qsbr = g.P.GracePlan.QSBR in let allows = g.K.ChainRule.allows in let maps = g.met.K.MapRule.maps qsbr in let old = c.args.self.now.chain in let new = c.prepare_replacement.new.chain in let p = c.in-Ok.ensures in let went = p.looked.1 in
      takes_over qsbr allows maps IsUnnoted maps.takes new.seat.me.0 (g.W.Caller.seen c.prepare_replacement.new.caller) (g.W.Caller.heard c.prepare_replacement.new.caller) c.in-Ok.ready.1.seat.me.0.seen new.owns.0 new.owns.1
      (by_no_note qsbr allows new.seat.me.0 (note_still qsbr allows maps old.number old.seat.me new.seat.me went old.owns.1 old.owns.2 c.args.self.now.unnoted))
      (keys_walked qsbr allows maps old.number old.seat.me new.seat.me went old.owns.1 old.owns.2 c.args.self.now.keys)
      c.in-Ok.ready.1.seat.me.0 c.args.key c.args.value c.in-Ok.ready.0 p.ready.0 o at;
}

pub returns-in-Ok-replace_retire-clause-replaced : goal.returns-in-Ok-replace_retire-clause-replaced
returns-in-Ok-replace_retire-clause-replaced g c =
    let a = c.in-Ok.ensures in let r = c.in-Ok-replace_retire.ensures.retired in let s = c.in-Ok-replace_retire.ensures.same in let ready = a.ready.0 in
    let old = c.args.self.now.chain in let new = c.prepare_replacement.new.chain in let done = c.replace_retire.new.chain in
    let qsbr = g.P.GracePlan.QSBR in let allows = g.K.ChainRule.allows in let maps = g.met.K.MapRule.maps qsbr in let index = c.in-Ok.ready.0 in let owned = c.in-Ok.ready.1 in let known : Log = old.seat.me.0.seen in let before : Log = r.published.before in
    let same = same_own qsbr allows maps old.number old.seat.me new.seat.me a.looked.1 old.owns.1 old.owns.2 in
    let list : list_in new.seat.me.0 ≡ list_in old.seat.me.0 = ap (λ (x : ChainRight). x.objects) same in
    let number : new.number ≡ old.number = a.looked.2 in
    let one : ready.found.object ≡ r.object = some_is ready.found.object r.object (sym ready.found.at ∙ r.was) in
    let key_is : key_of (record_of known r.object) ≡ c.args.key = sym (ap key_of (note_walked qsbr allows maps old.number old.seat.me new.seat.me a.looked.1 old.owns.1 old.owns.2 r.object (index_has (list_in old.seat.me.0) index r.object (ap (λ (l : List ObjectId). slice_get l index) (sym list) ∙ r.was)))) ∙ (ap (λ (p : ObjectId). key_of (record_of new.seat.me.0.seen p)) (sym one) ∙ ready.found.begins) in (
      r.object,
      replaced_map qsbr allows maps old.number known (g.W.Caller.seen c.args.caller.now) (g.W.Caller.heard c.args.caller.now) new.seat.me.0 done.seat.me.0 (new.owns.2 ∙ number) new.owns.0
          (chain_known old.seat.me.0 old.number old.owns.1 old.owns.2 ∙ sym list)
          (g.W.Caller.seen c.prepare_replacement.new.caller) (g.W.Caller.heard c.prepare_replacement.new.caller) owned.seat.me.0.seen c.args.key r.object (index_has (list_in new.seat.me.0) index r.object r.was) key_is
          owned.seat.me.0 c.args.value ready.rank ready.words r.published (
            begins_trans known new.seat.me.0.seen before a.looked.1.2.0 r.published.after.after_writer.0,
            subst (λ (l : Log). Begins l before) a.same.0.0 r.published.after.after_caller.0,
            begins_trans (g.W.Caller.heard c.args.caller.now) (g.W.Caller.heard c.prepare_replacement.new.caller) before a.heard.after_heard r.published.after.after_caller.1,
          ),
      record { given = r.given; turn = r.turn; queued = subst (λ (n : ℕ). Queues qsbr allows (Begins done.seat.me.0.seen) r.object (n % g.B.Site.sizes.queues) r.given (g.row.D.coded.code c.args.callback) (g.W.Caller.heard c.replace_retire.new.caller)) number r.queued },
    )

pub returns-in-Ok-replace_retire-clause-same : goal.returns-in-Ok-replace_retire-clause-same
returns-in-Ok-replace_retire-clause-same g c =
    let a = c.in-Ok.ensures in let r = c.in-Ok-replace_retire.ensures.same in let m = r.0 in let s = a.same in (
      r.1 ∙ a.looked.2,
      (
        stays_makes g.W.Caller c.args.caller.now c.prepare_replacement.new.caller c.replace_retire.new.caller c.replace_retire.new.chain.seat.me.0.seen s.0 m.0,
        (m.2 ∙ s.1.0, (c.in-Ok.ready.1.seat.me.0.object, (a.took.0, m.1 ∙ a.took.1, a.took.2))),
      ),
    )

-- the new record is back before that
pub returns-in-Err-replace_retire-clause-kept : goal.returns-in-Err-replace_retire-clause-kept
returns-in-Err-replace_retire-clause-kept g c =
    let l = c.in-Ok.ensures.looked in let h = c.hear-in-Err-replace_retire.ensures.learned in let b = c.in-Err-replace_retire.ensures.back.2 in let new = c.prepare_replacement.new.chain in let done = c.hear-in-Err-replace_retire.new.self.chain in
    let on = subst (λ z. (done.seat.me.1 ≡ z.seat.me.1) × HasLearned z.seat.me.0 done.seat.me.0 × IsLater g.P.GracePlan.QSBR g.K.ChainRule.allows z.seat.me.0 done.seat.me.0) b (h.1, h.2, h.3) in
    let learned = looked_then_learned g.P.GracePlan.QSBR g.K.ChainRule.allows c.args.self.now.chain.seat.me new.seat.me done.seat.me l.1 on.1 on.2 in
    ((h.0.0 ∙ (ap (λ z. z.seat.table_id) b ∙ l.0.0), h.0.1 ∙ (ap (λ z. z.seat.id) b ∙ l.0.1)), on.0 ∙ l.1.0, learned.0, learned.1, h.4 ∙ (ap (λ z. z.number) b ∙ l.2))

pub returns-in-Err-replace_retire-clause-map : goal.returns-in-Err-replace_retire-clause-map
returns-in-Err-replace_retire-clause-map g c =
    let kept = returns-in-Err-replace_retire-clause-kept g c in let old = c.args.self.now.chain in let done = c.hear-in-Err-replace_retire.new.self.chain in
    map_learned g.P.GracePlan.QSBR g.K.ChainRule.allows (g.met.K.MapRule.maps g.P.GracePlan.QSBR) old.number old.seat.me.0 done.seat.me.0 kept.2 kept.3 old.owns.2 old.owns.1 done.owns.1

pub returns-in-Err-replace_retire-clause-refused : goal.returns-in-Err-replace_retire-clause-refused
returns-in-Err-replace_retire-clause-refused g c =
    let a = c.in-Ok.ensures in let d = c.discard.ensures in let ready = a.ready.0 in
    let old = c.args.self.now.chain in let new = c.prepare_replacement.new.chain in
    let w = g.W.Caller in let sizes = g.B.Site.sizes in
    let w0 = c.args.caller.now in let w1 = c.prepare_replacement.new.caller in let w2 = c.replace_retire.new.caller in let w3 = c.discard.new.caller in
    let within = slice_get_within (list_in new.seat.me.0) c.in-Ok.ready.0 ready.found.object ready.found.at in
    let number : new.number ≡ old.number = a.looked.2 in (
      c.in-Err-replace_retire.ensures.back.1,
      inr (
        subst (λ (x : Option ℕ). IsSome x) (sym (subst (λ (l : Log). map_of l old.number c.args.key ≡ map_of old.seat.me.0.seen old.number c.args.key) (sym c.hear-in-Err-replace_retire.ensures.heard) (returns-in-Err-replace_retire-clause-map g c c.args.key))) a.ready.1,
        inr (by_second c.in-Err-replace_retire.ensures.refused
            (λ n. let few : length (list_in new.seat.me.0) ≤ c.in-Ok.ready.0 = n.1 in omega arith)
            (λ k. let own = ap (λ o. o.seat.me.0.object) c.in-Err-replace_retire.ensures.back.0 in
            gives_back_then w g.P.GracePlan.QSBR g.K.ChainRule.allows sizes w0 w3 c.hear-in-Err-replace_retire.new.caller c.in-Err-replace_retire.refusal c.hear-in-Err-replace_retire.ensures.same (subst (IsAfter g.P.GracePlan.QSBR g.K.ChainRule.allows (w.seen w3) (w.heard w3)) (sym c.hear-in-Err-replace_retire.ensures.heard) c.hear-in-Err-replace_retire.ensures.told.0) (old.number % sizes.queues) (gives_back w g.P.GracePlan.QSBR g.K.ChainRule.allows sizes w0 w1 w2 w3 c.in-Err-replace_retire.refusal (old.number % sizes.queues) c.in-Ok.ready.1.seat.me.0.object c.in-Err-replace_retire.owned.seat.me.0.object own
            a.same.0 a.same.1.0 a.heard.after_heard a.took (subst (λ (n : ℕ). RefusesRetirement w g.P.GracePlan.QSBR g.K.ChainRule.allows sizes (n % sizes.queues) w1 w2 c.in-Err-replace_retire.refusal) number k.1) d.freed d.heard.0 d.loads d.same))),
      ),
    )

pub invariant_of-self : goal.invariant_of-self
invariant_of-self g c =
    let qsbr = g.P.GracePlan.QSBR in let allows = g.K.ChainRule.allows in let maps = g.met.K.MapRule.maps qsbr in let old = c.args.self.now.chain in let new = c.prepare_replacement.new.chain in let went = c.prepare_replacement.ensures.looked.1 in record {
      unnoted = note_still qsbr allows maps old.number old.seat.me new.seat.me went old.owns.1 old.owns.2 c.args.self.now.unnoted;
      keys = keys_walked qsbr allows maps old.number old.seat.me new.seat.me went old.owns.1 old.owns.2 c.args.self.now.keys;
    }

pub invariant_of-self-2 : goal.invariant_of-self-2
invariant_of-self-2 g c =
    let qsbr = g.P.GracePlan.QSBR in let allows = g.K.ChainRule.allows in let maps = g.met.K.MapRule.maps qsbr in let old = c.args.self.now.chain in let new = c.prepare_replacement.new.chain in let went = c.prepare_replacement.ensures.looked.1 in let done = c.replace_retire.new.chain in let r = c.replace_retire.ensures in let owned = c.in-Ok.ready.1 in
    let note = note_still qsbr allows maps old.number old.seat.me new.seat.me went old.owns.1 old.owns.2 c.args.self.now.unnoted in
    let keys = keys_walked qsbr allows maps old.number old.seat.me new.seat.me went old.owns.1 old.owns.2 c.args.self.now.keys in record {
      unnoted = by_result c.replace_retire.result _ _ r.retired r.back (λ t k. k.note ∙ note) (λ x b. ap (λ z. (own_in z.seat.me.0.chains).note) b.2 ∙ note);
      keys = by_result c.replace_retire.result _ _ r.retired r.back
          (λ t k. keys_replaced qsbr allows maps new.seat.me.0 done.seat.me.0 new.owns.1 keys (g.W.Caller.seen c.prepare_replacement.new.caller) (g.W.Caller.heard c.prepare_replacement.new.caller) owned.seat.me.0.seen owned.seat.me.0 k.object k.published
          (ap (λ (l : List ℕ). slice_index_or l 3 0) c.in-Ok.ensures.ready.0.words) k.left)
          (λ x b. subst (λ z. KnowsKeys z.seat.me.0) (sym b.2) keys);
    }

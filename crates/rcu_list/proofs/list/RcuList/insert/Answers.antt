use Rattle.rcu_list.proofs.Cited.{◌≡◌, ℕ, ◌∷◌, List, ap, sym, ◌∙◌, subst, slice_index_or, ObjectId, Log, Begins, IsUnnoted, begins_trans, ChainRight, stays_makes, IsAfter, list_in}
use Rattle.rcu_list.specs.Maps.{HasLastRank, map_of}
use Rattle.rcu_list.proofs.Refused.{looked_then_learned, map_learned, not_inserted, rank_learned}
use Rattle.rcu_list.proofs.Writing.{by_no_note, chain_known, comes_in, keys_pushed, keys_walked, note_still, pushed_map, rank_walked, same_own}
use Rattle.rcu_list.proofs.list.RcuList.insert.Goals as goal

pub push-requires : goal.push-requires
push-requires g c = record {
  rule =
      let qsbr = g.P.GracePlan.QSBR in let allows = g.K.ChainRule.allows in let maps = g.met.K.MapRule.maps qsbr in let old = c.args.self.now.chain in let new = c.prepare_insertion.new.chain in let p = c.in-Ok.ensures in let went = p.looked.1 in
      comes_in qsbr allows maps IsUnnoted maps.takes new.seat.me.0 (g.W.Caller.seen c.prepare_insertion.new.caller) (g.W.Caller.heard c.prepare_insertion.new.caller) c.in-Ok.owned.seat.me.0.seen new.owns.0 new.owns.1
      (by_no_note qsbr allows new.seat.me.0 (note_still qsbr allows maps old.number old.seat.me new.seat.me went old.owns.1 old.owns.2 c.args.self.now.unnoted))
      (keys_walked qsbr allows maps old.number old.seat.me new.seat.me went old.owns.1 old.owns.2 c.args.self.now.keys)
      c.in-Ok.owned.seat.me.0 c.args.key c.args.value p.ready.0;
}

pub returns-in-Ok-clause-inserted : goal.returns-in-Ok-clause-inserted
returns-in-Ok-clause-inserted g c =
    let qsbr = g.P.GracePlan.QSBR in let allows = g.K.ChainRule.allows in let maps = g.met.K.MapRule.maps qsbr in let old = c.args.self.now.chain in let new = c.prepare_insertion.new.chain in let done = c.push.new.self in
    let owned = c.in-Ok.owned in let a = c.in-Ok.ensures in let p = c.push.ensures in let ready = a.ready.0 in
    let known : Log = old.seat.me.0.seen in let before : Log = p.pushed.before in
    let same = same_own qsbr allows maps old.number old.seat.me new.seat.me a.looked.1 old.owns.1 old.owns.2 in (
      pushed_map qsbr allows maps old.number known (g.W.Caller.seen c.args.caller.now) (g.W.Caller.heard c.args.caller.now) new.seat.me.0 done.seat.me.0 (new.owns.2 ∙ a.looked.2) new.owns.0
          (chain_known old.seat.me.0 old.number old.owns.1 old.owns.2 ∙ ap (λ (x : ChainRight). x.objects) (sym same))
          (g.W.Caller.seen c.prepare_insertion.new.caller) (g.W.Caller.heard c.prepare_insertion.new.caller) owned.seat.me.0.seen owned.seat.me.0 c.args.key c.args.value ready.rank a.ready.1
          (ready.next ∙ rank_walked qsbr allows maps old.number old.seat.me new.seat.me a.looked.1 old.owns.1 old.owns.2) ready.words p.pushed (
            begins_trans known new.seat.me.0.seen before a.looked.1.2.0 p.pushed.after.after_writer.0,
            subst (λ (l : Log). Begins l before) a.same.0.0 p.pushed.after.after_caller.0,
            begins_trans (g.W.Caller.heard c.args.caller.now) (g.W.Caller.heard c.prepare_insertion.new.caller) before a.heard.after_heard p.pushed.after.after_caller.1,
          )
          a.ready.2,
      p.heard,
    )

-- a refusal, once the caller has heard of the log of the moment
pub returns-in-Err-clause-kept : goal.returns-in-Err-clause-kept
returns-in-Err-clause-kept g c =
    let l = c.in-Err.ensures.looked in let h = c.hear.ensures.learned in
    let learned = looked_then_learned g.P.GracePlan.QSBR g.K.ChainRule.allows c.args.self.now.chain.seat.me c.prepare_insertion.new.chain.seat.me c.hear.new.self.chain.seat.me l.1 h.2 h.3 in
    ((h.0.0 ∙ l.0.0, h.0.1 ∙ l.0.1), h.1 ∙ l.1.0, learned.0, learned.1, h.4 ∙ l.2)

pub returns-in-Err-clause-map : goal.returns-in-Err-clause-map
returns-in-Err-clause-map g c =
    let kept = returns-in-Err-clause-kept g c in let old = c.args.self.now.chain in let done = c.hear.new.self.chain in
    map_learned g.P.GracePlan.QSBR g.K.ChainRule.allows (g.met.K.MapRule.maps g.P.GracePlan.QSBR) old.number old.seat.me.0 done.seat.me.0 kept.2 kept.3 old.owns.2 old.owns.1 done.owns.1

pub returns-in-Err-clause-refused : goal.returns-in-Err-clause-refused
returns-in-Err-clause-refused g c =
    let qsbr = g.P.GracePlan.QSBR in let allows = g.K.ChainRule.allows in let old = c.args.self.now.chain in let done = c.hear.new.self.chain in let h = c.hear.ensures in
    let kept = returns-in-Err-clause-kept g c in let map = returns-in-Err-clause-map g c in
    not_inserted g.W.Caller qsbr allows g.B.Site.sizes c.args.caller.now c.prepare_insertion.new.caller c.hear.new.caller c.in-Err.refusal h.same (subst (IsAfter qsbr allows (g.W.Caller.seen c.prepare_insertion.new.caller) (g.W.Caller.heard c.prepare_insertion.new.caller)) (sym h.heard) h.told.0) old.seat.me.0.seen old.number c.args.key
    (subst (λ (l : Log). map_of l old.number c.args.key ≡ map_of old.seat.me.0.seen old.number c.args.key) (sym h.heard) (map c.args.key))
    (λ last. subst (λ (l : Log). HasLastRank l old.number) (sym h.heard) (rank_learned qsbr allows (g.met.K.MapRule.maps qsbr) old.number old.seat.me.0 done.seat.me.0 kept.2 kept.3 old.owns.2 old.owns.1 done.owns.1 last))
    c.in-Err.ensures.refused

pub invariant_of-self-in-Err-1 : goal.invariant_of-self-in-Err-1
invariant_of-self-in-Err-1 g c =
    let qsbr = g.P.GracePlan.QSBR in let allows = g.K.ChainRule.allows in let maps = g.met.K.MapRule.maps qsbr in let old = c.args.self.now.chain in let new = c.prepare_insertion.new.chain in let went = c.prepare_insertion.ensures.looked.1 in record {
      unnoted = note_still qsbr allows maps old.number old.seat.me new.seat.me went old.owns.1 old.owns.2 c.args.self.now.unnoted;
      keys = keys_walked qsbr allows maps old.number old.seat.me new.seat.me went old.owns.1 old.owns.2 c.args.self.now.keys;
    }

pub invariant_of-self : goal.invariant_of-self
invariant_of-self g c =
    let qsbr = g.P.GracePlan.QSBR in let allows = g.K.ChainRule.allows in let maps = g.met.K.MapRule.maps qsbr in let old = c.args.self.now.chain in let new = c.prepare_insertion.new.chain in let went = c.prepare_insertion.ensures.looked.1 in let p = c.push.ensures in let owned = c.in-Ok.owned in
    let note = note_still qsbr allows maps old.number old.seat.me new.seat.me went old.owns.1 old.owns.2 c.args.self.now.unnoted in
    let keys = keys_walked qsbr allows maps old.number old.seat.me new.seat.me went old.owns.1 old.owns.2 c.args.self.now.keys in record {
      unnoted = p.list.1 ∙ note;
      keys = keys_pushed qsbr allows maps new.seat.me.0 c.push.new.self.seat.me.0 new.owns.1 keys (g.W.Caller.seen c.prepare_insertion.new.caller) (g.W.Caller.heard c.prepare_insertion.new.caller) owned.seat.me.0.seen owned.seat.me.0 p.pushed
          (ap (λ (l : List ℕ). slice_index_or l 3 0) c.in-Ok.ensures.ready.0.words)
          (p.list.0 ∙ ap (λ (o : ObjectId). o ∷ list_in new.seat.me.0) p.object);
    }

pub returns-in-Ok-clause-same : goal.returns-in-Ok-clause-same
returns-in-Ok-clause-same g c =
    let a = c.in-Ok.ensures in let p = c.push.ensures in let m = p.same in let s = a.same in (
      p.list.3 ∙ a.looked.2,
      (
        stays_makes g.W.Caller c.args.caller.now c.prepare_insertion.new.caller c.push.new.caller c.push.new.self.seat.me.0.seen s.0 m.0,
        (m.2 ∙ s.1.0, (c.in-Ok.owned.seat.me.0.object, (a.took.0, m.1 ∙ a.took.1, a.took.2))),
      ),
    )

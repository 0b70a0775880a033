use Rattle.rcu_hash.proofs.Cited.{begins_trans, tabled, During, IsRest, IsUnretired, LeavesOnly, LinksStill, objects_in, one_if, Each, lengths_of, rights_of, object_in, In, ◌≡◌, ℕ, ◌+◌, ◌∙◌, ◌^◌, ◌-◌, ◌<◌, List, length, sym, ap, subst, arith, Some, map, option_map, min, ∥∥₁_map, numbers_are, sum_is, same_objects, rest_rights, row_is, byte_is, one_is, same_many, some_mapped, only_both, after_since, each_map, during_earlier, during_since}
use Rattle.rcu_hash.proofs.old_table.OldTable.count.Goals as goal

pub hear_all-requires : goal.hear_all-requires
hear_all-requires g c = record { chains = c.args.self.left }

pub hear_record-unlinked-requires : goal.hear_record-unlinked-requires
hear_record-unlinked-requires g c = record {
  some = λ one.
      let many = same_many (λ x. x.seat.me.0) c.hear_all.new.chains.items c.args.self.chains.items c.hear_all.ensures.rights in let had = c.args.self.some one in let old = c.args.self.chains.ok.0 in
      let some : 0 < length c.hear_all.new.chains.items = omega arith in subst (λ xs. 0 < length xs) (sym c.deref.ensures.value) some;
}

pub invariant_of-heard : goal.invariant_of-heard
invariant_of-heard g c =
    let l = c.args.self in let n = l.naming in let h = c.hear_record-unlinked in let vs = map (λ x. x.seat.me.0) c.hear_all.new.chains.items in record {
      some = λ one.
          let many = same_many (λ x. x.seat.me.0) c.hear_all.new.chains.items l.chains.items c.hear_all.ensures.rights in
          let had = l.some (some_mapped (λ u. object_in u.seat.me.0.object) h.result l.unlinked h.ensures.record one) in let new = c.hear_all.new.chains.ok.0 in let old = l.chains.ok.0 in omega arith;
      left = c.hear_all.ensures.chains;
      replaced = h.ensures.its n.directory l.replaced;
      rest = subst (λ o. IsRest n.directory n.object vs o l.handle.seat.me.0.heard) (sym h.ensures.record) (rest_rights n.directory n.object _ _ _ _ (sym c.hear_all.ensures.rights) l.rest);
    }

pub returns : goal.returns
returns g c =
    let q = g.P.GracePlan.QSBR in let w = g.W.Caller in let w0 = c.args.caller.now in let w1 = c.hear_all.new.caller in let w2 = c.hear_record-unlinked.new.caller in let w3 = c.tell-left.new.caller in let a = c.hear_all.ensures in let h = c.hear_record-unlinked.ensures in let e = c.tell-left.ensures in let t = e.left in
    let l = c.args.self in let n = l.naming in let d = n.directory in let vs = map (λ x. x.seat.me.0) l.chains.items in let old = option_map (λ u. object_in u.seat.me.0.object) l.unlinked in
    let rest : IsRest d n.object vs old (w.heard w3) = subst (λ o. IsRest d n.object vs o (w.heard w3)) h.record (rest_rights d n.object _ _ _ _ a.rights e.rest) in
    let ones = byte_is c.tell-left.result.unlinked c.is_some.result c.is_some.ensures ∙ (ap one_if t.2 ∙ (sym (one_is (λ u. object_in u.seat.me.0.object) c.hear_record-unlinked.result) ∙ (ap one_if h.record ∙ one_is (λ u. object_in u.seat.me.0.object) l.unlinked))) in
    let objects = ap (λ xs. objects_in (map (λ x. x.seat.me.0) xs)) (c.deref-2.ensures.value ∙ ap (λ v. v.items) t.1) ∙ same_objects (map (λ x. x.seat.me.0) c.hear_all.new.chains.items) vs a.rights in
    let many = c.count_objects-many.ensures ∙ (ap (λ (k : ℕ). min (k + objects_in (map (λ x. x.seat.me.0) c.deref-2.result.now)) (2 ^ 64 - 1)) ones ∙ ap (λ (k : ℕ). min (one_if l.unlinked + k) (2 ^ 64 - 1)) objects) in
    let on = begins_trans (w.heard w1) (w.heard w2) (w.heard w3) h.heard e.heard.after_heard in let both = only_both w w0 w1 w2 a.same h.same in record {
      counted = record {
        replaced = old;
        was = ∥∥₁_map rest (λ r. r.3);
        unretired = λ o is. during_earlier w q tabled w0 w2 w3 (IsUnretired o) e.heard.after_heard (during_since w q tabled w0 w1 w2 (IsUnretired o) a.same.0.0.0 a.heard (h.unretired o is));
        still = each_map (λ p. During w q tabled w0 w1 (LinksStill d p)) (λ p. During w q tabled w0 w3 (LinksStill d p)) (λ p. during_earlier w q tabled w0 w1 w3 (LinksStill d p) on) (lengths_of (rights_of vs))
            (subst (λ rs. Each (λ p. During w q tabled w0 w1 (LinksStill d p)) (lengths_of rs)) a.rights a.still);
        row = ∥∥₁_map rest (λ r. (r.2.0, row_is r.2.0 vs r.2.1));
        rest = ∥∥₁_map rest (λ r. subst (λ (cs : List ℕ). LeavesOnly d (w.heard w3) (In cs) (λ o. old ≡ Some o)) (sym (numbers_are vs)) r.1);
        many = many ∙ (ap (λ (k : ℕ). min (k + objects_in vs) (2 ^ 64 - 1)) (sym (one_is (λ u. object_in u.seat.me.0.object) l.unlinked)) ∙ ap (λ (k : ℕ). min (one_if old + k) (2 ^ 64 - 1)) (sym (sum_is vs)));
      };
      rest = rest;
      many = many;
      heard = after_since q tabled (w.seen w0) (w.heard w0) (w.seen w2) (w.heard w2) (w.heard w3) both.0.0.0 (begins_trans (w.heard w0) (w.heard w1) (w.heard w2) a.heard h.heard) e.heard;
      same = (only_both w w0 w2 w3 both e.same, t.0);
    }

use Rattle.rcu_hash.proofs.Cited.{begins_trans, Log, Begins, tabled, LiveEvent, Object, Push, AreRanked, value_among, CopiesAll, Writes, bucket_of, Each, HasKeysIn, IsAlone, HasNoNote, value_at, more_only, one_only, words_of, OnlyMakesMany, own_in, cell_in, object_in, list_in, push_by, ◌≡◌, ℕ, ◌+◌, [], ◌∷◌, ◌∙◌, ◌%◌, ◌<◌, ◌++◌, List, length, refl, sym, ap, subst, arith, Some, map, slice_get, option_map, vec_len, map-set_same, append-nil, length-append, nil_from_length, map-set, mod_below, slice_get-map, slice_get_read, each_at, each_set, filled_more, Holds, hold_nothing, no_value, may_put, put_value, put_holds, holds_next, split_next, next_new, ranked_next, writes_weaker, from_at, copies_more, numbers_from, each_map}
use Rattle.rcu_hash.proofs.copying.fill.Goals as goal

pub loop-init : goal.loop-init
loop-init g c = let r = c.requires in let rest = c.into_iter-rest.ensures in record {
  left = let len = rest.len in omega arith;
  many = sym c.len-buckets.ensures;
  done = [];
  counted = refl;
  split = ap (map (λ x. (x.key, x.value))) (sym rest.rest);
  ranked = subst (λ l. AreRanked 0 (map (λ x. x.rank) l)) (sym rest.rest) r.copied.1;
  holds = hold_nothing (map (λ x. x.seat.me.0) c.args.chains.now.items) r.chains.1 r.chains.2;
  values = λ key. no_value (map (λ x. x.seat.me.0) c.args.chains.now.items) (key % c.len-buckets.result) key r.chains.1;
  filled = λ start from. ([], refl);
  numbers = refl;
  heard = ([], refl);
  same = (record { changes = []; are = refl; made = (refl, refl, λ h. h, refl) }, refl, refl);
}

pub push-requires : goal.push-requires
push-requires g c = record {
  rule =
      let q = g.P.GracePlan.QSBR in let w = g.W.Caller in let i = c.loop.invariant in let x = c.in-Some.copied in let chain = c.index_mut.result.now in let n = c.len-buckets.result in
      let items = c.loop.chains.items in let vs = map (λ c. c.seat.me.0) items in let v = chain.seat.me.0 in
      let next = c.in-Some.ensures.cases.0 in
      let low : x.key % n < n = mod_below x.key n (let some = c.requires.chains.0 in let len = c.len-buckets.ensures in omega arith) in
      let at : slice_get vs (x.key % n) ≡ Some v = slice_get-map (λ c. c.seat.me.0) items (x.key % n) ∙ ap (option_map (λ c. c.seat.me.0)) (slice_get_read items (vec_len c.loop.chains) (x.key % n) chain c.loop.chains.ok.0 (let m = i.many in omega arith) c.index_mut.ensures.value) in
      let all = map (λ c. (c.key, c.value)) c.args.copied.items in
      let rank = ranked_next (λ c. (c.key, c.value)) (λ c. c.rank) all i.done c.loop.rest.rest.items c.next.new.self.rest.items x next c.loop.counter i.ranked in
      let new = next_new (λ c. (c.key, c.value)) (λ c. c.rank) all i.done c.loop.rest.rest.items c.next.new.self.rest.items x next i.split c.requires.copied.0 in
      may_put q v (w.seen c.loop.caller) (w.heard c.loop.caller) x.owned.seat.me.0.seen chain.owns.0 chain.owns.1 c.loop.counter (each_at (Holds c.loop.counter) vs (x.key % n) v i.holds at) x.owned.seat.me.0 x.key x.value
      (x.words ∙ ap (words_of x.key x.value) rank.0)
      (ap (λ z. value_at z x.key) (sym at) ∙ (i.values x.key ∙ new));
}

pub loop-preserved : goal.loop-preserved
loop-preserved g c =
    let q = g.P.GracePlan.QSBR in let w = g.W.Caller in let i = c.loop.invariant in let x = c.in-Some.copied in let chain = c.index_mut.result.now in let now = c.push.new.self in let n = c.len-buckets.result in let p = c.push.ensures in
    let w0 = c.args.caller.now in let w1 = c.loop.caller in let w2 = c.push.new.caller in
    let items = c.loop.chains.items in let vs = map (λ c. c.seat.me.0) items in let v = chain.seat.me.0 in let k = x.key % n in
    let next = c.in-Some.ensures.cases.0 in
    let low : x.key % n < n = mod_below x.key n (let some = c.requires.chains.0 in let len = c.len-buckets.ensures in omega arith) in
    let is = c.index_mut.ensures.value in
    let at : slice_get vs k ≡ Some v = slice_get-map (λ c. c.seat.me.0) items k ∙ ap (option_map (λ c. c.seat.me.0)) (slice_get_read items (vec_len c.loop.chains) k chain c.loop.chains.ok.0 (let m = i.many in omega arith) is) in
    let all = map (λ c. (c.key, c.value)) c.args.copied.items in
    let rank = ranked_next (λ c. (c.key, c.value)) (λ c. c.rank) all i.done c.loop.rest.rest.items c.next.new.self.rest.items x next c.loop.counter i.ranked in
    let new = next_new (λ c. (c.key, c.value)) (λ c. c.rank) all i.done c.loop.rest.rest.items c.next.new.self.rest.items x next i.split c.requires.copied.0 in
    let words = x.words ∙ ap (words_of x.key x.value) rank.0 in
    let holds = each_at (Holds c.loop.counter) vs k v i.holds at in
    let list = p.list.0 ∙ ap (λ o. o ∷ list_in v) p.object in
    let set_is = sym (map-set (λ c. c.seat.me.0) items k now) in record {
      left = let more = c.in-Some.ensures.cases.1 in let was = i.left in omega arith;
      many = i.many;
      done = i.done ++ (x.key, x.value) ∷ [];
      counted = omega (arith, length-append i.done ((x.key, x.value) ∷ []), i.counted);
      split = split_next (λ c. (c.key, c.value)) (λ c. c.rank) all i.done c.loop.rest.rest.items c.next.new.self.rest.items x next i.split;
      ranked = rank.1;
      holds = subst (Each (Holds (c.loop.counter + 1))) set_is (each_set (Holds (c.loop.counter + 1)) vs k now.seat.me.0 (each_map (Holds c.loop.counter) (Holds (c.loop.counter + 1)) (holds_next c.loop.counter) vs i.holds)
          (put_holds q v (w.seen w1) (w.heard w1) x.owned.seat.me.0.seen chain.owns.0 chain.owns.1 c.loop.counter holds x.owned.seat.me.0 x.key x.value words now.seat.me.0 p.pushed list p.list.1 p.list.2));
      values = subst (λ us. (key : ℕ) → value_at (slice_get us (key % n)) key ≡ value_among (i.done ++ (x.key, x.value) ∷ []) key) set_is
          (filled_more value_at n vs i.done (x.key, x.value) v now.seat.me.0 at new
          (put_value q v (w.seen w1) (w.heard w1) x.owned.seat.me.0.seen chain.owns.0 chain.owns.1 c.loop.counter holds x.owned.seat.me.0 x.key x.value words now.seat.me.0 p.pushed list)
          i.values);
      filled = λ start from.
          let number : (own_in v.chains).chain ≡ bucket_of start n x.key = from_at start k vs v (numbers_from c.args.chains.now.items items start (λ c. c.number) (λ c. c.seat.me.0) (λ c. c.owns.2) i.numbers from) at in
          let is_next : c.loop.counter ≡ 0 + length i.done = omega (arith, i.counted) in
          let ranked = words ∙ ap (words_of x.key x.value) is_next in
          let u = x.owned.seat.me.0 in let last : Log = now.seat.me.0.seen in
          let event : push_by v u ≡ Object (Push (bucket_of start n x.key) (object_in u.object) (cell_in u.object) (words_of x.key x.value (0 + length i.done))) = λ j. Object (Push (number j) (object_in u.object) (cell_in u.object) (ranked j)) in
          subst (CopiesAll (Writes q tabled (w.seen w0)) start n 0 (w.heard w0) (i.done ++ (x.key, x.value) ∷ [])) (sym p.heard)
          (copies_more (Writes q tabled (w.seen w0)) (writes_weaker q tabled (w.seen w0)) start n 0 (w.heard w0) (w.heard w1) i.done (x.key, x.value) last (i.filled start from) (record {
            object = object_in u.object;
            cell = cell_in u.object;
            tells = record {
              before = p.pushed.before;
              wrote = p.pushed.wrote ∙ ap (λ (z : LiveEvent). z ∷ p.pushed.before) event;
              after = (subst (λ (l : Log). Begins l p.pushed.before) i.same.0.made.0 p.pushed.after.after_caller.0, p.pushed.after.after_caller.1);
              run = p.pushed.run;
            };
          }));
      numbers = map-set_same (λ c. c.number) items k now chain (p.list.3 ∙ ap (λ c. c.number) is) ∙ i.numbers;
      heard = subst (Begins (w.heard w0)) (sym p.heard) (begins_trans (w.heard w0) p.pushed.before now.seat.me.0.seen (begins_trans (w.heard w0) (w.heard w1) p.pushed.before i.heard p.pushed.after.after_caller.1) (_ ∷ [], p.pushed.wrote));
      same = more_only w w0 w1 w2 c.loop.counter 1 i.same (one_only w w1 w2 now.seat.me.0.seen p.same);
    }

pub returns : goal.returns
returns g c =
    let q = g.P.GracePlan.QSBR in let w = g.W.Caller in let w0 = c.args.caller.now in let w1 = c.loop.caller in let i = c.loop.invariant in let vs = map (λ c. c.seat.me.0) c.loop.chains.items in let k = c.loop.counter in let rest = c.loop.rest.rest in
    let end = c.loop-test.false in let most = c.loop.auto.counter-end in let left = i.left in
    let none : rest.items ≡ [] = nil_from_length rest.items (let ok = rest.ok.0 in omega arith) in
    let many : k ≡ vec_len c.args.copied = let many = c.len-many.ensures in omega arith in
    let all = i.split ∙ (ap (λ l. i.done ++ map (λ c. (c.key, c.value)) l) none ∙ append-nil i.done) in record {
      values = λ key. ap (λ n. value_at (slice_get vs (key % n)) key) i.many ∙ (i.values key ∙ ap (λ es. value_among es key) (sym all));
      filled = λ start from. subst (λ (es : List (ℕ × ℕ)). CopiesAll (Writes q tabled (w.seen w0)) start (vec_len c.args.chains.now) 0 (w.heard w0) es (w.heard w1)) (sym all)
          (subst (λ (n : ℕ). CopiesAll (Writes q tabled (w.seen w0)) start n 0 (w.heard w0) i.done (w.heard w1)) c.len-buckets.ensures (i.filled start from));
      chains = (i.many ∙ c.len-buckets.ensures, i.numbers);
      known = (each_map (Holds k) HasKeysIn (λ v h. h.keys) vs i.holds, each_map (Holds k) HasNoNote (λ v h. h.unnoted) vs i.holds, each_map (Holds k) IsAlone (λ v h. h.alone) vs i.holds);
      heard = i.heard;
      same = subst (OnlyMakesMany w w0 w1) many i.same;
    }

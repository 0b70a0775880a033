use Rattle.rcu_hash.proofs.Cited.{begins_trans, Log, Begins, chain_note, record_of, tabled, buckets_in, Grows, During, IsUnused, IsAmong, are_apart, IsLinked, IsTidied, Naming, more_made, none_made, MakesMany, cell_in, ◌≡◌, ℕ, ◌+◌, [], ◌∷◌, ◌∙◌, ◌≢◌, ◌<◌, List, length, refl, sym, ap, subst, inl, inr, arith, false, map, ⊎_elim, vec_len, rules, length-map, nil_from_length, grows_since, grows_go, during_since, during_earlier, taken_since, in_both, rest_none, some_there, looked_hears, looked_then, gives_up_on, keeps_none_of}
use Rattle.rcu_hash.proofs.table.RcuHash.grow_over.Given.{Over}
use Rattle.rcu_hash.proofs.table.RcuHash.grow_over.Goals.{After-tell-left}
use Rattle.rcu_hash.proofs.table.RcuHash.grow_over.Goals as goal

-- nothing was left when the caller heard of what is
module _ (g : Over) (c : After-tell-left g) where
  nothing : IsTidied c.args.self.now.directory (g.W.Caller.heard c.tell-left.new.caller)
  nothing =
      let t = c.tell-left.ensures in let l = c.args.left in let none = c.if-len-ne0.false in let len = c.len.ensures in
      let empty : l.chains.items ≡ [] = nil_from_length l.chains.items (let ok = l.chains.ok.0 in omega arith) in
      subst (λ n. IsTidied n (g.W.Caller.heard c.tell-left.new.caller)) c.requires
      (rest_none l.naming.directory l.naming.object _ _ (g.W.Caller.heard c.tell-left.new.caller) (ap (map (λ x. x.seat.me.0)) empty) (λ p is. let some = l.some (some_there _ l.unlinked p is) in absurd (omega (arith, some, none, len))) t.rest)

  tidied : (later : g.row.W.Denot) → Begins (g.W.Caller.heard c.tell-left.new.caller) (g.W.Caller.heard later) → During g.W.Caller g.P.GracePlan.QSBR tabled c.args.caller.now later (IsTidied c.args.self.now.directory)
  tidied later goes = record { at = g.W.Caller.heard c.tell-left.new.caller; after = c.tell-left.ensures.heard; before = goes; so = nothing }

pub commit-left-requires-clause-copied : goal.commit-left-requires-clause-copied
commit-left-requires-clause-copied g c =
    c.in-Ok.ensures.copied

pub commit-left-requires-clause-tidied : goal.commit-left-requires-clause-tidied
commit-left-requires-clause-tidied g c =
    let t = c.tell-left.ensures in let log : Log = g.W.Caller.heard c.tell-left.new.caller in
    let same : c.own_array-place.result.1.naming ≡ c.args.left.naming = c.own_array-place.ensures ∙ t.left.0 in (
      log,
      c.in-Ok.ensures.same.0.heard,
      subst (λ (m : Naming). IsLinked m.directory m.object log) (sym same) t.linked,
      subst (λ n. IsTidied n log) (sym (ap (λ (m : Naming). m.directory) same ∙ c.requires)) (nothing g (goal.at.commit-left-requires-clause-tidied g c).After-tell-left),
    )

pub returns-then-not-fits-clause-refused : goal.returns-then-not-fits-clause-refused
returns-then-not-fits-clause-refused g c = inr (tidied g (goal.at.returns-then-not-fits-clause-refused g c).After-tell-left c.tell-left.new.caller ([], refl), inl (refl, inl (search rules)))

-- a new chain was taken, or is one of the table's own, which have notes
pub returns-in-Err : goal.returns-in-Err
returns-in-Err g c =
    let q = g.P.GracePlan.QSBR in let w = g.W.Caller in let w0 = c.args.caller.now in let wt = c.tell-left.new.caller in let t = c.tell-left.ensures in let first = c.args.first in let many = c.args.buckets in let e = c.in-Err.ensures in
    let all = gives_up_on (λ i none. absurd none) (looked_hears w0 wt t.same t.heard.after_heard) e.same.1.1 in record {
      grown = tt;
      tidied = tt;
      free = tt;
      refused = inr (
        tidied g (goal.at.returns-in-Err g c).After-tell-left c.ready.new.caller e.same.1.1.0.heard,
        ⊎_elim
            (λ taken. inl (taken.0, inr (taken_since w q tabled g.B.Site.sizes (IsAmong first many) (IsAmong first many) (λ k one. one) w0 wt c.ready.new.caller t.same.0.0.0 t.heard.after_heard [] t.same.0.1 (λ k one h. h) taken.1)))
            (λ rest. inr (search rules, λ k one. during_since w q tabled w0 wt c.ready.new.caller (IsUnused k) t.same.0.0.0 t.heard.after_heard (rest.0 k one), rest.1))
            e.refused,
      );
      heard = all.0.heard;
      looks = keeps_none_of all;
      loads = ((_, all.0.loads), tt);
      changes = all.0.stays;
    }

pub returns-then-not-are_apart-clause-refused : goal.returns-then-not-are_apart-clause-refused
returns-then-not-are_apart-clause-refused g c =
    let w = g.W.Caller in let n = c.tell-left.result.naming in let t = c.tell-left.ensures in let log : Log = w.heard c.tell-left.new.caller in let first = c.args.first in let many = c.args.buckets in
    let apart : are_apart n.first n.buckets first many ≡ false = sym c.are_apart.ensures ∙ c.if-not-are_apart.true in
    let some : 0 < many = search rules in
    let here : 0 < n.buckets = subst (λ (m : Naming). 0 < m.buckets) c.own_array-place.ensures c.own_array-place.result.1.many.0 in
    let both = in_both n.first n.buckets first many here some apart in
    let noted : chain_note both.0 log ≢ 0 = t.noted both.0 (subst (λ (m : Naming). IsAmong m.first m.buckets both.0) t.left.0 both.1) in
    inr (
      tidied g (goal.at.returns-then-not-are_apart-clause-refused g c).After-tell-left c.tell-left.new.caller ([], refl),
      inl (refl, inr (record { chain = both.0; one = both.2; found = []; looks = t.same.0.1; why = inr (record { at = log; after = t.heard; before = ([], refl); so = inr noted }) })),
    )

pub returns-then-not-fits-clause-looks : goal.returns-then-not-fits-clause-looks
returns-then-not-fits-clause-looks g c = ([], c.tell-left.ensures.same.0.1, tt, (λ full. cc, λ i. tt))

pub returns-then-len-ne0-clause-looks : goal.returns-then-len-ne0-clause-looks
returns-then-len-ne0-clause-looks g c = ([], c.hear.ensures.same.0.0.1, tt, (λ full. cc, λ i. tt))

pub returns-then-not-are_apart-clause-looks : goal.returns-then-not-are_apart-clause-looks
returns-then-not-are_apart-clause-looks g c = ([], c.tell-left.ensures.same.0.1, tt, (λ full. cc, λ i. tt))

pub invariant_of-left : goal.invariant_of-left
invariant_of-left g c = let l = c.tell-left.result in record { some = l.some; left = l.left; replaced = l.replaced; rest = l.rest }

pub returns : goal.returns
returns g c =
    let q = g.P.GracePlan.QSBR in let w = g.W.Caller in let w0 = c.args.caller.now in let wt = c.tell-left.new.caller in let w1 = c.ready.new.caller in let w2 = c.commit-left.new.caller in let log : Log = w.heard w2 in let chains = g.B.Site.sizes.chains in
    let growth = c.in-Ok.growth in let e = c.in-Ok.ensures in let t = c.tell-left.ensures in let m = c.commit-left.ensures in let first = c.args.first in let size = c.own_array-place.result.1.naming.buckets in let d = c.own_array-place.result.1.naming.directory in let own = c.args.self.now.directory in
    let entries : List (ℕ × ℕ) = map (λ y. (y.key, y.value)) growth.copied.items in
    let all = looked_then (looked_hears w0 wt t.same t.heard.after_heard) e.same.0 in
    let goes : Begins (w.heard w1) log = grows_go q tabled chains d first (vec_len growth.chains) entries log (w.seen w1) (w.heard w1) m.grown.0 in let since : Begins (w.heard wt) log = begins_trans (w.heard wt) (w.heard w1) log e.same.0.heard goes in
    let loads = m.same.2 ∙ all.loads in
    let directory : d ≡ own = ap (λ (n : Naming). n.directory) (c.own_array-place.ensures ∙ t.left.0) ∙ c.requires in
    let grown : (k : Grows q tabled chains own (w.seen w0) (w.heard w0) first c.args.buckets entries log) × (buckets_in (record_of k.left k.old) ≡ size) =
    subst (λ (n : ℕ). (k : Grows q tabled chains n (w.seen w0) (w.heard w0) first c.args.buckets entries log) × (buckets_in (record_of k.left k.old) ≡ size)) directory
    (subst (λ (n : ℕ). (k : Grows q tabled chains d (w.seen w0) (w.heard w0) first n entries log) × (buckets_in (record_of k.left k.old) ≡ size)) e.chains.0
    (grows_since q tabled chains d first (vec_len growth.chains) entries log (w.seen w0) (w.heard w0) (w.seen w1) (w.heard w1) size all.stays.0 all.heard m.grown.0 m.grown.1)) in
    let many : vec_len growth.copied ≡ length entries = growth.copied.ok.0 ∙ sym (length-map growth.copied.items (λ y. (y.key, y.value))) in
    let count : 0 + (vec_len growth.copied + vec_len growth.chains + size + 1) ≡ length entries + c.args.buckets + buckets_in (record_of grown.0.left grown.0.old) + 1 = let chains_are = e.chains.0 in let olds = grown.1 in omega arith in
    record {
      grown = (
        entries,
        grown.0,
        ap (λ (n : ℕ). n + 1) (c.len-many.ensures ∙ many),
        search rules,
        subst (MakesMany w w0 w2) count (more_made w w0 w1 w2 0 (vec_len growth.copied + vec_len growth.chains + size + 1) (none_made w w0 w1 all.stays) m.same.0),
      );
      tidied = tidied g (goal.at.returns g c).After-tell-left w2 since;
      free = λ chain among. during_earlier w q tabled w0 w1 w2 (IsUnused chain) goes (during_since w q tabled w0 wt w1 (IsUnused chain) t.same.0.0.0 t.heard.after_heard (e.free chain among));
      refused = tt;
      heard = begins_trans (w.heard w0) (w.heard wt) log t.heard.after_heard since;
      -- it keeps as many records as it leaves for `tidy`
      looks = (
        all.found,
        m.same.1 ∙ all.looks,
        (
          cell_in growth.owned.seat.me.0.object ∷ map (λ x. cell_in x.owned.seat.me.0.object) growth.copied.items,
          let cells = length-map growth.copied.items (λ x. cell_in x.owned.seat.me.0.object) in let len = c.len-many.ensures in let ok = growth.copied.ok.0 in omega arith,
          all.freed,
        ),
        tt,
      );
      loads = (([], loads), loads);
      changes = tt;
    }

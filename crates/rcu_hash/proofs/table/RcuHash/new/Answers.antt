use Rattle.rcu_hash.proofs.Cited.{begins_trans, Log, Begins, reserved, tabled, Object, Push, directed_map, LeadsTo, NotesAll, Founds, Writes, words_by, bucket_of, IsRest, LeavesOnly, IsLinked, HasNoNote, IsEmpty, HasNothing, Naming, more_made, none_made, one_made, MakesMany, IsAfter, cell_in, object_in, payload_in, none_some, ◌≡◌, ℕ, ◌+◌, [], ◌∷◌, ◌∙◌, ◌⊎◌, refl, sym, ap, subst, inl, inr, arith, Some, None, map, vec_len, rules, err_from_is_err_and, writes_weaker, notes_weaker, each_map, only_weaker, only_none, linked_by, HasKeysIn, AreKept, nothing_has_keys, Looked, IsAmong, ⊎_elim, free_earlier, looked_then, gives_up_on, gives_up_other, keeps_none_of}
use Rattle.rcu_hash.proofs.table.RcuHash.new.Goals as goal

-- room was refused: the chains are looked at all the same
pub returns-in_err-hold_table-in-Err-clause-looks : goal.returns-in_err-hold_table-in-Err-clause-looks
returns-in_err-hold_table-in-Err-clause-looks g c =
    let p = err_from_is_err_and c.from_residual-in_err-hold_table-in-Err.result c.from_residual-in_err-hold_table-in-Err.ensures.1 in
    rw p.1 (keeps_none_of (gives_up_other (λ full. let config = p.2 ∙ c.in_err-hold_table-in-Err.ensures.refused.0 in cc) c.hold_table.ensures.same))

pub returns-in-Err-clause-looks : goal.returns-in-Err-clause-looks
returns-in-Err-clause-looks g c = keeps_none_of (gives_up_other (λ full. let memory = c.in-Err.ensures.refused in cc) c.hold_table.ensures.same)

-- a chain was taken
pub returns-in_err-own-clause-looks : goal.returns-in_err-own-clause-looks
returns-in_err-own-clause-looks g c =
    let p = err_from_is_err_and c.from_residual-in_err-own.result c.from_residual-in_err-own.ensures.1 in
    rw p.1 (keeps_none_of (gives_up_other (λ full. let config = p.2 ∙ c.in_err-own.ensures.refused.0 in cc) c.hold_table-2.ensures.same))

-- there was no record, or no memory
pub returns-in_err-owned : goal.returns-in_err-owned
returns-in_err-owned g c =
    let p = err_from_is_err_and c.from_residual-in_err-owned.result c.from_residual-in_err-owned.ensures.1 in let e = c.in_err-owned.ensures in let hold = c.hold_table-2.ensures.same in
    let all = gives_up_on {e = p.0} (λ i none. absurd none) hold (e.same.1.0, λ full. e.same.1.1 (sym p.2 ∙ full)) in record {
      made = rw p.1 tt;
      later = all.0.heard;
      refused = rw p.1 (inr (
        search rules,
        free_earlier g.W.Caller g.P.GracePlan.QSBR tabled c.args.caller.now c.hold_table-2.new.caller c.reserve_record.new.caller (λ k. (k ≡ c.args.directory) ⊎ IsAmong c.args.first c.args.buckets k) e.same.1.0.heard c.in_ok-own.ensures.free,
        ⊎_elim (λ memory. inl (p.2 ∙ memory)) (λ full. inr (p.2 ∙ full)) e.refused,
      ));
      looks = rw p.1 (keeps_none_of all);
      stays = rw p.1 all.0.stays;
      same = all.0.loads;
    }

pub reserve_all-owned-requires-clause-chains : goal.reserve_all-owned-requires-clause-chains
reserve_all-owned-requires-clause-chains g c = let h = c.in_ok-own.ensures.held c.in-Ok.ensures.made.0 in (each_map IsEmpty HasNoNote (λ v e. e.1) _ h.2, h.3)

pub direct-writer-requires-clause-chains : goal.direct-writer-requires-clause-chains
direct-writer-requires-clause-chains g c =
    let h = c.in_ok-own.ensures.held c.in-Ok.ensures.made.0 in let n = c.reserve_all-owned.ensures.kept in
    let vs = map (λ x. x.seat.me.0) c.in_ok-own.chains.items in let ws = map (λ x. x.seat.me.0) c.reserve_all-owned.result.1.items in (
      subst (λ o. AreKept c.args.first (reserved (object_in o)) ws) (sym c.reserve_all-owned.ensures.owned) (n.1.from c.args.first h.1, n.3, n.1.keys (each_map IsEmpty HasKeysIn (λ v e. nothing_has_keys v e.0) vs h.2), n.2),
      n.1.nothing (each_map IsEmpty HasNothing (λ v e. e.0) vs h.2),
    )

pub direct-writer-requires-clause-record : goal.direct-writer-requires-clause-record
direct-writer-requires-clause-record g c =
    let h = c.in_ok-own.ensures.held c.in-Ok.ensures.made.0 in
    ap payload_in c.reserve_all-owned.ensures.owned ∙ (c.in_ok-owned.ensures.made.0 ∙ ap (words_by c.args.first) (sym (c.reserve_all-owned.ensures.kept.0 ∙ h.0)))

-- each bucket got its note, and then the directory came
pub returns : goal.returns
returns g c =
    let q = g.P.GracePlan.QSBR in let w = g.W.Caller in let sizes = g.B.Site.sizes in let w0 = c.args.caller.now in let w1 = c.hold_table-2.new.caller in let w3 = c.reserve_record.new.caller in let w4 = c.reserve_all-owned.new.caller in let w5 = c.direct-writer.new.caller in let w6 = c.split.new.caller in
    let n = c.reserve_all-owned.ensures in let d = c.direct-writer.ensures in let h = c.in_ok-own.ensures.held c.in-Ok.ensures.made.0 in let own = c.in_ok-own.ensures.own.0 in let split = c.split.ensures.same in let last = sym split.1 in
    let first = c.args.first in let directory = c.args.directory in let many = c.args.buckets in let object = object_in c.in_ok-owned.owned.seat.me.0.object in let its = object_in c.reserve_all-owned.result.0.seat.me.0.object in let cell = cell_in c.in_ok-owned.owned.seat.me.0.object in let log : Log = w.heard w5 in
    let took = c.in_ok-owned.ensures.same.0 in let all : Looked w sizes (cell ∷ []) [] w0 w3 = looked_then c.hold_table-2.ensures.same took in let size = n.kept.0 ∙ h.0 in
    let seen : w.seen w3 ≡ w.seen w0 = all.stays.0 in
    let until : Begins (w.heard w3) log = begins_trans (w.heard w3) (w.heard w4) log n.heard d.heard.after_heard in
    let goes : Begins (w.heard w1) (w.heard w6) = subst (Begins (w.heard w1)) last (begins_trans (w.heard w1) (w.heard w3) log took.heard until) in
    let after = subst (IsAfter q tabled (w.seen w0) (w.heard w0)) last (record { after_seen = subst (λ (l : Log). Begins l log) (n.same.0.made.0 ∙ seen) d.heard.after_seen; after_heard = begins_trans (w.heard w0) (w.heard w3) log all.heard until; run = d.heard.run }) in
    let told : NotesAll (Writes q tabled (w.seen w0)) (reserved object) first many (w.heard w3) (w.heard w4) =
    subst (λ (k : ℕ). NotesAll (Writes q tabled (w.seen w0)) (reserved object) first k (w.heard w3) (w.heard w4)) h.0
    (subst (λ (s : Log). NotesAll (Writes q tabled s) (reserved object) first (vec_len c.in_ok-own.chains) (w.heard w3) (w.heard w4)) seen (n.told first h.1)) in
    let size0 = vec_len c.in_ok-own.chains in let size_is = h.0 in let count : 0 + size0 + 1 + 0 ≡ many + 1 = omega arith in record {
      made = (
        refl,
        record {
          fit = search rules;
          free = free_earlier w q tabled w0 w1 w6 (λ k. (k ≡ directory) ⊎ IsAmong first many k) goes c.in_ok-own.ensures.free;
          founded = subst (Founds q tabled directory (w.seen w0) (w.heard w0) first many) last (record {
            noted = w.heard w4;
            object = object;
            cell = d.pushed.0;
            notes = notes_weaker (Writes q tabled (w.seen w0)) (writes_weaker q tabled (w.seen w0)) (reserved object) first many (w.heard w0) (w.heard w3) (w.heard w4) all.heard told;
            pushed = subst (λ r. Writes q tabled (w.seen w0) (w.heard w4) (Object (Push directory (object_in r) d.pushed.0 (words_by first many))) log) n.owned
                (subst (λ (s : Log). Writes q tabled s (w.heard w4) (Object (Push directory its d.pushed.0 (words_by first many))) log) (n.same.0.made.0 ∙ seen)
                (subst (λ (k : ℕ). Writes q tabled (w.seen w4) (w.heard w4) (Object (Push k its d.pushed.0 (words_by first many))) log) own
                (subst (λ (k : ℕ). Writes q tabled (w.seen w4) (w.heard w4) (Object (Push c.in_ok-own.own.number its d.pushed.0 (words_by first k))) log) size d.pushed.1)));
          });
          empty = λ key. subst (λ (l : Log). (directed_map sizes.chains directory l key ≡ None) × LeadsTo directory l key (bucket_of first many key)) last
              (subst (λ (k : ℕ). (directed_map sizes.chains k log key ≡ None) × LeadsTo k log key (bucket_of first many key)) own
              (subst (λ (k : ℕ). (directed_map sizes.chains c.in_ok-own.own.number log key ≡ None) × LeadsTo c.in_ok-own.own.number log key (bucket_of first k key)) size (d.map key)));
          heard = after;
          many = subst (MakesMany w w0 w6) count (more_made w w0 w5 w6 (0 + size0 + 1) 0
              (more_made w w0 w4 w5 (0 + size0) 1 (more_made w w0 w3 w4 0 size0 (none_made w w0 w3 all.stays) n.same.0) (one_made w w4 w5 log d.same.0))
              (none_made w w5 w6 split.0.0.0));
        },
      );
      later = after.after_heard;
      refused = tt;
      looks = (all.found, split.0.0.1 ∙ (d.same.1 ∙ (n.same.1 ∙ all.looks)), (cell ∷ [], refl, all.freed), tt);
      stays = tt;
      same = split.0.1 ∙ (d.same.2 ∙ (n.same.2 ∙ all.loads));
    }

-- no directory was replaced in its chain
pub invariant_of-left : goal.invariant_of-left
invariant_of-left g c =
    let dir = c.direct-writer.result.0 in let n = dir.naming in let e = c.direct-writer.ensures in let log : Log = g.W.Caller.heard c.direct-writer.new.caller in let p = e.pushed.1 in
    let linked : IsLinked n.directory n.object log = subst (IsLinked n.directory n.object) (sym e.told) (linked_by dir.chain.seat.me.0 n.directory n.object n.first n.buckets dir.chain.owns.1 (dir.chain.owns.2 ∙ dir.own.0) dir.alone dir.words) in
    let none = only_none g.P.GracePlan.QSBR c.in_ok-own.own.number p.before log (object_in c.reserve_all-owned.result.0.seat.me.0.object) e.pushed.0 c.args.first (vec_len c.reserve_all-owned.result.1) p.wrote p.run in
    let all = subst (λ (d : ℕ). LeavesOnly d log (λ k. ⊥) (λ o. ⊥)) (sym (ap (λ (m : Naming). m.directory) e.directory)) none in let empty : c.new-2.result.items ≡ [] = search rules in record {
      some = λ no. cc;
      left = rw empty tt;
      replaced = tt;
      rest = rw empty (subst (IsRest n.directory n.object [] None) (sym c.split.ensures.told.1) ∣ (linked, only_weaker n.directory log (λ k. ⊥) (λ k. ⊥) (λ o. ⊥) (λ o. None ≡ Some o) (λ k no. no) (λ o no. absurd no) all, (0, tt), λ o no. absurd (none_some o no)) ∣₁);
    }

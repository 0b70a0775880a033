-- How the map of a keyed chain changes at an event of its writer.
use Rattle.rcu_list.proofs.Cited.{◌≡◌, ◌≢◌, ◌<◌, ◌≤◌, ◌^◌, ℕ, ◌+◌, Bool, List, [], ◌∷◌, Some, None, refl, sym, ap, ◌∙◌, subst, ⊎_elim, dite, ℕ_discrete, ObjectId, In, at_number, first_of, replaced, without_object, at_number_same, at_number_other, at_object_same, first_has, has_replaced, has_without_object, in_objects, replaced_has, replaced_there, without_object_has, LiveEvent, Object, Push, Replace, Cut, key_of, rank_of, Log, Begins, IsLiveRun, record_of, state_of, chain_used, note_stays, run_of, HasMaps}
use Rattle.rcu_list.specs.Calls.{Inserts, Replaces, Removes}
use Rattle.rcu_list.specs.Maps.{HasLastRank, map_of, next_rank, value_in, value_of, words_of}
use Rattle.rcu_list.proofs.Values.{one_key, rank_same, value_absent, value_at, value_first, value_kept, value_same}

module _ (qsbr : Bool) (allows : Log → LiveEvent → Type 0) (maps : HasMaps qsbr allows) (c : ℕ) where
  -- the objects of the chain
  abbrev chain_in : Log → List ObjectId
  chain_in log = (state_of log).chain c

  module _ (known log : Log) (begins : Begins known log) (run : IsLiveRun qsbr allows log) where
    known_run : IsLiveRun qsbr allows known
    known_run = run_of qsbr allows known log begins run

    pub same_note : (o : ObjectId) → In (chain_in known) o → record_of log o ≡ record_of known o
    same_note o h = note_stays qsbr allows known log o begins run (chain_used qsbr allows known c o known_run h)

    -- a key that is there, and one that is not
    pub key_there : (o : ObjectId) (key : ℕ) → In (chain_in known) o → key_of (record_of log o) ≡ key → map_of known c key ≡ Some (value_of (record_of known o))
    key_there o key h is = value_at (record_of known) (chain_in known) o key (maps.falls known c known_run) h (ap key_of (sym (same_note o h)) ∙ is)

    pub key_missing : (key : ℕ) → ((o : ObjectId) → In (chain_in known) o → key_of (record_of log o) ≢ key) → map_of known c key ≡ None
    key_missing key none = value_absent (record_of known) (chain_in known) key (λ o h is. none o h (ap key_of (same_note o h) ∙ is))

    -- the same objects have the same map, and the same last rank
    pub same_map : chain_in log ≡ chain_in known → (k : ℕ) → map_of log c k ≡ map_of known c k
    same_map linked k = ap (λ (os : List ObjectId). value_in (record_of log) os k) linked ∙ value_same (record_of known) (record_of log) (chain_in known) k same_note

    pub same_rank : chain_in log ≡ chain_in known → HasLastRank known c → HasLastRank log c
    same_rank linked (o, first, last) = (o, ap first_of linked ∙ first, subst (λ (x : ℕ × List ℕ). 2 ^ 62 ≤ rank_of x + 1) (sym (same_note o (first_has (chain_in known) o first))) last)

  module _ (known seen heard before : Log) (after : Begins known before × Begins seen before × Begins heard before) (linked : chain_in before ≡ chain_in known) (key value rank cell : ℕ) (o : ObjectId) where
    pub inserts : rank < 2 ^ 62 → rank ≡ next_rank (record_of known) (chain_in known) → IsLiveRun qsbr allows (Object (Push c o cell (words_of key value rank)) ∷ before) → map_of known c key ≡ None → Inserts qsbr allows c known seen heard key value (Object (Push c o cell (words_of key value rank)) ∷ before)
    inserts below next run none =
        let e : LiveEvent = Object (Push c o cell (words_of key value rank)) in
        let now : List ObjectId = chain_in (e ∷ before) in
        let pushed : now ≡ o ∷ chain_in before = at_number_same c (o ∷ chain_in before) (state_of before).chain in
        let kept : (k : ℕ) → map_of before c k ≡ map_of known c k = same_map known before after.0 run.1 linked in
        let here : record_of (e ∷ before) o ≡ (cell, words_of key value rank) = at_object_same o (cell, words_of key value rank) (record_of before) in
        record {
          object = o;
          cell = cell;
          rank = rank;
          below = below;
          changes = record {
            before = before;
            wrote = refl;
            after = after;
            run = run;
            linked = linked;
            kept = kept;
            was = kept key ∙ none;
            map = λ k. ap (λ (l : List ObjectId). value_in (record_of (e ∷ before)) l k) pushed
                ∙ (value_first (record_of (e ∷ before)) (chain_in before) o k
                ∙ (λ i. at_number (key_of (here i)) (Some (value_of (here i))) (λ n. value_same (record_of before) (record_of (e ∷ before)) (chain_in before) n (same_note before (e ∷ before) (e ∷ [], refl) run) i) k));
          };
          next = next ∙ (sym (rank_same (record_of known) (record_of before) (chain_in known) (same_note known before after.0 run.1)) ∙ ap (next_rank (record_of before)) (sym linked));
        }

    module _ (p : ObjectId) (at : In (chain_in known) p) (is : key_of (record_of known p) ≡ key) where
      pub replaces : IsLiveRun qsbr allows (Object (Replace c p o cell (words_of key value rank)) ∷ before) → Replaces qsbr allows c known seen heard key value p (Object (Replace c p o cell (words_of key value rank)) ∷ before)
      replaces run =
          let e : LiveEvent = Object (Replace c p o cell (words_of key value rank)) in
          let now : List ObjectId = chain_in (e ∷ before) in
          let has : In (chain_in before) p = in_objects (chain_in before) p run.0.0.0 in
          let left : now ≡ replaced p o (chain_in before) = at_number_same c (replaced p o (chain_in before)) (state_of before).chain in
          let kept : (k : ℕ) → map_of before c k ≡ map_of known c k = same_map known before after.0 run.1 linked in
          let here : record_of (e ∷ before) o ≡ (cell, words_of key value rank) = at_object_same o (cell, words_of key value rank) (record_of before) in
          let stay : (x : ObjectId) → In (chain_in before) x → record_of (e ∷ before) x ≡ record_of before x = same_note before (e ∷ before) (e ∷ [], refl) run in
          let was : key_of (record_of before p) ≡ key = ap key_of (same_note known before after.0 run.1 p at) ∙ is in
          let others : (k : ℕ) → k ≢ key → map_of (e ∷ before) c k ≡ map_of before c k = λ k apart. value_kept (record_of before) (record_of (e ∷ before)) (chain_in before) now k (maps.falls before c run.1) (maps.falls (e ∷ before) c run)
          (λ x h key_is. (subst (λ (l : List ObjectId). In l x) (sym left) (has_replaced p o (chain_in before) x h (λ same. apart (sym key_is ∙ (ap (λ (z : ObjectId). key_of (record_of before z)) same ∙ was)))), stay x h))
          (λ x h key_is. ⊎_elim (λ (new : x ≡ o). absurd (apart (sym key_is ∙ (ap (λ (z : ObjectId). key_of (record_of (e ∷ before) z)) new ∙ ap key_of here)))) (λ (k : In (chain_in before) x × (x ≢ p)). (k.0, stay x k.0))
          (replaced_has p o (chain_in before) x (subst (λ (l : List ObjectId). In l x) left h))) in
          let own : map_of (e ∷ before) c key ≡ Some value = value_at (record_of (e ∷ before)) now o key (maps.falls (e ∷ before) c run) (subst (λ (l : List ObjectId). In l o) (sym left) (replaced_there p o (chain_in before) has)) (ap key_of here) ∙ ap (λ (x : ℕ × List ℕ). Some (value_of x)) here in
          record {
            object = o;
            cell = cell;
            rank = rank;
            had = value_of (record_of known p);
            changes = record {
              before = before;
              wrote = refl;
              after = after;
              run = run;
              linked = linked;
              kept = kept;
              was = kept key ∙ key_there known before after.0 run.1 p key at was;
              map = λ k. dite (ℕ_discrete k key)
                  (λ same. ap (map_of (e ∷ before) c) same ∙ (own ∙ (sym (at_number_same key (Some value) (map_of before c)) ∙ ap (at_number key (Some value) (map_of before c)) (sym same))))
                  (λ apart. others k apart ∙ sym (at_number_other key k (Some value) (map_of before c) apart));
            };
          }

  module _ (known seen heard before : Log) (after : Begins known before × Begins seen before × Begins heard before) (linked : (state_of before).chain c ≡ (state_of known).chain c) (key : ℕ) (p : ObjectId) (at : In ((state_of known).chain c) p) (is : key_of (record_of known p) ≡ key) where
    pub removes : IsLiveRun qsbr allows (Object (Cut c p) ∷ before) → Removes qsbr allows c known seen heard key p (Object (Cut c p) ∷ before)
    removes run =
        let e : LiveEvent = Object (Cut c p) in
        let now : List ObjectId = chain_in (e ∷ before) in
        let has : In (chain_in before) p = in_objects (chain_in before) p run.0.0 in
        let left : now ≡ without_object p (chain_in before) = at_number_same c (without_object p (chain_in before)) (state_of before).chain in
        let kept : (k : ℕ) → map_of before c k ≡ map_of known c k = same_map known before after.0 run.1 linked in
        let was : key_of (record_of before p) ≡ key = ap key_of (same_note known before after.0 run.1 p at) ∙ is in
        let others : (k : ℕ) → k ≢ key → map_of (e ∷ before) c k ≡ map_of before c k = λ k apart. value_kept (record_of before) (record_of before) (chain_in before) now k (maps.falls before c run.1) (maps.falls (e ∷ before) c run)
        (λ x h key_is. (subst (λ (l : List ObjectId). In l x) (sym left) (has_without_object p (chain_in before) x h (λ same. apart (sym key_is ∙ (ap (λ (z : ObjectId). key_of (record_of before z)) same ∙ was)))), refl))
        (λ x h key_is. ((without_object_has p (chain_in before) x (subst (λ (l : List ObjectId). In l x) left h)).0, refl)) in
        let own : map_of (e ∷ before) c key ≡ None = value_absent (record_of before) now key (λ x h key_is. let k = without_object_has p (chain_in before) x (subst (λ (l : List ObjectId). In l x) left h) in
        k.1 (one_key (record_of before) (chain_in before) x p (maps.falls before c run.1) k.0 has (key_is ∙ sym was))) in
        record {
          had = value_of (record_of known p);
          changes = record {
            before = before;
            wrote = refl;
            after = after;
            run = run;
            linked = linked;
            kept = kept;
            was = kept key ∙ key_there known before after.0 run.1 p key at was;
            map = λ k. dite (ℕ_discrete k key)
                (λ same. ap (map_of (e ∷ before) c) same ∙ (own ∙ (sym (at_number_same key None (map_of before c)) ∙ ap (at_number key None (map_of before c)) (sym same))))
                (λ apart. others k apart ∙ sym (at_number_other key k None (map_of before c) apart));
          };
        }

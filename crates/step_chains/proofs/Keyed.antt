-- A writer of a keyed chain shows what the rule asks by the list that it knows.
use Rattle.step_chains.proofs.Cited.{Bool, ◌≡◌, ◌≢◌, ℕ, ◌<◌, List, ◌∷◌, sym, ap, ◌∙◌, subst, ObjectId, In, at_object, without_object, replaced, at_object_same, at_object_other, at_number_same, Log, IsLiveRun, Begins, state_of, record_of, key_of, rank_of, Falls, keyed, not_has, note_stays, run_of, chain_used, falls_same, falls_push, falls_cut, falls_replaced, View, own_in, IsWriter, AreAsKnown, cell_in, object_in, payload_in, IsListed}
use Rattle.step_chains.specs.Chains.{MayWrite, push_of, replace_of, cut_of}

module _ (qsbr : Bool) (v : View) (own : IsWriter v) (listed : IsListed v) where
  -- the writer's list, in a log in which its chains are as it knows them
  as_known : (log : Log) → AreAsKnown log v.chains → (state_of log).chain (own_in v.chains).chain ≡ (own_in v.chains).objects
  as_known log known = (subst (AreAsKnown log) own known).0.0

  -- in each such log the writer's objects are used, and have the notes that it has seen
  used_in : (log : Log) → IsLiveRun qsbr keyed log → (state_of log).chain (own_in v.chains).chain ≡ (own_in v.chains).objects → (p : ObjectId) → In (own_in v.chains).objects p → In (state_of log).used p
  used_in log run same p h = chain_used qsbr keyed log (own_in v.chains).chain p run (subst (λ (l : List ObjectId). In l p) (sym same) h)

  note_in_log : (log : Log) → Begins v.seen log → IsLiveRun qsbr keyed log → (p : ObjectId) → In (own_in v.chains).objects p → record_of log p ≡ record_of v.seen p
  note_in_log log b run p h = note_stays qsbr keyed v.seen log p b run (used_in v.seen (run_of qsbr keyed v.seen log b run) listed.0 p h)

  -- a new note leaves those of the list
  note_past : (log : Log) → IsLiveRun qsbr keyed log → Begins v.seen log → (state_of log).chain (own_in v.chains).chain ≡ (own_in v.chains).objects → (m : ObjectId) (x : ℕ × List ℕ) → ¬ In (state_of log).used m → (p : ObjectId) → In (own_in v.chains).objects p → at_object m x (record_of log) p ≡ record_of v.seen p
  note_past log run b same m x fresh p h = at_object_other m p x (record_of log) (λ e. fresh (subst (In (state_of log).used) e (used_in log run same p h))) ∙ note_in_log log b run p h

  -- a push of another key above all ranks
  pub may_push : Falls (record_of v.seen) (own_in v.chains).objects → ((p : ObjectId) → In (own_in v.chains).objects p → (key_of (record_of v.seen p) ≢ key_of (0, payload_in v.object)) × (rank_of (record_of v.seen p) < rank_of (0, payload_in v.object))) → MayWrite qsbr keyed v (push_of v)
  may_push falls above log b heard run known made =
      let same = as_known log known in
      let c : ℕ = (own_in v.chains).chain in
      let o : ObjectId = object_in v.object in
      let x : ℕ × List ℕ = (cell_in v.object, payload_in v.object) in
      let now : ObjectId → ℕ × List ℕ = at_object o x (record_of log) in
      let past = note_past log run b same o x (not_has (state_of log).used o made) in
      let here : now o ≡ x = at_object_same o x (record_of log) in
      subst (Falls now) (sym (at_number_same c (o ∷ (state_of log).chain c) (state_of log).chain ∙ ap (λ (l : List ObjectId). o ∷ l) same))
      (falls_push now (own_in v.chains).objects o
      (λ p h. subst (λ (z : (ℕ × List ℕ) × (ℕ × List ℕ)). (key_of z.0 ≢ key_of z.1) × (rank_of z.0 < rank_of z.1)) (λ i. (sym (past p h) i, sym here i)) (above p h))
      (falls_same (record_of v.seen) now (own_in v.chains).objects past falls))

  pub may_cut : (o : ObjectId) → Falls (record_of v.seen) (own_in v.chains).objects → MayWrite qsbr keyed v (cut_of o v)
  may_cut o falls log b heard run known made =
      let same = as_known log known in
      let c : ℕ = (own_in v.chains).chain in
      subst (Falls (record_of log)) (sym (at_number_same c (without_object o ((state_of log).chain c)) (state_of log).chain ∙ ap (without_object o) same))
      (falls_cut (record_of log) (own_in v.chains).objects o (falls_same (record_of v.seen) (record_of log) (own_in v.chains).objects (note_in_log log b run) falls))

  -- a replacement that keeps key and rank
  pub may_replace : (o : ObjectId) → In (own_in v.chains).objects o → Falls (record_of v.seen) (own_in v.chains).objects → (key_of (0, payload_in v.object) ≡ key_of (record_of v.seen o)) × (rank_of (0, payload_in v.object) ≡ rank_of (record_of v.seen o)) → MayWrite qsbr keyed v (replace_of o v)
  may_replace o at falls kept log b heard run known made =
      let same = as_known log known in
      let c : ℕ = (own_in v.chains).chain in
      let m : ObjectId = object_in v.object in
      let x : ℕ × List ℕ = (cell_in v.object, payload_in v.object) in
      let now : ObjectId → ℕ × List ℕ = at_object m x (record_of log) in
      let past = note_past log run b same m x (not_has (state_of log).used m made.1) in
      let here : now m ≡ x = at_object_same m x (record_of log) in
      let was = note_in_log log b run o at in (
        subst (Falls now) (sym (at_number_same c (replaced o m ((state_of log).chain c)) (state_of log).chain ∙ ap (replaced o m) same))
            (falls_replaced (record_of v.seen) now (own_in v.chains).objects o m past (ap key_of here ∙ kept.0, ap rank_of here ∙ kept.1) at falls),
        kept.0 ∙ ap key_of (sym was),
        kept.1 ∙ ap rank_of (sym was),
      )

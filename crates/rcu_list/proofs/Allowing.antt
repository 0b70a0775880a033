-- What a writer of a free chain may write, by the list and the notes that it knows.
use Rattle.rcu_list.proofs.Cited.{Bool, ◌≡◌, ◌≢◌, ℕ, ◌<◌, List, ◌∷◌, sym, ap, ◌∙◌, subst, ObjectId, In, at_object, replaced, without_object, at_number_same, at_object_other, at_object_same, LiveEvent, Object, Push, Replace, Cut, Falls, key_of, rank_of, Log, Begins, IsLiveRun, record_of, state_of, HasMaps, IsPlain, TakesKeys, HasKey, chain_used, falls_cut, falls_push, falls_replaced, falls_same, note_stays, run_of}

module _ (qsbr : Bool) (allows : Log → LiveEvent → Type 0) (maps : HasMaps qsbr allows) (free : Log → ℕ → Type 0) (takes : TakesKeys qsbr allows free) (c : ℕ) (known log : Log) (begins : Begins known log) (run : IsLiveRun qsbr allows log) (os : List ObjectId) (was : (state_of known).chain c ≡ os) (is : (state_of log).chain c ≡ os) (is_free : free log c) (keys : (o : ObjectId) → In os o → HasKey (record_of known o)) where
  -- the objects of the list have the notes that they had
  note_then : (p : ObjectId) → In os p → record_of log p ≡ record_of known p
  note_then p h = note_stays qsbr allows known log p begins run (chain_used qsbr allows known c p (run_of qsbr allows known log begins run) (subst (λ (l : List ObjectId). In l p) (sym was) h))

  falls : Falls (record_of known) os
  falls = subst (Falls (record_of known)) was (maps.falls known c (run_of qsbr allows known log begins run))

  plain : IsPlain qsbr allows free log c
  plain = record {
    run = run;
    is_free = is_free;
    keys = λ o h. let at : In os o = subst (λ (l : List ObjectId). In l o) is h in subst HasKey (sym (note_then o at)) (keys o at);
  }

  -- a new note leaves those of the list
  note_past : (m : ObjectId) (x : ℕ × List ℕ) → ¬ In (state_of log).used m → (p : ObjectId) → In os p → at_object m x (record_of log) p ≡ record_of known p
  note_past m x fresh p h = at_object_other m p x (record_of log) (λ e. fresh (subst (In (state_of log).used) e (chain_used qsbr allows log c p run (subst (λ (l : List ObjectId). In l p) (sym is) h)))) ∙ note_then p h

  -- another key, above all ranks
  pub may_push : (o : ObjectId) (cell : ℕ) (payload : List ℕ) → ¬ In (state_of log).used o → HasKey (cell, payload) → ((p : ObjectId) → In os p → (key_of (record_of known p) ≢ key_of (cell, payload)) × (rank_of (record_of known p) < rank_of (cell, payload))) → allows log (Object (Push c o cell payload))
  may_push o cell payload fresh key above =
      let x : ℕ × List ℕ = (cell, payload) in
      let now : ObjectId → ℕ × List ℕ = at_object o x (record_of log) in
      let past = note_past o x fresh in
      let here : now o ≡ x = at_object_same o x (record_of log) in
      takes.pushes log c o cell payload plain key
      (subst (Falls now) (sym (at_number_same c (o ∷ (state_of log).chain c) (state_of log).chain ∙ ap (λ (l : List ObjectId). o ∷ l) is))
      (falls_push now os o
      (λ p h. subst (λ (z : (ℕ × List ℕ) × (ℕ × List ℕ)). (key_of z.0 ≢ key_of z.1) × (rank_of z.0 < rank_of z.1)) (λ i. (sym (past p h) i, sym here i)) (above p h))
      (falls_same (record_of known) now os past falls)))

  -- the same key and rank
  pub may_replace : (old new : ObjectId) (cell : ℕ) (payload : List ℕ) → In os old → ¬ In (state_of log).used new → HasKey (cell, payload) → (key_of (cell, payload) ≡ key_of (record_of known old)) × (rank_of (cell, payload) ≡ rank_of (record_of known old)) → allows log (Object (Replace c old new cell payload))
  may_replace old new cell payload at fresh key kept =
      let x : ℕ × List ℕ = (cell, payload) in
      let now : ObjectId → ℕ × List ℕ = at_object new x (record_of log) in
      let here : now new ≡ x = at_object_same new x (record_of log) in
      let then = note_then old at in
      takes.replaces log c old new cell payload plain (subst (λ (l : List ObjectId). In l old) (sym is) at) key (
        subst (Falls now) (sym (at_number_same c (replaced old new ((state_of log).chain c)) (state_of log).chain ∙ ap (replaced old new) is))
            (falls_replaced (record_of known) now os old new (note_past new x fresh) (ap key_of here ∙ kept.0, ap rank_of here ∙ kept.1) at falls),
        kept.0 ∙ ap key_of (sym then),
        kept.1 ∙ ap rank_of (sym then),
      )

  pub may_cut : (o : ObjectId) → In os o → allows log (Object (Cut c o))
  may_cut o at = takes.cuts log c o plain (subst (λ (l : List ObjectId). In l o) (sym is) at)
      (subst (Falls (record_of log)) (sym (at_number_same c (without_object o ((state_of log).chain c)) (state_of log).chain ∙ ap (without_object o) is))
      (falls_cut (record_of log) os o (falls_same (record_of known) (record_of log) os note_then falls)))

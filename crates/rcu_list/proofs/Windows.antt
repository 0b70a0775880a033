-- A lookup along a keyed chain answers by some moment of its window.
use Rattle.rcu_list.proofs.Cited.{◌≡◌, ◌≢◌, ◌⊎◌, ℕ, ◌<◌, Bool, List, [], ◌∷◌, ◌++◌, Option, Some, None, refl, sym, ap, ◌∙◌, subst, inl, inr, ⊎_elim, arith, dite, ℕ_discrete, ObjectId, In, first_of, next_of, replaced, without_object, StaysOrLeaves, StaysCut, at_number_same, at_object_same, in_objects, replaced_has, replaced_there, stays_cut, stays_or_leaves, without_object_has, LiveEvent, Open, Close, SeqOdd, SeqEven, Present, ChainNote, CloseQueue, Object, Push, Replace, Cut, Retire, Queue, Run, key_of, rank_of, Log, Begins, Follows, IsLiveRun, event_of, record_of, objects_of, state_of, begins_trans, chain_used, kept_log, note_stays, run_of, HasMaps}
use Rattle.rcu_list.specs.Maps.{AnswersBetween, map_of, value_of}
use Rattle.rcu_list.proofs.Values.{Found, find_key, first_above, last_below, next_below, one_key, value_absent, value_at}

-- a chain
module _ (c : ℕ) where
  abbrev chain_in : Log → List ObjectId
  chain_in log = (state_of log).chain c

  -- at some moment between the two logs the key was absent
  pub record Lacked (start now : Log) (key : ℕ) : Type 0 where
    pub at : Log
    pub after : Begins start at
    pub before : Begins at now
    pub is : map_of at c key ≡ None

  -- at some moment between them the object was linked
  pub record Met (start now : Log) (o : ObjectId) : Type 0 where
    pub at : Log
    pub after : Begins start at
    pub before : Begins at now
    pub has : In (chain_in at) o

  -- an object with the key and the rank is linked
  pub record Ranked (log : Log) (key rank : ℕ) : Type 0 where
    pub object : ObjectId
    pub has : In (chain_in log) object
    pub key_is : key_of (record_of log object) ≡ key
    pub rank_is : rank_of (record_of log object) ≡ rank

  pub lacked_later : (start now later : Log) (key : ℕ) → Begins now later → Lacked start now key → Lacked start later key
  lacked_later start now later key b l = record { at = l.at; after = l.after; before = begins_trans l.at now later l.before b; is = l.is }

  pub met_later : (start now later : Log) (o : ObjectId) → Begins now later → Met start now o → Met start later o
  met_later start now later o b m = record { at = m.at; after = m.after; before = begins_trans m.at now later m.before b; has = m.has }

  -- where an object that was linked is: it is linked, or it was cut, with what followed it then
  pub record Left (start now : Log) (o : ObjectId) : Type 0 where
    pub at : Log
    pub after : Begins start at
    pub before : Begins at now
    pub has : In (chain_in at) o
    pub next : next_of (chain_in at) o ≡ (state_of now).successor o
    pub cut : In (state_of now).cut o

  -- what follows an object that was met followed it in the chain at some moment
  pub record Follower (start now : Log) (o : ObjectId) (found : Option ObjectId) : Type 0 where
    pub at : Log
    pub after : Begins start at
    pub before : Begins at now
    pub has : In (chain_in at) o
    pub next : next_of (chain_in at) o ≡ found

  -- the key was absent at some moment, or when the lookup began it had a rank below this one
  abbrev pub Past : Log → Log → ℕ → ℕ → Type 0
  Past start now key rank = Lacked start now key ⊎ ((r : ℕ) × Ranked start key r × (r < rank))

  -- a lookup comes to an object behind one with this rank
  pub record Reaches (start now : Log) (key rank : ℕ) (o : ObjectId) : Type 0 where
    pub met : Met start now o
    pub lower : rank_of (record_of now o) < rank
    pub past : key_of (record_of now o) ≢ key → Past start now key (rank_of (record_of now o))

  pub past_later : (start now later : Log) (key rank : ℕ) → Begins now later → Past start now key rank → Past start later key rank
  past_later start now later key rank b (inl l) = inl (lacked_later start now later key b l)
  past_later start now later key rank b (inr r) = inr r

module _ (qsbr : Bool) (allows : Log → LiveEvent → Type 0) (maps : HasMaps qsbr allows) (c : ℕ) where
  -- an event leaves an object linked, or cuts it, with what followed it
  one_step : (e : LiveEvent) (log : Log) (o : ObjectId) → IsLiveRun qsbr allows (e ∷ log) → In (chain_in c log) o → StaysOrLeaves (state_of log) (state_of (e ∷ log)) c o
  one_step (Object d) log o run h = stays_or_leaves (state_of log) (event_of d) c o (kept_log qsbr allows log run.1) run.0.0 h
  one_step (Open r n m) log o run h = inl h
  one_step (Close r n) log o run h = inl h
  one_step SeqOdd log o run h = inl h
  one_step SeqEven log o run h = inl h
  one_step (Present p) log o run h = inl h
  one_step (ChainNote d x) log o run h = inl h
  one_step (CloseQueue q) log o run h = inl h

  cut_step : (e : LiveEvent) (log : Log) (o : ObjectId) → IsLiveRun qsbr allows (e ∷ log) → In (state_of log).cut o → StaysCut (state_of log) (state_of (e ∷ log)) o
  cut_step (Object d) log o run h = stays_cut (state_of log) (event_of d) o (kept_log qsbr allows log run.1) run.0.0 h
  cut_step (Open r n m) log o run h = (h, refl)
  cut_step (Close r n) log o run h = (h, refl)
  cut_step SeqOdd log o run h = (h, refl)
  cut_step SeqEven log o run h = (h, refl)
  cut_step (Present p) log o run h = (h, refl)
  cut_step (ChainNote d x) log o run h = (h, refl)
  cut_step (CloseQueue q) log o run h = (h, refl)

  -- a key keeps its rank as long as it is there
  stays_ranked : (e : LiveEvent) (log : Log) (key rank : ℕ) → IsLiveRun qsbr allows (e ∷ log) → (r : Ranked c log key rank) → In (chain_in c (e ∷ log)) r.object → Ranked c (e ∷ log) key rank
  stays_ranked e log key rank run r h = let note = note_stays qsbr allows log (e ∷ log) r.object (e ∷ [], refl) run (chain_used qsbr allows log c r.object run.1 r.has) in
      record { object = r.object; has = h; key_is = ap key_of note ∙ r.key_is; rank_is = ap rank_of note ∙ r.rank_is }

  abbrev GoesOn : LiveEvent → Log → ℕ → ℕ → Type 0
  GoesOn e log key rank = Ranked c (e ∷ log) key rank ⊎ (map_of (e ∷ log) c key ≡ None)

  -- it is linked still, or the event cut it
  by_cut : (e : LiveEvent) (log : Log) (key rank : ℕ) → IsLiveRun qsbr allows (e ∷ log) → (r : Ranked c log key rank) → (In (state_of (e ∷ log)).cut r.object → GoesOn e log key rank) → GoesOn e log key rank
  by_cut e log key rank run r gone = ⊎_elim
      (λ (h : In (chain_in c (e ∷ log)) r.object). inl (stays_ranked e log key rank run r h))
      (λ (h : In (state_of (e ∷ log)).cut r.object × ((state_of (e ∷ log)).successor r.object ≡ next_of (chain_in c log) r.object)). gone h.0)
      (one_step e log r.object run r.has)

  not_cut : (log : Log) (o : ObjectId) → IsLiveRun qsbr allows log → In (chain_in c log) o → ¬ In (state_of log).cut o
  not_cut log o run h = (kept_log qsbr allows log run).linking.linked_not_cut c o h

  ranked_step : (e : LiveEvent) (log : Log) (key rank : ℕ) → IsLiveRun qsbr allows (e ∷ log) → Ranked c log key rank → GoesOn e log key rank
  ranked_step (Open q n m) log key rank run r = inl (stays_ranked (Open q n m) log key rank run r r.has)
  ranked_step (Close q n) log key rank run r = inl (stays_ranked (Close q n) log key rank run r r.has)
  ranked_step SeqOdd log key rank run r = inl (stays_ranked SeqOdd log key rank run r r.has)
  ranked_step SeqEven log key rank run r = inl (stays_ranked SeqEven log key rank run r r.has)
  ranked_step (Present p) log key rank run r = inl (stays_ranked (Present p) log key rank run r r.has)
  ranked_step (ChainNote d x) log key rank run r = inl (stays_ranked (ChainNote d x) log key rank run r r.has)
  ranked_step (CloseQueue q) log key rank run r = inl (stays_ranked (CloseQueue q) log key rank run r r.has)
  ranked_step (Object (Push d p i w)) log key rank run r = by_cut (Object (Push d p i w)) log key rank run r (λ h. absurd (not_cut log r.object run.1 r.has h))
  ranked_step (Object (Retire p)) log key rank run r = inl (stays_ranked (Object (Retire p)) log key rank run r r.has)
  ranked_step (Object (Queue p q n)) log key rank run r = inl (stays_ranked (Object (Queue p q n)) log key rank run r r.has)
  ranked_step (Object (Run p)) log key rank run r = inl (stays_ranked (Object (Run p)) log key rank run r r.has)
  ranked_step (Object (Replace d p m i w)) log key rank run r = by_cut (Object (Replace d p m i w)) log key rank run r
      (⊎_elim (λ (e : p ≡ r.object). came e) (λ (h : In (state_of log).cut r.object). absurd (not_cut log r.object run.1 r.has h)))
    where
      after : Log
      after = Object (Replace d p m i w) ∷ log

      at : In ((state_of log).chain d) p
      at = in_objects ((state_of log).chain d) p run.0.0.0

      list : (state_of after).chain d ≡ replaced p m ((state_of log).chain d)
      list = at_number_same d (replaced p m ((state_of log).chain d)) (state_of log).chain

      here : record_of after m ≡ (i, w)
      here = at_object_same m (i, w) (record_of log)

      one : p ≡ r.object → c ≡ d
      one e = (kept_log qsbr allows log run.1).linking.one_chain c d p (subst (In (chain_in c log)) (sym e) r.has) at

      there : p ≡ r.object → key_of (i, w) ≡ key → Ranked c after key rank
      there e is = record {
        object = m;
        has = subst (λ (n : ℕ). In ((state_of after).chain n) m) (sym (one e)) (subst (λ (l : List ObjectId). In l m) (sym list) (replaced_there p m ((state_of log).chain d) at));
        key_is = ap key_of here ∙ is;
        rank_is = ap rank_of here ∙ ((maps.alike log d p m i w run).0 ∙ (ap (λ (z : ObjectId). rank_of (record_of log z)) e ∙ r.rank_is));
      }

      gone : p ≡ r.object → key_of (i, w) ≢ key → (state_of log).chain d ≡ p ∷ [] → map_of after c key ≡ None
      gone e other alone = value_absent (record_of after) (chain_in c after) key (λ o h key_is.
          let now : In (replaced p m (p ∷ [])) o = subst (λ (l : List ObjectId). In l o) (ap (state_of after).chain (one e) ∙ (list ∙ ap (replaced p m) alone)) h in
          ⊎_elim
          (λ (is : o ≡ m). other (sym (ap key_of here) ∙ (ap (λ (z : ObjectId). key_of (record_of after z)) (sym is) ∙ key_is)))
          (λ (k : In (p ∷ []) o × (o ≢ p)). ⊎_elim (λ (is : p ≡ o). k.1 (sym is)) (λ (h : In [] o). absurd h) k.0)
          (replaced_has p m (p ∷ []) o now))

      came : p ≡ r.object → GoesOn (Object (Replace d p m i w)) log key rank
      came e = dite (ℕ_discrete (key_of (i, w)) key)
          (λ is. inl (there e is))
          (λ other. ⊎_elim
          (λ (same : key_of (i, w) ≡ key_of (record_of log p)). absurd (other (same ∙ (ap (λ (z : ObjectId). key_of (record_of log z)) e ∙ r.key_is))))
          (λ (alone : (state_of log).chain d ≡ p ∷ []). inr (gone e other alone))
          (maps.alike log d p m i w run).1)
  ranked_step (Object (Cut d p)) log key rank run r = by_cut (Object (Cut d p)) log key rank run r
      (⊎_elim (λ (e : p ≡ r.object). inr (gone e)) (λ (h : In (state_of log).cut r.object). absurd (not_cut log r.object run.1 r.has h)))
    where
      gone : p ≡ r.object → map_of (Object (Cut d p) ∷ log) c key ≡ None
      gone e =
          let at : In ((state_of log).chain d) p = in_objects ((state_of log).chain d) p run.0.0 in
          let same : d ≡ c = (kept_log qsbr allows log run.1).linking.one_chain d c p at (subst (In (chain_in c log)) (sym e) r.has) in
          let left : chain_in c (Object (Cut d p) ∷ log) ≡ without_object p (chain_in c log) = ap (λ (n : ℕ). (state_of (Object (Cut d p) ∷ log)).chain n) (sym same)
          ∙ (at_number_same d (without_object p ((state_of log).chain d)) (state_of log).chain ∙ ap (λ (n : ℕ). without_object p ((state_of log).chain n)) same) in
          value_absent (record_of log) (chain_in c (Object (Cut d p) ∷ log)) key (λ o h key_is. let k = without_object_has p (chain_in c log) o (subst (λ (l : List ObjectId). In l o) left h) in
          k.1 (one_key (record_of log) (chain_in c log) o p (maps.falls log c run.1) k.0 (subst (In (chain_in c log)) (sym e) r.has) (key_is ∙ (sym r.key_is ∙ ap (λ (z : ObjectId). key_of (record_of log z)) (sym e)))))

  ranked_since : (since start : Log) (key rank : ℕ) → IsLiveRun qsbr allows (since ++ start) → Ranked c start key rank → Lacked c start (since ++ start) key ⊎ Ranked c (since ++ start) key rank
  ranked_since [] start key rank run r = inr r
  ranked_since (e ∷ es) start key rank run r = ⊎_elim
      (λ (l : Lacked c start (es ++ start) key). inl (lacked_later c start (es ++ start) (e ∷ (es ++ start)) key (e ∷ [], refl) l))
      (λ (s : Ranked c (es ++ start) key rank). ⊎_elim
      (λ (t : Ranked c (e ∷ (es ++ start)) key rank). inr t)
      (λ (none : map_of (e ∷ (es ++ start)) c key ≡ None). inl (record { at = e ∷ (es ++ start); after = (e ∷ es, refl); before = ([], refl); is = none }))
      (ranked_step e (es ++ start) key rank run s))
      (ranked_since es start key rank run.1 r)

  pub ranked_later : (start now : Log) (key rank : ℕ) → Begins start now → IsLiveRun qsbr allows now → Ranked c start key rank → Lacked c start now key ⊎ Ranked c now key rank
  ranked_later start now key rank b run r = subst (λ (l : Log). Lacked c start l key ⊎ Ranked c l key rank) (sym b.1) (ranked_since b.0 start key rank (subst (IsLiveRun qsbr allows) b.1 run) r)

  left_since : (since start : Log) (o : ObjectId) → IsLiveRun qsbr allows (since ++ start) → In (chain_in c start) o → In (chain_in c (since ++ start)) o ⊎ Left c start (since ++ start) o
  left_since [] start o run h = inl h
  left_since (e ∷ es) start o run h = let log : Log = es ++ start in ⊎_elim
      (λ (there : In (chain_in c log) o). ⊎_elim
      (λ (k : In (chain_in c (e ∷ log)) o). inl k)
      (λ (gone : In (state_of (e ∷ log)).cut o × ((state_of (e ∷ log)).successor o ≡ next_of (chain_in c log) o)). inr (record { at = log; after = (es, refl); before = (e ∷ [], refl); has = there; next = sym gone.1; cut = gone.0 }))
      (one_step e log o run there))
      (λ (l : Left c start log o). let s = cut_step e log o run l.cut in inr (record { at = l.at; after = l.after; before = begins_trans l.at log (e ∷ log) l.before (e ∷ [], refl); has = l.has; next = l.next ∙ sym s.1; cut = s.0 }))
      (left_since es start o run.1 h)

  pub follower : (start now : Log) (o : ObjectId) (found : Option ObjectId) → IsLiveRun qsbr allows now → Met c start now o → Follows (objects_of now) o found → Follower c start now o found
  follower start now o found run m f = by (subst (λ (l : Log). In (chain_in c l) o ⊎ Left c m.at l o) (sym m.before.1) (left_since m.before.0 m.at o (subst (IsLiveRun qsbr allows) m.before.1 run) m.has)) f
    where
      by : In (chain_in c now) o ⊎ Left c m.at now o → Follows (objects_of now) o found → Follower c start now o found
      by (inl h) (inl l) = record { at = now; after = begins_trans start m.at now m.after m.before; before = ([], refl); has = h; next = ap (λ (n : ℕ). next_of ((state_of now).chain n) o) ((kept_log qsbr allows now run).linking.one_chain c l.0 o h l.1) ∙ l.2 }
      by (inl h) (inr k) = absurd (not_cut now o run h k.0)
      by (inr g) (inl l) = absurd ((kept_log qsbr allows now run).linking.linked_not_cut l.0 o l.1 g.cut)
      by (inr g) (inr k) = record { at = g.at; after = begins_trans start m.at g.at m.after g.after; before = g.before; has = g.has; next = g.next ∙ k.1 }

  note_at : (at now : Log) (o : ObjectId) → Begins at now → IsLiveRun qsbr allows now → In (chain_in c at) o → record_of now o ≡ record_of at o
  note_at at now o b run h = note_stays qsbr allows at now o b run (chain_used qsbr allows at c o (run_of qsbr allows at now b run) h)

  -- what follows an object that was met was met, with a lower rank
  pub advances : (start now : Log) (o p : ObjectId) → IsLiveRun qsbr allows now → Met c start now o → Follows (objects_of now) o (Some p) → Met c start now p × (rank_of (record_of now p) < rank_of (record_of now o))
  advances start now o p run met follows =
      let f = follower start now o (Some p) run met follows in
      let b = next_below (record_of f.at) (chain_in c f.at) o p (maps.falls f.at c (run_of qsbr allows f.at now f.before run)) f.has f.next in
      let here : rank_of (record_of now o) ≡ rank_of (record_of f.at o) = ap rank_of (note_at f.at now o f.before run f.has) in
      let there : rank_of (record_of now p) ≡ rank_of (record_of f.at p) = ap rank_of (note_at f.at now p f.before run b.has) in
      let lower = b.lower in
      (record { at = f.at; after = f.after; before = f.before; has = b.has }, omega arith)

  -- a key that was there when the lookup began, and was met, was met with the rank that it had then, or was absent
  pub met_rank : (start now : Log) (key rank : ℕ) (o : ObjectId) → IsLiveRun qsbr allows now → Ranked c start key rank → Met c start now o → key_of (record_of now o) ≡ key → Lacked c start now key ⊎ (rank_of (record_of now o) ≡ rank)
  met_rank start now key rank o run r m key_is =
      let run_at = run_of qsbr allows m.at now m.before run in
      let note = note_at m.at now o m.before run m.has in
      ⊎_elim
      (λ (l : Lacked c start m.at key). inl (lacked_later c start m.at now key m.before l))
      (λ (k : Ranked c m.at key rank). inr (ap rank_of note ∙ (ap (λ (p : ObjectId). rank_of (record_of m.at p)) (one_key (record_of m.at) (chain_in c m.at) o k.object (maps.falls m.at c run_at) m.has k.has (ap key_of (sym note) ∙ (key_is ∙ sym k.key_is))) ∙ k.rank_is)))
      (ranked_later start m.at key rank m.after run_at r)

  -- at the first object
  pub past_first : (start : Log) (o : ObjectId) (key : ℕ) → IsLiveRun qsbr allows start → first_of (chain_in c start) ≡ Some o → key_of (record_of start o) ≢ key → Past c start start key (rank_of (record_of start o))
  past_first start o key run first other = ⊎_elim
      (λ (f : Found (record_of start) (chain_in c start) key). ⊎_elim
      (λ (same : o ≡ f.object). absurd (other (ap (λ (p : ObjectId). key_of (record_of start p)) same ∙ f.is)))
      (λ (low : rank_of (record_of start f.object) < rank_of (record_of start o)). inr (rank_of (record_of start f.object), record { object = f.object; has = f.has; key_is = f.is; rank_is = refl }, low))
      (first_above (record_of start) (chain_in c start) o f.object (maps.falls start c run) first f.has))
      (λ (none : (p : ObjectId) → In (chain_in c start) p → key_of (record_of start p) ≢ key). inl (record { at = start; after = ([], refl); before = ([], refl); is = value_absent (record_of start) (chain_in c start) key none }))
      (find_key (record_of start) (chain_in c start) key)

  module _ (start now : Log) (key : ℕ) (o : ObjectId) (run : IsLiveRun qsbr allows now) (met : Met c start now o) (past : Past c start now key (rank_of (record_of now o))) where
    -- the key was absent, or stood below the object when this followed it
    below : (found : Option ObjectId) → (f : Follower c start now o found) → Lacked c start now key ⊎ ((r : ℕ) × Ranked c start key r × ((k : Ranked c f.at key r) × (rank_of (record_of f.at k.object) < rank_of (record_of f.at o))))
    below found f = ⊎_elim
        (λ (l : Lacked c start now key). inl l)
        (λ (b : (r : ℕ) × Ranked c start key r × (r < rank_of (record_of now o))). ⊎_elim
        (λ (l : Lacked c start f.at key). inl (lacked_later c start f.at now key f.before l))
        (λ (k : Ranked c f.at key b.0). inr (b.0, b.1, (k, let here : rank_of (record_of now o) ≡ rank_of (record_of f.at o) = ap rank_of (note_at f.at now o f.before run f.has) in let is = k.rank_is in let low = b.2 in omega arith)))
        (ranked_later start f.at key b.0 f.after (run_of qsbr allows f.at now f.before run) b.1))
        past

    -- what comes next
    pub reaches : (p : ObjectId) → Follows (objects_of now) o (Some p) → Reaches c start now key (rank_of (record_of now o)) p
    reaches p follows =
        let f = follower start now o (Some p) run met follows in
        let run_at = run_of qsbr allows f.at now f.before run in
        let b = next_below (record_of f.at) (chain_in c f.at) o p (maps.falls f.at c run_at) f.has f.next in
        let here : rank_of (record_of now o) ≡ rank_of (record_of f.at o) = ap rank_of (note_at f.at now o f.before run f.has) in
        let there : record_of now p ≡ record_of f.at p = note_at f.at now p f.before run b.has in
        let rank : rank_of (record_of now p) ≡ rank_of (record_of f.at p) = ap rank_of there in
        let lower = b.lower in
        record {
          met = record { at = f.at; after = f.after; before = f.before; has = b.has };
          lower = omega arith;
          past = λ other. ⊎_elim
              (λ (l : Lacked c start now key). inl l)
              (λ (s : (r : ℕ) × Ranked c start key r × ((k : Ranked c f.at key r) × (rank_of (record_of f.at k.object) < rank_of (record_of f.at o)))). ⊎_elim
              (λ (same : p ≡ s.2.0.object). absurd (other (ap key_of there ∙ (ap (λ (q : ObjectId). key_of (record_of f.at q)) same ∙ s.2.0.key_is))))
              (λ (low : rank_of (record_of f.at s.2.0.object) < rank_of (record_of f.at p)). inr (s.0, s.1, let is = s.2.0.rank_is in omega arith))
              (b.others s.2.0.object s.2.0.has s.2.1))
              (below (Some p) f);
        }

    -- nothing does
    pub ends : Follows (objects_of now) o None → Lacked c start now key
    ends follows =
        let f = follower start now o None run met follows in
        ⊎_elim
        (λ (l : Lacked c start now key). l)
        (λ (s : (r : ℕ) × Ranked c start key r × ((k : Ranked c f.at key r) × (rank_of (record_of f.at k.object) < rank_of (record_of f.at o)))).
        absurd (last_below (record_of f.at) (chain_in c f.at) o s.2.0.object (maps.falls f.at c (run_of qsbr allows f.at now f.before run)) f.has f.next s.2.0.has s.2.1))
        (below None f)

  -- the key was met
  pub meets : (start now : Log) (key value : ℕ) (o : ObjectId) → IsLiveRun qsbr allows now → Met c start now o → key_of (record_of now o) ≡ key → value_of (record_of now o) ≡ value → AnswersBetween start start now c key (Some value)
  meets start now key value o run m key_is value_is = let note = note_at m.at now o m.before run m.has in record {
    at = m.at;
    after_seen = m.after;
    after_heard = m.after;
    before = m.before;
    is = value_at (record_of m.at) (chain_in c m.at) o key (maps.falls m.at c (run_of qsbr allows m.at now m.before run)) m.has (ap key_of (sym note) ∙ key_is) ∙ ap Some (ap value_of (sym note) ∙ value_is);
  }

  pub misses : (start now : Log) (key : ℕ) → Lacked c start now key → AnswersBetween start start now c key None
  misses start now key l = record { at = l.at; after_seen = l.after; after_heard = l.after; before = l.before; is = l.is }

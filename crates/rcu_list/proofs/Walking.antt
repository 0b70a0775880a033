-- A walk through a whole list meets each key that is there all along exactly once.
use Rattle.rcu_list.proofs.Cited.{◌≡◌, ◌≢◌, ◌⊎◌, ◌≤◌, ◌<◌, ℕ, ◌+◌, ◌==◌, if◌then◌else◌, Bool, true, false, List, [], ◌∷◌, ◌++◌, Some, None, refl, sym, ap, ◌∙◌, subst, inl, inr, ⊎_elim, arith, eq-eqb, ne_eqb, dite, ℕ_discrete, ObjectId, In, first_of, first_has, in_append, LiveEvent, key_of, rank_of, Log, Begins, Follows, IsLiveRun, record_of, objects_of, state_of, HasMaps}
use Rattle.rcu_list.specs.Maps.{AnswersBetween, value_of}
use Rattle.rcu_list.specs.Walks.{GoesThrough, times}
use Rattle.rcu_list.proofs.Looking.{answers_later}
use Rattle.rcu_list.proofs.Windows.{Lacked, Met, Past, Ranked, advances, ends, lacked_later, meets, met_rank, misses, past_first, past_later, reaches}

if_more : (b : Bool) (m n : ℕ) → m ≡ n + 1 → (if b then m + 1 else m) ≡ (if b then n + 1 else n) + 1
if_more true m n e = ap (λ (k : ℕ). k + 1) e
if_more false m n e = e

pub times_same : (key value : ℕ) (met : List (ℕ × ℕ)) → times key (met ++ (key, value) ∷ []) ≡ times key met + 1
times_same key value [] = ap (λ (b : Bool). if b then 0 + 1 else 0) (eq-eqb key key refl)
times_same key value (e ∷ es) = if_more (e.0 == key) (times key (es ++ (key, value) ∷ [])) (times key es) (times_same key value es)

pub times_other : (key k value : ℕ) (met : List (ℕ × ℕ)) → k ≢ key → times key (met ++ (k, value) ∷ []) ≡ times key met
times_other key k value [] other = ap (λ (b : Bool). if b then 0 + 1 else 0) (ne_eqb k key other)
times_other key k value (e ∷ es) other = ap (λ (n : ℕ). if e.0 == key then n + 1 else n) (times_other key k value es other)

-- an entry of a longer list
entry_of : (met : List (ℕ × ℕ)) (k v key value : ℕ) → In (met ++ (k, v) ∷ []) (key, value) → In met (key, value) ⊎ ((k ≡ key) × (v ≡ value))
entry_of met k v key value h = ⊎_elim
    (λ (l : In met (key, value)). inl l)
    (λ (r : In ((k, v) ∷ []) (key, value)). ⊎_elim (λ (e : (k, v) ≡ (key, value)). inr (ap (λ (x : ℕ × ℕ). x.0) e, ap (λ (x : ℕ × ℕ). x.1) e)) (λ (n : In {X = ℕ × ℕ} [] (key, value)). absurd n) r)
    (in_append met ((k, v) ∷ []) (key, value) h)

module _ (qsbr : Bool) (allows : Log → LiveEvent → Type 0) (maps : HasMaps qsbr allows) (wanted : ℕ → Type 0) (c : ℕ) (start : Log) where
  -- the key was absent at some moment, or when the walk began it had no rank below this one
  abbrev Gone : Log → ℕ → ℕ → Type 0
  Gone now key rank = Lacked c start now key ⊎ ((r : ℕ) × Ranked c start key r × (rank ≤ r))

  -- what was met up to an object with this rank
  pub record Passes (now : Log) (rank : ℕ) (met : List (ℕ × ℕ)) : Type 0 where
    pub is_wanted : (key value : ℕ) → In met (key, value) → wanted key
    pub had : (key value : ℕ) → In met (key, value) → AnswersBetween start start now c key (Some value)
    pub never : (key : ℕ) → wanted key → times key met ≡ 0 → Past c start now key rank
    pub once : (key : ℕ) → times key met ≡ 1 → Gone now key rank
    pub again : (key : ℕ) → 2 ≤ times key met → Lacked c start now key

  gone_later : (now later : Log) (key rank : ℕ) → Begins now later → Gone now key rank → Gone later key rank
  gone_later now later key rank b (inl l) = inl (lacked_later c start now later key b l)
  gone_later now later key rank b (inr r) = inr r

  gone_lower : (now : Log) (key rank low : ℕ) → low < rank → Gone now key rank → Gone now key low
  gone_lower now key rank low less (inl l) = inl l
  gone_lower now key rank low less (inr r) = inr (r.0, r.1, let above = r.2 in omega arith)

  pub passes_later : (now later : Log) (rank : ℕ) (met : List (ℕ × ℕ)) → Begins now later → Passes now rank met → Passes later rank met
  passes_later now later rank met b p = record {
    is_wanted = p.is_wanted;
    had = λ key value h. answers_later start now later c key (Some value) b (p.had key value h);
    never = λ key w n. past_later c start now later key rank b (p.never key w n);
    once = λ key n. gone_later now later key rank b (p.once key n);
    again = λ key n. lacked_later c start now later key b (p.again key n);
  }

  -- the walk ended, behind all that is there
  through : (now : Log) (rank : ℕ) (met : List (ℕ × ℕ)) → Passes now rank met → ((key : ℕ) → Past c start now key rank → Lacked c start now key) → GoesThrough wanted start start now c met
  through now rank met p end = record {
    is_wanted = p.is_wanted;
    had = p.had;
    lacked = λ key w other. misses qsbr allows maps c start now key (dite (ℕ_discrete (times key met) 0)
        (λ none. end key (p.never key w none))
        (λ some. p.again key (omega arith)));
  }

  module _ (now : Log) (run : IsLiveRun qsbr allows now) where
    pub passes_end : (o : ObjectId) (met : List (ℕ × ℕ)) → Met c start now o → Passes now (rank_of (record_of now o)) met → Follows (objects_of now) o None → GoesThrough wanted start start now c met
    passes_end o met m p none = through now (rank_of (record_of now o)) met p (λ key past. ends qsbr allows maps c start now key o run m past none)

    -- nothing has a rank below 0
    pub passes_last : (met : List (ℕ × ℕ)) → Passes now 0 met → GoesThrough wanted start start now c met
    passes_last met p = through now 0 met p (λ key past. ⊎_elim (λ (l : Lacked c start now key). l) (λ (r : (r : ℕ) × Ranked c start key r × (r < 0)). let low = r.2 in absurd (omega arith)) past)

    -- from an object to the one behind it
    module _ (o p : ObjectId) (met : List (ℕ × ℕ)) (m : Met c start now o) (before : Passes now (rank_of (record_of now o)) met) (next : Follows (objects_of now) o (Some p)) where
      on : Met c start now p × (rank_of (record_of now p) < rank_of (record_of now o))
      on = advances qsbr allows maps c start now o p run m next

      low : rank_of (record_of now p) < rank_of (record_of now o)
      low = on.1

      -- of a key that p does not have
      past_other : (key : ℕ) → key_of (record_of now p) ≢ key → Past c start now key (rank_of (record_of now o)) → Past c start now key (rank_of (record_of now p))
      past_other key other past = (reaches qsbr allows maps c start now key o run m past p next).past other

      -- of the key that p has
      rank_there : (key r : ℕ) → key_of (record_of now p) ≡ key → Ranked c start key r → Lacked c start now key ⊎ (rank_of (record_of now p) ≡ r)
      rank_there key r is ranked = met_rank qsbr allows maps c start now key r p run ranked on.0 is

      pub passes_by : ¬ wanted (key_of (record_of now p)) → Passes now (rank_of (record_of now p)) met
      passes_by unwanted = record {
        is_wanted = before.is_wanted;
        had = before.had;
        never = λ key w n. past_other key (λ is. unwanted (subst wanted (sym is) w)) (before.never key w n);
        once = λ key n. gone_lower now key (rank_of (record_of now o)) (rank_of (record_of now p)) low (before.once key n);
        again = before.again;
      }

      module _ (key value : ℕ) (want : wanted key) (key_is : key_of (record_of now p) ≡ key) (value_is : value_of (record_of now p) ≡ value) where
        abbrev longer : List (ℕ × ℕ)
        longer = met ++ (key, value) ∷ []

        once_here : times key met ≡ 0 → Gone now key (rank_of (record_of now p))
        once_here none = ⊎_elim
            (λ (l : Lacked c start now key). inl l)
            (λ (s : (r : ℕ) × Ranked c start key r × (r < rank_of (record_of now o))). ⊎_elim
            (λ (l : Lacked c start now key). inl l)
            (λ (is : rank_of (record_of now p) ≡ s.0). inr (s.0, s.1, omega arith))
            (rank_there key s.0 key_is s.1))
            (before.never key want none)

        again_here : times key met ≡ 1 → Lacked c start now key
        again_here one = ⊎_elim
            (λ (l : Lacked c start now key). l)
            (λ (s : (r : ℕ) × Ranked c start key r × (rank_of (record_of now o) ≤ r)). ⊎_elim
            (λ (l : Lacked c start now key). l)
            (λ (is : rank_of (record_of now p) ≡ s.0). let above = s.2 in let lower = low in absurd (omega arith))
            (rank_there key s.0 key_is s.1))
            (before.once key one)

        pub passes_next : Passes now (rank_of (record_of now p)) longer
        passes_next = record {
          is_wanted = λ k v h. ⊎_elim (λ (l : In met (k, v)). before.is_wanted k v l) (λ (e : (key ≡ k) × (value ≡ v)). subst wanted e.0 want) (entry_of met key value k v h);
          had = λ k v h. ⊎_elim
              (λ (l : In met (k, v)). before.had k v l)
              (λ (e : (key ≡ k) × (value ≡ v)). meets qsbr allows maps c start now k v p run on.0 (key_is ∙ e.0) (value_is ∙ e.1))
              (entry_of met key value k v h);
          never = λ k w n. dite (ℕ_discrete key k)
              (λ is. let more = times_same key value met in let same : times k longer ≡ times key longer = ap (λ (j : ℕ). times j longer) (sym is) in absurd (omega arith))
              (λ other. past_other k (λ e. other (sym key_is ∙ e)) (before.never k w (sym (times_other k key value met other) ∙ n)));
          once = λ k n. dite (ℕ_discrete key k)
              (λ is. let more = times_same key value met in let same : times k longer ≡ times key longer = ap (λ (j : ℕ). times j longer) (sym is) in
              subst (λ (j : ℕ). Gone now j (rank_of (record_of now p))) is (once_here (omega arith)))
              (λ other. gone_lower now k (rank_of (record_of now o)) (rank_of (record_of now p)) low (before.once k (sym (times_other k key value met other) ∙ n)));
          again = λ k n. dite (ℕ_discrete key k)
              (λ is. let more = times_same key value met in let same : times k longer ≡ times key longer = ap (λ (j : ℕ). times j longer) (sym is) in
              subst (λ (j : ℕ). Lacked c start now j) is (dite (ℕ_discrete (times key met) 1) (λ one. again_here one) (λ more_yet. before.again key (omega arith))))
              (λ other. let same = times_other k key value met other in before.again k (omega arith));
        }

  -- at the first object
  module _ (run : IsLiveRun qsbr allows start) (o : ObjectId) (first : first_of ((state_of start).chain c) ≡ Some o) where
    abbrev here : Met c start start o
    here = record { at = start; after = ([], refl); before = ([], refl); has = first_has ((state_of start).chain c) o first }

    pub first_by : ¬ wanted (key_of (record_of start o)) → Passes start (rank_of (record_of start o)) []
    first_by unwanted = record {
      is_wanted = λ key value h. absurd h;
      had = λ key value h. absurd h;
      never = λ key w n. past_first qsbr allows maps c start o key run first (λ is. unwanted (subst wanted (sym is) w));
      once = λ key n. absurd (omega arith);
      again = λ key n. absurd (omega arith);
    }

    pub first_met : (key value : ℕ) → wanted key → key_of (record_of start o) ≡ key → value_of (record_of start o) ≡ value → Passes start (rank_of (record_of start o)) ((key, value) ∷ [])
    first_met key value want key_is value_is = record {
      is_wanted = λ k v h. ⊎_elim (λ (l : In {X = ℕ × ℕ} [] (k, v)). absurd l) (λ (e : (key ≡ k) × (value ≡ v)). subst wanted e.0 want) (entry_of [] key value k v h);
      had = λ k v h. ⊎_elim
          (λ (l : In {X = ℕ × ℕ} [] (k, v)). absurd l)
          (λ (e : (key ≡ k) × (value ≡ v)). meets qsbr allows maps c start start k v o run here (key_is ∙ e.0) (value_is ∙ e.1))
          (entry_of [] key value k v h);
      never = λ k w n. dite (ℕ_discrete key k)
          (λ is. let more = times_same key value [] in let same : times k ((key, value) ∷ []) ≡ times key ((key, value) ∷ []) = ap (λ (j : ℕ). times j ((key, value) ∷ [])) (sym is) in absurd (omega arith))
          (λ other. past_first qsbr allows maps c start o k run first (λ e. other (sym key_is ∙ e)));
      once = λ k n. dite (ℕ_discrete key k)
          (λ is. inr (rank_of (record_of start o), record { object = o; has = here.has; key_is = key_is ∙ is; rank_is = refl }, omega arith))
          (λ other. let none = times_other k key value [] other in absurd (omega arith));
      again = λ k n. dite (ℕ_discrete key k)
          (λ is. let more = times_same key value [] in let same : times k ((key, value) ∷ []) ≡ times key ((key, value) ∷ []) = ap (λ (j : ℕ). times j ((key, value) ∷ [])) (sym is) in absurd (omega arith))
          (λ other. let none = times_other k key value [] other in absurd (omega arith));
    }

-- Where a reader stands in a walk through a whole list.
use Rattle.gp_memb.specs.declared.plan.GracePlan as plan
use Rattle.rcu_list.proofs.Cited.{◌≡◌, ◌<◌, ℕ, Bool, List, [], ◌∷◌, ◌++◌, Some, None, refl, sym, ap, subst, arith, ObjectId, first_of, first_has, LiveEvent, key_of, rank_of, Log, Begins, IsLiveRun, record_of, state_of, HasMaps, begins_trans, run_of, ReaderCore, MayHold, log_of, FindsFirst, FindsNext, Looks, looks_twice}
use Rattle.rcu_list.specs.Maps.{value_of}
use Rattle.rcu_list.specs.Walks.{GoesThrough}
use Rattle.rcu_list.proofs.Values.{empty_map}
use Rattle.rcu_list.proofs.Walking.{Passes, first_by, first_met, passes_by, passes_end, passes_last, passes_later, passes_next}
use Rattle.rcu_list.proofs.Windows.{Met, advances, met_later}

-- a walk through the keys that are wanted, which began at what this reader had seen
module _ {P K : Type 0} {g : plan.Ghosts P} (qsbr : Bool) (allows : Log → LiveEvent → Type 0) (maps : HasMaps qsbr allows) (wanted : ℕ → Type 0) (c : ℕ) (start : ReaderCore P K g) where
  abbrev Passed : ReaderCore P K g → ℕ → List (ℕ × ℕ) → Type 0
  Passed r rank met = Passes qsbr allows maps wanted c (log_of start) (log_of r) rank met

  -- the reader is at an object that the walk came to, and has met these keys
  pub record GoesAt (r : ReaderCore P K g) (o : ObjectId) (cell : ℕ) (met : List (ℕ × ℕ)) : Type 0 where
    pub looked : Looks qsbr allows start r
    pub holds : MayHold r o cell
    pub was : Met c (log_of start) (log_of r) o
    pub passed : Passed r (rank_of (record_of (log_of r) o)) met

  -- after a load
  pub goes_on : (r s : ReaderCore P K g) (o : ObjectId) (cell : ℕ) (met : List (ℕ × ℕ)) → GoesAt r o cell met → Looks qsbr allows r s → GoesAt s o cell met
  goes_on r s o cell met at l = record {
    looked = looks_twice qsbr allows start r s at.looked l;
    holds = l.keeps.held o cell at.holds;
    was = met_later c (log_of start) (log_of r) (log_of s) o l.later.after_seen at.was;
    passed = subst (λ (x : ℕ × List ℕ). Passed s (rank_of x) met) (sym (l.keeps.notes o cell at.holds))
        (passes_later qsbr allows maps wanted c (log_of start) (log_of r) (log_of s) (rank_of (record_of (log_of r) o)) met l.later.after_seen at.passed);
  }

  -- at the first object, with this key and value
  module _ (s : ReaderCore P K g) (o : ObjectId) (cell : ℕ) (l : Looks qsbr allows start s) (first : FindsFirst start c (Some o)) (held : MayHold start o cell) (key value : ℕ) (key_is : key_of (record_of (log_of start) o) ≡ key) (value_is : value_of (record_of (log_of start) o) ≡ value) where
    run : IsLiveRun qsbr allows (log_of start)
    run = run_of qsbr allows (log_of start) (log_of s) l.later.after_seen l.later.run

    begun : (met : List (ℕ × ℕ)) → Passed start (rank_of (record_of (log_of start) o)) met → GoesAt s o cell met
    begun met p = record {
      looked = l;
      holds = l.keeps.held o cell held;
      was = record { at = log_of start; after = ([], refl); before = l.later.after_seen; has = first_has ((state_of (log_of start)).chain c) o first };
      passed = subst (λ (x : ℕ × List ℕ). Passed s (rank_of x) met) (sym (l.keeps.notes o cell held))
          (passes_later qsbr allows maps wanted c (log_of start) (log_of start) (log_of s) (rank_of (record_of (log_of start) o)) met l.later.after_seen p);
    }

    pub goes_first : wanted key → GoesAt s o cell ((key, value) ∷ [])
    goes_first want = begun ((key, value) ∷ []) (first_met qsbr allows maps wanted c (log_of start) run o first key value want key_is value_is)

    pub goes_first_by : ¬ wanted key → GoesAt s o cell []
    goes_first_by unwanted = begun [] (first_by qsbr allows maps wanted c (log_of start) run o first (λ w. unwanted (subst wanted key_is w)))

  module _ (r s : ReaderCore P K g) (o : ObjectId) (cell : ℕ) (met : List (ℕ × ℕ)) (at : GoesAt r o cell met) (l : Looks qsbr allows r s) where
    here : GoesAt s o cell met
    here = goes_on r s o cell met at l

    -- nothing follows
    pub goes_none : FindsNext s o None → GoesThrough wanted (log_of start) (log_of start) (log_of s) c met
    goes_none next = passes_end qsbr allows maps wanted c (log_of start) (log_of s) here.looked.later.run o met here.was here.passed next

    -- what follows has this key and value
    module _ (p : ObjectId) (next : FindsNext s o (Some p)) (t : ReaderCore P K g) (cell' : ℕ) (held : MayHold s p cell') (m : Looks qsbr allows s t) (key value : ℕ) (key_is : key_of (record_of (log_of s) p) ≡ key) (value_is : value_of (record_of (log_of s) p) ≡ value) where
      came : (met' : List (ℕ × ℕ)) → Passed s (rank_of (record_of (log_of s) p)) met' → GoesAt t p cell' met'
      came met' q = goes_on s t p cell' met' (record { looked = here.looked; holds = held; was = (advances qsbr allows maps c (log_of start) (log_of s) o p here.looked.later.run here.was next).0; passed = q }) m

      pub goes_next : wanted key → GoesAt t p cell' (met ++ (key, value) ∷ [])
      goes_next want = came (met ++ (key, value) ∷ []) (passes_next qsbr allows maps wanted c (log_of start) (log_of s) here.looked.later.run o p met here.was here.passed next key value want key_is value_is)

      pub goes_by : ¬ wanted key → GoesAt t p cell' met
      goes_by unwanted = came met (passes_by qsbr allows maps wanted c (log_of start) (log_of s) here.looked.later.run o p met here.was here.passed next (λ w. unwanted (subst wanted key_is w)))

      pub goes_lower : rank_of (record_of (log_of t) p) < rank_of (record_of (log_of r) o)
      goes_lower =
          let lower = (advances qsbr allows maps c (log_of start) (log_of s) o p here.looked.later.run here.was next).1 in
          let a : rank_of (record_of (log_of t) p) ≡ rank_of (record_of (log_of s) p) = ap rank_of (m.keeps.notes p cell' held) in
          let b : rank_of (record_of (log_of s) o) ≡ rank_of (record_of (log_of r) o) = ap rank_of (l.keeps.notes o cell at.holds) in omega arith

  -- nothing has a rank below 0
  pub goes_last : (r : ReaderCore P K g) (o : ObjectId) (cell : ℕ) (met : List (ℕ × ℕ)) → GoesAt r o cell met → rank_of (record_of (log_of r) o) ≡ 0 → GoesThrough wanted (log_of start) (log_of start) (log_of r) c met
  goes_last r o cell met at low = passes_last qsbr allows maps wanted c (log_of start) (log_of r) at.looked.later.run met (subst (λ (n : ℕ). Passed r n met) low at.passed)

-- a walk that began at a later log
module _ (wanted : ℕ → Type 0) (seen heard : Log) where
  pub began_before : (start now : Log) (c : ℕ) (met : List (ℕ × ℕ)) → Begins seen start → Begins heard start → GoesThrough wanted start start now c met → GoesThrough wanted seen heard now c met
  began_before start now c met saw heard_of w = record {
    is_wanted = w.is_wanted;
    had = λ key value h. let a = w.had key value h in record { at = a.at; after_seen = begins_trans seen start a.at saw a.after_seen; after_heard = begins_trans heard start a.at heard_of a.after_seen; before = a.before; is = a.is };
    lacked = λ key want n. let a = w.lacked key want n in record { at = a.at; after_seen = begins_trans seen start a.at saw a.after_seen; after_heard = begins_trans heard start a.at heard_of a.after_seen; before = a.before; is = a.is };
  }

  -- where no object is linked, none is met
  pub nothing_there : (at : Log) (c : ℕ) → Begins seen at → Begins heard at → first_of ((state_of at).chain c) ≡ None → GoesThrough wanted seen heard at c []
  nothing_there at c saw heard_of none = record {
    is_wanted = λ key value h. absurd h;
    had = λ key value h. absurd h;
    lacked = λ key want n. record { at = at; after_seen = saw; after_heard = heard_of; before = ([], refl); is = empty_map (record_of at) ((state_of at).chain c) key none };
  }

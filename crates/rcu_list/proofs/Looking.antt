-- Where a reader stands in a lookup along a keyed chain.
use Rattle.gp_memb.specs.declared.plan.GracePlan as plan
use Rattle.rcu_list.proofs.Cited.{◌≡◌, ◌≢◌, ℕ, ◌<◌, Bool, List, [], Option, Some, None, refl, sym, ap, subst, arith, ObjectId, first_has, key_of, rank_of, Log, Begins, record_of, objects_of, begins_trans, run_of, ReaderCore, MayHold, log_of, FindsFirst, FindsNext, Looks, looks_twice, LiveEvent, HasMaps}
use Rattle.rcu_list.specs.Maps.{AnswersBetween, value_of}
use Rattle.rcu_list.proofs.Windows.{Met, Past, Reaches, ends, meets, met_later, misses, past_first, past_later, reaches}

-- the window may end later
pub answers_later : (start now later : Log) (c key : ℕ) (answer : Option ℕ) → Begins now later → AnswersBetween start start now c key answer → AnswersBetween start start later c key answer
answers_later start now later c key answer b a = record { at = a.at; after_seen = a.after_seen; after_heard = a.after_heard; before = begins_trans a.at now later a.before b; is = a.is }

-- a lookup of a key, which began at what this reader had seen
module _ {P K : Type 0} {g : plan.Ghosts P} (qsbr : Bool) (allows : Log → LiveEvent → Type 0) (c key : ℕ) (start : ReaderCore P K g) where
  -- the reader is at an object that the lookup met, and the key is not before it
  pub record StandsAt (r : ReaderCore P K g) (o : ObjectId) (cell : ℕ) : Type 0 where
    pub looked : Looks qsbr allows start r
    pub holds : MayHold r o cell
    pub met : Met c (log_of start) (log_of r) o
    pub past : Past c (log_of start) (log_of r) key (rank_of (record_of (log_of r) o))

  abbrev Answers : ReaderCore P K g → Option ℕ → Type 0
  Answers r answer = AnswersBetween (log_of start) (log_of start) (log_of r) c key answer

  -- after a load
  pub stands_on : (r s : ReaderCore P K g) (o : ObjectId) (cell : ℕ) → StandsAt r o cell → Looks qsbr allows r s → StandsAt s o cell
  stands_on r s o cell at l = record {
    looked = looks_twice qsbr allows start r s at.looked l;
    holds = l.keeps.held o cell at.holds;
    met = met_later c (log_of start) (log_of r) (log_of s) o l.later.after_seen at.met;
    past = subst (λ (x : ℕ × List ℕ). Past c (log_of start) (log_of s) key (rank_of x)) (sym (l.keeps.notes o cell at.holds)) (past_later c (log_of start) (log_of r) (log_of s) key (rank_of (record_of (log_of r) o)) l.later.after_seen at.past);
  }

  module _ (maps : HasMaps qsbr allows) where
    -- at the first object, which has another key
    pub stands_first : (s : ReaderCore P K g) (o : ObjectId) (cell : ℕ) → Looks qsbr allows start s → FindsFirst start c (Some o) → MayHold start o cell → key_of (record_of (log_of start) o) ≢ key → StandsAt s o cell
    stands_first s o cell l first held other = record {
      looked = l;
      holds = l.keeps.held o cell held;
      met = record { at = log_of start; after = ([], refl); before = l.later.after_seen; has = first_has ((objects_of (log_of start)).chain c) o first };
      past = subst (λ (x : ℕ × List ℕ). Past c (log_of start) (log_of s) key (rank_of x)) (sym (l.keeps.notes o cell held))
          (past_later c (log_of start) (log_of start) (log_of s) key (rank_of (record_of (log_of start) o)) l.later.after_seen
          (past_first qsbr allows maps c (log_of start) o key (run_of qsbr allows (log_of start) (log_of s) l.later.after_seen l.later.run) first other));
    }

    -- the first object has the key
    pub answers_first : (s : ReaderCore P K g) (o : ObjectId) (value : ℕ) → Looks qsbr allows start s → FindsFirst start c (Some o) → key_of (record_of (log_of start) o) ≡ key → value_of (record_of (log_of start) o) ≡ value → Answers s (Some value)
    answers_first s o value l first is has = answers_later (log_of start) (log_of start) (log_of s) c key (Some value) l.later.after_seen
        (meets qsbr allows maps c (log_of start) (log_of start) key value o (run_of qsbr allows (log_of start) (log_of s) l.later.after_seen l.later.run)
        (record { at = log_of start; after = ([], refl); before = ([], refl); has = first_has ((objects_of (log_of start)).chain c) o first }) is has)

    module _ (r s : ReaderCore P K g) (o : ObjectId) (cell : ℕ) (at : StandsAt r o cell) (l : Looks qsbr allows r s) where
      here : StandsAt s o cell
      here = stands_on r s o cell at l

      -- nothing follows
      pub answers_none : FindsNext s o None → Answers s None
      answers_none next = misses qsbr allows maps c (log_of start) (log_of s) key (ends qsbr allows maps c (log_of start) (log_of s) key o here.looked.later.run here.met here.past next)

      module _ (p : ObjectId) (next : FindsNext s o (Some p)) where
        reached : Reaches c (log_of start) (log_of s) key (rank_of (record_of (log_of s) o)) p
        reached = reaches qsbr allows maps c (log_of start) (log_of s) key o here.looked.later.run here.met here.past p next

        -- what follows has the key
        pub answers_next : (t : ReaderCore P K g) (value : ℕ) → Looks qsbr allows s t → key_of (record_of (log_of s) p) ≡ key → value_of (record_of (log_of s) p) ≡ value → Answers t (Some value)
        answers_next t value m is has = answers_later (log_of start) (log_of s) (log_of t) c key (Some value) m.later.after_seen
            (meets qsbr allows maps c (log_of start) (log_of s) key value p here.looked.later.run reached.met is has)

        -- it has another key, and a lower rank
        pub stands_next : (t : ReaderCore P K g) (cell' : ℕ) → MayHold s p cell' → Looks qsbr allows s t → key_of (record_of (log_of s) p) ≢ key → StandsAt t p cell' × (rank_of (record_of (log_of t) p) < rank_of (record_of (log_of r) o))
        stands_next t cell' held m other = (
          stands_on s t p cell' (record { looked = here.looked; holds = held; met = reached.met; past = reached.past other }) m,
          let lower = reached.lower in
              let a : rank_of (record_of (log_of t) p) ≡ rank_of (record_of (log_of s) p) = ap rank_of (m.keeps.notes p cell' held) in
              let b : rank_of (record_of (log_of s) o) ≡ rank_of (record_of (log_of r) o) = ap rank_of (l.keeps.notes o cell at.holds) in omega arith,
        )

-- What a refused call of a list's writer tells, once its caller has heard of the log of the moment.
use Rattle.rcu_list.proofs.Cited.{◌≡◌, Bool, ℕ, List, ◌++◌, Option, IsSome, sym, ap, ◌∙◌, subst, inl, inr, Me, Refusal, LiveEvent, Log, state_of, HasMaps, begins_trans, ChainRight, Sizes, View, IsListed, own_in, IsLater, Went, IsAfter, OnlyHears, Ghosts, RefusesRetirement, HasLearned}
use Rattle.rcu_list.specs.Maps.{HasLastRank, map_of}
use Rattle.rcu_list.specs.Refusing.{FindsNoRecord, GivesBack, HearsOfCall, IsNotInserted, IsNotReplaced, IsRefusedBy, RefusesInsertion, RefusesSuccessor}
use Rattle.rcu_list.proofs.Changing.{same_map, same_rank}
use Rattle.rcu_list.proofs.Writing.{chain_known, stays_both}

-- a writer that looked, and then learned, has learned
pub looked_then_learned : {S : Type 0} (qsbr : Bool) (allows : Log → LiveEvent → Type 0) (m n w : Me S View) → Went qsbr allows m.0 m n → HasLearned n.0 w.0 → IsLater qsbr allows n.0 w.0 → HasLearned m.0 w.0 × IsLater qsbr allows m.0 w.0
looked_then_learned qsbr allows m n w went learned later = (
  (learned.0, learned.1 ∙ ap (λ (v : View). record v { seen = w.0.seen; heard = w.0.heard; loads = learned.0 ++ v.loads }) went.1, learned.2),
  (begins_trans m.0.seen n.0.seen w.0.seen went.2.0 later.0, begins_trans m.0.heard n.0.seen w.0.seen went.2.1 later.0, later.2),
)

-- what a writer of a chain of keys knows of its map stands in the log that it has learned of
module _ (qsbr : Bool) (allows : Log → LiveEvent → Type 0) (maps : HasMaps qsbr allows) (c : ℕ) (v w : View) (learned : HasLearned v w) (later : IsLater qsbr allows v w) (is : (own_in v.chains).chain ≡ c) (listed : IsListed v) (listed' : IsListed w) where
  same : w.chains ≡ v.chains
  same = ap (λ (u : View). u.chains) learned.1

  linked : (state_of w.seen).chain c ≡ (state_of v.seen).chain c
  linked = chain_known w c listed' (ap (λ (x : List ChainRight). (own_in x).chain) same ∙ is) ∙ (ap (λ (x : List ChainRight). (own_in x).objects) same ∙ sym (chain_known v c listed is))

  pub map_learned : (key : ℕ) → map_of w.seen c key ≡ map_of v.seen c key
  map_learned = same_map qsbr allows maps c v.seen w.seen later.0 later.2 linked

  pub rank_learned : HasLastRank v.seen c → HasLastRank w.seen c
  rank_learned = same_rank qsbr allows maps c v.seen w.seen later.0 later.2 linked

-- a call went from the first caller to the second, which then heard of more
module _ {W S : Type 0} (w : Ghosts W S) (qsbr : Bool) (allows : Log → LiveEvent → Type 0) (sizes : Sizes) (a b d : W) (e : Refusal) (only : OnlyHears w b d) (later : IsAfter qsbr allows (w.seen b) (w.heard b) (w.heard d)) where
  no_record_then : FindsNoRecord w qsbr allows sizes a b e → FindsNoRecord w qsbr allows sizes a d e
  no_record_then f = record {
    is = f.is;
    found = f.found;
    looks = only.0.1 ∙ f.looks;
    why = f.why;
    after = record {
      after_seen = begins_trans (w.seen a) (w.heard b) (w.heard d) f.after.after_seen later.after_heard;
      after_heard = begins_trans (w.heard a) (w.heard b) (w.heard d) f.after.after_heard later.after_heard;
      run = later.run;
    };
    same = (stays_both w a b d f.same.0 only.0.0, only.1 ∙ f.same.1);
  }

  pub gives_back_then : (queue : ℕ) → GivesBack w qsbr allows sizes a b e queue → GivesBack w qsbr allows sizes a d e queue
  gives_back_then queue g = record {
    found = g.found;
    closed = g.closed;
    cell = g.cell;
    number = g.number;
    took = g.took;
    looks = only.0.1 ∙ g.looks;
    at = g.at;
    told = g.told;
    within = (g.within.0, begins_trans g.at (w.heard b) (w.heard d) g.within.1 later.after_heard, later.run);
    why = g.why;
    load = g.load;
    loads = only.1 ∙ g.loads;
    same = stays_both w a b d g.same only.0.0;
  }

  pub refused_then : (queue : ℕ) → RefusesRetirement w qsbr allows sizes queue a b e → IsRefusedBy w qsbr allows sizes a d e queue
  refused_then queue r = record {
    closed = r.closed;
    looks = only.0.1 ∙ r.looked;
    at = w.heard b;
    told = r.told;
    within = (r.after, later.after_heard, later.run);
    why = r.why;
    same = (stays_both w a b d r.same.0 only.0.0, only.1 ∙ r.same.1);
  }

  pub hears_then : b ≡ a → HearsOfCall w qsbr allows sizes a d e
  hears_then is = subst (λ x. HearsOfCall w qsbr allows sizes x d e) is (later, only)

  -- by a log that the writer knew before, and what stands of it in the last one
  module _ (known : Log) (c key : ℕ) (stands : map_of (w.heard d) c key ≡ map_of known c key) where
    pub not_inserted : (HasLastRank known c → HasLastRank (w.heard d) c) → RefusesInsertion w qsbr allows sizes a b e known c key → IsNotInserted w qsbr allows sizes a d e c key
    not_inserted rank (inl (is, has, unmoved)) = inl (is, subst (λ (x : Option ℕ). IsSome x) (sym stands) has, hears_then unmoved)
    not_inserted rank (inr (none, inl (is, last, unmoved))) = inr (stands ∙ none, inl (is, rank last, hears_then unmoved))
    not_inserted rank (inr (none, inr f)) = inr (stands ∙ none, inr (no_record_then f))

    pub not_replaced : RefusesSuccessor w qsbr allows sizes a b e known c key → IsNotReplaced w qsbr allows sizes a d e c key
    not_replaced (inl (is, none, unmoved)) = inl (is, stands ∙ none, hears_then unmoved)
    not_replaced (inr (has, f)) = inr (subst (λ (x : Option ℕ). IsSome x) (sym stands) has, inl (no_record_then f))

-- What a map's tidyings did for a caller that calls again and again.
use Rattle.rcu.proofs.Cited.{Gv, RattleType, ◌≡◌, ◌++◌, ◌∷◌, ◌∙◌, Bool, List, [], Option, Some, IfSome, ℕ, ◌+◌, inl, inr, ⊎_elim, ap, map, refl, reverse, subst, sym, append_assoc, reverse-append, In, Refusal, Busy, FewJobs, Log, Begins, chain_note, tabled, begins_trans, Look, Sizes, IsAfter, MakesMany, Stays, Ghosts, IsNotGrown, HasLeft, TidyEnd, During, EndsTidying, FindsEnd, Follow, IsQueueAmong, IsRefused, LinksStill, StopsTidying, callbacks_in, changes_in, numbers_of, Each, more_made, none_made, callbacks_both, changes_both, follow_both, follow_weaker, during_since, freed_both, frees_both, only_free, FreesAll}
use Rattle.rcu.specs.Reclaiming.{moved_code}
use Rattle.rcu.specs.Resizing.{HearsMore, IsMapQueue, IsNotResized, IsNotTidied, IsResized, OnlyMoves}
use Rattle.rcu.proofs.Hearing.{still_after}

-- what is so of each of two lists is so of both together
each_both : {X : Type 0} (P : X → Type 0) (xs ys : List X) → Each P xs → Each P ys → Each P (xs ++ ys)
each_both P [] ys p q = q
each_both P (x ∷ xs) ys p q = (p.0, each_both P xs ys p.1 q)

-- and of each that is behind others
each_behind : {X : Type 0} (P : X → Type 0) (xs ys : List X) → Each P (xs ++ ys) → Each P ys
each_behind P [] ys p = p
each_behind P (x ∷ xs) ys p = each_behind P xs ys p.1

-- of numbered ones, one with this number is so
number_there : (is_so : ℕ × ℕ → Type 0) (cs : List (ℕ × ℕ)) (n : ℕ) → Each is_so cs → In (numbers_of cs) n → (p : ℕ × ℕ) × (p.0 ≡ n) × is_so p
number_there is_so [] n each here = absurd here
number_there is_so (p ∷ ps) n each here = ⊎_elim (λ is. (p, is, each.0)) (λ more. number_there is_so ps n each.1 more) here

-- each has the code of the one that they all are
each_code : {D : Type 0} (code : D → Gv) (m : D) (xs : List D) → Each (λ x. x ≡ m) xs → Each (λ c. c ≡ code m) (map code xs)
each_code code m [] p = tt
each_code code m (x ∷ xs) p = (ap code p.0, each_code code m xs p.1)

each_reversed : {X : Type 0} (P : X → Type 0) (xs : List X) → Each P xs → Each P (reverse xs)
each_reversed P [] p = tt
each_reversed P (x ∷ xs) p = subst (Each P) (sym (reverse-append (x ∷ []) xs)) (each_both P (reverse xs) (x ∷ []) (each_reversed P xs p.1) (p.0, tt))

-- a caller that hears more after one call and another hears more
pub hears_on : {W S : Type 0} (w : Ghosts W S) (a b c : W) → HearsMore w a b → HearsMore w b c → HearsMore w a c
hears_on w a b c p q = record {
  same = q.same ∙ p.same;
  later = begins_trans (w.heard a) (w.heard b) (w.heard c) p.later q.later;
  found = q.found ++ p.found;
  looks = q.looks ∙ ap (λ ls. q.found ++ ls) p.looks ∙ sym (append_assoc q.found p.found (w.looks a));
  loaded = q.loaded ++ p.loaded;
  loads = q.loads ∙ ap (λ ls. q.loaded ++ ls) p.loads ∙ sym (append_assoc q.loaded p.loaded (w.loads a));
}

-- by the sizes of the domain and the type of the deleter
module _ {W S : Type 0} (w : Ghosts W S) (qsbr : Bool) (sizes : Sizes) (d : ℕ) (R : RattleType) where
  -- nothing was done yet
  pub moves_none : (a : W) → OnlyMoves w qsbr sizes d R a a
  moves_none a = record {
    hears = record { same = refl; later = ([], refl); found = []; looks = refl; loaded = []; loads = refl };
    steps = [];
    follow = ([], refl);
    callbacks = tt;
    made = none_made w a a (refl, refl, λ h. h, refl);
    freed = λ c none. absurd none;
    kept = λ i. tt;
  }

  -- one thing was done after another
  pub moves_on : (a b c : W) → OnlyMoves w qsbr sizes d R a b → OnlyMoves w qsbr sizes d R b c → OnlyMoves w qsbr sizes d R a c
  unfolding hears_on
  moves_on a b c x y = record {
    hears = hears_on w a b c x.hears y.hears;
    steps = x.steps ++ y.steps;
    follow = follow_both qsbr tabled sizes d (w.seen a) (w.heard a) (w.heard b) (w.heard c) x.steps y.steps x.follow (subst (λ (s : Log). Follow qsbr tabled sizes d s (w.heard b) y.steps (w.heard c)) x.hears.same y.follow);
    callbacks = subst (Each (λ c. c ≡ moved_code R)) (sym (callbacks_both qsbr tabled sizes d (w.seen a) x.steps y.steps)) (each_both _ (callbacks_in x.steps) (callbacks_in y.steps) x.callbacks y.callbacks);
    made = subst (MakesMany w a c) (sym (changes_both qsbr tabled sizes d (w.seen a) x.steps y.steps)) (more_made w a b c (changes_in x.steps) (changes_in y.steps) x.made y.made);
    freed = freed_both qsbr tabled sizes d (w.seen a) x.steps y.steps x.hears.found y.hears.found x.freed y.freed;
    kept = frees_both sizes x.hears.found y.hears.found x.kept y.kept;
  }

  -- a tidying did only that, whatever came of it
  tidied_moves : {D : Type 0} (code : D → Gv) (m : D) (old new : W) (jobs left : List D) → code m ≡ moved_code R → Each (λ x. x ≡ m) jobs → EndsTidying w qsbr tabled old new sizes d code jobs left → Begins (w.heard old) (w.heard new) → OnlyMoves w qsbr sizes d R old new
  tidied_moves code m old new jobs left is all (inl t) later = let u = t.uses in let asked = begins_trans (w.heard old) t.ended.asked t.waited t.ended.after.after_heard t.ended.later in record {
    hears = record {
      same = u.made.made.0;
      later = later;
      found = u.found;
      looks = u.looks;
      loaded = t.ended.loads_since ++ t.ended.asked ∷ t.earlier;
      loads = t.ended.first_load ∙ sym (append_assoc t.ended.loads_since (t.ended.asked ∷ t.earlier) (w.loads old));
    };
    steps = u.steps;
    follow = follow_weaker qsbr tabled sizes d (w.seen old) (w.heard old) t.waited (w.heard new) u.steps asked u.follow;
    callbacks = subst (λ c. Each (λ x. x ≡ c) (callbacks_in u.steps)) is
        (subst (Each (λ x. x ≡ code m)) (sym u.callbacks) (each_code code m (reverse u.used) (each_reversed _ u.used (each_behind _ left u.used (subst (Each (λ x. x ≡ m)) u.are all)))));
    made = u.made;
    freed = u.freed;
    kept = only_free sizes u.found u.only;
  }
  tidied_moves code m old new jobs left is all (inr s) later = record {
    hears = record { same = s.1.0.0; later = later; found = []; looks = s.1.1; loaded = s.2.0; loads = s.2.1 };
    steps = [];
    follow = later;
    callbacks = tt;
    made = none_made w old new s.1.0;
    freed = λ c none. absurd none;
    kept = λ i. tt;
  }

  -- so did the calls before it and the tidying
  pub moves_tidied : {D : Type 0} (code : D → Gv) (m : D) (a old new : W) (jobs left : List D) → code m ≡ moved_code R → OnlyMoves w qsbr sizes d R a old → Each (λ x. x ≡ m) jobs → EndsTidying w qsbr tabled old new sizes d code jobs left → Begins (w.heard old) (w.heard new) → OnlyMoves w qsbr sizes d R a new
  moves_tidied code m a old new jobs left is x all end later = moves_on a old new x (tidied_moves code m old new jobs left is all end later)

module _ {W S : Type 0} (w : Ghosts W S) (qsbr : Bool) (sizes : Sizes) (d : ℕ) (R : RattleType) (a b c : W) (more : HearsMore w a b) where
  -- what was loaded after all that it knew later was loaded after all that it knew before
  end_since : FindsEnd w qsbr tabled b c → FindsEnd w qsbr tabled a c
  end_since (at, earlier, once, low, before, run) = (
    at,
    earlier ++ more.loaded,
    record {
      load = once.load ∙ ap (λ ls. at ∷ ls) (ap (λ ls. earlier ++ ls) more.loads ∙ sym (append_assoc earlier more.loaded (w.loads a)));
      after = still_after qsbr tabled (w.seen a) (w.heard a) (w.seen b) (w.heard b) at more.same more.later once.after;
    },
    low,
    before,
    run,
  )

  queue_since : (q : ℕ) → IsMapQueue w qsbr sizes d R b c q → IsMapQueue w qsbr sizes d R a c q
  queue_since q (inl own) = inl own
  queue_since q (inr (n, had, is)) = inr (n, during_since w qsbr tabled a b c (λ log. chain_note n log ≡ d + 1) more.same more.later had, is)

  refused_since : (e : Refusal) → IsRefused w c (IsMapQueue w qsbr sizes d R b c) e → IsRefused w c (IsMapQueue w qsbr sizes d R a c) e
  refused_since e (inl (is, (q, mine, closed))) = inl (is, (q, queue_since q mine, closed))
  refused_since e (inr memory) = inr memory

  pub untidied_since : (e : Refusal) → IsNotTidied w qsbr sizes d R b c e → IsNotTidied w qsbr sizes d R a c e
  untidied_since e (inl r) = inl (r.0, end_since r.1)
  untidied_since e (inr r) = inr (refused_since e r)

  -- the queue of a chain that is left is one of the map's
  map_queue : (chains : List (ℕ × ℕ)) (q : ℕ) → Each (λ p. During w qsbr tabled b c (LinksStill d p)) chains → IsQueueAmong sizes d (numbers_of chains) q → IsMapQueue w qsbr sizes d R b c q
  map_queue chains q still (inl own) = inl own
  map_queue chains q still (inr (n, there, is)) =
      let found = number_there _ chains n still there in let k = found.2 in
      inr (n, record { at = k.at; after = k.after; before = k.before; so = ap (λ (m : ℕ). chain_note m k.at) (sym (k.so.1 ∙ found.1)) ∙ k.so.0.noted }, is)

  -- where a tidying stopped that had callbacks enough, the map is not tidied
  pub untidied : {D : Type 0} (end : TidyEnd D) (e : Refusal) → ¬ (e ≡ FewJobs) → StopsTidying w qsbr tabled b c sizes d end e → IsNotTidied w qsbr sizes d R a c e
  untidied end e enough (some, (chains, counted, inl r)) = inl (r.0, end_since r.2)
  untidied end e enough (some, (chains, counted, inr (inl few))) = absurd (enough few.0)
  untidied end e enough (some, (chains, counted, inr (inr (inl (is, (q, among, closed)))))) = inr (inl (is, (q, queue_since q (map_queue chains q counted.still among), closed)))
  untidied end e enough (some, (chains, counted, inr (inr (inr memory)))) = inr (inr memory)

-- what is so of what is there
pub if_is : {A : Type 0} (r : Option A) (x : A) (P : A → Type 0) → r ≡ Some x → IfSome r P → P x
if_is r x P is h = subst (λ o. IfSome o P) is h

module _ {W S : Type 0} (w : Ghosts W S) (qsbr : Bool) (sizes : Sizes) (d : ℕ) (R : RattleType) where
  -- a growth that was refused did nothing
  pub refused_moves : (a b : W) → Stays w a b → Begins (w.heard a) (w.heard b) → (found : List Look) → (w.looks b ≡ found ++ w.looks a) → FreesAll sizes found → ((logs : List Log) × (w.loads b ≡ logs ++ w.loads a)) → OnlyMoves w qsbr sizes d R a b
  refused_moves a b stays later found looks frees logs = record {
    hears = record { same = stays.0; later = later; found = found; looks = looks; loaded = logs.0; loads = logs.1 };
    steps = [];
    follow = later;
    callbacks = tt;
    made = none_made w a b stays;
    freed = λ c none. absurd none;
    kept = frees;
  }

  -- it was refused for what an earlier one left
  busy_left : (was mid : W) (first buckets : ℕ) (e : Refusal) → e ≡ Busy → IsNotGrown w qsbr sizes was mid d first buckets e → HasLeft d (w.heard mid) × IsAfter qsbr tabled (w.seen was) (w.heard was) (w.heard mid)
  busy_left was mid first buckets e busy (inl r) = (r.1, r.2)
  busy_left was mid first buckets e busy (inr (t, inl r)) = let no = sym busy ∙ r.0 in absurd (cc)
  busy_left was mid first buckets e busy (inr (t, inr (fit, free, inl r))) = let no = sym busy ∙ r in absurd (cc)
  busy_left was mid first buckets e busy (inr (t, inr (fit, free, inr r))) = let no = sym busy ∙ r in absurd (cc)

  -- the last tidying of a map that is resized
  module _ (old was mid new : W) (first buckets : ℕ) (x : OnlyMoves w qsbr sizes d R old was) (z : OnlyMoves w qsbr sizes d R mid new) (e : Refusal) (untidy : IsNotTidied w qsbr sizes d R mid new e) where
    pub untidied_grown : IsResized w qsbr sizes d R old new first buckets → HearsMore w was mid → IsNotResized w qsbr sizes d R old new first buckets e
    untidied_grown resized more = inr (untidied_since w qsbr sizes d R old mid new (hears_on w old was mid x.hears more) e untidy, inl resized)

    pub untidied_busy : (why : Refusal) → why ≡ Busy → OnlyMoves w qsbr sizes d R was mid → IsNotGrown w qsbr sizes was mid d first buckets why → IsNotResized w qsbr sizes d R old new first buckets e
    untidied_busy why busy y r = let left = busy_left was mid first buckets why busy r in let to = moves_on w qsbr sizes d R old was mid x y in
        inr (
          untidied_since w qsbr sizes d R old mid new to.hears e untidy,
          inr (
            moves_on w qsbr sizes d R old mid new to z,
            record {
              at = w.heard mid;
              after = still_after qsbr tabled (w.seen old) (w.heard old) (w.seen was) (w.heard was) (w.heard mid) x.hears.same x.hears.later left.1;
              before = z.hears.later;
              so = left.0;
            },
          ),
        )

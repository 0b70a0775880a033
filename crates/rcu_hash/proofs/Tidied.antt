-- What is left of directories that were replaced.
use Rattle.rcu_hash.proofs.Cited.Words.{Bool, ◌≡◌, ◌≢◌, ℕ, ◌+◌, ◌≤◌, List, [], ◌∷◌, ◌++◌, length, refl, sym, ap, ◌∙◌, subst, inl, ⊎_elim, arith, zero, suc, length-append, ObjectId, In, replaced, at_number_same, in_objects, replaced_there, Object, Replace, Log, Begins, IsLiveRun, record_of, state_of, IsDirectory, IsReplaced, tabled, begins_trans, chain_used, linked_or_replaced, note_stays, replaced_note, run_of, Gv, ◌⊎◌, ◌<◌, Option, None, Some, IfNone, IsSome, map, option_map, slice_index_or, inr, ∥∥₁_map, map-append, at_object_same, some_is, LiveEvent, ChainNote, Push, Queue, Retire, Has, Names, beside, directory_alone, gone, has_since, linked_between, View, Queues, IsListed, own_in, list_in, chain_known, LoadedOnce, Synchronized, Writes, words_by, IsLinked, IsRest, IsTidied, LeavesOnly, WasCleared, WasReplaced, chains_in, AreFrom}
use Rattle.rcu_hash.proofs.Emptying.{replaced_later}
use Rattle.rcu_hash.proofs.Named.{by_words}

module _ (qsbr : Bool) where
  -- a directory that took the place of another one is linked, and is a directory
  module _ (before : Log) (d : ℕ) (old new : ObjectId) (cell : ℕ) (payload : List ℕ) (run : IsLiveRun qsbr tabled (Object (Replace d old new cell payload) ∷ before)) (directory : IsDirectory (record_of before old)) where
    abbrev taken : Log
    taken = Object (Replace d old new cell payload) ∷ before

    took_place : In ((state_of taken).chain d) new
    took_place = subst (λ (l : List ObjectId). In l new) (sym (at_number_same d (replaced old new ((state_of before).chain d)) (state_of before).chain)) (replaced_there old new ((state_of before).chain d) (in_objects ((state_of before).chain d) old run.0.0.0))

    is_directory : IsDirectory (record_of taken new)
    is_directory = subst IsDirectory (sym (replaced_note qsbr tabled taken d old new cell payload run (inl refl))) (⊎_elim
        (λ k. let zero_kind = k.1 in let one_kind = directory.0 in absurd (omega arith))
        (λ k. k.0)
        run.0.1.1)

  -- one that replaced it later came after less
  module _ (since before log : Log) (d : ℕ) (old new : ObjectId) (cell : ℕ) (payload : List ℕ) (is : log ≡ since ++ Object (Replace d old new cell payload) ∷ before) (run : IsLiveRun qsbr tabled log) (directory : IsDirectory (record_of before old)) (r : IsReplaced (Object (Replace d old new cell payload) ∷ before) log d new) where
    abbrev then : Log
    then = Object (Replace d old new cell payload) ∷ before

    comes_after : length r.since + 1 ≤ length since
    comes_after =
        let one : length log ≡ length since + length then = ap length is ∙ length-append since then in
        let z : Log = Object (Replace d new r.new r.cell r.payload) ∷ r.before in
        let two : length log ≡ length r.since + length z = ap length r.is ∙ length-append r.since z in
        let three : length r.before ≡ length r.after.0 + length then = ap length r.after.1 ∙ length-append r.after.0 then in
        let four : length z ≡ length r.before + 1 = omega arith in omega arith

    is_directory_still : IsDirectory (record_of r.before new)
    is_directory_still =
        let step : IsLiveRun qsbr tabled then = run_of qsbr tabled then log (since, is) run in
        let goes : Begins r.before log = begins_trans r.before (Object (Replace d new r.new r.cell r.payload) ∷ r.before) log (Object (Replace d new r.new r.cell r.payload) ∷ [], refl) (r.since, r.is) in
        let same = note_stays qsbr tabled then r.before new r.after (run_of qsbr tabled r.before log goes run) (chain_used qsbr tabled then d new step (took_place before d old new cell payload step directory)) in
        subst IsDirectory (sym same) (is_directory before d old new cell payload step directory)

  -- where a directory was replaced there is one still
  pub stays_directed : (n : ℕ) (since before log : Log) (d : ℕ) (old new : ObjectId) (cell : ℕ) (payload : List ℕ) → length since ≤ n → log ≡ since ++ Object (Replace d old new cell payload) ∷ before → IsLiveRun qsbr tabled log → IsDirectory (record_of before old) → (state_of log).chain d ≢ []
  stays_directed zero since before log d old new cell payload short is run directory none =
      let x : Log = Object (Replace d old new cell payload) ∷ before in
      let step : IsLiveRun qsbr tabled x = run_of qsbr tabled x log (since, is) run in ⊎_elim
      (λ (h : In ((state_of log).chain d) new). absurd (subst (λ (l : List ObjectId). In l new) none h))
      (λ (r : IsReplaced x log d new). let less = comes_after since before log d old new cell payload is run directory r in absurd (omega arith))
      (linked_or_replaced qsbr x log d new (since, is) run (took_place before d old new cell payload step directory) (is_directory before d old new cell payload step directory))
  stays_directed (suc m) since before log d old new cell payload short is run directory none =
      let x : Log = Object (Replace d old new cell payload) ∷ before in
      let step : IsLiveRun qsbr tabled x = run_of qsbr tabled x log (since, is) run in ⊎_elim
      (λ (h : In ((state_of log).chain d) new). absurd (subst (λ (l : List ObjectId). In l new) none h))
      (λ (r : IsReplaced x log d new). let less = comes_after since before log d old new cell payload is run directory r in
      stays_directed m r.since r.before log d new r.new r.cell r.payload (omega arith) r.is run (is_directory_still since before log d old new cell payload is run directory r) none)
      (linked_or_replaced qsbr x log d new (since, is) run (took_place before d old new cell payload step directory) (is_directory before d old new cell payload step directory))

-- a list without its first entry
abbrev rest : Log → Log
rest [] = []
rest (e ∷ es) = es

pub cleared_since : (since known log : Log) (c : ℕ) → Begins known log → WasCleared since c known → WasCleared since c log
cleared_since since known log c b k = record { at = k.at; after = k.after; before = begins_trans (ChainNote c 0 ∷ k.at) known log k.before b }

-- an object that was queued was retired before
pub retired_by : (qsbr : Bool) (allows : Log → LiveEvent → Type 0) (at : Log → Type 0) (o : ObjectId) (queue given : ℕ) (callback : Gv) (log : Log) → Queues qsbr allows at o queue given callback log → Has (Object (Retire o)) log
retired_by qsbr allows at o queue given callback log q = has_since (Object (Retire o)) (Object (Retire o) ∷ q.before) log (begins_trans (Object (Retire o) ∷ q.before) q.within log q.retired (Object (Queue o queue q.id) ∷ [], q.wrote)) (inl refl)

module _ (qsbr : Bool) where
  -- while a directory stays linked none is replaced in its chain
  module _ (start log : Log) (d : ℕ) (o : ObjectId) (b : Begins start log) (run : IsLiveRun qsbr tabled log) (linked : IsLinked d o start) (still : In ((state_of log).chain d) o) where
    replaced_before : (before : Log) (old new : ObjectId) (cell : ℕ) (payload : List ℕ) → Begins (Object (Replace d old new cell payload) ∷ before) log → Begins (Object (Replace d old new cell payload) ∷ before) start
    replaced_before before old new cell payload is =
        let left : Log = Object (Replace d old new cell payload) ∷ before in
        let step : IsLiveRun qsbr tabled left = run_of qsbr tabled left log is run in ⊎_elim
        (λ (later : Begins start before).
        let goes : Begins before log = begins_trans before left log (Object (Replace d old new cell payload) ∷ [], refl) is in
        let here : In ((state_of before).chain d) o = linked_between qsbr start before log d o later goes run linked.0 linked.1 still in
        let there : In ((state_of before).chain d) old = in_objects ((state_of before).chain d) old step.0.0.0 in
        let same = note_stays qsbr tabled start before o later step.1 (chain_used qsbr tabled start d o (run_of qsbr tabled start before later step.1) linked.0) in
        let alone : (state_of before).chain d ≡ o ∷ [] = directory_alone qsbr before d o step.1 here (subst IsDirectory (sym same) linked.1) in
        let one : o ≡ old = ⊎_elim (λ (h : o ≡ old). h) (λ none. absurd none) (subst (λ (l : List ObjectId). In l old) alone there) in
        absurd (gone qsbr before log d d old new cell payload is run (subst (In ((state_of log).chain d)) one still)))
        (λ (within : Begins left start). within)
        (beside b.0 is.0 (Object (Replace d old new cell payload)) before start (sym is.1 ∙ b.1))

    -- so less is left of those before it: what was, but for what was cleared and retired since
    pub only_less : (chains less : ℕ → Type 0) (records fewer : ObjectId → Type 0) → ((c : ℕ) → chains c → WasCleared start c log ⊎ less c) → ((p : ObjectId) → records p → Has (Object (Retire p)) log ⊎ fewer p) → LeavesOnly d start chains records → LeavesOnly d log less fewer
    only_less chains less records fewer clears retires only before old new cell payload is directory =
        let left : Log = Object (Replace d old new cell payload) ∷ before in
        let within : Begins left start = replaced_before before old new cell payload is in
        let was = only before old new cell payload within directory in (
          ⊎_elim (λ (h : Has (Object (Retire old)) start). inl (has_since (Object (Retire old)) start log b h)) (λ kept. retires old kept) was.0,
          λ c names. ⊎_elim
              (λ (k : WasCleared left c start). inl (cleared_since left start log c b k))
              (λ kept. ⊎_elim (λ (z : WasCleared start c log). inl (record { at = z.at; after = begins_trans left start z.at within z.after; before = z.before })) (λ h. inr h) (clears c kept))
              (was.1 c names),
        )

-- where more may be left
pub only_weaker : (d : ℕ) (log : Log) (chains more : ℕ → Type 0) (records others : ObjectId → Type 0) → ((c : ℕ) → chains c → more c) → ((o : ObjectId) → records o → others o) → LeavesOnly d log chains records → LeavesOnly d log more others
only_weaker d log chains more records others goes on only before old new cell payload is directory = let was = only before old new cell payload is directory in (
  ⊎_elim (λ h. inl h) (λ kept. inr (on old kept)) was.0,
  λ c names. ⊎_elim (λ k. inl k) (λ kept. inr (goes c kept)) (was.1 c names),
)

-- a directory that takes the place of another leaves that one, and what it named
pub only_left : (d : ℕ) (before log : Log) (old new : ObjectId) (cell : ℕ) (payload : List ℕ) → log ≡ Object (Replace d old new cell payload) ∷ before → LeavesOnly d before (λ c. ⊥) (λ o. ⊥) → LeavesOnly d log (Names (record_of before old)) (λ o. old ≡ o)
only_left d before log old new cell payload wrote only b o n k w is directory = by is.0 (sym wrote ∙ is.1)
  where
    left : Log
    left = Object (Replace d o n k w) ∷ b

    by : (s : Log) → Object (Replace d old new cell payload) ∷ before ≡ s ++ left → (Has (Object (Retire o)) log ⊎ (old ≡ o)) × ((c : ℕ) → Names (record_of b o) c → WasCleared left c log ⊎ Names (record_of before old) c)
    by [] same = let one : old ≡ o = cc in let logs : b ≡ before = cc in
        (inr one, λ c names. inr (subst (λ (p : ObjectId). Names (record_of before p) c) (sym one) (subst (λ (l : Log). Names (record_of l o) c) logs names)))
    by (e ∷ s) same =
        let goes : Begins before log = (Object (Replace d old new cell payload) ∷ [], wrote) in
        let was = only b o n k w (s, ap rest same) directory in (
          ⊎_elim (λ (h : Has (Object (Retire o)) before). inl (has_since (Object (Retire o)) before log goes h)) (λ none. absurd none) was.0,
          λ c names. ⊎_elim (λ (z : WasCleared left c before). inl (cleared_since left before log c goes z)) (λ none. absurd none) (was.1 c names),
        )

-- a directory that comes into a chain is the first one there
pub only_none : (qsbr : Bool) (d : ℕ) (before log : Log) (o : ObjectId) (cell first buckets : ℕ) → log ≡ Object (Push d o cell (words_by first buckets)) ∷ before → IsLiveRun qsbr tabled log → LeavesOnly d log (λ c. ⊥) (λ o. ⊥)
only_none qsbr d before log o cell first buckets wrote run b old new k w is directory = absurd (by is.0 (sym wrote ∙ is.1))
  where
    step : IsLiveRun qsbr tabled (Object (Push d o cell (words_by first buckets)) ∷ before)
    step = subst (IsLiveRun qsbr tabled) wrote run

    empty : (state_of before).chain d ≡ []
    empty = ⊎_elim (λ keyed. let zero_kind = keyed.0 in absurd (omega (arith, zero_kind))) (λ directed. directed.1) step.0.1.1

    by : (s : Log) → Object (Push d o cell (words_by first buckets)) ∷ before ≡ s ++ Object (Replace d old new k w) ∷ b → ⊥
    by [] same = cc
    by (e ∷ s) same = stays_directed qsbr (length s) s b before d old new k w (omega arith) (ap rest same) step.1 directory empty

-- of chains that follow one another each is there
pub from_has : (first c : ℕ) (vs : List View) → AreFrom first vs → first ≤ c → c < first + length vs → In (chains_in vs) c
from_has first c [] from low high = grind arith
from_has first c (v ∷ vs) from low high = let rest = from_has (first + 1) c vs from.1 in grind arith

-- the last one of them, and the others
chains_both : (vs : List View) (v : View) (c : ℕ) → In (chains_in (vs ++ v ∷ [])) c → In (chains_in vs) c ⊎ ((own_in v.chains).chain ≡ c)
chains_both [] v c h = grind arith
chains_both (u ∷ vs) v c h = let rest = chains_both vs v c in grind arith

pub chains_popped : {X : Type 0} (xs all : List X) (x : X) (f : X → View) (c : ℕ) → all ≡ xs ++ x ∷ [] → In (chains_in (map f all)) c → In (chains_in (map f xs)) c ⊎ ((own_in (f x).chains).chain ≡ c)
chains_popped xs all x f c is h = chains_both (map f xs) (f x) c (subst (λ (vs : List View). In (chains_in vs) c) (ap (map f) is ∙ map-append f xs (x ∷ [])) h)

chains_more : (vs : List View) (v : View) (c : ℕ) → In (chains_in vs) c ⊎ ((own_in v.chains).chain ≡ c) → In (chains_in (vs ++ v ∷ [])) c
chains_more [] v c h = grind arith
chains_more (u ∷ vs) v c h = let rest = chains_more vs v c in grind arith

pub chains_pushed : {X : Type 0} (xs all : List X) (x : X) (f : X → View) (c : ℕ) → all ≡ xs ++ x ∷ [] → In (chains_in (map f xs)) c ⊎ ((own_in (f x).chains).chain ≡ c) → In (chains_in (map f all)) c
chains_pushed xs all x f c is h = subst (λ (vs : List View). In (chains_in vs) c) (sym (ap (map f) is ∙ map-append f xs (x ∷ []))) (chains_more (map f xs) (f x) c h)

-- what is left in a later log, where some of it was cleared and retired
pub rest_less : (qsbr : Bool) (d : ℕ) (o : ObjectId) (vs ws : List View) (old new : Option ObjectId) (start log : Log) → Begins start log → IsLiveRun qsbr tabled log → IsLinked d o log → ((first : ℕ) → AreFrom first vs → AreFrom first ws) → ((p : ObjectId) → new ≡ Some p → old ≡ Some p) → ((c : ℕ) → In (chains_in vs) c → WasCleared start c log ⊎ In (chains_in ws) c) → ((p : ObjectId) → old ≡ Some p → Has (Object (Retire p)) log ⊎ (new ≡ Some p)) → IsRest d o vs old start → IsRest d o ws new log
rest_less qsbr d o vs ws old new start log b run linked row kept clears retires rest = ∥∥₁_map rest (λ r. (
  linked,
  only_less qsbr start log d o b run r.0 linked.0 (In (chains_in vs)) (In (chains_in ws)) (λ p. old ≡ Some p) (λ p. new ≡ Some p) clears retires r.1,
  (r.2.0, row r.2.0 r.2.1),
  λ p is. replaced_later d p start log b (r.3 p (kept p is)),
))

pub rest_later : (qsbr : Bool) (d : ℕ) (o : ObjectId) (vs : List View) (old : Option ObjectId) (start log : Log) → Begins start log → IsLiveRun qsbr tabled log → IsLinked d o log → IsRest d o vs old start → IsRest d o vs old log
rest_later qsbr d o vs old start log b run linked rest = rest_less qsbr d o vs vs old old start log b run linked (λ first from. from) (λ p is. is) (λ c h. inr h) (λ p is. inr is) rest

-- nothing is
pub rest_none : (d : ℕ) (o : ObjectId) (vs : List View) (old : Option ObjectId) (log : Log) → vs ≡ [] → ((p : ObjectId) → old ≡ Some p → ⊥) → IsRest d o vs old log → IsTidied d log
rest_none d o vs old log empty none rest = ∥∥₁_map rest (λ r. only_weaker d log (In (chains_in vs)) (λ c. ⊥) (λ p. old ≡ Some p) (λ p. ⊥) (λ c h. subst (λ (us : List View). In (chains_in us) c) empty h) none r.1)

pub some_there : {A : Type 0} (f : A → ObjectId) (r : Option A) (p : ObjectId) → option_map f r ≡ Some p → IsSome r
some_there f r p is = grind arith

-- waits before the one that was told of
module _ (qsbr : Bool) (allows : Log → LiveEvent → Type 0) (seen heard seen' heard' : Log) (loads loads' waits new : List Log) (log : Log) (from_seen : Begins seen heard') (from_heard : Begins heard heard') (same : loads' ≡ waits ++ loads) where
  pub ended_since : Synchronized qsbr allows seen' heard' loads' new log → Synchronized qsbr allows seen heard (waits ++ loads) new log
  ended_since s = record {
    asked = s.asked;
    loads_since = s.loads_since;
    first_load = s.first_load ∙ ap (λ (l : List Log). s.loads_since ++ s.asked ∷ l) same;
    after = record { after_seen = begins_trans seen heard' s.asked from_seen s.after.after_heard; after_heard = begins_trans heard heard' s.asked from_heard s.after.after_heard; run = s.after.run };
    low = s.low;
    later = s.later;
    run = s.run;
    ended = s.ended;
  }

  pub loaded_since : LoadedOnce qsbr allows seen' heard' loads' new log → LoadedOnce qsbr allows seen heard (waits ++ loads) new log
  loaded_since l = record {
    load = l.load ∙ ap (λ (k : List Log). log ∷ k) same;
    after = record { after_seen = begins_trans seen heard' log from_seen l.after.after_heard; after_heard = begins_trans heard heard' log from_heard l.after.after_heard; run = l.after.run };
  }

-- a writer that knows its directory knows a log in which that is linked
pub linked_by : (v : View) (d : ℕ) (o : ObjectId) (first buckets : ℕ) → IsListed v → (own_in v.chains).chain ≡ d → list_in v ≡ o ∷ [] → (record_of v.seen o).1 ≡ words_by first buckets → IsLinked d o v.seen
linked_by v d o first buckets listed own alone words = (subst (λ (l : List ObjectId). In l o) (sym (chain_known v d listed own ∙ alone)) (inl refl), by_words (record_of v.seen o) first buckets words)

-- where nothing was left, a directory that takes another one's place leaves that one's record and chains
pub rest_replaced : (qsbr : Bool) (d : ℕ) (o new left : ObjectId) (first buckets : ℕ) (vs : List View) (start seen heard log : Log) (cell : ℕ) (payload : List ℕ) → Begins start heard → (w : Writes qsbr tabled seen heard (Object (Replace d o new cell payload)) log) → (state_of w.before).chain d ≡ o ∷ [] → (record_of w.before o).1 ≡ words_by first buckets → AreFrom first vs → length vs ≡ buckets → left ≡ o → IsLinked d o start → IsLinked d new log → IsTidied d start → IsRest d new vs (Some left) log
rest_replaced qsbr d o new left first buckets vs start seen heard log cell payload b w alone words from many is linked now tidied =
    let goes : Begins start w.before = begins_trans start heard w.before b w.after.1 in
    let run : IsLiveRun qsbr tabled w.before = run_of qsbr tabled w.before log (Object (Replace d o new cell payload) ∷ [], w.wrote) w.run in
    let here : In ((state_of w.before).chain d) o = subst (λ (l : List ObjectId). In l o) (sym alone) (inl refl) in
    let directory : IsDirectory (cell, payload) = subst IsDirectory (ap (λ (l : Log). record_of l new) w.wrote ∙ at_object_same new (cell, payload) (record_of w.before)) now.1 in
    ∥∥₁_map tidied (λ none. (
      now,
      only_weaker d log (Names (record_of w.before o)) (In (chains_in vs)) (λ p. o ≡ p) (λ p. Some left ≡ Some p)
          (λ c names. let low : first ≤ c = subst (λ (ws : List ℕ). slice_index_or ws 0 0 ≤ c) words names.0 in
          let high : c < first + buckets = subst (λ (ws : List ℕ). c < slice_index_or ws 0 0 + slice_index_or ws 1 0) words names.1 in
          from_has first c vs from low (omega (arith, high, many)))
          (λ p same. ap Some (is ∙ same))
          (only_left d w.before log o new cell payload w.wrote (only_less qsbr start w.before d o goes run linked here (λ c. ⊥) (λ c. ⊥) (λ p. ⊥) (λ p. ⊥) (λ c no. absurd no) (λ p no. absurd no) none)),
      (first, from),
      λ p same. subst (λ (r : ObjectId). WasReplaced d r log) (sym is ∙ some_is left p same) ∣ (new, cell, payload, directory, subst (Has (Object (Replace d o new cell payload))) (sym w.wrote) (inl refl)) ∣₁,
    ))

pub not_none : {A X : Type 0} (r : Option A) → r ≡ None → IsSome r → X
not_none r is some = grind arith

pub none_so : {A : Type 0} (r : Option A) (Q : Type 0) → Q → IfNone r Q
none_so None Q so = so
none_so (Some x) Q so = tt

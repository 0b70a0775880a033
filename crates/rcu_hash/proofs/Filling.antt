-- The events of a growth before its last one: pushes into the new chains, and notes. None of them changes the table's
-- map, since the same directory was linked from before them until after them.
use Rattle.rcu_hash.proofs.Cited.Words.{Bool, ◌≡◌, ◌⊎◌, ℕ, ◌+◌, ◌<◌, ◌≤◌, List, [], ◌∷◌, ◌++◌, Some, length, slice_get, refl, sym, ap, ◌∙◌, subst, inl, inr, ⊎_elim, arith, zero, suc, mod_below, ObjectId, at_number_other, none_some, some_is, LiveEvent, ChainNote, Object, Push, Log, Begins, IsLiveRun, record_of, state_of, tabled, begins_trans, View, own_in, map_of, words_of, CopiesAll, CopiesKey, NotesAll, LeavesMap, Writes, words_by, bucket_of, AreFrom, append-nil, Publishes, list_in, OnlyMakesMany, OnlyMakesLast, Ghosts, more_only, one_only, none_only, Each, HasNote, IsAlone, map, reserved, IsListed, buckets_in, first_in, Grows, IsOutside, KeepLists, append_assoc}
use Rattle.rcu_hash.proofs.Directing.{map_same}
use Rattle.rcu_hash.proofs.Emptying.{writes_weaker, leaves_weaker}
use Rattle.rcu_hash.proofs.Holds.{each_last, lists_both, lists_same, lists_step, note_listed}
use Rattle.rcu_hash.proofs.Named.{directed_between}

-- which chain a writer has, by its place
pub from_at : (first k : ℕ) (vs : List View) (v : View) → AreFrom first vs → slice_get vs k ≡ Some v → (own_in v.chains).chain ≡ first + k
from_at first k [] v from at = absurd (none_some v at)
from_at first zero (w ∷ ws) v from at = ap (λ (x : View). (own_in x.chains).chain) (sym (some_is w v at)) ∙ (from.0 ∙ omega arith)
from_at first (suc k) (w ∷ ws) v from at = from_at (first + 1) k ws v from.1 at ∙ omega arith

pub from_behind : (first : ℕ) (vs ws : List View) (v : View) → AreFrom first (vs ++ v ∷ ws) → (own_in v.chains).chain ≡ first + length vs
from_behind first [] ws v from = from.0 ∙ omega arith
from_behind first (x ∷ vs) ws v from = from_behind (first + 1) vs ws v from.1 ∙ omega arith

-- what came after one log came after an earlier one
module _ (Tells : Log → LiveEvent → Log → Type 0) (weaker : (known heard : Log) (e : LiveEvent) (log : Log) → Begins known heard → Tells heard e log → Tells known e log) where
  pub key_weaker : (first buckets rank : ℕ) (known heard : Log) (e : ℕ × ℕ) (log : Log) → Begins known heard → CopiesKey Tells first buckets rank heard e log → CopiesKey Tells first buckets rank known e log
  key_weaker first buckets rank known heard e log b k = record { object = k.object; cell = k.cell; tells = weaker known heard (Object (Push (bucket_of first buckets e.0) k.object k.cell (words_of e.0 e.1 rank))) log b k.tells }

  pub copies_weaker : (first buckets rank : ℕ) (known heard : Log) (es : List (ℕ × ℕ)) (log : Log) → Begins known heard → CopiesAll Tells first buckets rank heard es log → CopiesAll Tells first buckets rank known es log
  copies_weaker first buckets rank known heard [] log b c = begins_trans known heard log b c
  copies_weaker first buckets rank known heard (e ∷ es) log b c = (c.0, key_weaker first buckets rank known heard e c.0 b c.1, c.2)

  -- and with one more
  pub copies_more : (first buckets rank : ℕ) (heard at : Log) (es : List (ℕ × ℕ)) (e : ℕ × ℕ) (log : Log) → CopiesAll Tells first buckets rank heard es at → CopiesKey Tells first buckets (rank + length es) at e log → CopiesAll Tells first buckets rank heard (es ++ e ∷ []) log
  copies_more first buckets rank heard at [] e log c k =
      let same : rank + 0 ≡ rank = omega arith in (log, key_weaker first buckets rank heard at e log c (subst (λ (r : ℕ). CopiesKey Tells first buckets r at e log) same k), ([], refl))
  copies_more first buckets rank heard at (x ∷ xs) e log c k =
      let same : rank + suc (length xs) ≡ rank + 1 + length xs = omega arith in
      (c.0, c.1, copies_more first buckets (rank + 1) c.0 at xs e log c.2 (subst (λ (r : ℕ). CopiesKey Tells first buckets r at e log) same k))

  pub notes_weaker : (note first many : ℕ) (known heard log : Log) → Begins known heard → NotesAll Tells note first many heard log → NotesAll Tells note first many known log
  notes_weaker note first zero known heard log b n = begins_trans known heard log b n
  notes_weaker note first (suc many) known heard log b n = (n.0, weaker known heard (ChainNote first note) n.0 b n.1, n.2)

  pub notes_more : (note first many : ℕ) (heard at log : Log) → NotesAll Tells note first many heard at → Tells at (ChainNote (first + many) note) log → NotesAll Tells note first (suc many) heard log
  notes_more note first zero heard at log n t =
      let same : first + zero ≡ first = omega arith in (log, subst (λ (c : ℕ). Tells heard (ChainNote c note) log) same (weaker heard at (ChainNote (first + zero) note) log n t), ([], refl))
  notes_more note first (suc many) heard at log n t =
      let same : first + suc many ≡ first + 1 + many = omega arith in (n.0, n.1, notes_more note (first + 1) many n.0 at log n.2 (subst (λ (c : ℕ). Tells at (ChainNote c note) log) same t))

-- the log goes on
pub writes_go : (qsbr : Bool) (allows : Log → LiveEvent → Type 0) (seen heard : Log) (e : LiveEvent) (log : Log) → Writes qsbr allows seen heard e log → Begins heard log
writes_go qsbr allows seen heard e log w = begins_trans heard w.before log w.after.1 (e ∷ [], w.wrote)

module _ (Tells : Log → LiveEvent → Log → Type 0) (goes : (heard : Log) (e : LiveEvent) (log : Log) → Tells heard e log → Begins heard log) where
  pub copies_go : (first buckets rank : ℕ) (heard : Log) (es : List (ℕ × ℕ)) (log : Log) → CopiesAll Tells first buckets rank heard es log → Begins heard log
  copies_go first buckets rank heard [] log c = c
  copies_go first buckets rank heard (e ∷ es) log c = begins_trans heard c.0 log (goes heard (Object (Push (bucket_of first buckets e.0) c.1.object c.1.cell (words_of e.0 e.1 rank))) c.0 c.1.tells) (copies_go first buckets (rank + 1) c.0 es log c.2)

  pub notes_go : (note first many : ℕ) (heard log : Log) → NotesAll Tells note first many heard log → Begins heard log
  notes_go note first zero heard log n = n
  notes_go note first (suc many) heard log n = begins_trans heard n.0 log (goes heard (ChainNote first note) n.0 n.1) (notes_go note (first + 1) many n.0 log n.2)

-- between two logs in which a directory is linked
module _ (qsbr : Bool) (seen : Log) (chains from buckets : ℕ) (some : 0 < buckets) (fits : from + buckets ≤ chains) (d : ℕ) (o : ObjectId) (old new : Log) (run : IsLiveRun qsbr tabled new) (was : (state_of old).chain d ≡ o ∷ []) (is : (state_of new).chain d ≡ o ∷ []) (words : (record_of old o).1 ≡ words_by from buckets) where
  -- an event that leaves the chains that the directory names leaves the table's map
  leaves_between : (heard : Log) (e : LiveEvent) (log : Log) → Begins old heard → Begins log new → ((before : Log) (k : ℕ) → from ≤ k → k < from + buckets → (state_of (e ∷ before)).chain k ≡ (state_of before).chain k) → Writes qsbr tabled seen heard e log → LeavesMap qsbr tabled chains d seen heard e log
  leaves_between heard e log since until others w = record {
    writes = w;
    map = λ key.
        let before : Log = w.before in let goes : Begins before log = (e ∷ [], w.wrote) in
        let b : Begins old before = begins_trans old heard before since w.after.1 in
        let k : ℕ = bucket_of from buckets key in let low = mod_below key buckets some in
        directed_between chains from buckets some fits qsbr d o old log new (begins_trans old before log b goes) until run was is words key
        ∙ (ap (λ (l : Log). map_of l k key) w.wrote
        ∙ (map_same qsbr before (e ∷ before) k key (e ∷ [], refl) (subst (IsLiveRun qsbr tabled) w.wrote w.run) (others before k (omega arith) (omega arith))
        ∙ sym (directed_between chains from buckets some fits qsbr d o old before new b (begins_trans before log new goes until) run was is words key)));
  }

  -- so do all pushes into chains that it does not name
  pub copies_leave : (first many : ℕ) → (from + buckets ≤ first) ⊎ (first + many ≤ from) → 0 < many → (rank : ℕ) (heard : Log) (es : List (ℕ × ℕ)) (log : Log) → Begins old heard → Begins log new → CopiesAll (Writes qsbr tabled seen) first many rank heard es log → CopiesAll (LeavesMap qsbr tabled chains d seen) first many rank heard es log
  copies_leave first many apart more rank heard [] log since until c = c
  copies_leave first many apart more rank heard (e ∷ es) log since until c =
      let k = c.1 in let b : ℕ = bucket_of first many e.0 in let low = mod_below e.0 many more in
      let goes : Begins heard c.0 = writes_go qsbr tabled seen heard (Object (Push b k.object k.cell (words_of e.0 e.1 rank))) c.0 k.tells in
      let outside : (b < from) ⊎ (from + buckets ≤ b) = ⊎_elim (λ (below : from + buckets ≤ first). inr (omega arith)) (λ (above : first + many ≤ from). inl (omega arith)) apart in (
        c.0,
        record {
          object = k.object;
          cell = k.cell;
          tells = leaves_between heard (Object (Push b k.object k.cell (words_of e.0 e.1 rank))) c.0 since (begins_trans c.0 log new (copies_go (Writes qsbr tabled seen) (writes_go qsbr tabled seen) first many (rank + 1) c.0 es log c.2) until)
              (λ before i under over. at_number_other b i (k.object ∷ (state_of before).chain b) (state_of before).chain (λ same. ⊎_elim (λ low. absurd (omega (arith, same, low, under))) (λ high. absurd (omega (arith, same, high, over))) outside)) k.tells;
        },
        copies_leave first many apart more (rank + 1) c.0 es log (begins_trans old heard c.0 since goes) until c.2,
      )

  -- and all notes
  pub notes_leave : (note first many : ℕ) (heard log : Log) → Begins old heard → Begins log new → NotesAll (Writes qsbr tabled seen) note first many heard log → NotesAll (LeavesMap qsbr tabled chains d seen) note first many heard log
  notes_leave note k zero heard log since until n = n
  notes_leave note k (suc left) heard log since until n =
      let goes : Begins heard n.0 = writes_go qsbr tabled seen heard (ChainNote k note) n.0 n.1 in (
        n.0,
        leaves_between heard (ChainNote k note) n.0 since (begins_trans n.0 log new (notes_go (Writes qsbr tabled seen) (writes_go qsbr tabled seen) note (k + 1) left n.0 log n.2) until) (λ before i under over. refl) n.1,
        notes_leave note (k + 1) left n.0 log (begins_trans old heard n.0 since goes) until n.2,
      )

module _ {W S : Type 0} (w : Ghosts W S) (qsbr : Bool) (note : ℕ) (old : W) (all : List View) where
  -- so many have it, of which the caller heard, and the others follow
  pub record AreNoted (new : W) (many : ℕ) (done rest : List View) : Type 0 where
    pub lists : KeepLists all (done ++ rest)
    pub noted : Each (HasNote note) done
    pub alone : Each IsAlone done
    pub notes : (first : ℕ) → AreFrom first all → NotesAll (Writes qsbr tabled (w.seen old)) note first many (w.heard old) (w.heard new)
    pub heard : Begins (w.heard old) (w.heard new)
    pub told : OnlyMakesMany w old new many

  pub none_noted : AreNoted old 0 [] all
  none_noted = record { lists = lists_same all; noted = tt; alone = tt; notes = λ first from. ([], refl); heard = ([], refl); told = none_only w old old (((refl, refl, (λ h. h), refl), refl), refl) }

  pub one_noted : (mid new : W) (many : ℕ) (done rest : List View) (v u : View) (n k : ℕ) (owner : Log) → AreNoted mid many done (v ∷ rest) → length done ≡ many → (own_in v.chains).chain ≡ n → k ≡ note → IsListed v → Publishes qsbr tabled v (w.seen mid) (w.heard mid) owner (ChainNote n k) u.seen → ((own_in u.chains).chain ≡ (own_in v.chains).chain) × (list_in u ≡ list_in v) → HasNote note u → IsAlone u → w.heard new ≡ u.seen → OnlyMakesLast w mid new u.seen → AreNoted new (many + 1) (done ++ u ∷ []) rest
  one_noted mid new many done rest v u n k owner was size its is listed p like noted alone heard same =
      let goes : Begins p.before u.seen = (ChainNote n k ∷ [], p.wrote) in let since : Begins (w.heard mid) p.before = p.after.after_caller.1 in record {
        lists = subst (KeepLists all) (sym (append_assoc done (u ∷ []) rest)) (lists_both all (done ++ v ∷ rest) (done ++ u ∷ rest) was.lists (lists_step done rest v u like.0 like.1 (λ o has. note_listed qsbr v u.seen o listed (begins_trans v.seen p.before u.seen p.after.after_writer.0 goes) p.run has)));
        noted = each_last (HasNote note) done u was.noted noted;
        alone = each_last IsAlone done u was.alone alone;
        notes = λ first from.
            let number : n ≡ first + many = sym its ∙ (from_behind first done rest v (was.lists.from first from) ∙ ap (λ (j : ℕ). first + j) size) in
            let next : suc many ≡ many + 1 = omega arith in
            subst (λ (j : ℕ). NotesAll (Writes qsbr tabled (w.seen old)) note first j (w.heard old) (w.heard new)) next
            (subst (NotesAll (Writes qsbr tabled (w.seen old)) note first (suc many) (w.heard old)) (sym heard)
            (notes_more (Writes qsbr tabled (w.seen old)) (writes_weaker qsbr tabled (w.seen old)) note first many (w.heard old) (w.heard mid) u.seen (was.notes first from) (record {
              before = p.before;
              wrote = p.wrote ∙ (λ j. ChainNote (number j) (is j) ∷ p.before);
              after = (subst (λ (l : Log). Begins l p.before) was.told.0.made.0 p.after.after_caller.0, since);
              run = p.run;
            })));
        heard = begins_trans (w.heard old) (w.heard mid) (w.heard new) was.heard (subst (Begins (w.heard mid)) (sym heard) (begins_trans (w.heard mid) p.before u.seen since goes));
        told = more_only w old mid new many 1 was.told (one_only w mid new u.seen same);
      }

  pub all_noted : (new : W) (many : ℕ) (done rest : List View) → AreNoted new many done rest → rest ≡ [] → KeepLists all done
  all_noted new many done rest n none = subst (KeepLists all) (ap (λ (l : List View). done ++ l) none ∙ append-nil done) n.lists

-- writers whose chains have the same numbers
pub numbers_from : {X : Type 0} (xs ys : List X) (first : ℕ) (number : X → ℕ) (view : X → View) → ((x : X) → (own_in (view x).chains).chain ≡ number x) → map number ys ≡ map number xs → AreFrom first (map view xs) → AreFrom first (map view ys)
numbers_from xs [] first number view is same from = tt
numbers_from [] (y ∷ ys) first number view is same from = cc
numbers_from (x ∷ xs) (y ∷ ys) first number view is same from = let rest = numbers_from xs ys (first + 1) number view is in let one = is x in let two = is y in grind arith

module _ (qsbr : Bool) (allows : Log → LiveEvent → Type 0) (chains d : ℕ) (first buckets : ℕ) (entries : List (ℕ × ℕ)) (log : Log) where
  pub grows_since : (seen heard seen' heard' : Log) (n : ℕ) → seen' ≡ seen → Begins heard heard' → (g : Grows qsbr allows chains d seen' heard' first buckets entries log) → buckets_in (record_of g.left g.old) ≡ n → (k : Grows qsbr allows chains d seen heard first buckets entries log) × (buckets_in (record_of k.left k.old) ≡ n)
  grows_since seen heard seen' heard' n same b g is = subst (λ (s : Log). (k : Grows qsbr allows chains d s heard first buckets entries log) × (buckets_in (record_of k.left k.old) ≡ n)) same (
    record {
      copied = g.copied;
      noted = g.noted;
      left = g.left;
      old = g.old;
      copies = copies_weaker (LeavesMap qsbr allows chains d seen') (leaves_weaker qsbr allows chains d seen') first buckets 0 heard heard' entries g.copied b g.copies;
      notes = g.notes;
      leaves = g.leaves;
      exchanges = g.exchanges;
    },
    is,
  )

  pub grows_go : (seen heard : Log) → Grows qsbr allows chains d seen heard first buckets entries log → Begins heard log
  grows_go seen heard g =
      let goes : (h : Log) (e : LiveEvent) (l : Log) → LeavesMap qsbr allows chains d seen h e l → Begins h l = λ h e l t. writes_go qsbr allows seen h e l t.writes in
      let w = g.exchanges.leaves.writes in
      begins_trans heard g.copied log (copies_go (LeavesMap qsbr allows chains d seen) goes first buckets 0 heard entries g.copied g.copies)
      (begins_trans g.copied g.noted log (notes_go (LeavesMap qsbr allows chains d seen) goes (reserved g.exchanges.new) first buckets g.copied g.noted g.notes)
      (begins_trans g.noted g.left log (notes_go (LeavesMap qsbr allows chains d seen) goes (d + 1) (first_in (record_of g.left g.old)) (buckets_in (record_of g.left g.old)) g.noted g.left g.leaves)
      (begins_trans g.left w.before log w.after.1 (_ ∷ [], w.wrote))))

-- chains of a range that has none in common with another
pub all_outside : (first many other buckets k : ℕ) (vs : List View) → (first + many ≤ other) ⊎ (other + buckets ≤ first) → first ≤ k → k + length vs ≤ first + many → AreFrom k vs → Each (IsOutside other buckets) vs
all_outside first many other buckets k [] apart low high from = tt
all_outside first many other buckets k (v ∷ vs) apart low high from =
    (⊎_elim (λ (below : first + many ≤ other). inl (omega (arith, from.0))) (λ (above : other + buckets ≤ first). inr (omega (arith, from.0))) apart, all_outside first many other buckets (k + 1) vs apart (omega arith) (omega arith) from.1)

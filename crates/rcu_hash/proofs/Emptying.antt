-- What an earlier directory left is free once a grace period has been waited for, and no part of the table's map.
use Rattle.rcu_hash.proofs.Cited.Words.{Gv, Bool, ◌≡◌, ◌≢◌, ◌⊎◌, ℕ, ◌+◌, ◌%◌, ◌^◌, ◌<◌, ◌≤◌, List, [], ◌∷◌, ◌++◌, append_assoc, Some, length, map, reverse, take, slice_get, refl, sym, ap, ◌∙◌, subst, inl, inr, ⊎_elim, arith, ∥∥₁_elim, ∥∥₁_map, append-nil, map-append, reverse-append, mod_below, ObjectId, Refusal, In, without_object, Once, at_number_same, in_append, in_left, object_tells, LiveEvent, ChainNote, Close, Object, Cut, Queue, Replace, Retire, Falls, Log, Begins, Has, HaveEnded, IsLiveRun, chain_note, record_of, state_of, HasKey, IsDirectory, IsFree, IsNamed, reserved, tabled, begins_trans, chain_used, falls_cut, has_later, is_noted, kept_log, left_is_freed, linked_between, note_stays, run_of, tabled_maps, hold_at, Look, Stored, Sizes, View, AreAsKnown, IsListed, IsWriter, own_in, Queues, MakesMany, OnlyMakesLast, Stays, more_made, none_made, Ghosts, RefusesRetirement, MayPublish, list_in, KnowsKeys, directed_map, LeavesMap, Writes, bucket_of, AreFreed, FindsFrees, OnlyFrees, Cuts, Clears, Does, Follow, HasWaited, IsLeft, IsRefused, Kind, Retires, Uses, WasReplaced, callbacks_by, callbacks_in, cleared_by, cleared_in, changes_in, objects_in, Each, HasKeysIn, HasNote, IsAlone, IsOutside, Naming, HasRight, LinksStill, length_of, OnlyHears, UsesUp}
use Rattle.rcu_hash.proofs.Directing.{map_same}
use Rattle.rcu_hash.proofs.Holds.{each_last, note_listed}
use Rattle.rcu_hash.proofs.Named.{directed_between, lent_used, unnamed, words_later}
use Rattle.rcu_hash.proofs.Copies.{in_behind, next_taken}

ended_later : (before known log : Log) → Begins known log → HaveEnded before known → HaveEnded before log
ended_later before known log b ended r n m opened = subst (Has (Close r n)) (sym b.1) (has_later (Close r n) b.0 known (ended r n m opened))

-- what was waited for was so in a later log
pub waited_later : (d : ℕ) (o : ObjectId) (log later : Log) → Begins log later → HasWaited d o log → HasWaited d o later
waited_later d o log later b w = record { known = w.known; mark = w.mark; after = w.after; before = begins_trans w.mark log later w.before b; linked = w.linked; directory = w.directory; ended = ended_later w.mark log later b w.ended }

-- a list without its first object is one shorter
without_absent : (xs : List ObjectId) (o : ObjectId) → ¬ In xs o → without_object o xs ≡ xs
without_absent [] o none = refl
without_absent (x ∷ xs) o none = let rest = without_absent xs o (λ h. none (inr h)) in let tells = object_tells x o in grind arith

pub one_fewer : (xs : List ObjectId) (o : ObjectId) → Once xs → slice_get xs 0 ≡ Some o → length xs ≡ length (without_object o xs) + 1
one_fewer [] o once at = grind arith
one_fewer (x ∷ xs) o once at = let same = without_absent xs o in let tells = object_tells x o in grind arith

-- what was replaced in an earlier log was in a later one
pub replaced_later : (d : ℕ) (o : ObjectId) (log later : Log) → Begins log later → WasReplaced d o log → WasReplaced d o later
replaced_later d o log later b was = ∥∥₁_map was (λ r. (r.0, r.1, r.2, r.3, subst (Has (Object (Replace d o r.0 r.1 r.2))) (sym b.1) (has_later (Object (Replace d o r.0 r.1 r.2)) b.0 log r.4)))

-- the one object of a list
only : (p o : ObjectId) → In (p ∷ []) o → p ≡ o
only p o (inl is) = is
only p o (inr h) = absurd h

module _ (qsbr : Bool) where
  -- each object of a writer's list is there once
  pub listed_once : (v : View) → IsListed v → IsLiveRun qsbr tabled v.seen → Once (list_in v)
  listed_once v listed run = subst Once listed.0 ((kept_log qsbr tabled v.seen run).linking.once (own_in v.chains).chain)

  -- a chain with the note of the directory is free, where that is linked still
  pub left_free : (d : ℕ) (o : ObjectId) (heard log : Log) (c : ℕ) → HasWaited d o heard → Begins heard log → IsLiveRun qsbr tabled log → (state_of log).chain d ≡ o ∷ [] → chain_note c log ≡ d + 1 → IsFree log c
  left_free d o heard log c w b run is noted =
      let goes : Begins w.mark log = begins_trans w.mark heard log w.before b in
      let here : In ((state_of log).chain d) o = subst (λ (l : List ObjectId). In l o) (sym is) (inl refl) in
      let at : In ((state_of w.mark).chain d) o = linked_between qsbr w.known w.mark log d o w.after goes run w.linked w.directory here in
      let then = run_of qsbr tabled w.mark log goes run in
      let same = note_stays qsbr tabled w.known w.mark o w.after then (chain_used qsbr tabled w.known d o (run_of qsbr tabled w.known w.mark w.after then) w.linked) in
      left_is_freed qsbr w.mark log c d o goes run at here (subst IsDirectory (sym same) w.directory) noted (ended_later w.mark heard log b w.ended)

  -- the writer of such a chain, while the directory's right is lent to it
  module _ (n : Naming) (v : View) (right : HasRight n v) (own : IsWriter v) (listed : IsListed v) (noted : (own_in v.chains).note ≡ n.directory + 1) where
    abbrev c : ℕ
    c = (own_in v.chains).chain

    root : (log : Log) → AreAsKnown log v.chains → ((state_of log).chain n.directory ≡ n.object ∷ []) × (chain_note n.directory log ≡ 0)
    root log known = let its = subst (AreAsKnown log) right.0 (subst (AreAsKnown log) own known).1 in
        (ap (state_of log).chain (sym right.1) ∙ (its.0.0 ∙ right.2), ap (λ (k : ℕ). chain_note k log) (sym right.1) ∙ (its.0.1 ∙ right.3))

    noted_there : (log : Log) → AreAsKnown log v.chains → chain_note c log ≡ n.directory + 1
    noted_there log known = (subst (AreAsKnown log) own known).0.1 ∙ noted

    -- an event of its chain leaves the table's map
    pub leaves_left : (seen heard : Log) (e : LiveEvent) (log : Log) (w : Writes qsbr tabled seen heard e log) → Begins v.seen w.before → AreAsKnown w.before v.chains → ((k : ℕ) → k ≢ c → (state_of (e ∷ w.before)).chain k ≡ (state_of w.before).chain k) → (chains : ℕ) → 0 < n.buckets → n.first + n.buckets ≤ chains → ∥ (c < n.first) ⊎ (n.first + n.buckets ≤ c) ∥₁ → ((key : ℕ) → directed_map chains n.directory log key ≡ directed_map chains n.directory w.before key) × (chain_note c w.before ≡ n.directory + 1)
    leaves_left seen heard e log w b known others chains many fits outside =
        let before : Log = w.before in let step : IsLiveRun qsbr tabled (e ∷ before) = subst (IsLiveRun qsbr tabled) w.wrote w.run in
        let mine = noted_there before known in let alone = (root before known).0 in let zero = (root before known).1 in
        let apart : n.directory ≢ c = λ same. let one = ap (λ (k : ℕ). chain_note k before) same ∙ mine in omega (arith, one, zero) in
        let words = words_later qsbr v.seen before n.object b step.1 n.first n.buckets right.5 right.4 in let still = others n.directory apart ∙ alone in
        let words' = words_later qsbr before (e ∷ before) n.object (e ∷ [], refl) step n.first n.buckets (lent_used qsbr before n.directory n.object step.1 alone) words in (
          λ key.
              let k : ℕ = bucket_of n.first n.buckets key in let low = mod_below key n.buckets many in
              let other : k ≢ c = λ is. ∥∥₁_elim outside (λ x y. absurd x) (λ out. ⊎_elim (λ under. absurd (omega (arith, is, under))) (λ over. absurd (omega (arith, is, over, low))) out) in
              ap (λ (l : Log). directed_map chains n.directory l key) w.wrote
              ∙ (directed_between chains n.first n.buckets many fits qsbr n.directory n.object (e ∷ before) (e ∷ before) (e ∷ before) ([], refl) ([], refl) step still still words' key
              ∙ (map_same qsbr before (e ∷ before) k key (e ∷ [], refl) step (others k other)
              ∙ sym (directed_between chains n.first n.buckets many fits qsbr n.directory n.object before before before ([], refl) ([], refl) step.1 alone alone words key))),
          mine,
        )

    -- it still links so many objects
    pub links_still : AreAsKnown v.seen v.chains → ∥ (c < n.first) ⊎ (n.first + n.buckets ≤ c) ∥₁ → LinksStill n.directory (length_of (own_in v.chains)) v.seen
    links_still known outside = (
      record {
        chain = c;
        object = n.object;
        noted = noted_there v.seen known;
        present = (root v.seen known).0;
        unnamed = unnamed (record_of v.seen n.object) n.first n.buckets c right.4 outside;
      },
      refl,
      ap length (subst (AreAsKnown v.seen) own known).0.0,
    )

    module _ (seen heard : Log) (waited : HasWaited n.directory n.object heard) where
      free : (log : Log) → Begins heard log → IsLiveRun qsbr tabled log → AreAsKnown log v.chains → IsFree log c
      free log b run known = left_free n.directory n.object heard log c waited b run (root log known).0 (noted_there log known)

      pub may_cut_left : KnowsKeys v → (p : ObjectId) → In (list_in v) p → MayPublish qsbr tabled v seen heard [] (Object (Cut c p))
      may_cut_left keys p at log on run known made =
          let note = note_listed qsbr v log p listed on.after_writer.0 run at in (
            free log on.after_caller.1 run known,
            subst HasKey (sym note) (keys p at),
            subst (Falls (record_of log)) (sym (at_number_same c (without_object p ((state_of log).chain c)) (state_of log).chain)) (falls_cut (record_of log) ((state_of log).chain c) p ((tabled_maps qsbr).falls log c run)),
          )

      pub may_clear_left : (k : ℕ) → n.directory + 1 < 2 ^ 63 → c ≡ k → list_in v ≡ [] → ∥ (c < n.first) ⊎ (n.first + n.buckets ≤ c) ∥₁ → MayPublish qsbr tabled v seen heard [] (ChainNote k 0)
      may_clear_left k small number nothing outside log on run known made =
          let none : (state_of log).chain c ≡ [] = (subst (AreAsKnown log) own known).0.0 ∙ nothing in
          let then = words_later qsbr v.seen log n.object on.after_writer.0 run n.first n.buckets right.5 right.4 in
          let no : ¬ IsNamed log c = λ m.
          let mine = noted_there log known in
          let here : m.chain ≡ n.directory = ⊎_elim
          (λ (its : chain_note c log ≡ m.chain + 1). omega (arith, its, mine))
          (λ (held : chain_note c log ≡ reserved m.object). absurd (omega (arith, held, mine, small)))
          (is_noted qsbr log c m.chain m.object run m.linked m.directory m.names).2 in
          let same : n.object ≡ m.object = only n.object m.object (subst (λ (l : List ObjectId). In l m.object) (ap (state_of log).chain here ∙ (root log known).0) m.linked) in
          unnamed (record_of log m.object) n.first n.buckets c (ap (λ (p : ObjectId). (record_of log p).1) (sym same) ∙ then) outside m.names in
          subst (λ (j : ℕ). tabled log (ChainNote j 0)) number (inr (free log on.after_caller.1 run known, inl (refl, none, no)))

-- nothing was stored
pub frees_nothing : (sizes : Sizes) → OnlyFrees sizes []
frees_nothing sizes place word none = absurd none

-- a chain was given back
pub frees_chain : (sizes : Sizes) (c : ℕ) → c < sizes.chains → OnlyFrees sizes (Stored (hold_at sizes c) 0 ∷ [])
frees_chain sizes c low place word h = ⊎_elim
    (λ (is : Stored (hold_at sizes c) 0 ≡ Stored place word). let one : word ≡ 0 = cc in let two : place ≡ hold_at sizes c = cc in (one, (c, low, two)))
    (λ none. absurd none)
    h

-- what a refused retirement tells
module _ {W S : Type 0} (w : Ghosts W S) (qsbr : Bool) (allows : Log → LiveEvent → Type 0) (sizes : Sizes) (q : ℕ) (old new : W) (e : Refusal) (r : RefusesRetirement w qsbr allows sizes q old new e) where
  pub refused_why : IsRefused w new (λ n. n ≡ q) e
  refused_why = ⊎_elim (λ closed. inl (closed.0, (q, refl, sym r.told ∙ closed.1))) (λ memory. inr memory.0) r.why

  pub refused_frees : FindsFrees w sizes old new
  refused_frees = (r.same.1, (_ ∷ [], r.looked, λ place word h. ⊎_elim (λ is. cc) (λ none. absurd none) h))

-- what goes on
module _ {W S : Type 0} (w : Ghosts W S) where
  pub makes_frees : (sizes : Sizes) (a b : W) (log : Log) → OnlyMakesLast w a b log → FindsFrees w sizes a b
  makes_frees sizes a b log m = (m.2, ([], m.1, frees_nothing sizes))

-- a retirement is heard of after what came before it
pub queued_later : (qsbr : Bool) (allows : Log → LiveEvent → Type 0) (at : Log → Type 0) (o : ObjectId) (queue given : ℕ) (callback : Gv) (known log : Log) (r : Queues qsbr allows at o queue given callback log) → Begins known r.before → Begins known log
queued_later qsbr allows at o queue given callback known log r b =
    begins_trans known r.within log (begins_trans known (Object (Retire o) ∷ r.before) r.within (begins_trans known r.before (Object (Retire o) ∷ r.before) b (Object (Retire o) ∷ [], refl)) r.retired) (Object (Queue o queue r.id) ∷ [], r.wrote)

module _ (qsbr : Bool) (allows : Log → LiveEvent → Type 0) where
  abbrev pub writes_weaker : (seen known heard : Log) (e : LiveEvent) (log : Log) → Begins known heard → Writes qsbr allows seen heard e log → Writes qsbr allows seen known e log
  writes_weaker seen known heard e log b w = record { before = w.before; wrote = w.wrote; after = (w.after.0, begins_trans known heard w.before b w.after.1); run = w.run }

  abbrev pub leaves_weaker : (chains d : ℕ) (seen known heard : Log) (e : LiveEvent) (log : Log) → Begins known heard → LeavesMap qsbr allows chains d seen heard e log → LeavesMap qsbr allows chains d seen known e log
  leaves_weaker chains d seen known heard e log b l = let w = l.writes in record { writes = record { before = w.before; wrote = w.wrote; after = (w.after.0, begins_trans known heard w.before b w.after.1); run = w.run }; map = l.map }

module _ (qsbr : Bool) (allows : Log → LiveEvent → Type 0) (sizes : Sizes) (d : ℕ) (seen : Log) where
  does_weaker : (known heard log : Log) (k : Kind) → Begins known heard → Does qsbr allows sizes d seen heard k log → Does qsbr allows sizes d seen known k log
  does_weaker known heard log (Cuts callback) b r = record { chain = r.chain; object = r.object; ticket = r.ticket; published = r.published; leaves = leaves_weaker qsbr allows sizes.chains d seen known heard (Object (Cut r.chain r.object)) r.published b r.leaves; noted = r.noted; hands = r.hands }
  does_weaker known heard log (Retires callback) b r = record { object = r.object; given = r.given; queued = let q = r.queued in record { before = q.before; at = (q.at.0, begins_trans known heard q.before b q.at.1, q.at.2); within = q.within; retired = q.retired; id = q.id; is = q.is; wrote = q.wrote; last = q.last; run = q.run } }
  does_weaker known heard log (Clears chain) b r = record { leaves = leaves_weaker qsbr allows sizes.chains d seen known heard (ChainNote chain 0) log b r.leaves; noted = r.noted }

  pub follow_weaker : (known heard log : Log) (ss : List (Kind × Log)) → Begins known heard → Follow qsbr allows sizes d seen heard ss log → Follow qsbr allows sizes d seen known ss log
  follow_weaker known heard log [] b f = begins_trans known heard log b f
  follow_weaker known heard log (s ∷ ss) b f = (does_weaker known heard s.1 s.0 b f.0, f.1)

  pub follow_both : (heard mid log : Log) (ss ts : List (Kind × Log)) → Follow qsbr allows sizes d seen heard ss mid → Follow qsbr allows sizes d seen mid ts log → Follow qsbr allows sizes d seen heard (ss ++ ts) log
  follow_both heard mid log [] ts f g = follow_weaker heard mid log ts f g
  follow_both heard mid log (s ∷ ss) ts f g = (f.0, follow_both s.1 mid log ss ts f.1 g)

  pub callbacks_both : (ss ts : List (Kind × Log)) → callbacks_in (ss ++ ts) ≡ callbacks_in ss ++ callbacks_in ts
  callbacks_both [] ts = refl
  callbacks_both (s ∷ ss) ts = ap (λ cs. callbacks_by s.0 ++ cs) (callbacks_both ss ts) ∙ sym (append_assoc (callbacks_by s.0) (callbacks_in ss) (callbacks_in ts))

  pub changes_both : (ss ts : List (Kind × Log)) → changes_in (ss ++ ts) ≡ changes_in ss + changes_in ts
  changes_both [] ts = omega arith
  changes_both (s ∷ ss) ts = let rest = changes_both ss ts in omega arith

  cleared_both : (ss ts : List (Kind × Log)) → cleared_in (ss ++ ts) ≡ cleared_in ss ++ cleared_in ts
  cleared_both [] ts = refl
  cleared_both (s ∷ ss) ts = ap (λ cs. cleared_by s.0 ++ cs) (cleared_both ss ts) ∙ sym (append_assoc (cleared_by s.0) (cleared_in ss) (cleared_in ts))

  pub freed_both : (ss ts : List (Kind × Log)) (found more : List Look) → AreFreed sizes (cleared_in ss) found → AreFreed sizes (cleared_in ts) more → AreFreed sizes (cleared_in (ss ++ ts)) (more ++ found)
  freed_both ss ts found more one two c h = ⊎_elim
      (λ first. in_behind more found (Stored (hold_at sizes c) 0) (one c first))
      (λ then. in_left more found (Stored (hold_at sizes c) 0) (two c then))
      (in_append (cleared_in ss) (cleared_in ts) c (subst (λ (cs : List ℕ). In cs c) (cleared_both ss ts) h))

  -- what was heard of at the end began with what was before
  pub heard_on : (known heard log : Log) (ss : List (Kind × Log)) → Begins known heard → Follow qsbr allows sizes d seen heard ss log → Begins known log
  heard_on known heard log [] b f = begins_trans known heard log b f
  heard_on known heard log ((Cuts callback, at) ∷ ss) b f = let r = f.0 in let p = r.leaves.writes in
      heard_on known at log ss (queued_later qsbr allows (Begins r.published) r.object (r.chain % sizes.queues) r.hands.given callback known at r.hands.queued
      (begins_trans known r.published r.hands.queued.before (begins_trans known p.before r.published (begins_trans known heard p.before b p.after.1) (_ ∷ [], p.wrote)) r.hands.queued.at)) f.1
  heard_on known heard log ((Retires callback, at) ∷ ss) b f = let r = f.0 in
      heard_on known at log ss (queued_later qsbr allows _ r.object (d % sizes.queues) r.given callback known at r.queued (begins_trans known heard r.queued.before b r.queued.at.1)) f.1
  heard_on known heard log ((Clears chain, at) ∷ ss) b f = let p = f.0.leaves.writes in
      heard_on known at log ss (begins_trans known p.before at (begins_trans known heard p.before b p.after.1) (_ ∷ [], p.wrote)) f.1

  module _ {D W S : Type 0} (w : Ghosts W S) (code : D → Gv) where
    pub uses_none : (a b : W) (jobs : List D) (heard log : Log) → Stays w a b → ((found : List Look) × (w.looks b ≡ found ++ w.looks a) × OnlyFrees sizes found) → Begins heard log → Uses qsbr allows sizes d seen w code a b jobs jobs heard log
    uses_none a b jobs heard log stays more before = record { used = []; are = sym (append-nil jobs); steps = []; follow = before; callbacks = refl; made = none_made w a b stays; found = more.0; looks = more.1; freed = λ c none. absurd none; only = more.2 }

    pub uses_both : (a b c : W) (jobs mid left : List D) (heard then log : Log) → Uses qsbr allows sizes d seen w code a b jobs mid heard then → Uses qsbr allows sizes d seen w code b c mid left then log → Uses qsbr allows sizes d seen w code a c jobs left heard log
    uses_both a b c jobs mid left heard then log x y = record {
      used = y.used ++ x.used;
      are = x.are ∙ (ap (λ (l : List D). l ++ x.used) y.are ∙ append_assoc left y.used x.used);
      steps = x.steps ++ y.steps;
      follow = follow_both heard then log x.steps y.steps x.follow y.follow;
      callbacks = callbacks_both x.steps y.steps ∙ (λ i. x.callbacks i ++ y.callbacks i) ∙ sym (ap (map code) (reverse-append y.used x.used) ∙ map-append code (reverse x.used) (reverse y.used));
      made = subst (MakesMany w a c) (sym (changes_both x.steps y.steps)) (more_made w a b c (changes_in x.steps) (changes_in y.steps) x.made y.made);
      found = y.found ++ x.found;
      looks = y.looks ∙ (ap (λ (l : List Look). y.found ++ l) x.looks ∙ sym (append_assoc y.found x.found (w.looks a)));
      freed = freed_both x.steps y.steps x.found y.found x.freed y.freed;
      only = λ place word h. ⊎_elim (y.only place word) (x.only place word) (in_append y.found x.found (Stored place word) h);
    }

-- a call that uses callbacks, and what came after it
module _ {D W S : Type 0} {qsbr : Bool} {sizes : Sizes} {d : ℕ} {w : Ghosts W S} {code : D → Gv} where
  pub uses_up_heard : {a b : W} {jobs left : List D} → UsesUp qsbr sizes d w code a b jobs left → Begins (w.heard a) (w.heard b)
  uses_up_heard {a} {b} x = heard_on qsbr tabled sizes d (w.seen a) (w.heard a) (w.heard a) (w.heard b) x.uses.steps ([], refl) x.uses.follow

  pub uses_up_on : {a b c : W} {jobs mid left : List D} → UsesUp qsbr sizes d w code a b jobs mid → UsesUp qsbr sizes d w code b c mid left → UsesUp qsbr sizes d w code a c jobs left
  uses_up_on {a} {b} {c} {jobs} {mid} {left} x y = record {
    uses = uses_both qsbr tabled sizes d (w.seen a) w code a b c jobs mid left (w.heard a) (w.heard b) (w.heard c) x.uses
        (subst (λ (seen : Log). Uses qsbr tabled sizes d seen w code b c mid left (w.heard b) (w.heard c)) x.uses.made.made.0 y.uses);
    loads = y.loads ∙ x.loads;
  }

  -- none was used
  pub uses_up_none : (a b : W) (jobs : List D) → Stays w a b → FindsFrees w sizes a b → Begins (w.heard a) (w.heard b) → UsesUp qsbr sizes d w code a b jobs jobs
  uses_up_none a b jobs stays finds heard = record { uses = uses_none qsbr tabled sizes d (w.seen a) w code a b jobs (w.heard a) (w.heard b) stays finds.1 heard; loads = finds.0 }

  pub uses_up_hears : (a b : W) (jobs : List D) → OnlyHears w a b → Begins (w.heard a) (w.heard b) → UsesUp qsbr sizes d w code a b jobs jobs
  uses_up_hears a b jobs hears heard = uses_up_none a b jobs hears.0.0 (hears.1, ([], hears.0.1, frees_nothing sizes)) heard

  pub uses_up_same : (a : W) (jobs : List D) → UsesUp qsbr sizes d w code a a jobs jobs
  uses_up_same a jobs = uses_up_hears a a jobs (((refl, refl, λ h. h, refl), refl), refl) ([], refl)

  -- one step was made
  pub uses_up_once : (a b : W) (jobs left used : List D) (k : Kind) (at : Log) → jobs ≡ left ++ used → callbacks_in ((k, at) ∷ []) ≡ map code (reverse used) → MakesMany w a b (changes_in ((k, at) ∷ [])) →
      (finds : FindsFrees w sizes a b) → AreFreed sizes (cleared_in ((k, at) ∷ [])) finds.1.0 → Does qsbr tabled sizes d (w.seen a) (w.heard a) k at → Begins at (w.heard b) → UsesUp qsbr sizes d w code a b jobs left
  uses_up_once a b jobs left used k at are callbacks made finds freed does before = record {
    uses = record { used = used; are = are; steps = (k, at) ∷ []; follow = (does, before); callbacks = callbacks; made = made; found = finds.1.0; looks = finds.1.1; freed = freed; only = finds.1.2 };
    loads = finds.0;
  }

-- how many objects more chains have
pub objects_both : (vs ws : List View) → objects_in (vs ++ ws) ≡ objects_in vs + objects_in ws
objects_both [] ws = omega arith
objects_both (v ∷ vs) ws = let rest = objects_both vs ws in omega arith

-- the writers of what an earlier directory left, by what is known of each
pub each_left : (d first buckets : ℕ) (vs : List View) → Each IsAlone vs → Each HasKeysIn vs → Each (HasNote (d + 1)) vs → Each (IsOutside first buckets) vs → Each (IsLeft d first buckets) vs
each_left d first buckets [] alone keys notes outside = tt
each_left d first buckets (v ∷ vs) alone keys notes outside = ((alone.0, keys.0, notes.0, ∣ outside.0 ∣₁), each_left d first buckets vs alone.1 keys.1 notes.1 outside.1)

-- all but the last one, and that one
pub each_pop : {X : Type 0} (P : X → Type 0) (xs : List X) (x : X) → Each P (xs ++ x ∷ []) → Each P xs × P x
each_pop P [] x all = (tt, all.0)
each_pop P (y ∷ ys) x all = let rest = each_pop P ys x all.1 in ((all.0, rest.0), rest.1)

-- of a list without its last entry
pub each_popped : {X : Type 0} (xs all : List X) (x : X) (f : X → View) (P : View → Type 0) → all ≡ xs ++ x ∷ [] → Each P (map f all) → Each P (map f xs) × P (f x)
each_popped xs all x f P is so = each_pop P (map f xs) (f x) (subst (λ vs. Each P vs) (ap (map f) is ∙ map-append f xs (x ∷ [])) so)

-- and with another one behind it
pub each_pushed : {X : Type 0} (xs all : List X) (x : X) (f : X → View) (P : View → Type 0) → all ≡ xs ++ x ∷ [] → Each P (map f xs) → P (f x) → Each P (map f all)
each_pushed xs all x f P is so one = subst (λ vs. Each P vs) (sym (ap (map f) is ∙ map-append f xs (x ∷ []))) (each_last P (map f xs) (f x) so one)

pub objects_pushed : {X : Type 0} (xs all : List X) (x : X) (f : X → View) → all ≡ xs ++ x ∷ [] → 0 < length (list_in (f x)) → 0 < objects_in (map f all)
objects_pushed xs all x f is some = let sum = objects_both (map f xs) (f x ∷ []) in grind (arith, map-append)

-- chains that have objects are some
pub objects_some : {X : Type 0} (xs : List X) (f : X → View) → 0 < objects_in (map f xs) → 0 < length xs
objects_some [] f some = some
objects_some (x ∷ xs) f some = omega arith

-- how many the first ones have, with one more
pub objects_next : {X : Type 0} (xs : List X) (i : ℕ) (x : X) (f : X → View) → slice_get xs i ≡ Some x → objects_in (map f (take (i + 1) xs)) ≡ objects_in (map f (take i xs)) + length (list_in (f x))
objects_next xs i x f is = let all = next_taken xs i x is in let sum = objects_both (map f (take i xs)) (f x ∷ []) in grind (arith, map-append)

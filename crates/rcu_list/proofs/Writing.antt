-- What the writer of a list knows, and what its events tell of the map.
use Rattle.rcu_list.proofs.Cited.{◌≡◌, ◌≢◌, ◌⊎◌, ◌≤◌, ◌<◌, ℕ, ◌+◌, ◌^◌, Bool, List, [], ◌∷◌, Option, Some, None, IsSome, slice_get, slice_index_or, refl, sym, ap, ◌∙◌, subst, inl, inr, ⊎_elim, Result, Ok, Err, IfOk, IfErr, IfSome, IfNone, Me, ObjectId, In, first_of, replaced, without_object, at_object_same, first_has, replaced_has, some_is, without_object_has, LiveEvent, Object, Push, Replace, Cut, key_of, rank_of, Log, Begins, IsLiveRun, chain_note, record_of, state_of, View, lent_chains, ChainRight, AreAsKnown, IsListed, IsWriter, cell_in, object_in, own_in, payload_in, Went, cut_of, Stays, Ghosts, GoesOn, IsFirstWith, MayPublish, Publishes, list_in, push_by, replace_by, index_has, HasMaps, IsUnnoted, TakesKeys, HasKey, begins_trans, not_has}
use Rattle.rcu_list.proofs.Allowing.{may_cut, may_push, may_replace}
use Rattle.rcu_list.specs.Calls.{Inserts, Replaces, Removes}
use Rattle.rcu_list.specs.Maps.{HasLastRank, map_of, next_rank, value_in, value_of, words_of}
use Rattle.rcu_list.specs.Preparing.{MayComeIn, MayTakeOver}
use Rattle.rcu_list.proofs.Changing.{inserts, key_missing, key_there, removes, replaces, same_note}
use Rattle.rcu_list.proofs.Values.{rank_same, value_same}

-- the chain of a log is the list that the writer knows
pub chain_known : (v : View) (c : ℕ) → IsListed v → (own_in v.chains).chain ≡ c → (state_of v.seen).chain c ≡ list_in v
chain_known v c listed is = subst (λ (n : ℕ). (state_of v.seen).chain n ≡ list_in v) is listed.0

-- after a walk
module _ {S : Type 0} (qsbr : Bool) (allows : Log → LiveEvent → Type 0) (maps : HasMaps qsbr allows) (c : ℕ) (m n : Me S View) (went : Went qsbr allows m.0 m n) (listed : IsListed m.0) (is : (own_in m.0.chains).chain ≡ c) where
  walked_in : (o : ObjectId) → In (list_in m.0) o → In ((state_of m.0.seen).chain c) o
  walked_in o h = subst (λ (l : List ObjectId). In l o) (sym (chain_known m.0 c listed is)) h

  pub note_walked : (o : ObjectId) → In (list_in m.0) o → record_of n.0.seen o ≡ record_of m.0.seen o
  note_walked o h = same_note qsbr allows maps c m.0.seen n.0.seen went.2.0 went.2.2 o (walked_in o h)

  pub walked_value : (o : ObjectId) (key : ℕ) → In (list_in m.0) o → key_of (record_of n.0.seen o) ≡ key → map_of m.0.seen c key ≡ Some (value_of (record_of m.0.seen o))
  walked_value o key h key_is = key_there qsbr allows maps c m.0.seen n.0.seen went.2.0 went.2.2 o key (walked_in o h) key_is

  pub walked_there : (o : ObjectId) (key : ℕ) → In (list_in m.0) o → key_of (record_of n.0.seen o) ≡ key → IsSome (map_of m.0.seen c key)
  walked_there o key h key_is = subst (λ (x : Option ℕ). IsSome x) (sym (walked_value o key h key_is)) refl

  pub walked_missing : (key : ℕ) → ((o : ObjectId) → In (list_in m.0) o → key_of (record_of n.0.seen o) ≢ key) → map_of m.0.seen c key ≡ None
  walked_missing key none = key_missing qsbr allows maps c m.0.seen n.0.seen went.2.0 went.2.2 key (λ o h. none o (subst (λ (l : List ObjectId). In l o) (chain_known m.0 c listed is) h))

  pub found_there : (key index : ℕ) → IsFirstWith n.0.seen (list_in m.0) key index → IsSome (map_of m.0.seen c key)
  found_there key index f = walked_there f.object key (index_has (list_in m.0) index f.object f.at) f.begins

  pub same_own : own_in n.0.chains ≡ own_in m.0.chains
  same_own = ap (λ (u : View). own_in u.chains) went.1

  pub rank_walked : next_rank (record_of n.0.seen) (list_in n.0) ≡ next_rank (record_of m.0.seen) ((state_of m.0.seen).chain c)
  rank_walked = ap (λ (x : ChainRight). next_rank (record_of n.0.seen) x.objects) same_own
      ∙ (rank_same (record_of m.0.seen) (record_of n.0.seen) (list_in m.0) note_walked ∙ ap (next_rank (record_of m.0.seen)) (sym (chain_known m.0 c listed is)))

  pub map_walked : IsListed n.0 → (key : ℕ) → map_of n.0.seen c key ≡ map_of m.0.seen c key
  map_walked listed' key =
      let list : (state_of n.0.seen).chain c ≡ list_in m.0 = chain_known n.0 c listed' (ap (λ (x : ChainRight). x.chain) same_own ∙ is) ∙ ap (λ (x : ChainRight). x.objects) same_own in
      ap (λ (l : List ObjectId). value_in (record_of n.0.seen) l key) list
      ∙ (value_same (record_of m.0.seen) (record_of n.0.seen) (list_in m.0) key note_walked ∙ ap (λ (l : List ObjectId). value_in (record_of m.0.seen) l key) (sym (chain_known m.0 c listed is)))

  pub last_rank : IsListed n.0 → HasLastRank n.0.seen c → HasLastRank m.0.seen c
  last_rank listed' (o, first, last) =
      let list : (state_of n.0.seen).chain c ≡ list_in m.0 = chain_known n.0 c listed' (ap (λ (x : ChainRight). x.chain) same_own ∙ is) ∙ ap (λ (x : ChainRight). x.objects) same_own in
      let here : first_of (list_in m.0) ≡ Some o = ap first_of (sym list) ∙ first in
      (o, ap first_of (chain_known m.0 c listed is) ∙ here, subst (λ (x : ℕ × List ℕ). 2 ^ 62 ≤ rank_of x + 1) (note_walked o (first_has (list_in m.0) o here)) last)

-- what an event of the writer tells of the map
module _ (qsbr : Bool) (allows : Log → LiveEvent → Type 0) (maps : HasMaps qsbr allows) (c : ℕ) (known seen heard : Log) (v w : View) (is_v : (own_in v.chains).chain ≡ c) (own : IsWriter v) (knows : (state_of known).chain c ≡ list_in v) (seen' heard' owner : Log) where
  -- before it the chain linked the objects that the writer knew
  linked : (e : LiveEvent) (p : Publishes qsbr allows v seen' heard' owner e w.seen) → (state_of p.before).chain c ≡ (state_of known).chain c
  linked e p = ap (state_of p.before).chain (sym is_v) ∙ ((subst (AreAsKnown p.before) own p.known).0.0 ∙ sym knows)

  pub pushed_map : (u : View) (key value rank : ℕ) → rank < 2 ^ 62 → rank ≡ next_rank (record_of known) ((state_of known).chain c) → payload_in u.object ≡ words_of key value rank → (p : Publishes qsbr allows v seen' heard' owner (push_by v u) w.seen) → Begins known p.before × Begins seen p.before × Begins heard p.before → map_of known c key ≡ None → Inserts qsbr allows c known seen heard key value w.seen
  pushed_map u key value rank below next words p after none =
      let o : ObjectId = object_in u.object in
      let e : LiveEvent = Object (Push c o (cell_in u.object) (words_of key value rank)) in
      let wrote : w.seen ≡ e ∷ p.before = p.wrote ∙ (λ i. Object (Push (is_v i) o (cell_in u.object) (words i)) ∷ p.before) in
      subst (Inserts qsbr allows c known seen heard key value) (sym wrote)
      (inserts qsbr allows maps c known seen heard p.before after (linked (push_by v u) p) key value rank (cell_in u.object) o below next (subst (IsLiveRun qsbr allows) wrote p.run) none)

  module _ (key : ℕ) (o : ObjectId) (at : In (list_in v) o) (key_is : key_of (record_of known o) ≡ key) where
    known_in : In ((state_of known).chain c) o
    known_in = subst (λ (l : List ObjectId). In l o) (sym knows) at

    pub replaced_map : (u : View) (value rank : ℕ) → payload_in u.object ≡ words_of key value rank → (p : Publishes qsbr allows v seen' heard' owner (replace_by o v u) w.seen) → Begins known p.before × Begins seen p.before × Begins heard p.before → Replaces qsbr allows c known seen heard key value o w.seen
    replaced_map u value rank words p after =
        let new : ObjectId = object_in u.object in
        let e : LiveEvent = Object (Replace c o new (cell_in u.object) (words_of key value rank)) in
        let wrote : w.seen ≡ e ∷ p.before = p.wrote ∙ (λ i. Object (Replace (is_v i) o new (cell_in u.object) (words i)) ∷ p.before) in
        subst (Replaces qsbr allows c known seen heard key value o) (sym wrote)
        (replaces qsbr allows maps c known seen heard p.before after (linked (replace_by o v u) p) key value rank (cell_in u.object) new o known_in key_is (subst (IsLiveRun qsbr allows) wrote p.run))

    pub cut_map : (p : Publishes qsbr allows v seen' heard' owner (cut_of o v) w.seen) → Begins known p.before × Begins seen p.before × Begins heard p.before → Removes qsbr allows c known seen heard key o w.seen
    cut_map p after =
        let e : LiveEvent = Object (Cut c o) in
        let wrote : w.seen ≡ e ∷ p.before = p.wrote ∙ (λ i. Object (Cut (is_v i) o) ∷ p.before) in
        subst (Removes qsbr allows c known seen heard key o) (sym wrote)
        (removes qsbr allows maps c known seen heard p.before after (linked (cut_of o v) p) key o known_in key_is (subst (IsLiveRun qsbr allows) wrote p.run))

-- what holds of a result in either case, by what else holds of it there
pub if_ok : {A E : Type 0} (r : Result A E) (P Q R : A → Type 0) → ((x : A) → P x → Q x → R x) → IfOk r P → IfOk r Q → IfOk r R
if_ok (Ok x) P Q R f p q = f x p q
if_ok (Err e) P Q R f p q = tt

pub if_err : {A E : Type 0} (r : Result A E) (P Q R : E → Type 0) → ((e : E) → P e → Q e → R e) → IfErr r P → IfErr r Q → IfErr r R
if_err (Ok x) P Q R f p q = tt
if_err (Err e) P Q R f p q = f e p q

pub by_result : {A E C : Type 0} (r : Result A E) (P : A → Type 0) (Q : E → Type 0) → IfOk r P → IfErr r Q → ((x : A) → P x → C) → ((e : E) → Q e → C) → C
by_result (Ok x) P Q p q f h = f x p
by_result (Err e) P Q p q f h = h e q

pub by_option : {A C : Type 0} (r : Option A) (P : A → Type 0) (Q : Type 0) → IfSome r P → IfNone r Q → ((x : A) → P x → C) → (Q → C) → C
by_option (Some x) P Q p q f h = f x p
by_option None P Q p q f h = h q

pub by_second : {A B C : Type 0} → A ⊎ B → ¬ A → (B → C) → C
by_second (inl a) none f = absurd (none a)
by_second (inr b) none f = f b

-- what stays of a caller over two calls
pub stays_both : {W S : Type 0} (w : Ghosts W S) (a b c : W) → Stays w a b → Stays w b c → Stays w a c
stays_both w a b c x y = (y.0 ∙ x.0, y.1 ∙ x.1, λ h. y.2 (x.2 h), y.3 ∙ x.3)

-- the writer's chain is free in each log that goes on from what it has seen, in which the note of its chain and the
-- chains that were lent to it are as it knows them
abbrev pub MayWriteIn : (qsbr : Bool) (allows : Log → LiveEvent → Type 0) (free : Log → ℕ → Type 0) → View → Type 0
MayWriteIn qsbr allows free v = (log : Log) → Begins v.seen log → IsLiveRun qsbr allows log → chain_note (own_in v.chains).chain log ≡ (own_in v.chains).note → AreAsKnown log (lent_chains v.chains) → free log (own_in v.chains).chain

-- a chain with no note is
pub by_no_note : (qsbr : Bool) (allows : Log → LiveEvent → Type 0) (v : View) → (own_in v.chains).note ≡ 0 → MayWriteIn qsbr allows IsUnnoted v
by_no_note qsbr allows v none log begins run note lent = note ∙ none

-- what the writer of a free chain may publish, by the list and the notes that it knows
module _ (qsbr : Bool) (allows : Log → LiveEvent → Type 0) (maps : HasMaps qsbr allows) (free : Log → ℕ → Type 0) (takes : TakesKeys qsbr allows free) (v : View) (seen heard owner : Log) (own : IsWriter v) (listed : IsListed v) (may : MayWriteIn qsbr allows free v) (keys : (o : ObjectId) → In (list_in v) o → HasKey (record_of v.seen o)) where
  all_known : (log : Log) → AreAsKnown log v.chains → AreAsKnown log (own_in v.chains ∷ lent_chains v.chains)
  all_known log known = subst (AreAsKnown log) own known

  is_free : (log : Log) → GoesOn v seen heard owner log → IsLiveRun qsbr allows log → AreAsKnown log v.chains → free log (own_in v.chains).chain
  is_free log on run known = let k = all_known log known in may log on.after_writer.0 run k.0.1 k.1

  pub may_insert : (u : View) → HasKey (0, payload_in u.object) → ((p : ObjectId) → In (list_in v) p → (key_of (record_of v.seen p) ≢ key_of (0, payload_in u.object)) × (rank_of (record_of v.seen p) < rank_of (0, payload_in u.object))) → MayPublish qsbr allows v seen heard owner (push_by v u)
  may_insert u key above log on run known made =
      may_push qsbr allows maps free takes (own_in v.chains).chain v.seen log on.after_writer.0 run (list_in v) listed.0 (all_known log known).0.0 (is_free log on run known) keys
      (object_in u.object) (cell_in u.object) (payload_in u.object) (not_has (state_of log).used (object_in u.object) made) key above

  pub may_exchange : (u : View) (o : ObjectId) → In (list_in v) o → HasKey (0, payload_in u.object) → (key_of (0, payload_in u.object) ≡ key_of (record_of v.seen o)) × (rank_of (0, payload_in u.object) ≡ rank_of (record_of v.seen o)) → MayPublish qsbr allows v seen heard owner (replace_by o v u)
  may_exchange u o at key kept log on run known made =
      may_replace qsbr allows maps free takes (own_in v.chains).chain v.seen log on.after_writer.0 run (list_in v) listed.0 (all_known log known).0.0 (is_free log on run known) keys
      o (object_in u.object) (cell_in u.object) (payload_in u.object) at (not_has (state_of log).used (object_in u.object) made.1) key kept

  pub may_remove : (o : ObjectId) → In (list_in v) o → MayPublish qsbr allows v seen heard owner (cut_of o v)
  may_remove o at log on run known made =
      may_cut qsbr allows maps free takes (own_in v.chains).chain v.seen log on.after_writer.0 run (list_in v) listed.0 (all_known log known).0.0 (is_free log on run known) keys o at

  -- by a record with another key, and a rank above all others
  pub comes_above : (u : View) (key value rank : ℕ) → payload_in u.object ≡ words_of key value rank → ((o : ObjectId) → In (list_in v) o → (key_of (record_of v.seen o) ≢ key) × (rank_of (record_of v.seen o) < rank)) → MayPublish qsbr allows v seen heard owner (push_by v u)
  comes_above u key value rank words others = may_insert u (ap (λ (l : List ℕ). slice_index_or l 3 0) words) (λ p h.
      let x = others p h in
      (λ same. x.0 (same ∙ ap (λ (l : List ℕ). slice_index_or l 0 0) words), subst (λ (l : List ℕ). rank_of (record_of v.seen p) < slice_index_or l 2 0) (sym words) x.1))

  -- by a record that was made ready
  pub comes_in : (u : View) (key value : ℕ) → MayComeIn v u key value → MayPublish qsbr allows v seen heard owner (push_by v u)
  comes_in u key value ready = comes_above u key value ready.rank ready.words ready.others

  pub takes_over : (u : View) (key value index : ℕ) → MayTakeOver v u key value index → (o : ObjectId) → slice_get (list_in v) index ≡ Some o → MayPublish qsbr allows v seen heard owner (replace_by o v u)
  takes_over u key value index ready o at =
      let is : ready.found.object ≡ o = some_is ready.found.object o (sym ready.found.at ∙ at) in
      may_exchange u o (index_has (list_in v) index o at) (ap (λ (l : List ℕ). slice_index_or l 3 0) ready.words) (
        ap (λ (l : List ℕ). slice_index_or l 0 0) ready.words ∙ sym (ap (λ (p : ObjectId). key_of (record_of v.seen p)) (sym is) ∙ ready.found.begins),
        ap (λ (l : List ℕ). slice_index_or l 2 0) ready.words ∙ (ready.same ∙ ap (λ (p : ObjectId). rank_of (record_of v.seen p)) is),
      )

-- that the objects of the list have keys stays so
abbrev pub KnowsKeys : View → Type 0
KnowsKeys v = (o : ObjectId) → In (list_in v) o → HasKey (record_of v.seen o)

-- after a walk
module _ {S : Type 0} (qsbr : Bool) (allows : Log → LiveEvent → Type 0) (maps : HasMaps qsbr allows) (c : ℕ) (m n : Me S View) (went : Went qsbr allows m.0 m n) (listed : IsListed m.0) (is : (own_in m.0.chains).chain ≡ c) where
  pub keys_walked : KnowsKeys m.0 → KnowsKeys n.0
  keys_walked keys o h =
      let had : In (list_in m.0) o = subst (λ (x : ChainRight). In x.objects o) (same_own qsbr allows maps c m n went listed is) h in
      subst HasKey (sym (note_walked qsbr allows maps c m n went listed is o had)) (keys o had)

  pub note_still : (own_in m.0.chains).note ≡ 0 → (own_in n.0.chains).note ≡ 0
  note_still none = ap (λ (x : ChainRight). x.note) (same_own qsbr allows maps c m n went listed is) ∙ none

-- after an event
module _ (qsbr : Bool) (allows : Log → LiveEvent → Type 0) (maps : HasMaps qsbr allows) (v w : View) (listed : IsListed v) (keys : KnowsKeys v) (seen heard owner : Log) where
  key_later : (e : LiveEvent) → Publishes qsbr allows v seen heard owner e w.seen → (o : ObjectId) → In (list_in v) o → HasKey (record_of w.seen o)
  key_later e p o h =
      let later : Begins v.seen w.seen = begins_trans v.seen p.before w.seen p.after.after_writer.0 (e ∷ [], p.wrote) in
      subst HasKey (sym (same_note qsbr allows maps (own_in v.chains).chain v.seen w.seen later p.run o (subst (λ (l : List ObjectId). In l o) (sym listed.0) h))) (keys o h)

  pub keys_pushed : (u : View) → Publishes qsbr allows v seen heard owner (push_by v u) w.seen → HasKey (0, payload_in u.object) → list_in w ≡ object_in u.object ∷ list_in v → KnowsKeys w
  keys_pushed u p key list o h = ⊎_elim
      (λ (is : object_in u.object ≡ o). subst (λ (q : ObjectId). HasKey (record_of w.seen q)) is
      (subst (λ (l : Log). HasKey (record_of l (object_in u.object))) (sym p.wrote) (subst HasKey (sym (at_object_same (object_in u.object) (cell_in u.object, payload_in u.object) (record_of p.before))) key)))
      (λ (was : In (list_in v) o). key_later (push_by v u) p o was)
      (subst (λ (l : List ObjectId). In l o) list h)

  pub keys_replaced : (u : View) (left : ObjectId) → Publishes qsbr allows v seen heard owner (replace_by left v u) w.seen → HasKey (0, payload_in u.object) → list_in w ≡ replaced left (object_in u.object) (list_in v) → KnowsKeys w
  keys_replaced u left p key list o h = ⊎_elim
      (λ (is : o ≡ object_in u.object). subst (λ (q : ObjectId). HasKey (record_of w.seen q)) (sym is)
      (subst (λ (l : Log). HasKey (record_of l (object_in u.object))) (sym p.wrote) (subst HasKey (sym (at_object_same (object_in u.object) (cell_in u.object, payload_in u.object) (record_of p.before))) key)))
      (λ (was : In (list_in v) o × (o ≢ left)). key_later (replace_by left v u) p o was.0)
      (replaced_has left (object_in u.object) (list_in v) o (subst (λ (l : List ObjectId). In l o) list h))

  pub keys_cut : (left : ObjectId) → Publishes qsbr allows v seen heard owner (cut_of left v) w.seen → list_in w ≡ without_object left (list_in v) → KnowsKeys w
  keys_cut left p list o h = key_later (cut_of left v) p o (without_object_has left (list_in v) o (subst (λ (l : List ObjectId). In l o) list h)).0

-- in a log that goes on from the one that was seen, with the same list
pub keys_on : (qsbr : Bool) (allows : Log → LiveEvent → Type 0) (maps : HasMaps qsbr allows) (v w : View) → IsListed v → Begins v.seen w.seen → IsLiveRun qsbr allows w.seen → list_in w ≡ list_in v → KnowsKeys v → KnowsKeys w
keys_on qsbr allows maps v w listed later run same keys o h =
    let had : In (list_in v) o = subst (λ (l : List ObjectId). In l o) same h in
    subst HasKey (sym (same_note qsbr allows maps (own_in v.chains).chain v.seen w.seen later run o (subst (λ (l : List ObjectId). In l o) (sym listed.0) had))) (keys o had)

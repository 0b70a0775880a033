-- What a writer publishes comes after all that it, its caller and who allocated the record had seen and heard of.
use Rattle.live_write.proofs.Cited.{Bool, ◌≡◌, ℕ, ◌∷◌, ◌++◌, [], List, Option, Some, None, slice_get, sym, refl, ap, ◌∙◌, subst, Me, ObjectId, In, IsPlace, follows, next_of, without_object, replaced, follows_has, LiveEvent, ChainNote, Object, Push, Replace, Cut, Log, Begins, record_of, objects_of, state_of, begins_trans, Look, View, ChainRight, RecordRight, Unlinked, but_object, object_alone, lent_chains, heard_view, taken_view, ref, Wrote, begins_nothing, AreAsKnown, IsFresh, IsListed, IsUnlinked, IsWriter, own_in, object_in, cell_in, link_in, payload_in, IsNow, Went, LoadedSeq, MayNote, MayWrite, Writes, IsBefore, IsThere, push_of, cut_of, cut_view, replace_of, replaced_view, head_after, note_same, there_after, IsAfter, IsAsBefore, OnlyMakesLast, Ghosts}
use Rattle.live_words.specs.live_rule.declared.rights.RecordRight.TheVariants as record_right
use Rattle.live_write.specs.Calls.{HasLearned}
use Rattle.live_write.specs.Chains.{GoesOn, MayPublish, MayReserve, Publishes, list_in, push_by, replace_by}

-- what a seat with the writer's chains has seen and heard of: all that the writer had seen and heard of, and its
-- caller, and who allocated a record
pub record Hears (v w : View) (seen heard owner : Log) : Type 0 where
  pub chains : w.chains ≡ v.chains
  pub of_writer : Begins v.seen w.seen × Begins v.heard w.seen
  pub of_caller : Begins seen w.heard × Begins heard w.heard
  pub of_owner : Begins owner w.heard

module _ (qsbr : Bool) (allows : Log → LiveEvent → Type 0) (v w : View) (seen heard owner : Log) (h : Hears v w seen heard owner) where
  goes_on : (log : Log) → Begins w.seen log → Begins w.heard log → GoesOn v seen heard owner log
  goes_on log saw heard_of = record {
    after_writer = (begins_trans v.seen w.seen log h.of_writer.0 saw, begins_trans v.heard w.seen log h.of_writer.1 saw);
    after_caller = (begins_trans seen w.heard log h.of_caller.0 heard_of, begins_trans heard w.heard log h.of_caller.1 heard_of);
    after_owner = begins_trans owner w.heard log h.of_owner heard_of;
  }

  -- what may be published it may write
  pub may_write : (e f : LiveEvent) → e ≡ f → MayPublish qsbr allows v seen heard owner e → MayWrite qsbr allows w f
  may_write e f same may = subst (MayWrite qsbr allows w) same
      (λ log saw heard_of run known allowed. may log (goes_on log saw heard_of) run (subst (AreAsKnown log) h.chains known) allowed)

  -- and what it wrote is published
  pub published : (e f : LiveEvent) (log : Log) → e ≡ f → (wrote : Wrote qsbr allows w (f ∷ []) log) → AreAsKnown wrote.0 w.chains → Publishes qsbr allows v seen heard owner e log
  published e f log same wrote known = record {
    before = wrote.0;
    wrote = wrote.1 ∙ ap (λ (x : LiveEvent). x ∷ wrote.0) (sym same);
    after = goes_on wrote.0 wrote.2 wrote.3;
    known = subst (AreAsKnown wrote.0) h.chains known;
    run = wrote.4;
  }

-- what may be published it may note, whatever record it has
pub may_note : (qsbr : Bool) (allows : Log → LiveEvent → Type 0) (v w : View) (seen heard owner : Log) → Hears v w seen heard owner → (chain note : ℕ) → chain ≡ (own_in w.chains).chain → MayPublish qsbr allows v seen heard owner (ChainNote chain note) → MayNote qsbr allows w note
may_note qsbr allows v w seen heard owner h chain note is may log saw heard_of run known fresh =
    subst (λ (c : ℕ). allows log (ChainNote c note)) is (may log (goes_on qsbr allows v w seen heard owner h log saw heard_of) run (subst (AreAsKnown log) h.chains known) tt)

-- and with another's record it may reserve its chain for the object
pub may_reserve : (qsbr : Bool) (allows : Log → LiveEvent → Type 0) (v w u : View) (seen heard : Log) → Hears v w seen heard u.seen → w.object ≡ u.object → IsFresh u → (chain note : ℕ) → chain ≡ (own_in w.chains).chain → MayReserve qsbr allows v seen heard u chain note → MayNote qsbr allows w note
may_reserve qsbr allows v w u seen heard h same is_fresh chain note is may log saw heard_of run known fresh =
    subst (λ (c : ℕ). allows log (ChainNote c note)) is (may log (goes_on qsbr allows v w seen heard u.seen h log saw heard_of) run (subst (AreAsKnown log) h.chains known)
    (subst (λ (r : RecordRight). ¬ In (state_of log).used (object_in r)) same (fresh (subst (λ (r : RecordRight). r ≡ record_right.Fresh (cell_in r) (object_in r) (link_in r) (payload_in r)) (sym same) is_fresh))))

-- a view that heard so, and then made a load, has learned
pub has_learned : (v w n : View) (seen heard : Log) (more : List Log) → w ≡ record v { seen = seen; heard = heard; loads = more ++ v.loads } → IsNow w n → Begins w.heard n.seen → HasLearned v n
has_learned v w n seen heard more is now before =
    let all : n ≡ record v { seen = n.seen; heard = heard; loads = more ++ v.loads } = now ∙ ap (λ (z : View). record z { seen = n.seen }) is in
    let still : n.heard ≡ w.heard = ap (λ (z : View). z.heard) now in
    (more, all ∙ (λ i. record v { seen = n.seen; heard = ap (λ (z : View). z.heard) (sym all) i; loads = more ++ v.loads }), subst (λ (l : Log). Begins l n.seen) (sym still) before)

module _ {S : Type 0} (qsbr : Bool) (allows : Log → LiveEvent → Type 0) (seen heard : Log) (m f w : Me S View) (went : Went qsbr allows m.0 m f) where
  -- the writer's seat has made a load, and then heard what its caller's seat has seen
  pub hears_caller : (t : View) → IsAfter qsbr allows seen heard t.seen → w ≡ (heard_view f.0 t, f.1) → Hears m.0 w.0 seen heard []
  hears_caller t told is = record {
    chains = ap (λ (z : Me S View). z.0.chains) is ∙ ap (λ (z : View). z.chains) went.1;
    of_writer = subst (λ (l : Log). Begins m.0.seen l × Begins m.0.heard l) (ap (λ (z : Me S View). z.0.seen) (sym is)) (went.2.0, went.2.1);
    of_caller = subst (λ (l : Log). Begins seen l × Begins heard l) (ap (λ (z : Me S View). z.0.heard) (sym is)) (told.after_seen, told.after_heard);
    of_owner = begins_nothing w.0.heard;
  }

  -- so of the writer's view nothing else has changed
  pub heard_alone : (t : View) → t.looks ≡ [] → w ≡ (heard_view f.0 t, f.1) → w.0 ≡ record m.0 { seen = f.0.seen; heard = t.seen; loads = t.loads ++ m.0.loads }
  heard_alone t none is = ap (λ (z : Me S View). z.0) is ∙ (ap (λ (z : View). heard_view z t) went.1 ∙ ap (λ (ls : List Look). record m.0 { seen = f.0.seen; heard = t.seen; looks = ls ++ m.0.looks; loads = t.loads ++ m.0.loads }) none)

  -- or taken in the record of the caller's seat, which has loaded the sequence number
  pub hears_owner : (t : View) (u : View) (a b : Me S View) → IsAfter qsbr allows seen heard t.seen → a.0 ≡ taken_view t u → LoadedSeq qsbr allows a b → w ≡ (taken_view f.0 b.0, f.1) → Hears m.0 w.0 seen heard u.seen
  hears_owner t u a b told took loaded is =
      let log : Log = b.0.seen in
      let later : Begins t.seen log = subst (λ (l : Log). Begins l log) (ap (λ (z : View). z.seen) took) (subst (Begins a.0.seen) (sym loaded.1.1) loaded.1.2) in
      let beside : Begins u.seen log = subst (λ (l : Log). Begins l log) (ap (λ (z : View). z.heard) took) (subst (Begins a.0.heard) (sym loaded.1.1) loaded.1.3) in
      let heard_is : log ≡ w.0.heard = ap (λ (z : Me S View). z.0.heard) (sym is) in record {
        chains = ap (λ (z : Me S View). z.0.chains) is ∙ ap (λ (z : View). z.chains) went.1;
        of_writer = subst (λ (l : Log). Begins m.0.seen l × Begins m.0.heard l) (ap (λ (z : Me S View). z.0.seen) (sym is)) (went.2.0, went.2.1);
        of_caller = subst (λ (l : Log). Begins seen l × Begins heard l) heard_is (begins_trans seen t.seen log told.after_seen later, begins_trans heard t.seen log told.after_heard later);
        of_owner = subst (Begins u.seen) heard_is beside;
      }

  -- and then it has the right to the record
  pub has_record : (t : View) (u : View) (a b : Me S View) → a.0 ≡ taken_view t u → LoadedSeq qsbr allows a b → w ≡ (taken_view f.0 b.0, f.1) → w.0.object ≡ u.object
  has_record t u a b took loaded is = ap (λ (z : Me S View). z.0.object) is ∙ (ap (λ (z : Me S View). z.0.object) loaded.0 ∙ ap (λ (z : View). z.object) took)

-- a caller that learns of a change of the writer's, which was told what the caller knew
pub makes_last : {W S : Type 0} (w : Ghosts W S) (w0 w1 w2 : W) (told : View) (e : LiveEvent) (before log : Log) → IsAsBefore w w0 w1
    → (w.loads w2 ≡ told.loads ++ w.loads w1) × (w.looks w2 ≡ told.looks ++ w.looks w1) × (w.changes w2 ≡ told.changes ++ w.changes w1)
    → (w.seen w2 ≡ w.seen w1) × (w.standing w2 ≡ w.standing w1) → (w.is_in w1 → w.is_in w2)
    → (told.loads ≡ []) × (told.looks ≡ []) × (told.changes ≡ e ∷ []) → log ≡ e ∷ before → OnlyMakesLast w w0 w2 log
makes_last w w0 w1 w2 told e before log first learnt same inside new is = let a = first.0.0.0 in (
  record {
    event = e;
    before = before;
    is = is;
    made = (same.0 ∙ a.0, same.1 ∙ a.1, λ h. inside (a.2 h), learnt.2 ∙ (ap (λ (l : Log). l ++ w.changes w1) new.2 ∙ ap (λ (l : Log). e ∷ l) a.3));
  },
  learnt.1 ∙ (ap (λ (l : List Look). l ++ w.looks w1) new.1 ∙ first.0.0.1),
  learnt.0 ∙ (ap (λ (l : List Log). l ++ w.loads w1) new.0 ∙ first.0.1),
)

-- a push by the seat that took in the record
pub push_same : (v u w : View) → w.chains ≡ v.chains → w.object ≡ u.object → push_by v u ≡ push_of w
push_same v u w chains object =
    ap (λ (l : List ChainRight). Object (Push (own_in l).chain (object_in u.object) (cell_in u.object) (payload_in u.object))) (sym chains)
    ∙ ap (λ (x : RecordRight). Object (Push (own_in w.chains).chain (object_in x) (cell_in x) (payload_in x))) (sym object)

-- where a writer stands: the record before a place of its chain, and the object after it with its record
pub record StandsAt (v : View) (before : Option ℕ) (cell : ℕ) (p : Option ObjectId) (o : ObjectId) : Type 0 where
  pub there : IsThere v before p
  pub at : IsBefore v p o
  pub lies : (record_of v.seen o).0 ≡ cell

module _ (before : Option ℕ) (cell : ℕ) (p : Option ObjectId) (o : ObjectId) where
  -- it stands there still, where it knows as much
  pub at_still : (v w : View) → w.seen ≡ v.seen → w.chains ≡ v.chains → StandsAt v before cell p o → StandsAt w before cell p o
  at_still v w seen chains s = record {
    there = there_still before p s.there;
    at = subst (λ (l : List ChainRight). IsPlace (own_in l).objects p × (follows (own_in l).objects p ≡ Some o)) (sym chains) s.at;
    lies = ap (λ (l : Log). (record_of l o).0) seen ∙ s.lies;
  }
    where
      there_still : (b : Option ℕ) (q : Option ObjectId) → IsThere v b q → IsThere w b q
      there_still None None there = there
      there_still None (Some q) there = absurd there
      there_still (Some j) None there = absurd there
      there_still (Some j) (Some q) there = ap (λ (l : Log). (record_of l q).0) seen ∙ there

  -- and after a load
  pub at_after : {S : Type 0} (qsbr : Bool) (allows : Log → LiveEvent → Type 0) (f n : Me S View) → Went qsbr allows f.0 f n → IsListed f.0 → StandsAt f.0 before cell p o → StandsAt n.0 before cell p o
  at_after qsbr allows f n went listed s = let passed = there_after qsbr allows f.0 f n went listed refl before p o s.there s.at in record {
    there = passed.0;
    at = passed.1;
    lies = ap (λ (q : ℕ × List ℕ). q.0) (note_same qsbr allows f.0 f n went listed o (follows_has (own_in f.0.chains).objects p o s.at.1)) ∙ s.lies;
  }

-- what a walk found: the object at an index, and where the writer stands before it
abbrev pub Finds : {S : Type 0} → Me S View → Me S View → ℕ → Option ℕ → ℕ → Type 0
Finds m f index before cell = (p : Option ObjectId) × (o : ObjectId) × (slice_get (list_in m.0) index ≡ Some o) × IsThere f.0 before p × IsBefore f.0 p o × ((record_of f.0.seen o).0 ≡ cell)

pub stands : {S : Type 0} (m f : Me S View) (index : ℕ) (before : Option ℕ) (cell : ℕ) (found : Finds m f index before cell) → StandsAt f.0 before cell found.0 found.1
stands m f index before cell found = record { there = found.3; at = found.4; lies = found.5 }

pub cut_same : (v w : View) (o q : ObjectId) → w.chains ≡ v.chains → q ≡ o → cut_of q v ≡ cut_of o w
cut_same v w o q chains is = ap (λ (l : List ChainRight). Object (Cut (own_in l).chain q)) (sym chains) ∙ ap (λ (p : ObjectId). Object (Cut (own_in w.chains).chain p)) is

pub replace_same : (v u w : View) (o q : ObjectId) → w.chains ≡ v.chains → w.object ≡ u.object → q ≡ o → replace_by q v u ≡ replace_of o w
replace_same v u w o q chains object is =
    ap (λ (l : List ChainRight). Object (Replace (own_in l).chain q (object_in u.object) (cell_in u.object) (payload_in u.object))) (sym chains)
    ∙ (ap (λ (x : RecordRight). Object (Replace (own_in w.chains).chain q (object_in x) (cell_in x) (payload_in x))) (sym object)
    ∙ ap (λ (p : ObjectId). Object (Replace (own_in w.chains).chain p (object_in w.object) (cell_in w.object) (payload_in w.object))) is)

-- the seats after an object left the chain, and these objects were left: the writer's, which knew as much as m before,
-- and the one with the right to what left
pub record Leaves {S : Type 0} (m x z u : Me S View) (cell : ℕ) (o : ObjectId) (left : ObjectId → List ObjectId) : Type 0 where
  pub object : object_in u.0.object ≡ o
  pub unlinked : IsUnlinked u.0
  pub lies : cell_in u.0.object ≡ cell
  pub list : own_in z.0.chains ≡ record (own_in m.0.chains) { head = (own_in z.0.chains).head; objects = left (object_in u.0.object) }
  pub lent : lent_chains z.0.chains ≡ lent_chains m.0.chains
  pub writer : IsWriter z.0
  pub sizes : (z.0.sizes ≡ m.0.sizes) × (u.0.sizes ≡ m.0.sizes)
  pub seen : (z.0.seen ≡ x.0.seen) × (u.0.seen ≡ x.0.seen)
  pub lends : (z.1 ≡ m.1) × (u.1 ≡ [])

module _ {S : Type 0} (m w x z u : Me S View) (b : View) (cell : ℕ) (o : ObjectId) (left : ObjectId → List ObjectId) (h : ℕ) where
  pub leaves : (w.0.sizes ≡ m.0.sizes) × (w.1 ≡ m.1) → (b.sizes ≡ w.0.sizes) × (b.object ≡ Unlinked cell o) × (b.chains ≡ record (own_in m.0.chains) { head = h; objects = left o } ∷ lent_chains m.0.chains)
      → (x.1 ≡ w.1) × IsNow b x.0 → u ≡ (object_alone x.0, []) → z ≡ (but_object x.0, x.1) → Leaves m x z u cell o left
  leaves as_before now did job rest =
      let right : u.0.object ≡ Unlinked cell o = ap (λ (y : Me S View). y.0.object) job ∙ (ap (λ (y : View). y.object) did.1 ∙ now.1) in
      let is : object_in u.0.object ≡ o = ap object_in right in
      let chains : z.0.chains ≡ record (own_in m.0.chains) { head = h; objects = left o } ∷ lent_chains m.0.chains = ap (λ (y : Me S View). y.0.chains) rest ∙ (ap (λ (y : View). y.chains) did.1 ∙ now.2) in
      let own : own_in z.0.chains ≡ record (own_in m.0.chains) { head = h; objects = left o } = ap own_in chains in
      let sizes : x.0.sizes ≡ m.0.sizes = ap (λ (y : View). y.sizes) did.1 ∙ (now.0 ∙ as_before.0) in record {
        object = is;
        unlinked = subst (λ (r : RecordRight). r ≡ Unlinked (cell_in r) (object_in r)) (sym right) refl;
        lies = ap cell_in right;
        list = own ∙ (λ i. record (own_in m.0.chains) { head = sym (ap (λ (y : ChainRight). y.head) own) i; objects = left (sym is i) });
        lent = ap lent_chains chains;
        writer = subst (λ (l : List ChainRight). l ≡ own_in l ∷ lent_chains l) (sym chains) refl;
        sizes = (ap (λ (y : Me S View). y.0.sizes) rest ∙ sizes, ap (λ (y : Me S View). y.0.sizes) job ∙ sizes);
        seen = (ap (λ (y : Me S View). y.0.seen) rest, ap (λ (y : Me S View). y.0.seen) job);
        lends = (ap (λ (y : Me S View). y.1) rest ∙ (did.0 ∙ as_before.1), ap (λ (y : Me S View). y.1) job);
      }

-- a cut, by a writer that found the object and then heard what its caller's seat has seen
module _ {S : Type 0} (qsbr : Bool) (allows : Log → LiveEvent → Type 0) (m f w : Me S View) (t : View) (index : ℕ) (before : Option ℕ) (cell : ℕ) (found : Finds m f index before cell) (walked : Went qsbr allows m.0 m f) (heard : w ≡ (heard_view f.0 t, f.1)) where
  pub cut_stands : StandsAt w.0 before cell found.0 found.1
  cut_stands = at_still before cell found.0 found.1 f.0 w.0 (ap (λ (y : Me S View). y.0.seen) heard) (ap (λ (y : Me S View). y.0.chains) heard) (stands m f index before cell found)

  pub cut_chains : w.0.chains ≡ m.0.chains
  cut_chains = ap (λ (y : Me S View). y.0.chains) heard ∙ ap (λ (y : View). y.chains) walked.1

  pub cut_leaves : (x z u : Me S View) → ((p : Option ObjectId) (o : ObjectId) → IsThere w.0 before p → IsBefore w.0 p o → (record_of w.0.seen o).0 ≡ cell → Writes qsbr allows (cut_view p o (ref (objects_of w.0.seen) (next_of (own_in w.0.chains).objects o)) w.0) (cut_of o w.0) w x)
      → u ≡ (object_alone x.0, []) → z ≡ (but_object x.0, x.1) → Leaves m x z u cell found.1 (λ q. without_object q (list_in m.0))
  cut_leaves x z u cut job rest =
      let p = found.0 in let o = found.1 in let s = cut_stands in
      let did = cut p o s.there s.at s.lies in
      let next : ℕ = ref (objects_of w.0.seen) (next_of (own_in w.0.chains).objects o) in
      leaves m w x z u (cut_view p o next w.0) cell o (λ q. without_object q (list_in m.0)) (head_after p next (own_in m.0.chains).head)
      (ap (λ (y : Me S View). y.0.sizes) heard ∙ ap (λ (y : View). y.sizes) walked.1, ap (λ (y : Me S View). y.1) heard ∙ walked.0)
      (refl, ap (λ (n : ℕ). Unlinked n o) s.lies, ap (λ (l : List ChainRight). record (own_in l) { head = head_after p next (own_in l).head; objects = without_object o (own_in l).objects } ∷ lent_chains l) cut_chains)
      (did.0, did.1) job rest

-- a replacement, by a writer that found the object, loaded its link, and then took in the record
module _ {S : Type 0} (qsbr : Bool) (allows : Log → LiveEvent → Type 0) (m f n w : Me S View) (t : View) (index : ℕ) (before : Option ℕ) (cell : ℕ) (found : Finds m f index before cell) (walked : Went qsbr allows m.0 m f) (listed : IsListed f.0) (went : Went qsbr allows f.0 f n) (took : w ≡ (taken_view n.0 t, n.1)) where
  pub replace_stands : StandsAt w.0 before cell found.0 found.1
  replace_stands = at_still before cell found.0 found.1 n.0 w.0 (ap (λ (y : Me S View). y.0.seen) took) (ap (λ (y : Me S View). y.0.chains) took) (at_after before cell found.0 found.1 qsbr allows f n went listed (stands m f index before cell found))

  pub replace_chains : w.0.chains ≡ m.0.chains
  replace_chains = ap (λ (y : Me S View). y.0.chains) took ∙ (ap (λ (y : View). y.chains) went.1 ∙ ap (λ (y : View). y.chains) walked.1)

  pub replace_leaves : (x z u : Me S View) (owned : View) (head : ℕ) → w.0.object ≡ owned.object → ((p : Option ObjectId) (o : ObjectId) → IsThere w.0 before p → IsBefore w.0 p o → Writes qsbr allows (replaced_view p o head w.0) (replace_of o w.0) w x)
      → u ≡ (object_alone x.0, []) → z ≡ (but_object x.0, x.1) → Leaves m x z u cell found.1 (λ q. replaced q (object_in owned.object) (list_in m.0))
  replace_leaves x z u owned head object replace job rest =
      let p = found.0 in let o = found.1 in let s = replace_stands in
      let did = replace p o s.there s.at in
      leaves m w x z u (replaced_view p o head w.0) cell o (λ q. replaced q (object_in owned.object) (list_in m.0)) (head_after p head (own_in m.0.chains).head)
      (ap (λ (y : Me S View). y.0.sizes) took ∙ (ap (λ (y : View). y.sizes) went.1 ∙ ap (λ (y : View). y.sizes) walked.1), ap (λ (y : Me S View). y.1) took ∙ (went.0 ∙ walked.0)) (
        refl,
        ap (λ (n : ℕ). Unlinked n o) s.lies,
        ap (λ (l : List ChainRight). record (own_in l) { head = head_after p head (own_in l).head; objects = replaced o (object_in w.0.object) (own_in l).objects } ∷ lent_chains l) replace_chains
            ∙ ap (λ (r : RecordRight). record (own_in m.0.chains) { head = head_after p head (own_in m.0.chains).head; objects = replaced o (object_in r) (list_in m.0) } ∷ lent_chains m.0.chains) object,
      )
      (did.0, did.1) job rest

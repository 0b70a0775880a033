-- The words and the bookkeeping of objects beside the machine's lists, and what a splice and a fresh object keep of it.
use Rattle.world_state.proofs.Cited.{◌≡◌, ◌≢◌, ◌⊎◌, inl, inr, ⊎_elim, ℕ, ◌<◌, ◌%◌, ◌==◌, true, false, List, length, Option, Some, None, refl, sym, ap, ◌∙◌, subst, eqb_tells, ObjectId, In, IsPlace, follows_has, decide_place, Spliced, ChainKept, Written, chain_framed, chain_spliced, option_or}
use Rattle.world_state.specs.declared.object.Stage.TheVariants.{Fresh, Linked, Cut as IsCut}
use Rattle.world_state.specs.declared.object.ObjectState.{ObjectState}
use Rattle.world_state.specs.declared.updater.Publishing.{Publishing}
use Rattle.world_state.specs.declared.updater.Publishing.TheVariants.{Push as Pushes, Replace as Replaces}
use Rattle.world_state.specs.declared.object.Splice.{Splice}
use Rattle.world_state.specs.Objects.{spliced_objects, spliced_heads}
use Rattle.world_state.proofs.Writes.{head_of, link_of, before_of, stage_of, chain_of, within, head_same, head_kept, head_stored, length_heads, link_same, link_stored, before_entered, before_marked, before_same, stage_entered, stage_left, stage_same, spliced_chain, spliced_length}

-- the head, or an object's link
abbrev pub word_of : List (Option ObjectId) → List ObjectState → ℕ → Option ObjectId → Option ObjectId
word_of heads os c None = head_of heads c
word_of heads os c (Some o) = link_of os o

pub record LinksKept (heads : List (Option ObjectId)) (os : List ObjectState) (chain : ℕ → List ObjectId) (used cut : List ObjectId) (successor : ObjectId → Option ObjectId) : Type 0 where
  pub chains : (c : ℕ) → ChainKept (chain c) (word_of heads os c) (before_of os)
  pub linked : (c : ℕ) (o : ObjectId) → In (chain c) o → (stage_of os o ≡ Linked) × (chain_of os o ≡ c) × (c < length heads)
  pub links : (o : ObjectId) → stage_of os o ≡ Linked → In (chain (chain_of os o)) o
  pub was_cut : (o : ObjectId) → In cut o → (stage_of os o ≡ IsCut) × (link_of os o ≡ successor o)
  pub cuts : (o : ObjectId) → stage_of os o ≡ IsCut → In cut o
  pub used_known : (o : ObjectId) → In used o → stage_of os o ≢ Fresh
  pub targets : (o f : ObjectId) → stage_of os o ≡ IsCut → link_of os o ≡ Some f → stage_of os f ≢ Fresh

abbrev pub FreshIn : List ObjectState → ObjectId → Type 0
FreshIn os m = (stage_of os m ≡ Fresh) × (m.0 < length os)

abbrev pub PlaceKept : List (Option ObjectId) → List ObjectState → ℕ → ℕ → Publishing → Type 0
PlaceKept heads os n u (Pushes m) = FreshIn os m × (chain_of os m % n ≡ u) × (chain_of os m < length heads) × (link_of os m ≡ head_of heads (chain_of os m))
PlaceKept heads os n u (Replaces k m) = FreshIn os m × (chain_of os m % n ≡ u) × (stage_of os k ≡ Linked) × (chain_of os k ≡ chain_of os m) × (link_of os m ≡ link_of os k)

linked_fresh : Linked ≡ Fresh → ⊥
linked_fresh e = cc

linked_cut : Linked ≡ IsCut → ⊥
linked_cut e = cc

cut_fresh : IsCut ≡ Fresh → ⊥
cut_fresh e = cc

pub decide_number : (m n : ℕ) → (m ≡ n) ⊎ (m ≢ n)
decide_number m n = ⊎_elim (λ (y : ((m == n) ≡ true) × (m ≡ n)). inl y.1) (λ (y : ((m == n) ≡ false) × (m ≢ n)). inr y.1) (eqb_tells m n)

-- what a splice is, of a world that was kept
pub record Fits (heads : List (Option ObjectId)) (os : List ObjectState) (chain : ℕ → List ObjectId) (s : Splice) (ys : List ObjectId) : Type 0 where
  pub spliced : Spliced (chain s.chain) ys s.before s.after s.leaves s.enters
  pub in_chains : s.chain < length heads
  pub fresh : (m : ObjectId) → s.enters ≡ Some m → FreshIn os m × (chain_of os m ≡ s.chain) × (link_of os m ≡ s.after)

-- what the machine's lists are then
pub record Follows (chain chain' : ℕ → List ObjectId) (used used' cut cut' : List ObjectId) (successor successor' : ObjectId → Option ObjectId) (s : Splice) (ys : List ObjectId) : Type 0 where
  pub chain_is : chain' s.chain ≡ ys
  pub chain_else : (d : ℕ) → d ≢ s.chain → chain' d ≡ chain d
  pub used_is : (o : ObjectId) → In used' o → (s.enters ≡ Some o) ⊎ In used o
  pub cut_is : (o : ObjectId) → In cut' o → (s.leaves ≡ Some o) ⊎ In cut o
  pub cut_on : (o : ObjectId) → In cut o → In cut' o
  pub cut_new : (o : ObjectId) → s.leaves ≡ Some o → In cut' o × (successor' o ≡ s.after)
  pub successor_else : (o : ObjectId) → s.leaves ≢ Some o → successor' o ≡ successor o

module _ (heads : List (Option ObjectId)) (os : List ObjectState) (chain : ℕ → List ObjectId) (used cut : List ObjectId) (successor : ObjectId → Option ObjectId) (s : Splice) (ys : List ObjectId) (k : LinksKept heads os chain used cut successor) (fits : Fits heads os chain s ys) where
  abbrev os' : List ObjectState
  os' = spliced_objects os s

  abbrev heads' : List (Option ObjectId)
  heads' = spliced_heads heads s

  inside : (c : ℕ) (o : ObjectId) → In (chain c) o → o.0 < length os
  inside c o h = within os o (λ e. linked_fresh (sym (k.linked c o h).0 ∙ e))

  before_has : (o : ObjectId) → s.before ≡ Some o → In (chain s.chain) o
  before_has o e = subst (IsPlace (chain s.chain)) e fits.spliced.place

  after_has : (o : ObjectId) → s.after ≡ Some o → In (chain s.chain) o
  after_has o e = by s.leaves refl
    where
      by : (l : Option ObjectId) → s.leaves ≡ l → In (chain s.chain) o
      by None f = follows_has (chain s.chain) s.before o (fits.spliced.was ∙ ap (λ (x : Option ObjectId). option_or x s.after) f ∙ e)
      by (Some l) f = follows_has (chain s.chain) (Some l) o ((fits.spliced.left l f).1 ∙ e)

  left_has : (o : ObjectId) → s.leaves ≡ Some o → In (chain s.chain) o
  left_has o e = (fits.spliced.left o e).0

  enters_new : (o : ObjectId) → s.enters ≡ Some o → ¬ In (chain s.chain) o
  enters_new o e = (fits.spliced.entered o e).1

  before_stays : (o : ObjectId) → s.before ≡ Some o → s.leaves ≢ Some o
  before_stays o e f = by (fits.spliced.back o (subst (IsPlace ys) e fits.spliced.place_after))
    where
      by : (s.enters ≡ Some o) ⊎ (In (chain s.chain) o × (s.leaves ≢ Some o)) → ⊥
      by (inl g) = enters_new o g (left_has o f)
      by (inr g) = g.1 f

  -- objects of other chains
  abbrev Foreign : ObjectId → Type 0
  Foreign o = (s.before ≢ Some o) × (s.after ≢ Some o) × (s.leaves ≢ Some o) × (s.enters ≢ Some o)

  pub foreign : (o : ObjectId) → chain_of os o ≢ s.chain → Foreign o
  foreign o apart = (
    (λ e. apart (k.linked s.chain o (before_has o e)).1),
    (λ e. apart (k.linked s.chain o (after_has o e)).1),
    (λ e. apart (k.linked s.chain o (left_has o e)).1),
    (λ e. apart (fits.fresh o e).1),
  )

  pub monotone : (o : ObjectId) → stage_of os o ≢ Fresh → stage_of os' o ≢ Fresh
  monotone o known e = by (decide_place s.enters (Some o)) (decide_place s.leaves (Some o))
    where
      by : (s.enters ≡ Some o) ⊎ (s.enters ≢ Some o) → (s.leaves ≡ Some o) ⊎ (s.leaves ≢ Some o) → ⊥
      by (inl f) l = known (fits.fresh o f).0.0
      by (inr n) (inl f) = cut_fresh (sym (stage_left os s o f n (inside s.chain o (left_has o f))) ∙ e)
      by (inr n) (inr m) = known (sym (stage_same os s o m n) ∙ e)

  writes : Written (word_of heads os s.chain) (word_of heads' os' s.chain) (before_of os) (before_of os') s.before s.after s.enters
  writes = record {
    stored = stored s.before refl;
    others = others;
    fresh = λ m e. ((fits.fresh m e).2, before_entered os s m e (fits.fresh m e).0.1);
    marked = λ o e apart. before_marked os s o e apart (inside s.chain o (after_has o e));
    unmarked = λ o apart apart'. before_same os s o apart apart';
  }
    where
      stored : (p : Option ObjectId) → s.before ≡ p → word_of heads' os' s.chain p ≡ option_or s.enters s.after
      stored None e = head_stored heads s e fits.in_chains
      stored (Some o) e = link_stored os s o e (inside s.chain o (before_has o e))

      others : (q : Option ObjectId) → q ≢ s.before → word_of heads' os' s.chain q ≡ word_of heads os s.chain q
      others None apart = head_kept heads s s.chain (λ e. apart (sym e))
      others (Some o) apart = link_same os s o (λ e. apart (sym e))

  module _ (chain' : ℕ → List ObjectId) (used' cut' : List ObjectId) (successor' : ObjectId → Option ObjectId) (f : Follows chain chain' used used' cut cut' successor successor' s ys) where
    chains' : (c : ℕ) → (c ≡ s.chain) ⊎ (c ≢ s.chain) → ChainKept (chain' c) (word_of heads' os' c) (before_of os')
    chains' c (inl e) =
        subst (λ (d : ℕ). ChainKept (chain' d) (word_of heads' os' d) (before_of os')) (sym e)
        (subst (λ (xs : List ObjectId). ChainKept xs (word_of heads' os' s.chain) (before_of os')) (sym f.chain_is)
        (chain_spliced (chain s.chain) ys (word_of heads os s.chain) (word_of heads' os' s.chain) (before_of os) (before_of os') s.before s.after s.leaves s.enters fits.spliced writes (k.chains s.chain)))
    chains' c (inr apart) =
        subst (λ (xs : List ObjectId). ChainKept xs (word_of heads' os' c) (before_of os')) (sym (f.chain_else c apart))
        (chain_framed (chain c) (word_of heads os c) (word_of heads' os' c) (before_of os) (before_of os') same (λ o h. let n = other o h in before_same os s o n.1 n.3) (k.chains c))
      where
        other : (o : ObjectId) → In (chain c) o → Foreign o
        other o h = foreign o (λ e. apart (sym (k.linked c o h).1 ∙ e))

        same : (q : Option ObjectId) → IsPlace (chain c) q → word_of heads' os' c q ≡ word_of heads os c q
        same None at_q = head_same heads s c apart
        same (Some o) h = link_same os s o (other o h).0

    linked' : (c : ℕ) (o : ObjectId) → In (chain' c) o → (c ≡ s.chain) ⊎ (c ≢ s.chain) → (stage_of os' o ≡ Linked) × (chain_of os' o ≡ c) × (c < length heads')
    linked' c o h (inr apart) =
        let l = k.linked c o (subst (λ (xs : List ObjectId). In xs o) (f.chain_else c apart) h) in
        let n = foreign o (λ e. apart (sym l.1 ∙ e)) in
        (stage_same os s o n.2 n.3 ∙ l.0, spliced_chain os s o ∙ l.1, subst (λ m. c < m) (sym (length_heads heads s)) l.2)
    linked' c o h (inl e) = by (fits.spliced.back o (subst (λ (xs : List ObjectId). In xs o) f.chain_is (subst (λ d. In (chain' d) o) e h)))
      where
        short : c < length heads'
        short = subst (λ m. c < m) (sym (length_heads heads s)) (subst (λ d. d < length heads) (sym e) fits.in_chains)

        by : (s.enters ≡ Some o) ⊎ (In (chain s.chain) o × (s.leaves ≢ Some o)) → (stage_of os' o ≡ Linked) × (chain_of os' o ≡ c) × (c < length heads')
        by (inl g) = let m = fits.fresh o g in (stage_entered os s o g m.0.1, spliced_chain os s o ∙ m.1 ∙ sym e, short)
        by (inr g) = let l = k.linked s.chain o g.0 in (stage_same os s o g.1 (λ n. enters_new o n g.0) ∙ l.0, spliced_chain os s o ∙ l.1 ∙ sym e, short)

    links' : (o : ObjectId) → stage_of os' o ≡ Linked → In (chain' (chain_of os' o)) o
    links' o is = subst (λ c. In (chain' c) o) (sym (spliced_chain os s o)) (by (decide_place s.enters (Some o)) (decide_place s.leaves (Some o)) (decide_number (chain_of os o) s.chain))
      where
        at_home : chain_of os o ≡ s.chain → In ys o → In (chain' (chain_of os o)) o
        at_home e h = subst (λ c. In (chain' c) o) (sym e) (subst (λ (xs : List ObjectId). In xs o) (sym f.chain_is) h)

        by : (s.enters ≡ Some o) ⊎ (s.enters ≢ Some o) → (s.leaves ≡ Some o) ⊎ (s.leaves ≢ Some o) → (chain_of os o ≡ s.chain) ⊎ (chain_of os o ≢ s.chain) → In (chain' (chain_of os o)) o
        by (inl e) l c = at_home (fits.fresh o e).1 (fits.spliced.entered o e).0
        by (inr n) (inl e) c = absurd (linked_cut (sym is ∙ stage_left os s o e n (inside s.chain o (left_has o e))))
        by (inr n) (inr m) (inl e) = at_home e (fits.spliced.on o (subst (λ c. In (chain c) o) e (k.links o (sym (stage_same os s o m n) ∙ is))) m)
        by (inr n) (inr m) (inr apart) = subst (λ (xs : List ObjectId). In xs o) (sym (f.chain_else (chain_of os o) apart)) (k.links o (sym (stage_same os s o m n) ∙ is))

    -- an object that was cut before
    cut_apart : (o : ObjectId) → stage_of os o ≡ IsCut → Foreign o
    cut_apart o is = (
      (λ e. linked_cut (sym (k.linked s.chain o (before_has o e)).0 ∙ is)),
      (λ e. linked_cut (sym (k.linked s.chain o (after_has o e)).0 ∙ is)),
      (λ e. linked_cut (sym (k.linked s.chain o (left_has o e)).0 ∙ is)),
      (λ e. cut_fresh (sym is ∙ (fits.fresh o e).0.0)),
    )

    -- the object that is cut now
    left_link : (o : ObjectId) → s.leaves ≡ Some o → link_of os' o ≡ s.after
    left_link o e = link_same os s o (λ b. before_stays o b e) ∙ (k.chains s.chain).words (Some o) (left_has o e) ∙ (fits.spliced.left o e).1

    left_stage : (o : ObjectId) → s.leaves ≡ Some o → stage_of os' o ≡ IsCut
    left_stage o e = stage_left os s o e (λ n. enters_new o n (left_has o e)) (inside s.chain o (left_has o e))

    was_cut' : (o : ObjectId) → In cut' o → (s.leaves ≡ Some o) ⊎ (s.leaves ≢ Some o) → (stage_of os' o ≡ IsCut) × (link_of os' o ≡ successor' o)
    was_cut' o h (inl e) = (left_stage o e, left_link o e ∙ sym (f.cut_new o e).1)
    was_cut' o h (inr apart) = by (f.cut_is o h)
      where
        by : (s.leaves ≡ Some o) ⊎ In cut o → (stage_of os' o ≡ IsCut) × (link_of os' o ≡ successor' o)
        by (inl e) = absurd (apart e)
        by (inr g) =
            let w = k.was_cut o g in
            let n = cut_apart o w.0 in
            (stage_same os s o n.2 n.3 ∙ w.0, link_same os s o n.0 ∙ w.1 ∙ sym (f.successor_else o apart))

    -- cut now, or before
    cut_when : (o : ObjectId) → stage_of os' o ≡ IsCut → (s.leaves ≡ Some o) ⊎ (stage_of os o ≡ IsCut)
    cut_when o is = by (decide_place s.enters (Some o)) (decide_place s.leaves (Some o))
      where
        by : (s.enters ≡ Some o) ⊎ (s.enters ≢ Some o) → (s.leaves ≡ Some o) ⊎ (s.leaves ≢ Some o) → (s.leaves ≡ Some o) ⊎ (stage_of os o ≡ IsCut)
        by n (inl e) = inl e
        by (inl e) (inr m) = absurd (linked_cut (sym (stage_entered os s o e (fits.fresh o e).0.1) ∙ is))
        by (inr n) (inr m) = inr (sym (stage_same os s o m n) ∙ is)

    cuts' : (o : ObjectId) → (s.leaves ≡ Some o) ⊎ (stage_of os o ≡ IsCut) → In cut' o
    cuts' o (inl e) = (f.cut_new o e).0
    cuts' o (inr is) = f.cut_on o (k.cuts o is)

    used_known' : (o : ObjectId) → (s.enters ≡ Some o) ⊎ In used o → stage_of os' o ≢ Fresh
    used_known' o (inl e) is = linked_fresh (sym (stage_entered os s o e (fits.fresh o e).0.1) ∙ is)
    used_known' o (inr h) is = monotone o (k.used_known o h) is

    targets' : (o t : ObjectId) → (s.leaves ≡ Some o) ⊎ (stage_of os o ≡ IsCut) → link_of os' o ≡ Some t → stage_of os t ≢ Fresh
    targets' o t (inl e) l is = linked_fresh (sym (k.linked s.chain t (after_has t (sym (left_link o e) ∙ l))).0 ∙ is)
    targets' o t (inr c) l is = k.targets o t c (sym (link_same os s o (cut_apart o c).0) ∙ l) is

    pub links_spliced : LinksKept heads' os' chain' used' cut' successor'
    links_spliced = record {
      chains = λ c. chains' c (decide_number c s.chain);
      linked = λ c o h. linked' c o h (decide_number c s.chain);
      links = links';
      was_cut = λ o h. was_cut' o h (decide_place s.leaves (Some o));
      cuts = λ o is. cuts' o (cut_when o is);
      used_known = λ o h. used_known' o (f.used_is o h);
      targets = λ o t is l. monotone t (targets' o t (cut_when o is) l);
    }

  -- the place of another updater
  pub place_spliced : (n u v : ℕ) (p : Publishing) → s.chain % n ≡ u → v ≢ u → PlaceKept heads os n v p → PlaceKept heads' os' n v p
  place_spliced n u v (Pushes m) home apart h =
      let away : chain_of os m ≢ s.chain = λ e. apart (sym h.1 ∙ ap (λ c. c % n) e ∙ home) in
      let o = foreign m away in
      let c = spliced_chain os s m in (
        (stage_same os s m o.2 o.3 ∙ h.0.0, subst (λ l. m.0 < l) (sym (spliced_length os s)) h.0.1),
        ap (λ d. d % n) c ∙ h.1,
        subst (λ d. d < length heads') (sym c) (subst (λ l. chain_of os m < l) (sym (length_heads heads s)) h.2),
        link_same os s m o.0 ∙ h.3 ∙ sym (ap (head_of heads') c ∙ head_same heads s (chain_of os m) away),
      )
  place_spliced n u v (Replaces j m) home apart h =
      let away : chain_of os m ≢ s.chain = λ e. apart (sym h.1 ∙ ap (λ c. c % n) e ∙ home) in
      let o = foreign m away in
      let q = foreign j (λ e. away (sym h.3 ∙ e)) in (
        (stage_same os s m o.2 o.3 ∙ h.0.0, subst (λ l. m.0 < l) (sym (spliced_length os s)) h.0.1),
        ap (λ d. d % n) (spliced_chain os s m) ∙ h.1,
        stage_same os s j q.2 q.3 ∙ h.2,
        spliced_chain os s j ∙ h.3 ∙ sym (spliced_chain os s m),
        link_same os s m o.0 ∙ h.4 ∙ sym (link_same os s j q.0),
      )

-- a write that leaves the chains' words and bookkeeping as they are
pub record Alike (os os' : List ObjectState) : Type 0 where
  pub link : (o : ObjectId) → link_of os' o ≡ link_of os o
  pub before : (o : ObjectId) → before_of os' o ≡ before_of os o
  pub stage : (o : ObjectId) → stage_of os' o ≡ stage_of os o
  pub chain : (o : ObjectId) → chain_of os' o ≡ chain_of os o
  pub count : length os' ≡ length os

pub links_alike : (heads : List (Option ObjectId)) (os os' : List ObjectState) (chain : ℕ → List ObjectId) (used cut : List ObjectId) (successor : ObjectId → Option ObjectId) →
    Alike os os' → LinksKept heads os chain used cut successor → LinksKept heads os' chain used cut successor
links_alike heads os os' chain used cut successor a k = record {
  chains = λ c. chain_framed (chain c) (word_of heads os c) (word_of heads os' c) (before_of os) (before_of os') (words c) (λ o _. a.before o) (k.chains c);
  linked = λ c o h. let l = k.linked c o h in (a.stage o ∙ l.0, a.chain o ∙ l.1, l.2);
  links = λ o is. subst (λ c. In (chain c) o) (sym (a.chain o)) (k.links o (sym (a.stage o) ∙ is));
  was_cut = λ o h. let w = k.was_cut o h in (a.stage o ∙ w.0, a.link o ∙ w.1);
  cuts = λ o is. k.cuts o (sym (a.stage o) ∙ is);
  used_known = λ o h e. k.used_known o h (sym (a.stage o) ∙ e);
  targets = λ o f is l e. k.targets o f (sym (a.stage o) ∙ is) (sym (a.link o) ∙ l) (sym (a.stage f) ∙ e);
}
  where
    words : (c : ℕ) (q : Option ObjectId) → IsPlace (chain c) q → word_of heads os' c q ≡ word_of heads os c q
    words c None h = refl
    words c (Some o) h = a.link o

pub place_alike : (heads : List (Option ObjectId)) (os later : List ObjectState) (n v : ℕ) (p : Publishing) → Alike os later → PlaceKept heads os n v p → PlaceKept heads later n v p
place_alike heads os later n v (Pushes m) a h = (
  (a.stage m ∙ h.0.0, subst (λ l. m.0 < l) (sym a.count) h.0.1),
  ap (λ d. d % n) (a.chain m) ∙ h.1,
  subst (λ d. d < length heads) (sym (a.chain m)) h.2,
  a.link m ∙ h.3 ∙ sym (ap (head_of heads) (a.chain m)),
)
place_alike heads os later n v (Replaces j m) a h = (
  (a.stage m ∙ h.0.0, subst (λ l. m.0 < l) (sym a.count) h.0.1),
  ap (λ d. d % n) (a.chain m) ∙ h.1,
  a.stage j ∙ h.2,
  a.chain j ∙ h.3 ∙ sym (a.chain m),
  a.link m ∙ h.4 ∙ sym (a.link j),
)

-- Reading the world's lists after a write.
use Rattle.world_state.proofs.Cited.{◌≡◌, ◌≢◌, ◌⊎◌, inl, inr, ⊎_elim, ℕ, zero, suc, ◌<◌, ◌≤◌, List, [], ◌∷◌, ◌++◌, length, get_or, slice_get, slice_set, Option, Some, None, refl, sym, ap, ◌∙◌, subst, arith, get_or-set_other, get_or-set_same, length-set, get_or-append, slice_get-get_or, slice_get_past, ObjectId, option_or, decide}
use Rattle.world_state.specs.declared.object.Stage.{Stage}
use Rattle.world_state.specs.declared.object.Stage.TheVariants.{Fresh, Linked, Cut as IsCut}
use Rattle.world_state.specs.declared.object.Life.{Life}
use Rattle.world_state.specs.declared.object.ObjectState.{ObjectState}
use Rattle.world_state.specs.declared.object.Splice.{Splice}
use Rattle.world_state.specs.Objects.{fresh_object, write_at, written, stored, linked_objects, marked_objects, left_objects, spliced_objects, spliced_heads}

abbrev pub no_object : ObjectState
no_object = fresh_object 0 None

abbrev pub object_at : List ObjectState → ObjectId → ObjectState
object_at os o = get_or os o.0 no_object

abbrev pub head_of : List (Option ObjectId) → ℕ → Option ObjectId
head_of heads c = get_or heads c None

abbrev pub link_of : List ObjectState → ObjectId → Option ObjectId
link_of os o = (object_at os o).link

abbrev pub before_of : List ObjectState → ObjectId → Option ObjectId
before_of os o = (object_at os o).before

abbrev pub stage_of : List ObjectState → ObjectId → Stage
stage_of os o = (object_at os o).stage

abbrev pub chain_of : List ObjectState → ObjectId → ℕ
chain_of os o = (object_at os o).chain

pub get_past : {X : Type 0} (xs : List X) (n : ℕ) (d : X) → length xs ≤ n → get_or xs n d ≡ d
get_past [] n d past = refl
get_past (x ∷ xs) zero d past = absurd (omega arith)
get_past (x ∷ xs) (suc n) d past = get_past xs n d (omega arith)

pub past_or_within : {X : Type 0} (xs : List X) (n : ℕ) → (n < length xs) ⊎ (length xs ≤ n)
past_or_within xs n = by (length xs) n
  where
    by : (k n : ℕ) → (n < k) ⊎ (k ≤ n)
    by zero n = inr (omega arith)
    by (suc k) zero = inl (omega arith)
    by (suc k) (suc n) = ⊎_elim (λ (l : n < k). inl (omega arith)) (λ (g : k ≤ n). inr (omega arith)) (by k n)

pub within : (os : List ObjectState) (o : ObjectId) → stage_of os o ≢ Fresh → o.0 < length os
within os o known = ⊎_elim (λ (l : o.0 < length os). l) (λ (g : length os ≤ o.0). absurd (known (ap (λ (x : ObjectState). x.stage) (get_past os o.0 no_object g)))) (past_or_within os o.0)

pub number_apart : (o p : ObjectId) → o ≢ p → o.0 ≢ p.0
number_apart o p apart e = apart (λ i. record { 0 = e i })

-- an object after a write
written_cases : (os : List ObjectState) (k : ObjectId) (f : ObjectState → ObjectState) →
    ((k.0 < length os) × (written os (Some k) f ≡ slice_set os k.0 (f (object_at os k)))) ⊎ ((length os ≤ k.0) × (written os (Some k) f ≡ os))
written_cases os k f = ⊎_elim
    (λ (l : k.0 < length os). inl (l, ap (write_at os k.0 f) (slice_get-get_or os k.0 no_object l)))
    (λ (g : length os ≤ k.0). inr (g, ap (write_at os k.0 f) (slice_get_past os k.0 g)))
    (past_or_within os k.0)

pub written_same : (os : List ObjectState) (k : ObjectId) (f : ObjectState → ObjectState) → k.0 < length os → object_at (written os (Some k) f) k ≡ f (object_at os k)
written_same os k f inside = by (written_cases os k f)
  where
    by : ((k.0 < length os) × (written os (Some k) f ≡ slice_set os k.0 (f (object_at os k)))) ⊎ ((length os ≤ k.0) × (written os (Some k) f ≡ os)) → object_at (written os (Some k) f) k ≡ f (object_at os k)
    by (inl y) = ap (λ (x : List ObjectState). object_at x k) y.1 ∙ get_or-set_same os k.0 (f (object_at os k)) no_object y.0
    by (inr n) = absurd (omega (arith, n.0, inside))

written_apart : (os : List ObjectState) (k : ObjectId) (f : ObjectState → ObjectState) (o : ObjectId) → o ≢ k → object_at (written os (Some k) f) o ≡ object_at os o
written_apart os k f o apart = by (written_cases os k f)
  where
    by : ((k.0 < length os) × (written os (Some k) f ≡ slice_set os k.0 (f (object_at os k)))) ⊎ ((length os ≤ k.0) × (written os (Some k) f ≡ os)) → object_at (written os (Some k) f) o ≡ object_at os o
    by (inl y) = ap (λ (x : List ObjectState). object_at x o) y.1 ∙ get_or-set_other os k.0 o.0 (f (object_at os k)) no_object (number_apart o k apart)
    by (inr n) = ap (λ (x : List ObjectState). object_at x o) n.1

pub written_other : (os : List ObjectState) (q : Option ObjectId) (f : ObjectState → ObjectState) (o : ObjectId) → q ≢ Some o → object_at (written os q f) o ≡ object_at os o
written_other os None f o apart = refl
written_other os (Some k) f o apart = written_apart os k f o (λ e. apart (ap Some (sym e)))

-- what a write leaves as it is stays
pub written_keeps : {X : Type 0} (g : ObjectState → X) (os : List ObjectState) (q : Option ObjectId) (f : ObjectState → ObjectState) (o : ObjectId) → ((x : ObjectState) → g (f x) ≡ g x) → g (object_at (written os q f) o) ≡ g (object_at os o)
written_keeps g os None f o same = refl
written_keeps g os (Some k) f o same = by (decide o k) (past_or_within os k.0)
  where
    by : (o ≡ k) ⊎ (o ≢ k) → (k.0 < length os) ⊎ (length os ≤ k.0) → g (object_at (written os (Some k) f) o) ≡ g (object_at os o)
    by (inl e) (inl l) = ap (λ (x : ObjectId). g (object_at (written os (Some k) f) x)) e ∙ ap g (written_same os k f l) ∙ same (object_at os k) ∙ ap (λ (x : ObjectId). g (object_at os x)) (sym e)
    by (inl e) (inr n) = ap (λ (x : List ObjectState). g (object_at x o)) (ap (write_at os k.0 f) (slice_get_past os k.0 n))
    by (inr apart) d = ap g (written_apart os k f o apart)

pub length_written : (os : List ObjectState) (q : Option ObjectId) (f : ObjectState → ObjectState) → length (written os q f) ≡ length os
length_written os None f = refl
length_written os (Some k) f = by (slice_get os k.0)
  where
    by : (x : Option ObjectState) → length (write_at os k.0 f x) ≡ length os
    by None = refl
    by (Some x) = length-set os k.0 (f x)

-- the four writes of a splice
pub spliced_length : (os : List ObjectState) (s : Splice) → length (spliced_objects os s) ≡ length os
spliced_length os s =
    length_written (left_objects (marked_objects (linked_objects os s) s) s) s.enters _
    ∙ length_written (marked_objects (linked_objects os s) s) s.leaves _
    ∙ length_written (linked_objects os s) s.after _
    ∙ length_written os s.before _

pub spliced_chain : (os : List ObjectState) (s : Splice) (o : ObjectId) → chain_of (spliced_objects os s) o ≡ chain_of os o
spliced_chain os s o =
    written_keeps (λ x. x.chain) (left_objects (marked_objects (linked_objects os s) s) s) s.enters _ o (λ x. refl)
    ∙ written_keeps (λ x. x.chain) (marked_objects (linked_objects os s) s) s.leaves _ o (λ x. refl)
    ∙ written_keeps (λ x. x.chain) (linked_objects os s) s.after _ o (λ x. refl)
    ∙ written_keeps (λ x. x.chain) os s.before _ o (λ x. refl)

link_last : (os : List ObjectState) (s : Splice) (o : ObjectId) → link_of (spliced_objects os s) o ≡ link_of (linked_objects os s) o
link_last os s o =
    written_keeps (λ x. x.link) (left_objects (marked_objects (linked_objects os s) s) s) s.enters _ o (λ x. refl)
    ∙ written_keeps (λ x. x.link) (marked_objects (linked_objects os s) s) s.leaves _ o (λ x. refl)
    ∙ written_keeps (λ x. x.link) (linked_objects os s) s.after _ o (λ x. refl)

pub link_same : (os : List ObjectState) (s : Splice) (o : ObjectId) → s.before ≢ Some o → link_of (spliced_objects os s) o ≡ link_of os o
link_same os s o apart = link_last os s o ∙ ap (λ (x : ObjectState). x.link) (written_other os s.before _ o apart)

pub link_stored : (os : List ObjectState) (s : Splice) (o : ObjectId) → s.before ≡ Some o → o.0 < length os → link_of (spliced_objects os s) o ≡ option_or s.enters s.after
link_stored os s o e inside =
    link_last os s o
    ∙ ap (λ (q : Option ObjectId). link_of (written os q store) o) e
    ∙ ap (λ (x : ObjectState). x.link) (written_same os o store inside)
  where
    store : ObjectState → ObjectState
    store x = record x { link = option_or s.enters s.after }

before_first : (os : List ObjectState) (s : Splice) (o : ObjectId) → before_of (left_objects (marked_objects (linked_objects os s) s) s) o ≡ before_of (marked_objects (linked_objects os s) s) o
before_first os s o = written_keeps (λ x. x.before) (marked_objects (linked_objects os s) s) s.leaves _ o (λ x. refl)

pub before_entered : (os : List ObjectState) (s : Splice) (o : ObjectId) → s.enters ≡ Some o → o.0 < length os → before_of (spliced_objects os s) o ≡ s.before
before_entered os s o e inside =
    ap (λ (q : Option ObjectId). before_of (written prior q store) o) e
    ∙ ap (λ (x : ObjectState). x.before) (written_same prior o store (subst (λ n. o.0 < n) (sym longs) inside))
  where
    prior : List ObjectState
    prior = left_objects (marked_objects (linked_objects os s) s) s

    store : ObjectState → ObjectState
    store x = record x { before = s.before; stage = Linked }

    longs : length prior ≡ length os
    longs = length_written (marked_objects (linked_objects os s) s) s.leaves _ ∙ length_written (linked_objects os s) s.after _ ∙ length_written os s.before _

pub before_marked : (os : List ObjectState) (s : Splice) (o : ObjectId) → s.after ≡ Some o → s.enters ≢ Some o → o.0 < length os → before_of (spliced_objects os s) o ≡ option_or s.enters s.before
before_marked os s o e apart inside =
    ap (λ (x : ObjectState). x.before) (written_other (left_objects (marked_objects (linked_objects os s) s) s) s.enters _ o apart)
    ∙ before_first os s o
    ∙ ap (λ (q : Option ObjectId). before_of (written (linked_objects os s) q store) o) e
    ∙ ap (λ (x : ObjectState). x.before) (written_same (linked_objects os s) o store (subst (λ n. o.0 < n) (sym (length_written os s.before _)) inside))
  where
    store : ObjectState → ObjectState
    store x = record x { before = option_or s.enters s.before }

pub before_same : (os : List ObjectState) (s : Splice) (o : ObjectId) → s.after ≢ Some o → s.enters ≢ Some o → before_of (spliced_objects os s) o ≡ before_of os o
before_same os s o apart apart' =
    ap (λ (x : ObjectState). x.before) (written_other (left_objects (marked_objects (linked_objects os s) s) s) s.enters _ o apart')
    ∙ before_first os s o
    ∙ ap (λ (x : ObjectState). x.before) (written_other (linked_objects os s) s.after _ o apart)
    ∙ written_keeps (λ x. x.before) os s.before _ o (λ x. refl)

stage_first : (os : List ObjectState) (s : Splice) (o : ObjectId) → stage_of (marked_objects (linked_objects os s) s) o ≡ stage_of os o
stage_first os s o = written_keeps (λ x. x.stage) (linked_objects os s) s.after _ o (λ x. refl) ∙ written_keeps (λ x. x.stage) os s.before _ o (λ x. refl)

pub stage_entered : (os : List ObjectState) (s : Splice) (o : ObjectId) → s.enters ≡ Some o → o.0 < length os → stage_of (spliced_objects os s) o ≡ Linked
stage_entered os s o e inside =
    ap (λ (q : Option ObjectId). stage_of (written prior q store) o) e
    ∙ ap (λ (x : ObjectState). x.stage) (written_same prior o store (subst (λ n. o.0 < n) (sym longs) inside))
  where
    prior : List ObjectState
    prior = left_objects (marked_objects (linked_objects os s) s) s

    store : ObjectState → ObjectState
    store x = record x { before = s.before; stage = Linked }

    longs : length prior ≡ length os
    longs = length_written (marked_objects (linked_objects os s) s) s.leaves _ ∙ length_written (linked_objects os s) s.after _ ∙ length_written os s.before _

pub stage_left : (os : List ObjectState) (s : Splice) (o : ObjectId) → s.leaves ≡ Some o → s.enters ≢ Some o → o.0 < length os → stage_of (spliced_objects os s) o ≡ IsCut
stage_left os s o e apart inside =
    ap (λ (x : ObjectState). x.stage) (written_other (left_objects (marked_objects (linked_objects os s) s) s) s.enters _ o apart)
    ∙ ap (λ (q : Option ObjectId). stage_of (written (marked_objects (linked_objects os s) s) q store) o) e
    ∙ ap (λ (x : ObjectState). x.stage) (written_same (marked_objects (linked_objects os s) s) o store (subst (λ n. o.0 < n) (sym longs) inside))
  where
    store : ObjectState → ObjectState
    store x = record x { stage = IsCut }

    longs : length (marked_objects (linked_objects os s) s) ≡ length os
    longs = length_written (linked_objects os s) s.after _ ∙ length_written os s.before _

pub stage_same : (os : List ObjectState) (s : Splice) (o : ObjectId) → s.leaves ≢ Some o → s.enters ≢ Some o → stage_of (spliced_objects os s) o ≡ stage_of os o
stage_same os s o apart apart' =
    ap (λ (x : ObjectState). x.stage) (written_other (left_objects (marked_objects (linked_objects os s) s) s) s.enters _ o apart')
    ∙ ap (λ (x : ObjectState). x.stage) (written_other (marked_objects (linked_objects os s) s) s.leaves _ o apart)
    ∙ stage_first os s o

-- heads
pub head_same : (heads : List (Option ObjectId)) (s : Splice) (c : ℕ) → c ≢ s.chain → head_of (spliced_heads heads s) c ≡ head_of heads c
head_same heads s c apart = by s.before
  where
    by : (q : Option ObjectId) → head_of (stored heads s.chain q (option_or s.enters s.after)) c ≡ head_of heads c
    by None = get_or-set_other heads s.chain c (option_or s.enters s.after) None apart
    by (Some o) = refl

pub head_kept : (heads : List (Option ObjectId)) (s : Splice) (c : ℕ) → s.before ≢ None → head_of (spliced_heads heads s) c ≡ head_of heads c
head_kept heads s c apart = by s.before apart
  where
    by : (q : Option ObjectId) → q ≢ None → head_of (stored heads s.chain q (option_or s.enters s.after)) c ≡ head_of heads c
    by None apart' = absurd (apart' refl)
    by (Some o) apart' = refl

pub head_stored : (heads : List (Option ObjectId)) (s : Splice) → s.before ≡ None → s.chain < length heads → head_of (spliced_heads heads s) s.chain ≡ option_or s.enters s.after
head_stored heads s e inside =
    ap (λ (q : Option ObjectId). head_of (stored heads s.chain q (option_or s.enters s.after)) s.chain) e
    ∙ get_or-set_same heads s.chain (option_or s.enters s.after) None inside

pub length_heads : (heads : List (Option ObjectId)) (s : Splice) → length (spliced_heads heads s) ≡ length heads
length_heads heads s = by s.before
  where
    by : (q : Option ObjectId) → length (stored heads s.chain q (option_or s.enters s.after)) ≡ length heads
    by None = length-set heads s.chain (option_or s.enters s.after)
    by (Some o) = refl

-- a fresh object
pub grown_same : (os : List ObjectState) (x : ObjectState) (o : ObjectId) → o.0 < length os → object_at (os ++ x ∷ []) o ≡ object_at os o
grown_same os x o inside = get_or-append os (x ∷ []) no_object o.0 inside

pub set_past : {X : Type 0} (xs : List X) (i : ℕ) (x : X) → length xs ≤ i → slice_set xs i x ≡ xs
set_past [] i x past = refl
set_past (y ∷ ys) zero x past = absurd (omega arith)
set_past (y ∷ ys) (suc i) x past = ap (λ (zs : List _). y ∷ zs) (set_past ys i x (omega arith))

pub written_within : (os : List ObjectState) (k : ObjectId) (f : ObjectState → ObjectState) (d : ObjectState) → k.0 < length os → written os (Some k) f ≡ slice_set os k.0 (f (get_or os k.0 d))
written_within os k f d inside = ap (write_at os k.0 f) (slice_get-get_or os k.0 d inside)

pub written_past : (os : List ObjectState) (k : ObjectId) (f : ObjectState → ObjectState) → length os ≤ k.0 → written os (Some k) f ≡ os
written_past os k f past = ap (write_at os k.0 f) (slice_get_past os k.0 past)

abbrev pub life_of : List ObjectState → ObjectId → Life
life_of os o = (object_at os o).life

pub spliced_life : (os : List ObjectState) (s : Splice) (o : ObjectId) → life_of (spliced_objects os s) o ≡ life_of os o
spliced_life os s o =
    written_keeps (λ x. x.life) (left_objects (marked_objects (linked_objects os s) s) s) s.enters _ o (λ x. refl)
    ∙ written_keeps (λ x. x.life) (marked_objects (linked_objects os s) s) s.leaves _ o (λ x. refl)
    ∙ written_keeps (λ x. x.life) (linked_objects os s) s.after _ o (λ x. refl)
    ∙ written_keeps (λ x. x.life) os s.before _ o (λ x. refl)

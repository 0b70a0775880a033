-- What becomes of objects, and what that keeps of links and places.
use Rattle.world_state.proofs.Cited.{◌≡◌, ◌≢◌, ◌⊎◌, inl, inr, ⊎_elim, ℕ, zero, suc, ◌-◌, ◌%◌, ◌<◌, ◌≤◌, List, [], ◌∷◌, ◌++◌, length, get_or, Option, Some, None, refl, sym, ap, ◌∙◌, subst, get_or-append_right, ObjectId, In, chain_framed}
use Rattle.world_state.specs.declared.object.Life.{Life}
use Rattle.world_state.specs.declared.object.Life.TheVariants.{Kept}
use Rattle.world_state.specs.declared.object.Mark.{Mark}
use Rattle.world_state.specs.declared.object.ObjectState.{ObjectState}
use Rattle.world_state.specs.declared.object.Splice.{Splice}
use Rattle.world_state.specs.declared.updater.Publishing.{Publishing}
use Rattle.world_state.specs.declared.updater.Publishing.TheVariants.{Push as Pushes, Replace as Replaces}
use Rattle.world_state.specs.Objects.{linked_objects, marked_objects, left_objects, spliced_objects, marked_life}
use Rattle.world_state.proofs.Writes.{no_object, object_at, head_of, link_of, before_of, stage_of, chain_of, past_or_within, get_past, grown_same, written_keeps, written_same, written_other, length_written}
use Rattle.world_state.proofs.Linking.{word_of, LinksKept, FreshIn, PlaceKept}

abbrev pub life_of : List ObjectState → ObjectId → Life
life_of os o = (object_at os o).life

-- what was done with an object shows that it is there
pub life_within : (os : List ObjectState) (o : ObjectId) → life_of os o ≢ Kept → o.0 < length os
life_within os o known = ⊎_elim (λ (l : o.0 < length os). l) (λ (g : length os ≤ o.0). absurd (known (ap (λ (x : ObjectState). x.life) (get_past os o.0 no_object g)))) (past_or_within os o.0)

-- a fresh object, and a splice
pub life_grown : (os : List ObjectState) (x : ObjectState) (o : ObjectId) → x.life ≡ Kept → life_of (os ++ x ∷ []) o ≡ life_of os o
life_grown os x o new = by (past_or_within os o.0)
  where
    kept_at : (n : ℕ) → (get_or (x ∷ []) n no_object).life ≡ Kept
    kept_at zero = new
    kept_at (suc n) = refl

    by : (o.0 < length os) ⊎ (length os ≤ o.0) → life_of (os ++ x ∷ []) o ≡ life_of os o
    by (inl l) = ap (λ (y : ObjectState). y.life) (grown_same os x o l)
    by (inr g) =
        ap (λ (y : ObjectState). y.life) (get_or-append_right os (x ∷ []) o.0 no_object g)
        ∙ kept_at (o.0 - length os)
        ∙ sym (ap (λ (y : ObjectState). y.life) (get_past os o.0 no_object g))

pub life_spliced : (os : List ObjectState) (s : Splice) (o : ObjectId) → life_of (spliced_objects os s) o ≡ life_of os o
life_spliced os s o =
    written_keeps (λ x. x.life) (left_objects (marked_objects (linked_objects os s) s) s) s.enters _ o (λ x. refl)
    ∙ written_keeps (λ x. x.life) (marked_objects (linked_objects os s) s) s.leaves _ o (λ x. refl)
    ∙ written_keeps (λ x. x.life) (linked_objects os s) s.after _ o (λ x. refl)
    ∙ written_keeps (λ x. x.life) os s.before _ o (λ x. refl)

-- the object that is marked, and the others
pub life_marked : (os : List ObjectState) (m : Mark) → m.object.0 < length os → life_of (marked_life os (Some m)) m.object ≡ m.life
life_marked os m inside = ap (λ (x : ObjectState). x.life) (written_same os m.object (λ x. record x { life = m.life }) inside)

pub life_else : (os : List ObjectState) (m : Mark) (o : ObjectId) → o ≢ m.object → life_of (marked_life os (Some m)) o ≡ life_of os o
life_else os m o apart = ap (λ (x : ObjectState). x.life) (written_other os (Some m.object) (λ x. record x { life = m.life }) o (λ e. apart (sym (some_same e))))
  where
    some_same : Some m.object ≡ Some o → m.object ≡ o
    some_same e = cc

module _ (os : List ObjectState) (mark : Option Mark) where
  abbrev os' : List ObjectState
  os' = marked_life os mark

  keeps : {X : Type 0} (g : ObjectState → X) (o : ObjectId) → ((x : ObjectState) (l : Life) → g (record x { life = l }) ≡ g x) → g (object_at os' o) ≡ g (object_at os o)
  keeps g o same = by mark
    where
      by : (m : Option Mark) → g (object_at (marked_life os m) o) ≡ g (object_at os o)
      by None = refl
      by (Some m) = written_keeps g os (Some m.object) (λ x. record x { life = m.life }) o (λ x. same x m.life)

  pub length_marked : length os' ≡ length os
  length_marked = by mark
    where
      by : (m : Option Mark) → length (marked_life os m) ≡ length os
      by None = refl
      by (Some m) = length_written os (Some m.object) (λ x. record x { life = m.life })

  pub stage_marked : (o : ObjectId) → stage_of os' o ≡ stage_of os o
  stage_marked o = keeps (λ x. x.stage) o (λ x l. refl)

  pub chain_marked : (o : ObjectId) → chain_of os' o ≡ chain_of os o
  chain_marked o = keeps (λ x. x.chain) o (λ x l. refl)

  link_marked : (o : ObjectId) → link_of os' o ≡ link_of os o
  link_marked o = keeps (λ x. x.link) o (λ x l. refl)

  before_marked : (o : ObjectId) → before_of os' o ≡ before_of os o
  before_marked o = keeps (λ x. x.before) o (λ x l. refl)

  pub links_marked : (heads : List (Option ObjectId)) (chain : ℕ → List ObjectId) (used cut : List ObjectId) (successor : ObjectId → Option ObjectId) →
      LinksKept heads os chain used cut successor → LinksKept heads os' chain used cut successor
  links_marked heads chain used cut successor k = record {
    chains = λ c. chain_framed (chain c) (word_of heads os c) (word_of heads os' c) (before_of os) (before_of os') (λ q h. words c q) (λ o h. before_marked o) (k.chains c);
    linked = λ c o h. let l = k.linked c o h in (stage_marked o ∙ l.0, chain_marked o ∙ l.1, l.2);
    links = λ o is. subst (λ c. In (chain c) o) (sym (chain_marked o)) (k.links o (sym (stage_marked o) ∙ is));
    was_cut = λ o h. let w = k.was_cut o h in (stage_marked o ∙ w.0, link_marked o ∙ w.1);
    cuts = λ o is. k.cuts o (sym (stage_marked o) ∙ is);
    used_known = λ o h e. k.used_known o h (sym (stage_marked o) ∙ e);
    targets = λ o f is l e. k.targets o f (sym (stage_marked o) ∙ is) (sym (link_marked o) ∙ l) (sym (stage_marked f) ∙ e);
  }
    where
      words : (c : ℕ) (q : Option ObjectId) → word_of heads os' c q ≡ word_of heads os c q
      words c None = refl
      words c (Some o) = link_marked o

  fresh_marked : (m : ObjectId) → FreshIn os m → FreshIn os' m
  fresh_marked m f = (stage_marked m ∙ f.0, subst (λ n. m.0 < n) (sym length_marked) f.1)

  pub place_marked : (heads : List (Option ObjectId)) (n u : ℕ) (p : Publishing) → PlaceKept heads os n u p → PlaceKept heads os' n u p
  place_marked heads n u (Pushes m) h = (
    fresh_marked m h.0,
    ap (λ c. c % n) (chain_marked m) ∙ h.1,
    subst (λ c. c < length heads) (sym (chain_marked m)) h.2,
    link_marked m ∙ h.3 ∙ ap (head_of heads) (sym (chain_marked m)),
  )
  place_marked heads n u (Replaces o m) h = (
    fresh_marked m h.0,
    ap (λ c. c % n) (chain_marked m) ∙ h.1,
    stage_marked o ∙ h.2,
    chain_marked o ∙ h.3 ∙ sym (chain_marked m),
    link_marked m ∙ h.4 ∙ sym (link_marked o),
  )

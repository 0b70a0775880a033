-- What a fresh object keeps.
use Rattle.world_state.proofs.Cited.{◌≡◌, ◌≢◌, ◌⊎◌, inl, inr, ℕ, zero, suc, ◌-◌, ◌<◌, ◌≤◌, ◌%◌, List, [], ◌∷◌, ◌++◌, length, get_or, Option, Some, None, refl, sym, ap, ◌∙◌, subst, arith, length-append, get_or-append_right, get_or-append_seam, ObjectId, In, IsPlace, chain_framed}
use Rattle.world_state.specs.declared.object.Stage.TheVariants.{Fresh, Linked, Cut as IsCut}
use Rattle.world_state.specs.declared.object.ObjectState.{ObjectState}
use Rattle.world_state.specs.declared.updater.Publishing.{Publishing}
use Rattle.world_state.specs.declared.updater.Publishing.TheVariants.{Push as Pushes, Replace as Replaces}
use Rattle.world_state.proofs.Writes.{no_object, object_at, head_of, before_of, stage_of, chain_of, within, past_or_within, get_past, grown_same}
use Rattle.world_state.proofs.Linking.{word_of, LinksKept, FreshIn, PlaceKept}

module _ (os : List ObjectState) (x : ObjectState) (new : x.stage ≡ Fresh) where
  abbrev grown : List ObjectState
  grown = os ++ x ∷ []

  pub new_object : (m : ObjectId) → m.0 ≡ length os → object_at grown m ≡ x
  new_object m e = ap (λ n. get_or grown n no_object) e ∙ get_or-append_seam os x [] no_object

  pub new_within : (m : ObjectId) → m.0 ≡ length os → m.0 < length grown
  new_within m e = subst (λ n. m.0 < n) (sym (length-append os (x ∷ []))) (omega (arith, e))

  pub stage_grown : (o : ObjectId) → stage_of grown o ≡ stage_of os o
  stage_grown o = by (past_or_within os o.0)
    where
      fresh_at : (n : ℕ) → (get_or (x ∷ []) n no_object).stage ≡ Fresh
      fresh_at zero = new
      fresh_at (suc n) = refl

      by : (o.0 < length os) ⊎ (length os ≤ o.0) → stage_of grown o ≡ stage_of os o
      by (inl l) = ap (λ (y : ObjectState). y.stage) (grown_same os x o l)
      by (inr g) =
          ap (λ (y : ObjectState). y.stage) (get_or-append_right os (x ∷ []) o.0 no_object g)
          ∙ fresh_at (o.0 - length os)
          ∙ sym (ap (λ (y : ObjectState). y.stage) (get_past os o.0 no_object g))

  linked_fresh : Linked ≡ Fresh → ⊥
  linked_fresh e = cc

  cut_fresh : IsCut ≡ Fresh → ⊥
  cut_fresh e = cc

  same : (o : ObjectId) → stage_of os o ≢ Fresh → object_at grown o ≡ object_at os o
  same o known = grown_same os x o (within os o known)

  pub links_grown : (heads : List (Option ObjectId)) (chain : ℕ → List ObjectId) (used cut : List ObjectId) (successor : ObjectId → Option ObjectId) →
      LinksKept heads os chain used cut successor → LinksKept heads grown chain used cut successor
  links_grown heads chain used cut successor k = record {
    chains = λ c. chain_framed (chain c) (word_of heads os c) (word_of heads grown c) (before_of os) (before_of grown) (words c) (λ o h. ap (λ (y : ObjectState). y.before) (member c o h)) (k.chains c);
    linked = λ c o h. let l = k.linked c o h in (stage_grown o ∙ l.0, ap (λ (y : ObjectState). y.chain) (member c o h) ∙ l.1, l.2);
    links = λ o is. let was : stage_of os o ≡ Linked = sym (stage_grown o) ∙ is in subst (λ c. In (chain c) o) (sym (ap (λ (y : ObjectState). y.chain) (same o (λ e. linked_fresh (sym was ∙ e))))) (k.links o was);
    was_cut = λ o h. let w = k.was_cut o h in (stage_grown o ∙ w.0, ap (λ (y : ObjectState). y.link) (same o (λ e. cut_fresh (sym w.0 ∙ e))) ∙ w.1);
    cuts = λ o is. k.cuts o (sym (stage_grown o) ∙ is);
    used_known = λ o h e. k.used_known o h (sym (stage_grown o) ∙ e);
    targets = λ o f is l e.
        let was : stage_of os o ≡ IsCut = sym (stage_grown o) ∙ is in
        k.targets o f was (sym (ap (λ (y : ObjectState). y.link) (same o (λ g. cut_fresh (sym was ∙ g)))) ∙ l) (sym (stage_grown f) ∙ e);
  }
    where
      member : (c : ℕ) (o : ObjectId) → In (chain c) o → object_at grown o ≡ object_at os o
      member c o h = same o (λ e. linked_fresh (sym (k.linked c o h).0 ∙ e))

      words : (c : ℕ) (q : Option ObjectId) → IsPlace (chain c) q → word_of heads grown c q ≡ word_of heads os c q
      words c None h = refl
      words c (Some o) h = ap (λ (y : ObjectState). y.link) (member c o h)

  fresh_grown : (m : ObjectId) → FreshIn os m → FreshIn grown m
  fresh_grown m f = (stage_grown m ∙ f.0, subst (λ n. m.0 < n) (sym (length-append os (x ∷ []))) (let l : m.0 < length os = f.1 in omega (arith, l)))

  pub place_grown : (heads : List (Option ObjectId)) (n v : ℕ) (p : Publishing) → PlaceKept heads os n v p → PlaceKept heads grown n v p
  place_grown heads n v (Pushes m) h =
      let c : chain_of os m ≡ chain_of grown m = sym (ap (λ (y : ObjectState). y.chain) (grown_same os x m h.0.1)) in (
        fresh_grown m h.0,
        subst (λ d. d % n ≡ v) c h.1,
        subst (λ d. d < length heads) c h.2,
        ap (λ (y : ObjectState). y.link) (grown_same os x m h.0.1) ∙ h.3 ∙ ap (head_of heads) c,
      )
  place_grown heads n v (Replaces j m) h =
      let c : chain_of grown m ≡ chain_of os m = ap (λ (y : ObjectState). y.chain) (grown_same os x m h.0.1) in
      let s : object_at grown j ≡ object_at os j = same j (λ e. linked_fresh (sym h.2 ∙ e)) in (
        fresh_grown m h.0,
        subst (λ d. d % n ≡ v) (sym c) h.1,
        stage_grown j ∙ h.2,
        ap (λ (y : ObjectState). y.chain) s ∙ h.3 ∙ sym c,
        ap (λ (y : ObjectState). y.link) (grown_same os x m h.0.1) ∙ h.4 ∙ sym (ap (λ (y : ObjectState). y.link) s),
      )

-- what has one value at a fresh object and past the end stays everywhere
pub alike_grown : {X : Type 0} (g : ObjectState → X) (os : List ObjectState) (x : ObjectState) (o : ObjectId) → g x ≡ g no_object → g (object_at (os ++ x ∷ []) o) ≡ g (object_at os o)
alike_grown g os x o same = by (past_or_within os o.0)
  where
    fresh_at : (n : ℕ) → g (get_or (x ∷ []) n no_object) ≡ g no_object
    fresh_at zero = same
    fresh_at (suc n) = refl

    by : (o.0 < length os) ⊎ (length os ≤ o.0) → g (object_at (os ++ x ∷ []) o) ≡ g (object_at os o)
    by (inl l) = ap g (grown_same os x o l)
    by (inr n) = ap g (get_or-append_right os (x ∷ []) o.0 no_object n) ∙ fresh_at (o.0 - length os) ∙ sym (ap g (get_past os o.0 no_object n))

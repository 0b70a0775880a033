-- A push, a replacement and a cut that keep the rule of keyed chains, by what the writer knows of its list.
use Rattle.live_log.proofs.Cited.{◌≡◌, ◌≢◌, ℕ, ◌<◌, List, [], ◌∷◌, cond, not, true, false, Bool, sym, refl, ap, ◌∙◌, subst, inl, inr, ⊎_elim, ObjectId, same_object, without_object, replaced, object_tells, without_object_has}
use Rattle.rcu_model.proofs.Lemmas.{In}
use Rattle.live_log.specs.Keys.{key_of, rank_of, Falls}

-- other notes of the same objects
pub falls_same : (note note' : ObjectId → ℕ × List ℕ) (os : List ObjectId) → ((o : ObjectId) → In os o → note' o ≡ note o) → Falls note os → Falls note' os
falls_same note note' [] same f = tt
falls_same note note' (o ∷ os) same f = ((λ p h. subst (λ (z : (ℕ × List ℕ) × (ℕ × List ℕ)). (key_of z.0 ≢ key_of z.1) × (rank_of z.0 < rank_of z.1)) (λ i. (sym (same p (inr h)) i, sym (same o (inl refl)) i)) (f.0 p h)), falls_same note note' os (λ p h. same p (inr h)) f.1)

pub falls_push : (note : ObjectId → ℕ × List ℕ) (os : List ObjectId) (o : ObjectId) → ((p : ObjectId) → In os p → (key_of (note p) ≢ key_of (note o)) × (rank_of (note p) < rank_of (note o))) → Falls note os → Falls note (o ∷ os)
falls_push note os o above f = (above, f)

pub falls_cut : (note : ObjectId → ℕ × List ℕ) (os : List ObjectId) (o : ObjectId) → Falls note os → Falls note (without_object o os)
falls_cut note [] o f = tt
falls_cut note (x ∷ xs) o f = by_test (not (same_object x o)) (falls_cut note xs o f.1)
  where
    by_test : (b : Bool) → Falls note (without_object o xs) → Falls note (cond b (x ∷ without_object o xs) (without_object o xs))
    by_test true g = ((λ p h. f.0 p (without_object_has o xs p h).0), g)
    by_test false g = g

-- an object with the same key and rank in the place of one
pub falls_replaced : (note note' : ObjectId → ℕ × List ℕ) (os : List ObjectId) (o m : ObjectId) → ((p : ObjectId) → In os p → note' p ≡ note p) → (key_of (note' m) ≡ key_of (note o)) × (rank_of (note' m) ≡ rank_of (note o)) → In os o → Falls note os → Falls note' (replaced o m os)
falls_replaced note note' os o m same kept at f = go os same f
  where
    go : (xs : List ObjectId) → ((p : ObjectId) → In xs p → note' p ≡ note p) → Falls note xs → Falls note' (replaced o m xs)
    go [] same f = tt
    go (x ∷ xs) same f = (heads, go xs (λ p h. same p (inr h)) f.1)
      where
        head_is : (z : ObjectId) → (key_of (note' (cond (same_object x o) m x)) ≡ key_of (note x)) × (rank_of (note' (cond (same_object x o) m x)) ≡ rank_of (note x))
        head_is z = ⊎_elim
            (λ (y : (same_object x o ≡ true) × (x ≡ o)). subst (λ (b : Bool). (key_of (note' (cond b m x)) ≡ key_of (note x)) × (rank_of (note' (cond b m x)) ≡ rank_of (note x))) (sym y.0) (kept.0 ∙ ap (λ (q : ObjectId). key_of (note q)) (sym y.1), kept.1 ∙ ap (λ (q : ObjectId). rank_of (note q)) (sym y.1)))
            (λ (n : (same_object x o ≡ false) × (x ≢ o)). subst (λ (b : Bool). (key_of (note' (cond b m x)) ≡ key_of (note x)) × (rank_of (note' (cond b m x)) ≡ rank_of (note x))) (sym n.0) (ap key_of (same x (inl refl)), ap rank_of (same x (inl refl))))
            (object_tells x o)

        -- what stands later, by what stood there
        later : (ys : List ObjectId) → ((p : ObjectId) → In ys p → In xs p) → (p : ObjectId) → In (replaced o m ys) p → (q : ObjectId) × In xs q × (key_of (note' p) ≡ key_of (note q)) × (rank_of (note' p) ≡ rank_of (note q))
        later [] sub p h = absurd h
        later (y ∷ ys) sub p (inr h) = later ys (λ q k. sub q (inr k)) p h
        later (y ∷ ys) sub p (inl e) = let is_of : (key_of (note' p) ≡ key_of (note y)) × (rank_of (note' p) ≡ rank_of (note y)) = ⊎_elim
            (λ (t : (same_object y o ≡ true) × (y ≡ o)). let is : m ≡ p = ap (λ (b : Bool). cond b m y) (sym t.0) ∙ e in (ap (λ (z : ObjectId). key_of (note' z)) (sym is) ∙ (kept.0 ∙ ap (λ (z : ObjectId). key_of (note z)) (sym t.1)), ap (λ (z : ObjectId). rank_of (note' z)) (sym is) ∙ (kept.1 ∙ ap (λ (z : ObjectId). rank_of (note z)) (sym t.1))))
            (λ (n : (same_object y o ≡ false) × (y ≢ o)). let is : y ≡ p = ap (λ (b : Bool). cond b m y) (sym n.0) ∙ e in (ap (λ (z : ObjectId). key_of (note' z)) (sym is) ∙ ap key_of (same y (inr (sub y (inl refl)))), ap (λ (z : ObjectId). rank_of (note' z)) (sym is) ∙ ap rank_of (same y (inr (sub y (inl refl))))))
            (object_tells y o) in (y, sub y (inl refl), is_of.0, is_of.1)

        heads : (p : ObjectId) → In (replaced o m xs) p → (key_of (note' p) ≢ key_of (note' (cond (same_object x o) m x))) × (rank_of (note' p) < rank_of (note' (cond (same_object x o) m x)))
        heads p h = let l = later xs (λ q k. k) p h in let b = f.0 l.0 l.1 in let t = head_is x in
            ((λ e. b.0 (sym l.2 ∙ (e ∙ t.0))), subst (λ (z : ℕ × ℕ). z.0 < z.1) (λ i. (sym l.3 i, sym t.1 i)) b.1)

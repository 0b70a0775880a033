-- Places in a chain's list, what follows each, and what a splice makes of them.
use Rattle.std.proofs.Common.{◌≡◌, ◌≢◌, ◌⊎◌, inl, inr, List, [], ◌∷◌, Option, Some, None, refl, sym, ap, ◌∙◌, subst}
use Rattle.rcu_model.specs.declared.event.ObjectId.{ObjectId}
pub use Rattle.rcu_model.specs.Sets.{IsPlace, follows}
use Rattle.rcu_model.specs.Sets.{same_object, without_object, first_of, next_of, replaced}
use Rattle.std.specs.Option.{option_or}
use Rattle.rcu_model.proofs.Members.{In, Tells, object_tells}
use Rattle.rcu_model.proofs.SetLemmas.{Once, next_of_has, Once-filter, Once-replaced, without_object_has, has_without_object, replaced_has, has_replaced}

pub some_is : {X : Type 0} (x y : X) → Some x ≡ Some y → x ≡ y
some_is x y e = cc

pub none_some : {X : Type 0} (x : X) → None ≡ Some x → ⊥
none_some x e = cc

pub decide : (o p : ObjectId) → (o ≡ p) ⊎ (o ≢ p)
decide o p = by (object_tells o p)
  where
    by : Tells (same_object o p) o p → (o ≡ p) ⊎ (o ≢ p)
    by (inl y) = inl y.1
    by (inr n) = inr n.1

pub decide_place : (q p : Option ObjectId) → (q ≡ p) ⊎ (q ≢ p)
decide_place None None = inl refl
decide_place None (Some o) = inr (λ e. none_some o e)
decide_place (Some o) None = inr (λ e. none_some o (sym e))
decide_place (Some o) (Some p) = by (decide o p)
  where
    by : (o ≡ p) ⊎ (o ≢ p) → (Some o ≡ Some p) ⊎ (Some o ≢ Some p)
    by (inl e) = inl (ap Some e)
    by (inr n) = inr (λ e. n (some_is o p e))

-- the definitions at the first object, and past it
pub next_here : (x : ObjectId) (xs : List ObjectId) (o : ObjectId) → x ≡ o → next_of (x ∷ xs) o ≡ first_of xs
next_here x xs o e = by (object_tells x o)
  where
    by : Tells (same_object x o) x o → next_of (x ∷ xs) o ≡ first_of xs
    by (inl y) = rw y.0 refl
    by (inr n) = absurd (n.1 e)

pub next_past : (x : ObjectId) (xs : List ObjectId) (o : ObjectId) → x ≢ o → next_of (x ∷ xs) o ≡ next_of xs o
next_past x xs o apart = by (object_tells x o)
  where
    by : Tells (same_object x o) x o → next_of (x ∷ xs) o ≡ next_of xs o
    by (inl y) = absurd (apart y.1)
    by (inr n) = rw n.0 refl

without_here : (x : ObjectId) (xs : List ObjectId) (k : ObjectId) → x ≡ k → without_object k (x ∷ xs) ≡ without_object k xs
without_here x xs k e = by (object_tells x k)
  where
    by : Tells (same_object x k) x k → without_object k (x ∷ xs) ≡ without_object k xs
    by (inl y) = rw y.0 refl
    by (inr n) = absurd (n.1 e)

without_past : (x : ObjectId) (xs : List ObjectId) (k : ObjectId) → x ≢ k → without_object k (x ∷ xs) ≡ x ∷ without_object k xs
without_past x xs k apart = by (object_tells x k)
  where
    by : Tells (same_object x k) x k → without_object k (x ∷ xs) ≡ x ∷ without_object k xs
    by (inl y) = absurd (apart y.1)
    by (inr n) = rw n.0 refl

replaced_here : (x : ObjectId) (xs : List ObjectId) (k m : ObjectId) → x ≡ k → replaced k m (x ∷ xs) ≡ m ∷ replaced k m xs
replaced_here x xs k m e = by (object_tells x k)
  where
    by : Tells (same_object x k) x k → replaced k m (x ∷ xs) ≡ m ∷ replaced k m xs
    by (inl y) = rw y.0 refl
    by (inr n) = absurd (n.1 e)

replaced_past : (x : ObjectId) (xs : List ObjectId) (k m : ObjectId) → x ≢ k → replaced k m (x ∷ xs) ≡ x ∷ replaced k m xs
replaced_past x xs k m apart = by (object_tells x k)
  where
    by : Tells (same_object x k) x k → replaced k m (x ∷ xs) ≡ x ∷ replaced k m xs
    by (inl y) = absurd (apart y.1)
    by (inr n) = rw n.0 refl

without_absent : (xs : List ObjectId) (k : ObjectId) → ¬ In xs k → without_object k xs ≡ xs
without_absent [] k none = refl
without_absent (x ∷ xs) k none = without_past x xs k (λ e. none (inl e)) ∙ ap (λ (ys : List ObjectId). x ∷ ys) (without_absent xs k (λ h. none (inr h)))

replaced_none : (xs : List ObjectId) (k m : ObjectId) → ¬ In xs k → replaced k m xs ≡ xs
replaced_none [] k m none = refl
replaced_none (x ∷ xs) k m none = replaced_past x xs k m (λ e. none (inl e)) ∙ ap (λ (ys : List ObjectId). x ∷ ys) (replaced_none xs k m (λ h. none (inr h)))

-- what follows a place is of the list
pub first_has : (xs : List ObjectId) (o : ObjectId) → first_of xs ≡ Some o → In xs o
first_has [] o e = absurd (none_some o e)
first_has (x ∷ xs) o e = inl (some_is x o e)

next_cases : (x : ObjectId) (xs : List ObjectId) (p o : ObjectId) → (next_of xs p ≡ Some o → In xs o) → next_of (x ∷ xs) p ≡ Some o → In xs o
next_cases x xs p o later e = by (decide x p)
  where
    by : (x ≡ p) ⊎ (x ≢ p) → In xs o
    by (inl y) = first_has xs o (sym (next_here x xs p y) ∙ e)
    by (inr n) = later (sym (next_past x xs p n) ∙ e)

next_has : (xs : List ObjectId) (p o : ObjectId) → next_of xs p ≡ Some o → In xs o
next_has [] p o e = absurd (none_some o e)
next_has (x ∷ xs) p o e = inr (next_cases x xs p o (next_has xs p o) e)

next_in_tail : (x : ObjectId) (xs : List ObjectId) (p o : ObjectId) → next_of (x ∷ xs) p ≡ Some o → In xs o
next_in_tail x xs p o e = next_cases x xs p o (next_has xs p o) e

pub follows_has : (xs : List ObjectId) (q : Option ObjectId) (o : ObjectId) → follows xs q ≡ Some o → In xs o
follows_has xs None o e = first_has xs o e
follows_has xs (Some p) o e = next_has xs p o e

rest_has : (x : ObjectId) (xs : List ObjectId) (o : ObjectId) → x ≢ o → In (x ∷ xs) o → In xs o
rest_has x xs o apart (inl e) = absurd (apart e)
rest_has x xs o apart (inr h) = h

-- one place alone leads to an object
pub one_before : (xs : List ObjectId) (q r : Option ObjectId) (o : ObjectId) → Once xs → follows xs q ≡ Some o → follows xs r ≡ Some o → q ≡ r
one_before [] None None o once e f = refl
one_before [] (Some p) r o once e f = absurd (none_some o e)
one_before [] None (Some p) o once e f = absurd (none_some o f)
one_before (x ∷ xs) None None o once e f = refl
one_before (x ∷ xs) None (Some p) o once e f = absurd (once.0 (subst (In xs) (sym (some_is x o e)) (next_in_tail x xs p o f)))
one_before (x ∷ xs) (Some p) None o once e f = absurd (once.0 (subst (In xs) (sym (some_is x o f)) (next_in_tail x xs p o e)))
one_before (x ∷ xs) (Some p) (Some r) o once e f = by (λ q r. one_before xs q r o once.1) (decide x p) (decide x r)
  where
    by : ((q r : Option ObjectId) → follows xs q ≡ Some o → follows xs r ≡ Some o → q ≡ r) → (x ≡ p) ⊎ (x ≢ p) → (x ≡ r) ⊎ (x ≢ r) → Some p ≡ Some r
    by again (inl y) (inl z) = ap Some (sym y ∙ z)
    by again (inl y) (inr n) = absurd (none_some r (again None (Some r) (sym (next_here x xs p y) ∙ e) (sym (next_past x xs r n) ∙ f)))
    by again (inr n) (inl z) = absurd (none_some p (again None (Some p) (sym (next_here x xs r z) ∙ f) (sym (next_past x xs p n) ∙ e)))
    by again (inr n) (inr m) = again (Some p) (Some r) (sym (next_past x xs p n) ∙ e) (sym (next_past x xs r m) ∙ f)

-- a list with one object taken out
without_at : (xs : List ObjectId) (k : ObjectId) (p : Option ObjectId) → Once xs → IsPlace xs p → follows xs p ≡ Some k → follows (without_object k xs) p ≡ next_of xs k
without_at [] k None once at_p e = absurd (none_some k e)
without_at [] k (Some o) once at_p e = absurd at_p
without_at (x ∷ xs) k None once at_p e =
    let same = some_is x k e in
    ap first_of (without_here x xs k same ∙ without_absent xs k (λ h. once.0 (subst (In xs) (sym same) h))) ∙ sym (next_here x xs k same)
without_at (x ∷ xs) k (Some o) once at_p e =
    ap (λ (ys : List ObjectId). next_of ys o) (without_past x xs k apart) ∙ by (λ q. without_at xs k q once.1) (decide x o) ∙ sym (next_past x xs k apart)
  where
    apart : x ≢ k
    apart same = once.0 (subst (In xs) (sym same) (next_in_tail x xs o k e))

    by : ((q : Option ObjectId) → IsPlace xs q → follows xs q ≡ Some k → follows (without_object k xs) q ≡ next_of xs k) → (x ≡ o) ⊎ (x ≢ o) → next_of (x ∷ without_object k xs) o ≡ next_of xs k
    by again (inl y) = next_here x (without_object k xs) o y ∙ again None tt (sym (next_here x xs o y) ∙ e)
    by again (inr n) = next_past x (without_object k xs) o n ∙ again (Some o) (rest_has x xs o n at_p) (sym (next_past x xs o n) ∙ e)

without_other : (xs : List ObjectId) (k : ObjectId) (q : Option ObjectId) → Once xs → IsPlace xs q → q ≢ Some k → follows xs q ≢ Some k → follows (without_object k xs) q ≡ follows xs q
without_other [] k None once at_q apart not_before = refl
without_other [] k (Some o) once at_q apart not_before = absurd at_q
without_other (x ∷ xs) k None once at_q apart not_before = ap first_of (without_past x xs k (λ e. not_before (ap Some e)))
without_other (x ∷ xs) k (Some o) once at_q apart not_before = by (λ q. without_other xs k q once.1) (decide x k)
  where
    by_o : ((q : Option ObjectId) → IsPlace xs q → q ≢ Some k → follows xs q ≢ Some k → follows (without_object k xs) q ≡ follows xs q) → x ≢ k → (x ≡ o) ⊎ (x ≢ o) → next_of (x ∷ without_object k xs) o ≡ next_of (x ∷ xs) o
    by_o again n (inl y) = next_here x (without_object k xs) o y ∙ again None tt (none_some k) (λ f. not_before (next_here x xs o y ∙ f)) ∙ sym (next_here x xs o y)
    by_o again n (inr m) =
        next_past x (without_object k xs) o m
        ∙ again (Some o) (rest_has x xs o m at_q) apart (λ f. not_before (next_past x xs o m ∙ f))
        ∙ sym (next_past x xs o m)

    by : ((q : Option ObjectId) → IsPlace xs q → q ≢ Some k → follows xs q ≢ Some k → follows (without_object k xs) q ≡ follows xs q) → (x ≡ k) ⊎ (x ≢ k) → next_of (without_object k (x ∷ xs)) o ≡ next_of (x ∷ xs) o
    by again (inl y) =
        let m : x ≢ o = λ e. apart (ap Some (sym e ∙ y)) in
        ap (λ (ys : List ObjectId). next_of ys o) (without_here x xs k y)
        ∙ again (Some o) (rest_has x xs o m at_q) apart (λ f. not_before (next_past x xs o m ∙ f))
        ∙ sym (next_past x xs o m)
    by again (inr n) = ap (λ (ys : List ObjectId). next_of ys o) (without_past x xs k n) ∙ by_o again n (decide x o)

-- a list with another object in the place of one
replaced_at : (xs : List ObjectId) (k m : ObjectId) (p : Option ObjectId) → Once xs → IsPlace xs p → follows xs p ≡ Some k → follows (replaced k m xs) p ≡ Some m
replaced_at [] k m None once at_p e = absurd (none_some k e)
replaced_at [] k m (Some o) once at_p e = absurd at_p
replaced_at (x ∷ xs) k m None once at_p e = ap first_of (replaced_here x xs k m (some_is x k e))
replaced_at (x ∷ xs) k m (Some o) once at_p e = ap (λ (ys : List ObjectId). next_of ys o) (replaced_past x xs k m apart) ∙ by (λ q. replaced_at xs k m q once.1) (decide x o)
  where
    apart : x ≢ k
    apart same = once.0 (subst (In xs) (sym same) (next_in_tail x xs o k e))

    by : ((q : Option ObjectId) → IsPlace xs q → follows xs q ≡ Some k → follows (replaced k m xs) q ≡ Some m) → (x ≡ o) ⊎ (x ≢ o) → next_of (x ∷ replaced k m xs) o ≡ Some m
    by again (inl y) = next_here x (replaced k m xs) o y ∙ again None tt (sym (next_here x xs o y) ∙ e)
    by again (inr n) = next_past x (replaced k m xs) o n ∙ again (Some o) (rest_has x xs o n at_p) (sym (next_past x xs o n) ∙ e)

replaced_new : (xs : List ObjectId) (k m : ObjectId) → Once xs → ¬ In xs m → In xs k → next_of (replaced k m xs) m ≡ next_of xs k
replaced_new [] k m once fresh h = absurd h
replaced_new (x ∷ xs) k m once fresh h = by (replaced_new xs k m once.1 (λ g. fresh (inr g))) (decide x k)
  where
    by : (In xs k → next_of (replaced k m xs) m ≡ next_of xs k) → (x ≡ k) ⊎ (x ≢ k) → next_of (replaced k m (x ∷ xs)) m ≡ next_of (x ∷ xs) k
    by again (inl y) =
        ap (λ (ys : List ObjectId). next_of ys m) (replaced_here x xs k m y)
        ∙ next_here m (replaced k m xs) m refl
        ∙ ap first_of (replaced_none xs k m (λ g. once.0 (subst (In xs) (sym y) g)))
        ∙ sym (next_here x xs k y)
    by again (inr n) =
        ap (λ (ys : List ObjectId). next_of ys m) (replaced_past x xs k m n)
        ∙ next_past x (replaced k m xs) m (λ e. fresh (inl e))
        ∙ again (rest_has x xs k n h)
        ∙ sym (next_past x xs k n)

replaced_other : (xs : List ObjectId) (k m : ObjectId) (q : Option ObjectId) → Once xs → ¬ In xs m → IsPlace xs q → q ≢ Some k → follows xs q ≢ Some k → follows (replaced k m xs) q ≡ follows xs q
replaced_other [] k m None once fresh at_q apart not_before = refl
replaced_other [] k m (Some o) once fresh at_q apart not_before = absurd at_q
replaced_other (x ∷ xs) k m None once fresh at_q apart not_before = ap first_of (replaced_past x xs k m (λ e. not_before (ap Some e)))
replaced_other (x ∷ xs) k m (Some o) once fresh at_q apart not_before = by (λ q. replaced_other xs k m q once.1 (λ g. fresh (inr g))) (decide x k)
  where
    by_o : ((q : Option ObjectId) → IsPlace xs q → q ≢ Some k → follows xs q ≢ Some k → follows (replaced k m xs) q ≡ follows xs q) → x ≢ k → (x ≡ o) ⊎ (x ≢ o) → next_of (x ∷ replaced k m xs) o ≡ next_of (x ∷ xs) o
    by_o again n (inl y) = next_here x (replaced k m xs) o y ∙ again None tt (none_some k) (λ f. not_before (next_here x xs o y ∙ f)) ∙ sym (next_here x xs o y)
    by_o again n (inr d) =
        next_past x (replaced k m xs) o d
        ∙ again (Some o) (rest_has x xs o d at_q) apart (λ f. not_before (next_past x xs o d ∙ f))
        ∙ sym (next_past x xs o d)

    by : ((q : Option ObjectId) → IsPlace xs q → q ≢ Some k → follows xs q ≢ Some k → follows (replaced k m xs) q ≡ follows xs q) → (x ≡ k) ⊎ (x ≢ k) → next_of (replaced k m (x ∷ xs)) o ≡ next_of (x ∷ xs) o
    by again (inl y) =
        let d : x ≢ o = λ e. apart (ap Some (sym e ∙ y)) in
        ap (λ (ys : List ObjectId). next_of ys o) (replaced_here x xs k m y)
        ∙ next_past m (replaced k m xs) o (λ e. fresh (subst (In (x ∷ xs)) (sym e) at_q))
        ∙ again (Some o) (rest_has x xs o d at_q) apart (λ f. not_before (next_past x xs o d ∙ f))
        ∙ sym (next_past x xs o d)
    by again (inr n) = ap (λ (ys : List ObjectId). next_of ys o) (replaced_past x xs k m n) ∙ by_o again n (decide x o)

-- one store made of the list `xs` the list `ys`
pub record Spliced (xs ys : List ObjectId) (p n leaves enters : Option ObjectId) : Type 0 where
  pub once : Once ys
  pub place : IsPlace xs p
  pub place_after : IsPlace ys p
  pub was : follows xs p ≡ option_or leaves n
  pub becomes : follows ys p ≡ option_or enters n
  pub left : (o : ObjectId) → leaves ≡ Some o → In xs o × (next_of xs o ≡ n)
  pub entered : (m : ObjectId) → enters ≡ Some m → In ys m × (¬ In xs m) × (next_of ys m ≡ n)
  pub other : (q : Option ObjectId) → IsPlace xs q → q ≢ p → ((o : ObjectId) → leaves ≡ Some o → q ≢ Some o) → IsPlace ys q × (follows ys q ≡ follows xs q)
  pub back : (o : ObjectId) → In ys o → (enters ≡ Some o) ⊎ (In xs o × (leaves ≢ Some o))
  pub on : (o : ObjectId) → In xs o → leaves ≢ Some o → In ys o

pub push_splices : (xs : List ObjectId) (m : ObjectId) → Once xs → ¬ In xs m → Spliced xs (m ∷ xs) None (first_of xs) None (Some m)
push_splices xs m once fresh = record {
  once = (fresh, once);
  place = tt;
  place_after = tt;
  was = refl;
  becomes = refl;
  left = λ o e. absurd (none_some o e);
  entered = λ o e. let same = some_is m o e in (inl same, (λ h. fresh (subst (In xs) (sym same) h)), next_here m xs o same);
  other = other;
  back = λ o h. back o h;
  on = λ o h _. inr h;
}
  where
    other : (q : Option ObjectId) → IsPlace xs q → q ≢ None → ((o : ObjectId) → None ≡ Some o → q ≢ Some o) → IsPlace (m ∷ xs) q × (follows (m ∷ xs) q ≡ follows xs q)
    other None at_q apart stays = absurd (apart refl)
    other (Some o) at_q apart stays = (inr at_q, next_past m xs o (λ e. fresh (subst (In xs) (sym e) at_q)))

    back : (o : ObjectId) → In (m ∷ xs) o → (Some m ≡ Some o) ⊎ (In xs o × (None ≢ Some o))
    back o (inl e) = inl (ap Some e)
    back o (inr h) = inr (h, none_some o)

-- the place before an object is not its own
not_itself : (xs : List ObjectId) (k : ObjectId) (p : Option ObjectId) → Once xs → IsPlace xs p → follows xs p ≡ Some k → p ≢ Some k
not_itself xs k None once at_p e same = none_some k same
not_itself xs k (Some o) once at_p e same = (next_of_has xs o k once at_p e).1 (sym (some_is o k same))

pub cut_splices : (xs : List ObjectId) (k : ObjectId) (p : Option ObjectId) → Once xs → In xs k → IsPlace xs p → follows xs p ≡ Some k → Spliced xs (without_object k xs) p (next_of xs k) (Some k) None
cut_splices xs k p once has at_p e = record {
  once = Once-filter _ xs once;
  place = at_p;
  place_after = stays p at_p (not_itself xs k p once at_p e);
  was = e;
  becomes = without_at xs k p once at_p e;
  left = λ o f. let same = some_is k o f in (subst (In xs) same has, ap (next_of xs) (sym same));
  entered = λ m f. absurd (none_some m f);
  other = λ q at_q apart not_left. (stays q at_q (not_left k refl), without_other xs k q once at_q (not_left k refl) (λ f. apart (one_before xs q p k once f e)));
  back = λ o h. let w = without_object_has k xs o h in inr (w.0, λ f. w.1 (sym (some_is k o f)));
  on = λ o h apart. has_without_object k xs o h (λ f. apart (ap Some (sym f)));
}
  where
    stays : (q : Option ObjectId) → IsPlace xs q → q ≢ Some k → IsPlace (without_object k xs) q
    stays None at_q apart = tt
    stays (Some o) at_q apart = has_without_object k xs o at_q (λ f. apart (ap Some f))

pub replace_splices : (xs : List ObjectId) (k m : ObjectId) (p : Option ObjectId) → Once xs → ¬ In xs m → In xs k → IsPlace xs p → follows xs p ≡ Some k → Spliced xs (replaced k m xs) p (next_of xs k) (Some k) (Some m)
replace_splices xs k m p once fresh has at_p e = record {
  once = Once-replaced k m xs once fresh;
  place = at_p;
  place_after = stays p at_p (not_itself xs k p once at_p e);
  was = e;
  becomes = replaced_at xs k m p once at_p e;
  left = λ o f. let same = some_is k o f in (subst (In xs) same has, ap (next_of xs) (sym same));
  entered = λ o f. subst (λ (x : ObjectId). In (replaced k m xs) x × (¬ In xs x) × (next_of (replaced k m xs) x ≡ next_of xs k)) (some_is m o f) (follows_has (replaced k m xs) p m (replaced_at xs k m p once at_p e), fresh, replaced_new xs k m once fresh has);
  other = λ q at_q apart not_left. (stays q at_q (not_left k refl), replaced_other xs k m q once fresh at_q (not_left k refl) (λ f. apart (one_before xs q p k once f e)));
  back = λ o h. back o (replaced_has k m xs o h);
  on = λ o h apart. has_replaced k m xs o h (λ f. apart (ap Some (sym f)));
}
  where
    stays : (q : Option ObjectId) → IsPlace xs q → q ≢ Some k → IsPlace (replaced k m xs) q
    stays None at_q apart = tt
    stays (Some o) at_q apart = has_replaced k m xs o at_q (λ f. apart (ap Some f))

    back : (o : ObjectId) → (o ≡ m) ⊎ (In xs o × (o ≢ k)) → (Some m ≡ Some o) ⊎ (In xs o × (Some k ≢ Some o))
    back o (inl f) = inl (ap Some (sym f))
    back o (inr h) = inr (h.0, λ f. h.1 (sym (some_is k o f)))

-- the words of a chain, and the objects before its objects, say what its list does
pub record ChainKept (xs : List ObjectId) (word : Option ObjectId → Option ObjectId) (before : ObjectId → Option ObjectId) : Type 0 where
  pub once : Once xs
  pub words : (q : Option ObjectId) → IsPlace xs q → word q ≡ follows xs q
  pub befores : (o : ObjectId) → In xs o → IsPlace xs (before o) × (follows xs (before o) ≡ Some o)

pub chain_framed : (xs : List ObjectId) (word word' : Option ObjectId → Option ObjectId) (before before' : ObjectId → Option ObjectId) →
    ((q : Option ObjectId) → IsPlace xs q → word' q ≡ word q) → ((o : ObjectId) → In xs o → before' o ≡ before o) →
    ChainKept xs word before → ChainKept xs word' before'
chain_framed xs word word' before before' same same' k = record {
  once = k.once;
  words = λ q at_q. same q at_q ∙ k.words q at_q;
  befores = λ o h. subst (λ (p : Option ObjectId). IsPlace xs p × (follows xs p ≡ Some o)) (sym (same' o h)) (k.befores o h);
}

-- what a splice writes
pub record Written (word word' : Option ObjectId → Option ObjectId) (before before' : ObjectId → Option ObjectId) (p n enters : Option ObjectId) : Type 0 where
  pub stored : word' p ≡ option_or enters n
  pub others : (q : Option ObjectId) → q ≢ p → word' q ≡ word q
  pub fresh : (m : ObjectId) → enters ≡ Some m → (word (Some m) ≡ n) × (before' m ≡ p)
  pub marked : (o : ObjectId) → n ≡ Some o → enters ≢ Some o → before' o ≡ option_or enters p
  pub unmarked : (o : ObjectId) → n ≢ Some o → enters ≢ Some o → before' o ≡ before o

pub chain_spliced : (xs ys : List ObjectId) (word word' : Option ObjectId → Option ObjectId) (before before' : ObjectId → Option ObjectId) (p n leaves enters : Option ObjectId) →
    Spliced xs ys p n leaves enters → Written word word' before before' p n enters →
    ChainKept xs word before → ChainKept ys word' before'
chain_spliced xs ys word word' before before' p n leaves enters s w k = record {
  once = s.once;
  words = λ q at_q. words q at_q (decide_place q p);
  befores = λ o h. befores o h (decide_place enters (Some o)) (decide_place n (Some o)) (s.back o h);
}
  where
    moved : (q : Option ObjectId) → IsPlace ys q → q ≢ p → ((m : ObjectId) → enters ≡ Some m → q ≢ Some m) → IsPlace xs q × (follows ys q ≡ follows xs q)
    moved None at_q apart old = (tt, (s.other None tt apart (λ o _ e. none_some o e)).1)
    moved (Some o) at_q apart old = by (s.back o at_q)
      where
        by : (enters ≡ Some o) ⊎ (In xs o × (leaves ≢ Some o)) → In xs o × (follows ys (Some o) ≡ follows xs (Some o))
        by (inl e) = absurd (old o e refl)
        by (inr h) = (h.0, (s.other (Some o) h.0 apart (λ l e f. h.1 (e ∙ sym f))).1)

    words : (q : Option ObjectId) → IsPlace ys q → (q ≡ p) ⊎ (q ≢ p) → word' q ≡ follows ys q
    words q at_q (inl e) = ap word' e ∙ w.stored ∙ sym s.becomes ∙ ap (follows ys) (sym e)
    words q at_q (inr apart) = by q at_q apart (decide_place q enters)
      where
        by : (q : Option ObjectId) → IsPlace ys q → q ≢ p → (q ≡ enters) ⊎ (q ≢ enters) → word' q ≡ follows ys q
        by (Some m) at_m apart (inl e) = w.others (Some m) apart ∙ (w.fresh m (sym e)).0 ∙ sym (s.entered m (sym e)).2
        by None at_q apart (inl e) = let m = moved None tt apart (λ o _ f. none_some o f) in w.others None apart ∙ k.words None tt ∙ sym m.1
        by q at_q apart (inr old) = let m = moved q at_q apart (λ o e f. old (f ∙ sym e)) in w.others q apart ∙ k.words q m.0 ∙ sym m.1

    Leads : ObjectId → Option ObjectId → Type 0
    Leads o q = IsPlace ys q × (follows ys q ≡ Some o)

    befores : (o : ObjectId) → In ys o → (enters ≡ Some o) ⊎ (enters ≢ Some o) → (n ≡ Some o) ⊎ (n ≢ Some o) → (enters ≡ Some o) ⊎ (In xs o × (leaves ≢ Some o)) → IsPlace ys (before' o) × (follows ys (before' o) ≡ Some o)
    befores o h (inl e) next was = subst (λ (q : Option ObjectId). IsPlace ys q × (follows ys q ≡ Some o)) (sym (w.fresh o e).1) (s.place_after, s.becomes ∙ ap (λ (x : Option ObjectId). option_or x n) e)
    befores o h (inr old) (inl e) was = subst (λ (q : Option ObjectId). IsPlace ys q × (follows ys q ≡ Some o)) (sym (w.marked o e old)) (by enters refl)
      where
        by : (x : Option ObjectId) → enters ≡ x → IsPlace ys (option_or x p) × (follows ys (option_or x p) ≡ Some o)
        by None f = (s.place_after, s.becomes ∙ ap (λ (y : Option ObjectId). option_or y n) f ∙ e)
        by (Some m) f = let t = s.entered m f in (t.0, t.2 ∙ e)
    befores o h (inr old) (inr apart) (inl e) = absurd (old e)
    befores o h (inr old) (inr apart) (inr was) = subst (λ (q : Option ObjectId). IsPlace ys q × (follows ys q ≡ Some o)) (sym (w.unmarked o apart old)) (m.0, m.1 ∙ b.1)
      where
        b : IsPlace xs (before o) × (follows xs (before o) ≡ Some o)
        b = k.befores o was.0

        not_at : (l : Option ObjectId) → leaves ≡ l → option_or l n ≢ Some o
        not_at None f e = apart e
        not_at (Some x) f e = was.1 (f ∙ e)

        m : IsPlace ys (before o) × (follows ys (before o) ≡ follows xs (before o))
        m = s.other (before o) b.0
            (λ e. not_at leaves refl (sym s.was ∙ ap (follows xs) (sym e) ∙ b.1))
            (λ l f e. apart (sym (s.left l f).1 ∙ ap (follows xs) (sym e) ∙ b.1))

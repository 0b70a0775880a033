-- The events of a run count what the state after them has.
use Rattle.std.proofs.Common.{◌≡◌, ◌≢◌, inl, inr, ⊎_elim, ℕ, ◌+◌, Bool, true, false, not, ◌||◌, cond, List, [], ◌∷◌, ◌++◌, filter, length, Option, Some, None, refl, sym, ap, ◌∙◌, subst, arith, length-append}
use Rattle.std.specs.Prelude.{count_by}
use Rattle.std.proofs.lemmas.List.Sums.{sum_by-cons}
use Rattle.rcu_model.specs.declared.event.Event.{Event}
use Rattle.rcu_model.specs.declared.event.Event.TheVariants.{Open, Close, First, Next, Touch, Push, Replace, Cut, Retire, Queue, Run, Ask, Answer, Bar, Clear}
use Rattle.rcu_model.specs.declared.event.ObjectId.{ObjectId}
use Rattle.rcu_model.specs.declared.event.SectionId.{SectionId}
use Rattle.rcu_model.specs.Machine.{State, start, IsAllowed, AreAllowed, after, after_all, got, IsRun}
use Rattle.rcu_model.specs.Sets.{same_section, same_object, has_object}
use Rattle.rcu_model.specs.Sizes.{opens, closes, retires, runs, waiting_in, CountsItsState}
use Rattle.rcu_model.proofs.Members.{In, Tells, object_tells, section_tells, in_sections, has_section_in, in_objects, has_object_in, in_more}

-- ---- lists with nothing twice

abbrev Distinct : {X : Type 0} → List X → Type 0
Distinct [] = Unit {0}
Distinct (x ∷ xs) = (¬ In xs x) × Distinct xs

distinct_more : {X : Type 0} (xs : List X) (x : X) → Distinct xs → (¬ In xs x) → Distinct (xs ++ x ∷ [])
distinct_more [] x once new = ((λ h. h), tt)
distinct_more (y ∷ ys) x once new =
    ((λ h. ⊎_elim (λ i. once.0 i) (λ e. new (inl (sym e))) (in_more ys x y h)), distinct_more ys x once.1 (λ h. new (inr h)))

filter_in : {X : Type 0} (p : X → Bool) (xs : List X) (x : X) → In (filter p xs) x → In xs x
filter_in p [] x h = h
filter_in {X} p (y ∷ ys) x h = by (p y) (λ i. filter_in p ys x i) h
  where
    by : (b : Bool) → (In (filter p ys) x → In ys x) → In (cond b (y ∷ filter p ys) (filter p ys)) x → In (y ∷ ys) x
    by true more (inl e) = inl e
    by true more (inr i) = inr (more i)
    by false more i = inr (more i)

distinct_filter : {X : Type 0} (p : X → Bool) (xs : List X) → Distinct xs → Distinct (filter p xs)
distinct_filter p [] once = tt
distinct_filter {X} p (y ∷ ys) once = by (p y) (distinct_filter p ys once.1)
  where
    by : (b : Bool) → Distinct (filter p ys) → Distinct (cond b (y ∷ filter p ys) (filter p ys))
    by true rest = ((λ h. once.0 (filter_in p ys y h)), rest)
    by false rest = rest

-- two tests that differ at one value of the list alone, which passes the first
module _ {X : Type 0} (p q : X → Bool) (x : X) (passes : p x ≡ true) (fails : q x ≡ false) (alike : (y : X) → y ≢ x → q y ≡ p y) where
  same_elsewhere : (xs : List X) → (¬ In xs x) → filter q xs ≡ filter p xs
  same_elsewhere [] apart = refl
  same_elsewhere (y ∷ ys) apart =
      ap (λ (b : Bool). cond b (y ∷ filter q ys) (filter q ys)) (alike y (λ e. apart (inl e)))
      ∙ ap (λ (zs : List X). cond (p y) (y ∷ zs) zs) (same_elsewhere ys (λ h. apart (inr h)))

  one_less : (xs : List X) → Distinct xs → In xs x → length (filter q xs) + 1 ≡ length (filter p xs)
  one_less [] once h = absurd h
  one_less (y ∷ ys) once (inl e) =
      let gone = same_elsewhere ys (subst (λ (z : X). ¬ In ys z) e once.0) in
      let fails_here : q y ≡ false = ap q e ∙ fails in
      let passes_here : p y ≡ true = ap p e ∙ passes in
      rw (fails_here, passes_here, gone) (omega arith)
  one_less (y ∷ ys) once (inr h) =
      let apart : y ≢ x = λ e. once.0 (subst (λ (z : X). In ys z) (sym e) h) in
      rw (alike y apart) (either (p y) (one_less ys once.1 h))
    where
      either : (b : Bool) → length (filter q ys) + 1 ≡ length (filter p ys) → length (cond b (y ∷ filter q ys) (filter q ys)) + 1 ≡ length (cond b (y ∷ filter p ys) (filter p ys))
      either true e = omega (arith, e)
      either false e = e

all_pass : {X : Type 0} (xs : List X) → filter (λ (y : X). true) xs ≡ xs
all_pass [] = refl
all_pass (y ∷ ys) = ap (λ zs. y ∷ zs) (all_pass ys)

-- ---- what every state that a run leads to keeps

record Counted (now : State) : Type 0 where
  pub sections : Distinct now.sections
  pub open_seen : (s : SectionId) → In now.sections s → In now.seen s
  pub retired : Distinct now.retired
  pub queued_retired : (o : ObjectId) → In now.queued o → In now.retired o
  pub run_retired : (o : ObjectId) → In now.reclaimed o → In now.retired o

abbrev waiting_of : List ObjectId → List ObjectId → List ObjectId
waiting_of reclaimed retired = filter (λ o. not (has_object reclaimed o)) retired

-- what an event changes: `+` one that it counts, and `-` one that it counts back
record Step (now later : State) (opened closed retired run : ℕ) : Type 0 where
  pub counted : Counted later
  pub sections : length later.sections + closed ≡ length now.sections + opened
  pub waiting : length (waiting_in later) + run ≡ length (waiting_in now) + retired
  pub gone : length later.reclaimed ≡ length now.reclaimed + run

-- nothing of it
kept : (now later : State) → later.sections ≡ now.sections → later.seen ≡ now.seen → later.retired ≡ now.retired → later.queued ≡ now.queued → later.reclaimed ≡ now.reclaimed → Counted now → Step now later 0 0 0 0
kept now later sections seen retired queued reclaimed c = record {
  counted = record {
    sections = subst Distinct (sym sections) c.sections;
    open_seen = λ s h. subst (λ (ss : List SectionId). In ss s) (sym seen) (c.open_seen s (subst (λ (ss : List SectionId). In ss s) sections h));
    retired = subst Distinct (sym retired) c.retired;
    queued_retired = λ o h. subst (λ (os : List ObjectId). In os o) (sym retired) (c.queued_retired o (subst (λ (os : List ObjectId). In os o) queued h));
    run_retired = λ o h. subst (λ (os : List ObjectId). In os o) (sym retired) (c.run_retired o (subst (λ (os : List ObjectId). In os o) reclaimed h));
  };
  sections = ap (λ (ss : List SectionId). length ss + 0) sections;
  waiting = ap (λ (os : List ObjectId). length (waiting_of os later.retired) + 0) reclaimed ∙ ap (λ (os : List ObjectId). length (waiting_of now.reclaimed os) + 0) retired;
  gone = let e = ap (λ (os : List ObjectId). length os) reclaimed in omega (arith, e);
}

kept_got : (now : State) (s : SectionId) (found : Option ObjectId) → Counted now → Step now (got now s found) 0 0 0 0
kept_got now s None c = kept now now refl refl refl refl refl c
kept_got now s (Some o) c = kept now _ refl refl refl refl refl c

not_in : (os : List ObjectId) (o : ObjectId) → (¬ In os o) → has_object os o ≡ false
not_in os o out = by (has_object os o) refl
  where
    by : (b : Bool) → has_object os o ≡ b → b ≡ false
    by true e = absurd (out (in_objects os o e))
    by false e = refl

opened : (now : State) (s : SectionId) → Counted now → IsAllowed now (Open s) → Step now (after now (Open s)) 1 0 0 0
opened now s c new = record {
  counted = record {
    sections = distinct_more now.sections s c.sections (λ h. new (has_section_in now.seen s (c.open_seen s h)));
    open_seen = λ t h. ⊎_elim (λ i. inr (c.open_seen t i)) (λ e. inl e) (in_more now.sections s t h);
    retired = c.retired;
    queued_retired = c.queued_retired;
    run_retired = c.run_retired;
  };
  sections = let long = length-append now.sections (s ∷ []) in omega (arith, long);
  waiting = refl;
  gone = omega arith;
}

closed : (now : State) (s : SectionId) → Counted now → IsAllowed now (Close s) → Step now (after now (Close s)) 0 1 0 0
closed now s c there = record {
  counted = record {
    sections = distinct_filter (λ t. not (same_section t s)) now.sections c.sections;
    open_seen = λ t h. c.open_seen t (filter_in (λ u. not (same_section u s)) now.sections t h);
    retired = c.retired;
    queued_retired = c.queued_retired;
    run_retired = c.run_retired;
  };
  sections =
      let less = one_less (λ (t : SectionId). true) (λ t. not (same_section t s)) s refl (itself (section_tells s s)) (λ t apart. other t apart (section_tells t s)) now.sections c.sections (in_sections now.sections s there) in
      let all = ap (λ (ss : List SectionId). length ss) (all_pass now.sections) in
      omega (arith, less, all);
  waiting = refl;
  gone = omega arith;
}
  where
    itself : Tells (same_section s s) s s → not (same_section s s) ≡ false
    itself (inl y) = ap not y.0
    itself (inr n) = absurd (n.1 refl)

    other : (t : SectionId) → t ≢ s → Tells (same_section t s) t s → not (same_section t s) ≡ true
    other t apart (inl y) = absurd (apart y.1)
    other t apart (inr n) = ap not n.0

retired : (now : State) (o : ObjectId) → Counted now → IsAllowed now (Retire o) → Step now (after now (Retire o)) 0 0 1 0
retired now o c a =
    let new : ¬ In now.retired o = λ h. a.1 (has_object_in now.retired o h) in
    let waits = not_in now.reclaimed o (λ h. new (c.run_retired o h)) in
    record {
      counted = record {
        sections = c.sections;
        open_seen = c.open_seen;
        retired = (new, c.retired);
        queued_retired = λ p h. inr (c.queued_retired p h);
        run_retired = λ p h. inr (c.run_retired p h);
      };
      sections = refl;
      waiting = rw waits (omega arith);
      gone = omega arith;
    }

run : (now : State) (o : ObjectId) → Counted now → IsAllowed now (Run o) → Step now (after now (Run o)) 0 0 0 1
run now o c a =
    let there : In now.retired o = c.queued_retired o (in_objects now.queued o a.0) in
    let waits = not_in now.reclaimed o (λ h. a.1 (has_object_in now.reclaimed o h)) in
    let less = one_less (λ p. not (has_object now.reclaimed p)) (λ p. not (has_object (o ∷ now.reclaimed) p)) o (ap not waits) (itself (object_tells o o)) (λ p apart. other p apart (object_tells o p)) now.retired c.retired there in
    record {
      counted = record {
        sections = c.sections;
        open_seen = c.open_seen;
        retired = c.retired;
        queued_retired = c.queued_retired;
        run_retired = λ p h. ⊎_elim (λ e. subst (λ (q : ObjectId). In now.retired q) e there) (λ i. c.run_retired p i) h;
      };
      sections = refl;
      waiting = omega (arith, less);
      gone = omega arith;
    }
  where
    itself : Tells (same_object o o) o o → not (same_object o o || has_object now.reclaimed o) ≡ false
    itself (inl y) = ap (λ (b : Bool). not (b || has_object now.reclaimed o)) y.0
    itself (inr n) = absurd (n.1 refl)

    other : (p : ObjectId) → p ≢ o → Tells (same_object o p) o p → not (same_object o p || has_object now.reclaimed p) ≡ not (has_object now.reclaimed p)
    other p apart (inl y) = absurd (apart (sym y.1))
    other p apart (inr n) = ap (λ (b : Bool). not (b || has_object now.reclaimed p)) n.0

abbrev StepOf : State → Event → Type 0
StepOf now e = Step now (after now e) (cond (opens e) 1 0) (cond (closes e) 1 0) (cond (retires e) 1 0) (cond (runs e) 1 0)

step : (now : State) (e : Event) → Counted now → IsAllowed now e → StepOf now e
step now (Open s) c a = opened now s c a
step now (Close s) c a = closed now s c a
step now (First s ch found) c a = kept_got now s found c
step now (Next s o found) c a = kept_got now s found c
step now (Touch s o) c a = kept now now refl refl refl refl refl c
step now (Push ch o) c a = kept now _ refl refl refl refl refl c
step now (Replace ch old new) c a = kept now _ refl refl refl refl refl c
step now (Cut ch o) c a = kept now _ refl refl refl refl refl c
step now (Retire o) c a = retired now o c a
step now (Queue o q) c a = record {
  counted = record {
    sections = c.sections;
    open_seen = c.open_seen;
    retired = c.retired;
    queued_retired = λ p h. ⊎_elim (λ e. subst (λ (x : ObjectId). In now.retired x) e (in_objects now.retired o a.0)) (λ i. c.queued_retired p i) h;
    run_retired = c.run_retired;
  };
  sections = refl;
  waiting = refl;
  gone = omega arith;
}
step now (Run o) c a = run now o c a
step now (Ask a) c h = kept now _ refl refl refl refl refl c
step now (Answer a) c h = kept now _ refl refl refl refl refl c
step now (Bar b) c h = kept now _ refl refl refl refl refl c
step now (Clear b) c h = kept now _ refl refl refl refl refl c

record All (now later : State) (es : List Event) : Type 0 where
  pub sections : length later.sections + count_by closes es ≡ length now.sections + count_by opens es
  pub waiting : length (waiting_in later) + count_by runs es ≡ length (waiting_in now) + count_by retires es
  pub gone : length later.reclaimed ≡ length now.reclaimed + count_by runs es

counts_one : (p : Event → Bool) (e : Event) (es : List Event) → count_by p (e ∷ es) ≡ cond (p e) 1 0 + count_by p es
counts_one p e es = sum_by-cons (λ x. cond (p x) 1 0) e es

all : (now : State) (es : List Event) → Counted now → AreAllowed now es → All now (after_all now es) es
all now [] c a = record { sections = refl; waiting = refl; gone = omega arith }
all now (e ∷ es) c a =
    let first = step now e c a.0 in
    let rest = all (after now e) es first.counted a.1 in
    record {
      sections = let f = first.sections in let r = rest.sections in let k = counts_one opens e es in let l = counts_one closes e es in omega (arith, f, r, k, l);
      waiting = let f = first.waiting in let r = rest.waiting in let k = counts_one retires e es in let l = counts_one runs e es in omega (arith, f, r, k, l);
      gone = let f = first.gone in let r = rest.gone in let k = counts_one runs e es in omega (arith, f, r, k);
    }

pub run_counts : (log : List Event) → IsRun log → CountsItsState log
run_counts log r =
    let c : Counted start = record { sections = tt; open_seen = λ s h. absurd h; retired = tt; queued_retired = λ o h. absurd h; run_retired = λ o h. absurd h } in
    let x = all start log c r in
    record {
      sections = let o = x.sections in omega (arith, o);
      waiting = let w = x.waiting in omega (arith, w);
      runs = let g = x.gone in omega (arith, g);
    }

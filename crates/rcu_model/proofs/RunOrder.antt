-- The callbacks of a queue that hands out its items first in, first out run in its order.
use Rattle.std.proofs.Common.{◌≡◌, ◌≢◌, ◌⊎◌, inl, inr, ⊎_elim, ℕ, ◌==◌, ◌||◌, cond, Bool, true, false, List, [], ◌∷◌, ◌++◌, filter, Option, Some, None, refl, sym, ap, ◌∙◌, subst, append-nil}
use Rattle.std.specs.Prelude.{if◌then◌else◌}
use Rattle.std.specs.List.{cons_option, filter_map}
use Rattle.std.proofs.lemmas.Bool.Decides.{eqb_tells}
use Rattle.std.proofs.lemmas.List.{append_assoc}
use Rattle.std.proofs.lemmas.List.Elements.{filter-append, filter_map-append}
use Rattle.rcu_model.specs.declared.event.Event.{Event}
use Rattle.rcu_model.specs.declared.event.Event.TheVariants as events
use Rattle.rcu_model.specs.declared.event.ObjectId.{ObjectId}
use Rattle.rcu_model.specs.Machine.{IsRun}
use Rattle.rcu_model.specs.Sets.{same_object, has_object}
use Rattle.rcu_model.specs.RunOrder.{queued_by, run_by, queued_into, run_from, RunsFirst, RunsInOrder}
use Rattle.rcu_model.proofs.Members.{In, object_tells, in_objects, has_object_in, in_left, in_right}
use Rattle.rcu_model.proofs.Headline.{contains_in, in_contains}
use Rattle.rcu_model.proofs.Endings.{queues_once, runs_queued}

abbrev pub runs_of : List Event → List ObjectId
runs_of log = filter_map run_by log

-- events that neither queue nor run a callback
pub record NoTurn (es : List Event) : Type 0 where
  pub runs : filter_map run_by es ≡ []
  pub queues : (q : ℕ) → queued_into q es ≡ []

none_more : (f : Event → Option ObjectId) (log es : List Event) → filter_map f es ≡ [] → filter_map f (log ++ es) ≡ filter_map f log
none_more f log es none = filter_map-append f log es ∙ ap (λ os. filter_map f log ++ os) none ∙ append-nil (filter_map f log)

-- a filter by tests that agree on what is there
filter_same : (p q : ObjectId → Bool) (xs : List ObjectId) → ((x : ObjectId) → In xs x → p x ≡ q x) → filter p xs ≡ filter q xs
filter_same p q [] agree = refl
filter_same p q (x ∷ xs) agree = ap (λ b. cond b (x ∷ filter p xs) (filter p xs)) (agree x (inl refl)) ∙ ap (λ l. cond (q x) (x ∷ l) l) (filter_same p q xs (λ y h. agree y (inr h)))

not_same : (o p : ObjectId) → o ≢ p → same_object o p ≡ false
not_same o p apart = ⊎_elim (λ (y : (same_object o p ≡ true) × (o ≡ p)). absurd (apart y.1)) (λ (n : (same_object o p ≡ false) × (o ≢ p)). n.0) (object_tells o p)

-- another object at the end is not found
has_more : (os : List ObjectId) (o p : ObjectId) → o ≢ p → has_object (os ++ o ∷ []) p ≡ has_object os p
has_more [] o p apart = ap (λ b. b || false) (not_same o p apart)
has_more (x ∷ os) o p apart = ap (λ b. same_object x p || b) (has_more os o p apart)

not_there : (os : List ObjectId) (o : ObjectId) → (¬ In os o) → has_object os o ≡ false
not_there os o none = by (has_object os o) refl
  where
    by : (b : Bool) → has_object os o ≡ b → has_object os o ≡ false
    by true e = absurd (none (in_objects os o e))
    by false e = e

queued_here : (q : ℕ) (o : ObjectId) → queued_into q (events.Queue o q ∷ []) ≡ o ∷ []
queued_here q o = ⊎_elim
    (λ (y : ((q == q) ≡ true) × (q ≡ q)). ap (λ b. cons_option (if b then Some o else None) []) y.0)
    (λ (n : ((q == q) ≡ false) × (q ≢ q)). absurd (n.1 refl))
    (eqb_tells q q)

queued_else : (j q : ℕ) (o : ObjectId) → q ≢ j → queued_into q (events.Queue o j ∷ []) ≡ []
queued_else j q o apart = ⊎_elim
    (λ (y : ((j == q) ≡ true) × (j ≡ q)). absurd (apart (sym y.1)))
    (λ (n : ((j == q) ≡ false) × (j ≢ q)). ap (λ b. cons_option (if b then Some o else None) []) n.0)
    (eqb_tells j q)

-- what was queued in the queue has run, in order, or waits in it, in order
abbrev pub InTurn : ℕ → List Event → List ObjectId → Type 0
InTurn q log waiting = queued_into q log ≡ run_from q log ++ waiting

-- nothing was queued in it, and what ran was none of its objects
passes : (q : ℕ) (log es : List Event) (waiting : List ObjectId) → queued_into q es ≡ [] → filter (λ o. has_object (queued_into q log) o) (runs_of es) ≡ [] → InTurn q log waiting → InTurn q (log ++ es) waiting
passes q log es waiting none unseen k = same ∙ k ∙ ap (λ l. l ++ waiting) (sym stay)
  where
    here : ObjectId → Bool
    here o = has_object (queued_into q log) o

    same : queued_into q (log ++ es) ≡ queued_into q log
    same = none_more (queued_by q) log es none

    stay : run_from q (log ++ es) ≡ run_from q log
    stay =
        ap (λ os. filter (λ o. has_object os o) (runs_of (log ++ es))) same
        ∙ ap (filter here) (filter_map-append run_by log es)
        ∙ filter-append here (runs_of log) (runs_of es)
        ∙ ap (λ l. run_from q log ++ l) unseen
        ∙ append-nil (run_from q log)

pub quiet_turn : (q : ℕ) (log es : List Event) (waiting : List ObjectId) → NoTurn es → InTurn q log waiting → InTurn q (log ++ es) waiting
quiet_turn q log es waiting none = passes q log es waiting (none.queues q) (ap (filter (λ o. has_object (queued_into q log) o)) none.runs)

-- one is queued that did not run
pub queued_turn : (q : ℕ) (log : List Event) (waiting : List ObjectId) (o : ObjectId) → (¬ In (runs_of log) o) → InTurn q log waiting → InTurn q (log ++ events.Queue o q ∷ []) (waiting ++ o ∷ [])
queued_turn q log waiting o fresh k =
    more ∙ ap (λ l. l ++ o ∷ []) k ∙ append_assoc (run_from q log) waiting (o ∷ []) ∙ ap (λ l. l ++ (waiting ++ o ∷ [])) (sym same)
  where
    later : List Event
    later = log ++ events.Queue o q ∷ []

    more : queued_into q later ≡ queued_into q log ++ o ∷ []
    more = filter_map-append (queued_by q) log (events.Queue o q ∷ []) ∙ ap (λ l. queued_into q log ++ l) (queued_here q o)

    runs : runs_of later ≡ runs_of log
    runs = none_more run_by log (events.Queue o q ∷ []) refl

    same : run_from q later ≡ run_from q log
    same =
        ap (λ os. filter (λ p. has_object os p) (runs_of later)) more ∙ ap (filter (λ p. has_object (queued_into q log ++ o ∷ []) p)) runs
        ∙ filter_same (λ p. has_object (queued_into q log ++ o ∷ []) p) (λ p. has_object (queued_into q log) p) (runs_of log) (λ p h. has_more (queued_into q log) o p (λ e. fresh (subst (In (runs_of log)) (sym e) h)))

pub queued_elsewhere : (j q : ℕ) (log : List Event) (waiting : List ObjectId) (o : ObjectId) → q ≢ j → InTurn q log waiting → InTurn q (log ++ events.Queue o j ∷ []) waiting
queued_elsewhere j q log waiting o apart = passes q log (events.Queue o j ∷ []) waiting (queued_else j q o apart) refl

-- the first that waits in the queue runs
pub run_turn : (q : ℕ) (log : List Event) (waiting : List ObjectId) (o : ObjectId) → InTurn q log (o ∷ waiting) → InTurn q (log ++ events.Run o ∷ []) waiting
run_turn q log waiting o k = same ∙ k ∙ sym (append_assoc (run_from q log) (o ∷ []) waiting) ∙ ap (λ l. l ++ waiting) (sym more)
  where
    es : List Event
    es = events.Run o ∷ []

    here : ObjectId → Bool
    here p = has_object (queued_into q log) p

    same : queued_into q (log ++ es) ≡ queued_into q log
    same = none_more (queued_by q) log es refl

    there : has_object (queued_into q log) o ≡ true
    there = has_object_in (queued_into q log) o (subst (λ l. In l o) (sym k) (in_right (run_from q log) (o ∷ waiting) o (inl refl)))

    more : run_from q (log ++ es) ≡ run_from q log ++ o ∷ []
    more =
        ap (λ os. filter (λ p. has_object os p) (runs_of (log ++ es))) same ∙ ap (filter here) (filter_map-append run_by log es)
        ∙ filter-append here (runs_of log) (o ∷ []) ∙ ap (λ b. run_from q log ++ cond b (o ∷ []) []) there

-- one runs that was queued elsewhere
pub run_elsewhere : (q : ℕ) (log : List Event) (waiting : List ObjectId) (o : ObjectId) → (¬ In (queued_into q log) o) → InTurn q log waiting → InTurn q (log ++ events.Run o ∷ []) waiting
run_elsewhere q log waiting o none = passes q log (events.Run o ∷ []) waiting refl (ap (λ b. cond b (o ∷ []) []) (not_there (queued_into q log) o none))

-- ---- first in, first out

abbrev IsTurn : Event → Type 0
IsTurn e = ((o : ObjectId) × (q : ℕ) × (e ≡ events.Queue o q)) ⊎ ((o : ObjectId) × (e ≡ events.Run o))

quiet_or_turn : (e : Event) → NoTurn (e ∷ []) ⊎ IsTurn e
quiet_or_turn (events.Open s) = inl (record { runs = refl; queues = λ q. refl })
quiet_or_turn (events.Close s) = inl (record { runs = refl; queues = λ q. refl })
quiet_or_turn (events.First s c found) = inl (record { runs = refl; queues = λ q. refl })
quiet_or_turn (events.Next s o found) = inl (record { runs = refl; queues = λ q. refl })
quiet_or_turn (events.Touch s o) = inl (record { runs = refl; queues = λ q. refl })
quiet_or_turn (events.Push c o) = inl (record { runs = refl; queues = λ q. refl })
quiet_or_turn (events.Replace c old new) = inl (record { runs = refl; queues = λ q. refl })
quiet_or_turn (events.Cut c o) = inl (record { runs = refl; queues = λ q. refl })
quiet_or_turn (events.Retire o) = inl (record { runs = refl; queues = λ q. refl })
quiet_or_turn (events.Ask a) = inl (record { runs = refl; queues = λ q. refl })
quiet_or_turn (events.Answer a) = inl (record { runs = refl; queues = λ q. refl })
quiet_or_turn (events.Bar b) = inl (record { runs = refl; queues = λ q. refl })
quiet_or_turn (events.Clear b) = inl (record { runs = refl; queues = λ q. refl })
quiet_or_turn (events.Queue o q) = inr (inl (o, q, refl))
quiet_or_turn (events.Run o) = inr (inr (o, refl))

ran_by : (e : Event) (o : ObjectId) (os : List ObjectId) → In (cons_option (run_by e) os) o → (e ≡ events.Run o) ⊎ In os o
ran_by (events.Open s) o os h = inr h
ran_by (events.Close s) o os h = inr h
ran_by (events.First s c found) o os h = inr h
ran_by (events.Next s p found) o os h = inr h
ran_by (events.Touch s p) o os h = inr h
ran_by (events.Push c p) o os h = inr h
ran_by (events.Replace c old new) o os h = inr h
ran_by (events.Cut c p) o os h = inr h
ran_by (events.Retire p) o os h = inr h
ran_by (events.Queue p q) o os h = inr h
ran_by (events.Ask a) o os h = inr h
ran_by (events.Answer a) o os h = inr h
ran_by (events.Bar b) o os h = inr h
ran_by (events.Clear b) o os h = inr h
ran_by (events.Run p) o os h = ⊎_elim (λ (e : p ≡ o). inl (ap events.Run e)) (λ (r : In os o). inr r) h

-- where it ran
abbrev HasRunIn : List Event → ObjectId → Type 0
HasRunIn log o = (before later : List Event) × (log ≡ before ++ events.Run o ∷ later)

has_run : (log : List Event) (o : ObjectId) → In (runs_of log) o → HasRunIn log o
has_run [] o h = absurd h
has_run (e ∷ es) o h = ⊎_elim
    (λ (is : e ≡ events.Run o). ([], es, ap (λ x. x ∷ es) is))
    (λ (r : In (runs_of es) o). let there = has_run es o r in (e ∷ there.0, there.1, ap (λ l. e ∷ l) there.2))
    (ran_by e o (runs_of es) h)

-- what is queued has not run
not_yet_run : (log before later : List Event) (o : ObjectId) (q : ℕ) → IsRun log → log ≡ before ++ events.Queue o q ∷ later → ¬ In (runs_of before) o
not_yet_run log before later o q run is h =
    let ran = has_run before o h in
    let whole : log ≡ ran.0 ++ events.Run o ∷ (ran.1 ++ events.Queue o q ∷ later) =
    is ∙ ap (λ l. l ++ events.Queue o q ∷ later) ran.2 ∙ append_assoc ran.0 (events.Run o ∷ ran.1) (events.Queue o q ∷ later) in
    let queued = runs_queued log run ran.0 (ran.1 ++ events.Queue o q ∷ later) o whole in
    (queues_once log run before later o q is).not_yet_queued queued.0
    (in_contains before (events.Queue o queued.0)
    (subst (λ l. In l (events.Queue o queued.0)) (sym ran.2) (in_left ran.0 (events.Run o ∷ ran.1) (events.Queue o queued.0) (contains_in ran.0 (events.Queue o queued.0) queued.1))))

module _ (q : ℕ) (log : List Event) (run : IsRun log) (first : RunsFirst q log) where
  one_more : (before later : List Event) (e : Event) → log ≡ before ++ e ∷ later → RunsInOrder q before → RunsInOrder q (before ++ e ∷ [])
  one_more before later e is k = ⊎_elim
      (λ (none : NoTurn (e ∷ [])). (k.0, quiet_turn q before (e ∷ []) k.0 none k.1))
      (λ (turn : IsTurn e). ⊎_elim queues runs turn)
      (quiet_or_turn e)
    where
      becomes : (f : Event) → e ≡ f → RunsInOrder q (before ++ f ∷ []) → RunsInOrder q (before ++ e ∷ [])
      becomes f same = subst (λ x. RunsInOrder q (before ++ x ∷ [])) (sym same)

      queues : (o : ObjectId) × (p : ℕ) × (e ≡ events.Queue o p) → RunsInOrder q (before ++ e ∷ [])
      queues (o, p, same) = becomes (events.Queue o p) same (⊎_elim
          (λ (y : ((q == p) ≡ true) × (q ≡ p)). subst (λ n. RunsInOrder q (before ++ events.Queue o n ∷ [])) y.1
          (k.0 ++ o ∷ [], queued_turn q before k.0 o (not_yet_run log before later o p run (is ∙ ap (λ x. before ++ x ∷ later) same)) k.1))
          (λ (n : ((q == p) ≡ false) × (q ≢ p)). (k.0, queued_elsewhere p q before k.0 o n.1 k.1))
          (eqb_tells q p))

      runs : (o : ObjectId) × (e ≡ events.Run o) → RunsInOrder q (before ++ e ∷ [])
      runs (o, same) = becomes (events.Run o) same (by (has_object (queued_into q before) o) refl)
        where
          by : (b : Bool) → has_object (queued_into q before) o ≡ b → RunsInOrder q (before ++ events.Run o ∷ [])
          by true there =
              let here = first before later o (is ∙ ap (λ x. before ++ x ∷ later) same) (in_objects (queued_into q before) o there) in
              (here.0, run_turn q before here.0 o here.1)
          by false there = (k.0, run_elsewhere q before k.0 o (λ h. absurd (apart (sym (has_object_in (queued_into q before) o h) ∙ there))) k.1)
            where
              apart : true ≢ false
              apart e = cc

  all_more : (before later : List Event) → log ≡ before ++ later → RunsInOrder q before → RunsInOrder q log
  all_more before [] is k = subst (RunsInOrder q) (sym (is ∙ append-nil before)) k
  all_more before (e ∷ later) is k =
      all_more (before ++ e ∷ []) later (is ∙ sym (append_assoc before (e ∷ []) later)) (one_more before later e is k)

  pub runs_in_order : RunsInOrder q log
  runs_in_order = all_more [] log refl ([], refl)

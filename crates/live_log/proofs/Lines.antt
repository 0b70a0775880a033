-- Queues only grow at their ends, and what a barrier concludes.
use Rattle.live_log.proofs.Cited.{◌≡◌, ◌≢◌, ℕ, zero, suc, lt_of_not-le, ◌<◌, ◌≤◌, List, [], ◌∷◌, ◌++◌, length, sym, refl, ap, ◌∙◌, subst, ⊎_elim, arith, append_assoc, append-nil, ◌==◌, true, false, some, some-ne-none, dite, dec_le, get_elem?, eqb_tells, at_longer, at_last, ObjectId, at_number, at_number_same, at_number_other}
use Rattle.rcu_model.proofs.Lemmas.{In}
use Rattle.live_log.specs.declared.event.ObjectEvent.TheVariants.{Push, Replace, Cut, Retire, Queue, Run}
use Rattle.live_log.specs.declared.event.LiveEvent.{LiveEvent}
use Rattle.live_log.specs.declared.event.LiveEvent.TheVariants.{Open, Close, SeqOdd, SeqEven, Present, ChainNote, CloseQueue, Object}
use Rattle.live_log.specs.Log.{Log, state_of, line_of, HaveRun, Begins}

abbrev More : List ObjectId → List ObjectId → Type 0
More old new = (rest : List ObjectId) × (new ≡ old ++ rest)

line_step : (e : LiveEvent) (log : Log) (q : ℕ) → More (line_of log q) (line_of (e ∷ log) q)
line_step (Open r i j) log q = ([], sym (append-nil (line_of log q)))
line_step (Close r i) log q = ([], sym (append-nil (line_of log q)))
line_step SeqOdd log q = ([], sym (append-nil (line_of log q)))
line_step SeqEven log q = ([], sym (append-nil (line_of log q)))
line_step (Present _) log q = ([], sym (append-nil (line_of log q)))
line_step (ChainNote _ _) log q = ([], sym (append-nil (line_of log q)))
line_step (CloseQueue _) log q = ([], sym (append-nil (line_of log q)))
line_step (Object (Push c p i w)) log q = ([], sym (append-nil (line_of log q)))
line_step (Object (Replace c p n i w)) log q = ([], sym (append-nil (line_of log q)))
line_step (Object (Cut c p)) log q = ([], sym (append-nil (line_of log q)))
line_step (Object (Retire p)) log q = ([], sym (append-nil (line_of log q)))
line_step (Object (Run p)) log q = ([], sym (append-nil (line_of log q)))
line_step (Object (Queue p d n)) log q = let f = line_of log in ⊎_elim
    (λ (y : ((q == d) ≡ true) × (q ≡ d)). (p ∷ [], ap (at_number d (f d ++ p ∷ []) f) y.1 ∙ (at_number_same d (f d ++ p ∷ []) f ∙ ap (λ n. f n ++ p ∷ []) (sym y.1))))
    (λ (n : ((q == d) ≡ false) × (q ≢ d)). ([], at_number_other d q (f d ++ p ∷ []) f n.1 ∙ sym (append-nil (f q))))
    (eqb_tells q d)

line_more : (since old : Log) (q : ℕ) → More (line_of old q) (line_of (since ++ old) q)
line_more [] old q = ([], sym (append-nil (line_of old q)))
line_more (e ∷ es) old q = let a = line_more es old q in let b = line_step e (es ++ old) q in (a.0 ++ b.0, b.1 ∙ (ap (λ l. l ++ b.0) a.1 ∙ append_assoc (line_of old q) a.0 b.0))

pub line_grows : (old log : Log) (q : ℕ) → Begins old log → More (line_of old q) (line_of log q)
line_grows old log q b = subst (λ (l : Log). More (line_of old q) (line_of l q)) (sym b.1) (line_more b.0 old q)

pub below : {A : Type 0} (l : List A) (k : ℕ) (a : A) → get_elem? l k ≡ some a → k < length l
below [] k a e = absurd (some-ne-none a (sym e))
below (x ∷ xs) zero a e = omega arith
below (x ∷ xs) (suc k) a e = let b = below xs k a e in omega arith

-- each queued object stands in some queue
pub line_has : (log : Log) (o : ObjectId) → In (state_of log).queued o → (q : ℕ) × (k : ℕ) × (get_elem? (line_of log q) k ≡ some o)
line_has [] o h = absurd h
line_has (Open r i j ∷ es) o h = line_has es o h
line_has (Close r i ∷ es) o h = line_has es o h
line_has (SeqOdd ∷ es) o h = line_has es o h
line_has (SeqEven ∷ es) o h = line_has es o h
line_has (Present _ ∷ es) o h = line_has es o h
line_has (ChainNote _ _ ∷ es) o h = line_has es o h
line_has (CloseQueue _ ∷ es) o h = line_has es o h
line_has (Object (Push c p i w) ∷ es) o h = line_has es o h
line_has (Object (Replace c p n i w) ∷ es) o h = line_has es o h
line_has (Object (Cut c p) ∷ es) o h = line_has es o h
line_has (Object (Retire p) ∷ es) o h = line_has es o h
line_has (Object (Run p) ∷ es) o h = line_has es o h
line_has (Object (Queue p d n) ∷ es) o h = let f = line_of es in ⊎_elim
    (λ (e : p ≡ o). (d, length (f d), subst (λ (z : List ObjectId). get_elem? z (length (f d)) ≡ some o) (sym (at_number_same d (f d ++ p ∷ []) f)) (subst (λ (x : ObjectId). get_elem? (f d ++ p ∷ []) (length (f d)) ≡ some x) e (at_last (f d) p (length (f d)) refl))))
    (λ (z : In (state_of es).queued o). let w = line_has es o z in let m = line_step (Object (Queue p d n)) es w.0 in
    (w.0, w.1, subst (λ (l : List ObjectId). get_elem? l w.1 ≡ some o) (sym m.1) (at_longer (f w.0) m.0 w.1 o w.2))) h

-- a queue of which as many have their Run as were queued at an earlier load
pub barrier_of : (old mid log : Log) (q n f : ℕ) → Begins old mid → Begins mid log → n ≡ length (line_of mid q) → n ≤ f → HaveRun q f log → (o : ObjectId) (k : ℕ) → get_elem? (line_of old q) k ≡ some o → In (state_of log).reclaimed o
barrier_of old mid log q n f a b count low run o k at =
    let x = line_grows old mid q a in
    let y = line_grows mid log q b in
    let at_mid : get_elem? (line_of mid q) k ≡ some o = subst (λ (l : List ObjectId). get_elem? l k ≡ some o) (sym x.1) (at_longer (line_of old q) x.0 k o at) in
    let inside = below (line_of mid q) k o at_mid in
    run k o (omega arith) (subst (λ (l : List ObjectId). get_elem? l k ≡ some o) (sym y.1) (at_longer (line_of mid q) y.0 k o at_mid))

-- what a barrier concludes, where the first load saw the log `old`, each queue's count was loaded at a later log, and
-- each finished count at the log of the end or before
pub barrier_clears : (queues : ℕ) (old log : Log) → ((q : ℕ) → queues ≤ q → line_of old q ≡ [])
    → ((q : ℕ) → q < queues → (mid : Log) × (n f : ℕ) × Begins old mid × Begins mid log × (n ≡ length (line_of mid q)) × (n ≤ f) × HaveRun q f log)
    → (o : ObjectId) → In (state_of old).queued o → In (state_of log).reclaimed o
barrier_clears queues old log beyond each o h = let w = line_has old o h in dite (dec_le queues w.0)
    (λ high. absurd (some-ne-none o (sym w.2 ∙ ap (λ (l : List ObjectId). get_elem? l w.1) (beyond w.0 high))))
    (λ not. let e = each w.0 (lt_of_not-le not) in barrier_of old e.0 log w.0 e.1 e.2 e.3 e.4 e.5 e.6 e.7 o w.1 w.2)

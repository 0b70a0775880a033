-- What a barrier's loads tell, one after another.
use Rattle.live_waits.proofs.Cited.{Bool, ◌≡◌, ◌≢◌, ℕ, zero, suc, lt_of_not-le, ◌+◌, ◌<◌, ◌≤◌, List, [], ◌∷◌, ◌++◌, length, get_or, set, get_or-set_same, get_or-set_other, sym, refl, ap, ◌∙◌, subst, ⊎_elim, arith, some, some-ne-none, dite, dec_le, ℕ_discrete, get_elem?, length-append, Me, ObjectId, In, LiveEvent, Log, Begins, state_of, line_of, HaveRun, begins_trans, grows_log, line_grows, line_has, barrier_of, Look, Loaded, Sizes, View, finished_at, queued_at, IsKnown, Went, looked_view}
use Rattle.live_waits.specs.Barrier.{AreNoted, AreReached, Found, HasRunTo, HaveAllRun}

-- a queue is never shorter than it was
pub longer : (old log : Log) (q : ℕ) → Begins old log → length (line_of old q) ≤ length (line_of log q)
longer old log q b = let more = line_grows old log q b in let sum = ap length more.1 ∙ length-append (line_of old q) more.0 in omega arith

-- one more load
pub found_more : {S : Type 0} (qsbr : Bool) (allows : Log → LiveEvent → Type 0) (found : List Look) (m u w : Me S View) (a n : ℕ)
    → Found qsbr allows found m u → Went qsbr allows (looked_view a n u.0) u w → Found qsbr allows (Loaded a n ∷ found) m w
found_more qsbr allows found m u w a n x y = (
  y.0 ∙ x.0,
  y.1 ∙ ap (λ (z : View). record (looked_view a n z) { seen = w.0.seen }) x.1,
  (begins_trans m.0.seen u.0.seen w.0.seen x.2.0 y.2.0, begins_trans m.0.heard u.0.seen w.0.seen x.2.1 y.2.0, y.2.2),
)

-- the load of one more queue's finished count, after those of the queues before it
pub next_found : {S : Type 0} (qsbr : Bool) (allows : Log → LiveEvent → Type 0) (key : Sizes) (counts : List ℕ) (queue n : ℕ) (m u w : Me S View)
    → (0 < queue → (since : List Look) × Found qsbr allows since m u × AreReached key counts queue since) → (queue ≡ 0 → u ≡ m) → Went qsbr allows (looked_view (finished_at key queue) n u.0) u w
    → (rest : List Look) × Found qsbr allows (Loaded (finished_at key queue) n ∷ rest) m w × AreReached key counts queue rest
next_found {S} qsbr allows key counts zero n m u w found first y = ([], subst (λ (t : Me S View). Went qsbr allows (looked_view (finished_at key zero) n t.0) t w) (first refl) y, refl)
next_found qsbr allows key counts (suc q) n m u w found first y = let f = found (omega arith) in (f.0, found_more qsbr allows f.0 m u w (finished_at key (suc q)) n f.1 y, f.2)

pub reached_more : (key : Sizes) (counts : List ℕ) (queue n : ℕ) (rest : List Look) → get_or counts queue 0 ≤ n → AreReached key counts queue rest → AreReached key counts (queue + 1) (Loaded (finished_at key queue) n ∷ rest)
reached_more key counts queue n rest low reached =
    let next : AreReached key counts (suc queue) (Loaded (finished_at key queue) n ∷ rest) = (n, rest, refl, low, reached) in
    let one : suc queue ≡ queue + 1 = omega arith in
    subst (λ (q : ℕ). AreReached key counts q (Loaded (finished_at key queue) n ∷ rest)) one next

-- the counts of other queues are as they were noted
still_noted : (key : Sizes) (counts counts' : List ℕ) (queue : ℕ) (looks : List Look) → ((q : ℕ) → q < queue → get_or counts' q 0 ≡ get_or counts q 0) → AreNoted key counts queue looks → AreNoted key counts' queue looks
still_noted key counts counts' zero looks same noted = noted
still_noted key counts counts' (suc q) looks same (rest, is, others) =
    (rest, is ∙ ap (λ n. Loaded (queued_at key q) n ∷ rest) (sym (same q (omega arith))), still_noted key counts counts' q rest (λ p low. same p (omega arith)) others)

-- one more queue's count is noted
pub noted_more : (key : Sizes) (counts : List ℕ) (queue n : ℕ) (looks : List Look) → queue < length counts → AreNoted key counts queue looks → AreNoted key (set counts queue n) (queue + 1) (Loaded (queued_at key queue) n ∷ looks)
noted_more key counts queue n looks inside noted =
    let next : AreNoted key (set counts queue n) (suc queue) (Loaded (queued_at key queue) n ∷ looks) =
    (looks, ap (λ m. Loaded (queued_at key queue) m ∷ looks) (sym (get_or-set_same counts queue n 0 inside)), still_noted key counts (set counts queue n) queue looks (λ q low. get_or-set_other counts queue q n 0 (omega arith)) noted) in
    let one : suc queue ≡ queue + 1 = omega arith in
    subst (λ q. AreNoted key (set counts queue n) q (Loaded (queued_at key queue) n ∷ looks)) one next

-- a count that was loaded now is between what the queue had been given then and what it has been given now
module _ (first log new : Log) (queue n : ℕ) (counts : List ℕ) (inside : queue < length counts) (after : Begins first log) (later : Begins log new) (is : n ≡ length (line_of new queue)) where
  here : (q : ℕ) → q ≡ queue → get_or (set counts queue n) q 0 ≡ length (line_of new q)
  here q same = subst (λ (z : ℕ). get_or (set counts queue n) z 0 ≡ length (line_of new z)) (sym same) (get_or-set_same counts queue n 0 inside ∙ is)

  other : (q : ℕ) → q ≢ queue → get_or (set counts queue n) q 0 ≡ get_or counts q 0
  other q ne = get_or-set_other counts queue q n 0 ne

  pub covers_more : ((q : ℕ) → q < queue → length (line_of first q) ≤ get_or counts q 0) → (q : ℕ) → q < queue + 1 → length (line_of first q) ≤ get_or (set counts queue n) q 0
  covers_more covers q low = dite (ℕ_discrete q queue)
      (λ same. let e = here q same in let l = longer first new q (begins_trans first log new after later) in omega arith)
      (λ ne. let e = other q ne in let c = covers q (omega arith) in omega arith)

  pub given_more : ((q : ℕ) → q < queue → get_or counts q 0 ≤ length (line_of log q)) → (q : ℕ) → q < queue + 1 → get_or (set counts queue n) q 0 ≤ length (line_of new q)
  given_more given q low = dite (ℕ_discrete q queue)
      (λ same. let e = here q same in omega arith)
      (λ ne. let e = other q ne in let g = given q (omega arith) in let l = longer log new q later in omega arith)

-- all that was in the queue in the old log has its Run
abbrev pub IsPassed : Log → Log → ℕ → Type 0
IsPassed old log q = (o : ObjectId) (k : ℕ) → get_elem? (line_of old q) k ≡ some o → In (state_of log).reclaimed o

pub passes_more : (old log new : Log) (queue count f : ℕ) → Begins old new → Begins log new → length (line_of old queue) ≤ count → count ≤ f → HaveRun queue f new
    → ((q : ℕ) → q < queue → IsPassed old log q) → (q : ℕ) → q < queue + 1 → IsPassed old new q
passes_more old log new queue count f after later covered reached run passed q low o k at = dite (ℕ_discrete q queue)
    (λ same. barrier_of old old new queue (length (line_of old queue)) f ([], refl) after refl (omega arith) run o k (subst (λ (z : ℕ). get_elem? (line_of old z) k ≡ some o) same at))
    (λ ne. (grows_log log new later).reclaimed o (passed q (omega arith) o k at))

at_front : {A : Type 0} (xs ys : List A) (k : ℕ) → k < length xs → get_elem? (xs ++ ys) k ≡ get_elem? xs k
at_front [] ys k low = absurd (omega arith)
at_front (x ∷ xs) ys zero low = refl
at_front (x ∷ xs) ys (suc k) low = at_front xs ys k (omega arith)

-- what was run to a number is so in each later log
pub runs_still : (log new : Log) (q n : ℕ) → Begins log new → HasRunTo log q n → HasRunTo new q n
runs_still log new q n later (run, low) =
    let more = line_grows log new q later in let l = longer log new q later in
    (λ k o under at. (grows_log log new later).reclaimed o (run k o under (sym (at_front (line_of log q) more.0 k (omega arith)) ∙ (ap (λ (z : List ObjectId). get_elem? z k) (sym more.1) ∙ at))), omega arith)

-- one more queue has run to its count
pub runs_more : (log new : Log) (counts : List ℕ) (queue f : ℕ) → Begins log new → get_or counts queue 0 ≤ f → HasRunTo new queue f
    → ((q : ℕ) → q < queue → HasRunTo log q (get_or counts q 0)) → (q : ℕ) → q < queue + 1 → HasRunTo new q (get_or counts q 0)
runs_more log new counts queue f later reached (run, low) before q under = dite (ℕ_discrete q queue)
    (λ same. subst (λ (z : ℕ). HasRunTo new z (get_or counts z 0)) (sym same) (λ k o few at. run k o (omega arith) at, omega arith))
    (λ ne. runs_still log new q (get_or counts q 0) later (before q (omega arith)))

nothing_before : {A : Type 0} (xs ys : List A) → [] ≡ xs ++ ys → xs ≡ []
nothing_before [] ys e = refl
nothing_before (x ∷ xs) ys e = cc

-- all queues together
pub all_passed : (queues : ℕ) (old log : Log) → Begins old log → ((q : ℕ) → queues ≤ q → line_of log q ≡ []) → ((q : ℕ) → q < queues → IsPassed old log q) → HaveAllRun old log
all_passed queues old log after beyond passed o h = let w = line_has old o h in dite (dec_le queues w.0)
    (λ high. let g = line_grows old log w.0 after in
    absurd (some-ne-none o (sym w.2 ∙ ap (λ (l : List ObjectId). get_elem? l w.1) (nothing_before (line_of old w.0) g.0 (sym (beyond w.0 high) ∙ g.1)))))
    (λ low. passed w.0 (lt_of_not-le low) o w.1 w.2)

-- the log was known, so the later one begins with it
pub known_before : (v : View) (old log : Log) → IsKnown (Begins old) v → Begins v.seen log → Begins v.heard log → Begins old log
known_before v old log known seen heard = ⊎_elim (λ (b : Begins old v.seen). begins_trans old v.seen log b seen) (λ (b : Begins old v.heard). begins_trans old v.heard log b heard) known

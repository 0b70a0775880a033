-- What the loads of a count tell, one after another.
use Rattle.live_waits.proofs.Cited.{◌≡◌, ◌%◌, ℕ, zero, suc, ◌+◌, ◌==◌, ◌<◌, ◌≤◌, Bool, List, ◌∷◌, length, get_or, set, get_or-set_same, get_or-set_other, refl, ap, ◌∙◌, subst, arith, if◌then◌else◌, length-append, Me, LiveEvent, Log, Begins, line_of, begins_trans, line_grows, Loaded, Sizes, View, cell_at, finished_at, queued_at, Went, looked_view}
use Rattle.live_waits.specs.Status.{AreInUse, AreWaiting, HasFound, HasNone, Looks}

-- one more load
pub found_more : {S : Type 0} (qsbr : Bool) (allows : Log → LiveEvent → Type 0) (found : Looks) (m u w : Me S View) (a n : ℕ) → HasFound found m u → Went qsbr allows (looked_view a n u.0) u w → HasFound (Loaded a n ∷ found) m w
found_more qsbr allows found m u w a n x y = (
  y.0 ∙ x.0,
  y.1 ∙ ap (λ (z : View). record (looked_view a n z) { seen = w.0.seen }) x.1,
  begins_trans m.0.seen u.0.seen w.0.seen x.2 y.2.0,
)

-- a queue is never shorter than it was
pub longer : (old log : Log) (q : ℕ) → Begins old log → length (line_of old q) ≤ length (line_of log q)
longer old log q b = let more = line_grows old log q b in let sum = ap length more.1 ∙ length-append (line_of old q) more.0 in omega arith

-- the header of one more record
pub used_more : (key : Sizes) (i before header count : ℕ) (rest : Looks) → count ≡ (if header % 4 == 0 then before else before + 1) → AreInUse key i before rest → AreInUse key (i + 1) count (Loaded (cell_at key i 0) header ∷ rest)
used_more key i before header count rest is used =
    let next : AreInUse key (suc i) count (Loaded (cell_at key i 0) header ∷ rest) = (header, before, rest, refl, is, used) in
    let one : suc i ≡ i + 1 = omega arith in
    subst (λ (n : ℕ). AreInUse key n count (Loaded (cell_at key i 0) header ∷ rest)) one next

-- the counts of other queues are left
pub waits_kept : (key : Sizes) (n : ℕ) (old new : List ℕ) (found : Looks) → ((q : ℕ) → q < n → get_or new q 0 ≡ get_or old q 0) → AreWaiting key n old found → AreWaiting key n new found
waits_kept key zero old new found same w = w
waits_kept key (suc n) old new found same w = let here = same n (omega arith) in let sum = w.4 in
    (w.0, w.1, w.2, w.3, omega arith, waits_kept key n old new w.2 (λ q low. same q (omega arith)) w.5)

-- the counts of one more queue
pub waits_more : (key : Sizes) (queue queued finished : ℕ) (waiting : List ℕ) (rest : Looks) (n : ℕ) → queue < length waiting → n + finished ≡ queued → AreWaiting key queue waiting rest
    → AreWaiting key (queue + 1) (set waiting queue n) (Loaded (queued_at key queue) queued ∷ Loaded (finished_at key queue) finished ∷ rest)
waits_more key queue queued finished waiting rest n inside is w =
    let here = get_or-set_same waiting queue n 0 inside in
    let kept = waits_kept key queue waiting (set waiting queue n) rest (λ q low. get_or-set_other waiting queue q n 0 (λ e. omega arith)) w in
    let next : AreWaiting key (suc queue) (set waiting queue n) (Loaded (queued_at key queue) queued ∷ Loaded (finished_at key queue) finished ∷ rest) = (queued, finished, rest, refl, omega arith, kept) in
    let one : suc queue ≡ queue + 1 = omega arith in
    subst (λ (q : ℕ). AreWaiting key q (set waiting queue n) (Loaded (queued_at key queue) queued ∷ Loaded (finished_at key queue) finished ∷ rest)) one next

-- and of those after it nothing is said yet
pub none_more : (queue n : ℕ) (waiting : List ℕ) → HasNone queue waiting → HasNone (queue + 1) (set waiting queue n)
none_more queue n waiting none q high low = get_or-set_other waiting queue q n 0 (λ e. omega arith) ∙ none q (omega arith) low

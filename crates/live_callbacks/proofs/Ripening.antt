-- Why the object whose turn it is may be run.
use Rattle.live_callbacks.proofs.Cited.{◌≡◌, ◌≢◌, ℕ, zero, suc, ◌<◌, List, [], ◌∷◌, ◌++◌, length, sym, refl, ap, ◌∙◌, subst, arith, Bool, true, false, inl, inr, ⊎_elim, ◌==◌, some, some-injective, some-ne-none, eqb_tells, get_elem?, at_longer, at_snoc, ObjectId, at_number_same, at_number_other, in_objects, In, at_number, LiveEvent, Open, Close, SeqOdd, SeqEven, Present, ChainNote, CloseQueue, Object, Push, Replace, Cut, Retire, Queue, Run, Log, Begins, Has, HaveEnded, IsLiveRun, line_of, state_of, begins_trans, grows_log, has_later, line_grows, ripe, run_of, IsRipe, IsAt}

pub stands_later : (old new : Log) (q n : ℕ) (o : ObjectId) → Begins old new → IsAt q n o old → IsAt q n o new
stands_later old new q n o b at = let g = line_grows old new q b in ap (λ (l : List ObjectId). get_elem? l n) g.1 ∙ at_longer (line_of old q) g.0 n o at

pub has_run : (before log new : Log) (o : ObjectId) → log ≡ Object (Run o) ∷ before → Begins log new → In (state_of new).reclaimed o
has_run before log new o e b = (grows_log log new b).reclaimed o (subst (λ (l : Log). In (state_of l).reclaimed o) (sym e) (inl refl))

pub ended_later : (mark old new : Log) → Begins old new → HaveEnded mark old → HaveEnded mark new
ended_later mark old new b ended r n m at = subst (λ (l : Log). Has (Close r n) l) (sym b.1) (has_later (Close r n) b.0 old (ended r n m at))

-- the objects of a queue were retired
module _ (qsbr : Bool) (allows : Log → LiveEvent → Type 0) where
  line_retired : (log : Log) (q k : ℕ) (o : ObjectId) → IsLiveRun qsbr allows log → IsAt q k o log → In (state_of log).retired o
  line_retired [] q k o run at = absurd (some-ne-none o (sym at))
  line_retired (Open r i j ∷ es) q k o run at = line_retired es q k o run.1 at
  line_retired (Close r i ∷ es) q k o run at = line_retired es q k o run.1 at
  line_retired (SeqOdd ∷ es) q k o run at = line_retired es q k o run.1 at
  line_retired (SeqEven ∷ es) q k o run at = line_retired es q k o run.1 at
  line_retired (Present _ ∷ es) q k o run at = line_retired es q k o run.1 at
  line_retired (ChainNote _ _ ∷ es) q k o run at = line_retired es q k o run.1 at
  line_retired (CloseQueue _ ∷ es) q k o run at = line_retired es q k o run.1 at
  line_retired (Object (Push c p i w) ∷ es) q k o run at = line_retired es q k o run.1 at
  line_retired (Object (Replace c p n i w) ∷ es) q k o run at = line_retired es q k o run.1 at
  line_retired (Object (Cut c p) ∷ es) q k o run at = line_retired es q k o run.1 at
  line_retired (Object (Retire p) ∷ es) q k o run at = inr (line_retired es q k o run.1 at)
  line_retired (Object (Run p) ∷ es) q k o run at = line_retired es q k o run.1 at
  line_retired (Object (Queue p d i) ∷ es) q k o run at = let f = line_of es in ⊎_elim
      (λ (y : ((q == d) ≡ true) × (q ≡ d)). ⊎_elim
      (λ (z : get_elem? (f d) k ≡ some o). line_retired es d k o run.1 z)
      (λ (z : p ≡ o). subst (λ (x : ObjectId). In (state_of es).retired x) z (in_objects (state_of es).retired p run.0.0.0))
      (at_snoc (f d) p o k (subst (λ (l : List ObjectId). get_elem? l k ≡ some o) (ap (at_number d (f d ++ p ∷ []) f) y.1 ∙ at_number_same d (f d ++ p ∷ []) f) at)))
      (λ (n : ((q == d) ≡ false) × (q ≢ d)). line_retired es q k o run.1 (subst (λ (l : List ObjectId). get_elem? l k ≡ some o) (at_number_other d q (f d ++ p ∷ []) f n.1) at))
      (eqb_tells q d)

  at_some : (l : List ObjectId) (n : ℕ) → n < length l → (o : ObjectId) × (get_elem? l n ≡ some o)
  at_some [] n low = absurd (omega arith)
  at_some (x ∷ xs) zero low = (x, refl)
  at_some (x ∷ xs) (suc n) low = at_some xs n (omega arith)

  -- an object whose place in a queue was taken before a grace period, which has ended
  pub ripe_next : (was mark seen log : Log) (q n : ℕ) (o : ObjectId) → IsLiveRun qsbr allows log → IsAt q n o was → Begins was log → Begins seen log → Begins mark seen → n < length (line_of mark q) → HaveEnded mark seen → IsRipe seen o
  ripe_next was mark seen log q n o run at a b c low ended =
      let there = at_some (line_of mark q) n low in
      let one = stands_later was log q n o a at in
      let two = stands_later mark log q n there.0 (begins_trans mark seen log c b) there.1 in
      let same : o ≡ there.0 = some-injective o there.0 (sym one ∙ two) in
      let run_seen = run_of qsbr allows seen log b run in
      let retired = line_retired mark q n o (run_of qsbr allows mark seen c run_seen) (there.1 ∙ ap some (sym same)) in
      ((grows_log mark seen c).retired o retired, ripe qsbr allows mark seen o run_seen c retired ended)

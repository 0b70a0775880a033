-- A queue that was closed takes nothing more.
use Rattle.live_log.proofs.Cited.{Bool, ◌≡◌, ℕ, ◌≤◌, [], ◌∷◌, ◌++◌, cond, sym, refl, ap, ◌∙◌, subst, arith, eq-eqb, ne_eqb, dite, ℕ_discrete, at_number_other}
use Rattle.live_log.specs.declared.event.LiveEvent.{LiveEvent}
use Rattle.live_log.specs.declared.event.LiveEvent.TheVariants.{Open, Close, SeqOdd, SeqEven, Present, ChainNote, CloseQueue, Object}
use Rattle.live_log.specs.declared.event.ObjectEvent.TheVariants.{Push, Replace, Cut, Retire, Queue, Run}
use Rattle.live_log.specs.Log.{Log, line_of, closed_of, IsLiveRun, Begins}

module _ (qsbr : Bool) (allows : Log → LiveEvent → Type 0) where
  closed_once : (e : LiveEvent) (log : Log) (q : ℕ) → IsLiveRun qsbr allows (e ∷ log) → closed_of q log ≡ 1 → (closed_of q (e ∷ log) ≡ 1) × (line_of (e ∷ log) q ≡ line_of log q)
  closed_once (Open r n m) log q run c = (c, refl)
  closed_once (Close r n) log q run c = (c, refl)
  closed_once SeqOdd log q run c = (c, refl)
  closed_once SeqEven log q run c = (c, refl)
  closed_once (Present p) log q run c = (c, refl)
  closed_once (ChainNote d x) log q run c = (c, refl)
  closed_once (CloseQueue d) log q run c = (dite (ℕ_discrete d q) (λ e. ap (λ b. cond b 1 (closed_of q log)) (eq-eqb d q e)) (λ ne. ap (λ b. cond b 1 (closed_of q log)) (ne_eqb d q ne) ∙ c), refl)
  closed_once (Object (Push d o i w)) log q run c = (c, refl)
  closed_once (Object (Replace d p o i w)) log q run c = (c, refl)
  closed_once (Object (Cut d o)) log q run c = (c, refl)
  closed_once (Object (Retire o)) log q run c = (c, refl)
  closed_once (Object (Run o)) log q run c = (c, refl)
  closed_once (Object (Queue o d n)) log q run c = (c, at_number_other d q (line_of log d ++ o ∷ []) (line_of log) (λ e. let z : closed_of d log ≡ 1 = ap (λ n. closed_of n log) (sym e) ∙ c in let y = run.0.1 in absurd (omega arith)))

  closed_all : (since old : Log) (q : ℕ) → IsLiveRun qsbr allows (since ++ old) → closed_of q old ≡ 1 → (closed_of q (since ++ old) ≡ 1) × (line_of (since ++ old) q ≡ line_of old q)
  closed_all [] old q run c = (c, refl)
  closed_all (e ∷ es) old q run c = let x = closed_all es old q run.1 c in let y = closed_once e (es ++ old) q run x.0 in (y.0, y.1 ∙ x.1)

  pub closed_stays : (old log : Log) (q : ℕ) → Begins old log → IsLiveRun qsbr allows log → closed_of q old ≡ 1 → (closed_of q log ≡ 1) × (line_of log q ≡ line_of old q)
  closed_stays old log q b run c = let x = closed_all b.0 old q (subst (IsLiveRun qsbr allows) b.1 run) c in (ap (closed_of q) b.1 ∙ x.0, ap (λ (l : Log). line_of l q) b.1 ∙ x.1)

-- a closed word is 0 or 1
pub closed_low : (q : ℕ) (log : Log) → closed_of q log ≤ 1
closed_low q [] = omega arith
closed_low q (CloseQueue d ∷ es) = dite (ℕ_discrete d q) (λ e. subst (λ b. cond b 1 (closed_of q es) ≤ 1) (sym (eq-eqb d q e)) (omega arith)) (λ ne. subst (λ b. cond b 1 (closed_of q es) ≤ 1) (sym (ne_eqb d q ne)) (closed_low q es))
closed_low q (Open r n m ∷ es) = closed_low q es
closed_low q (Close r n ∷ es) = closed_low q es
closed_low q (SeqOdd ∷ es) = closed_low q es
closed_low q (SeqEven ∷ es) = closed_low q es
closed_low q (Present p ∷ es) = closed_low q es
closed_low q (ChainNote d x ∷ es) = closed_low q es
closed_low q (Object d ∷ es) = closed_low q es

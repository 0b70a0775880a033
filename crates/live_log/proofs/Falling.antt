-- Where each event that changes a chain leaves it falling, every chain of a log falls.
use Rattle.live_log.proofs.Cited.{Bool, ◌≡◌, ℕ, List, [], ◌∷◌, refl, sym, subst, dite, ℕ_discrete, ObjectId, replaced, without_object, at_number_other}
use Rattle.live_log.specs.declared.event.ObjectEvent.TheVariants.{Push, Replace, Cut, Retire, Queue, Run}
use Rattle.live_log.specs.declared.event.LiveEvent.{LiveEvent}
use Rattle.live_log.specs.declared.event.LiveEvent.TheVariants.{Open, Close, SeqOdd, SeqEven, Present, ChainNote, CloseQueue, Object}
use Rattle.live_log.specs.Keys.{Falls, IsKeyed, keyed}
use Rattle.live_log.specs.Log.{Log, state_of, record_of, IsLiveRun}
use Rattle.live_log.proofs.Keying.{falls_same}
use Rattle.live_log.proofs.Notes.{note_stays}
use Rattle.live_log.proofs.Places.{chain_used}

module _ (qsbr : Bool) (allows : Log → LiveEvent → Type 0) where
  -- a chain that an event leaves as it was
  left_alone : (e : LiveEvent) (log : Log) (c : ℕ) → IsLiveRun qsbr allows (e ∷ log) → (state_of (e ∷ log)).chain c ≡ (state_of log).chain c → IsKeyed log c → IsKeyed (e ∷ log) c
  left_alone e log c run same falls =
      let was : List ObjectId = (state_of log).chain c in
      subst (Falls (record_of (e ∷ log))) (sym same)
      (falls_same (record_of log) (record_of (e ∷ log)) was (λ o h. note_stays qsbr allows log (e ∷ log) o (e ∷ [], refl) run (chain_used qsbr allows log c o run.1 h)) falls)

  -- each event leaves the chain falling that it changes
  pub record LeavesFalling : Type 0 where
    pub push : (log : Log) (c : ℕ) (o : ObjectId) (i : ℕ) (w : List ℕ) → IsLiveRun qsbr allows (Object (Push c o i w) ∷ log) → IsKeyed (Object (Push c o i w) ∷ log) c
    pub replace : (log : Log) (c : ℕ) (p o : ObjectId) (i : ℕ) (w : List ℕ) → IsLiveRun qsbr allows (Object (Replace c p o i w) ∷ log) → IsKeyed (Object (Replace c p o i w) ∷ log) c
    pub cut : (log : Log) (c : ℕ) (o : ObjectId) → IsLiveRun qsbr allows (Object (Cut c o) ∷ log) → IsKeyed (Object (Cut c o) ∷ log) c

  module _ (leaves : LeavesFalling) where
    pub all_fall : (log : Log) (c : ℕ) → IsLiveRun qsbr allows log → IsKeyed log c
    all_fall [] c run = tt
    all_fall (Open r n m ∷ es) c run = all_fall es c run.1
    all_fall (Close r n ∷ es) c run = all_fall es c run.1
    all_fall (SeqOdd ∷ es) c run = all_fall es c run.1
    all_fall (SeqEven ∷ es) c run = all_fall es c run.1
    all_fall (Present p ∷ es) c run = all_fall es c run.1
    all_fall (ChainNote d x ∷ es) c run = all_fall es c run.1
    all_fall (CloseQueue q ∷ es) c run = all_fall es c run.1
    all_fall (Object (Push d o i w) ∷ es) c run = let e = Object (Push d o i w) in dite (ℕ_discrete d c)
        (λ is. subst (IsKeyed (e ∷ es)) is (leaves.push es d o i w run))
        (λ ne. left_alone e es c run (at_number_other d c (o ∷ (state_of es).chain d) (state_of es).chain (λ is. ne (sym is))) (all_fall es c run.1))
    all_fall (Object (Replace d p o i w) ∷ es) c run = let e = Object (Replace d p o i w) in dite (ℕ_discrete d c)
        (λ is. subst (IsKeyed (e ∷ es)) is (leaves.replace es d p o i w run))
        (λ ne. left_alone e es c run (at_number_other d c (replaced p o ((state_of es).chain d)) (state_of es).chain (λ is. ne (sym is))) (all_fall es c run.1))
    all_fall (Object (Cut d o) ∷ es) c run = let e = Object (Cut d o) in dite (ℕ_discrete d c)
        (λ is. subst (IsKeyed (e ∷ es)) is (leaves.cut es d o run))
        (λ ne. left_alone e es c run (at_number_other d c (without_object o ((state_of es).chain d)) (state_of es).chain (λ is. ne (sym is))) (all_fall es c run.1))
    all_fall (Object (Retire o) ∷ es) c run = all_fall es c run.1
    all_fall (Object (Queue o q n) ∷ es) c run = all_fall es c run.1
    all_fall (Object (Run o) ∷ es) c run = all_fall es c run.1

-- under the rule of keyed chains each does
pub each_falls : (qsbr : Bool) (log : Log) (c : ℕ) → IsLiveRun qsbr keyed log → IsKeyed log c
each_falls qsbr = all_fall qsbr keyed (record { push = λ log c o i w run. run.0.1; replace = λ log c p o i w run. run.0.1.0; cut = λ log c o run. run.0.1 })

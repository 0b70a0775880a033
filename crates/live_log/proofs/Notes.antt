-- The record and the payload of an object that was put into a chain stay.
use Rattle.live_log.proofs.Cited.{Bool, ◌≡◌, ℕ, List, [], ◌∷◌, ◌++◌, refl, ap, ◌∙◌, subst, inl, inr, ObjectId, In, at_object_other, at_object_same}
use Rattle.live_log.specs.declared.event.ObjectEvent.TheVariants.{Push, Replace, Cut, Retire, Queue, Run}
use Rattle.live_log.specs.declared.event.LiveEvent.{LiveEvent}
use Rattle.live_log.specs.declared.event.LiveEvent.TheVariants.{Open, Close, SeqOdd, SeqEven, Present, ChainNote, CloseQueue, Object}
use Rattle.live_log.specs.Log.{Log, Begins, Has, state_of, record_of, IsLiveRun}
use Rattle.live_log.proofs.Machine.{not_has, grows_log}

-- an event of the log was written at some log
written_at : (e : LiveEvent) (log : Log) → Has e log → (before : Log) × Begins (e ∷ before) log
written_at e [] h = absurd h
written_at e (x ∷ xs) (inl same) = (xs, ([], ap (λ (z : LiveEvent). z ∷ xs) same))
written_at e (x ∷ xs) (inr h) = let w = written_at e xs h in (w.0, (x ∷ w.1.0, ap (λ (l : Log). x ∷ l) w.1.1))

module _ (qsbr : Bool) (allows : Log → LiveEvent → Type 0) where
  -- the note of an object that was put into a chain stays
  noted_once : (e : LiveEvent) (log : Log) (o : ObjectId) → IsLiveRun qsbr allows (e ∷ log) → In (state_of log).used o → record_of (e ∷ log) o ≡ record_of log o
  noted_once (Open q i j) log o run h = refl
  noted_once (Close q i) log o run h = refl
  noted_once SeqOdd log o run h = refl
  noted_once SeqEven log o run h = refl
  noted_once (Present _) log o run h = refl
  noted_once (ChainNote _ _) log o run h = refl
  noted_once (CloseQueue _) log o run h = refl
  noted_once (Object (Push c p i w)) log o run h = at_object_other p o (i, w) (record_of log) (λ e. not_has (state_of log).used p run.0.0 (subst (In (state_of log).used) e h))
  noted_once (Object (Replace c p n i w)) log o run h = at_object_other n o (i, w) (record_of log) (λ e. not_has (state_of log).used n run.0.0.1 (subst (In (state_of log).used) e h))
  noted_once (Object (Cut c p)) log o run h = refl
  noted_once (Object (Retire p)) log o run h = refl
  noted_once (Object (Queue p q n)) log o run h = refl
  noted_once (Object (Run p)) log o run h = refl

  note_all : (since old : Log) (o : ObjectId) → IsLiveRun qsbr allows (since ++ old) → In (state_of old).used o → record_of (since ++ old) o ≡ record_of old o
  note_all [] old o run h = refl
  note_all (e ∷ es) old o run h = noted_once e (es ++ old) o run ((grows_log old (es ++ old) (es, refl)).used o h) ∙ note_all es old o run.1 h

  pub note_stays : (old log : Log) (o : ObjectId) → Begins old log → IsLiveRun qsbr allows log → In (state_of old).used o → record_of log o ≡ record_of old o
  note_stays old log o b run h = ap (λ (l : Log). record_of l o) b.1 ∙ note_all b.0 old o (subst (IsLiveRun qsbr allows) b.1 run) h

  pub pushed_note : (log : Log) (c : ℕ) (o : ObjectId) (cell : ℕ) (payload : List ℕ) → IsLiveRun qsbr allows log → Has (Object (Push c o cell payload)) log → record_of log o ≡ (cell, payload)
  pushed_note log c o cell payload run h =
      let e : LiveEvent = Object (Push c o cell payload) in
      let w = written_at e log h in
      note_stays (e ∷ w.0) log o w.1 run (inl refl) ∙ at_object_same o (cell, payload) (record_of w.0)

  pub replaced_note : (log : Log) (c : ℕ) (p o : ObjectId) (cell : ℕ) (payload : List ℕ) → IsLiveRun qsbr allows log → Has (Object (Replace c p o cell payload)) log → record_of log o ≡ (cell, payload)
  replaced_note log c p o cell payload run h =
      let e : LiveEvent = Object (Replace c p o cell payload) in
      let w = written_at e log h in
      note_stays (e ∷ w.0) log o w.1 run (inl refl) ∙ at_object_same o (cell, payload) (record_of w.0)

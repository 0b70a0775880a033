-- An object is queued once in a log, with one callback.
use Rattle.rcu.proofs.Cited.{Coded, Bool, ◌≡◌, ℕ, [], ◌∷◌, inl, inr, refl, sym, ◌∙◌, ap, subst, In, ObjectId, has_object_in, CallbackId, LiveEvent, Open, Close, SeqOdd, SeqEven, Present, ChainNote, CloseQueue, Object, Push, Replace, Cut, Retire, Queue, Run, Log, Has, IsLiveRun, MayFollow, WasQueued, state_of}

queued_in : (log : Log) (o : ObjectId) (q : ℕ) (id : CallbackId) → Has (Object (Queue o q id)) log → In (state_of log).queued o
queued_in [] o q id h = absurd h
queued_in (e ∷ es) o q id (inl is) = subst (λ (x : LiveEvent). In (state_of (x ∷ es)).queued o) (sym is) (inl refl)
queued_in (Open _ _ _ ∷ es) o q id (inr h) = queued_in es o q id h
queued_in (Close _ _ ∷ es) o q id (inr h) = queued_in es o q id h
queued_in (SeqOdd ∷ es) o q id (inr h) = queued_in es o q id h
queued_in (SeqEven ∷ es) o q id (inr h) = queued_in es o q id h
queued_in (Present _ ∷ es) o q id (inr h) = queued_in es o q id h
queued_in (ChainNote _ _ ∷ es) o q id (inr h) = queued_in es o q id h
queued_in (CloseQueue _ ∷ es) o q id (inr h) = queued_in es o q id h
queued_in (Object (Push _ _ _ _) ∷ es) o q id (inr h) = queued_in es o q id h
queued_in (Object (Replace _ _ _ _ _) ∷ es) o q id (inr h) = queued_in es o q id h
queued_in (Object (Cut _ _) ∷ es) o q id (inr h) = queued_in es o q id h
queued_in (Object (Retire _) ∷ es) o q id (inr h) = queued_in es o q id h
queued_in (Object (Queue _ _ _) ∷ es) o q id (inr h) = inr (queued_in es o q id h)
queued_in (Object (Run _) ∷ es) o q id (inr h) = queued_in es o q id h

module _ (qsbr : Bool) (allows : Log → LiveEvent → Type 0) where
  not_again : (es : Log) (e : LiveEvent) (o : ObjectId) (q p : ℕ) (a b : CallbackId) → MayFollow qsbr allows es e → e ≡ Object (Queue o q a) → Has (Object (Queue o p b)) es → ⊥
  not_again es e o q p a b may is h = let follows : MayFollow qsbr allows es (Object (Queue o q a)) = subst (MayFollow qsbr allows es) is may in
      follows.0.1 (has_object_in (state_of es).queued o (queued_in es o p b h))

  once : (log : Log) (o : ObjectId) (q p : ℕ) (a b : CallbackId) → IsLiveRun qsbr allows log → Has (Object (Queue o q a)) log → Has (Object (Queue o p b)) log → Object (Queue o q a) ≡ Object (Queue o p b)
  once [] o q p a b run h k = absurd h
  once (e ∷ es) o q p a b run (inl h) (inl k) = sym h ∙ k
  once (e ∷ es) o q p a b run (inl h) (inr k) = absurd (not_again es e o q p a b run.0 h k)
  once (e ∷ es) o q p a b run (inr h) (inl k) = absurd (not_again es e o p q b a run.0 k h)
  once (e ∷ es) o q p a b run (inr h) (inr k) = once es o q p a b run.1 h k

  -- where two values of a type were each noted with the object, they are one, and so is the queue
  pub one_callback : {A : Type 0} (code : Coded A) (log : Log) (o : ObjectId) (q p : ℕ) (c d : A) → IsLiveRun qsbr allows log → WasQueued o q (code.code c) log → WasQueued o p (code.code d) log → (q ≡ p) × (c ≡ d)
  one_callback code log o q p c d run h k = let same = once log o q p h.0 k.0 run h.2 k.2 in let ids : h.0 ≡ k.0 = cc in
      (cc, code.inj c d (sym h.1 ∙ (ap (λ (i : CallbackId). i.code) ids ∙ k.1)))

-- What was put into a chain, cut, retired, queued or run stays so.
use Rattle.std.proofs.Common.{◌≡◌, inr, List, [], ◌∷◌, ◌++◌, Some, None, refl}
use Rattle.rcu_model.specs.declared.event.Event.{Event}
use Rattle.rcu_model.specs.declared.event.Event.TheVariants.{Open, Close, First, Next, Touch, Push, Replace, Cut, Retire, Queue, Run, Ask, Answer, Bar, Clear}
use Rattle.rcu_model.specs.declared.event.ObjectId.{ObjectId}
use Rattle.rcu_model.specs.Machine.{State, after, after_all}
use Rattle.rcu_model.specs.Backwards.{state_back}
use Rattle.rcu_model.proofs.Members.{In}

pub record Grows (now later : State) : Type 0 where
  pub used : (o : ObjectId) → In now.used o → In later.used o
  pub cut : (o : ObjectId) → In now.cut o → In later.cut o
  pub retired : (o : ObjectId) → In now.retired o → In later.retired o
  pub queued : (o : ObjectId) → In now.queued o → In later.queued o
  pub reclaimed : (o : ObjectId) → In now.reclaimed o → In later.reclaimed o

grows_by : (now later : State) → later.used ≡ now.used → later.cut ≡ now.cut → later.retired ≡ now.retired → later.queued ≡ now.queued → later.reclaimed ≡ now.reclaimed → Grows now later
grows_by now later u c r q d = record {
  used = λ o h. rw u h;
  cut = λ o h. rw c h;
  retired = λ o h. rw r h;
  queued = λ o h. rw q h;
  reclaimed = λ o h. rw d h;
}

grows_none : (now : State) → Grows now now
grows_none now = grows_by now now refl refl refl refl refl

pub grows : (now : State) (e : Event) → Grows now (after now e)
grows now (Open s) = grows_by now (after now (Open s)) refl refl refl refl refl
grows now (Close s) = grows_by now (after now (Close s)) refl refl refl refl refl
grows now (First s c None) = grows_none now
grows now (First s c (Some o)) = grows_by now (after now (First s c (Some o))) refl refl refl refl refl
grows now (Next s o None) = grows_none now
grows now (Next s o (Some p)) = grows_by now (after now (Next s o (Some p))) refl refl refl refl refl
grows now (Touch s o) = grows_none now
grows now (Push c p) = record { used = λ o h. inr h; cut = λ o h. h; retired = λ o h. h; queued = λ o h. h; reclaimed = λ o h. h }
grows now (Replace c p q) = record { used = λ o h. inr h; cut = λ o h. inr h; retired = λ o h. h; queued = λ o h. h; reclaimed = λ o h. h }
grows now (Cut c p) = record { used = λ o h. h; cut = λ o h. inr h; retired = λ o h. h; queued = λ o h. h; reclaimed = λ o h. h }
grows now (Retire p) = record { used = λ o h. h; cut = λ o h. h; retired = λ o h. inr h; queued = λ o h. h; reclaimed = λ o h. h }
grows now (Queue p q) = record { used = λ o h. h; cut = λ o h. h; retired = λ o h. h; queued = λ o h. inr h; reclaimed = λ o h. h }
grows now (Run p) = record { used = λ o h. h; cut = λ o h. h; retired = λ o h. h; queued = λ o h. h; reclaimed = λ o h. inr h }
grows now (Ask n) = grows_by now (after now (Ask n)) refl refl refl refl refl
grows now (Answer n) = grows_by now (after now (Answer n)) refl refl refl refl refl
grows now (Bar n) = grows_by now (after now (Bar n)) refl refl refl refl refl
grows now (Clear n) = grows_by now (after now (Clear n)) refl refl refl refl refl

grows_on : (now mid later : State) → Grows now mid → Grows mid later → Grows now later
grows_on now mid later a b = record {
  used = λ o h. b.used o (a.used o h);
  cut = λ o h. b.cut o (a.cut o h);
  retired = λ o h. b.retired o (a.retired o h);
  queued = λ o h. b.queued o (a.queued o h);
  reclaimed = λ o h. b.reclaimed o (a.reclaimed o h);
}

pub grows_run : (now : State) (es : List Event) → Grows now (after_all now es)
grows_run now [] = grows_none now
grows_run now (e ∷ es) = grows_on now (after now e) (after_all (after now e) es) (grows now e) (grows_run (after now e) es)

pub grows_back : (since old : List Event) → Grows (state_back old) (state_back (since ++ old))
grows_back [] old = grows_none (state_back old)
grows_back (e ∷ since) old = grows_on (state_back old) (state_back (since ++ old)) (after (state_back (since ++ old)) e) (grows_back since old) (grows (state_back (since ++ old)) e)

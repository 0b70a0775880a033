-- What was linked while a section was open: it is not reclaimed, and the section may go on from it.
use Rattle.live_log.proofs.Cited.{Bool, ◌≡◌, ℕ, List, [], ◌++◌, Option, Some, reverse, sym, ap, ◌∙◌, subst, inl, inr, append_assoc, append-nil, reverse-append, SectionId, ObjectId, State, IsOpen, IsLinkedIn, IsSuccessor, IsRun, state_after, In, HasObject, first_of, next_of, in_objects, has_object_in, first_has, state_is, run_is, run_parts, grows_run, Kept, was_linked_not_reclaimed, successor_was_linked, kept_log}
use Rattle.rcu_model.specs.declared.event.Event as machine
use Rattle.live_log.specs.declared.event.LiveEvent.{LiveEvent}
use Rattle.live_log.specs.Log.{Log, Begins, machine_log, events_of, WasLinked, state_of, objects_of, Follows, IsLiveRun}
use Rattle.live_log.proofs.Machine as logs
use Rattle.live_log.proofs.Machine.{events_since, is_machine_run}

-- what follows an object is its successor
pub follows_is : (log : Log) (o : ObjectId) (found : Option ObjectId) → Kept (state_of log) → Follows (objects_of log) o found → IsSuccessor (state_of log) o found
follows_is log o found k (inl l) = record {
  while_linked = λ c at. subst (λ (n : ℕ). next_of ((state_of log).chain n) o ≡ found) (k.linking.one_chain l.0 c o l.1 (in_objects ((state_of log).chain c) o at)) l.2;
  once_cut = λ cut. absurd (k.linking.linked_not_cut l.0 o l.1 (in_objects (state_of log).cut o cut));
}
follows_is log o found k (inr e) = record {
  while_linked = λ c at. absurd (k.linking.linked_not_cut c o (in_objects ((state_of log).chain c) o at) e.0);
  once_cut = λ _. e.1;
}

-- what is linked now
pub linked_now : (log : Log) (s : SectionId) (c : ℕ) (o : ObjectId) → IsOpen (state_of log) s → In ((state_of log).chain c) o → WasLinked s o log
linked_now log s c o is at = record {
  earlier = events_of log;
  since = [];
  split = sym (append-nil (events_of log));
  was_open = subst (λ (now : State). IsOpen now s) (state_is (machine_log log)) is;
  chain = c;
  linked = subst (λ (now : State). IsLinkedIn now c o) (state_is (machine_log log)) (has_object_in ((state_of log).chain c) o at);
}

pub first_linked : (log : Log) (s : SectionId) (c : ℕ) (o : ObjectId) → IsOpen (state_of log) s → first_of ((state_of log).chain c) ≡ Some o → WasLinked s o log
first_linked log s c o is f = linked_now log s c o is (first_has ((state_of log).chain c) o f)

pub was_later : (old log : Log) (s : SectionId) (o : ObjectId) → Begins old log → WasLinked s o old → WasLinked s o log
was_later old log s o b was = record {
  earlier = was.earlier;
  since = was.since ++ reverse (machine_log b.0);
  split = ap reverse (events_since old log b) ∙ reverse-append (machine_log b.0) (machine_log old) ∙ ap (λ (l : List machine.Event). l ++ reverse (machine_log b.0)) was.split ∙ append_assoc was.earlier was.since (reverse (machine_log b.0));
  was_open = was.was_open;
  chain = was.chain;
  linked = was.linked;
}

module _ (qsbr : Bool) (allows : Log → LiveEvent → Type 0) where
  pub forward : (log : Log) → IsLiveRun qsbr allows log → IsRun (events_of log)
  forward log run = (run_is (machine_log log)).0 (is_machine_run qsbr allows log run)

  pub protected : (log : Log) (s : SectionId) (o : ObjectId) → IsLiveRun qsbr allows log → WasLinked s o log → IsOpen (state_of log) s → ¬ HasObject (state_of log).reclaimed o
  protected log s o run was is back = let e = state_is (machine_log log) in
      was_linked_not_reclaimed (events_of log) s o (forward log run) was (subst (λ (now : State). IsOpen now s) e is) (subst (λ (now : State). HasObject now.reclaimed o) e back)

  -- what follows an object that was linked was linked
  pub next_linked : (log : Log) (s : SectionId) (o m : ObjectId) → IsLiveRun qsbr allows log → WasLinked s o log → IsOpen (state_of log) s → Follows (objects_of log) o (Some m) → WasLinked s m log
  next_linked log s o m run was is next = let e = state_is (machine_log log) in
      successor_was_linked (events_of log) s o m (forward log run) was (subst (λ (now : State). IsOpen now s) e is)
      (subst (λ (now : State). IsSuccessor now o (Some m)) e (follows_is log o (Some m) (logs.kept_log qsbr allows log run) next))

  -- what was linked was put into a chain
  pub was_used : (log : Log) (s : SectionId) (o : ObjectId) → IsLiveRun qsbr allows log → WasLinked s o log → In (state_of log).used o
  was_used log s o run was =
      let parts = run_parts (events_of log) was.earlier was.since (forward log run) was.split in
      subst (λ (now : State). In now.used o) (parts.2 ∙ sym (state_is (machine_log log)))
      ((grows_run (state_after was.earlier) was.since).used o ((kept_log was.earlier parts.0).linking.linked_used was.chain o (in_objects ((state_after was.earlier).chain was.chain) o was.linked)))

  -- what is linked is not reclaimed
  pub linked_here : (log : Log) (c : ℕ) (o : ObjectId) → IsLiveRun qsbr allows log → first_of ((state_of log).chain c) ≡ Some o → ¬ In (state_of log).reclaimed o
  linked_here log c o run f back = let k = logs.kept_log qsbr allows log run in k.linking.linked_not_cut c o (first_has ((state_of log).chain c) o f) (k.linking.retired_cut o (k.run o back).0)

-- Where objects are: each one that was put into a chain is linked or cut, and leads to such objects alone.
use Rattle.live_log.proofs.Cited.{Bool, ◌≡◌, ℕ, Option, Some, sym, refl, subst, inl, inr, ⊎_elim, ObjectId, State, In, next_of, first_of, first_has, next_of_has, state_is, used_placed, IsPlaced, successor_placed_back}
use Rattle.live_log.specs.declared.event.LiveEvent.{LiveEvent}
use Rattle.live_log.specs.Log.{Log, machine_log, events_of, state_of, objects_of, Follows, IsLiveRun}
use Rattle.live_log.proofs.Machine.{is_machine_run, kept_log}
use Rattle.live_log.proofs.Linked.{forward}

module _ (qsbr : Bool) (allows : Log → LiveEvent → Type 0) where
  pub chain_used : (log : Log) (c : ℕ) (o : ObjectId) → IsLiveRun qsbr allows log → In ((state_of log).chain c) o → In (state_of log).used o
  chain_used log c o run h = (kept_log qsbr allows log run).linking.linked_used c o h

  pub next_there : (log : Log) (c : ℕ) (o m : ObjectId) → IsLiveRun qsbr allows log → In ((state_of log).chain c) o → next_of ((state_of log).chain c) o ≡ Some m → In ((state_of log).chain c) m
  next_there log c o m run at f = (next_of_has ((state_of log).chain c) o m ((kept_log qsbr allows log run).linking.once c) at f).0

  pub next_used : (log : Log) (o m : ObjectId) → IsLiveRun qsbr allows log → Follows (objects_of log) o (Some m) → In (state_of log).used m
  next_used log o m run f =
      ⊎_elim
      (λ (l : (c : ℕ) × In ((state_of log).chain c) o × (next_of ((state_of log).chain c) o ≡ Some m)). chain_used log l.0 m run (next_there log l.0 o m run l.1 l.2))
      (λ (k : In (state_of log).cut o × ((state_of log).successor o ≡ Some m)). (successor_placed_back (machine_log log) o m (is_machine_run qsbr allows log run) k.0 k.1).0)
      f

  pub first_used : (log : Log) (c : ℕ) (o : ObjectId) → IsLiveRun qsbr allows log → first_of ((state_of log).chain c) ≡ Some o → In (state_of log).used o
  first_used log c o run f = chain_used log c o run (first_has ((state_of log).chain c) o f)

  -- each object that was put into a chain has one that follows, or none
  pub some_next : (log : Log) (o : ObjectId) → IsLiveRun qsbr allows log → In (state_of log).used o → (found : Option ObjectId) × Follows (objects_of log) o found
  some_next log o run h =
      let e = state_is (machine_log log) in
      let placed : IsPlaced (state_of log) o = subst (λ (now : State). IsPlaced now o) (sym e) (used_placed (events_of log) o (forward qsbr allows log run) (subst (λ (now : State). In now.used o) e h)) in
      ⊎_elim
      (λ (l : (c : ℕ) × In ((state_of log).chain c) o). (next_of ((state_of log).chain l.0) o, inl (l.0, l.1, refl)))
      (λ (k : In (state_of log).cut o). ((state_of log).successor o, inr (k, refl)))
      placed

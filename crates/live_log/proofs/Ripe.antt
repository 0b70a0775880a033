-- An object that was retired before a grace period began awaits nobody once that has ended.
use Rattle.live_log.proofs.Cited.{Bool, ◌≡◌, List, [], sym, ap, ◌∙◌, subst, SectionId, ObjectId, state_back, In, open_back, closed_back, awaits_none_back, awaited_since, run_went_on, state_goes_on, empty_from}
use Rattle.rcu_model.specs.declared.event.Event as machine
use Rattle.rcu_model.specs.declared.event.Event.TheVariants as seen
use Rattle.live_log.specs.declared.event.LiveEvent.{LiveEvent}
use Rattle.live_log.specs.Log.{Log, Begins, machine_log, state_of, HaveEnded, IsLiveRun}
use Rattle.live_log.proofs.Machine.{events_since, is_machine_run, run_since, run_of, inside_open, close_there}

module _ (qsbr : Bool) (allows : Log → LiveEvent → Type 0) where
  -- so a grace period that began after an object was retired, and has ended, allows its Run
  pub ripe : (old log : Log) (o : ObjectId) → IsLiveRun qsbr allows log → Begins old log → In (state_of old).retired o → HaveEnded old log → (state_of log).awaited o ≡ []
  ripe old log o run b retired ended =
      let e = events_since old log b in
      let run' = run_since qsbr allows old log b run in
      subst (λ (l : List machine.Event). (state_back l).awaited o ≡ []) (sym e)
      (awaits_none_back (machine_log b.0) (machine_log old) run' o retired (λ s was.
      (closed_back (machine_log b.0) (machine_log old) run' s was).1 (λ is.
      let at = inside_open qsbr allows old s (run_of qsbr allows old log b run) was in
      let closed : In (machine_log log) (seen.Close s) = close_there log s.reader s.ordinal (ended s.reader s.ordinal at.0 at.1) in
      ((open_back (machine_log log) s (is_machine_run qsbr allows log run)).0 (subst (λ (l : List machine.Event). In (state_back l).sections s) (sym e) is)).1 closed)))

  -- a retired object that awaits nobody goes on so
  pub ready_stays : (old log : Log) (o : ObjectId) → Begins old log → IsLiveRun qsbr allows log → In (state_of old).retired o → (state_of old).awaited o ≡ [] → (state_of log).awaited o ≡ []
  ready_stays old log o b run retired none =
      let e = events_since old log b in
      let went = run_went_on (machine_log b.0) (machine_log old) (run_since qsbr allows old log b run) in
      empty_from ((state_of log).awaited o) (λ s h. subst (λ (l : List SectionId). In l s) none
      (awaited_since (state_of old) _ o s went.1 retired
      (subst (λ (now : Rattle.rcu_model.specs.Machine.State). In (now.awaited o) s) (ap state_back e ∙ state_goes_on (machine_log b.0) (machine_log old)) h)).0)

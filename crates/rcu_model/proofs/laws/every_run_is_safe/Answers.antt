use Rattle.rcu_model.proofs.laws.every_run_is_safe.Goals as goal

pub returns : goal.returns
returns c = λ log run. record {
  run = run;
  callbacks = c.callbacks_run_once_after_their_sections.ensures.once log run;
  unused = c.callbacks_run_once_after_their_sections.ensures.unused log run;
  asks = c.waits_end_once_after_what_they_await.ensures.answers log run;
  barriers = c.waits_end_once_after_what_they_await.ensures.clears log run;
}

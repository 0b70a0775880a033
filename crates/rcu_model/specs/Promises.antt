-- What a log promises, all in one.
use Rattle.std.specs.Prelude.{List}
use Rattle.rcu_model.specs.declared.event.Event.{Event}
use Rattle.rcu_model.specs.Machine.{IsRun}
use Rattle.rcu_model.specs.Headline.{RunsOnceAfterItsSections, UsesNoReclaimed, AnswersOnceAfterItsSections, ClearsOnceAfterItsCallbacks}

-- a run of the machine; in it an object's callback runs at most once and only after every section open at its
-- retirement has ended, no section uses an object whose callback has run, and an ask is answered, and a barrier ended,
-- at most once and only after what it awaits
pub record IsSafeLog (log : List Event) : Type 0 where
  pub run : IsRun log
  pub callbacks : RunsOnceAfterItsSections log
  pub unused : UsesNoReclaimed log
  pub asks : AnswersOnceAfterItsSections log
  pub barriers : ClearsOnceAfterItsCallbacks log

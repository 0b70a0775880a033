-- How an object is run.
use Rattle.std.specs.Prelude.{Bool, ◌≡◌, ◌∷◌}
use Rattle.rcu_model.specs.declared.event.ObjectId.{ObjectId}
use Rattle.live_log.specs.declared.event.LiveEvent.{LiveEvent}
use Rattle.live_log.specs.declared.event.LiveEvent.TheVariants.{Object}
use Rattle.live_log.specs.declared.event.ObjectEvent.TheVariants.{Run}
use Rattle.live_log.specs.Log.{Log, Begins, IsLiveRun}
use Rattle.atomic_table.specs.declared.shared.Seat.{Seat}
use Rattle.live_words.specs.live_rule.declared.view.View.{View}
use Rattle.live_words.specs.live_rule.Steps.{Keeps}

-- the object was run, after all that its job and its worker had seen
pub record Runs (qsbr : Bool) (allows : Log → LiveEvent → Type 0) (queued worker : Log) (o : ObjectId) (log : Log) : Type 0 where
  pub before : Log
  pub after_job : Begins queued before
  pub after_worker : Begins worker before
  pub wrote : log ≡ Object (Run o) ∷ before
  pub run : IsLiveRun qsbr allows log

-- the seat may have heard of more: nothing else of it has changed
abbrev pub OnlyHearsMore : {S : Type 0} → Seat S View → Seat S View → Type 0
OnlyHearsMore s t = Keeps s t × (t.me ≡ (record s.me.0 { heard = t.me.0.heard }, s.me.1))

-- What a worker tells that goes on until its domain is closed.
use base.Stored.{Gv}
use Rattle.std.specs.Prelude.{Bool, ◌≡◌, ◌⊎◌, ℕ, List, [], ◌∷◌}
use Rattle.rcu_model.specs.declared.refusal.Refusal.{Refusal}
use Rattle.rcu_model.specs.declared.refusal.Refusal.TheVariants.{Exhausted}
use Rattle.live_log.specs.declared.event.LiveEvent.{LiveEvent}
use Rattle.live_log.specs.Log.{Log}
use Rattle.rcu_hash.specs.domain.callback_queue.declared.item.Ripe.{Ripe}
use Rattle.rcu_hash.specs.domain.declared.worker_end.Stop.{Stop}
use Rattle.rcu_hash.specs.domain.declared.worker_end.Stop.TheVariants as stop
use Rattle.rcu_hash.specs.domain.Working.{FoundUsedUp, HasWorkedFor}
use Rattle.rcu_hash.specs.live_read.declared.caller.Caller.{Ghosts}
use Rattle.rcu_hash.specs.live_callbacks.Working.{RefusesWork}
use Rattle.rcu_hash.specs.live_rule.declared.view.Sizes.{Sizes}
use Rattle.rcu.specs.Trying.{StaysOn}

-- by the code and the answers of the deleters, and by a queue
module _ {W S D : Type 0} (w : Ghosts W S) (code : D → Gv) (answers : D → Ripe → ℕ → Type 0) (qsbr : Bool) (allows : Log → LiveEvent → Type 0) (sizes : Sizes) (q : ℕ) where
  -- A worker was made for the caller between these two moments, and stopped so. It called the deleter of each object
  -- that it ran.
  abbrev pub Works : W → W → Stop → Type 0
  Works old new end = (entries : _) × (items : _) × HasWorkedFor w code answers qsbr allows sizes q old new entries items end

  -- from each of these moments to the next one a worker was, the last one first, and stopped for memory
  abbrev pub WorkOn : List W → W → W → Type 0
  WorkOn [] old new = new ≡ old
  WorkOn (mid ∷ mids) old new = WorkOn mids old mid × Works mid new stop.Memory

  -- then one was that stopped since its queue was closed
  abbrev pub HasServed : W → W → Type 0
  HasServed old new = (mids : List W) × (last : W) × WorkOn mids old last × Works last new stop.Closed

  -- It ended early at the last of several tries: nobody could begin to work for the queue, or the sequence numbers were
  -- found used up in that try.
  abbrev pub IsNotServed : W → W → Refusal → Type 0
  IsNotServed old new e = (last : W) × StaysOn w old last × ((mids : List W) × WorkOn mids old last)
      × (RefusesWork sizes q (w.looks last) (w.looks new) e ⊎ ((e ≡ Exhausted) × FoundUsedUp (w.heard last) (w.heard new) (w.loads last) (w.loads new) × Works last new stop.Exhausted))

-- What is known of a retirement that was refused.
use Rattle.std.specs.Prelude.{◌≡◌, ◌≢◌, ◌⊎◌, ◌∷◌, Bool, ℕ}
use Rattle.rcu_model.specs.declared.refusal.Refusal.{Refusal}
use Rattle.rcu_model.specs.declared.refusal.Refusal.TheVariants.{Closed, Memory}
use Rattle.live_log.specs.declared.event.LiveEvent.{LiveEvent}
use Rattle.live_log.specs.Log.{Log, closed_of}
use Rattle.live_words.specs.live_rule.declared.view.Look.TheVariants.{Loaded}
use Rattle.live_words.specs.live_rule.declared.view.Sizes.{Sizes}
use Rattle.live_words.specs.live_rule.Places.{closed_at}
use Rattle.live_read.specs.Hearing.{IsAfter, Stays}
use Rattle.live_read.specs.declared.caller.Caller.{Ghosts}

module _ {W S : Type 0} (w : Ghosts W S) (qsbr : Bool) (allows : Log → LiveEvent → Type 0) (key : Sizes) (q : ℕ) (old new : W) (e : Refusal) where
  -- the queue's closed word was loaded, and the refusal goes by it
  pub record RefusesRetirement : Type 0 where
    pub closed : ℕ
    pub looked : w.looks new ≡ Loaded (closed_at key q) closed ∷ w.looks old
    pub told : closed ≡ closed_of q (w.heard new)
    pub after : IsAfter qsbr allows (w.seen old) (w.heard old) (w.heard new)
    pub why : ((e ≡ Closed) × (closed ≡ 1)) ⊎ ((e ≡ Memory) × (closed ≢ 1))
    pub same : Stays w old new × (w.loads new ≡ w.loads old)

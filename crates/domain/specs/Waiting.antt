-- What a call that loads the sequence number tells: of a log, of those that had been seen and heard of, and of the logs
-- at all loads, the last one first, before the call and after it.
use Rattle.std.specs.Prelude.{◌≡◌, Bool, ℕ, ◌<◌, ◌≤◌, ◌^◌, List, ◌∷◌, ◌++◌}
use Rattle.rcu_model.specs.declared.refusal.Refusal.{Refusal}
use Rattle.rcu_model.specs.declared.refusal.Refusal.TheVariants.{Exhausted}
use Rattle.live_log.specs.declared.event.LiveEvent.{LiveEvent}
use Rattle.live_log.specs.Log.{Log, Begins, HaveEnded, IsLiveRun, seq_of}
use Rattle.live_words.specs.live_rule.declared.view.Look.{Look}
use Rattle.live_words.specs.live_rule.declared.view.Sizes.{Sizes}
use Rattle.live_read.specs.declared.caller.Caller.{Ghosts}
use Rattle.live_read.specs.Hearing.{IsAfter}
use Rattle.live_waits.specs.Status.{Stalls}

module _ (qsbr : Bool) (allows : Log → LiveEvent → Type 0) (seen heard : Log) (old new : List Log) (log : Log) where
  -- the sequence number was loaded once, at the log, after all that had been seen and heard of
  pub record LoadedOnce : Type 0 where
    pub load : new ≡ log ∷ old
    pub after : IsAfter qsbr allows seen heard log

  -- The first load of the sequence number in the call was at `asked`, after all that had been seen and heard of, and
  -- the number was below the greatest. Each section that was open in `asked` has ended in the log.
  pub record Synchronized : Type 0 where
    pub asked : Log
    pub loads_since : List Log
    pub first_load : new ≡ loads_since ++ asked ∷ old
    pub after : IsAfter qsbr allows seen heard asked
    pub low : seq_of asked < 2 ^ 62
    pub later : Begins asked log
    pub run : IsLiveRun qsbr allows log
    pub ended : HaveEnded asked log

module _ {W S : Type 0} (w : Ghosts W S) (old new : W) where
  -- words may have been found for the caller, but the sequence number was not loaded
  abbrev pub FindsMore : Type 0
  FindsMore = (w.loads new ≡ w.loads old) × ((found : List Look) × (w.looks new ≡ found ++ w.looks old))

module _ {W S : Type 0} (w : Ghosts W S) (qsbr : Bool) (allows : Log → LiveEvent → Type 0) (old new : W) where
  -- the sequence number was loaded once for the caller, in the log that it hears of
  abbrev pub LoadsSeq : Type 0
  LoadsSeq = LoadedOnce qsbr allows (w.seen old) (w.heard old) (w.loads old) (w.loads new) (w.heard new)

  -- the sequence number was at its end
  abbrev pub IsExhausted : Refusal → Type 0
  IsExhausted e = (e ≡ Exhausted) × LoadsSeq × (2 ^ 62 ≤ seq_of (w.heard new))

  -- these slots stood in the way of a grace period
  abbrev pub StallsFor : Sizes → List ℕ → Type 0
  StallsFor key slots = Stalls qsbr allows key (w.seen old) (w.heard old) (w.loads old) (w.loads new) (w.looks old) (w.looks new) slots (w.heard new)

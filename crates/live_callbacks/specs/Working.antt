-- Who works for a queue, and when a worker has no more to do.
use Rattle.std.specs.Prelude.{◌≡◌, ◌⊎◌, ◌↔◌, Bool, ℕ, ◌<◌, ◌≤◌, IsTrue, List, ◌∷◌, length}
use Rattle.rcu_model.specs.declared.refusal.Refusal.{Refusal}
use Rattle.rcu_model.specs.declared.refusal.Refusal.TheVariants.{Busy, Exhausted, NoActor}
use Rattle.live_log.specs.declared.event.LiveEvent.{LiveEvent}
use Rattle.live_log.specs.Log.{Log, Begins, HaveRun, IsLiveRun, closed_of, line_of}
use Rattle.live_words.specs.live_rule.declared.view.Look.{Look}
use Rattle.live_words.specs.live_rule.declared.view.Look.TheVariants.{Loaded, Stored}
use Rattle.live_words.specs.live_rule.declared.view.Sizes.{Sizes}
use Rattle.live_words.specs.live_rule.declared.view.View.{View}
use Rattle.live_words.specs.live_rule.Places.{closed_at, finished_at, queued_at, work_at}
use Rattle.live_words.specs.live_rule.Seen.{Precedes}
use Rattle.live_callbacks.specs.Batches.{WorksFor}

-- what was loaded and stored, the last one first
abbrev pub Looks : Type 0
Looks = List Look

-- Nobody begins to work: there is no such queue, and nothing was loaded; or its hold word was 1, and another works for
-- it; or that was 2, and nobody will.
abbrev pub RefusesWork : Sizes → ℕ → Looks → Looks → Refusal → Type 0
RefusesWork key q old new e =
    ((e ≡ NoActor) × (key.queues ≤ q) × (new ≡ old))
    ⊎ ((e ≡ Busy) × (q < key.queues) × (new ≡ Loaded (work_at key q) 1 ∷ old))
    ⊎ ((e ≡ Exhausted) × (q < key.queues) × (new ≡ Loaded (work_at key q) 2 ∷ old))

-- Somebody begins to work, of whose queue this many are finished: its hold word was found to be 0 and left at 1, and
-- then the finished count was loaded.
abbrev pub BeginsWork : Bool → (Log → LiveEvent → Type 0) → Sizes → ℕ → ℕ → View → View → ℕ → Type 0
BeginsWork qsbr allows key queues q old new first =
    (q < queues) × WorksFor q first new × HaveRun q first new.seen × (first ≤ length (line_of new.seen q)) × Precedes old new.seen × IsLiveRun qsbr allows new.seen
    × (new.looks ≡ Loaded (finished_at key q) first ∷ Stored (work_at key q) 1 ∷ Loaded (work_at key q) 0 ∷ old.looks)

-- the closed word was loaded and then the queued count, and by them no more are to come than are finished, or more are
abbrev pub TellsEmptied : Sizes → ℕ → ℕ → View → View → Bool → Type 0
TellsEmptied key q finished old new emptied = (closed queued : ℕ) × (new.looks ≡ Loaded (queued_at key q) queued ∷ Loaded (closed_at key q) closed ∷ old.looks) × (IsTrue emptied ↔ ((closed ≡ 1) × (queued ≡ finished)))

-- nothing but what was seen and what was loaded has changed, and no less was seen
abbrev pub HasLooked : View → View → Type 0
HasLooked v w = (w ≡ record v { seen = w.seen; looks = w.looks }) × Begins v.seen w.seen

-- the queue is closed, and as many were queued
abbrev pub IsEmptied : ℕ → ℕ → Log → Type 0
IsEmptied q n log = (closed_of q log ≡ 1) × (length (line_of log q) ≡ n)

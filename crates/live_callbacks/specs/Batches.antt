-- What a worker knows of its batch, and of what it has run.
use base.Stored.{Gv}
use Rattle.std.specs.Prelude.{◌≡◌, ℕ, ◌+◌, ◌≤◌, List, [], ◌∷◌, length}
use Rattle.rcu_model.specs.declared.event.ObjectId.{ObjectId}
use Rattle.rcu_model.specs.Sets.{In}
use Rattle.callback_queue.specs.declared.item.Ripe.{Ripe}
use Rattle.call_rcu_worker.specs.declared.finished.Finished.{Finished}
use Rattle.live_log.specs.Log.{Log, Begins, HaveEnded, WasQueued, line_of, payload_of, state_of}
use Rattle.live_words.specs.live_rule.declared.view.View.{View}
use Rattle.live_words.specs.live_rule.declared.rights.WorkRight.TheVariants.{Works}
use Rattle.live_words.specs.step_queues.Queues.{IsAt}

-- the seat works for the queue, of which this many are finished
abbrev pub WorksFor : ℕ → ℕ → View → Type 0
WorksFor q n v = v.work ≡ Works q n

-- a grace period has ended that began after as many were queued
abbrev pub IsDue : ℕ → ℕ → Log → Type 0
IsDue q given log = (mark : Log) × Begins mark log × HaveEnded mark log × (given ≤ length (line_of mark q))

-- what a deleter is called with: the object, and the words that were published with it
abbrev pub ripe_in : Log → ObjectId → Ripe
ripe_in log o = record { object = o; payload = payload_of log o }

module _ {D : Type 0} (code : D → Gv) (answers : D → Ripe → ℕ → Type 0) where
  -- the deleter with which the object was queued, by its code, was called with it and its words, and answered the entry's
  abbrev pub WasCalled : ℕ → Log → Finished → Type 0
  WasCalled q log entry = (d : D) × WasQueued entry.object q (code d) log × answers d (ripe_in log entry.object) entry.code

  -- the object before which this many were queued has its Run, and the entry tells of it
  pub record IsRunAs (q : ℕ) (log : Log) (n : ℕ) (entry : Finished) : Type 0 where
    pub ticket : entry.ticket.0 ≡ n + 1
    pub turn : IsAt q n entry.object log
    pub run : In (state_of log).reclaimed entry.object
    pub called : WasCalled q log entry

  -- consecutive tickets, from one above this number on, each with its Run
  abbrev pub AreRunAs : ℕ → Log → ℕ → List Finished → Type 0
  AreRunAs q log n [] = Unit {0}
  AreRunAs q log n (entry ∷ entries) = IsRunAs q log n entry × AreRunAs q log (n + 1) entries

  -- the list has the tickets from above the first number up to the last
  abbrev pub Lists : ℕ → Log → ℕ → ℕ → List Finished → Type 0
  Lists q log first last entries = AreRunAs q log first entries × (first + length entries ≡ last)

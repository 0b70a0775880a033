-- What the writers of a table know of its directory.
use Rattle.std.specs.Prelude.{◌≡◌, ℕ, List, [], ◌∷◌}
use Rattle.rcu_model.specs.declared.event.ObjectId.{ObjectId}
use Rattle.live_log.specs.Log.{Log, record_of, state_of}

-- the payload of a directory
abbrev pub words_by : ℕ → ℕ → List ℕ
words_by first buckets = first ∷ buckets ∷ 0 ∷ 1 ∷ []

-- the directory is alone in its chain, and names this many chains, from the first one on
abbrev pub Directs : ℕ → ObjectId → ℕ → ℕ → Log → Type 0
Directs d o first buckets log = ((state_of log).chain d ≡ o ∷ []) × ((record_of log o).1 ≡ words_by first buckets)

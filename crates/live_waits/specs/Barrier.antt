-- What a barrier notes, and when it is passed.
use Rattle.std.specs.Prelude.{Bool, MatchBool, ◌≡◌, ℕ, zero, suc, ◌<◌, ◌≤◌, List, [], ◌∷◌, ◌++◌, length, slice_index}
use Rattle.atomic_table.specs.Table.{Me}
use Rattle.rcu_model.specs.declared.event.ObjectId.{ObjectId}
use Rattle.rcu_model.specs.Sets.{In}
use Rattle.live_log.specs.declared.event.LiveEvent.{LiveEvent}
use Rattle.live_log.specs.Log.{Begins, HaveRun, Log, line_of, state_of}
use Rattle.live_words.specs.live_rule.declared.view.Look.{Look}
use Rattle.live_words.specs.live_rule.declared.view.Look.TheVariants.{Loaded}
use Rattle.live_words.specs.live_rule.declared.view.Sizes.{Sizes}
use Rattle.live_words.specs.live_rule.declared.view.View.{View}
use Rattle.live_words.specs.live_rule.Places.{finished_at, queued_at}
use Rattle.live_words.specs.live_rule.Seen.{Precedes}
use Rattle.live_words.specs.live_rule.Steps.{IsKnown, Went}

-- each queue of the table had been given no more than its count
abbrev pub CoverAll : Sizes → List ℕ → Log → Type 0
CoverAll key counts log = (q : ℕ) → q < key.queues → length (line_of log q) ≤ slice_index counts q

-- each queue of the table had been given at least its count
abbrev pub WereGiven : Sizes → List ℕ → Log → Type 0
WereGiven key counts log = (q : ℕ) → q < key.queues → slice_index counts q ≤ length (line_of log q)

-- this many objects of a queue, from the first, were queued and have their Run
abbrev pub HasRunTo : Log → ℕ → ℕ → Type 0
HasRunTo log q n = HaveRun q n log × (n ≤ length (line_of log q))

-- of each queue of the table as many were queued as were counted, and as many have their Run
abbrev pub HaveRunAsCounted : Sizes → List ℕ → Log → Type 0
HaveRunAsCounted key counts log = (q : ℕ) → q < key.queues → HasRunTo log q (slice_index counts q)

-- all that was queued in the old log has its Run in the new one
abbrev pub HaveAllRun : Log → Log → Type 0
HaveAllRun old new = (o : ObjectId) → In (state_of old).queued o → In (state_of new).reclaimed o

-- the counts of this many queues are those that were loaded, each once and that of queue 0 first
abbrev pub AreNoted : Sizes → List ℕ → ℕ → List Look → Type 0
AreNoted key counts zero looks = looks ≡ []
AreNoted key counts (suc q) looks = (rest : List Look) × (looks ≡ Loaded (queued_at key q) (slice_index counts q) ∷ rest) × AreNoted key counts q rest

-- the finished counts of this many queues were loaded, each once and that of queue 0 first, and none was below the
-- noted one
abbrev pub AreReached : Sizes → List ℕ → ℕ → List Look → Type 0
AreReached key counts zero looks = looks ≡ []
AreReached key counts (suc q) looks = (n : ℕ) × (rest : List Look) × (looks ≡ Loaded (finished_at key q) n ∷ rest) × (slice_index counts q ≤ n) × AreReached key counts q rest

-- and the next one was
pub record WasLess (key : Sizes) (counts : List ℕ) (looks : List Look) : Type 0 where
  pub queue : ℕ
  pub low : queue < key.queues
  pub count : ℕ
  pub rest : List Look
  pub last : looks ≡ Loaded (finished_at key queue) count ∷ rest
  pub less : count < slice_index counts queue
  pub others : AreReached key counts queue rest

-- these words were found, the last one first, and no event was written
abbrev pub Found : {S : Type 0} → Bool → (Log → LiveEvent → Type 0) → List Look → Me S View → Me S View → Type 0
Found qsbr allows found m m' = Went qsbr allows (record m.0 { looks = found ++ m.0.looks }) m m'

module _ {S : Type 0} (qsbr : Bool) (allows : Log → LiveEvent → Type 0) (key : Sizes) (counts : List ℕ) (m m' : Me S View) where
  -- the counts of all queues were loaded, and nothing else
  abbrev pub CountsAll : Type 0
  CountsAll = (since : List Look) × Found qsbr allows since m m' × AreNoted key counts key.queues since

  -- the finished counts were, and have all reached these, or the last one had not
  abbrev pub TellsReached : Bool → Type 0
  TellsReached reached = (since : List Look) × Found qsbr allows since m m' × MatchBool reached (AreReached key counts key.queues since) (WasLess key counts since)

-- what was asked begins with all that had been seen and heard of, and the asker has seen it
abbrev pub IsAskedBetween : View → View → View → Type 0
IsAskedBetween old new asked = Precedes old asked.seen × Begins asked.seen new.seen × (asked.sizes ≡ old.sizes)

-- to whoever knows what was asked of this table, all that was queued there has its Run
abbrev pub PassesFor : Sizes → View → View → View → Type 0
PassesFor key asked old new = asked.sizes ≡ key → IsKnown (Begins asked.seen) old → HaveAllRun asked.seen new.seen

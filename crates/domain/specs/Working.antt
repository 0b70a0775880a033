-- What a queue's worker did.
use base.Stored.{Gv}
use Rattle.std.specs.Prelude.{Bool, ◌≡◌, ◌≢◌, ◌⊎◌, ℕ, ◌+◌, ◌^◌, ◌<◌, ◌≤◌, List, [], ◌∷◌, ◌++◌, length}
use Rattle.atomic_table.specs.declared.shared.Seat.{Seat}
use Rattle.callback_queue.specs.declared.item.Item.{Item}
use Rattle.callback_queue.specs.declared.item.Ripe.{Ripe}
use Rattle.call_rcu_worker.specs.declared.finished.Finished.{Finished}
use Rattle.live_log.specs.declared.event.LiveEvent.{LiveEvent}
use Rattle.live_log.specs.Log.{Log, Begins, HaveRun, IsLiveRun, line_of, seq_of}
use Rattle.live_words.specs.live_rule.declared.view.Look.{Look}
use Rattle.live_words.specs.live_rule.declared.view.Look.TheVariants.{Loaded, Stored}
use Rattle.live_words.specs.live_rule.declared.view.Sizes.{Sizes}
use Rattle.live_words.specs.live_rule.declared.view.View.{View}
use Rattle.live_words.specs.live_rule.Places.{finished_at, queued_at, work_at}
use Rattle.live_words.specs.live_rule.Steps.{Keeps}
use Rattle.live_words.specs.step_queues.Queues.{TookNoMore}
use Rattle.live_read.specs.declared.caller.Caller.{Ghosts}
use Rattle.live_callbacks.specs.Items.{InOrder, JobValue}
use Rattle.live_callbacks.specs.Batches.{Lists}
use Rattle.live_callbacks.specs.Working.{IsEmptied}
use Rattle.domain.specs.declared.working.Outcome.{Outcome}
use Rattle.domain.specs.declared.working.Outcome.TheVariants.{Ran, Nothing}
use Rattle.domain.specs.declared.working.Outcome.TheVariants as outcome
use Rattle.domain.specs.declared.worker_end.Stop.{Stop}
use Rattle.domain.specs.declared.worker_end.Stop.TheVariants.{Closed, Served, Exhausted, Memory}

-- what was loaded and stored, the last one first
abbrev pub Looks : Type 0
Looks = List Look

-- the hold word that a worker leaves: nobody works for the queue after one that found the numbers used up
abbrev pub left_by : Stop → ℕ
left_by Closed = 0
left_by Served = 0
left_by Exhausted = 2
left_by Memory = 0

-- no look and no load is forgotten
abbrev pub KeepsFinds : View → View → Type 0
KeepsFinds v w = ((found : Looks) × (w.looks ≡ found ++ v.looks)) × ((loaded : List Log) × (w.loads ≡ loaded ++ v.loads))

-- it is the same seat, which has seen no less, and no look and no load is forgotten
pub record GoesOn {S : Type 0} (qsbr : Bool) (allows : Log → LiveEvent → Type 0) (s t : Seat S View) : Type 0 where
  pub keeps : Keeps s t
  pub own : t.me.1 ≡ s.me.1
  pub sizes : t.me.0.sizes ≡ s.me.0.sizes
  pub later : Begins s.me.0.seen t.me.0.seen
  pub run : IsLiveRun qsbr allows t.me.0.seen
  pub finds : KeepsFinds s.me.0 t.me.0

-- the sequence number was at or above 2^62 at the last load, which came after this log
pub record FoundUsedUp (start log : Log) (old new : List Log) : Type 0 where
  pub at : Log
  pub earlier : List Log
  pub last_load : new ≡ at ∷ (earlier ++ old)
  pub after : Begins start at
  pub before : Begins at log
  pub used_up : 2 ^ 62 ≤ seq_of at

-- a batch was taken, of all that was queued up to this number: a load of that count, and then one of the finished count
abbrev pub LooksOfBatch : Sizes → (q finished last : ℕ) (old new : Looks) → Type 0
LooksOfBatch key q finished last old new = new ≡ Loaded (finished_at key q) finished ∷ Loaded (queued_at key q) last ∷ old

-- no batch was
abbrev pub LooksOfNone : Sizes → (q : ℕ) (old new : Looks) → Type 0
LooksOfNone key q old new = (n : ℕ) × (new ≡ Loaded (queued_at key q) n ∷ old)

-- What a worker looked at that went from the first number to the last, and left this many: a batch that it ran or left,
-- or none.
abbrev pub IsRound : Sizes → (q first last many : ℕ) → Outcome → (old new : Looks) → Type 0
IsRound key q first last many Ran old new = LooksOfBatch key q first last old new × (first ≤ last)
IsRound key q first last many Nothing old new = LooksOfNone key q old new × (last ≡ first)
IsRound key q first last many outcome.Exhausted old new = LooksOfBatch key q first (last + many) old new × (last ≡ first)
IsRound key q first last many outcome.Memory old new = LooksOfNone key q old new × (last ≡ first)

-- these looks tell of loads alone
abbrev pub OnlyLoads : Looks → Type 0
OnlyLoads [] = Unit {0}
OnlyLoads (Loaded a n ∷ ls) = OnlyLoads ls
OnlyLoads (Stored a n ∷ ls) = ⊥

-- by these looks a batch was taken of all that was queued up to this number
abbrev pub TookUpTo : Sizes → (q n : ℕ) → Looks → Type 0
TookUpTo key q n looks = (since rest : Looks) × (f : ℕ) × (looks ≡ since ++ (Loaded (finished_at key q) f ∷ Loaded (queued_at key q) n ∷ rest))

-- what ran from the first number to the last, if anything, ended with a batch that was taken so
abbrev pub RanBatches : Sizes → (q first last : ℕ) → Looks → Type 0
RanBatches key q first last looks = (last ≡ first) ⊎ TookUpTo key q last looks

-- what a worker looked at that ran batches from the first number to the last, and took no more than this many
pub record Rounds (key : Sizes) (q first last most : ℕ) (old new : Looks) : Type 0 where
  pub found : Looks
  pub looks : new ≡ found ++ old
  pub kept : OnlyLoads found
  pub ran : RanBatches key q first last found
  pub took : TookNoMore key q most found

-- more were queued than this many
abbrev pub HasMore : ℕ → ℕ → Log → Type 0
HasMore q n log = n < length (line_of log q)

-- This many are left, at least one: all that had been queued in a log in which the entries had run, but for these.
pub record IsWhole {D : Type 0} (code : D → Gv) (answers : D → Ripe → ℕ → Type 0) (q : ℕ) (start log : Log) (first last : ℕ) (entries : List Finished) (many : ℕ) : Type 0 where
  pub taken : Log
  pub after : Begins start taken
  pub before : Begins taken log
  pub ran : Lists code answers q taken first last entries
  pub all : length (line_of taken q) ≡ last + many
  pub some : 0 < many

module _ {D : Type 0} (code : D → Gv) (answers : D → Ripe → ℕ → Type 0) (qsbr : Bool) (allows : Log → LiveEvent → Type 0) (key : Sizes) (q : ℕ) where
  -- A worker began after all that had been seen and heard of, when this many, the first ones, were finished, and ran
  -- those that came next, each in its turn: the deleter that it was queued with was called, and answered the code of
  -- its entry. Where it was closed, no more were queued; where it was served, no more had been when it began; and where
  -- memory was refused, more were. It kept the work all that time, and ran whole batches. What it took it ran or left.
  -- What is left comes next after the entries, and nothing is but where the numbers were used up. Then something is,
  -- and with the entries it is all that had been queued in a log in which these had run.
  pub record HasWorked (seen heard : Log) (old new : Looks) (old_loads new_loads : List Log) (entries : List Finished) (items : List (Item (JobValue D))) (stop : Stop) (log : Log) : Type 0 where
    pub start : Log
    pub first : ℕ
    pub last : ℕ
    pub looks_since : Looks
    pub low : q < key.queues
    pub after_seen : Begins seen start
    pub after_heard : Begins heard start
    pub counted : HaveRun q first start
    pub queued : first ≤ length (line_of start q)
    pub later : Begins start log
    pub run : IsLiveRun qsbr allows log
    pub lists : Lists code answers q log first last entries
    pub through : HaveRun q last log
    pub left : InOrder q log last items
    pub nothing : stop ≢ Exhausted → items ≡ []
    pub whole : stop ≡ Exhausted → IsWhole code answers q start log first last entries (length items)
    pub kept : OnlyLoads looks_since
    pub ran : RanBatches key q first last looks_since
    pub took : TookNoMore key q (last + length items) looks_since
    pub closed : stop ≡ Closed → IsEmptied q last log
    pub served : stop ≡ Served → length (line_of start q) ≤ last
    pub memory : stop ≡ Memory → HasMore q last log
    pub exhausted : stop ≡ Exhausted → FoundUsedUp start log old_loads new_loads
    pub looks : new ≡ Stored (work_at key q) (left_by stop) ∷ (looks_since ++ (Loaded (finished_at key q) first ∷ Stored (work_at key q) 1 ∷ Loaded (work_at key q) 0 ∷ old))

module _ {W S D : Type 0} (w : Ghosts W S) (code : D → Gv) (answers : D → Ripe → ℕ → Type 0) (qsbr : Bool) (allows : Log → LiveEvent → Type 0) (key : Sizes) (q : ℕ) (old new : W) where
  -- so a worker did, which this caller had made
  abbrev pub HasWorkedFor : List Finished → List (Item (JobValue D)) → Stop → Type 0
  HasWorkedFor entries items stop = HasWorked code answers qsbr allows key q (w.seen old) (w.heard old) (w.looks old) (w.looks new) (w.loads old) (w.loads new) entries items stop (w.heard new)

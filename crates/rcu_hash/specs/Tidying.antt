-- What a tidying tells of what earlier directories left.
use base.Stored.{Gv}
use Rattle.std.specs.Prelude.{◌≡◌, ◌⊎◌, ℕ, ◌+◌, ◌%◌, ◌^◌, ◌-◌, ◌<◌, ◌≤◌, ◌∷◌, ◌++◌, Bool, List, [], Option, None, Some, length, map, min, reverse}
use Rattle.std.proofs.Props.{props}
use Rattle.rcu_model.specs.declared.event.ObjectId.{ObjectId}
use Rattle.rcu_model.specs.declared.refusal.Refusal.{Refusal}
use Rattle.rcu_model.specs.declared.refusal.Refusal.TheVariants.{Closed, Exhausted, FewJobs, Memory}
use Rattle.rcu_model.specs.Sets.{In}
use Rattle.live_log.specs.declared.event.LiveEvent.{LiveEvent}
use Rattle.live_log.specs.declared.event.LiveEvent.TheVariants.{ChainNote, Object}
use Rattle.live_log.specs.declared.event.ObjectEvent.TheVariants.{Cut, Replace, Retire}
use Rattle.live_log.specs.Log.{Log, Begins, Has, HaveEnded, IsLiveRun, chain_note, closed_of, record_of, seq_of, state_of}
use Rattle.live_log.specs.Tables.{IsDirectory, Names, tabled}
use Rattle.rcu_list.specs.live_rule.Places.{hold_at}
use Rattle.rcu_list.specs.live_rule.declared.view.Look.{Look}
use Rattle.rcu_list.specs.live_rule.declared.view.Look.TheVariants.{Stored}
use Rattle.rcu_list.specs.live_rule.declared.view.Sizes.{Sizes}
use Rattle.rcu_list.specs.live_rule.declared.view.View.{View}
use Rattle.rcu_list.specs.live_callbacks.Retiring.{Queues}
use Rattle.rcu_list.specs.live_rule.Rights.{object_in, own_in}
use Rattle.rcu_list.specs.live_read.Hearing.{FindsNothing, MakesMany}
use Rattle.rcu_list.specs.live_read.declared.caller.Caller.{Ghosts}
use Rattle.rcu_list.specs.live_write.Calls.{IsUnretired}
use Rattle.rcu_list.specs.live_write.Chains.{list_in}
use Rattle.rcu_list.specs.domain.Waiting.{LoadedOnce, Synchronized}
use Rattle.rcu_list.specs.Calls.{HandsOver}
use Rattle.rcu_hash.specs.Leaving.{LeavesMap}
use Rattle.rcu_hash.specs.declared.tidying.TidyEnd.{TidyEnd}
use Rattle.rcu_hash.specs.Growing.{HasLeft}
use Rattle.rcu_hash.specs.Refusing.{During}
use Rattle.rcu_hash.specs.Writers.{AreFrom, Each, HasKeysIn, HasNote, IsAlone, IsOutside}

-- the directory is linked in its chain
abbrev pub IsLinked : ℕ → ObjectId → Log → Type 0
IsLinked d o log = In ((state_of log).chain d) o × IsDirectory (record_of log o)

-- a chain has lost its note since some log
pub record WasCleared (since : Log) (c : ℕ) (log : Log) : Type 0 where
  pub at : Log
  pub after : Begins since at
  pub before : Begins (ChainNote c 0 ∷ at) log

-- Of the directories that were replaced in chain d nothing is left but some chains and some records. Each other record
-- is retired, and each other chain that they named has lost its note since.
abbrev pub LeavesOnly : ℕ → Log → (ℕ → Type 0) → (ObjectId → Type 0) → Type 0
LeavesOnly d log chains records = (before : Log) (old new : ObjectId) (cell : ℕ) (payload : List ℕ) → Begins (Object (Replace d old new cell payload) ∷ before) log → IsDirectory (record_of before old) → (Has (Object (Retire old)) log ⊎ records old) × ((c : ℕ) → Names (record_of before old) c → WasCleared (Object (Replace d old new cell payload) ∷ before) c log ⊎ chains c)

-- nothing is left of them; how that came does not matter
abbrev pub IsTidied : ℕ → Log → Type 0
IsTidied d log = ∥ LeavesOnly d log (λ c. ⊥) (λ o. ⊥) ∥₁

-- the chains of these writers
abbrev pub chains_in : List View → List ℕ
chains_in [] = []
chains_in (v ∷ vs) = (own_in v.chains).chain ∷ chains_in vs

-- a directory took the object's place in chain d, so it was one; which directory that was does not matter
abbrev pub WasReplaced : ℕ → ObjectId → Log → Type 0
WasReplaced d o log = ∥ ((new : ObjectId) × (cell : ℕ) × (payload : List ℕ) × IsDirectory (cell, payload) × Has (Object (Replace d o new cell payload)) log) ∥₁

-- they follow one another
abbrev pub AreRow : List View → Type 0
AreRow vs = (first : ℕ) × AreFrom first vs

-- This directory is linked. Of those before it these chains are left, which follow one another, and this record of one
-- that was replaced, or none. Nothing else is.
abbrev pub IsRest : ℕ → ObjectId → List View → Option ObjectId → Log → Type 0
IsRest d o vs old log = ∥ IsLinked d o log × LeavesOnly d log (In (chains_in vs)) (λ p. old ≡ Some p) × AreRow vs × ((p : ObjectId) → old ≡ Some p → WasReplaced d p log) ∥₁

-- Every section has ended that was open in some log; before that log the directory was linked.
pub record HasWaited (d : ℕ) (o : ObjectId) (log : Log) : Type 0 where
  pub known : Log
  pub mark : Log
  pub after : Begins known mark
  pub before : Begins mark log
  pub linked : In ((state_of known).chain d) o
  pub directory : IsDirectory (record_of known o)
  pub ended : HaveEnded mark log

-- the writer of a chain of keys that an earlier directory named, and the present one does not
abbrev pub IsLeft : ℕ → ℕ → ℕ → View → Type 0
IsLeft d first buckets v = IsAlone v × HasKeysIn v × HasNote (d + 1) v × ∥ IsOutside first buckets v ∥₁

-- that this is so is a fact
pub left_prop : (d first buckets : ℕ) (v : View) → IsProp (IsLeft d first buckets v)
left_prop d first buckets v = hlevel props

-- a record that left this chain is that of an earlier directory, by what its holder has seen
abbrev pub IsRecord : ℕ → ℕ → View → Type 0
IsRecord d chain v = (chain ≡ d) × WasReplaced d (object_in v.object) v.seen

-- that this is so is a fact
pub record_prop : (d chain : ℕ) (v : View) → IsProp (IsRecord d chain v)
record_prop d chain v = hlevel props

-- how many objects their chains have
abbrev pub objects_in : List View → ℕ
objects_in [] = 0
objects_in (v ∷ vs) = length (list_in v) + objects_in vs

-- of chains, each with how many objects it links: their numbers, and the sum
abbrev pub numbers_of : List (ℕ × ℕ) → List ℕ
numbers_of [] = []
numbers_of (c ∷ cs) = c.0 ∷ numbers_of cs

abbrev pub sum_of : List (ℕ × ℕ) → ℕ
sum_of [] = 0
sum_of (c ∷ cs) = c.1 + sum_of cs

-- they follow one another, from this number on
abbrev pub AreInRow : ℕ → List (ℕ × ℕ) → Type 0
AreInRow first [] = Unit {0}
AreInRow first (c ∷ cs) = (c.0 ≡ first) × AreInRow (first + 1) cs

-- one, if there is one
abbrev pub one_if : {A : Type 0} → Option A → ℕ
one_if None = 0
one_if (Some x) = 1

-- this chain has the table's note, the directory does not name it, and it links this many objects
abbrev pub LinksStill : ℕ → ℕ × ℕ → Log → Type 0
LinksStill d c log = (left : HasLeft d log) × (left.chain ≡ c.0) × (length ((state_of log).chain c.0) ≡ c.1)

-- what a step does: it cuts an object and retires it with the callback of this code, or retires the record of an
-- earlier directory so, or takes the note of this chain
pub data Kind : Type 0 where
  Cuts : Gv → Kind
  Retires : Gv → Kind
  Clears : ℕ → Kind

-- the callbacks of the retirements among them
abbrev pub callbacks_by : Kind → List Gv
callbacks_by (Cuts callback) = callback ∷ []
callbacks_by (Retires callback) = callback ∷ []
callbacks_by (Clears chain) = []

abbrev pub callbacks_in : List (Kind × Log) → List Gv
callbacks_in [] = []
callbacks_in (s ∷ ss) = callbacks_by s.0 ++ callbacks_in ss

-- and which of them change a chain
abbrev pub change_by : Kind → ℕ
change_by (Cuts callback) = 1
change_by (Retires callback) = 0
change_by (Clears chain) = 1

abbrev pub changes_in : List (Kind × Log) → ℕ
changes_in [] = 0
changes_in (s ∷ ss) = change_by s.0 + changes_in ss

-- and which chains lose their notes by them
abbrev pub cleared_by : Kind → List ℕ
cleared_by (Cuts callback) = []
cleared_by (Retires callback) = []
cleared_by (Clears chain) = chain ∷ []

abbrev pub cleared_in : List (Kind × Log) → List ℕ
cleared_in [] = []
cleared_in (s ∷ ss) = cleared_by s.0 ++ cleared_in ss

-- by what was found each of these chains was given back: 0 was stored in its hold word
abbrev pub AreFreed : Sizes → List ℕ → List Look → Type 0
AreFreed sizes chains found = (c : ℕ) → In chains c → In found (Stored (hold_at sizes c) 0)

-- whatever was stored is 0 in the hold word of a chain: so no record was taken, and no chain
abbrev pub OnlyFrees : Sizes → List Look → Type 0
OnlyFrees sizes found = (place word : ℕ) → In found (Stored place word) → (word ≡ 0) × ((c : ℕ) × (c < sizes.chains) × (place ≡ hold_at sizes c))

-- by looks, of which this is so, and nothing was loaded
abbrev pub FindsFrees : {W S : Type 0} → Ghosts W S → Sizes → W → W → Type 0
FindsFrees w sizes old new = (w.loads new ≡ w.loads old) × ((found : List Look) × (w.looks new ≡ found ++ w.looks old) × OnlyFrees sizes found)

-- by the rule of chains, the sizes of the domain, the directory's chain, and what the caller had seen
module _ (qsbr : Bool) (allows : Log → LiveEvent → Type 0) (sizes : Sizes) (d : ℕ) (seen : Log) where
  -- and by what it had heard of before the step
  module _ (heard : Log) where
    -- an object left a chain that had the table's note, and was retired after that, with this callback
    pub record RetiresObject (callback : Gv) (log : Log) : Type 0 where
      pub chain : ℕ
      pub object : ObjectId
      pub ticket : ℕ
      pub published : Log
      pub leaves : LeavesMap qsbr allows sizes.chains d seen heard (Object (Cut chain object)) published
      pub noted : chain_note chain leaves.writes.before ≡ d + 1
      pub hands : HandsOver qsbr allows object (chain % sizes.queues) ticket callback published log

    -- the record of an earlier directory was retired with it
    pub record RetiresRecord (callback : Gv) (log : Log) : Type 0 where
      pub object : ObjectId
      pub given : ℕ
      pub queued : Queues qsbr allows (λ at. Begins seen at × Begins heard at × WasReplaced d object at) object (d % sizes.queues) given callback log

    -- a chain that had the table's note has none any more
    pub record ClearsNote (chain : ℕ) (log : Log) : Type 0 where
      pub leaves : LeavesMap qsbr allows sizes.chains d seen heard (ChainNote chain 0) log
      pub noted : chain_note chain leaves.writes.before ≡ d + 1

  abbrev pub Does : Log → Kind → Log → Type 0
  Does heard (Cuts callback) log = RetiresObject heard callback log
  Does heard (Retires callback) log = RetiresRecord heard callback log
  Does heard (Clears chain) log = ClearsNote heard chain log

  -- the steps, the first one first, each after what the caller had heard of at the one before it
  abbrev pub Follow : Log → List (Kind × Log) → Log → Type 0
  Follow heard [] log = Begins heard log
  Follow heard (s ∷ ss) log = Does heard s.0 s.1 × Follow s.1 ss log

  -- Steps that used these callbacks, by their codes: from the back, each retirement the next one. No change was made for
  -- the caller but one for each cut and each note. Each chain that lost its note was given back, and nothing was taken.
  pub record Uses {D W S : Type 0} (w : Ghosts W S) (code : D → Gv) (old new : W) (jobs left : List D) (heard log : Log) : Type 0 where
    pub used : List D
    pub are : jobs ≡ left ++ used
    pub steps : List (Kind × Log)
    pub follow : Follow heard steps log
    pub callbacks : callbacks_in steps ≡ map code (reverse used)
    pub made : MakesMany w old new (changes_in steps)
    pub found : List Look
    pub looks : w.looks new ≡ found ++ w.looks old
    pub freed : AreFreed sizes (cleared_in steps) found
    pub only : OnlyFrees sizes found

module _ {D W S : Type 0} (qsbr : Bool) (sizes : Sizes) (d : ℕ) (w : Ghosts W S) (code : D → Gv) (old new : W) (jobs left : List D) where
  -- in a call that loads nothing, after what its caller had heard of
  pub record UsesUp : Type 0 where
    pub uses : Uses qsbr tabled sizes d (w.seen old) w code old new jobs left (w.heard old) (w.heard new)
    pub loads : w.loads new ≡ w.loads old

module _ {W S : Type 0} (w : Ghosts W S) (new : W) (is_one : ℕ → Type 0) where
  -- one of these queues was closed, or there was no memory
  abbrev pub IsRefused : Refusal → Type 0
  IsRefused e = ((e ≡ Closed) × ((q : ℕ) × is_one q × (closed_of q (w.heard new) ≡ 1))) ⊎ (e ≡ Memory)

  -- or no callback is left
  abbrev pub IsStopped : {D : Type 0} → List D → Refusal → Type 0
  IsStopped jobs e = ((e ≡ FewJobs) × (jobs ≡ [])) ⊎ IsRefused e

-- the queue of the directory's chain, or of one of these
abbrev pub IsQueueAmong : Sizes → ℕ → List ℕ → ℕ → Type 0
IsQueueAmong sizes d chains q = (q ≡ d % sizes.queues) ⊎ ((c : ℕ) × In chains c × (q ≡ c % sizes.queues))

module _ {W S : Type 0} (w : Ghosts W S) (qsbr : Bool) (allows : Log → LiveEvent → Type 0) (old new : W) where
  -- This many objects are left of earlier directories. Each chain linked as many as stand beside it, in some log of the
  -- call. One more is the record of a directory that was replaced, if it is left: in some log of the call it was not
  -- retired. In the last log nothing else is left.
  pub record CountsLeft (d : ℕ) (chains : List (ℕ × ℕ)) (left : ℕ) : Type 0 where
    pub replaced : Option ObjectId
    pub was : ∥ ((o : ObjectId) → replaced ≡ Some o → WasReplaced d o (w.heard new)) ∥₁
    pub unretired : (o : ObjectId) → replaced ≡ Some o → During w qsbr allows old new (IsUnretired o)
    pub still : Each (λ c. During w qsbr allows old new (LinksStill d c)) chains
    pub row : ∥ ((first : ℕ) × AreInRow first chains) ∥₁
    pub rest : ∥ LeavesOnly d (w.heard new) (In (numbers_of chains)) (λ o. replaced ≡ Some o) ∥₁
    pub many : left ≡ min (one_if replaced + sum_of chains) (2 ^ 64 - 1)

  -- After some waits one was refused: the sequence number was loaded, and was at its end.
  abbrev pub FindsEnd : Type 0
  FindsEnd = (at : Log) × (earlier : List Log) × LoadedOnce qsbr allows (w.seen old) (w.heard old) (earlier ++ w.loads old) (w.loads new) at × (2 ^ 62 ≤ seq_of at) × Begins at (w.heard new) × IsLiveRun qsbr allows (w.heard new)

  -- A tidying stops while something is left. A wait was refused, and nothing was retired. Or a retirement was refused, for
  -- the queue of the directory's chain or of one that is left, or there was no callback for it.
  abbrev pub StopsTidying : (sizes : Sizes) (d : ℕ) {D : Type 0} → TidyEnd D → Refusal → Type 0
  StopsTidying sizes d end e = (0 < end.left) × ((chains : List (ℕ × ℕ)) × CountsLeft d chains end.left × (((e ≡ Exhausted) × (end.retired ≡ 0) × FindsEnd) ⊎ IsStopped w new (IsQueueAmong sizes d (numbers_of chains)) end.jobs.items e))

  -- a grace period was waited for, and only then something was retired; there may have been waits before it
  pub record Tidies (sizes : Sizes) (d : ℕ) {D : Type 0} (code : D → Gv) (jobs left : List D) : Type 0 where
    pub earlier : List Log
    pub waited : Log
    pub ended : Synchronized qsbr allows (w.seen old) (w.heard old) (earlier ++ w.loads old) (w.loads new) waited
    pub uses : Uses qsbr allows sizes d (w.seen old) w code old new jobs left waited (w.heard new)

  -- or nothing was, and the callbacks come back
  abbrev pub EndsTidying : (sizes : Sizes) (d : ℕ) {D : Type 0} → (D → Gv) → (jobs left : List D) → Type 0
  EndsTidying sizes d code jobs left = Tidies sizes d code jobs left ⊎ ((left ≡ jobs) × FindsNothing w old new × ((waits : List Log) × (w.loads new ≡ waits ++ w.loads old)))

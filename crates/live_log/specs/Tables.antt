-- The rule of tables: chains of keys, and chains of one directory, which names the chains of a table.
use Rattle.std.specs.Prelude.{◌≡◌, ◌≢◌, ◌⊎◌, ℕ, ◌+◌, ◌^◌, ◌<◌, ◌≤◌, List, [], ◌∷◌, ◌++◌, slice_index_or}
use Rattle.rcu_model.specs.declared.event.ObjectId.{ObjectId}
use Rattle.rcu_model.specs.Sets.{In}
use Rattle.live_log.specs.declared.event.LiveEvent.{LiveEvent}
use Rattle.live_log.specs.declared.event.LiveEvent.TheVariants.{ChainNote, Object}
use Rattle.live_log.specs.declared.event.ObjectEvent.{ObjectEvent}
use Rattle.live_log.specs.declared.event.ObjectEvent.TheVariants.{Push, Replace, Cut}
use Rattle.live_log.specs.Keys.{keyed_event, rank_of}
use Rattle.live_log.specs.Log.{Log, Begins, HaveEnded, chain_note, record_of, state_of}

-- of a payload: its fourth word, 0 with a key and 1 in a directory
abbrev pub kind_of : ℕ × List ℕ → ℕ
kind_of x = slice_index_or x.1 3 0

abbrev pub HasKey : ℕ × List ℕ → Type 0
HasKey x = kind_of x ≡ 0

-- a directory's third word is 0
abbrev pub IsDirectory : ℕ × List ℕ → Type 0
IsDirectory x = (kind_of x ≡ 1) × (rank_of x ≡ 0)

-- it names as many chains as its second word says, from its first word on
abbrev pub Names : ℕ × List ℕ → ℕ → Type 0
Names x c = let first = slice_index_or x.1 0 0 in (first ≤ c) × (c < first + slice_index_or x.1 1 0)

-- a linked directory names the chain
pub record IsNamed (log : Log) (c : ℕ) : Type 0 where
  pub chain : ℕ
  pub object : ObjectId
  pub linked : In ((state_of log).chain chain) object
  pub directory : IsDirectory (record_of log object)
  pub names : Names (record_of log object) c

-- each section has ended that was open where a directory that named the chain was replaced
abbrev pub IsFree : Log → ℕ → Type 0
IsFree log c = (since before : Log) (d : ℕ) (old new : ObjectId) (cell : ℕ) (payload : List ℕ) → log ≡ since ++ Object (Replace d old new cell payload) ∷ before → IsDirectory (record_of before old) → Names (record_of before old) c → HaveEnded before log

-- an object of the chain was replaced, no earlier than in one log, and not after another
pub record IsReplaced (start log : Log) (c : ℕ) (o : ObjectId) : Type 0 where
  pub since : Log
  pub before : Log
  pub new : ObjectId
  pub cell : ℕ
  pub payload : List ℕ
  pub is : log ≡ since ++ Object (Replace c o new cell payload) ∷ before
  pub after : Begins start before
  pub linked : In ((state_of before).chain c) o

-- the note of a chain that is reserved for a directory: 2^63 and the directory's number
abbrev pub reserved : ObjectId → ℕ
reserved o = 2 ^ 63 + o.0

-- a note for a chain that has none: a number below 2^63, or that of an object which no chain has linked yet
abbrev pub MayReserve : Log → ℕ → Type 0
MayReserve log x = (x < 2 ^ 63) ⊎ ((o : ObjectId) × (x ≡ reserved o) × ¬ In (state_of log).used o)

-- another note for a chain that has one: 0, where the chain is empty and no directory names it; or the number of the
-- chain of the directory that names it, and 1: the chain is left
abbrev pub MayLeave : Log → ℕ → ℕ → Type 0
MayLeave log c x = ((x ≡ 0) × ((state_of log).chain c ≡ []) × ¬ IsNamed log c) ⊎ ((n : IsNamed log c) × (x ≡ n.chain + 1))

-- an object may come into a chain as a directory: it names other chains alone, which are reserved for it
abbrev pub MayDirect : Log → ℕ → ObjectId → ℕ × List ℕ → Type 0
MayDirect log d o x = (d + 1 < 2 ^ 63) × ((c : ℕ) → Names x c → (c ≢ d) × (chain_note c log ≡ reserved o))

-- the chains that a directory names are left
abbrev pub AreLeft : Log → ℕ → ObjectId → Type 0
AreLeft log d o = (c : ℕ) → Names (record_of log o) c → chain_note c log ≡ d + 1

-- a directory takes the place of another one, once that one's chains are left
abbrev pub Redirects : Log → (c : ℕ) (old new : ObjectId) → ℕ × List ℕ → Type 0
Redirects log c old new x = IsDirectory x × IsDirectory (record_of log old) × MayDirect log c new x × AreLeft log c old

-- the objects of the chain have keys
abbrev pub HasKeys : Log → ℕ → Type 0
HasKeys log c = (o : ObjectId) → In ((state_of log).chain c) o → HasKey (record_of log o)

-- Keys come and go in a free chain of keys by the rule of keyed chains. A directory comes into an empty chain, or takes
-- the place of another one, and is not cut.
abbrev pub tabled_event : Log → ObjectEvent → Type 0
tabled_event log (Push c o i w) = IsFree log c × ((HasKey (i, w) × HasKeys log c × keyed_event log (Push c o i w)) ⊎ (IsDirectory (i, w) × ((state_of log).chain c ≡ []) × MayDirect log c o (i, w)))
tabled_event log (Replace c p o i w) = IsFree log c × ((HasKey (i, w) × HasKey (record_of log p) × keyed_event log (Replace c p o i w)) ⊎ Redirects log c p o (i, w))
tabled_event log (Cut c o) = IsFree log c × HasKey (record_of log o) × keyed_event log (Cut c o)
tabled_event log _ = Unit {0}

-- A chain with no note may get one at any time, and one with a note another, where it is free.
abbrev pub tabled : Log → LiveEvent → Type 0
tabled log (Object d) = tabled_event log d
tabled log (ChainNote c x) = ((chain_note c log ≡ 0) × MayReserve log x) ⊎ (IsFree log c × MayLeave log c x)
tabled log _ = Unit {0}

-- The writers of several chains, by what each of them knows.
use Rattle.std.specs.Prelude.{Bool, ◌≡◌, ◌⊎◌, ℕ, ◌+◌, ◌<◌, ◌≤◌, List, [], ◌∷◌, Option, Some, None, IfSome, length, slice_get}
use Rattle.std.specs.Coded.{×_prop}
use Rattle.std.proofs.Props.{props}
use Rattle.rcu_model.specs.declared.event.ObjectId.{ObjectId}
use Rattle.rcu_model.specs.Sets.{In}
use Rattle.live_log.specs.Log.{Log, Begins, IsLiveRun, record_of}
use Rattle.live_log.specs.Tables.{HasKey, tabled}
use Rattle.rcu_list.specs.live_rule.Seats.{lent_chains}
use Rattle.rcu_list.specs.live_rule.declared.rights.ChainRight.{ChainRight}
use Rattle.rcu_list.specs.live_rule.declared.view.View.{View}
use Rattle.rcu_list.specs.live_rule.Rights.{own_in}
use Rattle.rcu_list.specs.live_write.Chains.{list_in}
use Rattle.rcu_list.specs.Maps.{value_in}

-- it is so of each one
abbrev pub Each : {X : Type 0} → (X → Type 0) → List X → Type 0
Each is_so [] = Unit {0}
Each is_so (x ∷ xs) = is_so x × Each is_so xs

-- the right of each one
abbrev pub rights_of : List View → List ChainRight
rights_of [] = []
rights_of (v ∷ vs) = own_in v.chains ∷ rights_of vs

-- of a right the chain's number, and how many objects it links
abbrev pub length_of : ChainRight → ℕ × ℕ
length_of x = (x.chain, length x.objects)

-- of each one
abbrev pub lengths_of : List ChainRight → List (ℕ × ℕ)
lengths_of [] = []
lengths_of (x ∷ xs) = length_of x ∷ lengths_of xs

-- no chain was lent to it
abbrev pub IsAlone : View → Type 0
IsAlone v = lent_chains v.chains ≡ []

-- it has seen no more than the log, or as much
abbrev pub SawBefore : Log → View → Type 0
SawBefore log v = Begins v.seen log

abbrev pub HasSeen : Log → View → Type 0
HasSeen log v = Begins log v.seen

-- what it has seen is a run
abbrev pub IsRunIn : Bool → View → Type 0
IsRunIn qsbr v = IsLiveRun qsbr tabled v.seen

-- its chain has no objects, or this note
abbrev pub HasNothing : View → Type 0
HasNothing v = list_in v ≡ []

abbrev pub HasNote : ℕ → View → Type 0
HasNote note v = (own_in v.chains).note ≡ note

abbrev pub HasNoNote : View → Type 0
HasNoNote = HasNote 0

-- its chain is empty and has no note
abbrev pub IsEmpty : View → Type 0
IsEmpty v = HasNothing v × HasNoNote v

-- the objects of its chain have keys
abbrev pub HasKeysIn : View → Type 0
HasKeysIn v = (o : ObjectId) → In (list_in v) o → HasKey (record_of v.seen o)

-- its chain is none of these, this many from the first one on
abbrev pub IsOutside : ℕ → ℕ → View → Type 0
IsOutside first many v = ((own_in v.chains).chain < first) ⊎ (first + many ≤ (own_in v.chains).chain)

-- their chains follow one another, from the first one on
abbrev pub AreFrom : ℕ → List View → Type 0
AreFrom first [] = Unit {0}
AreFrom first (v ∷ vs) = ((own_in v.chains).chain ≡ first) × AreFrom (first + 1) vs

-- what a key has in the list of one of them
abbrev pub value_at : Option View → ℕ → Option ℕ
value_at None key = None
value_at (Some v) key = value_in (record_of v.seen) (list_in v) key

-- they follow one another, from the first one on; no chain was lent to one; their chains are of keys, and have this note
abbrev pub AreKept : (first note : ℕ) → List View → Type 0
AreKept first note vs = AreFrom first vs × Each IsAlone vs × Each HasKeysIn vs × Each (HasNote note) vs

-- the second ones have the chains of the first, in their order, with the objects and the words that these had
pub record KeepLists (vs ws : List View) : Type 0 where
  pub from : (first : ℕ) → AreFrom first vs → AreFrom first ws
  pub keys : Each HasKeysIn vs → Each HasKeysIn ws
  pub nothing : Each HasNothing vs → Each HasNothing ws
  pub values : (k key : ℕ) → value_at (slice_get ws k) key ≡ value_at (slice_get vs k) key

-- that a fact is so of each is a fact
pub each_prop : {X : Type 0} (P : X → Type 0) → ((x : X) → IsProp (P x)) → (xs : List X) → IsProp (Each P xs)
each_prop P p [] = hlevel props
each_prop P p (x ∷ xs) = ×_prop (p x) (each_prop P p xs)

pub some_prop : {X : Type 0} (P : X → Type 0) → ((x : X) → IsProp (P x)) → (r : Option X) → IsProp (IfSome r P)
some_prop P p None = hlevel props
some_prop P p (Some x) = p x

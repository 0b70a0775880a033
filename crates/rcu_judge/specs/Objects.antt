-- What the checker knows of objects and chains, and what a store into a chain makes of it.
use Rattle.std.specs.Prelude.{◌≡◌, ◌⊎◌, ◌↔◌, ℕ, ◌==◌, nat_eq, Bool, true, false, ◌&&◌, if◌then◌else◌, List, is_some, IsSome, IfSome, Option, Some, None}
use Rattle.std.specs.Option.{option_or}
use Rattle.std.specs.HashMap.{HashMap, get}
use Rattle.number_runs.specs.Runs.{Has}
use Rattle.rcu_model.specs.declared.event.ObjectId.{ObjectId}
use Rattle.rcu_model.specs.declared.event.Event.{Event}
use Rattle.rcu_judge.specs.declared.object.Stage.{Stage}
use Rattle.rcu_judge.specs.declared.object.Stage.TheVariants.{Linked, Cut as IsCut, Retired, Queued}
use Rattle.rcu_judge.specs.declared.object.ObjectState.{ObjectState}
use Rattle.rcu_judge.specs.declared.object.Splice.{Splice}
use Rattle.rcu_judge.specs.declared.object.Waiting.{Waiting}
use Rattle.rcu_judge.specs.declared.objects.Objects.{Objects}
use Rattle.rcu_model.specs.Sets.{same_object, has_object, HasObject, at_number, at_object, first_of, next_of}
use Rattle.rcu_model.specs.Machine.{State, IsRun, IsSuccessor, state_after}

-- the tables as functions
unfoldable pub states_of : {S : Type 0} → HashMap ObjectId ObjectState S → ObjectId → Option ObjectState
states_of known o = get same_object known o

unfoldable pub heads_of : {S : Type 0} → HashMap ℕ ObjectId S → ℕ → Option ObjectId
heads_of heads c = get nat_eq heads c

-- how far an object has come
abbrev pub is_linked : Stage → Bool
is_linked Linked = true
is_linked IsCut = false
is_linked (Retired m) = false
is_linked (Queued m t) = false

abbrev pub is_cut : Stage → Bool
is_cut Linked = false
is_cut IsCut = true
is_cut (Retired m) = true
is_cut (Queued m t) = true

abbrev pub is_retired : Stage → Bool
is_retired Linked = false
is_retired IsCut = false
is_retired (Retired m) = true
is_retired (Queued m t) = true

abbrev pub is_queued : Stage → Bool
is_queued Linked = false
is_queued IsCut = false
is_queued (Retired m) = false
is_queued (Queued m t) = true

-- when it was retired, and its place in the queue
abbrev pub moment_of : Stage → Option ℕ
moment_of Linked = None
moment_of IsCut = None
moment_of (Retired m) = Some m
moment_of (Queued m t) = Some m

abbrev pub ticket_of : Stage → Option ℕ
ticket_of Linked = None
ticket_of IsCut = None
ticket_of (Retired m) = None
ticket_of (Queued m t) = Some t

-- what a state says, if there is one
abbrev pub says : (Stage → Bool) → Option ObjectState → Bool
says test None = false
says test (Some s) = test s.stage

abbrev pub number_in : (Stage → Option ℕ) → Option ObjectState → Option ℕ
number_in number None = None
number_in number (Some s) = number s.stage

abbrev pub says_linked : ℕ → Option ObjectState → Bool
says_linked c None = false
says_linked c (Some s) = is_linked s.stage && (s.chain == c)

abbrev pub linked_state : ℕ → Option ObjectState → Option ObjectState
linked_state c None = None
linked_state c (Some s) = if is_linked s.stage && (s.chain == c) then Some s else None

abbrev pub after_of : Option ObjectState → Option ObjectId
after_of None = None
after_of (Some s) = s.after

abbrev pub before_of : Option ObjectState → Option ObjectId
before_of None = None
before_of (Some s) = s.before

-- the head, or the link of an object, leads to the object
abbrev pub LeadsTo : List ObjectId → Option ObjectId → ObjectId → Type 0
LeadsTo xs None o = first_of xs ≡ Some o
LeadsTo xs (Some p) o = HasObject xs p × (next_of xs p ≡ Some o)

-- what is known of each object, and was known of one whose callback has run, is what the lists of the machine say
pub record Shows (head : ℕ → Option ObjectId) (state : ObjectId → Option ObjectState) (chain : ℕ → List ObjectId) (used cut : List ObjectId) (successor : ObjectId → Option ObjectId) (retired queued reclaimed : List ObjectId) (moments tickets : ObjectId → ℕ) : Type 0 where
  pub firsts : (c : ℕ) → head c ≡ first_of (chain c)
  pub nexts : (c : ℕ) (o : ObjectId) → HasObject (chain c) o → after_of (state o) ≡ next_of (chain c) o
  pub befores : (c : ℕ) (o : ObjectId) → HasObject (chain c) o → LeadsTo (chain c) (before_of (state o)) o
  pub successors : (o : ObjectId) → HasObject cut o → after_of (state o) ≡ successor o
  pub linked : (c : ℕ) (o : ObjectId) → says_linked c (state o) ≡ has_object (chain c) o
  pub known : (o : ObjectId) → is_some (state o) ≡ has_object used o
  pub was_cut : (o : ObjectId) → says is_cut (state o) ≡ has_object cut o
  pub was_retired : (o : ObjectId) → says is_retired (state o) ≡ has_object retired o
  pub was_queued : (o : ObjectId) → says is_queued (state o) ≡ has_object queued o
  pub was_run : (o : ObjectId) → HasObject reclaimed o → HasObject queued o
  pub moment : (o : ObjectId) (m : ℕ) → number_in moment_of (state o) ≡ Some m → m ≡ moments o
  pub ticket : (o : ObjectId) (t : ℕ) → number_in ticket_of (state o) ≡ Some t → t ≡ tickets o

-- of the objects' states these are kept: those of the objects whose callbacks have not run
pub record AreKept (state : ObjectId → Option ObjectState) (reclaimed : List ObjectId) (kept : ObjectId → Option ObjectState) : Type 0 where
  pub here : (o : ObjectId) → (¬ HasObject reclaimed o) → kept o ≡ state o
  pub gone : (o : ObjectId) → HasObject reclaimed o → kept o ≡ None

-- what is known, and the numbers of the objects whose callbacks have run
pub record Remembers (objects : Objects) (chain : ℕ → List ObjectId) (used cut : List ObjectId) (successor : ObjectId → Option ObjectId) (retired queued reclaimed : List ObjectId) (moments tickets : ObjectId → ℕ) : Type 0 where
  pub state : ObjectId → Option ObjectState
  pub kept : AreKept state reclaimed (states_of objects.known)
  pub past : (o : ObjectId) → HasObject reclaimed o ↔ Has objects.reclaimed o.0
  pub shows : Shows (heads_of objects.heads) state chain used cut successor retired queued reclaimed moments tickets

abbrev pub Knows : Objects → State → (ObjectId → ℕ) → (ObjectId → ℕ) → Type 0
Knows objects now moments tickets = Remembers objects now.chain now.used now.cut now.successor now.retired now.queued now.reclaimed moments tickets

-- the same is known of objects and chains
pub record IsSame (old new : Objects) : Type 0 where
  pub heads : heads_of new.heads ≡ heads_of old.heads
  pub states : states_of new.known ≡ states_of old.known
  pub past : new.reclaimed ≡ old.reclaimed

-- a run leads to the state
pub record IsReached (now : State) : Type 0 where
  pub log : List Event
  pub run : IsRun log
  pub leads : state_after log ≡ now

-- none for an object that was never used, or whose callback has run, else its one successor
abbrev pub FindsSuccessor : State → ObjectId → Option (Option ObjectId) → Type 0
FindsSuccessor now o None = (¬ HasObject now.used o) ⊎ HasObject now.reclaimed o
FindsSuccessor now o (Some found) = HasObject now.used o × ((other : Option ObjectId) → (found ≡ other) ↔ IsSuccessor now o other)

-- what a queued object that was not run waits with
pub record FindsWaiting (now : State) (moments tickets : ObjectId → ℕ) (o : ObjectId) (found : Option Waiting) : Type 0 where
  pub waits : IsSome found ↔ (HasObject now.queued o × (¬ HasObject now.reclaimed o))
  pub is : IfSome found (λ w. (w.moment ≡ moments o) × (w.ticket ≡ tickets o))

-- a write of one object, if it is known
abbrev pub write_at : (ObjectId → Option ObjectState) → ObjectId → (ObjectState → ObjectState) → Option ObjectState → ObjectId → Option ObjectState
write_at state o f None = state
write_at state o f (Some s) = at_object o (Some (f s)) state

abbrev pub written : (ObjectId → Option ObjectState) → Option ObjectId → (ObjectState → ObjectState) → ObjectId → Option ObjectState
written state None f = state
written state (Some o) f = write_at state o f (state o)

-- the store of the link before, or of the head
abbrev pub stored : (ℕ → Option ObjectId) → ℕ → Option ObjectId → Option ObjectId → ℕ → Option ObjectId
stored head c None value = at_number c value head
stored head c (Some o) value = head

abbrev pub spliced_heads : (ℕ → Option ObjectId) → Splice → ℕ → Option ObjectId
spliced_heads head s = stored head s.chain s.before (option_or s.enters s.after)

abbrev pub linked_states : (ObjectId → Option ObjectState) → Splice → ObjectId → Option ObjectState
linked_states state s = written state s.before (λ x. record x { after = option_or s.enters s.after })

-- the bookkeeping beside it: what now stands before the object after, what is cut, what is linked
abbrev pub marked_states : (ObjectId → Option ObjectState) → Splice → ObjectId → Option ObjectState
marked_states state s = written state s.after (λ x. record x { before = option_or s.enters s.before })

abbrev pub left_states : (ObjectId → Option ObjectState) → Splice → ObjectId → Option ObjectState
left_states state s = written state s.leaves (λ x. record x { stage = IsCut })

abbrev pub entered : (ObjectId → Option ObjectState) → Option ObjectId → ObjectState → ObjectId → Option ObjectState
entered state None x = state
entered state (Some o) x = at_object o (Some x) state

abbrev pub entered_states : (ObjectId → Option ObjectState) → Splice → ObjectId → Option ObjectState
entered_states state s = entered state s.enters (record { chain = s.chain; before = s.before; after = s.after; stage = Linked })

abbrev pub spliced_states : (ObjectId → Option ObjectState) → Splice → ObjectId → Option ObjectState
spliced_states state s = entered_states (left_states (marked_states (linked_states state s) s) s) s

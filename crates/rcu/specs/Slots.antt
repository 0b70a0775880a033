-- The value of a slot.
use base.Stored.{Gv}
use denote.RattleType.{RattleType}
use Rattle.gp_memb.specs.declared.plan.GracePlan as plan
use Rattle.std.specs.Prelude.{◌≡◌, ◌⊎◌, ◌%◌, ◌++◌, [], ◌∷◌, ℕ, Bool, List, Some, None}
use Rattle.rcu_model.specs.declared.event.ObjectId.{ObjectId}
use Rattle.rcu_model.specs.Sets.{first_of}
use Rattle.rcu_model.specs.declared.refusal.Refusal.{Refusal}
use Rattle.rcu_model.specs.declared.refusal.Refusal.TheVariants.{Busy}
use Rattle.live_log.specs.declared.event.LiveEvent.{LiveEvent}
use Rattle.live_log.specs.declared.event.LiveEvent.TheVariants.{Object}
use Rattle.live_log.specs.declared.event.ObjectEvent.TheVariants.{Push, Replace}
use Rattle.live_log.specs.Log.{Log, Begins, objects_of, payload_of}
use Rattle.rcu_hash.specs.live_read.Hearing.{IsAfter, MakesLast, Stays}
use Rattle.rcu_hash.specs.live_read.Holding.{log_of}
use Rattle.rcu_hash.specs.live_read.declared.reader_core.ReaderCore.{ReaderCore}
use Rattle.rcu_hash.specs.live_read.declared.caller.Caller.{Ghosts}
use Rattle.rcu_hash.specs.live_rule.Places.{hold_at}
use Rattle.rcu_hash.specs.live_rule.declared.view.Look.{Look}
use Rattle.rcu_hash.specs.live_rule.declared.view.Look.TheVariants.{Loaded, Stored}
use Rattle.rcu_hash.specs.live_rule.declared.view.Sizes.{Sizes}
use Rattle.rcu_hash.specs.live_write.Searching.{GetsNoRecord}
use Rattle.rcu_hash.specs.rcu_list.Calls.{HandsOver, TakesOneRecord}
use Rattle.rcu_hash.specs.rcu_list.Refusing.{FindsNoRecord, GivesBack}
use Rattle.rcu_hash.specs.Writers.{Each}
use Rattle.rcu.specs.Trying.{all_found}

-- the rule of chains that any change fits
abbrev pub any_change : Log → LiveEvent → Type 0
any_change log event = Unit {0}

-- the first record of the chain in the log
abbrev pub first_in : ℕ → Log → ObjectId → Type 0
first_in c log o = first_of ((objects_of log).chain c) ≡ Some o

-- By the words of a value, the chain of a slot, and the value that it was made with: the slot has this value in the
-- log. The first record of its chain has its words, or there is no record, and it is the value that the slot was made with.
abbrev pub HasValue : {T : Type 0} → (T → List ℕ) → ℕ → T → Log → T → Type 0
HasValue packed c first log x =
    ((o : ObjectId) × first_in c log o × ((y : _) → packed y ≡ payload_of log o → x ≡ y))
    ⊎ ((first_of ((objects_of log).chain c) ≡ None) × (x ≡ first))

module _ (qsbr : Bool) (allows : Log → LiveEvent → Type 0) (seen heard : Log) where
  -- the value was found: the slot had it at a moment of the call, after all that the reader had seen and heard of
  pub record Finds {T : Type 0} (packed : T → List ℕ) (c : ℕ) (first : T) (now : Log) (x : T) : Type 0 where
    pub at : Log
    pub after : IsAfter qsbr allows seen heard at
    pub before : Begins at now
    pub has : HasValue packed c first at x

-- a reader found the value between these two moments of it
abbrev pub FindsValue : {T P K : Type 0} {g : plan.Ghosts P} → Bool → (T → List ℕ) → ℕ → T → ReaderCore P K g → ReaderCore P K g → T → Type 0
FindsValue qsbr packed c first r s x = Finds qsbr any_change (log_of r) r.seat.me.0.heard packed c first (log_of s) x

-- between these two moments of a caller
module _ {W S : Type 0} (w : Ghosts W S) (qsbr : Bool) (old new : W) where
  -- A record with these words became the first of the chain by the last event of a log, after all that the caller knew.
  -- The caller has heard of it, and no other change of a chain was made for it.
  pub record PutsValue (c : ℕ) (words : List ℕ) : Type 0 where
    pub at : Log
    pub event : LiveEvent
    pub before : Log
    pub wrote : at ≡ event ∷ before
    pub after : IsAfter qsbr any_change (w.seen old) (w.heard old) at
    pub told : Begins at (w.heard new)
    pub made : MakesLast w old new at
    pub object : ObjectId
    pub first : first_in c at object
    pub has : payload_of at object ≡ words

  -- there was no record before, and it was pushed
  pub record PushesValue (c : ℕ) (words : List ℕ) : Type 0 where
    pub puts : PutsValue c words
    pub cell : ℕ
    pub is : puts.event ≡ Object (Push c puts.object cell words)
    pub none : first_of ((objects_of puts.before).chain c) ≡ None

  -- it was put in the place of the record that was the first before, which was retired then, and queued with
  -- the ticket and the callback of this code
  pub record ReplacesValue (c : ℕ) (words : List ℕ) (queue ticket : ℕ) (callback : Gv) : Type 0 where
    pub puts : PutsValue c words
    pub left : ObjectId
    pub cell : ℕ
    pub is : puts.event ≡ Object (Replace c left puts.object cell words)
    pub was : first_in c puts.before left
    pub handed : HandsOver qsbr any_change left queue ticket callback puts.at (w.heard new)

  -- into the queue of the chain
  abbrev pub ReplacesValueIn : Sizes → (c : ℕ) (words : List ℕ) (ticket : ℕ) (R : RattleType) (callback : R.Denot) → Type 0
  ReplacesValueIn sizes c words ticket R callback = ReplacesValue c words (c % sizes.queues) ticket (R.coded.code callback)

  -- The slot's chain is held for a caller that stands as it stood, and has heard of no less: its hold word was found to
  -- be 0, and left at 1.
  pub record HoldsSlot (sizes : Sizes) (c : ℕ) (mid : W) : Type 0 where
    pub looks : w.looks mid ≡ Stored (hold_at sizes c) 1 ∷ Loaded (hold_at sizes c) 0 ∷ w.looks old
    pub loads : w.loads mid ≡ w.loads old
    pub stays : Stays w old mid
    pub later : Begins (w.heard old) (w.heard mid)

  -- It was held, and then one record was taken for the caller.
  abbrev pub HoldsAndTakes : Sizes → ℕ → Type 0
  HoldsAndTakes sizes c = (mid : W) × HoldsSlot sizes c mid × TakesOneRecord w mid new sizes

  -- Its hold word was found to be 1, and nothing else was found or loaded.
  abbrev pub FindsHeld : Sizes → ℕ → Type 0
  FindsHeld sizes c = (w.looks new ≡ Loaded (hold_at sizes c) 1 ∷ w.looks old) × (w.loads new ≡ w.loads old)

  -- Nothing was put into it: its hold word was found to be 1. Or it was held, and then no record was had, or its queue
  -- took nothing.
  abbrev pub IsNotPut : Sizes → ℕ → Refusal → Type 0
  IsNotPut sizes c e =
      ((e ≡ Busy) × FindsHeld sizes c)
      ⊎ ((mid : W) × HoldsSlot sizes c mid × (FindsNoRecord w qsbr any_change sizes mid new e ⊎ GivesBack w qsbr any_change sizes mid new e (c % sizes.queues)))

-- What a try found that put nothing into a slot: its hold word at 1; or that at 0, which was left at 1, and no record.
abbrev pub FoundInVain : Sizes → ℕ → List Look → Type 0
FoundInVain sizes c found = (found ≡ Loaded (hold_at sizes c) 1 ∷ []) ⊎ ((search : List Look) × (found ≡ search ++ (Stored (hold_at sizes c) 1 ∷ Loaded (hold_at sizes c) 0 ∷ [])) × GetsNoRecord sizes search)

-- The caller stands as it stood after tries that put nothing into a slot, the last one first. That is all that was found
-- for it.
pub record TriesInVain {W S : Type 0} (w : Ghosts W S) (sizes : Sizes) (c : ℕ) (old new : W) : Type 0 where
  pub stays : Stays w old new
  pub later : Begins (w.heard old) (w.heard new)
  pub tries : List (List Look)
  pub vain : Each (FoundInVain sizes c) tries
  pub looks : w.looks new ≡ all_found tries ++ w.looks old
  pub loads : w.loads new ≡ w.loads old

-- at the last of several tries the slot was held and one record taken
abbrev pub TakesLater : {W S : Type 0} → Ghosts W S → Bool → W → W → Sizes → ℕ → Type 0
TakesLater {W} w qsbr old new sizes c = (last : W) × TriesInVain w sizes c old last × HoldsAndTakes w qsbr last new sizes c

-- or nothing was put into it
abbrev pub IsNotPutLater : {W S : Type 0} → Ghosts W S → Bool → W → W → Sizes → ℕ → Refusal → Type 0
IsNotPutLater {W} w qsbr old new sizes c e = (last : W) × TriesInVain w sizes c old last × IsNotPut w qsbr last new sizes c e

-- What a call of a reader or of a section tells.
use Rattle.gp_memb.specs.declared.plan.GracePlan as plan
use Rattle.std.specs.Prelude.{◌≡◌, ◌≢◌, ◌⊎◌, ℕ, ◌+◌, ◌-◌, ◌<◌, Bool, true, false}
use mathlib.Core.Option.{some}
use Rattle.rcu_model.specs.declared.refusal.Refusal.{Refusal}
use Rattle.rcu_model.specs.declared.refusal.Refusal.TheVariants.{Busy, NestFull, NotOpen, WrongFlavour}
use Rattle.live_log.specs.declared.event.LiveEvent.{LiveEvent}
use Rattle.rcu_model.specs.Machine.{IsOpen}
use Rattle.live_log.specs.Log.{Log, IsOpenSection, open_of, state_of}
use Rattle.live_words.specs.live_rule.Readers.{IsClosed}
use Rattle.live_words.specs.step_readers.Sections.{Announced, Closed, CopiedBefore, Nested, Opened, announces, opens}
use Rattle.live_read.specs.declared.reader_core.ReaderCore.{ReaderCore}
use Rattle.live_read.specs.Holding.{KeepsHeld, log_of, ordinal, section_of}

-- the greatest depth of nesting, in both flavours
abbrev pub greatest_depth : ℕ
greatest_depth = 2147483647

module _ {P K : Type 0} {g : plan.Ghosts P} where
  -- its section of the log is open in what it has seen: its Open is there, and its Close is not, and it is open for
  -- the abstract machine
  pub record IsIn (r : ReaderCore P K g) : Type 0 where
    pub note : ℕ
    pub stands : open_of r.slot (log_of r) ≡ some (ordinal r, note)
    pub inside : IsOpenSection r.slot (ordinal r) (log_of r)
    pub is_open : IsOpen (state_of (log_of r)) (section_of r)

  -- a section or a lock of the quiescent-state flavour was begun or ended: a count, and no step of the table
  pub record Local (r s : ReaderCore P K g) (n : ℕ) : Type 0 where
    pub seat : s.seat ≡ r.seat
    pub slot : s.slot ≡ r.slot
    pub word : s.word ≡ r.word
    pub depth : s.depth ≡ n

  module _ (qsbr : Bool) (allows : Log → LiveEvent → Type 0) (r s : ReaderCore P K g) where
    -- the outermost lock opens a section, which copied what was loaded before
    abbrev pub OpensOutermost : Type 0
    OpensOutermost = Opened qsbr allows r.slot s.word r.seat.me s.seat.me × CopiedBefore qsbr allows r.slot s.word r.seat.me s.seat.me (opens qsbr r.slot (ordinal r) s.word)

    -- one more lock or section of the general-purpose flavour: the outermost opens a section of the log, and an inner
    -- one stays in it, which holds what it held
    pub record Enters : Type 0 where
      pub slot : s.slot ≡ r.slot
      pub depth : s.depth ≡ r.depth + 1
      pub outermost : r.depth ≡ 0 → OpensOutermost
      pub inner : r.depth ≢ 0 → Nested qsbr allows r.slot s.word r.seat.me s.seat.me
      pub keeps : 0 < r.depth → KeepsHeld r s
      pub inside : IsIn s

    -- one less: the outermost closes the section of the log, and an inner one stays in it, which holds what it held
    pub record Leaves : Type 0 where
      pub slot : s.slot ≡ r.slot
      pub depth : s.depth ≡ r.depth - 1
      pub outermost : r.depth ≡ 1 → Closed qsbr allows r.slot s.word r.seat.me s.seat.me
      pub inner : 1 < r.depth → Nested qsbr allows r.slot s.word r.seat.me s.seat.me × IsIn s
      pub keeps : 1 < r.depth → KeepsHeld r s

    -- The same of either flavour. The reader is in a section of the log, in the quiescent-state flavour where it was
    -- before. An inner one leaves it what it holds.
    pub record BeginsSection (n : ℕ) : Type 0 where
      pub locks : s.locks ≡ n
      pub general : qsbr ≡ false → Enters
      pub quiescent : qsbr ≡ true → Local r s (r.depth + 1) × (r.word ≢ 0)
      pub deeper : s.depth ≡ r.depth + 1
      pub keeps : 0 < r.depth → KeepsHeld r s
      pub inside : (qsbr ≡ true → IsIn r) → IsIn s

    -- where an inner one ends, the reader stays in the section of the log in which it was, and holds what it held
    pub record EndsSection (n : ℕ) : Type 0 where
      pub locks : s.locks ≡ n
      pub general : qsbr ≡ false → Leaves
      pub quiescent : qsbr ≡ true → Local r s (r.depth - 1)
      pub shallower : s.depth ≡ r.depth - 1
      pub keeps : 1 < r.depth → KeepsHeld r s
      pub inside : 1 < r.depth → IsIn r → IsIn s

    -- a section does, which is not a lock
    abbrev pub ClosesSection : Type 0
    ClosesSection = EndsSection r.locks

    -- an offline reader goes online, which opens a section of the log
    pub record GoesOnline : Type 0 where
      pub same : (s.slot ≡ r.slot) × (s.depth ≡ r.depth) × (s.locks ≡ r.locks)
      pub was_offline : (qsbr ≡ true) × (r.word ≡ 0)
      pub online : s.word ≢ 0
      pub opened : OpensOutermost
      pub inside : IsIn s

    -- an online reader with no section announces: its section of the log closes, and the next one opens
    pub record Announces : Type 0 where
      pub same : (s.slot ≡ r.slot) × (s.depth ≡ r.depth) × (s.locks ≡ r.locks)
      pub was_online : (qsbr ≡ true) × (r.word ≢ 0) × (r.depth ≡ 0)
      pub online : s.word ≢ 0
      pub announced : Announced qsbr allows r.slot s.word r.seat.me s.seat.me × CopiedBefore qsbr allows r.slot s.word r.seat.me s.seat.me (announces qsbr r.slot (ordinal r) s.word)
      pub inside : IsIn s

    -- an online reader with no section goes offline, which closes its section of the log
    pub record GoesOffline : Type 0 where
      pub same : (s.slot ≡ r.slot) × (s.depth ≡ r.depth) × (s.locks ≡ r.locks)
      pub was_online : (qsbr ≡ true) × (r.word ≢ 0) × (r.depth ≡ 0)
      pub offline : s.word ≡ 0
      pub closed : Closed qsbr allows r.slot 0 r.seat.me s.seat.me

    -- all that was open has ended, by one step: an open section of the log closes, and an online reader of the
    -- quiescent-state flavour goes offline
    pub record EndsAll : Type 0 where
      pub slot : s.slot ≡ r.slot
      pub none_open : (s.depth ≡ 0) × (s.locks ≡ 0)
      pub offline : qsbr ≡ true → s.word ≡ 0
      pub closed : ¬ IsClosed qsbr r.word → Closed qsbr allows r.slot s.word r.seat.me s.seat.me
      pub same : IsClosed qsbr r.word → s ≡ r

  -- why a section or a lock is refused
  abbrev pub MayNotBegin : Bool → Refusal → ReaderCore P K g → Type 0
  MayNotBegin qsbr e r = ((e ≡ NotOpen) × (qsbr ≡ true) × (r.word ≡ 0)) ⊎ ((e ≡ NestFull) × (r.depth ≡ greatest_depth))

  -- one of both is so
  abbrev pub CannotOpen : Bool → ReaderCore P K g → Type 0
  CannotOpen qsbr r = ((qsbr ≡ true) × (r.word ≡ 0)) ⊎ (r.depth ≡ greatest_depth)

  -- why going online is refused
  abbrev pub MayNotGoOnline : Bool → Refusal → ReaderCore P K g → Type 0
  MayNotGoOnline qsbr e r = ((e ≡ WrongFlavour) × (qsbr ≡ false)) ⊎ ((e ≡ Busy) × (qsbr ≡ true) × (r.word ≢ 0))

  -- why an announcement is refused
  abbrev pub MayNotAnnounce : Bool → Refusal → ReaderCore P K g → Type 0
  MayNotAnnounce qsbr e r = ((e ≡ WrongFlavour) × (qsbr ≡ false)) ⊎ (((e ≡ NotOpen) × (qsbr ≡ true) × (r.word ≡ 0)) ⊎ ((e ≡ Busy) × (qsbr ≡ true) × (r.word ≢ 0) × (0 < r.depth)))

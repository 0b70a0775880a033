-- What a map tells of its chains, by the chain of its directory: that it grew, or why it was not tidied or resized.
use denote.RattleType.{RattleType}
use Rattle.std.specs.Prelude.{◌≡◌, ◌⊎◌, ◌+◌, ◌%◌, ◌++◌, ℕ, Bool, List}
use Rattle.rcu_model.specs.declared.refusal.Refusal.{Refusal}
use Rattle.rcu_model.specs.declared.refusal.Refusal.TheVariants.{Busy, Exhausted}
use Rattle.live_log.specs.declared.event.LiveEvent.{LiveEvent}
use Rattle.live_log.specs.Log.{Log, Begins, chain_note}
use Rattle.live_log.specs.Tables.{tabled}
use Rattle.rcu_hash.specs.live_read.Hearing.{MakesMany, Stays}
use Rattle.rcu_hash.specs.live_read.declared.caller.Caller.{Ghosts}
use Rattle.rcu_hash.specs.live_rule.declared.view.Look.{Look}
use Rattle.rcu_hash.specs.live_rule.declared.view.Sizes.{Sizes}
use Rattle.rcu_hash.specs.Calls.{IsGrown, IsNotGrown}
use Rattle.rcu_hash.specs.Freeing.{FreesAll, KeepsMany, KeepsNone}
use Rattle.rcu_hash.specs.Growing.{Grows, HasLeft}
use Rattle.rcu_hash.specs.Refusing.{During}
use Rattle.rcu_hash.specs.Tidying.{AreFreed, FindsEnd, Follow, IsRefused, Kind, callbacks_in, changes_in, cleared_in}
use Rattle.rcu_hash.specs.Writers.{Each}
use Rattle.rcu.specs.Reclaiming.{moved_code}

-- In the call, after all that the caller had heard of, the map grew: each key is led to its bucket among these chains,
-- and no event of the growth changed what a key has. The caller has heard of it.
pub record Grew (qsbr : Bool) (allows : Log → LiveEvent → Type 0) (chains d : ℕ) (seen heard : Log) (first buckets : ℕ) (new : Log) : Type 0 where
  pub start : Log
  pub entries : List (ℕ × ℕ)
  pub grown : Log
  pub after : Begins heard start
  pub grows : Grows qsbr allows chains d seen start first buckets entries grown
  pub before : Begins grown new

-- between these two moments of a caller
module _ {W S : Type 0} (w : Ghosts W S) (old new : W) where
  -- It has seen no more, and has heard of no less. All that was found and loaded for it before is still there.
  pub record HearsMore : Type 0 where
    pub same : w.seen new ≡ w.seen old
    pub later : Begins (w.heard old) (w.heard new)
    pub found : List Look
    pub looks : w.looks new ≡ found ++ w.looks old
    pub loaded : List Log
    pub loads : w.loads new ≡ loaded ++ w.loads old

-- by the sizes of the domain, and the type of the map's deleter
module _ {W S : Type 0} (w : Ghosts W S) (qsbr : Bool) (sizes : Sizes) (d : ℕ) (R : RattleType) (old new : W) where
  -- No change was made for the caller but the cuts and notes of tidyings. Each step of these left the map as it was, and
  -- each object that was cut is retired with the callback that does nothing. Each chain that lost its note was given
  -- back. Each record that was taken is free again.
  pub record OnlyMoves : Type 0 where
    pub hears : HearsMore w old new
    pub steps : List (Kind × Log)
    pub follow : Follow qsbr tabled sizes d (w.seen old) (w.heard old) steps (w.heard new)
    pub callbacks : Each (λ c. c ≡ moved_code R) (callbacks_in steps)
    pub made : MakesMany w old new (changes_in steps)
    pub freed : AreFreed sizes (cleared_in steps) hears.found
    pub kept : FreesAll sizes hears.found

  -- one of the map's queues: that of its directory's chain, or of a chain that had its note in a log of the call
  abbrev pub IsMapQueue : ℕ → Type 0
  IsMapQueue q = (q ≡ d % sizes.queues) ⊎ ((c : ℕ) × During w qsbr tabled old new (λ log. chain_note c log ≡ d + 1) × (q ≡ c % sizes.queues))

  -- The map is not tidied: the sequence number was found at its end, or one of its queues was closed. Or memory is
  -- named.
  abbrev pub IsNotTidied : Refusal → Type 0
  IsNotTidied e = ((e ≡ Exhausted) × FindsEnd w qsbr tabled old new) ⊎ IsRefused w new IsMapQueue e

-- and for this number of chains from the first one on
module _ {W S : Type 0} (w : Ghosts W S) (qsbr : Bool) (sizes : Sizes) (d : ℕ) (R : RattleType) (old new : W) (first buckets : ℕ) where
  -- the map grew
  abbrev pub GrewTo : Type 0
  GrewTo = Grew qsbr tabled sizes.chains d (w.seen old) (w.heard old) first buckets (w.heard new)

  -- nothing else was done but the steps of tidyings, before that and after; the growth took no record but those it told
  pub record IsResized : Type 0 where
    pub from : W
    pub to : W
    pub left : ℕ
    pub found : List Look
    pub before : OnlyMoves w qsbr sizes d R old from
    pub grown : IsGrown w qsbr sizes from to d first buckets left
    pub looks : w.looks to ≡ found ++ w.looks from
    pub took : KeepsMany sizes left found
    pub loads : w.loads to ≡ w.loads from
    pub after : OnlyMoves w qsbr sizes d R to new

  -- A growth was refused at the last of several tries, but not for what an earlier one left. It made no change, and
  -- keeps no record.
  pub record IsNotTaken (e : Refusal) : Type 0 where
    pub last : W
    pub moves : OnlyMoves w qsbr sizes d R old last
    pub hears : HearsMore w last new
    pub stays : Stays w last new
    pub keeps : KeepsNone sizes e hears.found
    pub refused : IsNotGrown w qsbr sizes last new d first buckets e
    pub known : ¬ (e ≡ Busy)

  -- or the map is not tidied, after it grew, or while something was left of an earlier growth
  abbrev pub IsNotResized : Refusal → Type 0
  IsNotResized e = IsNotTaken e ⊎ (IsNotTidied w qsbr sizes d R old new e × (IsResized ⊎ (OnlyMoves w qsbr sizes d R old new × During w qsbr tabled old new (HasLeft d))))

-- What a barrier tells.
use Rattle.std.specs.Prelude.{Bool, ◌≡◌, ℕ, List, ◌++◌, MatchBool}
use Rattle.live_log.specs.declared.event.LiveEvent.{LiveEvent}
use Rattle.live_log.specs.Log.{Log, Begins}
use Rattle.live_words.specs.live_rule.declared.view.Look.{Look}
use Rattle.live_words.specs.live_rule.declared.view.Sizes.{Sizes}
use Rattle.live_words.specs.live_rule.declared.view.View.{View}
use Rattle.live_read.specs.declared.caller.Caller.{Ghosts}
use Rattle.live_read.specs.Hearing.{IsAfter}
use Rattle.live_waits.specs.Barrier.{AreNoted, AreReached, HaveAllRun, HaveRunAsCounted, WasLess}

-- The barrier loaded how many each queue was given, before all else that it loaded, and as many of each queue have their
-- Run in what its caller hears of then. So has all that was queued in `asked`, a log that comes after all that the
-- caller had seen and heard of; which one it is, no clause names.
pub record Barred {W S : Type 0} (w : Ghosts W S) (qsbr : Bool) (allows : Log → LiveEvent → Type 0) (key : Sizes) (old new : W) : Type 0 where
  pub asked : Log
  pub after : Begins (w.seen old) asked
  pub after_heard : Begins (w.heard old) asked
  pub later : IsAfter qsbr allows (w.seen old) (w.heard old) (w.heard new)
  pub since : Begins asked (w.heard new)
  pub run : HaveAllRun asked (w.heard new)
  pub counts : List ℕ
  pub first_looks : List Look
  pub looks_since : List Look
  pub looked : w.looks new ≡ looks_since ++ (first_looks ++ w.looks old)
  pub noted : AreNoted key counts key.queues first_looks
  pub run_as_counted : HaveRunAsCounted key counts (w.heard new)

module _ {W S : Type 0} (w : Ghosts W S) (key : Sizes) (old new : W) where
  -- the seat of a mark has seen all that its maker had seen and heard of, and its maker hears of that
  abbrev pub IsMarked : View → Type 0
  IsMarked mark = Begins (w.seen old) mark.seen × Begins (w.heard old) mark.seen × Begins mark.seen (w.heard new) × (mark.sizes ≡ key)

  -- it was told by the finished counts whether each queue has reached its own
  abbrev pub IsReachedBy : List ℕ → Bool → Type 0
  IsReachedBy counts reached = (since : List Look) × (w.looks new ≡ since ++ w.looks old) × MatchBool reached (AreReached key counts key.queues since) (WasLess key counts since)

  -- a caller who had heard of the mark's log hears that all that was queued in it has its Run
  abbrev pub HearsOfRuns : View → Type 0
  HearsOfRuns mark = mark.sizes ≡ key → Begins mark.seen (w.heard old) → HaveAllRun mark.seen (w.heard new)

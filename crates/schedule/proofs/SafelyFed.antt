-- What a replay prints tells one safe log, however it ends.
use Rattle.schedule.proofs.Cited.{ℕ, ◌^◌, ◌<◌, List, [], ◌++◌, length, Option, Result, Ok, Err, OnOk, Counts, ReplayFault, BadText, BadConfig, Read, Write, Memory}
use Rattle.schedule.specs.Ports.{IsAnsweredSoFar, Closed, Replayed}
use Rattle.schedule.specs.Printed.{Prints, IsBeginning, Ends}
use Rattle.schedule.specs.Safety.{TellsSafeLog, BeginsSafely, IsSafelyPrinted, AppendsSafely}
use Rattle.schedule.specs.Stream.{Progress, LeadsTo, LeadsToEnd, IsSound}

abbrev pub EachTextIsSafe : Type 0
EachTextIsSafe = (text printed : List ℕ) (result : Result Counts ReplayFault) → length printed < 2 ^ 63 → Prints text printed result → TellsSafeLog printed

abbrev pub EachBeginningIsSafe : Type 0
EachBeginningIsSafe = (text printed : List ℕ) → length printed < 2 ^ 63 → IsBeginning text printed → BeginsSafely printed

abbrev pub EachAnsweredIsSafe : Type 0
EachAnsweredIsSafe = (text printed : List ℕ) → length printed < 2 ^ 63 → IsAnsweredSoFar text printed → TellsSafeLog printed

module _ (whole : EachTextIsSafe) (begun : EachBeginningIsSafe) (so_far : EachAnsweredIsSafe) where
  -- a fault is the same whatever would have come of the call
  fault_safe : (X : Type 0) (text printed : List ℕ) (fault : ReplayFault) → length printed < 2 ^ 63 → Ends text printed (Err fault) → IsSafelyPrinted {X = X} printed (Err fault)
  fault_safe X text printed (BadText line column) short e = whole text printed (Err (BadText line column)) short e
  fault_safe X text printed BadConfig short e = whole text printed (Err BadConfig) short e
  fault_safe X text printed Read short e = absurd e
  fault_safe X text printed Write short e = absurd e
  fault_safe X text printed Memory short e = begun text printed short e.0

  ends_safe : (text printed : List ℕ) (result : Result Counts ReplayFault) → length printed < 2 ^ 63 → Ends text printed result → IsSafelyPrinted printed result
  ends_safe text printed (Ok counts) short e = whole text printed (Ok counts) short e
  ends_safe text printed (Err fault) short e = fault_safe Counts text printed fault short e

  closed_safe : (text printed : List ℕ) (result : Result Counts ReplayFault) → length printed < 2 ^ 63 → Closed text printed result → IsSafelyPrinted printed result
  closed_safe text printed (Ok counts) short c = ends_safe text printed (Ok counts) short c
  closed_safe text printed (Err (BadText line column)) short c = fault_safe Counts text printed (BadText line column) short c
  closed_safe text printed (Err BadConfig) short c = fault_safe Counts text printed BadConfig short c
  closed_safe text printed (Err Read) short c = absurd c
  closed_safe text printed (Err Write) short c = begun text printed short c
  closed_safe text printed (Err Memory) short c = fault_safe Counts text printed Memory short c

  pub replayed_safe : (given left : Option (List ℕ)) (text printed : List ℕ) (result : Result Counts ReplayFault) → Replayed given left text printed result → length printed < 2 ^ 63 → IsSafelyPrinted printed result
  replayed_safe given left text printed (Ok counts) r short = closed_safe text printed (Ok counts) short r.1
  replayed_safe given left text printed (Err (BadText line column)) r short = closed_safe text printed (Err (BadText line column)) short r.1
  replayed_safe given left text printed (Err BadConfig) r short = closed_safe text printed (Err BadConfig) short r.1
  replayed_safe given left text printed (Err Read) r short = so_far text printed short r.1
  replayed_safe given left text printed (Err Write) r short = closed_safe text printed (Err Write) short r.1
  replayed_safe given left text printed (Err Memory) r short = closed_safe text printed (Err Memory) short r.1

  pub feeds_safe : (new : Progress) (fed earlier before after : List ℕ) (result : Result (Unit {0}) ReplayFault) → OnOk result (IsSound new) → LeadsTo result new fed earlier before after → AppendsSafely earlier before after result
  feeds_safe new fed earlier before after (Ok u) sound l = record {
    printed = l.printed;
    appends = l.appends;
    safe = λ short. so_far fed (earlier ++ l.printed) short (record { progress = new; sound = sound; stands = l.stands });
  }
  feeds_safe new fed earlier before after (Err fault) sound l = record {
    printed = l.printed;
    appends = l.appends;
    safe = λ short. fault_safe (Unit {0}) (fed ++ []) (earlier ++ l.printed) fault short (l.stands []);
  }

  pub finishes_safe : (fed earlier before after : List ℕ) (result : Result Counts ReplayFault) → LeadsToEnd fed earlier before after result → AppendsSafely earlier before after result
  finishes_safe fed earlier before after result l = record { printed = l.printed; appends = l.appends; safe = λ short. ends_safe fed (earlier ++ l.printed) result short l.ends }

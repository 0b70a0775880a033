-- Lines of answers, judged as they come.
use Rattle.judging.proofs.Cited.{◌≡◌, ℕ, List, [], ◌++◌, length, Result, Ok, Err, sym, ap, subst, ◌∙◌, append-nil, Event, Verdict, Yes, No, IsRun, HasTaken, Judges, AnswersFault, BadText, Memory, HasRead, Takes, EndsAnswers}
use Rattle.judging.specs.declared.judging.Judging.{Judging}
use Rattle.judging.specs.Judging.{HasJudged, JudgesOn, JudgesAlong, JudgedAs, IsRunSoFar, Ends, so_far}

-- a piece: its lines are read, and their events are taken
module _ (old new : Judging) (fed piece : List ℕ) (before events : List Event) (came : HasJudged old fed) (none : before ≡ [])
    (takes : (log : List Event) → HasTaken old.judge log → HasTaken new.judge (log ++ events)) where
  abbrev Reads : Result (Unit {0}) AnswersFault → Type 0
  Reads result = (text : List ℕ) (earlier : List Event) → HasRead old.answers text (earlier ++ before) → Takes new.answers (text ++ piece) (earlier ++ events) result

  read : HasRead old.answers fed (came.log ++ before)
  read = subst (HasRead old.answers fed) (sym (ap (λ (b : List Event). came.log ++ b) none ∙ append-nil came.log)) came.read

  pub judged_on : (result : Result (Unit {0}) AnswersFault) → Reads result → JudgesOn new (fed ++ piece) result
  judged_on (Ok u) reads = record { log = came.log ++ events; read = reads fed came.log read; taken = takes came.log came.taken }
  judged_on (Err (BadText line column)) reads = record { log = came.log ++ events; stops = reads fed came.log read; taken = takes came.log came.taken }
  judged_on (Err Memory) reads = tt

-- the end of the input
pub judged_end : (judging : Judging) (fed : List ℕ) (u : Unit {0}) (verdict : Verdict) (events : ℕ) → (j : HasJudged judging fed) → ((text : List ℕ) (log : List Event) → HasRead judging.answers text log → EndsAnswers text log (Ok u)) →
    ((log : List Event) → HasTaken judging.judge log → Judges verdict log) → ((log : List Event) → HasTaken judging.judge log → IsRun log → events ≡ length log) → JudgedAs fed j.log verdict events
judged_end judging fed u verdict events j ends judges counts = record {
  told = ends fed j.log j.read;
  judged = judges j.log j.taken;
  counted = λ yes. counts j.log j.taken (subst (λ v. Judges v j.log) yes (judges j.log j.taken));
}

pub judged_cut : (judging : Judging) (fed : List ℕ) (fault : AnswersFault) → (j : HasJudged judging fed) → ((text : List ℕ) (log : List Event) → HasRead judging.answers text log → EndsAnswers text log (Err fault)) → Ends fed j.log (Err fault)
judged_cut judging fed (BadText line column) j ends = ends fed j.log j.read
judged_cut judging fed Memory j ends = absurd (ends fed j.log j.read)

-- a piece of a text that is followed
pub judged_along : (judging : Judging) (fed : List ℕ) (result : Result (Unit {0}) AnswersFault) (verdict : Verdict) → JudgesOn judging fed result → ((log : List Event) → HasTaken judging.judge log → Judges verdict log) → JudgesAlong judging fed (so_far result verdict)
judged_along judging fed (Ok u) Yes j judges = (j, judges j.log j.taken)
judged_along judging fed (Ok u) (No at rule) j judges = record { log = j.log; rest = judging.answers.held.items; line = judging.answers.line; read = j.read.read; judged = judges j.log j.taken }
judged_along judging fed (Err (BadText line column)) Yes j judges = (j, judges j.log j.taken)
judged_along judging fed (Err (BadText line column)) (No at rule) j judges = record { log = j.log; rest = j.stops.rest; line = line; read = j.stops.read; judged = judges j.log j.taken }
judged_along judging fed (Err Memory) verdict j judges = tt

pub right_so_far : (judging : Judging) (fed : List ℕ) (j : HasJudged judging fed) → IsRun j.log → IsRunSoFar fed
right_so_far judging fed j run = record { log = j.log; rest = judging.answers.held.items; line = judging.answers.line; read = j.read.read; partial = j.read.partial; run = run }

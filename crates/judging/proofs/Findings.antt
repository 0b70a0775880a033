-- What is found of a text, as its pieces come.
use Rattle.judging.proofs.Cited.{◌≡◌, ℕ, List, [], ◌++◌, length, true, false, Result, Ok, Err, sym, subst, append_assoc, append-nil, Event, Verdict, IsRun, AnswersFault, BreaksOffAnswers, StopsAnswers, more_text}
use Rattle.rcu_judge.specs.declared.verdict.Verdict.TheVariants as verdicts
use Rattle.schedule_text.specs.declared.fault.AnswersFault.TheVariants as faults
use Rattle.judging.specs.declared.judging.Judging.{Judging}
use Rattle.judging.specs.declared.text_judge.Finding.{Finding}
use Rattle.judging.specs.declared.text_judge.Finding.TheVariants.{Yes, No, BadText, Memory}
use Rattle.judging.specs.Judging.{HasJudged, JudgesAlong, Ends}
use Rattle.judging.specs.Found.{IsFound, IsFoundAtEnd, Stands, finding_of, found_along, is_final}

-- a bad text stays one, whatever follows
more_stop : (text piece : List ℕ) (log : List Event) (line column : ℕ) → StopsAnswers text log line column → StopsAnswers (text ++ piece) log line column
more_stop text piece log line column s = record {
  rest = s.rest ++ piece;
  read = more_text text s.rest piece log line s.read;
  breaks = λ more. subst (λ (t : List ℕ). BreaksOffAnswers t line column) (sym (append_assoc text piece more)) (s.breaks (piece ++ more));
}

-- what is final stands, whatever follows
pub stands_on : (judging : Judging) (fed piece : List ℕ) (found : Finding) → is_final found ≡ true → Stands judging fed found → Stands judging (fed ++ piece) found
stands_on judging fed piece (Yes events) final s = absurd cc
stands_on judging fed piece (No at rule) final s = record { log = s.log; rest = s.rest ++ piece; line = s.line; read = more_text fed s.rest piece s.log s.line s.read; judged = s.judged }
stands_on judging fed piece (BadText line column) final s = record { log = s.log; stops = more_stop fed piece s.log line column s.stops; run = s.run }
stands_on judging fed piece Memory final s = tt

-- and nothing else stands: the text is judged on
pub still_judged : (judging : Judging) (fed : List ℕ) (found : Finding) → is_final found ≡ false → Stands judging fed found → HasJudged judging fed
still_judged judging fed (Yes events) goes s = s.judged
still_judged judging fed (No at rule) goes s = absurd cc
still_judged judging fed (BadText line column) goes s = absurd cc
still_judged judging fed Memory goes s = absurd cc

-- a piece
pub stands_along : (judging : Judging) (fed : List ℕ) (followed : Result Verdict AnswersFault) (events : ℕ) → JudgesAlong judging fed followed →
    ((text : List ℕ) (j : HasJudged judging text) → IsRun j.log → events ≡ length j.log) → Stands judging fed (found_along followed events)
stands_along judging fed (Ok verdicts.Yes) events along counts = record { judged = along.0; run = along.1; counted = counts fed along.0 along.1 }
stands_along judging fed (Ok (verdicts.No at rule)) events along counts = along
stands_along judging fed (Err (faults.BadText line column)) events along counts = record { log = along.0.log; stops = along.0.stops; run = along.1 }
stands_along judging fed (Err faults.Memory) events along counts = tt

-- what is told of the text so far
pub found_so_far : (judging : Judging) (fed : List ℕ) (found : Finding) → Stands judging fed found → IsFound fed found
found_so_far judging fed (Yes events) s = (record { log = s.judged.log; rest = judging.answers.held.items; line = judging.answers.line; read = s.judged.read.read; partial = s.judged.read.partial; run = s.run }, s.counted)
found_so_far judging fed (No at rule) s = s
found_so_far judging fed (BadText line column) s = s
found_so_far judging fed Memory s = tt

-- the end of the text
pub found_final : (judging : Judging) (fed : List ℕ) (found : Finding) → is_final found ≡ true → Stands judging fed found → IsFoundAtEnd fed found
found_final judging fed (Yes events) final s = absurd cc
found_final judging fed (No at rule) final s = s
found_final judging fed (BadText line column) final s =
    let breaks = subst (λ (t : List ℕ). BreaksOffAnswers t line column) (append-nil fed) (s.stops.breaks []) in
    record { log = s.log; breaks = record { rest = s.stops.rest; read = s.stops.read; breaks = breaks }; run = s.run }
found_final judging fed Memory final s = tt

pub found_whole : (judging : Judging) (fed : List ℕ) (found : Finding) (judged : Verdict × ℕ) → is_final found ≡ false → Stands judging fed found → ((text : List ℕ) (j : HasJudged judging text) → Ends text j.log (Ok judged)) → IsFoundAtEnd fed found
found_whole judging fed (Yes events) judged goes s ends = record { log = s.judged.log; told = (ends fed s.judged).told; run = s.run; counted = s.counted }
found_whole judging fed (No at rule) judged goes s ends = absurd cc
found_whole judging fed (BadText line column) judged goes s ends = absurd cc
found_whole judging fed Memory judged goes s ends = absurd cc

found_cut_off : (judging : Judging) (fed : List ℕ) (events : ℕ) (fault : AnswersFault) → Stands judging fed (Yes events) → ((text : List ℕ) (j : HasJudged judging text) → Ends text j.log (Err fault)) → IsFoundAtEnd fed (finding_of fault)
found_cut_off judging fed events (faults.BadText line column) s ends = record { log = s.judged.log; breaks = ends fed s.judged; run = s.run }
found_cut_off judging fed events faults.Memory s ends = tt

pub found_unended : (judging : Judging) (fed : List ℕ) (found : Finding) (fault : AnswersFault) → is_final found ≡ false → Stands judging fed found → ((text : List ℕ) (j : HasJudged judging text) → Ends text j.log (Err fault)) → IsFoundAtEnd fed (finding_of fault)
found_unended judging fed (Yes events) fault goes s ends = found_cut_off judging fed events fault s ends
found_unended judging fed (No at rule) fault goes s ends = absurd cc
found_unended judging fed (BadText line column) fault goes s ends = absurd cc
found_unended judging fed Memory fault goes s ends = absurd cc

-- the end wants no memory
pub unended_told : (judging : Judging) (fed : List ℕ) (found : Finding) (fault : AnswersFault) → is_final found ≡ false → Stands judging fed found → ((text : List ℕ) (j : HasJudged judging text) → Ends text j.log (Err fault)) → finding_of fault ≡ Memory → found ≡ Memory
unended_told judging fed found (faults.BadText line column) goes s ends is = absurd cc
unended_told judging fed found faults.Memory goes s ends is = absurd (ends fed (still_judged judging fed found goes s))

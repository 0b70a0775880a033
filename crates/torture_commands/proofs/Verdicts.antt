-- Verdicts whose lines are written, whole or in part.
use Rattle.torture_commands.proofs.Cited.{◌≡◌, ℕ, ◌≤◌, inl, inr, List, [], ◌++◌, length, Option, Ok, Err, Result, refl, sym, ap, subst, ◌∙◌, Appends, Consumes, IsAtEnd, append-nil, Event, Verdict, Yes, No, Rule, IsRun, IsFirstBreak, at_event, AnswersFault, replay_fault, ReplayFault, BadText, BadConfig, Read, Write, Memory, Tells, Writes, appends_none, consumes_more, tells_more, tells_all, more_text, Judging, HasJudged, JudgesOn, JudgesAlong, JudgedAs, IsJudgedSoFar, IsRunSoFar, Ends, right_so_far}
use Rattle.schedule_text.specs.declared.fault.AnswersFault.TheVariants as answers
use Rattle.torture_commands.specs.Checking.{verdict_line, Printed, Prints, TellsVerdict, Closed, Closes, Checked, Checks, EndsWrong, CheckedAlong, ChecksAlong}

-- the number of events is printed of runs alone
counted_line : (verdict : Verdict) (events n : ℕ) → (verdict ≡ Yes → events ≡ n) → verdict_line verdict events ≡ verdict_line verdict n
counted_line Yes events n e = ap (λ (k : ℕ). verdict_line Yes k) (e refl)
counted_line (No at rule) events n e = refl

-- the line is written, or a beginning of it
pub printed_whole : (before after : Option (List ℕ)) (line : List ℕ) (verdict : Verdict) (events : ℕ) → line ≡ verdict_line verdict events → Appends before after line → Prints verdict events before after (Ok verdict)
printed_whole before after line verdict events is w = record { printed = line; writes = w; line = (refl, is) }

pub printed_cut : (before after : Option (List ℕ)) (line : List ℕ) (verdict : Verdict) (events : ℕ) (fault : ReplayFault) → line ≡ verdict_line verdict events → Writes before after line (Err fault) → Prints verdict events before after (Err fault)
printed_cut before after line verdict events fault is w =
    let f = w.1.1 in
    record { printed = f.front; writes = f.writes; line = rw w.0 (w.1.0, sym f.parts ∙ is) }

pub printed_none : (before : Option (List ℕ)) (verdict : Verdict) (events : ℕ) → Prints verdict events before before (Err Memory)
printed_none before verdict events = record { printed = []; writes = appends_none before; line = refl }

-- the end of the input
pub closes_by : (fed : List ℕ) (log : List Event) (before after : Option (List ℕ)) (verdict : Verdict) (events : ℕ) (result : Result Verdict ReplayFault) → JudgedAs fed log verdict events → Prints verdict events before after result → Closes fed log before after result
closes_by fed log before after verdict events result j p = record { printed = p.printed; writes = p.writes; closed = by result p.line }
  where
    told : (line : List ℕ) → line ≡ verdict_line verdict events → TellsVerdict fed log verdict line
    told line is = record { told = j.told; judged = j.judged; line = is ∙ counted_line verdict events (length log) j.counted }

    by : (r : Result Verdict ReplayFault) → Printed verdict events p.printed r → Closed fed log p.printed r
    by (Ok said) is = subst (λ v. TellsVerdict fed log v p.printed) (sym is.0) (told p.printed is.1)
    by (Err (BadText line column)) is = absurd is
    by (Err BadConfig) is = absurd is
    by (Err Read) is = absurd is
    by (Err Write) is = (verdict, (is.0, told (p.printed ++ is.0) is.1))
    by (Err Memory) is = is

pub close_fault : (fed : List ℕ) (log : List Event) (before : Option (List ℕ)) (fault : AnswersFault) → Ends fed log (Err fault) → Closes fed log before before (Err (replay_fault fault))
close_fault fed log before (answers.BadText line column) e = record { printed = []; writes = appends_none before; closed = (e, refl) }
close_fault fed log before answers.Memory e = absurd e

-- a fault before anything was written
pub full : (given left before : Option (List ℕ)) → Checks given left before before (Err Memory)
full given left before = record { text = []; printed = []; writes = appends_none before; checked = refl }

pub unread : (given left before : Option (List ℕ)) (read : List ℕ) → Consumes given left read → Checks given left before before (Err Read)
unread given left before read c = record { text = read; printed = []; writes = appends_none before; checked = (c, refl) }

pub piece_fault : (given left before : Option (List ℕ)) (judging : Judging) (fed : List ℕ) (fault : AnswersFault) → Consumes given left fed → JudgesOn judging fed (Err fault) → Checks given left before before (Err (replay_fault fault))
piece_fault given left before judging fed (answers.BadText line column) c j =
    let t = tells_more given left fed c in
    record { text = fed ++ t.0; printed = []; writes = appends_none before; checked = (t.1, (j.stops.breaks t.0, refl)) }
piece_fault given left before judging fed answers.Memory c j = full given left before

-- the reader is at the end of the text
checked_by : (given left : Option (List ℕ)) (text : List ℕ) (log : List Event) (printed : List ℕ) (result : Result Verdict ReplayFault) → Tells given text → Closed text log printed result → Checked given left text printed result
checked_by given left text log printed (Ok verdict) t c = (t, (log, c))
checked_by given left text log printed (Err (BadText line column)) t c = (t, (c.0.breaks, c.1))
checked_by given left text log printed (Err Write) t c = (t, (c.0, (c.1.0, (log, c.1.1))))
checked_by given left text log printed (Err Read) t c = absurd c
checked_by given left text log printed (Err Memory) t c = c
checked_by given left text log printed (Err BadConfig) t c = absurd c

-- nothing is left to be read
pub read_whole : (given left end : Option (List ℕ)) (read : List ℕ) → Consumes given left read → Consumes left end [] → IsAtEnd end → Tells given read
read_whole given left end read reads none atend = tells_all given end read (subst (Consumes given end) (append-nil read) (consumes_more given left end read [] reads none)) atend

pub checks_end : (given left end before after : Option (List ℕ)) (read : List ℕ) (log : List Event) (result : Result Verdict ReplayFault) → Consumes given left read → Consumes left end [] → IsAtEnd end → Closes read log before after result → Checks given end before after result
checks_end given left end before after read log result reads none atend c = record {
  text = read;
  printed = c.printed;
  writes = c.writes;
  checked = checked_by given end read log c.printed result (read_whole given left end read reads none atend) c.closed;
}

-- ---- a text that is followed

-- a run has no first break
no_break : (log : List Event) (at : ℕ) (rule : Rule) → IsRun log → IsFirstBreak log at rule → ⊥
no_break log at rule run b = b.breaks (at_event log b.before b.later b.event run b.split).1

-- the reader is at the end of a text whose events are a run
along_by : (given left : Option (List ℕ)) (text : List ℕ) (judging : Judging) (j : HasJudged judging text) (printed : List ℕ) (result : Result Verdict ReplayFault) → IsRun j.log → Tells given text → Closed text j.log printed result → CheckedAlong given left text printed result
along_by given left text judging j printed (Ok Yes) run t c = (t, (j.log, c))
along_by given left text judging j printed (Ok (No at rule)) run t c = absurd (no_break j.log at rule run c.judged)
along_by given left text judging j printed (Err (BadText line column)) run t c = (t, (record { log = j.log; breaks = c.0; run = run }, c.1))
along_by given left text judging j printed (Err Write) run t c = inl (t, (c.0, (c.1.0, (j.log, c.1.1))))
along_by given left text judging j printed (Err Read) run t c = absurd c
along_by given left text judging j printed (Err Memory) run t c = c
along_by given left text judging j printed (Err BadConfig) run t c = absurd c

pub along_end : (given left end before after : Option (List ℕ)) (judging : Judging) (read : List ℕ) (j : HasJudged judging read) (result : Result Verdict ReplayFault) → IsRun j.log → Consumes given left read → Consumes left end [] → IsAtEnd end → Closes read j.log before after result → ChecksAlong given end before after result
along_end given left end before after judging read j result run reads none atend c = record {
  text = read;
  printed = c.printed;
  writes = c.writes;
  checked = along_by given end read judging j c.printed result run (read_whole given left end read reads none atend) c.closed;
}

-- a wrong event is told
pub along_wrong : (given left before after : Option (List ℕ)) (earlier piece : List ℕ) (at : ℕ) (rule : Rule) (result : Result Verdict ReplayFault) → Consumes given left (earlier ++ piece) → length piece ≤ 4096 → IsRunSoFar earlier → IsJudgedSoFar (earlier ++ piece) (No at rule) → Prints (No at rule) 0 before after result → ChecksAlong given left before after result
along_wrong given left before after earlier piece at rule result reads short right wrong p = record { text = earlier ++ piece; printed = p.printed; writes = p.writes; checked = by result p.line }
  where
    ends : (line : List ℕ) → line ≡ verdict_line (No at rule) 0 → EndsWrong (earlier ++ piece) (No at rule) line
    ends line is = record { earlier = earlier; piece = piece; parts = refl; short = short; right = right; wrong = wrong; line = is }

    told : (said : Verdict) → said ≡ No at rule → EndsWrong (earlier ++ piece) said p.printed → CheckedAlong given left (earlier ++ piece) p.printed (Ok said)
    told Yes is e = absurd cc
    told (No n r) is e = (reads, e)

    by : (r : Result Verdict ReplayFault) → Printed (No at rule) 0 p.printed r → CheckedAlong given left (earlier ++ piece) p.printed r
    by (Ok said) is = told said is.0 (subst (λ v. EndsWrong (earlier ++ piece) v p.printed) (sym is.0) (ends p.printed is.1))
    by (Err (BadText line column)) is = absurd is
    by (Err BadConfig) is = absurd is
    by (Err Read) is = absurd is
    by (Err Write) is = inr (reads, (at, (rule, (is.0, ends (p.printed ++ is.0) is.1))))
    by (Err Memory) is = is

-- a fault before anything was written
pub along_unread : (given left before : Option (List ℕ)) (judging : Judging) (read : List ℕ) (j : HasJudged judging read) → IsRun j.log → Consumes given left read → ChecksAlong given left before before (Err Read)
along_unread given left before judging read j run c = record { text = read; printed = []; writes = appends_none before; checked = (c, (right_so_far judging read j run, refl)) }

pub along_fault : (given left before : Option (List ℕ)) (judging : Judging) (fed : List ℕ) (fault : AnswersFault) → Consumes given left fed → JudgesAlong judging fed (Err fault) → ChecksAlong given left before before (Err (replay_fault fault))
along_fault given left before judging fed (answers.BadText line column) c j =
    let t = tells_more given left fed c in
    let s = j.0.stops in
    record {
      text = fed ++ t.0;
      printed = [];
      writes = appends_none before;
      checked = (t.1, (record { log = j.0.log; breaks = record { rest = s.rest ++ t.0; read = more_text fed s.rest t.0 j.0.log line s.read; breaks = s.breaks t.0 }; run = j.1 }, refl));
    }
along_fault given left before judging fed answers.Memory c j = record { text = []; printed = []; writes = appends_none before; checked = refl }

pub along_no : (given left before after : Option (List ℕ)) (judging : Judging) (earlier piece : List ℕ) (verdict : Verdict) (at : ℕ) (rule : Rule) (result : Result Verdict ReplayFault) → verdict ≡ No at rule → Consumes given left (earlier ++ piece) → length piece ≤ 4096 → IsRunSoFar earlier → JudgesAlong judging (earlier ++ piece) (Ok verdict) → Prints verdict 0 before after result → ChecksAlong given left before after result
along_no given left before after judging earlier piece verdict at rule result is reads short right j p =
    along_wrong given left before after earlier piece at rule result reads short right
    (subst (λ (v : Verdict). JudgesAlong judging (earlier ++ piece) (Ok v)) is j)
    (subst (λ (v : Verdict). Prints v 0 before after result) is p)

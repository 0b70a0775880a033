-- What is written of what a replay gives.
use Rattle.schedule.proofs.Cited.{◌≡◌, ℕ, ◌^◌, ◌<◌, List, [], ◌++◌, length, Option, Result, Ok, Err, sym, ap, subst, ◌∙◌, append_assoc, OnOk, Appends, Consumes, Keeps, IsAtEnd, append-nil, Counts, ReplayFault, BadText, BadConfig, Read, Write, Memory}
use Rattle.schedule.specs.Printed.{Prints, IsBeginning, Ends}
use Rattle.schedule.specs.Safety.{IsSafelyPrinted}
use Rattle.schedule.specs.Stream.{Progress, Header, Lines, Failed, Stands, LeadsTo, LeadsToEnd, IsSound}
use Rattle.schedule.specs.Ports.{Tells, Writes, Passed, PassesOn, Closed, ClosesWith, Replayed, Replays, Replaying}
use Rattle.schedule.proofs.Standing.{mid_begins, mid_answered}
use Rattle.schedule.proofs.Once.{begins}
use Rattle.schedule.proofs.KnownBytes.{appends_more, consumes_kept, consumes_more, tells_more, tells_all}

-- ---- beginnings

prints_begins : (text printed : List ℕ) (result : Result Counts ReplayFault) → Prints text printed result → IsBeginning text printed
prints_begins text printed result p = ([], result, subst (λ (t : List ℕ). Prints text t result) (sym (append-nil printed)) p)

pub ends_begins : (text printed : List ℕ) (result : Result Counts ReplayFault) → Ends text printed result → IsBeginning text printed
ends_begins text printed (Ok counts) e = prints_begins text printed (Ok counts) e
ends_begins text printed (Err (BadText line column)) e = prints_begins text printed (Err (BadText line column)) e
ends_begins text printed (Err BadConfig) e = prints_begins text printed (Err BadConfig) e
ends_begins text printed (Err Read) e = absurd e
ends_begins text printed (Err Write) e = absurd e
ends_begins text printed (Err Memory) e = e.0

begins_shorter : (text earlier front rest : List ℕ) → IsBeginning text (earlier ++ (front ++ rest)) → IsBeginning text (earlier ++ front)
begins_shorter text earlier front rest b =
    (rest ++ b.0, b.1, subst (λ (t : List ℕ). Prints text t b.1) (ap (λ (t : List ℕ). t ++ b.0) (sym (append_assoc earlier front rest)) ∙ append_assoc (earlier ++ front) rest b.0) b.2)

stands_begins : (p : Progress) (fed printed more : List ℕ) → Stands p fed printed → IsBeginning (fed ++ more) printed
stands_begins (Header held) fed printed more s = subst (IsBeginning (fed ++ more)) (sym s.2) (begins (fed ++ more))
stands_begins (Lines w n held) fed printed more s = mid_begins w n (held ++ more) (fed ++ more) printed (mid_answered w n held fed printed more s)
stands_begins (Failed fault) fed printed more s = ends_begins (fed ++ more) printed (Err fault) (s more)

leads_begins : (new : Progress) (fed earlier after more : List ℕ) (result : Result (Unit {0}) ReplayFault) → LeadsTo result new fed earlier [] after → IsBeginning (fed ++ more) (earlier ++ after)
leads_begins new fed earlier after more (Ok u) l = subst (λ (t : List ℕ). IsBeginning (fed ++ more) (earlier ++ t)) (sym l.appends) (stands_begins new fed (earlier ++ l.printed) more l.stands)
leads_begins new fed earlier after more (Err fault) l = subst (λ (t : List ℕ). IsBeginning (fed ++ more) (earlier ++ t)) (sym l.appends) (stands_begins (Failed fault) fed (earlier ++ l.printed) more l.stands)

-- ---- a piece

pub pass_cut : (new : Progress) (fed earlier out : List ℕ) (before after : Option (List ℕ)) (result : Result (Unit {0}) ReplayFault) (fault : ReplayFault) → LeadsTo result new fed earlier [] out → Writes before after out (Err fault) → PassesOn new fed earlier before after (Err fault)
pass_cut new fed earlier out before after result fault l w =
    let f = w.1.1 in
    record {
      printed = f.front;
      writes = f.writes;
      passed = rw w.0 (λ more. begins_shorter (fed ++ more) earlier f.front w.1.0 (subst (λ (t : List ℕ). IsBeginning (fed ++ more) (earlier ++ t)) f.parts (leads_begins new fed earlier out more result l)));
    }

failed_passed : (new : Progress) (fault : ReplayFault) (fed printed : List ℕ) → Stands (Failed fault) fed printed → Passed new fed printed (Err fault)
failed_passed new (BadText line column) fed printed s = s
failed_passed new BadConfig fed printed s = s
failed_passed new Read fed printed s = s
failed_passed new Write fed printed s = λ more. absurd (s more)
failed_passed new Memory fed printed s = s

pub pass_whole : (new : Progress) (fed earlier out : List ℕ) (before after : Option (List ℕ)) (result : Result (Unit {0}) ReplayFault) → LeadsTo result new fed earlier [] out → OnOk result (IsSound new) → Appends before after out → PassesOn new fed earlier before after result
pass_whole new fed earlier out before after (Ok u) l sound w = record { printed = l.printed; writes = subst (Appends before after) l.appends w; passed = (l.stands, sound) }
pass_whole new fed earlier out before after (Err fault) l sound w = record { printed = l.printed; writes = subst (Appends before after) l.appends w; passed = failed_passed new fault fed (earlier ++ l.printed) l.stands }

-- ---- the end

pub close_cut : (fed earlier out : List ℕ) (before after : Option (List ℕ)) (result : Result Counts ReplayFault) (fault : ReplayFault) → LeadsToEnd fed earlier [] out result → Writes before after out (Err fault) → ClosesWith fed earlier before after (Err fault)
close_cut fed earlier out before after result fault l w =
    let f = w.1.1 in
    record {
      printed = f.front;
      writes = f.writes;
      closed = rw w.0 (begins_shorter fed earlier f.front w.1.0 (subst (λ (t : List ℕ). IsBeginning fed (earlier ++ t)) (sym l.appends ∙ f.parts) (ends_begins fed (earlier ++ l.printed) result l.ends)));
    }

closed_by : (text printed : List ℕ) (result : Result Counts ReplayFault) → Ends text printed result → Closed text printed result
closed_by text printed (Ok counts) e = e
closed_by text printed (Err (BadText line column)) e = e
closed_by text printed (Err BadConfig) e = e
closed_by text printed (Err Read) e = e
closed_by text printed (Err Write) e = absurd e
closed_by text printed (Err Memory) e = e

pub close_whole : (fed earlier out : List ℕ) (before after : Option (List ℕ)) (result : Result Counts ReplayFault) → LeadsToEnd fed earlier [] out result → Appends before after out → ClosesWith fed earlier before after result
close_whole fed earlier out before after result l w = record { printed = l.printed; writes = subst (Appends before after) l.appends w; closed = closed_by fed (earlier ++ l.printed) result l.ends }

-- ---- the whole

abbrev pub EachIsSafe : Type 0
EachIsSafe = (given left : Option (List ℕ)) (text printed : List ℕ) (result : Result Counts ReplayFault) → Replayed given left text printed result → length printed < 2 ^ 63 → IsSafelyPrinted printed result

replayed_by : (given left : Option (List ℕ)) (text printed : List ℕ) (result : Result Counts ReplayFault) → Tells given text → Closed text printed result → Replayed given left text printed result
replayed_by given left text printed (Ok counts) t c = (t, c)
replayed_by given left text printed (Err (BadText line column)) t c = (t, c)
replayed_by given left text printed (Err BadConfig) t c = (t, c)
replayed_by given left text printed (Err Read) t c = absurd c
replayed_by given left text printed (Err Write) t c = (t, c)
replayed_by given left text printed (Err Memory) t c = (t, c)

-- a read at the end of the text
pub replays_end : EachIsSafe → (given left end before now after : Option (List ℕ)) (progress : Progress) (result : Result Counts ReplayFault) → Replaying given left before now progress → Consumes left end [] → IsAtEnd end → ((fed earlier : List ℕ) → Stands progress fed earlier → ClosesWith fed earlier now after result) → Replays given end before after result
replays_end law given left end before now after progress result r reads atend closes =
    let c = closes r.read r.printed r.stands in
    let replayed = replayed_by given end r.read (r.printed ++ c.printed) result (tells_all given end r.read (subst (Consumes given end) (append-nil r.read) (consumes_more given left end r.read [] r.reads reads)) atend) c.closed in
    record {
      text = r.read;
      printed = r.printed ++ c.printed;
      writes = appends_more before now after r.printed c.printed r.writes c.writes;
      replayed = replayed;
      safe = law given end r.read (r.printed ++ c.printed) result replayed;
    }

passed_closed : (new : Progress) (fed printed more : List ℕ) (fault : ReplayFault) → Passed new fed printed (Err fault) → Closed (fed ++ more) printed (Err fault)
passed_closed new fed printed more (BadText line column) p = p more
passed_closed new fed printed more BadConfig p = p more
passed_closed new fed printed more Read p = p more
passed_closed new fed printed more Write p = p more
passed_closed new fed printed more Memory p = p more

-- a fault in a piece
pub replays_fault : EachIsSafe → (given left then before now after : Option (List ℕ)) (old new : Progress) (piece : List ℕ) (fault : ReplayFault) → Replaying given left before now old → Consumes left then piece → ((fed earlier : List ℕ) → Stands old fed earlier → PassesOn new (fed ++ piece) earlier now after (Err fault)) → Replays given then before after (Err fault)
replays_fault law given left then before now after old new piece fault r reads passes =
    let p = passes r.read r.printed r.stands in
    let more = tells_more given then (r.read ++ piece) (consumes_more given left then r.read piece r.reads reads) in
    let replayed = replayed_by given then ((r.read ++ piece) ++ more.0) (r.printed ++ p.printed) (Err fault) more.1 (passed_closed new (r.read ++ piece) (r.printed ++ p.printed) more.0 fault p.passed) in
    record {
      text = (r.read ++ piece) ++ more.0;
      printed = r.printed ++ p.printed;
      writes = appends_more before now after r.printed p.printed r.writes p.writes;
      replayed = replayed;
      safe = law given then ((r.read ++ piece) ++ more.0) (r.printed ++ p.printed) (Err fault) replayed;
    }

-- a fault of the reader
pub replays_read : EachIsSafe → (given left then before now : Option (List ℕ)) (progress : Progress) → Replaying given left before now progress → Keeps left then → Replays given then before now (Err Read)
replays_read law given left then before now progress r keeps =
    let replayed : Replayed given then r.read r.printed (Err Read) = (consumes_kept given left then r.read r.reads keeps, record { progress = progress; sound = r.sound; stands = r.stands }) in
    record { text = r.read; printed = r.printed; writes = r.writes; replayed = replayed; safe = law given then r.read r.printed (Err Read) replayed }

-- a piece more
pub replaying_more : (given left then before now after : Option (List ℕ)) (old new : Progress) (piece : List ℕ) (result : Result (Unit {0}) ReplayFault) (u : Unit {0}) → result ≡ Ok u → Replaying given left before now old → Consumes left then piece → ((fed earlier : List ℕ) → Stands old fed earlier → PassesOn new (fed ++ piece) earlier now after (Ok u)) → Replaying given then before after new
replaying_more given left then before now after old new piece result u e r reads passes =
    let p = passes r.read r.printed r.stands in
    record {
      read = r.read ++ piece;
      printed = r.printed ++ p.printed;
      reads = consumes_more given left then r.read piece r.reads reads;
      writes = appends_more before now after r.printed p.printed r.writes p.writes;
      stands = p.passed.0;
      sound = p.passed.1;
    }

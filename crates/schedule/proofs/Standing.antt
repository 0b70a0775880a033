-- Where a replay stands after more text, and that each text prints something.
use Rattle.schedule.proofs.Cited.{◌≡◌, ℕ, zero, suc, ◌+◌, ◌-◌, ◌^◌, ◌<◌, ◌≤◌, Bool, true, false, List, [], ◌∷◌, ◌++◌, length, Result, Ok, Err, refl, sym, ap, subst, ◌∙◌, append_assoc, arith, inl, inr, ◌⊎◌, min, All, IsTrue, append-nil, length-append, All-nil, All-cons, All-head, All-tail, Config, Line, WorldView, fresh_world, is_supported, log_of, world_after_lines, ReplayFault, BadText, BadConfig, Read, Write, Memory, Counts, spelling, IsLine, LineText, IsLineText, lines_text, header, HeaderText, IsHeaderText, BeginsWithinLimits, line_at, header_at, counts_of, end_line, line_after, IsBad, result_cases, bad_within, line_reads, no_line, header_reads, err_more, partial_reads, reads_partial, bad_byte, bad_end, some_read}
use Rattle.schedule.specs.Printed.{answers_of, IsSchedule, OutOfLimits, Prints, IsBeginning, Ends}
use Rattle.schedule.specs.Play.{point, number_on, Plays, PlaysAll, EndsLines}
use Rattle.schedule.specs.Stream.{Progress, Header, Lines, Failed, Stands, Leads, LeadsTo, LeadsToEnd}
use Rattle.schedule.proofs.Playing.{after_append, answers_append}

-- a header and lines were taken from the text, and this is left
pub record Mid (world : WorldView) (line : ℕ) (left text printed : List ℕ) : Type 0 where
  pub config : Config
  pub lines : List Line
  pub schedule : IsSchedule config lines
  pub parts : text ≡ header config ++ (lines_text lines ++ left)
  pub now : world ≡ world_after_lines (fresh_world config) lines
  pub number : line ≡ line_after (length lines)
  pub answers : printed ≡ answers_of (fresh_world config) lines

pub lines_append : (ls ms : List Line) → lines_text (ls ++ ms) ≡ lines_text ls ++ lines_text ms
lines_append [] ms = refl
lines_append (l ∷ ls) ms = ap (λ (t : List ℕ). spelling l ++ t) (lines_append ls ms) ∙ sym (append_assoc (spelling l) (lines_text ls) (lines_text ms))

pub each_append : (ls ms : List Line) → All IsLine ls → All IsLine ms → All IsLine (ls ++ ms)
each_append [] ms a b = b
each_append (l ∷ ls) ms a b = All-cons IsLine l (ls ++ ms) (All-head IsLine l ls a) (each_append ls ms (All-tail IsLine l ls a) b)

number_after : (a k : ℕ) → number_on (line_after a) k ≡ line_after (a + k)
number_after a zero = ap line_after (omega arith)
number_after a (suc k) =
    let e : min (line_after a + 1) (2 ^ 64 - 1) ≡ line_after (a + 1) = omega arith in
    ap (λ (n : ℕ). number_on n k) e ∙ number_after (a + 1) k ∙ ap line_after (omega arith)

-- ---- lines more

pub record Played (world : WorldView) (line : ℕ) (left text earlier before after : List ℕ) : Type 0 where
  pub printed : List ℕ
  pub appends : after ≡ before ++ printed
  pub mid : Mid world line left text (earlier ++ printed)

pub mid_plays : (w v : WorldView) (m n : ℕ) (left rest text earlier before after : List ℕ) → Mid w m left text earlier → Plays (point w m left before) (point v n rest after) → Played v n rest text earlier before after
mid_plays w v m n left rest text earlier before after mid p = record {
  printed = answers_of w p.lines;
  appends = p.printed;
  mid = record {
    config = mid.config;
    lines = mid.lines ++ p.lines;
    schedule = record { header = mid.schedule.header; supported = mid.schedule.supported; each = each_append mid.lines p.lines mid.schedule.each p.each };
    parts = mid.parts ∙ ap (λ (t : List ℕ). header mid.config ++ (lines_text mid.lines ++ t)) p.text
        ∙ ap (λ (t : List ℕ). header mid.config ++ t) (sym (append_assoc (lines_text mid.lines) (lines_text p.lines) rest) ∙ ap (λ (t : List ℕ). t ++ rest) (sym (lines_append mid.lines p.lines)));
    now = p.world ∙ ap (λ (u : WorldView). world_after_lines u p.lines) mid.now ∙ sym (after_append (fresh_world mid.config) mid.lines p.lines);
    number = p.line ∙ ap (λ (k : ℕ). number_on k (length p.lines)) mid.number ∙ number_after (length mid.lines) (length p.lines) ∙ ap line_after (sym (length-append mid.lines p.lines));
    answers = ap (λ (t : List ℕ). t ++ answers_of w p.lines) mid.answers ∙ ap (λ (u : WorldView). answers_of (fresh_world mid.config) mid.lines ++ answers_of u p.lines) mid.now ∙ sym (answers_append (fresh_world mid.config) mid.lines p.lines);
  };
}

pub mid_more : (w : WorldView) (n : ℕ) (left text printed more : List ℕ) → Mid w n left text printed → Mid w n (left ++ more) (text ++ more) printed
mid_more w n left text printed more mid = record {
  config = mid.config;
  lines = mid.lines;
  schedule = mid.schedule;
  parts = ap (λ (t : List ℕ). t ++ more) mid.parts ∙ append_assoc (header mid.config) (lines_text mid.lines ++ left) more ∙ ap (λ (t : List ℕ). header mid.config ++ t) (append_assoc (lines_text mid.lines) left more);
  now = mid.now;
  number = mid.number;
  answers = mid.answers;
}

-- ---- each text prints something

pub record Cut (text : List ℕ) : Type 0 where
  pub lines : List Line
  pub each : All IsLine lines
  pub rest : List ℕ
  pub parts : text ≡ lines_text lines ++ rest
  pub tail : (rest ≡ []) ⊎ ((column : ℕ) × (0 < length rest) × IsBad IsLineText rest column)

pub column_at : (bad text : List ℕ) → length bad ≤ length text → (column : ℕ) × (column + length bad ≡ length text + 1)
column_at bad text le = (length text + 1 - length bad, omega (arith, le))

cut_bad : (b : ℕ) (text bad : List ℕ) → line_at (b ∷ text) ≡ Err bad → Cut (b ∷ text)
cut_bad b text [] e = record { lines = []; each = All-nil IsLine; rest = b ∷ text; parts = refl; tail = inr (length (b ∷ text) + 1, omega arith, bad_end LineText line_at line_reads (b ∷ text) e) }
cut_bad b text (c ∷ more) e =
    let at = column_at (c ∷ more) (b ∷ text) (bad_within LineText line_at line_reads (b ∷ text) (c ∷ more) e) in
    record { lines = []; each = All-nil IsLine; rest = b ∷ text; parts = refl; tail = inr (at.0, omega arith, bad_byte LineText line_at line_reads (b ∷ text) c more at.0 e at.1) }

cut : (fuel : ℕ) (text : List ℕ) → length text ≤ fuel → Cut text
cut fuel [] le = record { lines = []; each = All-nil IsLine; rest = []; parts = refl; tail = inl refl }
cut zero (b ∷ text) le = absurd (omega arith)
cut (suc fuel) (b ∷ text) le =
    elim (result_cases (line_at (b ∷ text))) [
      | inl p ↦
          let f = line_reads.found (b ∷ text) p.0.0 p.0.1 p.1 in
          let shorter = some_read LineText line_at line_reads no_line (b ∷ text) p.0.0 p.0.1 p.1 in
          let c = cut fuel p.0.1 (omega (arith, shorter, le)) in
          record {
            lines = p.0.0 ∷ c.lines;
            each = All-cons IsLine p.0.0 c.lines f.spelled.0 c.each;
            rest = c.rest;
            parts = f.parts ∙ ap (λ (t : List ℕ). f.front ++ t) c.parts ∙ ap (λ (t : List ℕ). t ++ (lines_text c.lines ++ c.rest)) f.spelled.1 ∙ sym (append_assoc (spelling p.0.0) (lines_text c.lines) c.rest);
            tail = c.tail;
          }
      | inr p ↦ cut_bad b text p.0 p.1
    ]

-- what is left decides the rest
mid_prints : (w : WorldView) (n : ℕ) (left text printed : List ℕ) → Mid w n left text printed → Cut left → IsBeginning text printed
mid_prints w n left text printed mid c =
    let lines = mid.lines ++ c.lines in
    let fresh = fresh_world mid.config in
    let schedule : IsSchedule mid.config lines = record { header = mid.schedule.header; supported = mid.schedule.supported; each = each_append mid.lines c.lines mid.schedule.each c.each } in
    let parts : text ≡ header mid.config ++ (lines_text lines ++ c.rest) =
    mid.parts ∙ ap (λ (t : List ℕ). header mid.config ++ (lines_text mid.lines ++ t)) c.parts
    ∙ ap (λ (t : List ℕ). header mid.config ++ t) (sym (append_assoc (lines_text mid.lines) (lines_text c.lines) c.rest) ∙ ap (λ (t : List ℕ). t ++ c.rest) (sym (lines_append mid.lines c.lines))) in
    let answers : printed ++ answers_of w c.lines ≡ answers_of fresh lines =
    ap (λ (t : List ℕ). t ++ answers_of w c.lines) mid.answers ∙ ap (λ (u : WorldView). answers_of fresh mid.lines ++ answers_of u c.lines) mid.now ∙ sym (answers_append fresh mid.lines c.lines) in
    let counts = counts_of (log_of (world_after_lines fresh lines)) in
    elim c.tail [
      | inl nil ↦ (
        answers_of w c.lines ++ end_line counts,
        Ok counts,
        record {
          config = mid.config;
          lines = lines;
          schedule = schedule;
          whole = parts ∙ ap (λ (t : List ℕ). header mid.config ++ (lines_text lines ++ t)) nil ∙ ap (λ (t : List ℕ). header mid.config ++ t) (append-nil (lines_text lines));
          counted = refl;
          answers = sym (append_assoc printed (answers_of w c.lines) (end_line counts)) ∙ ap (λ (t : List ℕ). t ++ end_line counts) answers;
        },
      )
      | inr bad ↦ (
        answers_of w c.lines,
        Err (BadText (line_after (length lines)) bad.0),
        inr record { config = mid.config; lines = lines; schedule = schedule; rest = c.rest; some = bad.1; whole = parts; bad = bad.2; number = refl; answers = answers },
      )
    ]

pub mid_begins : (w : WorldView) (n : ℕ) (left text printed : List ℕ) → Mid w n left text printed → IsBeginning text printed
mid_begins w n left text printed mid = mid_prints w n left text printed mid (cut (length left) left (omega arith))

pub mid_makes : (w : WorldView) (n : ℕ) (left text printed : List ℕ) → Mid w n left text printed → BeginsWithinLimits text
mid_makes w n left text printed mid = (mid.config, lines_text mid.lines ++ left, record { is_header = mid.schedule.header; within = mid.schedule.supported; parts = mid.parts })

-- ---- where a replay stands

pub stands_answered : (w : WorldView) (n : ℕ) (left text printed : List ℕ) → Mid w n left text printed → line_at left ≡ Err [] → Stands (Lines w n left) text printed
stands_answered w n left text printed mid e = record {
  config = mid.config;
  lines = mid.lines;
  schedule = mid.schedule;
  parts = mid.parts;
  partial = reads_partial LineText line_at line_reads left e;
  now = mid.now;
  number = mid.number;
  answers = mid.answers;
}

mid_at : (w : WorldView) (n : ℕ) (held text printed : List ℕ) → Stands (Lines w n held) text printed → Mid w n held text printed
mid_at w n held text printed s = record { config = s.config; lines = s.lines; schedule = s.schedule; parts = s.parts; now = s.now; number = s.number; answers = s.answers }

pub mid_answered : (w : WorldView) (n : ℕ) (held text printed piece : List ℕ) → Stands (Lines w n held) text printed → Mid w n (held ++ piece) (text ++ piece) printed
mid_answered w n held text printed piece s = mid_more w n held text printed piece (mid_at w n held text printed s)

pub answered_reads : (w : WorldView) (n : ℕ) (held text printed : List ℕ) → Stands (Lines w n held) text printed → line_at held ≡ Err []
answered_reads w n held text printed s = partial_reads LineText line_at line_reads held s.partial

pub stands_bad : (w : WorldView) (n : ℕ) (left text printed : List ℕ) (b : ℕ) (bs : List ℕ) (column : ℕ) → Mid w n left text printed → line_at left ≡ Err (b ∷ bs) → column + length (b ∷ bs) ≡ length left + 1 → Stands (Failed (BadText n column)) text printed
stands_bad w n left text printed b bs column mid e place = λ more.
    let m = mid_more w n left text printed more mid in
    let long = length-append left more in
    let longer = length-append bs more in
    let far = bad_within LineText line_at line_reads left (b ∷ bs) e in
    inr record {
      config = m.config;
      lines = m.lines;
      schedule = m.schedule;
      rest = left ++ more;
      some = omega (arith, long, far);
      whole = m.parts;
      bad = bad_byte LineText line_at line_reads (left ++ more) b (bs ++ more) column (err_more LineText line_at line_reads left b bs more e) (omega (arith, long, longer, place));
      number = m.number;
      answers = m.answers;
    }

pub stands_full : (w : WorldView) (n : ℕ) (left text printed : List ℕ) → Mid w n left text printed → Stands (Failed Memory) text printed
stands_full w n left text printed mid = λ more.
    let m = mid_more w n left text printed more mid in
    (mid_begins w n (left ++ more) (text ++ more) printed m, mid_makes w n (left ++ more) (text ++ more) printed m)

-- lines are played, or a fault comes
pub plays_lead : (w v : WorldView) (m n : ℕ) (left rest text earlier before after : List ℕ) (result : Result (Unit {0}) ReplayFault) → Mid w m left text earlier → PlaysAll (point w m left before) (point v n rest after) result → LeadsTo result (Lines v n rest) text earlier before after
plays_lead w v m n left rest text earlier before after (Ok u) mid p =
    let q = mid_plays w v m n left rest text earlier before after mid p.0 in
    record { printed = q.printed; appends = q.appends; stands = stands_answered v n rest text (earlier ++ q.printed) q.mid p.1 }
plays_lead w v m n left rest text earlier before after (Err (BadText line column)) mid p =
    let q = mid_plays w p.world m line left p.text text earlier before after mid p.plays in
    record { printed = q.printed; appends = q.appends; stands = stands_bad p.world line p.text text (earlier ++ q.printed) p.byte p.more column q.mid p.bad p.place }
plays_lead w v m n left rest text earlier before after (Err Memory) mid p =
    let q = mid_plays w p.stop.world m p.stop.line left p.stop.text text earlier before p.stop.printed mid p.plays in
    record { printed = q.printed; appends = sym p.now ∙ q.appends; stands = stands_full p.stop.world p.stop.line p.stop.text text (earlier ++ q.printed) q.mid }
plays_lead w v m n left rest text earlier before after (Err BadConfig) mid p = absurd p
plays_lead w v m n left rest text earlier before after (Err Read) mid p = absurd p
plays_lead w v m n left rest text earlier before after (Err Write) mid p = absurd p

-- ---- the header

pub header_partial : (held fed earlier : List ℕ) → Stands (Header held) fed earlier → header_at held ≡ Err []
header_partial held fed earlier s = partial_reads HeaderText header_at header_reads held s.1

pub stands_header : (held text : List ℕ) → held ≡ text → header_at text ≡ Err [] → Stands (Header held) text []
stands_header held text at e = (sym at, reads_partial HeaderText header_at header_reads held (ap header_at at ∙ e), refl)

pub fresh_mid : (text rest : List ℕ) (config : Config) → header_at text ≡ Ok (config, rest) → IsTrue (is_supported config) → Mid (fresh_world config) 2 rest text []
fresh_mid text rest config e supported =
    let f = header_reads.found text config rest e in
    record {
      config = config;
      lines = [];
      schedule = record { header = f.spelled.0; supported = supported; each = All-nil IsLine };
      parts = f.parts ∙ ap (λ (t : List ℕ). t ++ rest) f.spelled.1;
      now = refl;
      number = refl;
      answers = refl;
    }

out_of_limits : (text rest more : List ℕ) (config : Config) → header_at text ≡ Ok (config, rest) → is_supported config ≡ false → OutOfLimits (text ++ more) []
out_of_limits text rest more config e unsupported =
    let f = header_reads.found text config rest e in
    record {
      config = config;
      is_header = f.spelled.0;
      unsupported = unsupported;
      rest = rest ++ more;
      whole = ap (λ (t : List ℕ). t ++ more) (f.parts ∙ ap (λ (t : List ℕ). t ++ rest) f.spelled.1) ∙ append_assoc (header config) rest more;
      nothing = refl;
    }

pub stands_bad_config : (text rest : List ℕ) (config : Config) → header_at text ≡ Ok (config, rest) → is_supported config ≡ false → Stands (Failed BadConfig) text []
stands_bad_config text rest config e unsupported = λ more. out_of_limits text rest more config e unsupported

-- a header prints something, whatever follows
pub header_begins : (text rest : List ℕ) (config : Config) (supported : Bool) → header_at text ≡ Ok (config, rest) → is_supported config ≡ supported → IsBeginning text []
header_begins text rest config true e s = mid_begins (fresh_world config) 2 rest text [] (fresh_mid text rest config e s)
header_begins text rest config false e s =
    ([], Err BadConfig, subst (λ (t : List ℕ). OutOfLimits t []) (append-nil text) (out_of_limits text rest [] config e s))

pub stands_full_header : (text rest : List ℕ) (config : Config) → header_at text ≡ Ok (config, rest) → IsTrue (is_supported config) → Stands (Failed Memory) text []
stands_full_header text rest config e supported = stands_full (fresh_world config) 2 rest text [] (fresh_mid text rest config e supported)

pub stands_bad_header : (text : List ℕ) (b : ℕ) (bs : List ℕ) (column : ℕ) → header_at text ≡ Err (b ∷ bs) → column + length (b ∷ bs) ≡ length text + 1 → Stands (Failed (BadText 1 column)) text []
stands_bad_header text b bs column e place = λ more.
    inl record {
      bad = bad_byte HeaderText header_at header_reads (text ++ more) b (bs ++ more) column (err_more HeaderText header_at header_reads text b bs more e) (omega (arith, length-append text more, length-append bs more, place));
      first = refl;
      nothing = refl;
    }

-- a fault stays
pub stays_failed : (fault : ReplayFault) (fed piece earlier before after : List ℕ) → after ≡ before → Stands (Failed fault) fed earlier → Leads (Failed fault) (fed ++ piece) earlier before after
stays_failed fault fed piece earlier before after same s = record {
  printed = [];
  appends = same ∙ sym (append-nil before);
  stands = λ more. subst (λ (p : List ℕ). Ends ((fed ++ piece) ++ more) p (Err fault)) (sym (append-nil earlier)) (subst (λ (t : List ℕ). Ends t earlier (Err fault)) (sym (append_assoc fed piece more)) (s (piece ++ more)));
}

-- ---- a piece, where the header has not ended

pub from : (old p : Progress) (fed earlier : List ℕ) → old ≡ p → Stands old fed earlier → Stands p fed earlier
from old p fed earlier e s = subst (λ (q : Progress). Stands q fed earlier) e s

pub header_leads : (p : Progress) (held fed piece earlier before : List ℕ) → Stands (Header held) fed earlier → Stands p (held ++ piece) [] → Leads p (fed ++ piece) earlier before before
header_leads p held fed piece earlier before s t = record {
  printed = [];
  appends = sym (append-nil before);
  stands = subst (λ (e : List ℕ). Stands p (fed ++ piece) e) (sym (append-nil earlier ∙ s.2)) (subst (λ (f : List ℕ). Stands p (f ++ piece) []) (sym s.0) t);
}

pub header_runs : (held fed piece earlier before after rest : List ℕ) (config : Config) (w v : WorldView) (m n : ℕ) (h r : List ℕ) (result : Result (Unit {0}) ReplayFault)
    → Stands (Header held) fed earlier → header_at (held ++ piece) ≡ Ok (config, rest) → IsTrue (is_supported config) × (w ≡ fresh_world config) × (m ≡ 2) × (h ≡ [])
    → (line_at h ≡ Err [] → PlaysAll (point w m (h ++ rest) before) (point v n r after) result) → LeadsTo result (Lines v n r) (fed ++ piece) earlier before after
header_runs held fed piece earlier before after rest config w v m n h r result s e fresh plays =
    let mid : Mid w m (h ++ rest) (fed ++ piece) earlier = rw (fresh.1, fresh.2, fresh.3, s.0, s.2) (fresh_mid (held ++ piece) rest config e fresh.0) in
    plays_lead w v m n (h ++ rest) r (fed ++ piece) earlier before after result mid (plays (rw fresh.3 no_line))

pub lines_run : (fed piece earlier before after held : List ℕ) (w v : WorldView) (m n : ℕ) (r : List ℕ) (result : Result (Unit {0}) ReplayFault)
    → Stands (Lines w m held) fed earlier → (line_at held ≡ Err [] → PlaysAll (point w m (held ++ piece) before) (point v n r after) result) → LeadsTo result (Lines v n r) (fed ++ piece) earlier before after
lines_run fed piece earlier before after held w v m n r result s plays =
    plays_lead w v m n (held ++ piece) r (fed ++ piece) earlier before after result (mid_answered w m held fed earlier piece s) (plays (answered_reads w m held fed earlier s))

-- a header of which no world is made
pub no_world : (held fed piece earlier before rest : List ℕ) (config : Config) (fault : ReplayFault)
    → Stands (Header held) fed earlier → header_at (held ++ piece) ≡ Ok (config, rest) → ((fault ≡ BadConfig) × (is_supported config ≡ false)) ⊎ ((fault ≡ Memory) × IsTrue (is_supported config)) → Leads (Failed fault) (fed ++ piece) earlier before before
no_world held fed piece earlier before rest config fault s e (inl bad) =
    header_leads (Failed fault) held fed piece earlier before s (rw bad.0 (stands_bad_config (held ++ piece) rest config e bad.1))
no_world held fed piece earlier before rest config fault s e (inr full) =
    header_leads (Failed fault) held fed piece earlier before s (rw full.0 (stands_full_header (held ++ piece) rest config e full.1))

-- ---- the end of the input

pub ends_good : (w : WorldView) (n : ℕ) (fed printed : List ℕ) (counts : Counts) → Stands (Lines w n []) fed printed → counts ≡ counts_of (log_of w) → Prints fed (printed ++ end_line counts) (Ok counts)
ends_good w n fed printed counts s e = record {
  config = s.config;
  lines = s.lines;
  schedule = s.schedule;
  whole = s.parts ∙ ap (λ (t : List ℕ). header s.config ++ t) (append-nil (lines_text s.lines));
  counted = e ∙ ap (λ (u : WorldView). counts_of (log_of u)) s.now;
  answers = ap (λ (t : List ℕ). t ++ end_line counts) s.answers;
}

ends_cut : (w : WorldView) (n : ℕ) (held fed printed : List ℕ) → 0 < length held → Stands (Lines w n held) fed printed → Prints fed printed (Err (BadText n (length held + 1)))
ends_cut w n held fed printed some s =
    inr record {
      config = s.config;
      lines = s.lines;
      schedule = s.schedule;
      rest = held;
      some = some;
      whole = s.parts;
      bad = bad_end LineText line_at line_reads held (answered_reads w n held fed printed s);
      number = s.number;
      answers = s.answers;
    }

ends_header : (held fed printed : List ℕ) → Stands (Header held) fed printed → Prints fed printed (Err (BadText 1 (length held + 1)))
ends_header held fed printed s =
    inl record { bad = subst (λ (t : List ℕ). IsBad IsHeaderText t (length held + 1)) (sym s.0) (bad_end HeaderText header_at header_reads held (header_partial held fed printed s)); first = refl; nothing = s.2 }

-- nothing is appended
pub ends_bare : (fed earlier before after : List ℕ) (result : Result Counts ReplayFault) → after ≡ before → Ends fed earlier result → LeadsToEnd fed earlier before after result
ends_bare fed earlier before after result same e = record { printed = []; appends = same ∙ sym (append-nil before); ends = subst (λ (p : List ℕ). Ends fed p result) (sym (append-nil earlier)) e }

pub header_ends : (held fed earlier before : List ℕ) → Stands (Header held) fed earlier → LeadsToEnd fed earlier before before (Err (BadText 1 (length held + 1)))
header_ends held fed earlier before s = ends_bare fed earlier before before (Err (BadText 1 (length held + 1))) refl (ends_header held fed earlier s)

pub failed_ends : (fault : ReplayFault) (fed earlier before : List ℕ) → Stands (Failed fault) fed earlier → LeadsToEnd fed earlier before before (Err fault)
failed_ends fault fed earlier before s = ends_bare fed earlier before before (Err fault) refl (subst (λ (t : List ℕ). Ends t earlier (Err fault)) (append-nil fed) (s []))

pub lines_end : (w : WorldView) (n : ℕ) (held fed earlier before after : List ℕ) (result : Result Counts ReplayFault) → Stands (Lines w n held) fed earlier → EndsLines (point w n held before) after result → LeadsToEnd fed earlier before after result
lines_end w n held fed earlier before after (Ok counts) s e = record { printed = end_line counts; appends = e.2; ends = ends_good w n fed earlier counts (subst (λ (t : List ℕ). Stands (Lines w n t) fed earlier) e.0 s) e.1 }
lines_end w n held fed earlier before after (Err (BadText line column)) s e =
    ends_bare fed earlier before after (Err (BadText line column)) e.3 (rw (e.1, e.2) (ends_cut w n held fed earlier e.0 s))
lines_end w n held fed earlier before after (Err Memory) s e =
    ends_bare fed earlier before after (Err Memory) e (subst (λ (t : List ℕ). Ends t earlier (Err Memory)) (append-nil fed) (stands_full w n held fed earlier (mid_at w n held fed earlier s) []))
lines_end w n held fed earlier before after (Err BadConfig) s e = absurd e
lines_end w n held fed earlier before after (Err Read) s e = absurd e
lines_end w n held fed earlier before after (Err Write) s e = absurd e

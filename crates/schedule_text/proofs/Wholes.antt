-- A whole schedule, line by line.
use Rattle.schedule_text.proofs.Cited.{◌≡◌, ℕ, ◌+◌, ◌<◌, List, [], ◌∷◌, ◌++◌, length, Ok, Err, false, refl, sym, ap, ◌∙◌, append_assoc, inr, All, IsTrue, flat_map_more, All-push, is_within_limits, Config, Line}
use Rattle.schedule_text.specs.Spelling.{spelling, IsLine, LineText, lines_text}
use Rattle.schedule_text.specs.Header.{header, HeaderText, HasHeader}
use Rattle.schedule_text.specs.Grammar.{line_at, header_at}
use Rattle.schedule_text.specs.Fault.{line_after}
use Rattle.schedule_text.specs.declared.fault.ScheduleFault.{ScheduleFault}
use Rattle.schedule_text.specs.declared.fault.ScheduleFault.TheVariants.{BadText, BadConfig, Memory}
use Rattle.schedule_text.specs.Whole.{AreLines, BreaksOff, IsNoLines, IsWhole, IsOutOfLimits, HasNoHeader, IsNoSchedule}
use Rattle.schedule_text.proofs.Lines.{line_reads}
use Rattle.schedule_text.proofs.Headers.{header_reads}
use Rattle.schedule_text.proofs.More.{bad_at}

-- a line more
pub each_more : (ls : List Line) (l : Line) (rest after : List ℕ) → line_at rest ≡ Ok (l, after) → All IsLine ls → All IsLine (ls ++ l ∷ [])
each_more ls l rest after e each = let f = line_reads.found rest l after e in All-push IsLine ls l each f.spelled.0

pub parts_more : (text : List ℕ) (ls : List Line) (l : Line) (rest after : List ℕ) → line_at rest ≡ Ok (l, after) → text ≡ lines_text ls ++ rest → text ≡ lines_text (ls ++ l ∷ []) ++ after
parts_more text ls l rest after e parts =
    let f = line_reads.found rest l after e in
    parts ∙ ap (λ (t : List ℕ). lines_text ls ++ t) (f.parts ∙ ap (λ (t : List ℕ). t ++ after) f.spelled.1) ∙ sym (append_assoc (lines_text ls) (spelling l) after) ∙ ap (λ (t : List ℕ). t ++ after) (flat_map_more spelling [] ls l)

pub breaks_off : (text : List ℕ) (ls : List Line) (rest bad : List ℕ) (line column : ℕ) → All IsLine ls → text ≡ lines_text ls ++ rest → 0 < length rest → line_at rest ≡ Err bad → column + length bad ≡ length rest + 1 → line ≡ line_after (length ls) → BreaksOff text line column
breaks_off text ls rest bad line column each parts some e place number = record {
  lines = ls;
  each = each;
  rest = rest;
  some = some;
  parts = parts;
  bad = bad_at LineText line_at line_reads rest bad column e place;
  number = number;
}

pub has_header : (text rest : List ℕ) (config : Config) → header_at text ≡ Ok (config, rest) → IsTrue (is_within_limits config) → HasHeader text config rest
has_header text rest config e within =
    let f = header_reads.found text config rest e in
    record { is_header = f.spelled.0; within = within; parts = f.parts ∙ ap (λ (t : List ℕ). t ++ rest) f.spelled.1 }

pub is_whole : (text rest : List ℕ) (config : Config) (ls : List Line) → HasHeader text config rest → AreLines rest ls → IsWhole text config ls
is_whole text rest config ls h a = record { is_header = h.is_header; within = h.within; each = a.each; spelled = h.parts ∙ ap (λ (t : List ℕ). header config ++ t) a.spelled }

pub out_of_limits : (text rest : List ℕ) (config : Config) → header_at text ≡ Ok (config, rest) → is_within_limits config ≡ false → IsOutOfLimits text
out_of_limits text rest config e without =
    let f = header_reads.found text config rest e in
    record { config = config; is_header = f.spelled.0; without = without; rest = rest; parts = f.parts ∙ ap (λ (t : List ℕ). t ++ rest) f.spelled.1 }

pub no_header : (text bad : List ℕ) (column : ℕ) → header_at text ≡ Err bad → column + length bad ≡ length text + 1 → HasNoHeader text 1 column
no_header text bad column e place = record { bad = bad_at HeaderText header_at header_reads text bad column e place; first = refl }

pub no_lines : (text rest : List ℕ) (config : Config) (fault : ScheduleFault) → HasHeader text config rest → IsNoLines rest fault → IsNoSchedule text fault
no_lines text rest config (BadText line column) h n = inr record { config = config; rest = rest; headed = h; breaks = n }
no_lines text rest config BadConfig h n = absurd n
no_lines text rest config Memory h n = (config, rest, h)

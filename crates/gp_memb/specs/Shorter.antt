-- Three shorter plans, each of which is finished while a section is still open.
use Rattle.std.specs.Prelude.{ℕ, not, if◌then◌else◌}
use Rattle.reader_word.specs.Word.{is_open_of}
use Rattle.gp_memb.specs.declared.memb.MembPlan.{MembPlan}
use Rattle.gp_memb.specs.declared.memb.Place.{Place}
use Rattle.gp_memb.specs.declared.memb.Place.TheVariants.{Flip, FirstScan, FlipBack, SecondScan, StoreEven}
use Rattle.gp_memb.specs.Plan.{after_turn}
use Rattle.gp_memb.specs.Scan.{look_behind, scans_on}
use Rattle.gp_memb.specs.Memb.{moved_at, memb_turn, memb_taken}

-- one flip: behind the first scan the sequence number becomes even
abbrev pub one_flip_at : MembPlan → Place → ℕ → MembPlan
one_flip_at plan (FirstScan look) word = record plan { place = scans_on FirstScan StoreEven (look_behind plan.scan look word) }
one_flip_at plan place word = moved_at plan place word

abbrev pub one_flip : MembPlan → ℕ → MembPlan
one_flip plan word = after_turn (one_flip_at plan plan.place word) plan (memb_turn plan word)

-- two flips with one scan: the phase is flipped back at once
abbrev pub one_scan_at : MembPlan → Place → ℕ → MembPlan
one_scan_at plan Flip word = record plan { phase = not plan.phase; place = FlipBack }
one_scan_at plan place word = moved_at plan place word

abbrev pub one_scan : MembPlan → ℕ → MembPlan
one_scan plan word = after_turn (one_scan_at plan plan.place word) plan (memb_turn plan word)

-- a scan that stops at the first empty slot
abbrev pub stops_at : MembPlan → Place → ℕ → MembPlan
stops_at plan (FirstScan look) word = if is_open_of plan.layout word then memb_taken plan word else record plan { place = FlipBack }
stops_at plan (SecondScan look) word = if is_open_of plan.layout word then memb_taken plan word else record plan { place = StoreEven }
stops_at plan place word = memb_taken plan word

abbrev pub stops_at_empty : MembPlan → ℕ → MembPlan
stops_at_empty plan word = stops_at plan plan.place word

-- A plan whose scan accepts newer numbers: it waits only for words below the old number.
use Rattle.std.specs.Prelude.{ℕ, ◌-◌, nat_lt, ◌&&◌, if◌then◌else◌}
use Rattle.reader_word.specs.Quiescent.{is_online}
use Rattle.gp_memb.specs.declared.plan.Turn.{Turn}
use Rattle.gp_memb.specs.declared.plan.Turn.TheVariants.{Step, Wait}
use Rattle.gp_memb.specs.Plan.{after_turn}
use Rattle.gp_memb.specs.Scan.{is_slot_of}
use Rattle.gp_qsbr.specs.declared.qsbr.QsbrPlan.{QsbrPlan}
use Rattle.gp_qsbr.specs.declared.qsbr.Place.{Place}
use Rattle.gp_qsbr.specs.declared.qsbr.Place.TheVariants.{Scans}
use Rattle.gp_qsbr.specs.Qsbr.{turn_of, qsbr_moved}

abbrev pub newer_turn : QsbrPlan → Place → ℕ → Turn
newer_turn plan (Scans look) word = if is_slot_of look && (is_online word && nat_lt word (plan.raised - 1)) then Wait else Step
newer_turn plan place word = turn_of plan place word

abbrev pub accepts_newer : QsbrPlan → ℕ → QsbrPlan
accepts_newer plan word = after_turn (qsbr_moved plan word) plan (newer_turn plan plan.place word)

-- The plan of the quiescent-state flavour: the number is raised by one, and the slots are scanned.
use Rattle.std.specs.Prelude.{ℕ, ◌+◌, ◌-◌, Bool, ◌&&◌, if◌then◌else◌}
use Rattle.reader_word.specs.Quiescent.{qs_stands}
use Rattle.gp_memb.specs.declared.plan.Action.{Action}
use Rattle.gp_memb.specs.declared.plan.Action.TheVariants.{StorePhase, StoreSeq, Finished}
use Rattle.gp_memb.specs.declared.plan.Turn.{Turn}
use Rattle.gp_memb.specs.declared.plan.Turn.TheVariants.{Step, Wait}
use Rattle.gp_memb.specs.declared.scan.Look.{Look}
use Rattle.gp_memb.specs.Plan.{after_turn}
use Rattle.gp_memb.specs.Scan.{scan_of, is_slot_of, look_action, first_look, look_behind, scans_on}
use Rattle.gp_qsbr.specs.declared.qsbr.QsbrPlan.{QsbrPlan}
use Rattle.gp_qsbr.specs.declared.qsbr.Place.{Place}
use Rattle.gp_qsbr.specs.declared.qsbr.Place.TheVariants.{StoreOdd, Raise, Scans, StoreEven, Done}

-- nothing is done yet
abbrev pub qsbr_begun : Bool → ℕ → ℕ → ℕ → QsbrPlan
qsbr_begun grouped slots seq num = record { scan = scan_of slots grouped; odd = seq + 1; even = seq + 2; raised = num + 1; place = StoreOdd }

abbrev pub action_at : QsbrPlan → Place → Action
action_at plan StoreOdd = StoreSeq plan.odd
action_at plan Raise = StorePhase plan.raised
action_at plan (Scans look) = look_action look
action_at plan StoreEven = StoreSeq plan.even
action_at plan Done = Finished

abbrev pub qsbr_action : QsbrPlan → Action
qsbr_action plan = action_at plan plan.place

-- the number that was stored last
abbrev pub present_at : QsbrPlan → Place → ℕ
present_at plan StoreOdd = plan.raised - 1
present_at plan Raise = plan.raised - 1
present_at plan (Scans look) = plan.raised
present_at plan StoreEven = plan.raised
present_at plan Done = plan.raised

abbrev pub qsbr_present : QsbrPlan → ℕ
qsbr_present plan = present_at plan plan.place

-- a scan waits for the word of a slot that stands in the way of the raised number
abbrev pub scan_turn : QsbrPlan → Look → ℕ → Turn
scan_turn plan look word = if is_slot_of look && qs_stands word plan.raised then Wait else Step

abbrev pub turn_of : QsbrPlan → Place → ℕ → Turn
turn_of plan StoreOdd word = Step
turn_of plan Raise word = Step
turn_of plan (Scans look) word = scan_turn plan look word
turn_of plan StoreEven word = Step
turn_of plan Done word = Step

abbrev pub qsbr_turn : QsbrPlan → ℕ → Turn
qsbr_turn plan word = turn_of plan plan.place word

-- where a turn that goes on leads
abbrev pub moved_at : QsbrPlan → Place → ℕ → QsbrPlan
moved_at plan StoreOdd word = record plan { place = Raise }
moved_at plan Raise word = record plan { place = scans_on Scans StoreEven (first_look plan.scan) }
moved_at plan (Scans look) word = record plan { place = scans_on Scans StoreEven (look_behind plan.scan look word) }
moved_at plan StoreEven word = record plan { place = Done }
moved_at plan Done word = plan

abbrev pub qsbr_moved : QsbrPlan → ℕ → QsbrPlan
qsbr_moved plan word = moved_at plan plan.place word

abbrev pub qsbr_taken : QsbrPlan → ℕ → QsbrPlan
qsbr_taken plan word = after_turn (qsbr_moved plan word) plan (qsbr_turn plan word)

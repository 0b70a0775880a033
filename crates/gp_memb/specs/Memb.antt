-- The plan of the general-purpose flavour: two flips of the phase, each with a scan of the slots.
use Rattle.std.specs.Prelude.{ℕ, ◌+◌, Bool, not, ◌&&◌, if◌then◌else◌}
use Rattle.reader_word.specs.declared.layout.Layout.{Layout}
use Rattle.reader_word.specs.Word.{number, stands}
use Rattle.gp_memb.specs.declared.plan.Action.{Action}
use Rattle.gp_memb.specs.declared.plan.Action.TheVariants.{StorePhase, StoreSeq, Finished}
use Rattle.gp_memb.specs.declared.plan.Turn.{Turn}
use Rattle.gp_memb.specs.declared.plan.Turn.TheVariants.{Step, Wait}
use Rattle.gp_memb.specs.declared.scan.Look.{Look}
use Rattle.gp_memb.specs.declared.memb.MembPlan.{MembPlan}
use Rattle.gp_memb.specs.declared.memb.Place.{Place}
use Rattle.gp_memb.specs.declared.memb.Place.TheVariants.{StoreOdd, Flip, FirstScan, FlipBack, SecondScan, StoreEven, Done}
use Rattle.gp_memb.specs.Plan.{after_turn}
use Rattle.gp_memb.specs.Scan.{scan_of, is_slot_of, look_action, first_look, look_behind, scans_on}

-- nothing is done yet
abbrev pub memb_begun : Layout → Bool → ℕ → ℕ → Bool → MembPlan
memb_begun layout grouped slots seq phase =
    record { layout = layout; scan = scan_of slots grouped; odd = seq + 1; even = seq + 2; phase = phase; place = StoreOdd }

abbrev pub action_at : MembPlan → Place → Action
action_at plan StoreOdd = StoreSeq plan.odd
action_at plan Flip = StorePhase (number (not plan.phase))
action_at plan (FirstScan look) = look_action look
action_at plan FlipBack = StorePhase (number (not plan.phase))
action_at plan (SecondScan look) = look_action look
action_at plan StoreEven = StoreSeq plan.even
action_at plan Done = Finished

abbrev pub memb_action : MembPlan → Action
memb_action plan = action_at plan plan.place

abbrev pub memb_present : MembPlan → ℕ
memb_present plan = number plan.phase

-- a scan waits for the word of a slot that stands in the way of the present phase
abbrev pub scan_turn : MembPlan → Look → ℕ → Turn
scan_turn plan look word = if is_slot_of look && stands plan.layout word plan.phase then Wait else Step

abbrev pub memb_turn_at : MembPlan → Place → ℕ → Turn
memb_turn_at plan StoreOdd word = Step
memb_turn_at plan Flip word = Step
memb_turn_at plan (FirstScan look) word = scan_turn plan look word
memb_turn_at plan FlipBack word = Step
memb_turn_at plan (SecondScan look) word = scan_turn plan look word
memb_turn_at plan StoreEven word = Step
memb_turn_at plan Done word = Step

abbrev pub memb_turn : MembPlan → ℕ → Turn
memb_turn plan word = memb_turn_at plan plan.place word

-- where a turn that goes on leads
abbrev pub moved_at : MembPlan → Place → ℕ → MembPlan
moved_at plan StoreOdd word = record plan { place = Flip }
moved_at plan Flip word = record plan { phase = not plan.phase; place = scans_on FirstScan FlipBack (first_look plan.scan) }
moved_at plan (FirstScan look) word = record plan { place = scans_on FirstScan FlipBack (look_behind plan.scan look word) }
moved_at plan FlipBack word = record plan { phase = not plan.phase; place = scans_on SecondScan StoreEven (first_look plan.scan) }
moved_at plan (SecondScan look) word = record plan { place = scans_on SecondScan StoreEven (look_behind plan.scan look word) }
moved_at plan StoreEven word = record plan { place = Done }
moved_at plan Done word = plan

abbrev pub memb_moved : MembPlan → ℕ → MembPlan
memb_moved plan word = moved_at plan plan.place word

abbrev pub memb_taken : MembPlan → ℕ → MembPlan
memb_taken plan word = after_turn (memb_moved plan word) plan (memb_turn plan word)

-- What the calls of C tell of what their handles keep.
use Rattle.std.specs.Prelude.{◌≡◌, ◌≢◌, ℕ, ◌+◌, ◌-◌, ◌<◌, ◌≤◌, ◌^◌, Bool, true, false, Option, Some, None}
use Rattle.std.specs.Arc.{arc_value}
use Rattle.atomic_table.specs.declared.shared.Seat.{Seat}
use Rattle.gp_memb.specs.Memb.{memb_action, memb_turn}
use Rattle.gp_qsbr.specs.Qsbr.{qsbr_action, qsbr_turn}
use Rattle.live_log.specs.contracts.chain_rule.AnyChainChainRule.TheImpl.{ghosts}
use Rattle.live_log.specs.Log.{IsLiveRun, seq_of}
use Rattle.live_log.specs.declared.callback_id.CallbackId.{CallbackId}
use Rattle.live_words.specs.live_rule.declared.view.View.{View}
use Rattle.live_words.specs.live_rule.Seen.{Precedes}
use Rattle.live_words.specs.step_readers.Groups.{IsClaimed}
use Rattle.live_read.specs.Registering.{FindsAllClaimed, IsGivenBack, TakesOne}
use Rattle.live_read.specs.Sections as sections
use Rattle.live_waits.specs.Answers.{IsCookieOf}
use Rattle.live_words.specs.live_rule.Rights.{looks_in}
use Rattle.live_waits.specs.Steps.{IsAnswered, Stands}
use Rattle.held_values.specs.declared.MembDomain.{MembDomain}
use Rattle.held_values.specs.declared.QsbrDomain.{QsbrDomain}
use Rattle.held_values.specs.declared.MembGrace.{MembGrace}
use Rattle.held_values.specs.declared.QsbrGrace.{QsbrGrace}
use Rattle.held_values.specs.declared.MembReader.{MembReader}
use Rattle.held_values.specs.declared.QsbrReader.{QsbrReader}

abbrev LiveSeat : Type 0
LiveSeat = Seat CallbackId View

-- a handle keeps something, of which this is so
abbrev pub Keeps : {A : Type 0} → (A → Type 0) → Option A → Type 0
Keeps so (Some x) = so x
Keeps so None = ⊥

-- a handle kept something before and keeps something after, and this is so of them
abbrev pub Between : {A : Type 0} → (A → A → Type 0) → Option A → Option A → Type 0
Between so (Some x) (Some y) = so x y
Between so (Some x) None = ⊥
Between so None y = ⊥

-- a handle keeps nothing before and after, or something both times, of which this is so
abbrev pub Stays : {A : Type 0} → (A → A → Type 0) → Option A → Option A → Type 0
Stays so (Some x) (Some y) = so x y
Stays so (Some x) None = ⊥
Stays so None (Some y) = ⊥
Stays so None None = Unit {0}

-- the same of two handles
abbrev pub Beside : {A B : Type 0} → (A → B → Type 0) → Option A → Option B → Type 0
Beside so (Some x) (Some y) = so x y
Beside so (Some x) None = ⊥
Beside so None y = ⊥

-- ---- asks and polls, by the seat that makes them

-- it has seen more, and what it has seen is a run
abbrev pub SeesOn : Bool → LiveSeat → LiveSeat → Type 0
SeesOn qsbr s t = (t.table_id ≡ s.table_id) × Precedes s.me.0 t.me.0.seen × IsLiveRun qsbr ghosts.allows t.me.0.seen

-- and this is a cookie of what it has seen now
abbrev pub AsksBy : Bool → ℕ → LiveSeat → LiveSeat → Type 0
AsksBy qsbr cookie s t = SeesOn qsbr s t × IsCookieOf t.me.0.seen cookie × (cookie ≤ 2 ^ 62 + 2)

-- and the sequence number has reached the cookie: each section has ended that was open in a log which the seat knew,
-- and of which this is the cookie
abbrev pub AnswersBy : Bool → ℕ → LiveSeat → LiveSeat → Type 0
AnswersBy qsbr cookie s t = SeesOn qsbr s t × (cookie ≤ seq_of t.me.0.seen) × IsAnswered cookie s.me.0 t.me.0.seen

-- and it has not reached it
abbrev pub AwaitsBy : Bool → ℕ → LiveSeat → LiveSeat → Type 0
AwaitsBy qsbr cookie s t = SeesOn qsbr s t × (seq_of t.me.0.seen < cookie)

-- and no sequence numbers are left
abbrev pub SpentBy : Bool → LiveSeat → LiveSeat → Type 0
SpentBy qsbr s t = SeesOn qsbr s t × (2 ^ 62 ≤ seq_of t.me.0.seen)

-- ---- of the general-purpose flavour

-- a domain with this many slots
abbrev pub MembHasSlots : ℕ → MembDomain → Type 0
MembHasSlots slots d = (arc_value d.domain.table).slots ≡ slots

-- grace periods of the domain's table, of which none has begun
abbrev pub MembIsNewGrace : MembDomain → MembGrace → Type 0
MembIsNewGrace d g = (arc_value g.periods.table ≡ arc_value d.domain.table) × (g.periods.steps.going ≡ false) × (g.periods.steps.seq ≡ 0)

-- nothing is open
abbrev pub MembIsIdle : MembReader → Type 0
MembIsIdle r = (r.core.depth ≡ 0) × (r.core.locks ≡ 0)

-- a reader of the domain's table, in a slot that was found free and that it has now, with nothing open
abbrev pub MembRegisters : MembDomain → MembReader → Type 0
MembRegisters d r = (r.core.seat.table_id ≡ (arc_value d.domain.table).words.shared.table_id) × (r.core.slot < (arc_value d.domain.table).slots)
    × TakesOne r.core.slot r.core.seat.me.0.looks × IsClaimed false r.core.slot r.core.seat.me.0 × MembIsIdle r

-- the bit of each slot was found set, as the domain's seat has heard since
abbrev pub MembFindsAllClaimed : MembDomain → MembDomain → Type 0
MembFindsAllClaimed d e = (e.domain.table ≡ d.domain.table) × FindsAllClaimed (arc_value d.domain.table).words.shared.key d.domain.seat.me.0.looks e.domain.seat.me.0.looks

-- it has heard of nothing since
abbrev pub MembFindsNothing : MembDomain → MembDomain → Type 0
MembFindsNothing d e = (e.domain.table ≡ d.domain.table) × (e.domain.seat.me ≡ d.domain.seat.me)

-- the slot was given back, as a seat tells that has seen and heard all that the reader had
abbrev pub MembWasGivenBack : MembReader → Type 0
MembWasGivenBack r = (seat : LiveSeat) × IsGivenBack false ghosts.allows r.core seat

-- this many locks are open
abbrev pub MembHasLocks : ℕ → MembReader → Type 0
MembHasLocks n r = r.core.locks ≡ n

-- a lock or a section is open
abbrev pub MembIsBusy : MembReader → Type 0
MembIsBusy r = 0 < r.core.depth

-- as many are open as can be
abbrev pub MembIsFull : MembReader → Type 0
MembIsFull r = r.core.depth ≡ sections.greatest_depth

-- one more lock is open
abbrev pub MembLocks : MembReader → MembReader → Type 0
MembLocks r s = sections.BeginsSection false ghosts.allows r.core s.core (r.core.locks + 1)

-- one lock fewer is open
abbrev pub MembUnlocks : MembReader → MembReader → Type 0
MembUnlocks r s = (0 < r.core.locks) × sections.EndsSection false ghosts.allows r.core s.core (r.core.locks - 1)

-- all that was open has ended
abbrev pub MembEnds : MembReader → MembReader → Type 0
MembEnds r s = sections.EndsAll false ghosts.allows r.core s.core

abbrev pub MembAsks : ℕ → MembGrace → MembGrace → Type 0
MembAsks cookie g h = AsksBy false cookie g.periods.asks h.periods.asks

abbrev pub MembAnswers : ℕ → MembGrace → MembGrace → Type 0
MembAnswers cookie g h = AnswersBy false cookie g.periods.asks h.periods.asks

abbrev pub MembAwaits : ℕ → MembGrace → MembGrace → Type 0
MembAwaits cookie g h = AwaitsBy false cookie g.periods.asks h.periods.asks

-- the grace period loads the word of a slot of this table, and one that was loaded there stands in its way
abbrev pub MembIsHeldUp : MembGrace → MembGrace → Type 0
MembIsHeldUp g h = (slot : ℕ) × (slot < (arc_value g.periods.table).slots) × Stands memb_action memb_turn h.periods.steps.plan slot (looks_in h.periods.steps.seat.me.0.grace)

abbrev pub MembIsSpent : MembGrace → MembGrace → Type 0
MembIsSpent g h = SpentBy false g.periods.asks h.periods.asks

-- none is going, and none may begin
abbrev pub MembIsUsedUp : MembGrace → Type 0
MembIsUsedUp g = (g.periods.steps.going ≡ false) × (2 ^ 62 < g.periods.steps.seq)

-- ---- of the quiescent-state flavour

-- a domain with this many slots
abbrev pub QsbrHasSlots : ℕ → QsbrDomain → Type 0
QsbrHasSlots slots d = (arc_value d.domain.table).slots ≡ slots

-- grace periods of the domain's table, of which none has begun
abbrev pub QsbrIsNewGrace : QsbrDomain → QsbrGrace → Type 0
QsbrIsNewGrace d g = (arc_value g.periods.table ≡ arc_value d.domain.table) × (g.periods.steps.going ≡ false) × (g.periods.steps.seq ≡ 0)

-- nothing is open, and it is offline
abbrev pub QsbrIsIdle : QsbrReader → Type 0
QsbrIsIdle r = (r.core.depth ≡ 0) × (r.core.locks ≡ 0) × (r.core.word ≡ 0)

-- a reader of the domain's table, in a slot that was found free and that it has now, with nothing open
abbrev pub QsbrRegisters : QsbrDomain → QsbrReader → Type 0
QsbrRegisters d r = (r.core.seat.table_id ≡ (arc_value d.domain.table).words.shared.table_id) × (r.core.slot < (arc_value d.domain.table).slots)
    × TakesOne r.core.slot r.core.seat.me.0.looks × IsClaimed true r.core.slot r.core.seat.me.0 × QsbrIsIdle r

-- the bit of each slot was found set, as the domain's seat has heard since
abbrev pub QsbrFindsAllClaimed : QsbrDomain → QsbrDomain → Type 0
QsbrFindsAllClaimed d e = (e.domain.table ≡ d.domain.table) × FindsAllClaimed (arc_value d.domain.table).words.shared.key d.domain.seat.me.0.looks e.domain.seat.me.0.looks

-- it has heard of nothing since
abbrev pub QsbrFindsNothing : QsbrDomain → QsbrDomain → Type 0
QsbrFindsNothing d e = (e.domain.table ≡ d.domain.table) × (e.domain.seat.me ≡ d.domain.seat.me)

-- the slot was given back, as a seat tells that has seen and heard all that the reader had
abbrev pub QsbrWasGivenBack : QsbrReader → Type 0
QsbrWasGivenBack r = (seat : LiveSeat) × IsGivenBack true ghosts.allows r.core seat

-- this many locks are open
abbrev pub QsbrHasLocks : ℕ → QsbrReader → Type 0
QsbrHasLocks n r = r.core.locks ≡ n

-- a lock or a section is open
abbrev pub QsbrIsBusy : QsbrReader → Type 0
QsbrIsBusy r = 0 < r.core.depth

-- as many are open as can be
abbrev pub QsbrIsFull : QsbrReader → Type 0
QsbrIsFull r = r.core.depth ≡ sections.greatest_depth

-- one more lock is open
abbrev pub QsbrLocks : QsbrReader → QsbrReader → Type 0
QsbrLocks r s = sections.BeginsSection true ghosts.allows r.core s.core (r.core.locks + 1)

-- one lock fewer is open
abbrev pub QsbrUnlocks : QsbrReader → QsbrReader → Type 0
QsbrUnlocks r s = (0 < r.core.locks) × sections.EndsSection true ghosts.allows r.core s.core (r.core.locks - 1)

-- all that was open has ended
abbrev pub QsbrEnds : QsbrReader → QsbrReader → Type 0
QsbrEnds r s = sections.EndsAll true ghosts.allows r.core s.core

abbrev pub QsbrAsks : ℕ → QsbrGrace → QsbrGrace → Type 0
QsbrAsks cookie g h = AsksBy true cookie g.periods.asks h.periods.asks

abbrev pub QsbrAnswers : ℕ → QsbrGrace → QsbrGrace → Type 0
QsbrAnswers cookie g h = AnswersBy true cookie g.periods.asks h.periods.asks

abbrev pub QsbrAwaits : ℕ → QsbrGrace → QsbrGrace → Type 0
QsbrAwaits cookie g h = AwaitsBy true cookie g.periods.asks h.periods.asks

-- the grace period loads the word of a slot of this table, and one that was loaded there stands in its way
abbrev pub QsbrIsHeldUp : QsbrGrace → QsbrGrace → Type 0
QsbrIsHeldUp g h = (slot : ℕ) × (slot < (arc_value g.periods.table).slots) × Stands qsbr_action qsbr_turn h.periods.steps.plan slot (looks_in h.periods.steps.seat.me.0.grace)

abbrev pub QsbrIsSpent : QsbrGrace → QsbrGrace → Type 0
QsbrIsSpent g h = SpentBy true g.periods.asks h.periods.asks

-- none is going, and none may begin
abbrev pub QsbrIsUsedUp : QsbrGrace → Type 0
QsbrIsUsedUp g = (g.periods.steps.going ≡ false) × (2 ^ 62 < g.periods.steps.seq)

-- an online reader, and an offline one
abbrev pub IsOnline : QsbrReader → Type 0
IsOnline r = r.core.word ≢ 0

abbrev pub IsOffline : QsbrReader → Type 0
IsOffline r = r.core.word ≡ 0

-- an offline reader goes online
abbrev pub GoesOnline : QsbrReader → QsbrReader → Type 0
GoesOnline r s = sections.GoesOnline true ghosts.allows r.core s.core

-- an online reader announces a quiescent state
abbrev pub Announces : QsbrReader → QsbrReader → Type 0
Announces r s = sections.Announces true ghosts.allows r.core s.core

-- an online reader goes offline
abbrev pub GoesOffline : QsbrReader → QsbrReader → Type 0
GoesOffline r s = sections.GoesOffline true ghosts.allows r.core s.core

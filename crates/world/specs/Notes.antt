-- What readers and updaters note, told by what their lines were answered.
use Rattle.std.specs.Prelude.{◌≡◌, ℕ, ◌==◌, if◌then◌else◌, List, [], ◌∷◌, get_or, Option, Some, None, Result, Ok}
use Rattle.std.specs.Option.{option_or}
use Rattle.rcu_model.specs.declared.event.Event.{Event}
use Rattle.rcu_model.specs.declared.event.Event.TheVariants.{Open, Close, First, Next, Touch, Ask, Answer as Answered}
use Rattle.rcu_model.specs.declared.event.ObjectId.{ObjectId}
use Rattle.rcu_model.specs.declared.refusal.Refusal.{Refusal}
use Rattle.poll_cookie.specs.Cookie.{cookie_for}
use Rattle.world_state.specs.declared.line.Answer.{Answer}
use Rattle.world_state.specs.declared.line.Answer.TheVariants.{Events}
use Rattle.world_state.specs.declared.line.Line.{Line}
use Rattle.world_state.specs.declared.line.Line.TheVariants.{Reader, Updater, Worker}
use Rattle.world_state.specs.declared.line.UpdaterVerb.{UpdaterVerb}
use Rattle.world_state.specs.declared.line.UpdaterVerb.TheVariants.{Start, Poll}
use Rattle.world_state.specs.declared.updater.Started.{Started}
use Rattle.world_state.specs.Readers.{new_reader}
use Rattle.world_state.specs.View.{Plans, BoardView, idle}
use Rattle.world.specs.Lines.{outcome_of}
use Rattle.world.specs.Steps.{WorldView, OfMemb, OfQsbr, memb_plans, qsbr_plans}

-- ---- readers: the object that they got last, in the section that is open

-- A section that opens or closes leaves none. What is found is the one from then on; where nothing is, it stays.
abbrev pub got_after : ℕ → Option ObjectId → Event → Option ObjectId
got_after r got (Open s) = if s.reader == r then None else got
got_after r got (Close s) = if s.reader == r then None else got
got_after r got (First s c found) = if s.reader == r then option_or found got else got
got_after r got (Next s o found) = if s.reader == r then option_or found got else got
got_after r got e = got

-- after all events of a log
abbrev pub got_last : ℕ → Option ObjectId → List Event → Option ObjectId
got_last r got [] = got
got_last r got (e ∷ es) = got_last r (got_after r got e) es

-- a `next` of the reader goes on from that object, and a `touch` is of it; so all of a log
abbrev pub IsFromLast : ℕ → Option ObjectId → Event → Type 0
IsFromLast r got (Next s o found) = s.reader ≡ r → got ≡ Some o
IsFromLast r got (Touch s o) = s.reader ≡ r → got ≡ Some o
IsFromLast r got e = Unit {0}

abbrev pub AreFromLast : ℕ → Option ObjectId → List Event → Type 0
AreFromLast r got [] = Unit {0}
AreFromLast r got (e ∷ es) = IsFromLast r got e × AreFromLast r (got_after r got e) es

-- ---- updaters: the ask and the cookie of their latest `start`, until a `poll` answers it

-- the sequence number before a line, the line, and what it was answered
abbrev pub Reply : Type 0
Reply = ℕ × Line × Result Answer Refusal

-- what is noted of the event that a `start` tells, with the cookie for the sequence number that it loaded
abbrev pub note_of : Event → Result ℕ Refusal → Option Started
note_of (Ask a) (Ok c) = Some (record { ask = a; cookie = c })
note_of e cookie = None

-- A `start` that is answered notes its own, in place of an older one, and a `poll` that is answered spends it. Nothing
-- else touches it.
abbrev pub noted_by : UpdaterVerb → ℕ → Result Answer Refusal → Option Started → Option Started
noted_by Start seq (Ok (Events e second)) noted = note_of e (cookie_for seq)
noted_by Poll seq (Ok (Events e second)) noted = None
noted_by verb seq answer noted = noted

-- the updater's note after a line, and after all of them
abbrev pub noted_after : ℕ → Option Started → Reply → Option Started
noted_after u noted (seq, Updater v verb, answer) = if v == u then noted_by verb seq answer noted else noted
noted_after u noted (seq, Reader r verb, answer) = noted
noted_after u noted (seq, Worker k verb, answer) = noted

abbrev pub noted_last : ℕ → Option Started → List Reply → Option Started
noted_last u noted [] = noted
noted_last u noted (x ∷ xs) = noted_last u (noted_after u noted x) xs

-- what a `poll` of the updater tells is the answer to the ask that was noted; so all of them
abbrev pub IsAnswerTo : Option Started → Event → Type 0
IsAnswerTo None e = ⊥
IsAnswerTo (Some s) e = e ≡ Answered s.ask

abbrev pub IsOfNoted : UpdaterVerb → Result Answer Refusal → Option Started → Type 0
IsOfNoted Poll (Ok (Events e second)) noted = IsAnswerTo noted e
IsOfNoted verb answer noted = Unit {0}

abbrev pub IsPolled : ℕ → Option Started → Reply → Type 0
IsPolled u noted (seq, Updater v verb, answer) = v ≡ u → IsOfNoted verb answer noted
IsPolled u noted (seq, Reader r verb, answer) = Unit {0}
IsPolled u noted (seq, Worker k verb, answer) = Unit {0}

abbrev pub ArePolled : ℕ → Option Started → List Reply → Type 0
ArePolled u noted [] = Unit {0}
ArePolled u noted (x ∷ xs) = IsPolled u noted x × ArePolled u (noted_after u noted x) xs

-- ---- what they note

-- the object under a reader's cursor, and the pending poll of an updater
abbrev pub cursor_of : {P : Type 0} → BoardView P → ℕ → Option ObjectId
cursor_of w r = (get_or w.readers r new_reader).cursor

abbrev pub started_by : {P : Type 0} → BoardView P → ℕ → Option Started
started_by w u = (get_or w.updaters u idle).started

-- they are the ones that the log and the answers tell, and what readers and polls do goes by them
pub record AreNoted {P : Type 0} (w : BoardView P) (replies : List Reply) : Type 0 where
  pub cursors : (r : ℕ) → cursor_of w r ≡ got_last r None w.log
  pub reads : (r : ℕ) → AreFromLast r None w.log
  pub starts : (u : ℕ) → started_by w u ≡ noted_last u None replies
  pub polls : (u : ℕ) → ArePolled u None replies

-- these lines, each with what it is answered
abbrev pub reply_to : {P : Type 0} → Plans P → BoardView P → Line → Reply
reply_to plans w line = (w.grace.seq, line, (outcome_of plans w line).answer)

abbrev pub replies_to : {P : Type 0} → Plans P → BoardView P → List Line → List Reply
replies_to plans w [] = []
replies_to plans w (line ∷ lines) = reply_to plans w line ∷ replies_to plans ((outcome_of plans w line).world) lines

abbrev pub replies_of : WorldView → List Line → List Reply
replies_of (OfMemb w) lines = replies_to memb_plans w lines
replies_of (OfQsbr w) lines = replies_to qsbr_plans w lines

abbrev pub NotesAreOfTheLatest : WorldView → List Reply → Type 0
NotesAreOfTheLatest (OfMemb w) replies = AreNoted w replies
NotesAreOfTheLatest (OfQsbr w) replies = AreNoted w replies

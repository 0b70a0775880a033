-- What a line is refused for where its actor stands, before anything else is looked at.
use Rattle.std.specs.Prelude.{◌≡◌, Bool, true, false, if◌then◌else◌, is_some, slice_get, Option, Some, None, Result, Err, IfErr}
use Rattle.std.specs.Option.{option_map_or}
use Rattle.rcu_model.specs.declared.refusal.Refusal.{Refusal}
use Rattle.rcu_model.specs.declared.refusal.Refusal.TheVariants.{NotOpen, Busy, WrongFlavour, NoActor}
use Rattle.world_state.specs.declared.line.Answer.{Answer}
use Rattle.world_state.specs.declared.line.Line.{Line}
use Rattle.world_state.specs.declared.line.Line.TheVariants.{Reader, Updater, Worker}
use Rattle.world_state.specs.declared.line.ReaderVerb.{ReaderVerb}
use Rattle.world_state.specs.declared.line.ReaderVerb.TheVariants as reader
use Rattle.world_state.specs.declared.line.UpdaterVerb.{UpdaterVerb}
use Rattle.world_state.specs.declared.line.UpdaterVerb.TheVariants as updater
use Rattle.world_state.specs.declared.updater.Started.{Started}
use Rattle.world_state.specs.Readers.{is_open_in}
use Rattle.world_state.specs.View.{BoardView}
use Rattle.world.specs.declared.actor.Actor.{Actor}
use Rattle.world.specs.declared.actor.Actor.TheVariants as actor
use Rattle.world.specs.Actors.{is_between_steps}
use Rattle.world.specs.Lines.{reads_on, updates_on, works_on}
use Rattle.world.specs.Refusals.{IsOfVerb}
use Rattle.world.specs.Steps.{WorldView, OfMemb, OfQsbr}

-- whose line it is, and whether it goes on with an operation
abbrev pub actor_of : Line → Actor
actor_of (Reader r verb) = actor.Reader r
actor_of (Updater u verb) = actor.Updater u
actor_of (Worker k verb) = actor.Worker k

abbrev pub goes_on : Line → Bool
goes_on (Reader r verb) = reads_on verb
goes_on (Updater u verb) = updates_on verb
goes_on (Worker k verb) = works_on verb

abbrev pub is_there : {P : Type 0} → BoardView P → Actor → Bool
is_there w (actor.Reader r) = is_some (slice_get w.readers r)
is_there w (actor.Updater u) = is_some (slice_get w.updaters u)
is_there w (actor.Worker k) = is_some (slice_get w.workers k)

-- a reader's verb of the other flavour, outside a section, or in one: `online` alone needs to be in none
abbrev pub outside : Bool → Option Refusal
outside is_open = if is_open then None else Some NotOpen

abbrev pub by_section : Bool → Bool → ReaderVerb → Option Refusal
by_section qsbr is_open reader.Lock = if qsbr then Some WrongFlavour else None
by_section qsbr is_open reader.Unlock = if qsbr then Some WrongFlavour else outside is_open
by_section qsbr is_open reader.Online = if qsbr then (if is_open then Some Busy else None) else Some WrongFlavour
by_section qsbr is_open reader.Quiescent = if qsbr then outside is_open else Some WrongFlavour
by_section qsbr is_open reader.Offline = if qsbr then outside is_open else Some WrongFlavour
by_section qsbr is_open (reader.First c) = outside is_open
by_section qsbr is_open reader.Next = outside is_open
by_section qsbr is_open reader.Touch = outside is_open
by_section qsbr is_open reader.GoOn = None

-- of an updater `poll` alone, without a cookie
abbrev pub by_cookie : UpdaterVerb → Option Started → Option Refusal
by_cookie updater.Poll None = Some NotOpen
by_cookie verb started = None

abbrev pub at_rest : {P : Type 0} → Bool → BoardView P → Line → Option Refusal
at_rest qsbr w (Reader r verb) = option_map_or (λ v. by_section qsbr (is_open_in qsbr w.layout v.word) verb) (slice_get w.readers r) None
at_rest qsbr w (Updater u verb) = option_map_or (λ x. by_cookie verb x.started) (slice_get w.updaters u) None
at_rest qsbr w (Worker k verb) = None

-- in an operation each verb but `.` is busy; in none `.` is not open, and else it goes by the verb
abbrev pub by_operation : Bool → Bool → Option Refusal → Option Refusal
by_operation on busy rests = if on then (if busy then None else Some NotOpen) else (if busy then Some Busy else rests)

abbrev pub refusal_in : {P : Type 0} → Bool → BoardView P → Line → Option Refusal
refusal_in qsbr w line =
    if is_there w (actor_of line) then by_operation (goes_on line) (is_between_steps w (actor_of line)) (at_rest qsbr w line)
    else Some NoActor

abbrev pub standing_refusal : WorldView → Line → Option Refusal
standing_refusal (OfMemb w) line = refusal_in false w line
standing_refusal (OfQsbr w) line = refusal_in true w line

-- the line is refused so; or for no such reason
abbrev pub MeetsStanding : Option Refusal → Result Answer Refusal → Type 0
MeetsStanding (Some e) result = result ≡ Err e
MeetsStanding None result = IfErr result IsOfVerb

-- Which line a walk draws.
use Rattle.std.specs.Prelude.{ℕ, zero, suc, List, [], ◌∷◌, ◌++◌, ◌+◌, ◌-◌, ◌%◌, ◌<◌, ◌==◌, ◌&&◌, nat_le, nat_lt, if◌then◌else◌, Bool, true, false, Option}
use Rattle.std.specs.Option.{option_map_or}
use Rattle.rand_core.specs.Pcg32Seed.{pcg32_seed}
use Rattle.rand_pcg.specs.Lcg.{Lcg}
use Rattle.rand_pcg.specs.Pcg.{pcg32, pcg32_of_seed}
use Rattle.rcu_model.specs.declared.event.ObjectId.{ObjectId}
use Rattle.world_state.specs.declared.config.Config.{Config}
use Rattle.world_state.specs.declared.config.Flavour.{Flavour}
use Rattle.world_state.specs.declared.config.Flavour.TheVariants.{Memb, Qsbr}
use Rattle.world_state.specs.declared.line.Line.{Line}
use Rattle.world_state.specs.declared.line.Line.TheVariants as line
use Rattle.world_state.specs.declared.line.ReaderVerb.{ReaderVerb}
use Rattle.world_state.specs.declared.line.ReaderVerb.TheVariants as reader
use Rattle.world_state.specs.declared.line.UpdaterVerb.{UpdaterVerb}
use Rattle.world_state.specs.declared.line.UpdaterVerb.TheVariants as updater
use Rattle.world_state.specs.declared.line.WorkerVerb.TheVariants as worker
use Rattle.world.specs.declared.actor.Actor.{Actor}
use Rattle.world.specs.declared.actor.Actor.TheVariants.{Reader, Updater, Worker}
use Rattle.world.specs.Actors.{is_in_operation, objects_given}
use Rattle.world.specs.Steps.{WorldView, fresh_world, world_after_lines}
use Rattle.torture_commands.specs.declared.command.Stop.{Stop}
use Rattle.torture_commands.specs.declared.command.Walk.{Walk}

-- ---- what is drawn from: the generator of a seed, and a word's remainder

-- what is drawn, and the generator after it
abbrev pub Drawn : Type 0 → Type 0
Drawn X = X × Lcg

abbrev pub seeded : ℕ → Lcg
seeded seed = pcg32_of_seed (pcg32_seed 16 seed)

abbrev pub draw_below : ℕ → Lcg → Drawn ℕ
draw_below bound generator = ((pcg32 generator).0 % bound, (pcg32 generator).1)

-- what a number that was drawn stands for
abbrev pub drawn_as : {X Y : Type 0} → (X → Y) → Drawn X → Drawn Y
drawn_as meaning drawn = (meaning drawn.0, drawn.1)

-- ---- who makes the line

-- the actor is there
abbrev pub IsNumberedAmong : Config → Actor → Type 0
IsNumberedAmong config (Reader n) = n < config.readers
IsNumberedAmong config (Updater n) = n < config.updaters
IsNumberedAmong config (Worker n) = n < config.workers

abbrev pub actors_in : Config → ℕ
actors_in config = config.readers + config.updaters + config.workers

-- readers first, then updaters, then workers
abbrev pub actor_numbered : Config → ℕ → Actor
actor_numbered config n =
    if nat_lt n config.readers then Reader n
    else if nat_lt n (config.readers + config.updaters) then Updater (n - config.readers)
    else Worker (n - (config.readers + config.updaters))

-- the actor of this number gets no line from that one on
abbrev pub has_stopped : Option Stop → ℕ → ℕ → Bool
has_stopped stop number actor = option_map_or (λ stop. stop.actor == actor && nat_le stop.from number) stop false

-- in the place of one who has stopped comes the next one, and after the last the first
abbrev pub who_comes : Walk → ℕ → ℕ → ℕ
who_comes walk number actor =
    if has_stopped walk.stop number actor then (actor + 1) % actors_in walk.config else actor

abbrev pub draw_actor : Walk → ℕ → Lcg → Drawn Actor
draw_actor walk number generator =
    let who = draw_below (actors_in walk.config) generator in
    drawn_as (λ n. actor_numbered walk.config (who_comes walk number n)) who

-- ---- what it is told, where it is in no operation

abbrev pub object_numbered : ℕ → ObjectId
object_numbered n = record { 0 = n }

-- one of the objects given so far, or 0, which is none
abbrev pub draw_object : ℕ → Lcg → Drawn ObjectId
draw_object given generator = drawn_as object_numbered (draw_below (given + 1) generator)

abbrev pub memb_verb : ℕ → Drawn ℕ → Drawn ReaderVerb
memb_verb chains (n, generator) =
    if n == 0 then (reader.Lock, generator)
    else if n == 1 then (reader.Unlock, generator)
    else if n == 2 then drawn_as reader.First (draw_below chains generator)
    else if n == 3 then (reader.Next, generator)
    else (reader.Touch, generator)

abbrev pub qsbr_verb : ℕ → Drawn ℕ → Drawn ReaderVerb
qsbr_verb chains (n, generator) =
    if n == 0 then (reader.Online, generator)
    else if n == 1 then (reader.Quiescent, generator)
    else if n == 2 then (reader.Offline, generator)
    else if n == 3 then drawn_as reader.First (draw_below chains generator)
    else if n == 4 then (reader.Next, generator)
    else (reader.Touch, generator)

abbrev pub draw_reader_verb : Flavour → ℕ → Lcg → Drawn ReaderVerb
draw_reader_verb Memb chains generator = memb_verb chains (draw_below 5 generator)
draw_reader_verb Qsbr chains generator = qsbr_verb chains (draw_below 6 generator)

abbrev pub updater_verb : ℕ → ℕ → Drawn ℕ → Drawn UpdaterVerb
updater_verb chains given (n, generator) =
    if n == 0 then drawn_as updater.Push (draw_below chains generator)
    else if n == 1 then drawn_as updater.Replace (draw_object given generator)
    else if n == 2 then drawn_as updater.Cut (draw_object given generator)
    else if n == 3 then drawn_as updater.Retire (draw_object given generator)
    else if n == 4 then (updater.Sync, generator)
    else if n == 5 then (updater.Start, generator)
    else if n == 6 then (updater.Poll, generator)
    else (updater.Barrier, generator)

abbrev pub draw_updater_verb : ℕ → ℕ → Lcg → Drawn UpdaterVerb
draw_updater_verb chains given generator = updater_verb chains given (draw_below 8 generator)

-- ---- the line

-- An actor in an operation goes on, and a worker in none takes: for these nothing more is drawn.
abbrev pub line_of : Config → ℕ → Bool → Drawn Actor → Drawn Line
line_of config given true (Reader r, generator) = (line.Reader r reader.GoOn, generator)
line_of config given true (Updater u, generator) = (line.Updater u updater.GoOn, generator)
line_of config given true (Worker k, generator) = (line.Worker k worker.GoOn, generator)
line_of config given false (Reader r, generator) = drawn_as (line.Reader r) (draw_reader_verb config.flavour config.chains generator)
line_of config given false (Updater u, generator) = drawn_as (line.Updater u) (draw_updater_verb config.chains given generator)
line_of config given false (Worker k, generator) = (line.Worker k worker.Take, generator)

-- the line of this number, in this world
abbrev pub draw_line : Walk → ℕ → WorldView → Lcg → Drawn Line
draw_line walk number world generator =
    let actor = draw_actor walk number generator in
    line_of walk.config (objects_given world) (is_in_operation world actor.0) actor

-- ---- the lines

-- the line of this number comes after those drawn so far, in the world after them
abbrev pub with_next : Walk → ℕ → Drawn (List Line) → Drawn (List Line)
with_next walk number (lines, generator) =
    drawn_as (λ line. lines ++ line ∷ []) (draw_line walk number (world_after_lines (fresh_world walk.config) lines) generator)

-- the first lines of a walk, this many
unfoldable pub draw_lines : Walk → ℕ → Drawn (List Line)
draw_lines walk zero = ([], seeded walk.seed)
draw_lines walk (suc n) = with_next walk (suc n) (draw_lines walk n)

-- What the world tells of an actor, and of the numbers of objects.
use Rattle.std.specs.Prelude.{ℕ, ◌-◌, Bool, false, not, is_some, length, slice_get}
use Rattle.std.specs.Option.{option_map_or}
use Rattle.world_state.specs.View.{BoardView}
use Rattle.world.specs.declared.actor.Actor.{Actor}
use Rattle.world.specs.declared.actor.Actor.TheVariants.{Reader, Updater, Worker}
use Rattle.world.specs.Lines.{is_idle}
use Rattle.world.specs.Steps.{WorldView, OfMemb, OfQsbr}
use Rattle.world.specs.Workers.{is_resting}

-- The actor is there, and stands between two steps of an operation: a reader has loaded what it has yet to store, an
-- updater has begun and not ended, a worker holds a batch.
abbrev pub is_between_steps : {P : Type 0} → BoardView P → Actor → Bool
is_between_steps w (Reader r) = option_map_or (λ v. is_some v.copy) (slice_get w.readers r) false
is_between_steps w (Updater u) = option_map_or (λ x. not (is_idle x.place)) (slice_get w.updaters u) false
is_between_steps w (Worker k) = option_map_or (λ x. not (is_resting x.core)) (slice_get w.workers k) false

abbrev pub is_in_operation : WorldView → Actor → Bool
is_in_operation (OfMemb w) actor = is_between_steps w actor
is_in_operation (OfQsbr w) actor = is_between_steps w actor

-- the numbers given to objects, from 1 on: at 0 stands one that is none
abbrev pub objects_given : WorldView → ℕ
objects_given (OfMemb w) = length w.objects - 1
objects_given (OfQsbr w) = length w.objects - 1

-- The order in which a world gives its numbers.
use Rattle.std.specs.Prelude.{◌≡◌, ℕ, ◌-◌, ◌==◌, if◌then◌else◌, List, ◌++◌, length, Option, Some, None, IsPermutation}
use Rattle.std.specs.List.{filter_map, range_with_len}
use Rattle.rcu_model.specs.declared.event.Event.{Event}
use Rattle.rcu_model.specs.declared.event.Event.TheVariants.{Open, Ask, Bar, Push, Replace}
use Rattle.world_state.specs.declared.updater.Publishing.{Publishing}
use Rattle.world_state.specs.declared.updater.Publishing.TheVariants as publishing
use Rattle.world_state.specs.declared.updater.UpdaterPlace.{UpdaterPlace}
use Rattle.world_state.specs.declared.updater.UpdaterPlace.TheVariants.{Publishes}
use Rattle.world_state.specs.declared.updater.UpdaterState.{UpdaterState}
use Rattle.world_state.specs.View.{BoardView}
use Rattle.world.specs.Steps.{WorldView, OfMemb, OfQsbr}

-- the number of the section that opens, if it is this reader's; of the ask; of the barrier; of the object that comes in
abbrev pub ordinal_of : ℕ → Event → Option ℕ
ordinal_of r (Open s) = if s.reader == r then Some s.ordinal else None
ordinal_of r e = None

abbrev pub ask_of : Event → Option ℕ
ask_of (Ask a) = Some a
ask_of e = None

abbrev pub barrier_of : Event → Option ℕ
barrier_of (Bar b) = Some b
barrier_of e = None

abbrev pub object_of : Event → Option ℕ
object_of (Push c new) = Some new.0
object_of (Replace c old new) = Some new.0
object_of e = None

-- they are 1, 2, 3, .. in this order
abbrev pub CountUp : List ℕ → Type 0
CountUp numbers = numbers ≡ range_with_len 1 (length numbers)

-- the sections of each reader, the asks and the barriers are numbered 1, 2, 3, .. as they begin
pub record IsCounted (log : List Event) : Type 0 where
  pub sections : (r : ℕ) → CountUp (filter_map (ordinal_of r) log)
  pub asks : CountUp (filter_map ask_of log)
  pub barriers : CountUp (filter_map barrier_of log)

-- the number of the object that an updater has made, and is yet to bring in
abbrev pub new_of : Publishing → ℕ
new_of (publishing.Push new) = new.0
new_of (publishing.Replace old new) = new.0

abbrev pub made_at : {P : Type 0} → UpdaterPlace P → Option ℕ
made_at (Publishes what) = Some (new_of what)
made_at place = None

abbrev pub made_by : {P : Type 0} → UpdaterState P → Option ℕ
made_by x = made_at x.place

-- the objects that came in, and those that updaters are yet to bring in, have the numbers from 1 to the last one given,
-- each once
abbrev pub AreGivenOnce : {P : Type 0} → BoardView P → Type 0
AreGivenOnce w =
    IsPermutation (range_with_len 1 (length w.objects - 1))
    (filter_map object_of w.log ++ filter_map made_by w.updaters)

abbrev pub ObjectsAreGivenOnce : WorldView → Type 0
ObjectsAreGivenOnce (OfMemb w) = AreGivenOnce w
ObjectsAreGivenOnce (OfQsbr w) = AreGivenOnce w

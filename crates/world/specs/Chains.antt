-- The step table's rows of chains: `first` and `next` of readers, and what updaters publish.
use Rattle.std.specs.Prelude.{◌%◌, ◌==◌, ◌&&◌, ℕ, Bool, not, if◌then◌else◌, [], ◌∷◌, length, slice_get, Option, Some, None, Ok}
use Rattle.rcu_model.specs.declared.event.Event.TheVariants.{First, Next, Push, Replace, Cut}
use Rattle.rcu_model.specs.declared.event.ObjectId.{ObjectId}
use Rattle.rcu_model.specs.declared.refusal.Refusal.TheVariants.{NoPlace}
use Rattle.world_state.specs.declared.reader.ReaderState.{ReaderState}
use Rattle.world_state.specs.declared.reader.ReaderStep.{ReaderStep}
use Rattle.world_state.specs.declared.object.ObjectState.{ObjectState}
use Rattle.world_state.specs.declared.updater.UpdaterState.{UpdaterState}
use Rattle.world_state.specs.declared.updater.UpdaterPlace.TheVariants.{Idle, Publishes}
use Rattle.world_state.specs.declared.updater.Publishing.{Publishing}
use Rattle.world_state.specs.declared.updater.Publishing.TheVariants as publishing
use Rattle.world_state.specs.declared.change.Change.{Change}
use Rattle.world_state.specs.declared.change.Change.TheVariants.{Begin, Publish}
use Rattle.world_state.specs.Readers.{section_of, found_row}
use Rattle.world_state.specs.Objects.{fresh_object, is_linked}
use Rattle.world_state.specs.View.{BoardView}
use Rattle.world.specs.Row.{Row, refused_if, guarded, makes, refused, unreached}

-- `first`, of the head that was loaded, and `next`, of the object under the cursor
abbrev pub first_row : ℕ → ReaderState → ℕ → Option (Option ObjectId) → Row ReaderStep
first_row r v c None = refused NoPlace
first_row r v c (Some head) = makes (found_row v head (First (section_of r v.ordinal) c head))

abbrev pub next_row : ℕ → ReaderState → ObjectId → Option ObjectState → Row ReaderStep
next_row r v o None = unreached NoPlace
next_row r v o (Some x) = makes (found_row v x.link (Next (section_of r v.ordinal) o x.link))

abbrev pub next_from : {P : Type 0} → BoardView P → ℕ → ReaderState → Option ObjectId → Row ReaderStep
next_from w r v None = refused NoPlace
next_from w r v (Some o) = next_row r v o (slice_get w.objects o.0)

-- whether the updater writes the chain
abbrev pub writes : {P : Type 0} → BoardView P → ℕ → ℕ → Bool
writes w u c = (c % length w.updaters) == u

abbrev pub next_object : {P : Type 0} → BoardView P → ObjectId
next_object w = record { 0 = length w.objects }

-- `push`
abbrev pub push_row : {P : Type 0} → BoardView P → ℕ → UpdaterState P → ℕ → Option (Option ObjectId) → Row (Change P)
push_row w u x c None = refused NoPlace
push_row w u x c (Some head) =
    guarded (refused_if (not (writes w u c)) NoPlace ∷ [])
    (Ok (Begin u (record x { place = Publishes (publishing.Push (next_object w)) }) (fresh_object c head)))

-- the object, where it is linked in a chain that the updater writes
abbrev pub linked_by : {P : Type 0} → BoardView P → ℕ → Option ObjectState → Option ObjectState
linked_by w u None = None
linked_by w u (Some y) = if is_linked y.stage && writes w u y.chain then Some y else None

-- `replace`
abbrev pub replace_row : {P : Type 0} → BoardView P → ℕ → UpdaterState P → ObjectId → Option ObjectState → Row (Change P)
replace_row w u x o None = refused NoPlace
replace_row w u x o (Some y) =
    makes (Begin u (record x { place = Publishes (publishing.Replace o (next_object w)) }) (fresh_object y.chain y.link))

-- `cut`
abbrev pub cut_row : {P : Type 0} → ℕ → UpdaterState P → ObjectId → Option ObjectState → Row (Change P)
cut_row u x o None = refused NoPlace
cut_row u x o (Some y) =
    makes (Publish u x (record { chain = y.chain; before = y.before; after = y.link; leaves = Some o; enters = None }) (Cut y.chain o))

-- the second step of `push`, of the new object, and of `replace`, of the old one
abbrev pub pushed_row : {P : Type 0} → ℕ → UpdaterState P → ObjectId → Option ObjectState → Row (Change P)
pushed_row u x new None = unreached NoPlace
pushed_row u x new (Some y) =
    makes (Publish u x (record { chain = y.chain; before = None; after = y.link; leaves = None; enters = Some new }) (Push y.chain new))

abbrev pub replaced_row : {P : Type 0} → ℕ → UpdaterState P → ObjectId → ObjectId → Option ObjectState → Row (Change P)
replaced_row u x old new None = unreached NoPlace
replaced_row u x old new (Some y) =
    makes (Publish u x (record { chain = y.chain; before = y.before; after = y.link; leaves = Some old; enters = Some new }) (Replace y.chain old new))

abbrev pub published : {P : Type 0} → BoardView P → ℕ → UpdaterState P → Publishing → Row (Change P)
published w u x (publishing.Push new) = pushed_row u (record x { place = Idle }) new (slice_get w.objects new.0)
published w u x (publishing.Replace old new) = replaced_row u (record x { place = Idle }) old new (slice_get w.objects old.0)

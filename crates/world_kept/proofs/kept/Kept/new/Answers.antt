use Rattle.world_kept.proofs.Cited.{◌≡◌, ℕ, refl, ap₂, Option, Some, None, WorkerCore, WorkerState, new_worker, Started, UpdaterState, UpdaterPlace, Idle, Publishes, Syncs, Retires, Bars, idle}
use Rattle.call_rcu_worker.specs.declared.worker.WorkerCore.TheVariants as worker
use Rattle.world_kept.proofs.kept.Kept.new.Goals as goal

abbrev IsIdle : {P : Type 0} → UpdaterPlace P → Type 0
IsIdle Idle = Unit {0}
IsIdle (Publishes what) = ⊥
IsIdle (Syncs ask core) = ⊥
IsIdle (Retires o due) = ⊥
IsIdle (Bars b) = ⊥

idle_is : {P : Type 0} (p : UpdaterPlace P) → IsIdle p → p ≡ Idle
idle_is Idle h = refl
idle_is (Publishes what) h = absurd h
idle_is (Syncs ask core) h = absurd h
idle_is (Retires o due) h = absurd h
idle_is (Bars b) h = absurd h

abbrev HasNone : {X : Type 0} → Option X → Type 0
HasNone None = Unit {0}
HasNone (Some s) = ⊥

none_is : {X : Type 0} (s : Option X) → HasNone s → s ≡ None
none_is None h = refl
none_is (Some s) h = absurd h

idle_by : {P : Type 0} (y : UpdaterState P) → IsIdle y.place → HasNone y.started → y ≡ idle
idle_by {P} y p s = ap₂ (λ (q : UpdaterPlace P) (t : Option Started). let z : UpdaterState P = record { place = q; started = t } in z) (idle_is y.place p) (none_is y.started s)

abbrev IsResting : {P : Type 0} → WorkerCore P Unit → Type 0
IsResting worker.Idle = Unit {0}
IsResting (worker.Syncs sync tickets) = ⊥
IsResting (worker.Pops tickets) = ⊥
IsResting (worker.Runs tickets ticket item) = ⊥
IsResting (worker.Ran tickets ticket item) = ⊥
IsResting (worker.Counts tickets ticket) = ⊥

resting_is : {P : Type 0} (core : WorkerCore P Unit) → IsResting core → core ≡ worker.Idle
resting_is worker.Idle h = refl
resting_is (worker.Syncs sync tickets) h = absurd h
resting_is (worker.Pops tickets) h = absurd h
resting_is (worker.Runs tickets ticket item) h = absurd h
resting_is (worker.Ran tickets ticket item) h = absurd h
resting_is (worker.Counts tickets ticket) h = absurd h

resting_by : {P : Type 0} (y : WorkerState P) → y.ask ≡ 0 → IsResting y.core → y ≡ new_worker
resting_by {P} y a r = ap₂ (λ (n : ℕ) (core : WorkerCore P Unit). let z : WorkerState P = record { ask = n; core = core } in z) a (resting_is y.core r)

pub returns-clause-ok : goal.returns-clause-ok
returns-clause-ok g c =
    let readers = (rw c.new.ensures at c.in-Ok.ensures.items_if_clones_equal) (λ y same. same) in
    let updaters = (rw c.new-2.ensures at c.in-Ok-vec.ensures.items_if_clones_equal) (λ y same. idle_by y same.0 same.1) in
    let workers = (rw c.new-3.ensures at c.in-Ok-vec-2.ensures.items_if_clones_equal) (λ y same. resting_by y same.0 same.1) in
    let queues = c.in_ok-queues.ensures.ok in
    let heads = c.in-Ok-vec-3.ensures.items_if_clones_equal (λ y same. none_is y same) in
    rw (readers, updaters, workers, queues, heads, c.in-Ok-vec-4.ensures.items, c.fresh.ensures, c.new-4.ensures.items) refl

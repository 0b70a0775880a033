-- What the proofs of this crate use of other crates.
pub use Rattle.call_rcu_worker.specs.declared.worker.WorkerCore.{WorkerCore}
pub use Rattle.std.proofs.Common.{List, None, Option, Some, ap, ap₂, arith, get_or-set_same, inr, length, refl, replicate, rules, slice_get, slice_set, subst, sym, ℕ, ◌<◌, ◌∙◌, ◌≡◌}
pub use Rattle.std.proofs.Math.ListN.{length-set}
pub use Rattle.std.proofs.lemmas.List.{replicate_more}
pub use Rattle.std.proofs.lemmas.Option.{slice_get-get_or, slice_get_within}
pub use Rattle.world_state.specs.Objects.{spliced_heads, spliced_objects}
pub use Rattle.world_state.specs.Queues.{NeedsPlace, changed_at, empty_queue_state, held_at, held_by, new_worker}
pub use Rattle.world_state.specs.View.{BoardView, changed, idle}
pub use Rattle.world_state.specs.declared.change.Change.TheVariants.{Hold}
pub use Rattle.world_state.specs.declared.queue.QueueState.{QueueState}
pub use Rattle.world_state.specs.declared.updater.Started.{Started}
pub use Rattle.world_state.specs.declared.updater.UpdaterPlace.{UpdaterPlace}
pub use Rattle.world_state.specs.declared.updater.UpdaterPlace.TheVariants.{Bars, Idle, Publishes, Retires, Syncs}
pub use Rattle.world_state.specs.declared.updater.UpdaterState.{UpdaterState}
pub use Rattle.world_state.specs.declared.worker.WorkerState.{WorkerState}

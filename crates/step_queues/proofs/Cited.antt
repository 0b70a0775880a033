-- What the proofs of this crate use of other crates.
pub use Rattle.atomic_table.proofs.Lists.{at_last, at_longer, exchanged}
pub use Rattle.atomic_table.specs.Table.{Act, Allows, Me, State, Valid, carried_after, keeps, step, stepped}
pub use Rattle.live_rule.proofs.Lemmas.{Calm, QueueStep, WorkStep, at_end, calm_close, calm_object, calm_same, chains_kept, guards_far, header_same, heap_beside, lines_far, look_all, looks, numbers_stay, object_stays, queue_part, queues_kept, stores, stores_beside, work_part, works_kept}
pub use Rattle.live_rule.proofs.live_log.Lemmas.{below, grows_log, line_grows}
pub use Rattle.live_rule.proofs.rcu_model.Lemmas.{at_number_other, at_number_same, has_object_in, in_objects}
pub use Rattle.live_rule.specs.Claims.{ClaimsObject, ClaimsQueue, ClaimsWork, KnowsObject, KnowsQueue, KnowsWork, object, queue, work}
pub use Rattle.live_rule.specs.Objects.{HoldWords, QueueWords}
pub use Rattle.live_rule.specs.Places.{cell_at, closed_at, finished_at, head_at, hold_at, note_at, queued_at, work_at}
pub use Rattle.live_rule.specs.Rights.{IsInQueue, IsRetired, IsWorker, cell_in, closed_in, finished_in, object_in, queue_in, queued_in, work_in}
pub use Rattle.live_rule.specs.Rule.{KeepsRule}
pub use Rattle.live_rule.specs.Seats.{but_work}
pub use Rattle.live_rule.specs.Steps.{IsKnown, exchanged_view, looked_view, stored_view}
pub use Rattle.live_rule.specs.declared.rights.QueueRight.{QueueRight}
pub use Rattle.live_rule.specs.declared.rights.RecordRight.{RecordRight}
pub use Rattle.live_rule.specs.declared.rights.WorkRight.{WorkRight}
pub use Rattle.live_rule.specs.declared.view.Sizes.{Sizes}
pub use Rattle.live_rule.specs.declared.view.View.{View}
pub use Rattle.live_rule.specs.live_log.Log.{Begins, HaveRun, IsLiveRun, Leads, Log, Objects, Spot, chain_note, closed_of, head, line_of, link, objects_of, state_of}
pub use Rattle.live_rule.specs.live_log.declared.callback_id.CallbackId.{CallbackId}
pub use Rattle.live_rule.specs.live_log.declared.event.LiveEvent.{LiveEvent}
pub use Rattle.live_rule.specs.live_log.declared.event.LiveEvent.TheVariants.{CloseQueue, Object}
pub use Rattle.live_rule.specs.live_log.declared.event.ObjectEvent.TheVariants.{Queue}
pub use Rattle.live_rule.specs.rcu_model.Sets.{In}
pub use Rattle.live_rule.specs.rcu_model.declared.event.ObjectId.{ObjectId}
pub use Rattle.std.proofs.Common.{Bool, List, Option, [], ap, arith, cond, eq-eqb, get_or, get_or-set_other, get_or-set_same, inl, inr, length, ne_eqb, refl, set, subst, sym, ℕ, ⊎_elim, ◌++◌, ◌+◌, ◌<◌, ◌==◌, ◌∙◌, ◌∷◌, ◌≡◌, ◌≢◌, ◌≤◌}
pub use lib.ListN.{get_elem?, length-append}
pub use mathlib.Core.Logic.{dite}
pub use mathlib.Core.Option.{some}
pub use native.Mathlib.Decide.{ℕ_discrete}
pub use prog.Atomic.{either}

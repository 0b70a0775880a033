-- What the proofs of this crate use of other crates.
pub use Rattle.atomic_table.proofs.Lists.{exchanged}
pub use Rattle.atomic_table.specs.Table.{Act, Allows, Me, State, Valid, carried_after, keeps, step, stepped}
pub use Rattle.live_rule.proofs.Lemmas.{Calm, NumbersGo, ObjectStep, Unclaimed, apart, calm_object, calm_same, chains_kept, goes_on, guards_far, header_same, heap_beside, heap_far, lines_far, look_all, looks, object_stays, queues_kept, same_object_all, stores, works_kept}
pub use Rattle.live_rule.proofs.live_log.Lemmas.{begins_trans, by_object, kept_log, ready_stays}
pub use Rattle.live_rule.proofs.rcu_model.Lemmas.{has_object_in, in_objects}
pub use Rattle.live_rule.specs.Claims.{ClaimsObject, KnowsObject, object}
pub use Rattle.live_rule.specs.Objects.{Header, IsAlive, IsFreeWord, IsOwnNumber, ObjectWords, free_word, fresh_word, last_in, next_number, retired_word}
pub use Rattle.live_rule.specs.Places.{cell_at, closed_at, finished_at, head_at, hold_at, note_at, queued_at, records_from, work_at}
pub use Rattle.live_rule.specs.Rights.{IsFresh, IsQueued, IsRetired, IsUnlinked, KnowsChains, cell_in, link_in, object_in, payload_in}
pub use Rattle.live_rule.specs.Rule.{KeepsRule}
pub use Rattle.live_rule.specs.Seats.{but_object}
pub use Rattle.live_rule.specs.Steps.{IsKnown, Went, exchanged_view, looked_view, stored_view}
pub use Rattle.live_rule.specs.declared.rights.RecordRight.{RecordRight}
pub use Rattle.live_rule.specs.declared.rights.RecordRight.TheVariants.{Fresh, Nothing, Queued, Retired, Unlinked}
pub use Rattle.live_rule.specs.declared.view.Sizes.{Sizes}
pub use Rattle.live_rule.specs.declared.view.View.{View}
pub use Rattle.live_rule.specs.live_log.Log.{IsLiveRun, Leads, Log, Objects, Spot, chain_note, closed_of, head, line_of, link, objects_of, record_of, state_of}
pub use Rattle.live_rule.specs.live_log.declared.event.LiveEvent.{LiveEvent}
pub use Rattle.live_rule.specs.live_log.declared.event.LiveEvent.TheVariants.{Object}
pub use Rattle.live_rule.specs.live_log.declared.event.ObjectEvent.TheVariants.{Retire, Run}
pub use Rattle.live_rule.specs.rcu_model.Sets.{In}
pub use Rattle.live_rule.specs.rcu_model.declared.event.ObjectId.{ObjectId}
pub use Rattle.std.proofs.Common.{Bool, List, Option, [], ap, arith, get_or, get_or-set_other, get_or-set_same, inl, inr, length-set, refl, set, subst, suc, sym, zero, ℕ, ⊎_elim, ◌%◌, ◌*◌, ◌+◌, ◌/◌, ◌<◌, ◌==◌, ◌∙◌, ◌∷◌, ◌≡◌, ◌≢◌, ◌≤◌, ◌⊎◌}
pub use Rattle.std.proofs.Math.Nat.{add-mod_left, add-mod_right, mod-eq_of_lt}
pub use lib.ListN.{get_elem?}
pub use mathlib.Core.Logic.{dite}
pub use native.Mathlib.Decide.{ℕ_discrete}
pub use prog.Atomic.{either}

-- What the proofs of this crate use of other crates.
pub use Rattle.atomic_table.proofs.Lists.{exchanged}
pub use Rattle.atomic_table.specs.Table.{Act, Allows, Me, State, Valid, carried_after, keeps, step, stepped}
pub use Rattle.live_rule.proofs.Lemmas.{Calm, Enters, SameChain, Unclaimed, alive_linked, all_known, calm_note, calm_object, calm_same, chain_part, claims_own, free_cell, goes_on, guards_far, heap_spliced, here, knows_first, knows_own, lines_far, look_all, looks, lows, object_stays, queues_kept, ref_same, same_object_moved, same_spot, stores, stores_beside, unclaimed, works_kept}
pub use Rattle.live_rule.proofs.live_log.Lemmas.{Moved, begins_trans, chain_used, cut_moves, falls_cut, falls_push, falls_replaced, falls_same, first_linked, first_used, head_no_link, kept_log, last_opened, leads_still, link_is, linked_here, next_linked, next_used, not_has, note_stays, open_inside, protected, push_moves, replace_moves, run_of, some_next, was_later, was_used}
pub use Rattle.live_rule.proofs.rcu_model.Lemmas.{Once, at_number_same, at_object_other, at_object_same, follows_has, has_object_in, has_section_in, in_objects, none_some, some_is}
pub use Rattle.live_rule.specs.Claims.{ClaimsChain, ClaimsObject, ClaimsSlot, KnowsChain, KnowsObject, KnowsOwned, KnowsSlot, chain, object, slot}
pub use Rattle.live_rule.specs.Objects.{Header, HoldWords, IsAlive, IsLive, IsPayload, QueueWords, ref, spot_at, last_in}
pub use Rattle.live_rule.specs.Places.{cell_at, chains_from, closed_at, finished_at, head_at, hold_at, note_at, queued_at, words_of, work_at}
pub use Rattle.live_rule.specs.Readers.{Fits}
pub use Rattle.live_rule.specs.Rights.{AreAsKnown, IsFresh, IsListed, IsWriter, cell_in, count_in, link_in, object_in, own_in, payload_in, word_in}
pub use Rattle.live_rule.specs.Rule.{KeepsRule}
pub use Rattle.live_rule.specs.Seats.{lent_chains}
pub use Rattle.live_rule.specs.Steps.{Went, exchanged_view, looked_view, stored_view}
pub use Rattle.live_rule.specs.declared.rights.ChainRight.{ChainRight}
pub use Rattle.live_rule.specs.declared.rights.RecordRight.{RecordRight}
pub use Rattle.live_rule.specs.declared.rights.RecordRight.TheVariants.{Unlinked}
pub use Rattle.live_rule.specs.declared.rights.SlotRight.{SlotRight}
pub use Rattle.live_rule.specs.declared.view.Sizes.{Sizes}
pub use Rattle.live_rule.specs.declared.view.View.{View}
pub use Rattle.live_rule.specs.live_log.Keys.{Falls, key_of, keyed, rank_of}
pub use Rattle.live_rule.specs.live_log.Log.{Begins, Follows, IsLiveRun, Leads, Log, MayFollow, Objects, Spot, WasLinked, chain_note, head, line_of, link, objects_of, open_of, record_of, section, spot_of, state_of}
pub use Rattle.live_rule.specs.live_log.declared.event.LiveEvent.{LiveEvent}
pub use Rattle.live_rule.specs.live_log.declared.event.LiveEvent.TheVariants.{ChainNote, Object}
pub use Rattle.live_rule.specs.live_log.declared.event.ObjectEvent.{ObjectEvent}
pub use Rattle.live_rule.specs.live_log.declared.event.ObjectEvent.TheVariants.{Cut, Push, Replace}
pub use Rattle.live_rule.specs.rcu_model.Machine.{IsOpen}
pub use Rattle.live_rule.specs.rcu_model.Sets.{In, IsPlace, at_object, first_of, follows, next_of, replaced, without_object}
pub use Rattle.live_rule.specs.rcu_model.declared.event.ObjectId.{ObjectId}
pub use Rattle.std.proofs.Common.{Bool, List, None, Option, Some, [], ap, arith, cond, eq-eqb, eqb, false, get_or, get_or-set_other, get_or-set_same, inl, inr, length, map, ne_eqb, refl, set, subst, sym, true, ℕ, ⊎_elim, ◌%◌, ◌+◌, ◌/◌, ◌<◌, ◌==◌, ◌||◌, ◌∙◌, ◌∷◌, ◌≡◌, ◌≢◌, ◌≤◌, ◌⊎◌}
pub use Rattle.std.proofs.lemmas.List.{length-map}
pub use Rattle.std.proofs.lemmas.Map.Steps.{length-le_from_distinct_below}
pub use Rattle.std.specs.List.{AllByRecursion, list_any}
unfoldable pub use Rattle.std.specs.List.{IsDistinct}
pub use Rattle.std.specs.Option.{option_or}
pub use Rattle.std.specs.Prelude.{IfSome}
pub use Rattle.step_records.specs.Records.{linked_view}
pub use lib.ListN.{get_elem?}
pub use mathlib.Core.Logic.{dite}
pub use native.Mathlib.Decide.{ℕ_discrete}
pub use prog.Atomic.{either}

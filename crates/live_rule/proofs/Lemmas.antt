-- The lemmas of this crate that crates above it cite.
pub use Rattle.live_rule.proofs.Moves.{each_set, at_end, begins_nothing, begins_same, Unclaimed, Part, NoneShared, Of, Both, Rule, moves, looks, splits, joins}
pub use Rattle.live_rule.proofs.Frames.{Calm, calm_same, calm_object, calm_note, calm_close, has_more, ref_same, header_same, apart, NumbersGo, numbers_stay, Beside, heap_beside, heap_far, lines_far, guards_far, SameChain, SameSlot, SameGrace, saw_later, SameQueue, SameWork, SameObject, same_object_all, slot_part, grace_part, chain_part, queue_part, work_part, object_part, reading_calm, slot_calm, grace_calm, others}
pub use Rattle.live_rule.proofs.Stores.{PartStep, kept_part, After, ChainStep, ObjectStep, QueueStep, WorkStep, knew_chain, knew_object, knew_queue, knew_work, chains_kept, queues_kept, works_kept, object_stays, objects_kept, stores, stores_beside, look_all}
pub use Rattle.live_rule.proofs.Readers.{Quiet, quiet_same, heap_quiet, lines_quiet, chain_quiet, object_quiet, queue_quiet, work_quiet, SlotStep, GraceStep, slots_kept, grace_kept, own_slot, gained_slot, given_slot, claimed_bit, own_grace, low_stores, low_loads, Apart}
pub use Rattle.live_rule.proofs.Splices.{Enters, heap_spliced, same_object_moved, free_cell, same_spot}
pub use Rattle.live_rule.proofs.Seats.{tells, tells_changes, cuts_object, cuts_chains, cuts_lent, cuts_spare_queue, cuts_grace, joins_all, learns, learns_changes, takes_object, enters, starts_zero}
pub use Rattle.live_rule.proofs.Chains.{alive_linked, unclaimed, all_known, claims_own, knows_first, knows_own, here, lows, goes_on}
pub use Rattle.live_rule.proofs.Found.{found_left, found_right, stores_then}

-- The lemmas of this crate that crates above it cite.
pub use Rattle.world_state.proofs.Writes.{spliced_length, get_past, past_or_within, stage_of, chain_of, within, length_heads, length_written, no_object, object_at, head_of, link_of, before_of, grown_same, spliced_chain}
pub use Rattle.world_state.proofs.Marking.{length_marked, life_of, links_marked, place_marked, stage_marked, life_within, life_grown, life_spliced, life_else, chain_marked, life_marked}
pub use Rattle.world_state.proofs.Linking.{decide_number, word_of, LinksKept, FreshIn, PlaceKept, Fits, Follows, monotone, links_spliced, place_spliced}
pub use Rattle.world_state.proofs.Queueing.{Items, InQueue, queue_at, stands_above, stands_within, Has, changed_here, changed_else, changed_length, Stands, has_left, has_right, has_stands, stands_left, stands_last, stands_more, items_pushed, items_sealed, items_advanced, has_either}
pub use Rattle.world_state.proofs.Reading.{readers_over, reader_at, ReaderKept, readers_set, not_new, ReadersKept, reader_there}
pub use Rattle.world_state.proofs.Growing.{new_object, new_within, stage_grown, links_grown, place_grown}

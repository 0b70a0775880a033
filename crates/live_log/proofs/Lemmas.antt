-- The lemmas of this crate that crates above it cite.
pub use Rattle.live_log.proofs.Machine.{begins_trans, by_object, not_has, more_events, events_since, close_there, same_sections, open_inside, run_of, fresh_section, is_machine_run, kept_log, run_since, inside_seen, inside_between, inside_open, is_open, grows_log}
pub use Rattle.live_log.proofs.Runs.{by_slot, still, last_opened}
pub use Rattle.live_log.proofs.Numbers.{copy_later, rises, present_begins, copied_bounded, bounded, IsSeq, seq_bounded, seq_low, seq_begins}
pub use Rattle.live_log.proofs.Periods.{begins_before_odd, has_later, has_since, ended_before, Period, periods, is_past}
pub use Rattle.live_log.proofs.Linked.{linked_now, first_linked, was_later, forward, protected, next_linked, was_used, linked_here, follows_is}
pub use Rattle.live_log.proofs.Places.{chain_used, next_there, next_used, first_used, some_next}
pub use Rattle.live_log.proofs.Notes.{note_stays, pushed_note, replaced_note}
pub use Rattle.live_log.proofs.Ripe.{ripe, ready_stays}
pub use Rattle.live_log.proofs.Lines.{line_grows, below, line_has, barrier_of, barrier_clears}
pub use Rattle.live_log.proofs.Closed.{closed_stays, closed_low}
pub use Rattle.live_log.proofs.Splices.{link_is, head_is, head_no_link, push_moves, cut_moves, replace_moves, Still, leads_still, Moved}
pub use Rattle.live_log.proofs.Keying.{falls_same, falls_push, falls_cut, falls_replaced}
pub use Rattle.live_log.proofs.Falling.{each_falls}
pub use Rattle.live_log.proofs.Mapping.{free_takes, keyed_maps, tabled_maps}
pub use Rattle.live_log.proofs.Tabling.{is_noted, left_then, reserved_free, reserved_linked, unnoted_free, noted_or_ended, left_stays, linked_or_replaced, directory_alone, directory_there}
pub use Rattle.live_log.proofs.Freeing.{beside, gone, left_is_freed, linked_between, named_stays_free, stays_free}
pub use Rattle.live_log.proofs.Readings.{log_more}

-- The lemmas of this crate that crates above it cite.
pub use Rattle.rcu_model.proofs.Members.{In, Tells, object_tells, section_tells, in_sections, has_section_in, in_objects, has_object_in, in_numbers, has_number_in, in_append, in_left, in_last, in_more, empty_from}
pub use Rattle.rcu_model.proofs.SetLemmas.{filter_has, has_filter, without_object_has, has_without_object, without_section_has, has_without_section, replaced_has, has_replaced, at_number_same, at_number_other, at_object_same, at_object_other, at_section_same, at_section_other, next_of_has, Once, Once-filter, Once-replaced}
pub use Rattle.rcu_model.proofs.Follows.{IsPlace, follows, some_is, none_some, decide, decide_place, first_has, follows_has, one_before, Spliced, push_splices, cut_splices, replace_splices, ChainKept, Written, chain_framed, chain_spliced}
pub use Rattle.rcu_model.proofs.Runs.{allowed_append, after_append, allowed_prop, run_prop}
pub use Rattle.rcu_model.proofs.Headline.{contains_in, in_contains, decide_section, allowed_split, run_parts, at_event, open_left, opened_left, retired_step, runs_once, uses_none}
pub use Rattle.rcu_model.proofs.Endings.{opens_once, queues_once, runs_queued}
pub use Rattle.rcu_model.proofs.Safety.{Linking, Safe, linked, cut_last, cut_before, SafeIn, Kept, kept_start, kept_step, kept_run, kept_log, safe_step, safe_successor, not_reclaimed, at_linked}
pub use Rattle.rcu_model.proofs.Opening.{OpenSeen, open_seen, seen_since, open_between, not_closed, open_by_events, closed_by_events}
pub use Rattle.rcu_model.proofs.Awaiting.{AwaitsOpen, awaits_open, awaited_since, awaited_was_open, awaits_none}
pub use Rattle.rcu_model.proofs.Lifetimes.{StaysOrLeaves, stays_or_leaves, StaysCut, stays_cut, replaced_there, stays_cut_run, LinkedWithin, CutWithin, linked_or_cut, IsPlaced, within_placed, used_placed, successor_placed}
pub use Rattle.rcu_model.proofs.Protection.{safe_since, was_linked_safe, was_linked_not_reclaimed, successor_was_linked}
pub use Rattle.rcu_model.proofs.Backwards.{in_reverse, state_goes_on, run_went_on, run_goes_on, state_is, run_is, run_back_prop, kept_back, open_seen_back, awaits_open_back, successor_placed_back, open_back, closed_back, open_between_back, safe_back, protected_back, linked_or_cut_back, LinkedSince, successor_since_back, awaits_none_back}
pub use Rattle.rcu_model.proofs.Growing.{Grows, grows, grows_run, grows_back}
pub use Rattle.rcu_model.proofs.Fitting.{live_part, live_alone, live_same, live_allowed, goes_on_live, goes_on_fitted}
pub use Rattle.rcu_model.proofs.RunOrder.{runs_of, NoTurn, InTurn, quiet_turn, queued_turn, queued_elsewhere, run_turn, run_elsewhere}

-- What the answers cite: the words, and the lemmas of this crate.
pub mod Words
pub use Words.*
pub use Rattle.rcu_hash.proofs.Copies.{more_ranked, each_at, each_set, IsCopied, copied_skip, copied_more, filled_more, found_more, in_behind, found_before, falls_known, value_walked, got_at, got_words, Holds, hold_nothing, no_value, may_put, put_value, put_holds, holds_next, split_next, next_new, ranked_next, next_taken}
pub use Rattle.rcu_hash.proofs.Counting.{numbers_are, sum_is, same_objects, rest_rights, row_is, byte_is, one_is, from_popped, from_pushed, rights_set, rights_ended, many_lengths, same_many, length_at, some_mapped, only_both, counts_since, stopped_for, stopped_on}
pub use Rattle.rcu_hash.proofs.Directing.{directed_is, answers_linked}
pub use Rattle.rcu_hash.proofs.Emptying.{waited_later, one_fewer, replaced_later, listed_once, leaves_left, links_still, may_cut_left, may_clear_left, refused_why, refused_frees, makes_frees, frees_chain, frees_nothing, queued_later, writes_weaker, leaves_weaker, uses_none, uses_both, each_left, each_popped, each_pushed, objects_pushed, objects_some, objects_next, uses_up_heard, uses_up_on, uses_up_none, uses_up_hears, uses_up_same, uses_up_once}
pub use Rattle.rcu_hash.proofs.Filling.{from_at, copies_weaker, copies_more, notes_weaker, copies_leave, notes_leave, AreNoted, none_noted, one_noted, all_noted, numbers_from, grows_since, grows_go, all_outside}
pub use Rattle.rcu_hash.proofs.Finding.{HeldSome, held_none, held_more, held_taken, both_free, taken_behind}
pub use Rattle.rcu_hash.proofs.Hearing.{after_since, insertion_through, successor_through, exchange_through, removal_missing, removal_refused}
pub use Rattle.rcu_hash.proofs.Holds.{looks_both, each_map, each_last, from_last, rights_many, known_empty, nothing_has_keys, each_head, may_direct, Reaches, paired, all_done, lent_one, right_lent, reaches_on, all_reached, first_lent, dropped_one, right_back, AreTheirs, all_theirs}
pub use Rattle.rcu_hash.proofs.Looking.{folds_both, WentThrough, went_nowhere, went_on, through_from, walks_from, answers_nowhere, leads_words, HadThrough, through_later, value_answers, bucket_answers, walk_stops, walk_ends}
pub use Rattle.rcu_hash.proofs.Named.{by_words, used_later, words_later, right_by, right_on, own_used, leads_there, leads_all, directed_between, inserts_through, replaces_through, removes_through, may_write_reserved, bucket_on, bucket_walked, all_buckets, may_leave}
pub use Rattle.rcu_hash.proofs.Relinking.{each_all, replaced_only, first_only, saw_on, words_since, may_relink, words_after, alone_after, map_before, map_after, kept_back}
pub use Rattle.rcu_hash.proofs.Taking.{bucket_copied, during_since, during_earlier, free_earlier, free_more, taken_since, in_both, holds_none, looked_none, looked_hears, looked_more, looked_on, looked_then, took_one, took_none, gives_up_on, gives_up_more, gives_up_keeping, gives_up_other, gives_up_less, keeps_none_of}
pub use Rattle.rcu_hash.proofs.Tidied.{cleared_since, retired_by, only_weaker, only_none, chains_popped, chains_pushed, rest_less, rest_later, rest_none, some_there, ended_since, loaded_since, linked_by, rest_replaced, not_none, none_so}

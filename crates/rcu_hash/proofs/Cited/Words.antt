-- The words of this crate's proofs: of std, of the crates below, and of its own specs.
pub use Rattle.atomic_table.specs.Table.{Me}
pub use Rattle.live_log.proofs.Lemmas.{chain_used, directory_alone, note_stays, reserved_free, reserved_linked, run_of, tabled_maps, begins_trans, closed_stays, directory_there, has_later, left_stays, linked_or_replaced, still, falls_cut, is_noted, kept_log, left_is_freed, linked_between, unnoted_free, grows_log, replaced_note, beside, gone, has_since, free_takes, pushed_note}
pub use Rattle.live_log.specs.Keys.{key_of, rank_of, Falls}
pub use Rattle.live_log.specs.Log.{Log, Begins, IsLiveRun, chain_note, record_of, state_of, payload_of, words_in, Has, open_of, HaveEnded}
pub use Rattle.live_log.specs.Maps.{IsUnnoted}
pub use Rattle.live_log.specs.Tables.{IsDirectory, IsFree, MayLeave, Names, reserved, tabled, IsReplaced, kind_of, HasKey, IsNamed, MayDirect, AreLeft}
pub use Rattle.live_log.specs.declared.event.LiveEvent.{LiveEvent}
pub use Rattle.live_log.specs.declared.event.LiveEvent.TheVariants.{Object, Close, ChainNote}
pub use Rattle.live_log.specs.declared.event.ObjectEvent.TheVariants.{Push, Replace, Cut, Queue, Retire}
pub use Rattle.rcu_hash.specs.Buckets.{HasRight, IsBucket}
pub use Rattle.rcu_hash.specs.Copies.{AreApart, AreRanked, value_among, value_in_bucket}
pub use Rattle.rcu_hash.specs.Directories.{AnswersLinked, AnswersThrough, bucket_in, buckets_in, directed_map, leads, value_through, LeadsTo, WalksThrough, first_in, leads_to}
pub use Rattle.rcu_hash.specs.Freeing.{FreesAll, FreesAllBut, GivesUp, IsLeftFree, KeepsNone, Looked, Undoes}
pub use Rattle.rcu_hash.specs.Growing.{CopiesAll, CopiesKey, NotesAll, Grows, Exchanges, Founds}
pub use Rattle.rcu_hash.specs.Leaving.{LeavesMap, Writes}
pub use Rattle.rcu_hash.specs.Naming.{Directs, words_by}
pub use Rattle.rcu_hash.specs.Publishing.{ChangesThrough, InsertsThrough, RemovesThrough, ReplacesThrough}
pub use Rattle.rcu_hash.specs.Refusing.{During, HadIn, LackedThrough, RefusesInsertionThrough, RefusesRemovalThrough, RefusesReplacementThrough, FindsFree, FindsTaken, IsInUse, IsUnused}
pub use Rattle.rcu_hash.specs.Tables.{IsAmong, bucket_of, are_apart}
pub use Rattle.rcu_hash.specs.Tidying.{AreInRow, CountsLeft, IsRest, IsStopped, LeavesOnly, LinksStill, chains_in, numbers_of, objects_in, one_if, sum_of, AreFreed, FindsFrees, OnlyFrees, ClearsNote, Cuts, Clears, Does, Follow, HasWaited, IsLeft, IsRefused, Kind, Retires, Uses, WasReplaced, callbacks_by, callbacks_in, cleared_by, cleared_in, change_by, changes_in, IsLinked, IsTidied, WasCleared, RetiresObject, IsRecord, IsQueueAmong, UsesUp}
pub use Rattle.rcu_hash.specs.Writers.{AreFrom, Each, HasKeysIn, HasNote, HasSeen, IsAlone, IsRunIn, HasNoNote, IsEmpty, value_at, length_of, lengths_of, rights_of, IsOutside, SawBefore, HasNothing, AreKept, KeepLists}
pub use Rattle.rcu_hash.specs.declared.directory.Naming.{Naming}
pub use Rattle.rcu_list.proofs.Lemmas.{KnowsKeys, MayWriteIn, keys_walked, value_same, comes_above, keys_pushed, note_walked, same_own, stays_both, chain_known, keys_on, comes_in, pushed_map, rank_walked, by_result, by_second, found_there, if_err, walked_missing, cut_map, if_ok, keys_cut, may_remove, gives_back, keys_replaced, replaced_map, takes_over}
pub use Rattle.rcu_list.proofs.live_read.Lemmas.{more_made, none_made, looks_twice, stays_makes, more_only, one_only, one_made, none_only}
pub use Rattle.rcu_list.proofs.live_write.Lemmas.{index_has, went_both}
pub use Rattle.rcu_list.specs.Maps.{map_of, value_in, words_of, value_of, AnswersBetween, HasLastRank}
pub use Rattle.rcu_list.specs.Refusing.{FindsNoRecord, GivesBack, RefusesSuccessor}
pub use Rattle.rcu_list.specs.Walks.{times}
pub use Rattle.rcu_list.specs.domain.Waiting.{FindsMore, LoadedOnce, Synchronized}
pub use Rattle.rcu_list.specs.live_callbacks.Refusing.{RefusesRetirement}
pub use Rattle.rcu_list.specs.live_callbacks.Retiring.{Queues, IsAfterAll}
pub use Rattle.rcu_list.specs.live_read.Hearing.{OnlyHears, MakesMany, OnlyMakesLast, Stays, IsAfter, MakesLast, OnlyMakesMany, FindsNothing}
pub use Rattle.rcu_list.specs.live_read.Holding.{log_of, ordinal}
pub use Rattle.rcu_list.specs.live_read.Reads.{FindsFirst, Looks}
pub use Rattle.rcu_list.specs.live_read.Sections.{IsIn}
pub use Rattle.rcu_list.specs.live_read.declared.caller.Caller.{Ghosts}
pub use Rattle.rcu_list.specs.live_read.declared.reader_core.ReaderCore.{ReaderCore}
pub use Rattle.rcu_list.specs.live_rule.Places.{hold_at, cell_at, closed_at}
pub use Rattle.rcu_list.specs.live_rule.Objects.{IsFreeWord, free_word, fresh_word}
pub use Rattle.rcu_list.specs.live_rule.Rights.{IsListed, own_in, IsWriter, cell_in, object_in, payload_in, AreAsKnown}
pub use Rattle.rcu_list.specs.live_rule.Seats.{lent_chains}
pub use Rattle.rcu_list.specs.live_rule.Steps.{Went, stores_in, Keeps}
pub use Rattle.rcu_list.specs.live_rule.declared.rights.ChainRight.{ChainRight}
pub use Rattle.rcu_list.specs.live_rule.declared.view.Look.{Look}
pub use Rattle.rcu_list.specs.live_rule.declared.view.Look.TheVariants.{Stored, Loaded}
pub use Rattle.rcu_list.specs.live_rule.declared.view.Sizes.{Sizes}
pub use Rattle.rcu_list.specs.live_rule.declared.view.View.{View}
pub use Rattle.rcu_list.specs.live_write.Calls.{IsUnretired}
pub use Rattle.rcu_list.specs.live_write.Chains.{MayPublish, Publishes, list_in, push_by, replace_by}
pub use Rattle.rcu_list.specs.live_write.Searching.{AreTaken, GetsNoRecord, TakesRecord}
pub use Rattle.rcu_list.specs.live_write.declared.records.Unlinked.{Unlinked}
pub use Rattle.rcu_model.proofs.Lemmas.{at_number_other, at_number_same, at_object_same, in_left, none_some, some_is, first_has, Once, Tells, in_append, object_tells, in_objects, replaced_there}
pub use Rattle.rcu_model.specs.Sets.{In, at_number, replaced, without_object, first_of, same_object}
pub use Rattle.rcu_model.specs.declared.event.ObjectId.{ObjectId}
pub use Rattle.rcu_model.specs.declared.refusal.Refusal.{Refusal}
pub use Rattle.rcu_model.specs.declared.refusal.Refusal.TheVariants.{PoolFull, Missing, BadConfig, Memory}
pub use Rattle.std.proofs.Common.{◌≡◌, ℕ, ◌+◌, ◌≤◌, [], ◌∷◌, ◌∙◌, ◌≢◌, ◌⊎◌, ◌%◌, ◌<◌, ◌==◌, if◌then◌else◌, ◌++◌, ◌&&◌, ◌^◌, ◌||◌, ◌-◌, Bool, List, length, refl, sym, ap, subst, inl, inr, arith, Option, Some, None, zero, suc, true, false, map, take, set, append_assoc, slice_get, slice_index_or, ⊎_elim, eq-eqb, ne_eqb, option_map, cond, reverse, IfSome, Result, Err, IfOk, IfErr, drop, IsSome, nat_lt, lt_of_not-le, nat_le, IfNone, vec_len, rules, vec_capacity, min}
pub use Rattle.std.proofs.Math.Logic.{∥∥₁_map, ∥∥₁_elim}
pub use Rattle.std.proofs.Math.Nat.{mod-eq_of_lt}
pub use Rattle.std.proofs.Math.Seq.{map-set_same}
pub use Rattle.std.proofs.lemmas.Bool.{cases_lt, eqb-true, ltb-true, lt-ltb, le-leb, lt-leb}
pub use Rattle.std.proofs.lemmas.Bool.Decides.{nat_tests}
pub use Rattle.std.proofs.lemmas.Grind.{common_steps}
pub use Rattle.std.proofs.lemmas.List.{map-append, append-nil, reverse-append, drop-append-le, drop_all, take-append-le, take_all, length-append, length-map, nil_from_length, map-set, length-set}
pub use Rattle.std.proofs.lemmas.Nat.{mod_below}
pub use Rattle.std.proofs.lemmas.Option.{slice_get_within, slice_get-map, slice_get_read, IfSome_then, gets}
pub use Rattle.std.proofs.lemmas.Result.{err_from_is_err_and, IfErr-weaker}
pub use Rattle.std.specs.List.{FoldsTo}
pub use Rattle.std.specs.Prelude.{is_some, Ok}
pub use Rattle.std.specs.Sync.RwLock.{write_guard_value}
pub use Rattle.std.specs.Vec.Iter.{into_iter_items, into_iter_len}
pub use base.Stored.{Gv}
pub use mathlib.Core.Logic.{dite}
pub use mathlib.Core.Option.{some}
pub use mir.Val.{bool_byte}
pub use native.Mathlib.Decide.{ℕ_discrete, dec_le}

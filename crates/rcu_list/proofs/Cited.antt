-- What the proofs of this crate use of other crates.
pub use Rattle.atomic_table.specs.Table.{Me}
pub use Rattle.domain.proofs.live_read.Lemmas.{looks_twice, stays_makes}
pub use Rattle.domain.proofs.live_write.Lemmas.{index_has, went_both}
pub use Rattle.domain.specs.live_callbacks.Refusing.{RefusesRetirement}
pub use Rattle.domain.specs.live_callbacks.Retiring.{Queues}
pub use Rattle.domain.specs.live_read.Hearing.{IsAfter, OnlyHears, Stays}
pub use Rattle.domain.specs.live_read.Holding.{MayHold, log_of}
pub use Rattle.domain.specs.live_read.Reads.{FindsFirst, FindsNext, Looks}
pub use Rattle.domain.specs.live_read.declared.caller.Caller.{Ghosts}
pub use Rattle.domain.specs.live_read.declared.reader_core.ReaderCore.{ReaderCore}
pub use Rattle.domain.specs.live_rule.Places.{closed_at}
pub use Rattle.domain.specs.live_rule.Rights.{AreAsKnown, IsListed, IsWriter, cell_in, object_in, own_in, payload_in}
pub use Rattle.domain.specs.live_rule.Seats.{lent_chains}
pub use Rattle.domain.specs.live_rule.Steps.{IsLater, Went}
pub use Rattle.domain.specs.live_rule.declared.rights.ChainRight.{ChainRight}
pub use Rattle.domain.specs.live_rule.declared.rights.RecordRight.{RecordRight}
pub use Rattle.domain.specs.live_rule.declared.view.Look.{Look}
pub use Rattle.domain.specs.live_rule.declared.view.Look.TheVariants.{Loaded}
pub use Rattle.domain.specs.live_rule.declared.view.Sizes.{Sizes}
pub use Rattle.domain.specs.live_rule.declared.view.View.{View}
pub use Rattle.domain.specs.live_write.Calls.{HasLearned, LoadsSeqBefore}
pub use Rattle.domain.specs.live_write.Chains.{GoesOn, IsFirstWith, MayPublish, Publishes, list_in, push_by, replace_by}
pub use Rattle.domain.specs.live_write.Searching.{TakesFor, TakesRecord, freed_look}
pub use Rattle.domain.specs.step_chains.Chains.{cut_of}
pub use Rattle.live_log.proofs.Lemmas.{begins_trans, chain_used, falls_cut, falls_push, falls_replaced, falls_same, kept_log, not_has, note_stays, run_of}
pub use Rattle.live_log.specs.Keys.{Falls, key_of, rank_of}
pub use Rattle.live_log.specs.Log.{Begins, Follows, IsLiveRun, Log, chain_note, event_of, objects_of, record_of, state_of}
pub use Rattle.live_log.specs.Maps.{HasMaps, IsPlain, IsUnnoted, TakesKeys}
pub use Rattle.live_log.specs.Tables.{HasKey}
pub use Rattle.live_log.specs.declared.event.LiveEvent.{LiveEvent}
pub use Rattle.live_log.specs.declared.event.LiveEvent.TheVariants.{ChainNote, Close, CloseQueue, Object, Open, Present, SeqEven, SeqOdd}
pub use Rattle.live_log.specs.declared.event.ObjectEvent.TheVariants.{Cut, Push, Queue, Replace, Retire, Run}
pub use Rattle.rcu_model.proofs.Lemmas.{StaysCut, StaysOrLeaves, Tells, at_number_other, at_number_same, at_object_other, at_object_same, first_has, has_replaced, has_without_object, in_append, in_objects, none_some, object_tells, replaced_has, replaced_there, some_is, stays_cut, stays_or_leaves, without_object_has}
pub use Rattle.rcu_model.specs.Sets.{In, at_number, at_object, first_of, next_of, replaced, same_object, without_object}
pub use Rattle.rcu_model.specs.declared.event.ObjectId.{ObjectId}
pub use Rattle.rcu_model.specs.declared.refusal.Refusal.{Refusal}
pub use Rattle.std.proofs.Common.{Bool, IsSome, List, None, Option, Some, [], ap, arith, eq-eqb, false, if◌then◌else◌, inl, inr, is_some, length, ne_eqb, refl, slice_get, slice_index_or, subst, sym, true, ℕ, ⊎_elim, ◌%◌, ◌++◌, ◌+◌, ◌<◌, ◌==◌, ◌^◌, ◌∙◌, ◌∷◌, ◌≡◌, ◌≢◌, ◌≤◌, ◌⊎◌}
pub use Rattle.std.proofs.lemmas.Fn.{FoldsTo-push}
pub use Rattle.std.proofs.lemmas.Option.{slice_get_within}
pub use Rattle.std.specs.List.{FoldsTo}
pub use Rattle.std.specs.Prelude.{Err, IfErr, IfNone, IfOk, IfSome, Ok, Result}
pub use mathlib.Core.Logic.{dite}
pub use native.Mathlib.Decide.{ℕ_discrete}

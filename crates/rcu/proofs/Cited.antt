-- What the proofs of this crate use of other crates.
pub use Rattle.atomic_table.specs.Table.{State}
pub use Rattle.live_log.proofs.Lemmas.{begins_trans, is_open, pushed_note, replaced_note}
pub use Rattle.live_log.specs.Log.{Begins, Has, IsLiveRun, IsOpenSection, Log, MayFollow, WasQueued, chain_note, objects_of, open_of, payload_of, state_of, words_in}
pub use Rattle.live_log.specs.Tables.{tabled}
pub use Rattle.live_log.specs.declared.callback_id.CallbackId.{CallbackId}
pub use Rattle.live_log.specs.declared.event.LiveEvent.{LiveEvent}
pub use Rattle.live_log.specs.declared.event.LiveEvent.TheVariants.{ChainNote, Close, CloseQueue, Object, Open, Present, SeqEven, SeqOdd}
pub use Rattle.live_log.specs.declared.event.ObjectEvent.TheVariants.{Cut, Push, Queue, Replace, Retire, Run}
pub use Rattle.rcu_hash.proofs.Lemmas.{callbacks_both, changes_both, during_since, follow_both, follow_weaker, freed_both, frees_both, only_free}
pub use Rattle.rcu_hash.proofs.live_read.Lemmas.{looks_twice, more_made, none_made, stays_makes}
pub use Rattle.rcu_hash.proofs.rcu_list.Lemmas.{gives_back}
pub use Rattle.rcu_hash.specs.Calls.{IsGrown, IsNotGrown}
pub use Rattle.rcu_hash.specs.Freeing.{FreesAll}
pub use Rattle.rcu_hash.specs.Growing.{HasLeft}
pub use Rattle.rcu_hash.specs.Refusing.{During, RefusesInsertionThrough, RefusesReplacementThrough}
pub use Rattle.rcu_hash.specs.Tidying.{EndsTidying, FindsEnd, Follow, IsQueueAmong, IsRefused, LinksStill, StopsTidying, callbacks_in, changes_in, numbers_of}
pub use Rattle.rcu_hash.specs.Writers.{Each}
pub use Rattle.rcu_hash.specs.domain.Working.{HasWorkedFor}
pub use Rattle.rcu_hash.specs.domain.callback_queue.declared.item.Ripe.{Ripe}
pub use Rattle.rcu_hash.specs.domain.declared.worker_end.Stop.{Stop}
pub use Rattle.rcu_hash.specs.declared.tidying.TidyEnd.{TidyEnd}
pub use Rattle.rcu_hash.specs.live_callbacks.Refusing.{RefusesRetirement}
pub use Rattle.rcu_hash.specs.live_callbacks.Retiring.{Queues}
pub use Rattle.rcu_hash.specs.live_read.Hearing.{IsAfter, MakesLast, MakesMany, Stays}
pub use Rattle.rcu_hash.specs.live_read.declared.caller.Caller.{Ghosts}
pub use Rattle.rcu_hash.specs.live_rule.Claims.{ClaimsSlot, KnowsSlot, slot}
pub use Rattle.rcu_hash.specs.live_rule.Readers.{Fits, IsClosed}
pub use Rattle.rcu_hash.specs.live_rule.Rights.{AreAsKnown, IsOwner, IsWriter, cell_in, count_in, object_in, own_in, payload_in, word_in}
pub use Rattle.rcu_hash.specs.live_rule.Rule.{KeepsRule}
pub use Rattle.rcu_hash.specs.live_rule.declared.rights.SlotRight.{SlotRight}
pub use Rattle.rcu_hash.specs.live_rule.declared.view.Look.{Look}
pub use Rattle.rcu_hash.specs.live_rule.declared.view.Sizes.{Sizes}
pub use Rattle.rcu_hash.specs.live_rule.declared.view.View.{View}
pub use Rattle.rcu_hash.specs.live_write.Chains.{Publishes, list_in, push_by, replace_by}
pub use Rattle.rcu_hash.specs.live_write.Searching.{GetsNoRecord}
pub use Rattle.rcu_hash.specs.rcu_list.Calls.{HandsOver}
pub use Rattle.rcu_model.proofs.Lemmas.{at_object_same, has_object_in, none_some, some_is}
pub use Rattle.rcu_model.specs.Sets.{In, first_of, replaced}
pub use Rattle.rcu_model.specs.declared.event.ObjectId.{ObjectId}
pub use Rattle.rcu_model.specs.declared.refusal.Refusal.{Refusal}
pub use Rattle.rcu_model.specs.declared.refusal.Refusal.TheVariants.{Busy, Exists, FewJobs, Missing, PoolFull}
pub use Rattle.std.proofs.Common.{Bool, IfNone, IfSome, List, None, Option, Some, [], ap, append_assoc, arith, inl, inr, length, map, refl, reverse, rules, slice_get, subst, sym, ℕ, ⊎_elim, ◌%◌, ◌++◌, ◌+◌, ◌∙◌, ◌∷◌, ◌≡◌, ◌≢◌, ◌⊎◌}
pub use Rattle.std.proofs.lemmas.List.{reverse-append}
pub use Rattle.std.proofs.lemmas.Result.{IfErr-at_err, IfErr-weaker, IfOk-weaker, err_from_is_err_and}
pub use Rattle.std.specs.List.{FoldsTo}
pub use base.Stored.{Coded, Gv}
pub use denote.Param.{copied}
pub use denote.Param.Always.{always_mut, mut_by}
pub use denote.Param.Members.{Called}
pub use denote.RattleType.{RattleType}
pub use lib.ListN.{get_elem?}
pub use mathlib.Core.Option.{none, some}

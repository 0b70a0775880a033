-- What the proofs of this crate use of other crates.
pub use Rattle.atomic_table.specs.Table.{Me}
pub use Rattle.live_log.proofs.Lemmas.{begins_trans, each_falls, kept_log}
pub use Rattle.live_log.specs.Keys.{Falls, key_of, keyed, rank_of}
pub use Rattle.live_log.specs.Log.{Begins, IsLiveRun, Log, chain_note, objects_of, record_of, state_of}
pub use Rattle.live_log.specs.declared.callback_id.CallbackId.{CallbackId}
pub use Rattle.live_log.specs.declared.event.LiveEvent.{LiveEvent}
pub use Rattle.live_log.specs.declared.event.LiveEvent.TheVariants.{ChainNote, Object}
pub use Rattle.live_log.specs.declared.event.ObjectEvent.TheVariants.{Cut, Push, Replace}
pub use Rattle.live_read.specs.Hearing.{IsAfter, IsAsBefore, OnlyMakesLast}
pub use Rattle.live_read.specs.declared.caller.Caller.{Ghosts}
pub use Rattle.live_words.proofs.live_rule.Lemmas.{begins_nothing, found_left, found_right, stores_then}
pub use Rattle.live_words.proofs.step_chains.Lemmas.{note_same, there_after}
pub use Rattle.live_words.specs.live_rule.Objects.{HasNext, fresh_word, next_number, ref}
pub use Rattle.live_words.specs.live_rule.Places.{cell_at}
pub use Rattle.live_words.specs.live_rule.Rights.{AreAsKnown, IsFresh, IsListed, IsUnlinked, IsWriter, KnowsChains, cell_in, link_in, object_in, own_in, payload_in}
pub use Rattle.live_words.specs.live_rule.Seats.{but_object, heard_view, lent_chains, object_alone, own_chain, taken_view}
pub use Rattle.live_words.specs.live_rule.Seen.{Looked, Wrote}
pub use Rattle.live_words.specs.live_rule.Steps.{IsLater, IsNow, Keeps, Went}
pub use Rattle.live_words.specs.live_rule.declared.rights.ChainRight.{ChainRight}
pub use Rattle.live_words.specs.live_rule.declared.rights.RecordRight.{RecordRight}
pub use Rattle.live_words.specs.live_rule.declared.rights.RecordRight.TheVariants.{Fresh, Unlinked}
pub use Rattle.live_words.specs.live_rule.declared.view.Look.{Look}
pub use Rattle.live_words.specs.live_rule.declared.view.Look.TheVariants.{Loaded, Stored}
pub use Rattle.live_words.specs.live_rule.declared.view.Sizes.{Sizes}
pub use Rattle.live_words.specs.live_rule.declared.view.View.{View}
pub use Rattle.live_words.specs.step_chains.Chains.{IsBefore, IsNext, IsThere, MayNote, MayRead, MayWrite, Writes, cut_of, cut_view, head_after, push_of, replace_of, replaced_view}
pub use Rattle.live_words.specs.step_grace.Periods.{LoadedSeq}
pub use Rattle.live_words.specs.step_records.Records.{worded_view}
pub use Rattle.rcu_model.proofs.Lemmas.{Once, Tells, follows_has, none_some, object_tells, some_is}
pub use Rattle.rcu_model.specs.Sets.{In, IsPlace, first_of, follows, next_of, replaced, same_object, without_object}
pub use Rattle.rcu_model.specs.declared.event.ObjectId.{ObjectId}
pub use Rattle.std.proofs.Common.{Bool, IfNone, IfSome, List, MatchBool, None, Option, Some, [], ap, append-nil, append_assoc, arith, below_more, eq-eqb, get_or, inl, inr, length, length-append, lt_of_not-le, ne_eqb, refl, set, slice_get, slice_index_or, subst, suc, sym, zero, ℕ, ◌*◌, ◌++◌, ◌+◌, ◌/◌, ◌-◌, ◌<◌, ◌==◌, ◌^◌, ◌∙◌, ◌∷◌, ◌≡◌, ◌≢◌, ◌≤◌}
pub use Rattle.std.proofs.lemmas.Option.{IfSome_then}
pub use Rattle.std.proofs.lemmas.Result.{err_from_is_err_and}
pub use mathlib.Core.Logic.{dite}
pub use native.Mathlib.Decide.{dec_le, ℕ_discrete}

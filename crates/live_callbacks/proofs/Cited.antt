-- What the proofs of this crate use of other crates.
pub use Rattle.atomic_table.proofs.Lists.{at_longer, at_snoc}
pub use Rattle.atomic_table.specs.Table.{Me}
pub use Rattle.atomic_table.specs.declared.shared.Seat.{Seat}
pub use Rattle.call_rcu_worker.specs.declared.finished.Finished.{Finished}
pub use Rattle.callback_queue.specs.Queue.{closed_queue, given_of, items_of, pushed, with_place}
pub use Rattle.callback_queue.specs.declared.item.Item.{Item}
pub use Rattle.callback_queue.specs.declared.item.Ripe.{Ripe}
pub use Rattle.live_log.proofs.Lemmas.{begins_trans, closed_stays, grows_log, has_later, has_since, kept_log, line_grows, note_stays, ripe, run_of}
pub use Rattle.live_log.specs.Log.{Begins, Has, HaveEnded, IsLiveRun, Log, WasQueued, line_of, payload_of, record_of, state_of, words_in}
pub use Rattle.live_log.specs.declared.event.LiveEvent.{LiveEvent}
pub use Rattle.live_log.specs.declared.event.LiveEvent.TheVariants.{ChainNote, Close, CloseQueue, Object, Open, Present, SeqEven, SeqOdd}
pub use Rattle.live_log.specs.declared.event.ObjectEvent.TheVariants.{Cut, Push, Queue, Replace, Retire, Run}
pub use Rattle.live_words.specs.live_rule.Places.{finished_at, queued_at, work_at}
pub use Rattle.live_words.specs.live_rule.Rights.{finished_in, object_in, queue_in, queued_in, work_in}
pub use Rattle.live_words.specs.live_rule.Seats.{heard_view}
pub use Rattle.live_words.specs.live_rule.Seen.{Precedes}
pub use Rattle.live_words.specs.live_rule.Steps.{IsLater, Joined, Keeps, Went, looked_view}
pub use Rattle.live_words.specs.live_rule.declared.rights.QueueRight.{QueueRight}
pub use Rattle.live_words.specs.live_rule.declared.rights.QueueRight.TheVariants.{Owns}
pub use Rattle.live_words.specs.live_rule.declared.rights.RecordRight.TheVariants.{Nothing}
pub use Rattle.live_words.specs.live_rule.declared.rights.WorkRight.{WorkRight}
pub use Rattle.live_words.specs.live_rule.declared.rights.WorkRight.TheVariants.{Works}
pub use Rattle.live_words.specs.live_rule.declared.view.Look.TheVariants.{Loaded, Stored}
pub use Rattle.live_words.specs.live_rule.declared.view.Sizes.{Sizes}
pub use Rattle.live_words.specs.live_rule.declared.view.View.{View}
pub use Rattle.live_words.specs.step_queues.Queues.{HasRunAt, IsAt, IsLast}
pub use Rattle.live_words.specs.step_records.Records.{IsRipe}
pub use Rattle.rcu_model.proofs.Lemmas.{at_number_other, at_number_same, in_objects}
pub use Rattle.rcu_model.specs.Sets.{In, at_number}
pub use Rattle.rcu_model.specs.declared.event.ObjectId.{ObjectId}
pub use Rattle.std.proofs.Common.{Bool, List, [], ap, append_assoc, arith, false, inl, inr, length, refl, rules, slice_index_or, subst, suc, sym, true, zero, ℕ, ⊎_elim, ◌++◌, ◌+◌, ◌<◌, ◌==◌, ◌∙◌, ◌∷◌, ◌≡◌, ◌≢◌, ◌≤◌}
pub use Rattle.std.proofs.lemmas.Bool.Decides.{eqb_tells, nat_tests}
pub use base.Stored.{Gv}
pub use lib.ListN.{get_elem?, length-append}
pub use mathlib.Core.Option.{some, some-injective, some-ne-none}

-- What the proofs of this crate use of other crates.
pub use Rattle.atomic_table.proofs.Lists.{at_longer}
pub use Rattle.atomic_table.specs.Table.{Me}
pub use Rattle.atomic_table.specs.declared.shared.Seat.{Seat}
pub use Rattle.call_rcu_worker.specs.declared.finished.Finished.{Finished}
pub use Rattle.callback_queue.specs.declared.item.Item.{Item}
pub use Rattle.callback_queue.specs.declared.item.Ripe.{Ripe}
pub use Rattle.live_callbacks.specs.Batches.{AreRunAs, IsDue, IsRunAs, Lists, WorksFor}
pub use Rattle.live_callbacks.specs.Items.{Closes, CountsQueued, InOrder, IsPlaced, JobValue, Jobs}
pub use Rattle.live_log.proofs.Lemmas.{begins_trans, closed_stays, grows_log, has_since, line_grows}
pub use Rattle.live_log.specs.Log.{Begins, HaveEnded, HaveRun, IsLiveRun, Log, closed_of, line_of, state_of}
pub use Rattle.live_log.specs.declared.event.LiveEvent.{LiveEvent}
pub use Rattle.live_log.specs.declared.event.LiveEvent.TheVariants.{Close, CloseQueue}
pub use Rattle.live_read.specs.Hearing.{IsAfter, OnlyHears, Stays}
pub use Rattle.live_waits.specs.Barrier.{AreNoted}
pub use Rattle.live_waits.specs.Status.{Looks, Stalls}
pub use Rattle.live_words.specs.live_rule.Places.{closed_at, finished_at, queued_at, work_at}
pub use Rattle.live_words.specs.live_rule.Rights.{finished_in}
pub use Rattle.live_words.specs.live_rule.Seen.{Wrote}
pub use Rattle.live_words.specs.live_rule.Steps.{IsKnown, Keeps, Went, looked_view}
pub use Rattle.live_words.specs.live_rule.Views.{bare}
pub use Rattle.live_words.specs.live_rule.declared.rights.QueueRight.TheVariants.{Spare}
pub use Rattle.live_words.specs.live_rule.declared.view.Look.{Look}
pub use Rattle.live_words.specs.live_rule.declared.view.Look.TheVariants.{Loaded, Stored}
pub use Rattle.live_words.specs.live_rule.declared.view.Sizes.{Sizes}
pub use Rattle.live_words.specs.live_rule.declared.view.View.{View}
pub use Rattle.live_words.specs.step_queues.Queues.{IsAt, TookNoMore}
pub use Rattle.rcu_model.specs.Sets.{In}
pub use Rattle.rcu_model.specs.declared.event.ObjectId.{ObjectId}
pub use Rattle.std.proofs.Common.{Bool, IfErr, List, [], ap, append-nil, append_assoc, arith, cond, eq-eqb, false, inl, inr, length, refl, reverse, rules, subst, suc, sym, true, vec_capacity, vec_len, zero, ℕ, ⊎_elim, ◌++◌, ◌+◌, ◌-◌, ◌<◌, ◌==◌, ◌∙◌, ◌∷◌, ◌≡◌, ◌≢◌, ◌≤◌, ◌⊎◌}
pub use Rattle.std.proofs.lemmas.Bool.Decides.{eqb_tells}
pub use Rattle.std.proofs.lemmas.List.{length-reverse, reverse-append, reverse-reverse}
pub use Rattle.std.proofs.lemmas.Result.{IfErr-weaker, IfOk-weaker}
pub use Rattle.std.specs.Prelude.{Err, Ok, Result}
pub use base.Stored.{Gv}
pub use lib.ListN.{get_elem?, length-append}
pub use mathlib.Core.Logic.{dite}
pub use mathlib.Core.Option.{some, some-injective}
pub use native.Mathlib.Decide.{ℕ_discrete}

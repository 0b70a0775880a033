-- What the proofs of this crate use of other crates.
pub use Rattle.atomic_table.specs.Table.{Me}
pub use Rattle.atomic_table.specs.declared.shared.Seat.{Seat}
pub use Rattle.call_rcu_worker.specs.Sync.{Telling, telling, told_of}
pub use Rattle.call_rcu_worker.specs.declared.sync.SyncCore.{SyncCore}
pub use Rattle.call_rcu_worker.specs.declared.sync.SyncCore.TheVariants.{Asks, Checks, Frees, Starts, Waits}
pub use Rattle.call_rcu_worker.specs.declared.sync.Told.{Told}
pub use Rattle.call_rcu_worker.specs.declared.sync.Told.TheVariants.{Answered, Quiet}
pub use Rattle.gp_memb.specs.Plan.{EachLoadShows, EachLoadShowsSince, IsPresent, MayStore, ShowsOpen, StoresInOrder, WaitsForOpen, after_loads, from_seq, present_after, stands_before}
pub use Rattle.gp_memb.specs.declared.plan.Action.{Action}
pub use Rattle.gp_memb.specs.declared.plan.Action.TheVariants.{Finished, Load, LoadGroup, StorePhase, StoreSeq}
pub use Rattle.gp_memb.specs.declared.plan.Turn.{Turn}
pub use Rattle.gp_memb.specs.declared.plan.Turn.TheVariants.{Step, Wait}
pub use Rattle.gp_memb.specs.lemmas.History.{after_snoc}
pub use Rattle.live_log.proofs.Lemmas.{barrier_of, begins_trans, ended_before, grows_log, has_later, is_past, line_grows, line_has, run_of, seq_begins}
pub use Rattle.live_log.specs.Log.{Begins, Has, HaveEnded, HaveRun, IsBound, IsLiveRun, Log, MayBePresent, MayCopy, before_odd, line_of, open_of, present_of, seq_of, state_of}
pub use Rattle.live_log.specs.declared.callback_id.CallbackId.{CallbackId}
pub use Rattle.live_log.specs.declared.event.LiveEvent.{LiveEvent}
pub use Rattle.live_log.specs.declared.event.LiveEvent.TheVariants.{Close, Present, SeqEven, SeqOdd}
pub use Rattle.live_words.specs.live_rule.Places.{cell_at, finished_at, group_at, queued_at, slot_at}
pub use Rattle.live_words.specs.live_rule.Readers.{Fits, Shown}
pub use Rattle.live_words.specs.live_rule.Rights.{before_in, looks_in, present_in, seq_in}
pub use Rattle.live_words.specs.live_rule.Seen.{Precedes, Wrote, at_log}
pub use Rattle.live_words.specs.live_rule.Steps.{IsKnown, Keeps, Went, looked_view}
pub use Rattle.live_words.specs.live_rule.declared.rights.GraceRight.{GraceRight}
pub use Rattle.live_words.specs.live_rule.declared.rights.GraceRight.TheVariants.{Rests, Works}
pub use Rattle.live_words.specs.live_rule.declared.view.Look.{Look}
pub use Rattle.live_words.specs.live_rule.declared.view.Look.TheVariants.{Loaded}
pub use Rattle.live_words.specs.live_rule.declared.view.Sizes.{Sizes}
pub use Rattle.live_words.specs.live_rule.declared.view.View.{View}
pub use Rattle.live_words.specs.step_grace.Periods.{GraceBecomes, ShownAll, TellsAllEnded, at_load}
pub use Rattle.live_words.specs.step_queues.Queues.{HasNoOther}
pub use Rattle.rcu_model.specs.Sets.{In}
pub use Rattle.rcu_model.specs.declared.event.ObjectId.{ObjectId}
pub use Rattle.rcu_model.specs.declared.refusal.Refusal.{Refusal}
pub use Rattle.reader_word.specs.Quiescent.{announced}
pub use Rattle.reader_word.specs.Word.{count_of, differ, phase_in}
pub use Rattle.reader_word.specs.declared.layout.Layout.TheVariants.{Wide}
pub use Rattle.std.proofs.Common.{Bool, Err, List, Ok, Result, [], ap, append-nil, append_assoc, arith, cond, eq-eqb, false, get_or, get_or-set_other, get_or-set_same, if◌then◌else◌, inl, inr, length, length-set, lt_of_not-le, nat_le, ne_eqb, refl, rules, set, subst, suc, sym, true, true≢false, vec_capacity, vec_len, zero, ℕ, ⊎_elim, ◌%◌, ◌++◌, ◌+◌, ◌-◌, ◌<◌, ◌==◌, ◌^◌, ◌∙◌, ◌∷◌, ◌≡◌, ◌≢◌, ◌≤◌, ◌⊎◌}
pub use Rattle.std.proofs.Math.Logic.{∥∥₁_elim, ∥∥₁_map}
pub use Rattle.std.proofs.Math.Nat.{ℕ_set}
pub use Rattle.std.proofs.lemmas.Bool.Decides.{leb_tells}
pub use Rattle.std.proofs.lemmas.List.{length-append}
pub use Rattle.std.specs.Coded.{le_prop, ×_prop}
pub use Rattle.std.specs.Prelude.{not, ◌&&◌}
pub use lib.ListN.{get_elem?}
pub use mathlib.Core.Logic.{dite}
pub use mathlib.Core.Option.{Option, none, some, some-ne-none}
pub use native.Mathlib.Decide.{dec_le, ℕ_discrete}

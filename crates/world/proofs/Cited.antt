-- What the proofs of this crate use of other crates.
pub use Rattle.call_rcu_worker.specs.Sync.{Telling, asked_with, is_finished, new_core, step_of, told_of, turned}
pub use Rattle.call_rcu_worker.specs.Worker.{after_take, item_done, rest_of, synced, tickets_from}
pub use Rattle.call_rcu_worker.specs.declared.sync.SyncCore.TheVariants.{Asks, Checks, Done, Frees, Runs, Starts, Waits}
pub use Rattle.call_rcu_worker.specs.declared.sync.SyncCore.{SyncCore}
pub use Rattle.call_rcu_worker.specs.declared.sync.SyncStep.{SyncStep}
pub use Rattle.call_rcu_worker.specs.declared.sync.Told.TheVariants.{Answered}
pub use Rattle.call_rcu_worker.specs.declared.sync.Told.{Told}
pub use Rattle.call_rcu_worker.specs.declared.worker.Tickets.{Tickets}
pub use Rattle.call_rcu_worker.specs.declared.worker.WorkerCore.{WorkerCore}
pub use Rattle.callback_queue.specs.Queue.{after_advance, given_of, is_due, items_of, object_with, popped, sealed, without_first}
pub use Rattle.callback_queue.specs.declared.item.Item.{Item}
pub use Rattle.callback_queue.specs.declared.item.Ticket.{Ticket}
pub use Rattle.gp_memb.specs.Plan.{FinishesAfter, IsPresent, MayStore, Shows, StoresInOrder, after_loads, each_turn, present_after, steps, turn_at, turn_count, went_on}
pub use Rattle.gp_memb.specs.PlanLaws.{MayBe}
pub use Rattle.gp_memb.specs.declared.memb.MembPlan.{MembPlan}
pub use Rattle.gp_memb.specs.declared.plan.Action.TheVariants.{Finished, Load, LoadGroup, StorePhase, StoreSeq}
pub use Rattle.gp_memb.specs.declared.plan.Action.{Action}
pub use Rattle.gp_memb.specs.declared.plan.Turn.{Turn}
pub use Rattle.gp_memb.specs.lemmas.History.{after_snoc, may_begin, may_turn, never_finished, shows_slot}
pub use Rattle.gp_qsbr.specs.declared.qsbr.QsbrPlan.{QsbrPlan}
pub use Rattle.poll_cookie.specs.Cookie.{cookie_for, even_below}
pub use Rattle.rcu_model.proofs.Lemmas.{AwaitsOpen, In, InTurn, IsPlace, Kept, NoTurn, OpenSeen, SafeIn, Spliced, after_append, allowed_append, at_number_other, at_number_same, at_object_other, at_object_same, at_section_other, at_section_same, awaits_open, cut_before, cut_last, cut_splices, decide, empty_from, filter_has, first_has, follows, follows_has, grows, has_number_in, has_object_in, has_section_in, has_without_section, in_append, in_last, in_left, in_more, in_numbers, in_objects, in_sections, kept_log, kept_step, linked, none_some, open_seen, push_splices, queued_elsewhere, queued_turn, quiet_turn, replace_splices, run_elsewhere, run_parts, run_turn, runs_of, some_is, without_object_has, without_section_has}
pub use Rattle.rcu_model.specs.Machine.{AreAllowed, IsAllowed, IsRun, IsSuccessor, State, after, after_all, got, not_run, start}
pub use Rattle.rcu_model.specs.Promises.{IsSafeLog}
pub use Rattle.rcu_model.specs.RunOrder.{queued_by, queued_into, run_by, run_from}
pub use Rattle.rcu_model.specs.Sets.{at_number, at_object, at_section, first_of, has_object, next_of, replaced, without_object, without_section}
pub use Rattle.rcu_model.specs.declared.event.Event.TheVariants.{Ask, Clear, Close, Cut, First, Next, Open, Push, Queue, Replace, Retire, Run, Touch}
pub use Rattle.rcu_model.specs.declared.event.Event.{Event}
pub use Rattle.rcu_model.specs.declared.event.ObjectId.{ObjectId}
pub use Rattle.rcu_model.specs.declared.event.SectionId.{SectionId}
pub use Rattle.rcu_model.specs.declared.refusal.Refusal.TheVariants.{Busy, Exhausted, NestFull, NoActor, NoPlace, NotOpen, WrongFlavour}
pub use Rattle.rcu_model.specs.declared.refusal.Refusal.{Refusal}
pub use Rattle.reader_word.proofs.Lemmas.{entered_of-nests, entered_of-opens, left_of-nests}
pub use Rattle.reader_word.specs.Quiescent.{announced, is_online}
pub use Rattle.reader_word.specs.Word.{count_of, entered_of, fresh, greatest_count, is_open_of, left_of, number, phase_in}
pub use Rattle.reader_word.specs.declared.layout.Layout.TheVariants.{Narrow, Wide}
pub use Rattle.reader_word.specs.declared.layout.Layout.{Layout}
pub use Rattle.std.proofs.Common.{Bool, Err, IsPermutation, IsTrue, List, None, Ok, Option, Result, Some, [], ap, append-nil, arith, cond, false, get_or, get_or-set_other, get_or-set_same, inl, inr, is_some, leb, length, length-append, ltb, nat_le, nat_lt, not, refl, replicate, rules, slice_get, slice_set, subst, suc, sym, true, true≢false, vec_capacity, zero, ℕ, ⊎_elim, ◌%◌, ◌&&◌, ◌*◌, ◌++◌, ◌+◌, ◌-◌, ◌<◌, ◌==◌, ◌^◌, ◌↔◌, ◌∙◌, ◌∷◌, ◌≡◌, ◌≢◌, ◌≤◌, ◌⊎◌}
pub use Rattle.std.proofs.Math.ListN.{length-set}
pub use Rattle.std.proofs.lemmas.Bool.Decides.{eqb_tells, leb_tells}
pub use Rattle.std.proofs.lemmas.Bool.{and_parts, cond-false, cond-true, cond_both, eq-eqb, eqb-false, eqb-true, le-leb, leb-false, leb-true, lt-leb, lt-ltb, ltb-false, ltb-true, ne_eqb, not-false, not-true, or_parts}
pub use Rattle.std.proofs.lemmas.List.Elements.{All-from_recursion, filter_map-append}
pub use Rattle.std.proofs.lemmas.List.FromFn.{length-range_with_len}
pub use Rattle.std.proofs.lemmas.List.Sorted.{IsPermutation-append_right, IsPermutation-middle, IsPermutation-pop_more, IsPermutation-push_more, IsPermutation-refl, IsPermutation-sym, IsPermutation-trans}
pub use Rattle.std.proofs.Math.Seq.{split_at}
pub use Rattle.std.proofs.lemmas.List.{append_assoc, length-replicate, map-append, nil_from_length, set_split}
pub use Rattle.std.proofs.lemmas.Nat.{mod_below}
pub use Rattle.std.proofs.lemmas.Option.{cond_some, get_or_from_slice_get, none-some, same_Some, slice_get-get_or, slice_get_within, unwrap_or-slice_get}
pub use Rattle.std.specs.List.{cons_option, filter_map, range_with_len}
pub use Rattle.std.specs.Option.{option_map_or, option_or, unwrap_or}
pub use Rattle.std.specs.Prelude.{All, IfErr, IfOk, OnOk, drop, is_err, map, take}
pub use Rattle.world.specs.Answers.{answer_to, one}
pub use Rattle.world.specs.Chains.{cut_row, first_row, linked_by, next_from, next_object, next_row, published, push_row, pushed_row, replace_row, replaced_row, writes}
pub use Rattle.world.specs.Drain.{AreMade, AreMadeFrom, Drains, HasDrained, IsSettled, MeetsDrain, Tells, drain_lines, is_busy, items_in, items_to_drain, some_open, steps_for, steps_in, steps_with}
pub use Rattle.world.specs.Grace.{action_effect, done_with, grace_row, is_blocked, is_waiting, loaded_word, lock_effect, place_at, plan_now, planned, poll_row, start_row, stepped, sync_place, sync_row}
pub use Rattle.world.specs.Lines.{Outcome, change_of, grace_change, in_section, is_idle, of_memb, of_qsbr, of_reader, of_updater, of_worker, operation_test, outcome_of, reader_line}
pub use Rattle.world.specs.Lines.{reader_on, reader_verb, reads_on, row_of, updater_line, updater_on, updater_verb, updates_on, with_change, worker_line, worker_verb, works_on, world_after}
pub use Rattle.world.specs.Locks.{AreHeldInside, IsInside, IsInsideNow, IsRetiring, SyncsInside, WorksInside, lock_of}
pub use Rattle.world.specs.Queues.{after_note, at_place, barrier_row, finished_in, is_cut, is_kept, may_retire, noted_at, queue_of, queued_in, retire_on}
pub use Rattle.world.specs.Reached.{IsReached}
pub use Rattle.world.specs.Refusals.{IsOfVerb, IsStepError}
pub use Rattle.world.specs.Row.{Row, Test, first_failing, made, refusal_of, refused_if, stalled_if}
pub use Rattle.world.specs.Shown.{CanStart, HasQueues, IsAtQueue, IsInRange, LoadsNoGroup, Meets, shown}
pub use Rattle.world.specs.Steps.{IsMade, IsOfReader, IsPrompt, IsReachedWorld, IsStalled, OfMemb, OfQsbr, WorldView, events_of, fresh_in, fresh_world_at, is_supported_at, log_of, memb_plans, qsbr_plans, world_after_lines}
pub use Rattle.world.specs.Tests.{IsTested, MeetsTests, StepsBy, exact, line_tests, tests_of}
pub use Rattle.world.specs.Workers.{ask_for, first_fresh, first_in, is_none_left, is_resting, run_row, take_row, with_core, work_change, worked, worker_act, worker_on}
pub use Rattle.world.specs.declared.grace.GraceStep.{GraceStep}
pub use Rattle.world_kept.specs.Kept.{Grows, MayMake}
pub use Rattle.world_state.proofs.Lemmas.{Fits, Follows, FreshIn, Has, InQueue, Items, LinksKept, PlaceKept, ReaderKept, ReadersKept, Stands, before_of, chain_marked, chain_of, changed_else, changed_here, changed_length, decide_number, grown_same, has_either, has_left, has_right, has_stands, head_of, items_advanced, items_pushed, items_sealed, length_heads, length_written, life_else, life_grown, life_marked, life_of, life_spliced, life_within, link_of, links_grown, links_marked, links_spliced, monotone, new_object, new_within, no_object, not_new, object_at, place_grown, place_marked, place_spliced, queue_at, reader_at, reader_there, readers_over, readers_set, spliced_chain, spliced_length, stage_grown, stage_marked, stage_of, stands_above, stands_last, stands_left, stands_more, stands_within, within, word_of}
pub use Rattle.world_state.specs.Limits.{is_in, is_within_limits}
pub use Rattle.world_state.specs.Objects.{fresh_object, is_linked, marked_life, spliced_heads, spliced_objects}
pub use Rattle.world_state.specs.Queues.{MayAct, MayActAt, acted, acted_at, changed_at, empty_queue_state, held_at, held_by, item_of, new_worker}
pub use Rattle.world_state.specs.Readers.{announce_row, closed, enter_row, found_row, go_online_row, is_open_in, lock_row, new_reader, offline_row, online_row, opened, quiescent_row, quietly, section_of, stores, telling, touch_row, unlock_row, with_cursor, with_word}
pub use Rattle.world_state.specs.View.{BoardView, Plans, answer_of, changed, fresh_at, idle, plans_of, told}
pub use Rattle.world_state.specs.declared.change.Change.TheVariants.{Bar, Begin, Grace, Hold, Publish, Read, Stay, Work}
pub use Rattle.world_state.specs.declared.change.Change.{Change}
pub use Rattle.world_state.specs.declared.config.Config.{Config}
pub use Rattle.world_state.specs.declared.config.Flavour.TheVariants.{Memb, Qsbr}
pub use Rattle.world_state.specs.declared.config.Flavour.{Flavour}
pub use Rattle.world_state.specs.declared.line.Answer.TheVariants.{Blocked, Events, Quiet, Wait}
pub use Rattle.world_state.specs.declared.line.Answer.{Answer}
pub use Rattle.world_state.specs.declared.line.Line.TheVariants.{Reader, Updater, Worker}
pub use Rattle.world_state.specs.declared.line.Line.{Line}
pub use Rattle.world_state.specs.declared.line.ReaderVerb.{ReaderVerb}
pub use Rattle.world_state.specs.declared.line.UpdaterVerb.{UpdaterVerb}
pub use Rattle.world_state.specs.declared.line.WorkerVerb.TheVariants.{GoOn}
pub use Rattle.world_state.specs.declared.line.WorkerVerb.{WorkerVerb}
pub use Rattle.world_state.specs.declared.object.Life.{Life}
pub use Rattle.world_state.specs.declared.object.Mark.{Mark}
pub use Rattle.world_state.specs.declared.object.ObjectState.{ObjectState}
pub use Rattle.world_state.specs.declared.object.Splice.{Splice}
pub use Rattle.world_state.specs.declared.object.Stage.TheVariants.{Fresh, Linked}
pub use Rattle.world_state.specs.declared.object.Stage.{Stage}
pub use Rattle.world_state.specs.declared.queue.QueueAct.{QueueAct}
pub use Rattle.world_state.specs.declared.queue.QueueState.{QueueState}
pub use Rattle.world_state.specs.declared.reader.ReaderState.{ReaderState}
pub use Rattle.world_state.specs.declared.reader.ReaderStep.{ReaderStep}
pub use Rattle.world_state.specs.declared.updater.Barrier.{Barrier}
pub use Rattle.world_state.specs.declared.updater.BarrierStep.TheVariants.{Check, Note}
pub use Rattle.world_state.specs.declared.updater.BarrierStep.{BarrierStep}
pub use Rattle.world_state.specs.declared.updater.GraceState.{GraceState}
pub use Rattle.world_state.specs.declared.updater.Holder.{Holder}
pub use Rattle.world_state.specs.declared.updater.Publishing.{Publishing}
pub use Rattle.world_state.specs.declared.updater.RetireStep.TheVariants.{Count, Free}
pub use Rattle.world_state.specs.declared.updater.RetireStep.{RetireStep}
pub use Rattle.world_state.specs.declared.updater.Started.{Started}
pub use Rattle.world_state.specs.declared.updater.UpdaterPlace.TheVariants.{Bars, Idle, Publishes, Retires, Syncs}
pub use Rattle.world_state.specs.declared.updater.UpdaterPlace.{UpdaterPlace}
pub use Rattle.world_state.specs.declared.updater.UpdaterState.{UpdaterState}
pub use Rattle.world_state.specs.declared.worker.WorkerState.{WorkerState}

-- What the proofs of this crate use of other crates.
pub use Rattle.atomic_table.specs.Table.{Me}
pub use Rattle.atomic_table.specs.declared.shared.Seat.{Seat}
pub use Rattle.gp_memb.specs.Plan.{bit_of}
pub use Rattle.live_log.proofs.Lemmas.{begins_trans, bounded, first_linked, inside_open, is_open, log_more, note_stays, open_inside, run_of, was_later, was_used}
pub use Rattle.live_log.specs.Fit.{AreFitted, FitIn, HoldsIn, IsSoIn, Readings, ReadsOn, StartsHeld, StaysOpen, later, log_in}
pub use Rattle.live_log.specs.Log.{Begins, Follows, Has, IsBound, IsLiveRun, IsOpenSection, Log, Objects, WasLinked, objects_of, open_of, record_of, section, sections_of, seq_of, state_of}
pub use Rattle.live_log.specs.declared.callback_id.CallbackId.{CallbackId}
pub use Rattle.live_log.specs.declared.event.LiveEvent.{LiveEvent}
pub use Rattle.live_log.specs.declared.event.LiveEvent.TheVariants.{Close}
pub use Rattle.live_log.specs.declared.reading.Reading.{Reading}
pub use Rattle.live_log.specs.declared.reading.Reading.TheVariants.{First, Next, Touch}
pub use Rattle.live_words.proofs.live_rule.Lemmas.{found_left, found_right, has_more, stores_then}
pub use Rattle.live_words.proofs.step_readers.Lemmas.{copied_before, opened_after, phase_copied}
pub use Rattle.live_words.specs.live_rule.Objects.{ref}
pub use Rattle.live_words.specs.live_rule.Places.{group_at, slot_at}
pub use Rattle.live_words.specs.live_rule.Readers.{Fits, IsClosed}
pub use Rattle.live_words.specs.live_rule.Rights.{count_in, word_in}
pub use Rattle.live_words.specs.live_rule.Seen.{Wrote}
pub use Rattle.live_words.specs.live_rule.Steps.{IsLater, IsNow, Keeps, Went, looked_view, stores_in}
pub use Rattle.live_words.specs.live_rule.declared.rights.SlotRight.{SlotRight}
pub use Rattle.live_words.specs.live_rule.declared.rights.SlotRight.TheVariants.{Owns}
pub use Rattle.live_words.specs.live_rule.declared.view.Look.{Look}
pub use Rattle.live_words.specs.live_rule.declared.view.Look.TheVariants.{Loaded, Stored}
pub use Rattle.live_words.specs.live_rule.declared.view.Sizes.{Sizes}
pub use Rattle.live_words.specs.live_rule.declared.view.View.{View}
pub use Rattle.live_words.specs.step_chains.Chains.{IsInSection, IsNext, MayRead}
pub use Rattle.live_words.specs.step_readers.Groups.{GivesSlot}
pub use Rattle.live_words.specs.step_readers.Sections.{Announced, Closed, CopiedBefore, Nested, Opened, announces, opens}
pub use Rattle.rcu_model.proofs.Lemmas.{has_section_in, in_left, in_sections}
pub use Rattle.rcu_model.specs.Machine.{IsOpen}
pub use Rattle.rcu_model.specs.Sets.{first_of}
pub use Rattle.rcu_model.specs.declared.event.ObjectId.{ObjectId}
pub use Rattle.rcu_model.specs.declared.event.SectionId.{SectionId}
pub use Rattle.rcu_model.specs.declared.refusal.Refusal.{Refusal}
pub use Rattle.reader_word.proofs.Lemmas.{entered_of-nests, entered_of-opens, left_of-nests}
pub use Rattle.reader_word.specs.Word.{count_of, entered_of, left_of}
pub use Rattle.reader_word.specs.declared.layout.Layout.TheVariants.{Wide}
pub use Rattle.std.proofs.Common.{Bool, Err, IfErr, IfOk, List, MatchBool, None, Ok, Result, Some, [], ap, append-nil, append_assoc, arith, false, inl, inr, not, refl, rules, subst, suc, sym, true, true≢false, zero, ℕ, ⊎_elim, ◌%◌, ◌++◌, ◌+◌, ◌-◌, ◌/◌, ◌<◌, ◌==◌, ◌∙◌, ◌∷◌, ◌≡◌, ◌≢◌, ◌≤◌, ◌⊎◌}
pub use Rattle.std.proofs.Props.{props}
pub use Rattle.std.proofs.lemmas.List.{length-append}
pub use Rattle.std.proofs.lemmas.Result.{IfErr-weaker, IfOk-weaker}
pub use Rattle.std.proofs.raw_atomic.Walks.{leaves, proved}
pub use base.Logic.{SProp, emp, id⊢}
pub use contract.BorrowLft.{◌⊑◌}
pub use contract.Lifetimes.{Lfts, lft_at}
pub use contract.Monad.{fact, fact_i}
pub use contract.Running.{tables}
pub use denote.Builtin.{unit}
pub use denote.Exit.{left, yes}
pub use denote.Param.{param}
pub use denote.RattleType.{RattleType, owns}
pub use denote.Ref.{mut_Tells, mut_vals}
pub use denote.Signature.{named_lft, types_at}
pub use denote.Signature.Struct.{takes}
pub use denote.Steps.{nothing, only}
pub use denote.Struct.Declared.{Declared, shape}
pub use denote.Struct.Struct.{Struct-Tells, machine}
pub use denote.Triple.Call.{calls_at}
pub use denote.Triple.Clauses.{Lasts, at_exit, lasts}
pub use denote.Triple.Entry.{alive}
pub use denote.Triple.Spec.{triple_of}
pub use denote.Triple.Table.{framed}
pub use denote.Triple.Walked.{Stays, walk_of}
pub use mathlib.Core.HLevel.{is_prop→PathP}
pub use mathlib.Core.Logic.{dite}
pub use mathlib.Core.Option.{Option, none, some}
pub use mir.MapTy.{inst_fn}
pub use mir.Syntax.{Args, Fn, a_type, dcons, dnil, named}
pub use mir.Val.{Val, vunit}
pub use native.Mathlib.Decide.{ℕ_discrete}
pub use native.Mathlib.Numerals.{unary_clauses}
pub use types.ByLocal.{alloc_all, free_all, get, get_in, lands_as, look_at, pass_all, sets, through}
pub use types.Kit.{ !, await, by, drop, feq_i, feq_l, fjoin, fsplit, join, keep, move, pick, qed, raw, split, use0, use1, use2, ‵, ◌$◌, ◌∵◌, ◌⊛◌}
pub use types.Part.{sub, whole}
pub use types.Run.{addr, and_then, enter, fld, no_more, of_opd, returns, stop, unit_lit}

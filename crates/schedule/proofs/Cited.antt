-- What the proofs of this crate use of other crates.
pub use Rattle.rcu_model.specs.EventText.{text_of}
pub use Rattle.rcu_model.specs.Promises.{IsSafeLog}
pub use Rattle.rcu_model.specs.Refusal.{number_of}
pub use Rattle.rcu_model.specs.declared.event.Event.{Event}
pub use Rattle.rcu_model.specs.declared.event.Event.TheVariants.{Ask, Bar, Clear, Close, Cut, First, Next, Open, Push, Queue, Replace, Retire, Run, Touch}
pub use Rattle.rcu_model.specs.declared.event.ObjectId.{ObjectId}
pub use Rattle.rcu_model.specs.declared.refusal.Refusal.{Refusal}
pub use Rattle.reader_word.specs.declared.layout.Layout.{Layout}
pub use Rattle.reader_word.specs.declared.layout.Layout.TheVariants.{Narrow, Wide}
pub use Rattle.schedule_text.proofs.Lemmas.{Reads, answer_spelled, bad_byte, bad_end, bad_within, column_once, err_more, header_reads, last_byte, line_reads, no_header, no_line, not_both, ok_is, ok_more, partial_reads, reads_partial, result_cases, seam, some_read, tells_once, whole}
pub use Rattle.schedule_text.specs.AnswerLines.{IsAnswerLine, IsAnswerText, IsEvent, IsFound, IsLong, TellsLog, line_of, spelled, told_by}
pub use Rattle.schedule_text.specs.Answers.{answer_line, counts_of, end_line, opens, retires, runs}
pub use Rattle.schedule_text.specs.Fault.{IsBad, IsPartial, line_after}
unfoldable pub use Rattle.schedule_text.specs.Grammar.{header_at, line_at}
pub use Rattle.schedule_text.specs.Header.{BeginsWithinLimits, HeaderText, IsHeader, IsHeaderText, field, flavour_text, header, version}
pub use Rattle.schedule_text.specs.Reading.{Reading}
pub use Rattle.schedule_text.specs.Spelling.{IsLine, IsLineText, IsNumber, IsReaderVerb, IsUpdaterVerb, LineText, lines_text, reader_verb, spelling, updater_verb, worker_verb}
pub use Rattle.schedule_text.specs.declared.answer_line.AnswerLine.{AnswerLine}
pub use Rattle.schedule_text.specs.declared.counts.Counts.{Counts}
pub use Rattle.schedule_text.specs.declared.fault.ReplayFault.{ReplayFault}
pub use Rattle.schedule_text.specs.declared.fault.ReplayFault.TheVariants.{BadConfig, BadText, Memory, Read, Write}
pub use Rattle.std.proofs.Common.{Bool, Err, List, None, Ok, Option, Result, Some, [], ap, append_assoc, arith, drop, false, get_or, inl, inr, length, lit<, lit≤, refl, rules, set, subst, suc, sym, take, true, true≢false, zero, ℕ, ◌&&◌, ◌*◌, ◌++◌, ◌+◌, ◌-◌, ◌<◌, ◌^◌, ◌∙◌, ◌∷◌, ◌≡◌, ◌≤◌, ◌⊎◌}
pub use Rattle.std.proofs.lemmas.Fmt.{length-decimal-le}
pub use Rattle.std.proofs.lemmas.Grind.{common_steps}
pub use Rattle.std.proofs.lemmas.List.{append-nil, flat_map_more, length-append, length_push, take-append-drop}
pub use Rattle.std.proofs.lemmas.List.Concat.{concat_is}
pub use Rattle.std.proofs.lemmas.List.Elements.{All-cons, All-from_recursion, All-head, All-nil, All-push, All-tail, recursion_from_All}
pub use Rattle.std.proofs.lemmas.List.Sums.{count_by-le-length}
pub use Rattle.std.proofs.lemmas.Result.{err_from_is_err_and}
pub use Rattle.std.specs.Fmt.{decimal}
pub use Rattle.std.specs.Io.KnownBytes.{Appends, Consumes, IsAtEnd, Keeps}
pub use Rattle.std.specs.List.{flat_map}
pub use Rattle.std.specs.Prelude.{All, IfErr, IsTrue, OnOk, codes, min}
pub use Rattle.world.specs.Numbering.{IsFoundWithin, IsNumberedWithin}
pub use Rattle.world.specs.Steps.{Meets, Outcome, WorldView, answered_events, events_of, fresh_world, is_supported, is_supported_at, log_of, step_of, world_after_lines}
pub use Rattle.world_state.specs.declared.config.Config.{Config}
pub use Rattle.world_state.specs.declared.config.Flavour.{Flavour}
pub use Rattle.world_state.specs.declared.config.Flavour.TheVariants.{Memb, Qsbr}
pub use Rattle.world_state.specs.declared.line.Answer.{Answer}
pub use Rattle.world_state.specs.declared.line.Answer.TheVariants.{Blocked, Events, Idle, Quiet, Wait}
pub use Rattle.world_state.specs.declared.line.Line.{Line}
pub use Rattle.world_state.specs.declared.line.Line.TheVariants.{Reader, Updater, Worker}
pub use Rattle.world_state.specs.declared.line.ReaderVerb.{ReaderVerb}
pub use Rattle.world_state.specs.declared.line.UpdaterVerb.{UpdaterVerb}
pub use Rattle.world_state.specs.declared.line.WorkerVerb.{WorkerVerb}

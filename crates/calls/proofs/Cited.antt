-- What the proofs of this crate use of other crates.
pub use Rattle.call_text.proofs.Lemmas.{call_reads, header_reads, no_call}
pub use Rattle.call_text.specs.Answers.{answer_line}
unfoldable pub use Rattle.call_text.specs.Grammar.{call_at, header_at}
pub use Rattle.call_text.specs.Header.{HeaderText, IsHeaderText}
pub use Rattle.call_text.specs.Spelling.{CallText, IsCall, IsCallText, calls_text, spelling}
pub use Rattle.call_text.specs.declared.answer.Answer.{Answer}
pub use Rattle.call_text.specs.declared.call.Call.{Call}
pub use Rattle.call_text.specs.declared.call.Header.{Header}
pub use Rattle.rcu_hash.proofs.live_read.Lemmas.{held_in}
pub use Rattle.rcu_hash.specs.live_read.Holding.{KeepsHeld}
pub use Rattle.rcu_hash.specs.live_read.declared.held.Held.{Held}
pub use Rattle.rcu_hash.specs.live_read.declared.reader_core.ReaderCore.{ReaderCore}
pub use Rattle.schedule.proofs.Lemmas.{appends_more, appends_none}
pub use Rattle.schedule.specs.Ports.{ReadsNoMore, Writes}
pub use Rattle.schedule_text.proofs.Lemmas.{bad_byte, bad_end, bad_within, some_read}
pub use Rattle.schedule_text.specs.Fault.{IsBad, line_after}
pub use Rattle.schedule_text.specs.declared.fault.ReplayFault.{ReplayFault}
pub use Rattle.schedule_text.specs.declared.fault.ReplayFault.TheVariants.{BadConfig, BadText, Memory, Read, Write}
pub use Rattle.std.proofs.Common.{Err, IfErr, IfOk, IfSome, List, None, Ok, Option, Result, Some, [], ap, append_assoc, arith, inl, inr, length, refl, rules, subst, sym, ℕ, ◌++◌, ◌+◌, ◌-◌, ◌<◌, ◌^◌, ◌∙◌, ◌∷◌, ◌≡◌}
pub use Rattle.std.proofs.lemmas.List.{flat_map_more, length_push}
pub use Rattle.std.proofs.lemmas.List.Elements.{All-nil, All-push}
pub use Rattle.std.proofs.lemmas.Result.{err_from_is_err_and}
pub use Rattle.std.specs.Io.KnownBytes.{Appends}
pub use Rattle.std.specs.List.{All}
pub use Rattle.std.specs.Prelude.{Bool, MatchBool, false, min, true}

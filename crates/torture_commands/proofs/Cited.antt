-- What the proofs of this crate use of other crates.
pub use Rattle.judging.proofs.Lemmas.{right_so_far}
pub use Rattle.judging.specs.Judging.{Ends, HasJudged, IsJudgedSoFar, IsRunSoFar, JudgedAs, JudgesAlong, JudgesOn}
pub use Rattle.judging.specs.declared.judging.Judging.{Judging}
pub use Rattle.rand_pcg.specs.Lcg.{Lcg}
pub use Rattle.rcu_judge.specs.Verdict.{IsFirstBreak}
pub use Rattle.rcu_judge.specs.declared.verdict.Rule.{Rule}
pub use Rattle.rcu_judge.specs.declared.verdict.Verdict.{Verdict}
pub use Rattle.rcu_judge.specs.declared.verdict.Verdict.TheVariants.{No, Yes}
pub use Rattle.rcu_model.proofs.Lemmas.{at_event}
pub use Rattle.rcu_model.specs.Machine.{IsRun}
pub use Rattle.rcu_model.specs.declared.event.Event.{Event}
pub use Rattle.rcu_model.specs.declared.refusal.Refusal.{Refusal}
pub use Rattle.schedule.proofs.Lemmas.{after_append, appends_more, appends_none, consumes_kept, consumes_more, tells_all, tells_more}
pub use Rattle.schedule.specs.Ports.{Tells, Writes}
pub use Rattle.schedule_text.proofs.Lemmas.{more_text}
pub use Rattle.schedule_text.specs.Header.{header}
pub use Rattle.schedule_text.specs.Spelling.{IsLine, spelling}
pub use Rattle.schedule_text.specs.declared.counts.Counts.{Counts}
pub use Rattle.schedule_text.specs.Replaying.{replay_fault}
pub use Rattle.schedule_text.specs.declared.fault.AnswersFault.{AnswersFault}
pub use Rattle.schedule_text.specs.declared.fault.ReplayFault.{ReplayFault}
pub use Rattle.schedule_text.specs.declared.fault.ReplayFault.TheVariants.{BadConfig, BadText, Memory, Read, Write}
pub use Rattle.std.proofs.Common.{Bool, Err, List, Ok, Option, Result, [], ap, append_assoc, arith, false, inl, inr, leb, length, refl, rules, subst, suc, sym, take, true, true≢false, ℕ, ◌++◌, ◌+◌, ◌<◌, ◌∙◌, ◌∷◌, ◌≡◌, ◌≤◌}
pub use Rattle.std.proofs.lemmas.Bool.Decides.{leb_tells}
pub use Rattle.std.proofs.lemmas.List.{append-nil, flat_map_more, length-append, length-take}
pub use Rattle.std.proofs.lemmas.List.Elements.{All-nil, All-push}
pub use Rattle.std.proofs.lemmas.Result.{err_from_is_err_and}
pub use Rattle.std.specs.Io.KnownBytes.{Appends, Consumes, IsAtEnd}
pub use Rattle.std.specs.Prelude.{nat_le, ◌&&◌, ◌↔◌, ◌⊎◌}
pub use Rattle.world.specs.Actors.{objects_given}
pub use Rattle.world.specs.Lines.{change_of, with_change}
pub use Rattle.world.specs.Steps.{OfMemb, OfQsbr, WorldView, fresh_in, fresh_world, log_of, memb_plans, qsbr_plans, step_of, world_after_lines}
pub use Rattle.world_state.proofs.Lemmas.{length_marked, spliced_length}
pub use Rattle.world_state.specs.Limits.{is_in, is_within_limits}
pub use Rattle.world_state.specs.View.{BoardView, changed}
pub use Rattle.world_state.specs.declared.change.Change.{Change}
pub use Rattle.world_state.specs.declared.change.Change.TheVariants.{Bar, Begin, Grace, Hold, Publish, Retire, Stay, Work}
pub use Rattle.world_state.specs.declared.config.Config.{Config}
pub use Rattle.world_state.specs.declared.config.Flavour.{Flavour}
pub use Rattle.world_state.specs.declared.config.Flavour.TheVariants.{Memb, Qsbr}
pub use Rattle.world_state.specs.declared.line.Line.{Line}

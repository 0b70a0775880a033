-- What the proofs of this crate use of other crates.
pub use Rattle.rcu_judge.specs.Judge.{HasTaken}
pub use Rattle.rcu_judge.specs.Verdict.{Judges}
pub use Rattle.rcu_judge.specs.declared.verdict.Verdict.{Verdict}
pub use Rattle.rcu_judge.specs.declared.verdict.Verdict.TheVariants.{No, Yes}
pub use Rattle.rcu_model.specs.Machine.{IsRun}
pub use Rattle.rcu_model.specs.declared.event.Event.{Event}
pub use Rattle.schedule_text.proofs.Lemmas.{more_text}
pub use Rattle.schedule_text.specs.AnswerLines.{BreaksOffAnswers}
pub use Rattle.schedule_text.specs.AnswerPieces.{EndsAnswers, HasRead, StopsAnswers, Takes}
pub use Rattle.schedule_text.specs.declared.fault.AnswersFault.{AnswersFault}
pub use Rattle.schedule_text.specs.declared.fault.AnswersFault.TheVariants.{BadText, Memory}
pub use Rattle.std.proofs.Common.{Err, List, Ok, Result, [], ap, append_assoc, false, length, subst, sym, take, true, ℕ, ◌++◌, ◌∙◌, ◌≡◌}
pub use Rattle.std.proofs.lemmas.List.{append-nil}

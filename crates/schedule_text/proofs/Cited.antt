-- What the proofs of this crate use of other crates.
pub use Rattle.rcu_model.specs.EventText.{found_text, object_text, text_of}
pub use Rattle.rcu_model.specs.declared.event.Event.{Event}
pub use Rattle.rcu_model.specs.declared.event.Event.TheVariants.{Answer, Ask, Bar, Clear, Close, Cut, First, Next, Open, Push, Queue, Replace, Retire, Run, Touch}
pub use Rattle.rcu_model.specs.declared.event.ObjectId.{ObjectId}
pub use Rattle.rcu_model.specs.declared.event.SectionId.{SectionId}
pub use Rattle.rcu_model.specs.declared.refusal.Refusal.{Refusal}
pub use Rattle.reader_word.specs.declared.layout.Layout.{Layout}
pub use Rattle.reader_word.specs.declared.layout.Layout.TheVariants.{Narrow}
pub use Rattle.std.proofs.Common.{Bool, Err, List, None, Ok, Option, Result, Some, [], add-one, ap, append_assoc, arith, cond, drop, eqb, false, get_or, inl, inr, length, lit<, lit≤, ltb, map, min, refl, rules, subst, suc, sym, take, true, zero, ℕ, ◌%◌, ◌*◌, ◌++◌, ◌+◌, ◌-◌, ◌/◌, ◌<◌, ◌^◌, ◌∙◌, ◌∷◌, ◌≡◌, ◌≤◌, ◌⊎◌}
pub use Rattle.std.proofs.lemmas.Bool.{and_parts, cases_lt, eq-eqb, eqb-false, eqb-true, lt-ltb, ltb-false, ltb-true}
pub use Rattle.std.proofs.lemmas.Bool.Decides.{nat_tests}
pub use Rattle.std.proofs.lemmas.Fmt.{decimal_by_steps, decimal_digit, decimal_step}
pub use Rattle.std.proofs.lemmas.Grind.{common_steps}
pub use Rattle.std.proofs.lemmas.List.{append-nil, drop_more, flat_map_more, length-append, take-append-drop, take-take, take_at}
pub use Rattle.std.proofs.lemmas.List.Elements.{All-head, All-nil, All-push, All-tail}
pub use Rattle.std.proofs.lemmas.Result.{err_from_is_err_and}
pub use Rattle.std.specs.Borrow.{Bor}
pub use Rattle.std.specs.Char.{is_ascii_digit}
pub use Rattle.std.specs.Fmt.{decimal}
pub use Rattle.std.specs.List.{flat_map}
pub use Rattle.std.specs.Prelude.{All, IsTrue, codes, count_by, ◌&&◌, ◌==◌}
pub use Rattle.world_state.specs.Limits.{is_within_limits}
pub use Rattle.world_state.specs.View.{told}
pub use Rattle.world_state.specs.declared.config.Config.{Config}
pub use Rattle.world_state.specs.declared.config.Flavour.{Flavour}
pub use Rattle.world_state.specs.declared.config.Flavour.TheVariants.{Memb}
pub use Rattle.world_state.specs.declared.line.Answer.TheVariants.{Blocked, Events, Idle, Quiet, Wait}
pub use Rattle.world_state.specs.declared.line.Line.{Line}
pub use Rattle.world_state.specs.declared.line.Line.TheVariants.{Reader, Updater, Worker}
pub use Rattle.world_state.specs.declared.line.ReaderVerb.{ReaderVerb}
pub use Rattle.world_state.specs.declared.line.UpdaterVerb.{UpdaterVerb}
pub use Rattle.world_state.specs.declared.line.WorkerVerb.{WorkerVerb}

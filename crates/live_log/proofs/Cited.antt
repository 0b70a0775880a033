-- What the proofs of this crate use of other crates.
pub use Rattle.atomic_table.proofs.Lists.{at_last, at_longer}
pub use Rattle.rcu_model.proofs.Lemmas.{Grows, IsPlaced, Kept, Spliced, at_number_other, at_number_same, at_object_other, at_object_same, awaited_since, awaits_none_back, closed_back, cut_splices, decide_place, empty_from, first_has, grows_back, grows_run, has_object_in, has_replaced, has_section_in, has_without_object, has_without_section, in_last, in_left, in_more, in_objects, in_sections, kept_back, kept_log, next_of_has, none_some, object_tells, open_back, open_between_back, open_seen_back, push_splices, replace_splices, replaced_has, run_is, run_parts, run_went_on, some_is, state_goes_on, state_is, successor_placed_back, successor_was_linked, used_placed, was_linked_not_reclaimed, without_object_has, without_section_has}
pub use Rattle.rcu_model.specs.Backwards.{IsRunBack, state_back}
pub use Rattle.rcu_model.specs.Machine.{IsLinkedIn, IsOpen, IsRun, IsSuccessor, State, after, state_after}
pub use Rattle.rcu_model.specs.Sets.{HasObject, In, IsPlace, at_number, at_object, first_of, follows, next_of, replaced, same_object, without_object}
pub use Rattle.rcu_model.specs.declared.event.ObjectId.{ObjectId}
pub use Rattle.rcu_model.specs.declared.event.SectionId.{SectionId}
pub use Rattle.std.proofs.Common.{Bool, List, None, Option, Some, [], ap, append-nil, append_assoc, arith, cond, eq-eqb, eqb, false, inl, inr, length, lt_of_not-le, ne_eqb, not, refl, reverse, subst, suc, sym, true, zero, ℕ, ⊎_elim, ◌%◌, ◌++◌, ◌+◌, ◌<◌, ◌==◌, ◌^◌, ◌∙◌, ◌∷◌, ◌≡◌, ◌≢◌, ◌≤◌, ◌⊎◌}
pub use Rattle.std.proofs.lemmas.Bool.Decides.{eqb_tells}
pub use Rattle.std.proofs.lemmas.List.{reverse-append}
pub use Rattle.std.proofs.raw_atomic.Walks.{leaves, proved_at}
pub use Rattle.std.specs.Option.{option_or}
pub use base.Fml.{Fml}
pub use base.Logic.{SProp, emp, ent, id⊢}
pub use contract.Monad.{fact, fact_i}
pub use contract.Running.{tables}
pub use denote.Builtin.{RefOf}
pub use denote.Exit.{no, yes}
pub use denote.Param.{layouts, param}
pub use denote.Param.Send.{IsSend, IsSync, part_keyless}
pub use denote.RattleType.{RattleType, owns}
pub use denote.Shadow.{makes_shadow}
pub use denote.Signature.{plain, type_at, types_at}
pub use denote.Steps.{nothing}
pub use denote.Triple.Entry.{Res, alive}
pub use denote.Triple.Walked.{Goes-dropped, Stays, ends_at, says, stay_dropped, walk_of}
pub use lib.ListN.{get_elem?}
pub use mathlib.Core.Logic.{dite}
pub use mathlib.Core.Option.{none, some, some-injective, some-ne-none}
pub use mir.MapTy.{inst_fn}
pub use mir.Syntax.{a_type}
pub use mir.Val.{Val, of_list, vcons, vnil, vptr, vstruct, vunit}
pub use native.Mathlib.Decide.{dec_le, ℕ_discrete}
pub use prog.Wp.{WpFn}
pub use types.ByLocal.{alloc_all, free_all, get, look_at, pass_all, sets}
pub use types.Kit.{ !, by, done, feq_i, feq_l, fjoin, fpick, fsplit, join, keep, move, qed, raw, split, suffices, use0, ‵, ◌$◌, ◌∵◌, ◌⊛◌}
pub use types.Part.{agg}
pub use types.Run.{and_then, enter, no_more, of_opd, returns, unit_lit}

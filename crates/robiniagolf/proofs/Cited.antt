-- What the proofs of this crate use of other crates.
pub use Rattle.boxed_handle.proofs.Lemmas.{owned_crosses}
pub use Rattle.boxed_handle.specs.Owned.{heap, heap_token, owned_at}
pub use Rattle.core.proofs.alloc.Calls.{Al, handle_tells}
pub use Rattle.core.proofs.atomic.Steps.{tail}
pub use Rattle.held_values.specs.declared.MembGrace.{MembGrace}
pub use Rattle.held_values.specs.declared.QsbrGrace.{QsbrGrace}
pub use Rattle.judging.specs.Found.{WasFed, is_final}
pub use Rattle.judging.specs.declared.text_judge.Finding.{Finding}
pub use Rattle.judging.specs.declared.text_judge.Finding.TheVariants.{BadText, Memory, No, Yes}
pub use Rattle.judging.specs.declared.text_judge.TextJudge.{TextJudge}
pub use Rattle.loose_box.proofs.Lemmas.{Loose, both, loose_good, loose_in, loose_out}
pub use Rattle.std.proofs.Common.{Bool, List, Option, [], ap, false, is_some, lit<, refl, subst, sym, true, true≢false, ℕ, ◌++◌, ◌<◌, ◌∙◌, ◌∷◌, ◌≡◌}
pub use Rattle.std.proofs.Crossing.{frees}
pub use Rattle.std.proofs.raw_atomic.Walks.{leaves, proved, proved_at}
pub use Rattle.std.specs.Arc.{arc_value}
pub use Rattle.std.specs.Prelude.{None, Some}
pub use Rattle.std_alloc.proofs.SendSync.{lies, quiet}
pub use Rattle.std_alloc.specs.Box.Ownership.{box_owns}
pub use Rattle.std_heap.specs.contracts.GlobalAllocator.TheImpl.{ghosts}
pub use base.Fml.{GName, Lft, Share, flft, fsep, ftrue}
pub use base.Fraction.{full_share}
pub use base.Logic.{SProp, emp, ent, fst∗, id⊢, never, sep}
pub use base.Shift.{Keyless}
pub use contract.Monad.{fact, fact_i}
pub use contract.Running.{tables}
pub use denote.Builtin.{RawPtr}
pub use denote.Exit.{no, yes}
pub use denote.Follow.{Part, follows, lends_Part}
pub use denote.Memory.{cell_at, lone, mem, part_at}
unfoldable pub use denote.Memory.{part_of}
pub use denote.Param.Send.{AllSend, IsSend, owning_send, sendable, struct_send}
pub use denote.RattleType.{RattleType, Valss, owns}
pub use denote.RawPtr.{Ptr, block_ptr, in_a_block, null_ptr, ptr_val}
pub use denote.Ref.{MutRef, mut_Tells, mut_vals}
pub use denote.Signature.{mut_ref_to, plain, types_at}
pub use denote.Steps.{heard, nothing, opens}
pub use denote.Struct.Owning.{fields, shape, to}
pub use denote.Struct.Struct.{exits_of, within}
pub use denote.Triple.Entry.{alive}
pub use denote.Triple.Walked.{Goes-dropped, Goes-spent_ref, Stays, ends_at, says, stay_dropped, walk_of}
pub use mir.Syntax.{dnil, impl, named, tnil}
pub use mir.Val.{Val, of_list, vcons, vnil, vptr, vstruct}
pub use prog.Wp.{Env, WpFn}
pub use seplogic.Ra.Ura.{Ura}
pub use types.ByLocal.{alloc_all, env, free_all, get, get_in, look_at, pass_all, sets, sets_last, through}
pub use types.Kit.{ !, Goal, Item, Seq, Step, at_ret, await, by, done, drop, feq_i, feq_l, fjoin, fpack, fpick, frame, fsplit, fsplit3, group, join, keep, later, move, pick, qed, raw, rewrite, some, split, step, suffices, use0, use1, ‵, ◌$◌, ◌∵◌, ◌⊛◌}
pub use types.Logic.{Logic, sem}
pub use types.Part.{agg, sub, whole}
pub use types.Run.{addr, and_then, blocks, enter, exec, first, fld, lit, no_more, of_opd, returns, stop}

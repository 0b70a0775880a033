-- What the proofs of this crate use of other crates.
pub use Rattle.indexmap.proofs.CallerLemmas.{filter-RetainsPairs, index_map_len-with_value_at, insert_entry-new, updates-with_value_at}
pub use Rattle.indexmap.specs.IndexMap.{IsUnique, insert_entry, set_value_at, values, with_value_at}
pub use Rattle.number_runs.specs.Runs.{Has}
pub use Rattle.rcu_model.proofs.Lemmas.{ChainKept, In, IsPlace, Kept, Linking, Spliced, Tells, Written, after_append, allowed_append, at_number_other, at_number_same, at_object_other, at_object_same, at_section_other, at_section_same, chain_framed, chain_spliced, cut_splices, decide, decide_place, empty_from, filter_has, follows, follows_has, has_filter, has_number_in, has_object_in, has_section_in, has_without_object, has_without_section, in_last, in_left, in_more, in_numbers, in_objects, in_sections, kept_log, none_some, not_reclaimed, object_tells, push_splices, replace_splices, section_tells, some_is, without_object_has, without_section_has}
pub use Rattle.rcu_model.specs.Machine.{AreAllowed, IsAllowed, IsRun, IsSuccessor, State, after, after_all, got, not_run, start, state_after}
pub use Rattle.rcu_model.specs.Sets.{HasNumber, HasObject, HasSection, at_number, at_object, at_section, first_of, has_object, next_of, replaced, same_object, same_section, without_object, without_section}
pub use Rattle.rcu_model.specs.declared.event.Event.{Event}
pub use Rattle.rcu_model.specs.declared.event.Event.TheVariants.{Answer, Ask, Bar, Clear, Close, Cut, First, Next, Open, Push, Queue, Replace, Retire, Run, Touch}
pub use Rattle.rcu_model.specs.declared.event.ObjectId.{ObjectId}
pub use Rattle.rcu_model.specs.declared.event.SectionId.{SectionId}
pub use Rattle.std.proofs.Common.{Bool, Err, IfOk, IsOk, IsSome, IsTrue, List, None, Ok, OnErr, Option, Result, Some, [], ap, append_assoc, arith, cond, false, get_or, get_or-set_other, get_or-set_same, inl, inr, is_some, length, length-append, length-set, map, nat_eq, not, position, refl, rules, set, slice_get, subst, suc, sym, take, true, true≢false, zero, ℕ, ⊎_elim, ◌&&◌, ◌++◌, ◌+◌, ◌<◌, ◌==◌, ◌||◌, ◌↔◌, ◌∙◌, ◌∷◌, ◌≡◌, ◌≢◌, ◌≤◌, ◌⊎◌}
pub use Rattle.std.proofs.Math.Bool.{or-false}
pub use Rattle.std.proofs.Math.Seq.{get_or-append_seam}
pub use Rattle.std.proofs.lemmas.Bool.{and_parts, cases_eq, cases_lt, cond_both, eq-eqb, eqb-true, false_from_ne_true, le-leb, leb-true, ne_eqb, or_right}
pub use Rattle.std.proofs.lemmas.Bool.Decides.{eqb_tells, nat_tests}
pub use Rattle.std.proofs.lemmas.Fn.{filter_same}
pub use Rattle.std.proofs.lemmas.Grind.{common_steps}
pub use Rattle.std.proofs.lemmas.List.{ext_get_or, get_or_append_left, get_or_default, get_or_past, get_or_push, length_push, map-append, set-get_or, take_more}
pub use Rattle.std.proofs.lemmas.List.Elements.{filter_passes}
pub use Rattle.std.proofs.lemmas.List.Folds.{Any-from_list_any, list_any-append, list_any_at}
pub use Rattle.std.proofs.lemmas.List.FromFn.{get_or-map-range_with_len, length-map-range_with_len, map-range_with_len_more}
pub use Rattle.std.proofs.lemmas.List.Quantifiers.{position-Some}
pub use Rattle.std.proofs.lemmas.List.Sorted.{answers_always}
pub use Rattle.std.proofs.lemmas.Map.Entries.{lookup-filter-values, option_filter}
pub use Rattle.std.proofs.lemmas.Map.Views.{IfSome-lookup_from_All, any-filter_same}
pub use Rattle.std.proofs.lemmas.Option.{get_or_from_slice_get, slice_get-get_or, slice_get-map, slice_get_within}
pub use Rattle.std.proofs.lemmas.Result.{on_ok_weaker}
pub use Rattle.std.specs.Cmp.{IsEquivalence, ranks}
pub use Rattle.std.specs.Cmp.Derive.{both_true}
pub use Rattle.std.specs.HashMap.{HashMap, IsEmpty, IsUnchanged, get}
pub use Rattle.std.specs.List.{filter, list_any, range_with_len}
pub use Rattle.std.specs.List.Sorted.{IsBinarySearchResult, IsPartitionPoint, IsSearchInRange}
pub use Rattle.std.specs.Map.{keys_of, lookup, values_of}
pub use Rattle.std.specs.Option.{option_eq, option_map, option_or, unwrap_or}
pub use Rattle.std.specs.Ordering.{nat_cmp, ordering_index}
pub use Rattle.std.specs.Result.{result_ok}
pub use Rattle.std.specs.declared.cmp.Ordering.TheVariants.{Greater, Less}

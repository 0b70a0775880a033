-- What the proofs of this crate use of other crates.
pub use Rattle.atomic_table.specs.Table.{Allows, Me, State, keeps, step}
pub use Rattle.live_rule.proofs.Lemmas.{Apart, look_all, looks, low_loads, low_stores, own_grace, saw_later, slots_kept}
pub use Rattle.live_rule.proofs.live_log.Lemmas.{begins_before_odd, copied_bounded, run_of, still}
pub use Rattle.live_rule.specs.Claims.{ClaimsGrace, KnowsGrace, grace}
pub use Rattle.live_rule.specs.Places.{bit_at, group_at, present_at, seq_at, slot_at}
pub use Rattle.live_rule.specs.Readers.{Fits, Saw, SawAll, Shown}
pub use Rattle.live_rule.specs.Rights.{before_in, looks_in, present_in, seq_in}
pub use Rattle.live_rule.specs.Rule.{KeepsRule}
pub use Rattle.live_rule.specs.Seen.{Wrote, at_log}
pub use Rattle.live_rule.specs.declared.rights.GraceRight.{GraceRight}
pub use Rattle.live_rule.specs.declared.rights.GraceRight.TheVariants.{Nothing, Rests, Works}
pub use Rattle.live_rule.specs.declared.view.Sizes.{Sizes}
pub use Rattle.live_rule.specs.declared.view.View.{View}
pub use Rattle.live_rule.specs.gp_memb.Plan.{Shows, bit_of}
pub use Rattle.live_rule.specs.live_log.Log.{Begins, Has, HaveEnded, IsLiveRun, Log, MayBePresent, MayFollow, before_odd, open_of, present_of, seq_of}
pub use Rattle.live_rule.specs.live_log.declared.event.LiveEvent.{LiveEvent}
pub use Rattle.live_rule.specs.live_log.declared.event.LiveEvent.TheVariants.{Close, Present, SeqEven, SeqOdd}
pub use Rattle.live_rule.specs.reader_word.declared.layout.Layout.TheVariants.{Wide}
pub use Rattle.std.proofs.Common.{Bool, List, [], ap, arith, false, get_or, get_or-set_other, get_or-set_same, inl, inr, lt_of_not-le, refl, set, subst, sym, true, ℕ, ⊎_elim, ◌%◌, ◌++◌, ◌+◌, ◌/◌, ◌<◌, ◌^◌, ◌∙◌, ◌∷◌, ◌≡◌, ◌≤◌, ◌⊎◌}
pub use lib.ListN.{get_elem?}
pub use mathlib.Core.Logic.{dite}
pub use mathlib.Core.Option.{Option, none, some, some-ne-none}
pub use native.Mathlib.Decide.{dec_le}

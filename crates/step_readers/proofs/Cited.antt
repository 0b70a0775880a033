-- What the proofs of this crate use of other crates.
pub use Rattle.atomic_table.specs.Table.{Act, Allows, Me, State, Valid, carried_after, keeps, step, stepped}
pub use Rattle.live_rule.proofs.Lemmas.{SameSlot, SlotStep, gained_slot, given_slot, grace_kept, look_all, looks, low_loads, low_stores, own_slot, quiet_same, slots_kept}
pub use Rattle.live_rule.proofs.live_log.Lemmas.{begins_trans, bounded, copy_later, last_opened, present_begins, seq_low}
pub use Rattle.live_rule.specs.Claims.{ClaimsSlot, KnowsSlot, grace, slot}
pub use Rattle.live_rule.specs.Places.{bit_at, group_at, present_at, seq_at, slot_at}
pub use Rattle.live_rule.specs.Readers.{Fits, IsClosed, ReaderWords}
pub use Rattle.live_rule.specs.Rights.{count_in}
pub use Rattle.live_rule.specs.Rule.{KeepsRule}
pub use Rattle.live_rule.specs.Seen.{Looked, Precedes, at_log}
pub use Rattle.live_rule.specs.Steps.{looked_view}
pub use Rattle.live_rule.specs.declared.rights.SlotRight.{SlotRight}
pub use Rattle.live_rule.specs.declared.rights.SlotRight.TheVariants.{Owns}
pub use Rattle.live_rule.specs.declared.view.Look.{Look}
pub use Rattle.live_rule.specs.declared.view.Look.TheVariants.{Loaded, Stored}
pub use Rattle.live_rule.specs.declared.view.Sizes.{Sizes}
pub use Rattle.live_rule.specs.declared.view.View.{View}
pub use Rattle.live_rule.specs.gp_memb.Plan.{Shows, bit_of}
pub use Rattle.live_rule.specs.live_log.Log.{IsBound, IsLiveRun, Log, MayCopy, before_odd, chain_note, closed_of, objects_of, open_of, present_of, sections_of, seq_of}
pub use Rattle.live_rule.specs.live_log.declared.event.LiveEvent.{LiveEvent}
pub use Rattle.live_rule.specs.live_log.declared.event.LiveEvent.TheVariants.{ChainNote, Close, CloseQueue, Object, Open, Present, SeqEven, SeqOdd}
pub use Rattle.reader_word.proofs.Lemmas.{NestsDeeper, entered_of-opens}
pub use Rattle.reader_word.specs.Word.{count_of, entered_of, is_open_of, number, phase_in}
pub use Rattle.reader_word.specs.declared.layout.Layout.TheVariants.{Wide}
pub use Rattle.std.proofs.Common.{Bool, List, Ok, [], ap, arith, bit_and, bit_or, cond, eq-eqb, false, get_or, get_or-set_other, get_or-set_same, length, ne_eqb, not, refl, rules, set, subst, suc, sym, true, true≢false, w64, zero, ℕ, ⊎_elim, ◌%◌, ◌++◌, ◌+◌, ◌/◌, ◌<◌, ◌==◌, ◌^◌, ◌∙◌, ◌∷◌, ◌≡◌, ◌≢◌, ◌≤◌}
pub use Rattle.std.proofs.lemmas.Bool.Decides.{eqb_tells}
pub use Rattle.std.proofs.lemmas.Nat.Bits.{bit_at-zero, bit_at_clear_other, bit_at_clear_same, bit_at_set_other, bit_at_set_same}
pub use lib.ListN.{get_elem?}
pub use mathlib.Core.Logic.{dite}
pub use mathlib.Core.Option.{Option, none, some}
pub use native.Mathlib.Decide.{ℕ_discrete}

-- What the proofs of this crate use of other crates.
pub use Rattle.atomic_table.proofs.Lists.{at_set}
pub use Rattle.atomic_table.specs.Table.{Enters, Joins, Me, Splits, State, opening}
pub use Rattle.gp_memb.specs.Plan.{bit_of}
pub use Rattle.live_log.proofs.Lemmas.{Moved, Still, begins_trans, has_later, head_no_link, kept_log, link_is}
pub use Rattle.live_log.specs.Log.{Begins, Has, IsLiveRun, Leads, Log, Objects, Spot, before_odd, chain_note, closed_of, head, line_of, link, objects_of, open_of, present_of, record_of, sections_of, seq_of, spot_of, state_of}
pub use Rattle.live_log.specs.declared.callback_id.CallbackId.{CallbackId}
pub use Rattle.live_log.specs.declared.event.LiveEvent.{LiveEvent}
pub use Rattle.live_log.specs.declared.event.LiveEvent.TheVariants.{ChainNote, Close, CloseQueue, Object}
pub use Rattle.live_log.specs.declared.event.ObjectEvent.{ObjectEvent}
pub use Rattle.rcu_model.proofs.Lemmas.{in_left}
pub use Rattle.rcu_model.specs.Sets.{In, first_of}
pub use Rattle.rcu_model.specs.declared.event.ObjectId.{ObjectId}
pub use Rattle.std.proofs.Common.{Bool, List, None, Option, Some, [], ap, append-nil, arith, false, get_or, get_or-set_other, get_or-set_same, inl, inr, length, length-set, refl, replicate, rules, set, subst, suc, sym, true, true≢false, zero, ℕ, ⊎_elim, ◌%◌, ◌*◌, ◌++◌, ◌+◌, ◌/◌, ◌<◌, ◌∙◌, ◌∷◌, ◌≡◌, ◌≢◌, ◌≤◌, ◌⊎◌}
pub use Rattle.std.specs.Option.{option_or}
pub use lib.ListN.{get_elem?, length-replicate}
pub use lib.Seq.{set-get_or}
pub use mathlib.Core.Option.{none, some, some-injective, some-ne-none}

-- What the proofs of this crate use of other crates.
pub use Rattle.domain.proofs.live_read.Lemmas.{held_across, held_in}
pub use Rattle.domain.specs.Naming.{names}
pub use Rattle.domain.specs.live_read.Holding.{MayHold, MayHoldIn, log_of}
pub use Rattle.domain.specs.live_read.Reads.{FindsFirst, FindsNext}
pub use Rattle.domain.specs.live_rule.Rights.{cell_in, object_in, own_in}
pub use Rattle.domain.specs.live_write.Chains.{list_in, push_by}
pub use Rattle.live_log.proofs.Lemmas.{begins_trans, has_later}
pub use Rattle.live_log.specs.Fit.{Readings, later}
pub use Rattle.live_log.specs.Log.{Begins, Has, Log, payload_of, words_in}
pub use Rattle.live_log.specs.declared.event.LiveEvent.{LiveEvent}
pub use Rattle.live_log.specs.declared.event.LiveEvent.TheVariants.{Object}
pub use Rattle.live_log.specs.declared.event.ObjectEvent.TheVariants.{Push}
pub use Rattle.live_log.specs.declared.reading.Mark.TheVariants.{Read}
pub use Rattle.live_log.specs.declared.reading.Reading.TheVariants.{First, Touch}
pub use Rattle.rcu_model.specs.declared.event.ObjectId.{ObjectId}
pub use Rattle.std.proofs.Common.{IfNone, IfSome, List, None, Option, Some, [], ap, arith, inl, length, refl, rules, slice_get, subst, sym, ℕ, ◌∙◌, ◌∷◌, ◌≡◌, ◌≤◌}
pub use Rattle.std.specs.Prelude.{false, true}

-- What the proofs of this crate use of other crates.
pub use Rattle.callback_queue.specs.Queue.{Queue, after_advance, is_due, items_of, pushed, sealed}
pub use Rattle.callback_queue.specs.declared.item.Item.{Item}
pub use Rattle.rcu_model.proofs.Lemmas.{ChainKept, In, IsPlace, Spliced, Written, chain_framed, chain_spliced, decide, decide_place, follows_has}
pub use Rattle.rcu_model.specs.declared.event.ObjectId.{ObjectId}
pub use Rattle.rcu_model.specs.declared.event.SectionId.{SectionId}
pub use Rattle.rcu_model.specs.declared.refusal.Refusal.{Refusal}
pub use Rattle.rcu_model.specs.declared.refusal.Refusal.TheVariants.{Memory}
pub use Rattle.reader_word.specs.declared.layout.Layout.{Layout}
pub use Rattle.reader_word.specs.declared.layout.Layout.TheVariants.{Narrow, Wide}
pub use Rattle.std.proofs.Common.{Bool, Err, IfErr, List, None, Ok, Option, Result, Some, [], ap, arith, cond, false, get_or, get_or-set_other, get_or-set_same, inl, inr, length, length-append, refl, slice_get, slice_set, subst, suc, sym, true, true≢false, zero, ℕ, ⊎_elim, ◌%◌, ◌++◌, ◌+◌, ◌-◌, ◌<◌, ◌==◌, ◌∙◌, ◌∷◌, ◌≡◌, ◌≢◌, ◌≤◌, ◌⊎◌}
pub use Rattle.std.proofs.Math.ListN.{get_or-append, length-set}
pub use Rattle.std.proofs.Math.Seq.{get_or-append_right, get_or-append_seam}
pub use Rattle.std.proofs.lemmas.Bool.Decides.{eqb_tells}
pub use Rattle.std.proofs.lemmas.List.{append-nil, append_assoc, set-get_or}
pub use Rattle.std.proofs.lemmas.Option.{slice_get-get_or, slice_get_past}
pub use Rattle.std.specs.Option.{option_or}

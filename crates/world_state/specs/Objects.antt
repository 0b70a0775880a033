-- The objects and heads of the world, and what a store into a chain makes of them.
use Rattle.std.specs.Prelude.{ℕ, Bool, true, false, List, slice_get, slice_set, Option, Some, None}
use Rattle.std.specs.Option.{option_or}
use Rattle.rcu_model.specs.declared.event.ObjectId.{ObjectId}
use Rattle.world_state.specs.declared.object.Stage.{Stage}
use Rattle.world_state.specs.declared.object.Stage.TheVariants.{Fresh, Linked, Cut}
use Rattle.world_state.specs.declared.object.Life.TheVariants.{Kept}
use Rattle.world_state.specs.declared.object.ObjectState.{ObjectState}
use Rattle.world_state.specs.declared.object.Splice.{Splice}
use Rattle.world_state.specs.declared.object.Mark.{Mark}

abbrev pub fresh_object : ℕ → Option ObjectId → ObjectState
fresh_object c link = record { chain = c; link = link; before = None; stage = Fresh; life = Kept }

abbrev pub is_linked : Stage → Bool
is_linked Fresh = false
is_linked Linked = true
is_linked Cut = false

-- a write of one object, if there is such an object
abbrev pub write_at : List ObjectState → ℕ → (ObjectState → ObjectState) → Option ObjectState → List ObjectState
write_at os k f None = os
write_at os k f (Some x) = slice_set os k (f x)

abbrev pub written : List ObjectState → Option ObjectId → (ObjectState → ObjectState) → List ObjectState
written os None f = os
written os (Some o) f = write_at os o.0 f (slice_get os o.0)

-- the store of the link before, or of the head
abbrev pub stored : List (Option ObjectId) → ℕ → Option ObjectId → Option ObjectId → List (Option ObjectId)
stored heads c None value = slice_set heads c value
stored heads c (Some o) value = heads

abbrev pub spliced_heads : List (Option ObjectId) → Splice → List (Option ObjectId)
spliced_heads heads s = stored heads s.chain s.before (option_or s.enters s.after)

abbrev pub linked_objects : List ObjectState → Splice → List ObjectState
linked_objects os s = written os s.before (λ x. record x { link = option_or s.enters s.after })

-- the bookkeeping beside it: what now stands before the object after, what is cut, what is linked
abbrev pub marked_objects : List ObjectState → Splice → List ObjectState
marked_objects os s = written os s.after (λ x. record x { before = option_or s.enters s.before })

abbrev pub left_objects : List ObjectState → Splice → List ObjectState
left_objects os s = written os s.leaves (λ x. record x { stage = Cut })

abbrev pub entered_objects : List ObjectState → Splice → List ObjectState
entered_objects os s = written os s.enters (λ x. record x { before = s.before; stage = Linked })

abbrev pub spliced_objects : List ObjectState → Splice → List ObjectState
spliced_objects os s = entered_objects (left_objects (marked_objects (linked_objects os s) s) s) s

-- what becomes of an object
abbrev pub marked_life : List ObjectState → Option Mark → List ObjectState
marked_life os None = os
marked_life os (Some m) = written os (Some m.object) (λ x. record x { life = m.life })

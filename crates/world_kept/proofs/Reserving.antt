-- A queue in which a place is reserved.
use Rattle.world_kept.proofs.Cited.{◌≡◌, ℕ, ◌<◌, List, length, slice_get, slice_set, Option, Some, None, refl, sym, ap, ◌∙◌, subst, get_or-set_same, length-set, slice_get-get_or, slice_get_within, QueueState, empty_queue_state, held_by, changed_at, held_at, NeedsPlace}
use Rattle.world_kept.specs.Kept.{Reserves}

set_there : (qs : List QueueState) (n : ℕ) (y : QueueState) → n < length qs → slice_get (slice_set qs n y) n ≡ Some y
set_there qs n y inside =
    slice_get-get_or (slice_set qs n y) n empty_queue_state (subst (λ m. n < m) (sym (length-set qs n y)) inside)
    ∙ ap (λ (q : QueueState). Some q) (get_or-set_same qs n y empty_queue_state inside)

pub reserves : (qs : List QueueState) (n u : ℕ) → NeedsPlace (slice_get qs n) → Reserves qs (held_at qs n u)
reserves qs n u needs = by (slice_get qs n) refl needs
  where
    by : (x : Option QueueState) → slice_get qs n ≡ x → NeedsPlace x → Reserves qs (changed_at (held_by u) qs n x)
    by None e none = absurd none
    by (Some q) e none = record {
      queue = n;
      before = q;
      was = e;
      had_none = none;
      after = held_by u q;
      is = set_there qs n (held_by u q) (slice_get_within qs n q e);
      has = refl;
    }

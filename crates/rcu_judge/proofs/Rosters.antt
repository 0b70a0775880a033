-- Lemmas on those that came, those of them that are still here, and who is awaited.
use Rattle.rcu_judge.proofs.Cited.{◌≡◌, ◌≢◌, ◌⊎◌, ◌↔◌, ℕ, ◌+◌, ◌<◌, Bool, true, false, List, [], ◌∷◌, ◌++◌, length, set, sym, ◌∙◌, arith, true≢false, length-set, get_or-set_same, get_or-set_other, length_push, get_or_append_left, get_or_push, get_or_past, cases_lt, eqb_tells}
use Rattle.rcu_judge.specs.Roster.{IsThere, HaveLeft, Rostered, Awaits}

-- what is there came
there_within : (present : List Bool) (i : ℕ) → IsThere present i → i < length present
there_within present i h = grind (arith, get_or_past, cases_lt)

-- one more comes
there_push : (present : List Bool) (i : ℕ) → i < length present → IsThere (present ++ true ∷ []) i ↔ IsThere present i
there_push present i less = grind (arith, get_or_append_left)

there_last : (present : List Bool) (i : ℕ) → i ≡ length present → IsThere (present ++ true ∷ []) i
there_last present i e = get_or_push present true false i (sym e)

-- one leaves
there_set_other : (present : List Bool) (i j : ℕ) → j ≢ i → IsThere (set present i false) j ↔ IsThere present j
there_set_other present i j apart = grind (arith, get_or-set_other)

gone_set : (present : List Bool) (i : ℕ) → i < length present → ¬ IsThere (set present i false) i
gone_set present i less h = true≢false (sym h ∙ get_or-set_same present i false false less)

module _ {X : Type 0} (Came Here : X → Type 0) (place : X → ℕ) (present : List Bool) where
  -- where all that came before the moment have left, none of those that are awaited is here, and the other way round
  pub none_awaited : (Awaited : X → Type 0) (moment : ℕ) → Rostered Came Here place present → Awaits Here Awaited place (length present) moment → HaveLeft present moment ↔ ((x : X) → ¬ Awaited x)
  none_awaited Awaited moment r a = ((λ left x h. grind arith), (λ none i less there. grind arith))

  -- one more comes, last, or one that is here leaves
  module _ (r : Rostered Came Here place present) (x : X) (Here' : X → Type 0) (present' : List Bool) where
    pub rostered_arrive : (Came' : X → Type 0) (place' : X → ℕ) → ¬ Came x → ((y : X) → Came' y ↔ ((x ≡ y) ⊎ Came y)) → ((y : X) → Here' y ↔ ((x ≡ y) ⊎ Here y)) →
        place' x ≡ length present → ((y : X) → Came y → place' y ≡ place y) → present' ≡ present ++ true ∷ [] → Rostered Came' Here' place' present'
    rostered_arrive Came' place' fresh more here last keeps grown = grind (arith, eqb_tells, length_push, there_within, there_push, there_last)

    pub rostered_leave : Here x → ((y : X) → Here' y ↔ (Here y × (y ≢ x))) → present' ≡ set present (place x) false → Rostered Came Here' place present'
    rostered_leave is_here less gone = record {
      placed = grind (arith, length-set);
      apart = r.apart;
      named = grind (arith, eqb_tells, gone_set, there_set_other);
      marked = grind (arith, eqb_tells, gone_set, there_set_other);
      came = grind arith;
    }

module _ {X : Type 0} (Here : X → Type 0) (place : X → ℕ) (came : ℕ) where
  -- all that are here came before now
  pub awaits_here : ((x : X) → Here x → place x < came) → Awaits Here Here place came came
  awaits_here placed = grind arith

  -- who comes last is not awaited
  pub awaits_arrive : (x : X) (Here' : X → Type 0) (place' : X → ℕ) → ((y : X) → Here' y ↔ ((x ≡ y) ⊎ Here y)) → place' x ≡ came → ((y : X) → Here y → place' y ≡ place y) →
      (Awaited : X → Type 0) (moment came' : ℕ) → came' ≡ came + 1 → Awaits Here Awaited place came moment → Awaits Here' Awaited place' came' moment
  awaits_arrive x Here' place' here last keeps Awaited moment came' more a = grind arith

  -- who leaves is no more awaited
  pub awaits_leave : (x : X) (Here' : X → Type 0) → ((y : X) → Here' y ↔ (Here y × (y ≢ x))) → (Awaited Awaited' : X → Type 0) (moment came' : ℕ) → ((y : X) → Awaited' y ↔ (Awaited y × (y ≢ x))) → came' ≡ came →
      Awaits Here Awaited place came moment → Awaits Here' Awaited' place came' moment
  awaits_leave x Here' less Awaited Awaited' moment came' aw same a = grind arith

  -- the places of those that are here may be kept elsewhere
  pub awaits_at : (place' : X → ℕ) → ((x : X) → Here x → place' x ≡ place x) → (Awaited : X → Type 0) (moment came' : ℕ) → came' ≡ came → Awaits Here Awaited place came moment → Awaits Here Awaited place' came' moment
  awaits_at place' same Awaited moment came' stays a = grind arith

-- How the core of a wait goes on to the check.
use Rattle.live_waits.proofs.Cited.{◌≡◌, ◌⊎◌, ℕ, ◌<◌, ◌≤◌, Bool, true, false, nat_le, if◌then◌else◌, Result, Ok, Err, sym, ap, subst, inl, inr, true≢false, leb_tells, Refusal, Action, Turn, Told, Quiet, Answered, SyncCore, Asks, Waits, Checks, Starts, Frees, Telling, telling, told_of}

module _ {P : Type 0} where
  abbrev core_or : Result (Telling P) Refusal → SyncCore P
  core_or (Ok t) = t.core
  core_or (Err e) = Asks

  abbrev told_or : Result (Telling P) Refusal → Told
  told_or (Ok t) = t.told
  told_or (Err e) = Quiet

  core_is : (t u : Told) (core new : SyncCore P) → telling t core ≡ telling u new → new ≡ core
  core_is t u core new e = sym (ap core_or e)

  told_is : (t u : Told) (core new : SyncCore P) → telling t core ≡ telling u new → u ≡ t
  told_is t u core new e = sym (ap told_or e)

  module _ (action : P → Action) (turn : P → ℕ → Turn) (taken : P → ℕ → P) where
    -- under the lock the number is checked: the ask is answered, or a plan is wanted
    pub checks : (cookie loaded : ℕ) (old new : SyncCore P) (told : Told) → old ≡ Checks cookie → told_of action turn taken old loaded ≡ telling told new
        → ((told ≡ Answered) × (cookie ≤ loaded)) ⊎ ((told ≡ Quiet) × (loaded < cookie))
    checks cookie loaded old new told is says = by (nat_le cookie loaded) (leb_tells cookie loaded) (subst (λ c. told_of action turn taken c loaded ≡ telling told new) is says)
      where
        by : (high : Bool) → ((high ≡ true) × (cookie ≤ loaded)) ⊎ ((high ≡ false) × (loaded < cookie)) → (if high then telling Answered Frees else telling Quiet (Starts cookie)) ≡ telling told new
            → ((told ≡ Answered) × (cookie ≤ loaded)) ⊎ ((told ≡ Quiet) × (loaded < cookie))
        by true (inl y) e = inl (told_is Answered told Frees new e, y.1)
        by true (inr n) e = absurd (true≢false n.0)
        by false (inl y) e = absurd (true≢false (sym y.0))
        by false (inr n) e = inr (told_is Quiet told (Starts cookie) new e, n.1)

    pub locks : (cookie : ℕ) (old new : SyncCore P) (told : Told) → old ≡ Waits cookie → told_of action turn taken old 0 ≡ telling told new → new ≡ Checks cookie
    locks cookie old new told is says = core_is Quiet told (Checks cookie) new (subst (λ c. told_of action turn taken c 0 ≡ telling told new) is says)

-- What the turns of a plan come to.
use Rattle.live_waits.proofs.Cited.{◌≡◌, ℕ, ◌+◌, Bool, true, List, [], ◌∷◌, ◌++◌, sym, refl, ap, ◌∙◌, subst, length-append, Action, Load, LoadGroup, StorePhase, StoreSeq, Finished, Turn, Step, Wait, after_snoc}
use Rattle.live_waits.specs.declared.period.Progress.TheVariants.{InTheWay}
use Rattle.live_waits.specs.Going.{IsLogged}
use Rattle.live_waits.specs.Steps.{Stands, TookTurns, Turned, progress_at}

-- only a word of the slot in the way comes to this
way : (a : Action) (t : Turn) (slot : ℕ) → InTheWay slot ≡ progress_at a t → (a ≡ Load slot) × (t ≡ Wait)
way (Load k) Wait slot e = (cc, refl)
way (Load k) Step slot e = absurd cc
way (LoadGroup g) t slot e = absurd cc
way (StorePhase value) t slot e = absurd cc
way (StoreSeq value) t slot e = absurd cc
way Finished t slot e = absurd cc

module _ {P : Type 0} (action : P → Action) (turn : P → ℕ → Turn) (taken : P → ℕ → P) where
  -- a turn that waits leaves the plan where it was, so what it loads stands in its way
  pub stands : ((plan : P) (word : ℕ) → turn plan word ≡ Wait → taken plan word ≡ plan) → (plan : P) (slot : ℕ) (after : P) (looks : List (ℕ × ℕ)) → Turned action turn taken plan (InTheWay slot) after looks → Stands action turn after slot looks
  stands still plan slot after looks t = let w = way (action plan) (turn plan t.word) slot t.told in
      let m = t.moved (λ e. absurd cc) in
      let same : after ≡ plan = m.0 ∙ still plan t.word w.1 in record {
        loads = ap action same ∙ w.0;
        word = t.word;
        waits = (λ i. turn (same i) t.word) ∙ w.1;
        loaded = subst (λ (a : Action). IsLogged looks a t.word) w.0 m.1;
      }

module _ {P : Type 0} (taken : P → ℕ → P) (going : Bool) (plan : P) where
  pub took_none : (start : P) → (going ≡ true → start ≡ plan) → TookTurns taken going plan 0 start
  took_none start from = record { start = start; from = from; words = []; counted = refl; is = refl }

  pub took_one_more : (count : ℕ) (now after : P) (word : ℕ) → TookTurns taken going plan count now → after ≡ taken now word → TookTurns taken going plan (count + 1) after
  took_one_more count now after word t is = record {
    start = t.start;
    from = t.from;
    words = t.words ++ word ∷ [];
    counted = length-append t.words (word ∷ []) ∙ ap (λ (n : ℕ). n + 1) t.counted;
    is = is ∙ (ap (λ (p : P). taken p word) t.is ∙ sym (after_snoc taken t.start t.words word));
  }
